-- The rules of handlers.
use Rattle.std.proofs.Common.{◌≡◌, ℕ, zero, suc, ◌<◌, ◌≤◌, Bool, true, false, not, ◌&&◌, ◌||◌, nat_le, nat_lt, cond, inl, inr, Option, Some, None, IfSome, Err, List, [], ◌∷◌, ◌++◌, drop, length, refl, sym, ◌∙◌, ap, arith}
use Rattle.std.specs.List.{list_any, Contains}
use Rattle.std.proofs.lemmas.Bool.{cases_Bool}
use Rattle.std.proofs.lemmas.Bool.Decides.{leb_tells}
use Rattle.std.proofs.Math.Bool.{and-false, and-true}
use Rattle.link_types.specs.declared.types.ObjectType.{ObjectType}
use Rattle.type_rules.specs.declared.refusal.VerifyKind.{VerifyKind}
use Rattle.type_rules.specs.declared.refusal.VerifyKind.TheVariants as kinds
use Rattle.type_rules.specs.declared.types.VerificationType.{VerificationType}
use Rattle.type_rules.specs.declared.types.VerificationType.TheVariants.{Object}
use Rattle.type_rules.specs.Assignable.{Hierarchy, is_assignable, are_assignable, are_locals_assignable, is_object_assignable}
use Rattle.type_rules.specs.Environment.{Environment, TypeFrame, TypedHandler}
use Rattle.type_rules.specs.TypeFaults.{◌or_else◌, unless, flow_to, is_covered, thrown_frame, handler_fault, handlers_fault}
use Rattle.type_rules.specs.Wants.{throwable_type}
use Rattle.typing_frames.specs.declared.stores.FrameStores.{FrameStores}
use Rattle.typing_frames.specs.declared.stop.CheckStop.{CheckStop}
use Rattle.typing_frames.specs.declared.stop.CheckStop.TheVariants.{NoMemory, At}
use Rattle.typing_frames.specs.Told.{Tells}
use Rattle.map_frames.specs.declared.mapped.MappedFrame.{MappedFrame}
use Rattle.map_frames.specs.Mapped.{is_word, only_word, shown_locals, AreLocals, Maps, MapsAt}
use Rattle.map_frames.proofs.TakesLaws.{locals_split}
use Rattle.map_frames.proofs.WordLaws.{padded_is}
use Rattle.handler_frames.specs.Methods.{takes_only}

-- ---- one handler

-- what is caught, as the stack of a frame
pub stack_is : (h : Hierarchy) (caught : ObjectType) (stack : List VerificationType) → are_assignable h (Object caught ∷ []) stack ≡ takes_only h (only_word stack) caught
stack_is h caught [] = refl
stack_is h caught (w ∷ []) = and-true (is_assignable h (Object caught) w)
stack_is h caught (w ∷ v ∷ ws) = and-false (is_assignable h (Object caught) w)

module _ (env : Environment) (f : TypeFrame) (h : TypedHandler) where
  pub unset_covered : f.flag_this_uninit ≡ true → handler_fault env f h ≡ Some kinds.InitCovered
  unset_covered e =
      ap (λ b. unless (not b) kinds.InitCovered or_else (flow_to env (thrown_frame f h) (env.map_at h.entry) or_else unless (is_object_assignable env.hierarchy h.caught throwable_type) kinds.TypeMismatch)) e

  -- of an object that is initialized
  set : f.flag_this_uninit ≡ false
      → handler_fault env f h ≡ (flow_to env (thrown_frame f h) (env.map_at h.entry) or_else unless (is_object_assignable env.hierarchy h.caught throwable_type) kinds.TypeMismatch)
  set e =
      ap (λ b. unless (not b) kinds.InitCovered or_else (flow_to env (thrown_frame f h) (env.map_at h.entry) or_else unless (is_object_assignable env.hierarchy h.caught throwable_type) kinds.TypeMismatch)) e

  pub missing : f.flag_this_uninit ≡ false → env.map_at h.entry ≡ None → handler_fault env f h ≡ Some kinds.FrameMissing
  missing e none = set e ∙ ap (λ o. flow_to env (thrown_frame f h) o or_else unless (is_object_assignable env.hierarchy h.caught throwable_type) kinds.TypeMismatch) none

  pub there : (g : TypeFrame) → f.flag_this_uninit ≡ false → env.map_at h.entry ≡ Some g
      → handler_fault env f h
      ≡ (unless (takes_only env.hierarchy (only_word g.stack) h.caught && are_locals_assignable env.hierarchy f.locals g.locals) kinds.FrameMismatch
      or_else unless (is_object_assignable env.hierarchy h.caught throwable_type) kinds.TypeMismatch)
  there g e some =
      let locals = are_locals_assignable env.hierarchy f.locals g.locals in
      let thrown = unless (is_object_assignable env.hierarchy h.caught throwable_type) kinds.TypeMismatch in
      set e ∙ ap (λ o. flow_to env (thrown_frame f h) o or_else thrown) some
      ∙ ap (λ b. unless (b && (locals && (not f.flag_this_uninit || g.flag_this_uninit))) kinds.FrameMismatch or_else thrown) (stack_is env.hierarchy h.caught g.stack)
      ∙ ap (λ b. unless (takes_only env.hierarchy (only_word g.stack) h.caught && (locals && (not b || g.flag_this_uninit))) kinds.FrameMismatch or_else thrown) e
      ∙ ap (λ b. unless (takes_only env.hierarchy (only_word g.stack) h.caught && b) kinds.FrameMismatch or_else thrown) (and-true locals)

  pub mismatched : (g : TypeFrame) → f.flag_this_uninit ≡ false → env.map_at h.entry ≡ Some g
      → (takes_only env.hierarchy (only_word g.stack) h.caught && are_locals_assignable env.hierarchy f.locals g.locals) ≡ false → handler_fault env f h ≡ Some kinds.FrameMismatch
  mismatched g e some apart =
      there g e some ∙ ap (λ b. unless b kinds.FrameMismatch or_else unless (is_object_assignable env.hierarchy h.caught throwable_type) kinds.TypeMismatch) apart

  pub thrown_told : (g : TypeFrame) → f.flag_this_uninit ≡ false → env.map_at h.entry ≡ Some g
      → takes_only env.hierarchy (only_word g.stack) h.caught ≡ true → are_locals_assignable env.hierarchy f.locals g.locals ≡ true
      → handler_fault env f h ≡ unless (is_object_assignable env.hierarchy h.caught throwable_type) kinds.TypeMismatch
  thrown_told g e some caught locals =
      there g e some
      ∙ ap (λ b. unless (b && are_locals_assignable env.hierarchy f.locals g.locals) kinds.FrameMismatch or_else unless (is_object_assignable env.hierarchy h.caught throwable_type) kinds.TypeMismatch) caught
      ∙ ap (λ b. unless b kinds.FrameMismatch or_else unless (is_object_assignable env.hierarchy h.caught throwable_type) kinds.TypeMismatch) locals

pub and_apart : (a b : Bool) → b ≡ false → (a && b) ≡ false
and_apart a b e = ap (λ x. a && x) e ∙ and-false a

-- ---- map frames

pub maps_some : (stores : FrameStores) (m : MappedFrame) (o : Option TypeFrame) → MapsAt stores (Some m) o → (g : TypeFrame) × (o ≡ Some g) × Maps stores m g
maps_some stores m None maps = absurd maps
maps_some stores m (Some g) maps = (g, refl, maps)

pub maps_none : (stores : FrameStores) (o : Option TypeFrame) → MapsAt stores None o → o ≡ None
maps_none stores None maps = refl
maps_none stores (Some g) maps = absurd maps

pub maps_listed : (stores : FrameStores) (o : Option MappedFrame) (g : Option TypeFrame) → MapsAt stores o g → IfSome o (λ (m : MappedFrame). AreLocals stores m.locals)
maps_listed stores None g maps = tt
maps_listed stores (Some m) None maps = absurd maps
maps_listed stores (Some m) (Some g) maps = maps.locals

-- a map frame's own locals, as those that the method has and those that pass
pub locals_told : (h : Hierarchy) (stores : FrameStores) (m : MappedFrame) (g : TypeFrame) (locals : List VerificationType) → Maps stores m g → length locals ≡ stores.locals.most
    → are_locals_assignable h locals g.locals ≡ (are_locals_assignable h locals (shown_locals stores m.locals) && not m.passes)
locals_told h stores m g locals maps size =
    locals_split h stores.locals.most locals g.locals size
    ∙ ap (λ l. are_locals_assignable h locals l && not (list_any is_word (drop stores.locals.most g.locals))) (sym (maps.shown_locals ∙ padded_is stores.locals.most g.locals))
    ∙ ap (λ b. are_locals_assignable h locals (shown_locals stores m.locals) && not b) (sym maps.passes)

pub passing_locals : (h : Hierarchy) (stores : FrameStores) (m : MappedFrame) (g : TypeFrame) (locals : List VerificationType) → Maps stores m g → length locals ≡ stores.locals.most → m.passes ≡ true
    → false ≡ are_locals_assignable h locals g.locals
passing_locals h stores m g locals maps size e =
    let inside = are_locals_assignable h locals (shown_locals stores m.locals) in
    sym (locals_told h stores m g locals maps size ∙ ap (λ b. inside && not b) e ∙ and-false inside)

pub inside_locals : (h : Hierarchy) (stores : FrameStores) (m : MappedFrame) (g : TypeFrame) (locals : List VerificationType) → Maps stores m g → length locals ≡ stores.locals.most → m.passes ≡ false
    → are_locals_assignable h locals (shown_locals stores m.locals) ≡ are_locals_assignable h locals g.locals
inside_locals h stores m g locals maps size e =
    let inside = are_locals_assignable h locals (shown_locals stores m.locals) in
    sym (locals_told h stores m g locals maps size ∙ ap (λ b. inside && not b) e ∙ and-true inside)

-- ---- all handlers

or_assoc : (a b c : Option VerifyKind) → (a or_else (b or_else c)) ≡ ((a or_else b) or_else c)
or_assoc None b c = refl
or_assoc (Some k) b c = refl

module _ (env : Environment) (k : ℕ) (f : TypeFrame) where
  pub handlers_append : (xs ys : List TypedHandler) → handlers_fault env k f (xs ++ ys) ≡ (handlers_fault env k f xs or_else handlers_fault env k f ys)
  handlers_append [] ys = refl
  handlers_append (h ∷ xs) ys =
      let one = cond (is_covered h k) (handler_fault env f h) None in
      ap (λ o. one or_else o) (handlers_append xs ys) ∙ or_assoc one (handlers_fault env k f xs) (handlers_fault env k f ys)

  -- where no handler that covers the instruction breaks a rule
  pub none_broken : (hs : List TypedHandler) → ((h : TypedHandler) → Contains hs h → is_covered h k ≡ true → handler_fault env f h ≡ None) → handlers_fault env k f hs ≡ None
  none_broken [] all = refl
  none_broken (h ∷ hs) all =
      let rest : handlers_fault env k f hs ≡ None = none_broken hs (λ x c covered. all x (suc c.0, omega (arith, c.1), c.2) covered) in
      let first : cond (is_covered h k) (handler_fault env f h) None ≡ None = elim (cases_Bool (is_covered h k)) [
        | inl hit ↦ ap (λ b. cond b (handler_fault env f h) None) hit ∙ all h (zero, omega arith, refl) hit
        | inr miss ↦ ap (λ b. cond b (handler_fault env f h) None) miss
      ] in
      ap (λ o. o or_else handlers_fault env k f hs) first ∙ rest

  or_none : (a : Option VerifyKind) → (a or_else None) ≡ a
  or_none None = refl
  or_none (Some kind) = refl

  pub one_covered : (h : TypedHandler) → h.first ≤ k → k < h.end → handlers_fault env k f (h ∷ []) ≡ handler_fault env f h
  one_covered h from to =
      or_none (cond (is_covered h k) (handler_fault env f h) None)
      ∙ ap (λ b. cond (b && nat_lt k h.end) (handler_fault env f h) None) (le_is h.first k from)
      ∙ ap (λ b. cond b (handler_fault env f h) None) (le_is (suc k) h.end to)
    where
      le_is : (m n : ℕ) → m ≤ n → nat_le m n ≡ true
      le_is m n below = elim (leb_tells m n) [
        | inl here ↦ here.0
        | inr other ↦ absurd (omega (arith, other.1, below))
      ]

-- what an error says of the first of two faults it says of both
pub told_first : (X Y : Type 0) (e : CheckStop) (a rest : Option VerifyKind) → Tells {X = X} (Err e) a → Tells {X = Y} (Err e) (a or_else rest)
told_first X Y NoMemory a rest told = tt
told_first X Y (At kind) a rest told = ap (λ x. x or_else rest) told
