-- The ends of frames, and thrown objects.
use Rattle.std.proofs.Common.{◌≡◌, ◌==◌, ◌&&◌, ℕ, zero, suc, Bool, true, false, inl, inr, Option, None, Some, List, [], ◌∷◌, map, slice_get, refl, sym, ap, subst, ◌∙◌, arith, if◌then◌else◌}
use Rattle.std.specs.Prelude.{find}
use Rattle.std.specs.Option.{option_map_or}
use Rattle.std.specs.List.{AllByRecursion}
use Rattle.std.proofs.lemmas.Bool.{and_parts, eq-eqb, ne_eqb}
use Rattle.std.proofs.lemmas.Option.{same_Some, none-some}
use Rattle.code_decode.specs.declared.code.ClassUnit.{ClassUnit}
use Rattle.code_decode.specs.declared.code.Code.{Code as MethodCode}
use Rattle.code_decode.specs.declared.code.Handler.{Handler}
use Rattle.link_types.specs.declared.types.ObjectType.TheVariants.{Class}
use Rattle.link_types.specs.declared.types.ValueType.{ValueType}
use Rattle.link_rules.specs.Operands.{operand}
use Rattle.type_rules.specs.Environments.{typed_handler, caught_type}
use Rattle.type_rules.specs.TypeFaults.{is_covered, thrown_frame}
use Rattle.type_laws.specs.Frames.{IsEntered}
use Rattle.type_laws.proofs.Flows.{entered}
use Rattle.type_rules.proofs.Falling.{step_there}
use Rattle.java_rows.specs.Plan.{Frame, FrameEnd, returned, threw, broke, silently, ready, ends, exits}
use Rattle.java_rows.specs.Program.{class_at, handlers_of, is_subclass}
use Rattle.java_rows.specs.Throws.{leaves, catches, covers, handler_for, caught_by, looks_for}
use Rattle.row_soundness.specs.Senses.{Sense}
use Rattle.row_soundness.specs.Fits.{ValueFits, ResultFits, IsMade, EndFits, Returns, StandsIn, returns_of, PlanFits, anything, env_of}
use Rattle.row_soundness.specs.Knowledge.{Knows}
use Rattle.row_soundness.specs.Accepted.{Accepted}
use Rattle.row_soundness.proofs.Basics.{reference_more}
use Rattle.row_soundness.proofs.Flow.{enters_at, locals_long}
use Rattle.row_soundness.proofs.Plans.{exits_fit}
use Rattle.link_types.specs.declared.types.ValueType.TheVariants as values

module _ {P : Type 0} (know : Sense P) (us : List ClassUnit) (knows : Knows know us) (accepted : Accepted us) (me : ℕ) where
  -- ---- what the end of a frame returns stays so

  pub value_more : (h h' : P) (t : ValueType) (words : List ℕ) → know.extends h h' → ValueFits know h t words → ValueFits know h' t words
  value_more h h' values.Long (high ∷ low ∷ []) more fits = fits
  value_more h h' (values.Object t) (v ∷ []) more fits = reference_more know us knows h h' v t more fits
  value_more h h' values.Boolean (v ∷ []) more fits = fits
  value_more h h' values.Byte (v ∷ []) more fits = fits
  value_more h h' values.Char (v ∷ []) more fits = fits
  value_more h h' values.Short (v ∷ []) more fits = fits
  value_more h h' values.Int (v ∷ []) more fits = fits
  value_more h h' t words more fits = absurd fits

  result_more : (h h' : P) (t : Option ValueType) (words : List ℕ) → know.extends h h' → ResultFits know h t words → ResultFits know h' t words
  result_more h h' None [] more fits = tt
  result_more h h' None (v ∷ vs) more fits = fits
  result_more h h' (Some t) words more fits = value_more h h' t words more fits

  made_more : (h h' : P) (made : Option (ℕ × ℕ)) → know.extends h h' → IsMade know h made → IsMade know h' made
  made_more h h' None more is = tt
  made_more h h' (Some made) more is = knows.of_more h h' made.0 (Class made.1) more is

  pub end_more : (h h' : P) (res : Option Returns) (end : FrameEnd) → know.extends h h' → EndFits know h res end → EndFits know h' res end
  end_more h h' None end more fits = fits
  end_more h h' (Some r) (returned words) more fits = (result_more h h' r.value words more fits.0, made_more h h' r.made more fits.1)
  end_more h h' (Some r) (threw q c) more fits = knows.thrown_more h h' q c more fits
  end_more h h' (Some r) broke more fits = fits

  -- ---- the frame leaves its monitor, and one silent step ends it

  pub leaves_fits : (h : P) (f : Frame) (s : StandsIn know us h f) (end : FrameEnd) → EndFits know h (Some (returns_of know us h f s)) end
      → PlanFits know us (Some (returns_of know us h f s)) anything (leaves f end) h
  leaves_fits h f s end fits = by_monitor (f.monitor == 0) refl
    where
      by_monitor : (b : Bool) → (f.monitor == 0) ≡ b → PlanFits know us (Some (returns_of know us h f s)) anything (if b then silently (ready (ends end)) else exits f.monitor (silently (ready (ends end))) (silently (ready (ends broke)))) h
      by_monitor true e = (tt, (tt, fits))
      by_monitor false e = elim s.monitor [
        | inl none ↦ let bad : (f.monitor == 0) ≡ true = eq-eqb f.monitor 0 none in let worse : true ≡ false = sym bad ∙ e in cc
        | inr there ↦ exits_fit know us knows (Some (returns_of know us h f s)) h f.monitor (silently (ready (ends end))) (silently (ready (ends broke))) there
            (λ h' more. (tt, (tt, end_more h h' (Some (returns_of know us h f s)) end more fits))) (λ h' more. (tt, (tt, tt)))
      ]

  -- ---- a thrown object

  -- a handler that is found is one of the list, and passes the test
  found_there : (test : Handler → Bool) (hs : List Handler) (x : Handler) → find test hs ≡ Some x → (n : ℕ) × (slice_get hs n ≡ Some x) × (test x ≡ true)
  found_there test [] x e = absurd (none-some x e)
  found_there test (y ∷ hs) x e = by_test (test y) refl (λ d. found_there test hs x d) e
    where
      by_test : (b : Bool) → test y ≡ b → (find test hs ≡ Some x → (n : ℕ) × (slice_get hs n ≡ Some x) × (test x ≡ true)) → Rattle.std.proofs.Common.cond b (Some y) (find test hs) ≡ Some x → (n : ℕ) × (slice_get (y ∷ hs) n ≡ Some x) × (test x ≡ true)
      by_test true same rest e = let is : y ≡ x = same_Some y x e in (0, ap (λ z. Some z) is, subst (λ z. test z ≡ true) is same)
      by_test false same rest e = let (n, at, passes) = rest e in (suc n, at, passes)

  all_at : {A B : Type 0} (Q : B → Type 0) (g : A → B) (xs : List A) (n : ℕ) (x : A) → AllByRecursion Q (map g xs) → slice_get xs n ≡ Some x → Q (g x)
  all_at Q g [] n x all e = absurd (none-some x e)
  all_at Q g (y ∷ xs) zero x all e = subst (λ z. Q (g z)) (same_Some y x e) all.0
  all_at Q g (y ∷ xs) (suc n) x all e = all_at Q g xs n x all.1 e

  map_at : {A B : Type 0} (g : A → B) (xs : List A) (n : ℕ) (x : A) → slice_get xs n ≡ Some x → slice_get (map g xs) n ≡ Some (g x)
  map_at g [] n x e = absurd (none-some x e)
  map_at g (y ∷ xs) zero x e = ap (λ z. Some (g z)) (same_Some y x e)
  map_at g (y ∷ xs) (suc n) x e = map_at g xs n x e

  -- what a handler catches is of the type that it names
  caught_fits : (h : P) (this r c : ℕ) (x : Handler) → know.is_thrown h r c → catches us this c x ≡ true → know.is_of h r (caught_type (operand us this) x.kind)
  caught_fits h this r c x thrown e = by_kind x.kind e
    where
      by_class : (kind : ℕ) (o : Option ℕ) → class_at us this (suc kind) ≡ o → option_map_or (is_subclass us c) o false ≡ true → know.is_of h r (caught_type (operand us this) (suc kind))
      by_class kind (Some d) same e = subst (λ t. know.is_of h r t) (sym (accepted.classes this (suc kind) d same)) (knows.caught h r c d thrown e)
      by_class kind None same e = cc

      by_kind : (kind : ℕ) → (if kind == 0 then true else option_map_or (is_subclass us c) (class_at us this kind) false) ≡ true → know.is_of h r (caught_type (operand us this) kind)
      by_kind zero e = knows.caught_all h r c thrown
      by_kind (suc kind) e = by_class kind (class_at us this (suc kind)) refl (subst (λ b. (if b then true else option_map_or (is_subclass us c) (class_at us this (suc kind)) false) ≡ true) (ne_eqb (suc kind) 0 (λ x. omega (arith, x))) e)

  handlers_are : (f : Frame) (code : MethodCode) → Rattle.link_rules.specs.Methods.method_code us f.method ≡ Some code → handlers_of us f.method ≡ code.handlers
  handlers_are f code e = ap (λ o. option_map_or (λ (c : MethodCode). c.handlers) o []) e

  pub looks_fit : (h : P) (f : Frame) (s : StandsIn know us h f) (r c : ℕ) → know.is_thrown h r c → PlanFits know us (Some (returns_of know us h f s)) anything (looks_for us f r c) h
  looks_fit h f s r c thrown = by_handler (handler_for us f c) refl
    where
      by_handler : (o : Option Handler) → handler_for us f c ≡ o → PlanFits know us (Some (returns_of know us h f s)) anything (caught_by f r c o) h
      by_handler None e = leaves_fits h f s (threw r c) thrown
      by_handler (Some x) e =
          let env = env_of us f.method s.of in
          let (n, at, passes) = found_there (λ y. covers f.step y && catches us f.method.class c y) s.of.code.handlers x (subst (λ hs. find (λ y. covers f.step y && catches us f.method.class c y) hs ≡ Some x) (handlers_are f s.of.code s.of.coded) e) in
          let parts = and_parts (covers f.step x) _ passes in
          let i = step_there s.of.code.steps f.step s.within in
          let is : IsEntered env s.frames (s.frames f.step) (typed_handler (operand us f.method.class) x) =
          all_at (λ y. is_covered y f.step ≡ true → IsEntered env s.frames (s.frames f.step) y) (typed_handler (operand us f.method.class)) s.of.code.handlers n x (entered env s.frames s.typed f.step i.0 i.1) at parts.0 in
          let within = ((accepted.inside f.method s.of).handlers n (typed_handler (operand us f.method.class) x) (map_at (typed_handler (operand us f.method.class)) s.of.code.handlers n x at)).entry in (
            tt,
            (
              tt,
              enters_at know us knows accepted h f s s.unset.made x.entry f.locals (r ∷ []) (thrown_frame (s.frames f.step) (typed_handler (operand us f.method.class) x)) within (locals_long know us knows accepted h f s f.step s.within) is.entry
                  (record { locals_fit = s.locals; stack_fits = (inr (caught_fits h f.method.class r c x thrown parts.1), tt); set = s.set }),
            ),
          )
