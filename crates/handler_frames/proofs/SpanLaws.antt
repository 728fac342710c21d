-- Spans of handlers.
use Rattle.std.proofs.Common.{◌≡◌, ℕ, Bool, zero, ◌≤◌, inl, inr, true, false, Some, List, [], ◌∷◌, ◌++◌, refl, sym, ◌∙◌, ap, subst, arith}
use Rattle.std.specs.List.{Contains}
use Rattle.std.specs.List.Sorted.{IsPermutation}
use Rattle.std.proofs.lemmas.List.Elements.{Contains-push, Contains-push_cases, Contains-append_left}
use Rattle.std.proofs.lemmas.List.Sorted.{Contains-permutation}
use Rattle.link_types.specs.declared.types.ObjectType.{ObjectType}
use Rattle.type_rules.specs.Assignable.{are_locals_assignable, is_object_assignable}
use Rattle.type_rules.specs.Environment.{Environment, TypedHandler}
use Rattle.typing_frames.specs.declared.stores.FrameStores.{FrameStores}
use Rattle.typing_frames.specs.Frames.{StoresFollow}
use Rattle.map_frames.specs.Mapped.{shown_locals, AreLocals}
use Rattle.map_frames.proofs.MadeLaws.{locals_follow, same_locals}
use Rattle.handler_frames.specs.declared.span.Span.{Span}
use Rattle.type_rules.specs.declared.refusal.VerifyKind.TheVariants as kinds
use Rattle.type_rules.specs.TypeFaults.{unless}
use Rattle.type_rules.specs.Wants.{throwable_type}
use Rattle.map_frames.specs.declared.mapped.MappedFrame.{MappedFrame}
use Rattle.map_frames.specs.Mapped.{MapsAt}
use Rattle.handler_frames.specs.Methods.{takes_only}
use Rattle.handler_frames.specs.Spans.{AreWithin, FindsSpans, IsWithin, StandsFor, TakesLocals}
use Rattle.handler_frames.proofs.RuleLaws.{maps_some, inside_locals, thrown_told}

-- ---- spans in wider ones

pub in_itself : (s : Span) → IsWithin s s
in_itself s = record { first = omega arith; end = omega arith; locals = refl }

pub in_wider : (s t u : Span) → IsWithin s t → IsWithin t u → IsWithin s u
in_wider s t u a b = record { first = omega (arith, a.first, b.first); end = omega (arith, a.end, b.end); locals = b.locals ∙ a.locals }

pub all_within : (xs ys : List Span) → ((s : Span) → Contains xs s → Contains ys s) → AreWithin xs ys
all_within xs ys all s c = (s, all s c, in_itself s)

pub within_on : (xs ys zs : List Span) → AreWithin xs ys → AreWithin ys zs → AreWithin xs zs
within_on xs ys zs first later s c =
    let a = first s c in
    let b = later a.0 a.1 in
    (b.0, b.1, in_wider s a.0 b.0 a.2 b.2)

pub within_order : (xs ys : List Span) → IsPermutation xs ys → AreWithin xs ys
within_order xs ys moved = all_within xs ys (λ s c. Contains-permutation xs ys s moved c)

-- ---- what spans stand for

pub stands_within : (env : Environment) (stores : FrameStores) (h : TypedHandler) (s t : Span) → IsWithin s t → StandsFor env stores h s → StandsFor env stores h t
stands_within env stores h s t inside stands = record {
  first = omega (arith, inside.first, stands.first);
  end = omega (arith, inside.end, stands.end);
  locals = subst (AreLocals stores) (sym inside.locals) stands.locals;
  takes = subst (λ l. TakesLocals env h stores.locals.most (shown_locals stores l)) (sym inside.locals) stands.takes;
}

pub stands_follow : (old new : FrameStores) (env : Environment) (h : TypedHandler) (s : Span) → StoresFollow old new → StandsFor env old h s → StandsFor env new h s
stands_follow old new env h s follows stands = record {
  first = stands.first;
  end = stands.end;
  locals = locals_follow old new s.locals follows stands.locals;
  takes =
      subst (λ m. TakesLocals env h m (shown_locals new s.locals)) (sym follows.locals.most)
      (subst (λ l. TakesLocals env h old.locals.most l) (sym (same_locals old new s.locals follows stands.locals)) stands.takes);
}

-- ---- spans that are found

pub handler_stands : (env : Environment) (stores : FrameStores) (h : TypedHandler) (m : MappedFrame) (s : Span) (caught : ObjectType) (takes thrown : Bool) → MapsAt stores (Some m) (env.map_at h.entry)
    → m.passes ≡ false → caught ≡ h.caught → takes ≡ takes_only env.hierarchy m.only caught → takes ≡ true → thrown ≡ is_object_assignable env.hierarchy caught throwable_type → thrown ≡ true
    → s.first ≡ h.first → s.end ≡ h.end → s.locals ≡ m.locals → StandsFor env stores h s
handler_stands env stores h m s caught takes thrown at passes same takes_is take thrown_is throws first end locals =
    let found = maps_some stores m (env.map_at h.entry) at in
    let g = found.0 in
    let maps = found.2 in
    let classes = env.hierarchy in
    record {
      first = omega (arith, first);
      end = omega (arith, end);
      locals = subst (AreLocals stores) (sym locals) maps.locals;
      takes = λ f size e go.
          thrown_told env f h g e found.1
          (ap (λ o. takes_only classes o h.caught) (sym maps.only) ∙ ap (takes_only classes m.only) (sym same) ∙ sym takes_is ∙ take)
          (sym (inside_locals classes stores m g f.locals maps size passes) ∙ ap (λ l. are_locals_assignable classes f.locals (shown_locals stores l)) (sym locals) ∙ go)
          ∙ ap (λ b. unless b kinds.TypeMismatch) (ap (λ t. is_object_assignable classes t throwable_type) (sym same) ∙ sym thrown_is ∙ throws);
    }

pub finds_none : (env : Environment) (stores : FrameStores) (limit : ℕ) → FindsSpans env stores [] limit []
finds_none env stores limit h c = absurd (omega (arith, c.1))

pub finds_span : (env : Environment) (stores : FrameStores) (handlers : List TypedHandler) (limit : ℕ) (spans : List Span) (h : TypedHandler) (s : Span)
    → FindsSpans env stores handlers limit spans → StandsFor env stores h s → FindsSpans env stores (handlers ++ h ∷ []) limit (spans ++ s ∷ [])
finds_span env stores handlers limit spans h s finds stands x c = elim (Contains-push_cases handlers h x c) [
  | inl before ↦ elim (finds x before) [
    | inl past ↦ inl past
    | inr found ↦ inr (found.0, Contains-append_left spans (s ∷ []) found.0 found.1, found.2)
  ]
  | inr here ↦ inr (s, Contains-push spans s, subst (λ y. StandsFor env stores y s) here stands)
]

pub finds_limit : (env : Environment) (stores : FrameStores) (handlers : List TypedHandler) (limit less : ℕ) (spans : List Span) (h : TypedHandler)
    → FindsSpans env stores handlers limit spans → less ≤ limit → less ≤ h.first → FindsSpans env stores (handlers ++ h ∷ []) less spans
finds_limit env stores handlers limit less spans h finds lower first x c = elim (Contains-push_cases handlers h x c) [
  | inl before ↦ elim (finds x before) [
    | inl past ↦ inl (omega (arith, past, lower))
    | inr found ↦ inr found
  ]
  | inr here ↦ inl (subst (λ (y : TypedHandler). less ≤ y.first) here first)
]

-- ---- spans that are joined

pub within_none : (ys : List Span) → AreWithin [] ys
within_none ys s c = absurd (omega (arith, c.1))

pub within_push : (xs : List Span) (y : Span) → AreWithin xs (xs ++ y ∷ [])
within_push xs y = all_within xs (xs ++ y ∷ []) (λ s c. Contains-append_left xs (y ∷ []) s c)

-- the last of a list is made wider
pub within_last : (xs : List Span) (last wider : Span) → IsWithin last wider → AreWithin (xs ++ last ∷ []) (xs ++ wider ∷ [])
within_last xs last wider inside s c = elim (Contains-push_cases xs last s c) [
  | inl before ↦ (s, Contains-append_left xs (wider ∷ []) s before, in_itself s)
  | inr here ↦ (wider, Contains-push xs wider, subst (λ x. IsWithin x wider) here inside)
]

pub within_one : (ys : List Span) (s t : Span) → Contains ys t → IsWithin s t → AreWithin (s ∷ []) ys
within_one ys s t there inside x c = elim (Contains-push_cases [] s x c) [
  | inl before ↦ absurd (omega (arith, before.1))
  | inr here ↦ (t, there, subst (λ y. IsWithin y t) here inside)
]

pub within_more : (xs ys zs : List Span) (s : Span) → AreWithin xs ys → AreWithin ys zs → AreWithin (s ∷ []) zs → AreWithin (xs ++ s ∷ []) zs
within_more xs ys zs s first later one x c = elim (Contains-push_cases xs s x c) [
  | inl before ↦ within_on xs ys zs first later x before
  | inr here ↦ one x (zero, omega arith, here)
]
