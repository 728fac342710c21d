-- Handlers of a code array.
use Rattle.std.proofs.Common.{◌≡◌, ◌↔◌, ◌<◌, ◌≤◌, ℕ, List, length, sym, ap, subst, ◌∙◌, arith, inl, inr, nat_eq}
use Rattle.std.specs.Prelude.{Some, slice_get}
use Rattle.std.proofs.lemmas.Bool.{cases_Bool, eqb-true}
use Rattle.std.proofs.lemmas.Option.{same_Some, slice_get_within}
use Rattle.class_walk.specs.declared.class.Constant.{Constant}
use Rattle.class_walk.specs.declared.class.RawHandler.{RawHandler}
use Rattle.instructions.specs.declared.what.Instr.{Instr}
use Rattle.instructions.specs.declared.what.Target.{Target}
use Rattle.instructions.specs.Steps.{number_at}
use Rattle.code_steps.specs.CodeArray.{IsCodeArray}
use Rattle.code_decode.specs.declared.code.Handler.{Handler}
use Rattle.code_decode.specs.Handlers.{IsCaught, end_at, IsHandler, AreHandlers}
use Rattle.code_decode.proofs.HandlerLaws.{item_at, sides}
use Rattle.code_laws.specs.Handlers.{IsHandlerInside}
use Rattle.code_laws.proofs.StepLaws.{number_stands, stands, rises}

-- ---- numbers and offsets go up together

module _ (pool : List Constant) (code : List ℕ) (steps : List (Instr Target)) (is : IsCodeArray pool code steps) where
  same_place : (j k : ℕ) (i l : Instr Target) → slice_get steps j ≡ Some i → slice_get steps k ≡ Some l → j ≡ k → i.at ≡ l.at
  same_place j k i l there here same =
      let both : Some i ≡ Some l = sym there ∙ (ap (slice_get steps) same ∙ here) in
      ap (λ (x : Instr Target). x.at) (same_Some i l both)

  up : (j k : ℕ) (i l : Instr Target) → slice_get steps j ≡ Some i → slice_get steps k ≡ Some l → j < k → i.at < l.at
  up j k i l = rises pool code 0 steps (length code) is.laid j k i l

  -- an instruction comes after another one by number exactly where it does by offset
  offset_before : (j k : ℕ) (i l : Instr Target) → slice_get steps j ≡ Some i → slice_get steps k ≡ Some l → i.at < l.at → j < k
  offset_before j k i l there here before =
      elim (sides j k) [
        | inl less ↦ less
        | inr other ↦ elim other [
          | inl more ↦ absurd (omega (arith, before, up k j l i here there more))
          | inr same ↦ absurd (omega (arith, before, same_place j k i l there here same))
        ]
      ]

  not_before : (j k : ℕ) (i l : Instr Target) → slice_get steps j ≡ Some i → slice_get steps k ≡ Some l → i.at ≤ l.at → j ≤ k
  not_before j k i l there here before =
      elim (sides j k) [
        | inl less ↦ omega arith
        | inr other ↦ elim other [
          | inl more ↦ absurd (omega (arith, before, up k j l i here there more))
          | inr same ↦ omega arith
        ]
      ]

  place_before : (j k : ℕ) (i l : Instr Target) → slice_get steps j ≡ Some i → slice_get steps k ≡ Some l → j ≤ k → i.at ≤ l.at
  place_before j k i l there here before =
      elim (sides j k) [
        | inl less ↦ let later = up j k i l there here less in omega arith
        | inr other ↦ elim other [
          | inl more ↦ absurd (omega arith)
          | inr same ↦ let at = same_place j k i l there here same in omega arith
        ]
      ]

  -- what ends at the offset of an instruction, or at the end of the code
  record EndsAt (end to : ℕ) : Type 0 where
    few : end ≤ length steps
    before : (k : ℕ) (i : Instr Target) → slice_get steps k ≡ Some i → (k < end) ↔ (i.at < to)

  ends_at_step : (end to : ℕ) → number_at steps to ≡ Some end → EndsAt end to
  ends_at_step end to e =
      let s = number_stands steps to end e in
      let within = slice_get_within steps end s.0 s.1 in
      record {
        few = omega (arith, within);
        before = λ k i there. (
          λ less. let later = up k end i s.0 there s.1 less in omega (arith, later, s.2),
          λ less. offset_before k end i s.0 there s.1 (omega (arith, less, s.2)),
        );
      }

  ends_at_end : (end to : ℕ) → to ≡ length code → length steps ≡ end → EndsAt end to
  ends_at_end end to all count = record {
    few = omega (arith, count);
    before = λ k i there.
        let within = slice_get_within steps k i there in
        let place = stands pool code steps is k i there in
        (λ less. omega (arith, place.ordered, place.inside, all), λ less. omega (arith, within, count));
  }

  ends_at : (end to : ℕ) → end_at steps (length code) to ≡ Some end → EndsAt end to
  ends_at end to e =
      elim (cases_Bool (nat_eq to (length code))) [
        | inl all ↦
            let count : Some (length steps) ≡ Some end = rw all at e in
            ends_at_end end to (eqb-true to (length code) all) (same_Some (length steps) end count)
        | inr inside ↦
            let number : number_at steps to ≡ Some end = rw inside at e in
            ends_at_step end to number
      ]

  handler_inside : (raw : RawHandler) (h : Handler) → IsHandler pool steps (length code) raw h → IsHandlerInside pool steps h
  handler_inside raw h right =
      let first = number_stands steps raw.from h.first right.first in
      let entry = number_stands steps raw.at h.entry right.entry in
      let ends = ends_at h.end raw.to right.end in
      let from : h.from ≡ raw.from = right.places.0 in
      let to : h.to ≡ raw.to = right.places.1 in
      let less : first.0.at < raw.to = omega (arith, first.2, right.covers) in
      record {
        first = (first.0, first.1, first.2 ∙ sym from);
        some = (ends.before h.first first.0 first.1).1 less;
        end = ends.few;
        entry = (entry.0, entry.1, entry.2 ∙ sym right.places.2);
        caught = subst (IsCaught pool) (sym right.places.3) right.caught;
        covers = λ k i there. (
          λ covered. (
            let later = place_before h.first k first.0 i first.1 there covered.0 in omega (arith, later, first.2, from),
            let before = (ends.before k i there).0 covered.1 in omega (arith, before, to),
          ),
          λ covered. (
            not_before h.first k first.0 i first.1 there (omega (arith, covered.0, first.2, from)),
            (ends.before k i there).1 (omega (arith, covered.1, to)),
          ),
        );
      }

pub handlers_inside : (pool : List Constant) (code : List ℕ) (steps : List (Instr Target)) (table : List RawHandler) (handlers : List Handler) → IsCodeArray pool code steps
    → AreHandlers pool steps (length code) table handlers → (k : ℕ) (h : Handler) → slice_get handlers k ≡ Some h → IsHandlerInside pool steps h
handlers_inside pool code steps table handlers is are k h there =
    let within : k < length table = omega (arith, slice_get_within handlers k h there, are.count) in
    let raw = item_at table k within in
    handler_inside pool code steps is raw.0 h (are.each k raw.0 h raw.1 there)
