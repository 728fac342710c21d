-- A toy thread whose steps are in range stays ready where each step may be made.
use Rattle.std.proofs.Common.{◌≡◌, ◌<◌, ◌+◌, ◌^◌, ℕ, zero, suc, Bool, true, false, Option, None, Some, List, [], ◌∷◌, refl, sym, ◌∙◌, ap, subst, arith}
use Rattle.std.specs.List.{list_all, slice_get}
use Rattle.std.proofs.lemmas.Bool.{and_parts, ltb-true}
use Rattle.op_core.specs.declared.Next.TheVariants.{Want}
use Rattle.op_core.specs.declared.Op.{Op}
use Rattle.op_core.specs.declared.Op.TheVariants.{Read, Write, New}
use Rattle.step_port.specs.declared.answer.StepAnswer.{StepAnswer}
use Rattle.step_port.specs.declared.step.Step.{Step}
use Rattle.thread_automaton.specs.declared.Bounds.{Bounds}
use Rattle.thread_automaton.specs.ThreadState.{ThreadState}
use Rattle.thread_automaton.specs.NextMove.{word_place}
use Rattle.thread_moves.specs.Thread.{CanBeAsked}
use Rattle.thread_moves.specs.Change.{NamesThread}
use Rattle.toy_code.specs.declared.script.ToyStep.{ToyStep}
use Rattle.toy_code.specs.declared.script.ToyStep.TheVariants.{Do, Show, Pass, Call, Return, WaitOn}
use Rattle.toy_code.specs.declared.script.ToyPlace.{ToyPlace}
use Rattle.toy_code.specs.Toy.{ToyState, half_of_wait, next_at, toy_code}
use Rattle.turn_run_tests.specs.InRange.{is_in_range}
use Rattle.turn_run_tests.specs.Ready.{StaysReadyOnAny}
use Rattle.turn_run_tests.proofs.KeptLemmas.{AllHave, each_turn}

pub in_list : (steps : List ToyStep) (k : ℕ) (step : ToyStep) → list_all is_in_range steps ≡ true → slice_get steps k ≡ Some step → is_in_range step ≡ true
in_list [] k step all is = absurd cc
in_list (x ∷ steps) zero step all is = let same : x ≡ step = cc in ap is_in_range (sym same) ∙ (and_parts (is_in_range x) (list_all is_in_range steps) all).0
in_list (x ∷ steps) (suc k) step all is = in_list steps k step (and_parts (is_in_range x) (list_all is_in_range steps) all).1 is

halves : (l : ToyState) (r : ℕ) (waits : Bool) → CanBeAsked toy_code l (Want (half_of_wait r waits))
halves l r true = tt
halves l r false = tt

few_words : (n : ℕ) → n < 2 ^ 32 → 2 + n < 2 ^ 64
few_words n few = omega arith

does : (l : ToyState) (op : Op) → is_in_range (Do op) ≡ true → CanBeAsked toy_code l (Want op)
does l (Read r i) is = ltb-true (word_place r i) (2 ^ 32) is
does l (Write r i v) is = ltb-true (word_place r i) (2 ^ 32) is
does l (New c n) is = few_words n (ltb-true n (2 ^ 32) is)
does l op is = tt

pub asks : (l : ToyState) (p : ToyPlace) (o : Option ToyStep) → ((step : ToyStep) → o ≡ Some step → is_in_range step ≡ true) → CanBeAsked toy_code l (next_at o p)
asks l p None each = tt
asks l p (Some Pass) each = tt
asks l p (Some Call) each = tt
asks l p (Some Return) each = tt
asks l p (Some (Do op)) each = does l op (each (Do op) refl)
asks l p (Some Show) each = tt
asks l p (Some (WaitOn r)) each = halves l r p.waits

pub toys_stay_ready : {P : Type 0} (b : Bounds) (th : ThreadState ToyState) (x : P) → list_all is_in_range th.local.steps ≡ true → th.saved ≡ []
    → StaysReadyOnAny toy_code b th x
toys_stay_ready b th x all unsaved = λ moves last y turns.
    let kept = each_turn th.local.steps b (λ x step answer y. NamesThread step answer) last y moves th x turns
    (record { local = refl; saved = subst (λ saved. AllHave th.local.steps saved) (sym unsaved) tt }) in
    record {
      range = asks last.local last.local.place (slice_get last.local.steps last.local.place.step)
          (λ step is. in_list last.local.steps last.local.place.step step (ap (λ steps. list_all is_in_range steps) kept.local ∙ all) is);
      allowed = λ step makes. tt;
      names = λ step a z makes made. made;
    }
