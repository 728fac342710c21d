-- A toy thread whose steps are in range stays ready on words on which each step may be made.
use Rattle.std.proofs.Common.{◌≡◌, Option, None, Some, List, [], ◌∷◌, drop, map, true, refl, sym, ◌∙◌, ap}
use Rattle.std.specs.List.{list_all, slice_get}
use Rattle.step_port.specs.declared.answer.StepAnswer.{StepAnswer}
use Rattle.step_port.specs.declared.step.Step.{Step}
use Rattle.thread_automaton.specs.declared.Bounds.{Bounds}
use Rattle.thread_automaton.specs.ThreadState.{ThreadState}
use Rattle.thread_moves.specs.declared.mark.SavedMark.{SavedMark}
use Rattle.thread_moves.specs.Thread.{without_opening, CanBeAsked}
use Rattle.thread_moves.specs.Change.{NamesThread}
use Rattle.toy_code.specs.declared.script.ToyPlace.{ToyPlace}
use Rattle.toy_code.specs.declared.script.ToyScript.{ToyScript}
use Rattle.toy_code.specs.declared.script.ToyStep.{ToyStep}
use Rattle.toy_code.specs.Toy.{ToyState, toy_code}
use Rattle.turn_runs.specs.Turns.{StaysReady}
use Rattle.turn_run_tests.specs.InRange.{is_in_range}
use Rattle.turn_run_tests.proofs.KeptLemmas.{AllHave, each_turn}
use Rattle.turn_run_tests.proofs.ReadyLemmas.{in_list, asks}

all_have : (steps : List ToyStep) (state : ToyPlace → ToyState) → ((p : ToyPlace) → (state p).steps ≡ steps) → (places : List ToyPlace) → AllHave steps (map state places)
all_have steps state each [] = tt
all_have steps state each (p ∷ places) = (each p, all_have steps state each places)

without_one : (steps : List ToyStep) (ls : List ToyState) → AllHave steps ls → AllHave steps (drop 1 ls)
without_one steps [] have = tt
without_one steps (l ∷ ls) have = have.1

pub saves_have : (steps : List ToyStep) (state : ToyPlace → ToyState) → ((p : ToyPlace) → (state p).steps ≡ steps) → (opening : Option SavedMark) (places : List ToyPlace)
    → AllHave steps (without_opening opening (map state places))
saves_have steps state each None places = all_have steps state each places
saves_have steps state each (Some mark) places = without_one steps (map state places) (all_have steps state each places)

pub toys_ready : {P : Type 0} (b : Bounds) (stepped : P → Step → StepAnswer → P → Type 0) → ((x : P) (step : Step) (a : StepAnswer) (y : P) → stepped x step a y → NamesThread step a)
    → (th : ThreadState ToyState) (x : P) → list_all is_in_range th.local.steps ≡ true → AllHave th.local.steps th.saved → StaysReady toy_code b (λ x step. Unit {0}) stepped th x
toys_ready b stepped names th x all have = λ moves last y turns.
    let kept = each_turn th.local.steps b stepped last y moves th x turns (record { local = refl; saved = have }) in
    record {
      range = asks last.local last.local.place (slice_get last.local.steps last.local.place.step)
          (λ step is. in_list last.local.steps last.local.place.step step (ap (λ steps. list_all is_in_range steps) kept.local ∙ all) is);
      allowed = λ step makes. tt;
      names = λ step a z makes made. names y step a z made;
    }

pub toy_asks : (l : ToyState) → list_all is_in_range l.steps ≡ true → CanBeAsked toy_code l (toy_code.next l)
toy_asks l all = asks l l.place (slice_get l.steps l.place.step) (λ step is. in_list l.steps l.place.step step all is)
