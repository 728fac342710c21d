-- A stretch that goes on, and how it ends.
use Rattle.std.proofs.Common.{◌≡◌, ℕ, ◌+◌, inl, inr, Bool, true, false, ◌&&◌, List, [], ◌∷◌, ◌++◌, refl, sym, ◌∙◌, ap, subst, arith, length-append}
use Rattle.std.proofs.lemmas.List.Folds.{list_all-append}
use Rattle.op_core.specs.ThreadCode.{Code}
use Rattle.step_port.specs.declared.answer.StepAnswer.{StepAnswer}
use Rattle.step_port.specs.declared.step.Step.{Step}
use Rattle.step_port.specs.Steps.{kind_of}
use Rattle.thread_automaton.specs.declared.Bounds.{Bounds}
use Rattle.thread_automaton.specs.declared.Move.{Move}
use Rattle.thread_automaton.specs.declared.Move.TheVariants.{Over, Quiet, Stop, Make}
use Rattle.thread_automaton.specs.ThreadState.{ThreadState}
use Rattle.thread_automaton.specs.NextMove.{next_move}
use Rattle.thread_automaton.specs.Told.{told}
use Rattle.thread_moves.specs.declared.thread.JThread.{JThread}
use Rattle.rollback_core.specs.declared.turned.Turn.{Turn}
use Rattle.rollback_core.specs.Turn.{Turned, kind_made}
use Rattle.turn_runs.specs.declared.looks.Looks.{Looks}
use Rattle.turn_runs.specs.Turns.{TurnMove, silent, made, Turns, StaysReady}
use Rattle.turn_runs.specs.Looks.{move_passes, passes_by}
use Rattle.turn_runs.specs.Stretch.{PassBy, Stopped}
use Rattle.turn_runs.proofs.TurnLemmas.{joined, stops, says_passes}

both : (a c : Bool) → a ≡ true → c ≡ true → (a && c) ≡ true
both true true one two = refl
both true false one two = two
both false c one two = one

module _ {S P : Type 0} (code : Code S) (b : Bounds) (stepped : P → Step → StepAnswer → P → Type 0) (looks : Looks) where
  module _ (allows : P → Step → Type 0) where
    stays : (moves : List TurnMove) (th last : ThreadState S) (x y : P) → StaysReady code b allows stepped th x → Turns code b stepped th x moves last y
        → StaysReady code b allows stepped last y
    stays moves th last x y ready turns = λ others end z further. ready (moves ++ others) end z (joined code b stepped last end y z moves others th x turns further)

    -- a thread is ready again where only turns that pass by were made
    pub ready_after : (th last now : ThreadState S) (x y here : P) (n : ℕ) (a : Bounds) → StaysReady code b allows stepped th x → PassBy code b stepped looks th x n last y
        → a ≡ b → now ≡ last → here ≡ y → StaysReady code a allows stepped now here
    ready_after th last now x y here n a ready passed bounds thread port =
        subst (λ a. StaysReady code a allows stepped now here) (sym bounds) (subst (λ now. StaysReady code b allows stepped now here) (sym thread)
        (subst (λ here. StaysReady code b allows stepped last here) (sym port) (stays passed.moves th last x y ready passed.turns)))

  one_more : (th before last : ThreadState S) (x port y : P) (n : ℕ) (move : TurnMove) → PassBy code b stepped looks th x n before port
      → Turns code b stepped before port (move ∷ []) last y → move_passes looks move ≡ true → PassBy code b stepped looks th x (n + 1) last y
  one_more th before last x port y n move passed turn pass = record {
    moves = passed.moves ++ move ∷ [];
    turns = joined code b stepped before last port y passed.moves (move ∷ []) th x passed.turns turn;
    number = ap (λ n. n + 1) passed.number ∙ sym (length-append passed.moves (move ∷ []));
    pass = list_all-append (move_passes looks) passed.moves (move ∷ []) ∙ both _ _ passed.pass (both _ _ pass refl);
  }

  module _ {C Pass : Type 0} (meant : JThread C → ThreadState S) (handed : P → Step → P → Pass → Type 0) (th before last : ThreadState S) (x port y : P) (n : ℕ)
      (passed : PassBy code b stepped looks th x n before port) (said : Turn C Pass) where
    abbrev TurnedBy : Bounds → Move → Type 0
    TurnedBy a move = Turned meant code a before last (λ step answer. stepped port step answer y) (λ step pass. handed port step y pass) (y ≡ port) said move

    by_move : (move : Move) → next_move code b before ≡ move → TurnedBy b move → passes_by looks (kind_made move) said ≡ true
        → PassBy code b stepped looks th x (n + 1) last y
    by_move Over is turned pass = absurd (stops looks 0 said _ turned.1.says refl pass)
    by_move (Stop limit) is turned pass = absurd (stops looks 0 said _ turned.1.says refl pass)
    by_move Quiet is (still, inl quiet) pass = one_more th before last x port y n silent passed (quiet.local, is, quiet.quiet, (quiet.goes, still)) refl
    by_move Quiet is (still, inr (none, stays)) pass = absurd (stops looks 0 said _ stays.says refl pass)
    by_move (Make step) is turned pass =
        one_more th before last x port y n (made (code.next before.local) step turned.answer (told code b before step turned.answer)) passed
        (y, refl, is, turned.made, turned.kind, refl, (turned.goes, refl))
        (says_passes looks (kind_of step) meant code b before step (λ pass. handed port step y pass) said (told code b before step turned.answer) turned.says pass)

    led_by : (move : Move) → next_move code b before ≡ move → TurnedBy b move → (moves : List TurnMove) × Turns code b stepped before port moves last y
    led_by Over is turned = ([], (turned.1.thread, turned.0))
    led_by (Stop limit) is turned = ([], (turned.1.thread, turned.0))
    led_by Quiet is (still, inl quiet) = (silent ∷ [], (quiet.local, is, quiet.quiet, (quiet.goes, still)))
    led_by Quiet is (still, inr (none, stays)) = ([], (stays.thread, still))
    led_by (Make step) is turned =
        (made (code.next before.local) step turned.answer (told code b before step turned.answer) ∷ [], (y, refl, is, turned.made, turned.kind, refl, (turned.goes, refl)))

    module _ (a : Bounds) (same : a ≡ b) (turned : TurnedBy a (next_move code a before)) (kind k : ℕ) (kind_is : kind ≡ kind_made (next_move code a before)) (k_is : k ≡ kind) where
      turned_here : TurnedBy b (next_move code b before)
      turned_here = subst (λ a. TurnedBy a (next_move code a before)) same turned

      kind_here : kind ≡ kind_made (next_move code b before)
      kind_here = kind_is ∙ ap (λ a. kind_made (next_move code a before)) same

      -- after the turn the thread is ready again
      pub ready_on : (allows : P → Step → Type 0) (d : Bounds) → d ≡ b → StaysReady code b allows stepped th x → StaysReady code d allows stepped last y
      ready_on allows d d_is ready =
          let led = led_by (next_move code b before) refl turned_here in
          subst (λ d. StaysReady code d allows stepped last y) (sym d_is)
          (stays allows led.0 before last port y (stays allows passed.moves th before x port ready passed.turns) led.1)

      -- a turn that passes by is one more
      pub goes_on : passes_by looks k said ≡ true → PassBy code b stepped looks th x (n + 1) last y
      goes_on pass = by_move (next_move code b before) refl turned_here (subst (λ k. passes_by looks k said ≡ true) (k_is ∙ kind_here) pass)

      -- the last one doesn't
      pub stops_here : (r : Turn C Pass) → r ≡ said → passes_by looks k said ≡ false → Stopped meant code b stepped handed looks th x last y kind (n + 1) r
      stops_here r r_is seen = record {
        number = n;
        before = before;
        port = port;
        passed = passed;
        counted = omega arith;
        turned = subst (λ said. Turned meant code b before last (λ step answer. stepped port step answer y) (λ step pass. handed port step y pass) (y ≡ port) said (next_move code b before))
            (sym r_is) turned_here;
        kind_is = kind_here;
        seen = ap (λ k. passes_by looks k r) (sym k_is) ∙ ap (λ said. passes_by looks k said) r_is ∙ seen;
      }
