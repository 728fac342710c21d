-- Usual turns, one after another, and what they keep.
use Rattle.std.proofs.Common.{◌≡◌, ℕ, zero, suc, ◌+◌, ◌<◌, ◌≤◌, ◌&&◌, ◌||◌, not, Bool, true, false, Option, None, Some, List, [], ◌∷◌, ◌++◌, length, refl, sym, ◌∙◌, ap, subst, arith, length-append}
use Rattle.std.specs.Prelude.{nat_le, if◌then◌else◌}
use Rattle.std.specs.Option.{option_and_then}
use Rattle.std.proofs.lemmas.Bool.Decides.{nat_tests}
use Rattle.std.proofs.lemmas.Grind.{common_steps}
use Rattle.op_core.specs.declared.Limit.TheVariants.{Turns}
use Rattle.op_core.specs.declared.Next.{Next}
use Rattle.op_core.specs.declared.Next.TheVariants.{Silent}
use Rattle.op_core.specs.ThreadCode.{Code, leaves_any, quiet_step, quiet_steps, LeavesNoSave}
use Rattle.step_port.specs.declared.answer.StepAnswer.{StepAnswer}
use Rattle.step_port.specs.declared.step.Step.{Step}
use Rattle.step_port.specs.declared.step.Step.TheVariants.{LoadSection}
use Rattle.step_port.specs.Steps.{effect_of, kind_of}
use Rattle.step_port.specs.Words.{Words, CanAnswer, IsStepOnWords, words_after}
use Rattle.thread_automaton.specs.declared.Attempt.TheVariants.{Begin}
use Rattle.thread_automaton.specs.declared.Bounds.{Bounds}
use Rattle.thread_automaton.specs.declared.Move.TheVariants.{Over, Quiet, Stop, Make}
use Rattle.thread_automaton.specs.ThreadState.{ThreadState, is_open}
use Rattle.thread_automaton.specs.NextMove.{move_of, next_move}
use Rattle.thread_automaton.specs.Told.{Told, told, after_answer, after_quiet}
use Rattle.word_runs.specs.Enabled.{has_to_wait_for, has_to_undo, is_enabled}
use Rattle.thread_moves.specs.declared.thread.Own.{Own}
use Rattle.rollback_core.proofs.QuietLemmas.{silent_by}
use Rattle.turn_runs.specs.Turns as runs
use Rattle.turn_runs.specs.Turns.{TurnMove, silent, made, last_kind}
use Rattle.turn_runs.proofs.TurnLemmas.{joined}
use Rattle.turn_runs.proofs.HostLemmas.{never_both, last_kind_joined, and_then_some, one_more_quiet, counted_quiet, lives_quiet}
use Rattle.quick_turns.specs.Usual.{goes_through, is_usual_step, AreUsual, UsualTurns}
use Rattle.turn_runs.specs.Own.{thread_at, own_quiet}

or_true : (t : Bool) → (t || true) ≡ true
or_true true = refl
or_true false = refl

-- a thread that goes on and has to wait for no other one is enabled
pub enabled_by : {S : Type 0} (code : Code S) (w : Words) (th : ThreadState S) (next : Next) → th.over ≡ false → code.next th.local ≡ next → has_to_wait_for w th next ≡ false
    → is_enabled code w th ≡ true
enabled_by code w th next lives wants waits =
    ap (λ over. not over && (has_to_undo w th || not (has_to_wait_for w th (code.next th.local)))) lives
    ∙ ap (λ next. has_to_undo w th || not (has_to_wait_for w th next)) wants
    ∙ ap (λ waits. has_to_undo w th || not waits) waits ∙ or_true (has_to_undo w th)

module _ {S P : Type 0} (code : Code S) (b : Bounds) (stepped : P → Step → StepAnswer → P → Type 0) (words : P → Words) where
  -- ---- one turn

  pub no_turns : (th : ThreadState S) (x : P) (k : ℕ) → UsualTurns code b stepped words th x k 0 th x k
  no_turns th x k = record { moves = []; turns = (refl, refl); count = refl; usual = tt; kind = refl }

  pub one_made : (th last : ThreadState S) (x y : P) (k : ℕ) (next : Next) (step : Step) (answer : StepAnswer) (tells : Told) → code.next th.local ≡ next
      → next_move code b th ≡ Make step → stepped x step answer y → CanAnswer (effect_of step) answer → told code b th step answer ≡ tells
      → is_enabled code (words x) th ≡ true → (is_usual_step (words x) step && goes_through tells) ≡ true → after_answer code b th step answer ≡ last
      → UsualTurns code b stepped words th x k 1 last y (kind_of step)
  one_made th last x y k next step answer tells wants makes stepped_to can tells_is enabled usual is = record {
    moves = made next step answer tells ∷ [];
    turns = (y, sym wants, makes, stepped_to, can, sym tells_is, (sym is, refl));
    count = refl;
    usual = (enabled, usual, tt);
    kind = refl;
  }

  module _ (on_words : (x : P) (step : Step) (a : StepAnswer) (y : P) → stepped x step a y → IsStepOnWords (words x) step a (words y)) where
    -- ---- end to end

    are_joined : (mid : ThreadState S) (y : P) (others : List TurnMove) → AreUsual code b (words y) mid others → (moves : List TurnMove) (th : ThreadState S) (x : P)
        → runs.Turns code b stepped th x moves mid y → AreUsual code b (words x) th moves → AreUsual code b (words x) th (moves ++ others)
    are_joined mid y others more [] th x (same, port) are =
        subst (λ th. AreUsual code b (words x) th others) same (subst (λ x. AreUsual code b (words x) mid others) port more)
    are_joined mid y others more (silent ∷ moves) th x (l, is, steps, turns) (enabled, are) = (
      enabled,
      λ m quiet.
          let same : l ≡ m = cc in
          are_joined mid y others more moves (after_quiet th m) x (subst (λ l. runs.Turns code b stepped (after_quiet th l) x moves mid y) same turns) (are m quiet),
    )
    are_joined mid y others more (made next step answer tells ∷ moves) th x (z, wants, is, stepped_to, can, tells_is, turns) (enabled, usual, are) =
        let leaves : words z ≡ words_after step (words x) = (on_words x step answer z stepped_to).leaves in (
          enabled,
          usual,
          subst (λ w. AreUsual code b w (after_answer code b th step answer) (moves ++ others)) leaves
              (are_joined mid y others more moves (after_answer code b th step answer) z turns (subst (λ w. AreUsual code b w (after_answer code b th step answer) moves) (sym leaves) are)),
        )

    pub usual_joined : (th mid last : ThreadState S) (x y z : P) (j k l n m : ℕ) → UsualTurns code b stepped words th x j n mid y k → UsualTurns code b stepped words mid y k m last z l
        → UsualTurns code b stepped words th x j (n + m) last z l
    usual_joined th mid last x y z j k l n m first second = record {
      moves = first.moves ++ second.moves;
      turns = joined code b stepped mid last y z first.moves second.moves th x first.turns second.turns;
      count = ap (λ n. n + m) first.count ∙ ap (λ m. length first.moves + m) second.count ∙ sym (length-append first.moves second.moves);
      usual = are_joined mid y second.moves second.usual first.moves th x first.turns first.usual;
      kind = second.kind ∙ ap (λ k. last_kind k second.moves) first.kind ∙ sym (last_kind_joined j first.moves second.moves);
    }

    -- ---- silent turns

    one_silent : (th last : ThreadState S) (x : P) (k : ℕ) (l : S) → th.over ≡ false → nat_le b.limits.turns th.counted ≡ false → th.attempt ≡ Begin
        → leaves_any code th.saved th.local ≡ false → quiet_step code th.local ≡ Some l → after_quiet th l ≡ last → UsualTurns code b stepped words th x k 1 last x 0
    one_silent th last x k l lives left begins stays steps is =
        let silent_next : code.next th.local ≡ Silent = silent_by code (code.silent th.local) l (code.next th.local) steps in
        record {
          moves = silent ∷ [];
          turns = (
            l,
            ap (λ over. if over then Over else if nat_le b.limits.turns th.counted then Stop Turns else move_of code th (code.next th.local) th.attempt) lives
                ∙ ap (λ full. if full then Stop Turns else move_of code th (code.next th.local) th.attempt) left
                ∙ ap (λ next. move_of code th next th.attempt) silent_next ∙ ap (move_of code th Silent) begins
                ∙ ap (λ t. if t then Make (LoadSection th.section) else Quiet) (never_both (is_open th) (leaves_any code th.saved th.local) stays),
            steps,
            (sym is, refl),
          );
          count = refl;
          usual = (enabled_by code (words x) th Silent lives silent_next refl, λ m quiet. tt);
          kind = refl;
        }

    pub quiet_usual : (own : Own) (saves : List S) (x : P) (l : S) (n : ℕ) (m : S) → own.over ≡ false → own.counted + n ≤ b.limits.turns → quiet_steps code n l ≡ Some m
        → LeavesNoSave code saves n l
        → UsualTurns code b stepped words (thread_at own Begin l saves) x own.last_kind n (thread_at (own_quiet own n) Begin m saves) x (own_quiet own n).last_kind
    quiet_usual own saves x l zero m lives left steps stays =
        let same : l ≡ m = cc in
        subst (λ m. UsualTurns code b stepped words (thread_at own Begin l saves) x own.last_kind 0 (thread_at own Begin m saves) x own.last_kind) same
        (no_turns (thread_at own Begin l saves) x own.last_kind)
    quiet_usual own saves x l (suc n) m lives left steps stays =
        let (mid, before, step) = and_then_some (quiet_step code) (quiet_steps code n l) m steps in
        let counts : n + 1 ≡ suc n = omega arith in
        subst (λ k. UsualTurns code b stepped words (thread_at own Begin l saves) x own.last_kind k (thread_at (own_quiet own (suc n)) Begin m saves) x 0) counts
        (usual_joined (thread_at own Begin l saves) (thread_at (own_quiet own n) Begin mid saves) (thread_at (own_quiet own (suc n)) Begin m saves) x x x
        own.last_kind (own_quiet own n).last_kind 0 n 1
        (quiet_usual own saves x l n mid lives (omega (arith, left)) before (λ k y below. stays k y (omega (arith, below))))
        (one_silent (thread_at (own_quiet own n) Begin mid saves) (thread_at (own_quiet own (suc n)) Begin m saves) x (own_quiet own n).last_kind m
        (lives_quiet own n lives) (counted_quiet own n b.limits.turns (omega (arith, left))) refl (stays n mid (omega arith) before) step (one_more_quiet own saves n mid m)))
