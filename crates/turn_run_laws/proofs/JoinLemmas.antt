-- Acts that lead to where a run has come, and then turns of one thread.
use Rattle.std.proofs.Common.{◌≡◌, ℕ, zero, suc, ◌+◌, ◌-◌, ◌≤◌, Bool, true, false, cond, nat_le, Some, List, [], ◌∷◌, ◌++◌, length, refl, sym, ◌∙◌, ap, subst, arith}
use Rattle.std.proofs.lemmas.Grind.{common_steps}
use Rattle.std.proofs.lemmas.Bool.Decides.{nat_tests}
use Rattle.op_core.specs.ThreadCode.{Code}
use Rattle.op_core.specs.OrdinaryState.{set_at}
use Rattle.step_port.specs.Words.{Words, answer_of, words_after}
use Rattle.thread_automaton.specs.declared.Bounds.{Bounds}
use Rattle.thread_automaton.specs.ThreadState.{ThreadState}
use Rattle.thread_automaton.specs.Told.{after_quiet}
use Rattle.core_runs.specs.Acts.{Act, quiet, did, beside, ActAt, ActFrom}
use Rattle.core_runs.specs.Cores.{Core, core_after}
use Rattle.word_runs.specs.WordTurns.{Progress}
use Rattle.word_runs.specs.Laws.{AreActs}
use Rattle.turn_runs.specs.Turns.{TurnMove, silent, made}
use Rattle.turn_run_laws.specs.GivenTurns.{acts_of, LeadsTo}
use Rattle.turn_run_laws.specs.Laws.{TurnsGoOn}

module _ {S : Type 0} (code : Code S) (b : Bounds) where
  -- an act is made from one core to the next alone
  act_moved : (c e : ℕ → Core S) (k : ℕ) (x : Act) → c k ≡ e k → c (suc k) ≡ e (suc k) → ActAt code b c k x → ActAt code b e k x
  act_moved c e k (quiet t) same next at = record {
    from = at.from;
    local = at.local;
    stands = ap (λ (z : Core S). z.threads t) (sym same) ∙ at.stands;
    move = at.move;
    step = at.step;
    leads = sym next ∙ at.leads ∙ ap (λ (z : Core S). record z { threads = set_at z.threads t (Some (after_quiet at.from at.local)) }) same;
  }
  act_moved c e k (did t step a) same next at = record {
    from = at.from;
    stands = ap (λ (z : Core S). z.threads t) (sym same) ∙ at.stands;
    move = at.move;
    answered = at.answered ∙ ap (λ (z : Core S). answer_of z.words step) same;
    leads = sym next ∙ at.leads ∙ ap (λ (z : Core S). core_after code b k z t at.from step a) same;
  }
  act_moved c e k (beside t step a) same next at = record {
    is = at.is;
    answered = at.answered ∙ ap (λ (z : Core S). answer_of z.words step) same;
    leads = sym next ∙ at.leads ∙ ap (λ (z : Core S). record z { words = words_after step z.words }) same;
  }

  from_moved : (c e : ℕ → Core S) (acts : List Act) (k : ℕ) → ((j : ℕ) → j ≤ k + length acts → c j ≡ e j) → ActFrom code b c k acts → ActFrom code b e k acts
  from_moved c e [] k same leads = tt
  from_moved c e (x ∷ acts) k same leads = (
    act_moved c e k x (same k (omega arith)) (same (suc k) (omega arith)) leads.0,
    from_moved c e acts (suc k) (λ j within. same j (omega (arith, within))) leads.1,
  )

  from_joined : (c : ℕ → Core S) (acts others : List Act) (k : ℕ) → ActFrom code b c k acts → ActFrom code b c (k + length acts) others → ActFrom code b c k (acts ++ others)
  from_joined c [] others k leads later = subst (λ n. ActFrom code b c n others) (omega arith) later
  from_joined c (x ∷ acts) others k leads later = (leads.0, from_joined c acts others (suc k) leads.1 (subst (λ n. ActFrom code b c n others) (omega arith) later))

  length_joined : (acts others : List Act) → length (acts ++ others) ≡ length acts + length others
  length_joined [] others = omega arith
  length_joined (x ∷ acts) others = let more = length_joined acts others in omega (arith, more)

  length_of : (t : ℕ) (moves : List TurnMove) → length (acts_of t moves) ≡ length moves
  length_of t [] = refl
  length_of t (silent ∷ moves) = ap suc (length_of t moves)
  length_of t (made next step answer tells ∷ moves) = ap suc (length_of t moves)

  module _ (core : Core S) (r : Progress S) (t : ℕ) (last : ThreadState S) (v : Words) (moves : List TurnMove) (are : AreActs code b core r) (led : LeadsTo code b r t moves last v) where
    abbrev n : ℕ
    n = length r.acts

    abbrev cores : ℕ → Core S
    cores k = cond (nat_le k n) (are.cores k) (led.cores (k - n))

    before : (k : ℕ) → k ≤ n → are.cores k ≡ cores k
    before k within = ap (λ test. cond test (are.cores k) (led.cores (k - n))) (sym (up_to k within))
      where
        up_to : (k : ℕ) → k ≤ n → nat_le k n ≡ true
        up_to k within = grind (arith, common_steps, nat_tests)

    after : (k : ℕ) → cores (n + k) ≡ led.cores k
    after zero = ap cores (omega arith) ∙ sym (before n (omega arith)) ∙ are.ends ∙ sym led.begins
    after (suc k) = ap (λ test. cond test (are.cores (n + suc k)) (led.cores (n + suc k - n))) (past k) ∙ ap led.cores (omega arith)
      where
        past : (k : ℕ) → nat_le (n + suc k) n ≡ false
        past k = grind (arith, common_steps, nat_tests)

    goes_on : AreActs code b core led.new
    goes_on = record {
      cores = cores;
      begins = sym (before 0 (omega arith)) ∙ are.begins;
      leads = subst (ActFrom code b cores 0) (sym led.acts)
          (from_joined cores r.acts (acts_of t moves) 0 (from_moved are.cores cores r.acts 0 (λ j within. before j (omega (arith, within))) are.leads)
          (subst (λ k. ActFrom code b cores k (acts_of t moves)) (omega arith) (led.leads cores after)));
      ends = ap cores (ap length led.acts ∙ length_joined r.acts (acts_of t moves) ∙ ap (λ k. n + k) (length_of t moves)) ∙ after (length moves) ∙ led.ends;
    }

pub turns_lead_on : {S : Type 0} (code : Code S) → TurnsGoOn code
turns_lead_on code b core r t last v moves are led = goes_on code b core r t last v moves are led
