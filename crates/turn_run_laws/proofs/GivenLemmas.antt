-- Turns of one thread that pass by, on words and as turns that are given.
use Rattle.std.proofs.Common.{◌≡◌, ℕ, suc, ◌+◌, Bool, true, false, not, ◌&&◌, Option, None, Some, List, [], ◌∷◌, ◌++◌, length, refl, sym, ◌∙◌, ap, subst, arith}
use Rattle.std.specs.List.{list_all}
use Rattle.std.proofs.lemmas.Bool.{true≢false, and_parts}
use Rattle.std.proofs.lemmas.List.{append_assoc}
use Rattle.op_core.specs.declared.Next.{Next}
use Rattle.op_core.specs.declared.Next.TheVariants.{Silent, Want, Ended}
use Rattle.op_core.specs.ThreadCode.{Code, quiet_step}
use Rattle.op_core.specs.OrdinaryState.{set_at}
use Rattle.op_core.proofs.PointwiseLemmas.{set_at-hit, set_at-other}
use Rattle.schedules.specs.declared.order.TurnEnd.TheVariants as turn_end
use Rattle.step_port.specs.declared.answer.StepAnswer.{StepAnswer}
use Rattle.step_port.specs.declared.answer.StepAnswer.TheVariants.{Found, Lost}
use Rattle.step_port.specs.declared.step.Step.{Step}
use Rattle.step_port.specs.declared.step.Step.TheVariants.{Split}
use Rattle.step_port.specs.Steps.{kind_of}
use Rattle.step_port.specs.Words.{Words, answer_of, IsStepOnWords}
use Rattle.thread_automaton.specs.declared.Bounds.{Bounds}
use Rattle.thread_automaton.specs.declared.Move.TheVariants.{Quiet, Make}
use Rattle.thread_automaton.specs.ThreadState.{ThreadState, first_state}
use Rattle.thread_automaton.specs.NextMove.{next_move}
use Rattle.thread_automaton.specs.Told.{Told, probed, advanced, born, lost, blocked, told, after_answer, after_quiet}
use Rattle.core_runs.specs.Acts.{Act, quiet, did, ActAt, ActFrom}
use Rattle.core_runs.specs.Cores.{Core, core_after, threads_by}
use Rattle.word_runs.specs.Moves.{or_later}
use Rattle.word_runs.specs.WordTurns.{Progress, end_of, after_step, after_silent, GivesQuiet, GivesBy}
use Rattle.turn_runs.specs.declared.looks.Looks.{Looks}
use Rattle.turn_runs.specs.Turns.{TurnMove, silent, made, Turns}
use Rattle.turn_runs.specs.Looks.{looks_at, passes, move_passes}
use Rattle.turn_run_laws.specs.GivenTurns.{acts_of, IsApart, AreApart, LeadsTo}
use Rattle.turn_run_laws.specs.Laws.{PassedTurnsAreUnseen, TurnsAreOnWords, PassedTurnsHandNoneOut, TurnsAreGiven}

-- ---- what passes by is unseen

not_both : (seen looked : Bool) → looked ≡ true → (not seen && not (true && looked)) ≡ true → true ≡ false
not_both true looked is pass = sym pass
not_both false true is pass = sym pass
not_both false false is pass = sym is

pub passed_unseen : PassedTurnsAreUnseen
passed_unseen looks t (Want op) step answer (advanced (Some reply)) events pass =
    absurd (true≢false (not_both (looks_at looks (kind_of step)) looks.events events pass))
passed_unseen looks t (Want op) step answer (advanced None) events pass = refl
passed_unseen looks t (Want op) step answer probed events pass = refl
passed_unseen looks t (Want op) step answer born events pass = refl
passed_unseen looks t (Want op) step answer (lost v) events pass = refl
passed_unseen looks t (Want op) step answer (blocked why) events pass = refl
passed_unseen looks t Silent step answer tells events pass = refl
passed_unseen looks t Ended step answer tells events pass = refl

-- ---- turns on words

pub on_words : {S P : Type 0} (code : Code S) (stepped : P → Step → StepAnswer → P → Type 0) → TurnsAreOnWords code stepped
on_words {S} {P} code stepped words_of on b th last x y moves turns = each moves th x turns
  where
    each : (moves : List TurnMove) (th : ThreadState S) (x : P) → Turns code b stepped th x moves last y → Turns code b IsStepOnWords th (words_of x) moves last (words_of y)
    each [] th x (same, port) = (same, ap words_of port)
    each (silent ∷ moves) th x (l, is, steps, turns) = (l, is, steps, each moves (after_quiet th l) x turns)
    each (made next step answer tells ∷ moves) th x (z, wants, is, stepped_to, can, tells_is, turns) =
        (words_of z, wants, is, on x step answer z stepped_to, can, tells_is, each moves (after_answer code b th step answer) z turns)

-- ---- what passes by hands nothing out

split_stops : {S : Type 0} (code : Code S) (b : Bounds) (looks : Looks) (k : ℕ) (next : Next) (th : ThreadState S) (n r p : ℕ) (answer : StepAnswer)
    → passes looks k next (told code b th (Split n r p) answer) ≡ false
split_stops code b looks k next th n r p (Found w) = refl
split_stops code b looks k next th n r p (Lost v) = refl
split_stops code b looks k next th n r p StepAnswer.Done = refl

passed_apart : {S : Type 0} (code : Code S) (b : Bounds) (looks : Looks) (th : ThreadState S) (next : Next) (step : Step) (answer : StepAnswer) (tells : Told) (u : ℕ)
    → tells ≡ told code b th step answer → passes looks (kind_of step) next tells ≡ true → IsApart u (made next step answer tells)
passed_apart code b looks th next (Split n r p) answer tells u tells_is pass =
    absurd (true≢false (sym pass ∙ ap (λ x. passes looks 30 next x) tells_is ∙ split_stops code b looks 30 next th n r p answer))
passed_apart code b looks th next step answer tells u tells_is pass = tt

pub passed_hand_none_out : {S P : Type 0} (code : Code S) (stepped : P → Step → StepAnswer → P → Type 0) → PassedTurnsHandNoneOut code stepped
passed_hand_none_out {S} {P} code stepped b looks th last x y moves turns pass u = each moves th x turns pass
  where
    each : (moves : List TurnMove) (th : ThreadState S) (x : P) → Turns code b stepped th x moves last y → list_all (move_passes looks) moves ≡ true → AreApart u moves
    each [] th x turns pass = tt
    each (silent ∷ moves) th x (l, is, steps, turns) pass = (tt, each moves (after_quiet th l) x turns (and_parts true (list_all (move_passes looks) moves) pass).1)
    each (made next step answer tells ∷ moves) th x (z, wants, is, stepped_to, can, tells_is, turns) pass =
        let parts = and_parts (passes looks (kind_of step) next tells) (list_all (move_passes looks) moves) pass in
        (passed_apart code b looks th next step answer tells u tells_is parts.0, each moves (after_answer code b th step answer) z turns parts.1)

-- ---- turns that are given

append_none : (acts : List Act) → acts ≡ acts ++ []
append_none [] = refl
append_none (x ∷ acts) = ap (λ xs. x ∷ xs) (append_none acts)

length_more : (acts : List Act) (x : Act) → length (acts ++ x ∷ []) ≡ suc (length acts)
length_more [] x = refl
length_more (y ∷ acts) x = ap suc (length_more acts x)

plus_none : (k : ℕ) → k ≡ k + 0
plus_none k = omega arith

plus_one : (k n : ℕ) → suc k + n ≡ k + suc n
plus_one k n = omega arith

-- a step leaves the threads as they are that it doesn't hand out
threads_stay : {S : Type 0} (code : Code S) (step : Step) (l : S) (threads : ℕ → Option (ThreadState S)) (u : ℕ) (next : Next) (answer : StepAnswer) (tells : Told)
    → IsApart u (made next step answer tells) → threads_by code step l threads u ≡ threads u
threads_stay code (Split n r p) l threads u next answer tells apart = set_at-other threads n (Some (first_state n p (code.child l r))) u apart
threads_stay code step l threads u next answer tells apart = refl

module _ {S : Type 0} (code : Code S) (b : Bounds) where
  -- the acts lead on that begin with this one
  module _ (r next_r : Progress S) (x : Act) (moves : List TurnMove) (t : ℕ) (last : ThreadState S) (v : Words) (later : LeadsTo code b next_r t moves last v)
      (acts_are : next_r.acts ≡ r.acts ++ x ∷ [])
      (at : (c : ℕ → Core S) → c (length r.acts) ≡ r.core → c (suc (length r.acts)) ≡ next_r.core → ActAt code b c (length r.acts) x) where
    lead_on : (c : ℕ → Core S) → ((n : ℕ) → c (length r.acts + n) ≡ or_later r.core later.cores n) → ActFrom code b c (length r.acts) (x ∷ acts_of t moves)
    lead_on c same = (
      at c (ap c (plus_none (length r.acts)) ∙ same 0) (ap c (plus_none (suc (length r.acts)) ∙ plus_one (length r.acts) 0) ∙ same 1 ∙ later.begins),
      subst (λ k. ActFrom code b c k (acts_of t moves)) number
          (later.leads c (λ n. ap (λ k. c (k + n)) number ∙ ap c (plus_one (length r.acts) n) ∙ same (suc n))),
    )
      where
        number : length next_r.acts ≡ suc (length r.acts)
        number = ap length acts_are ∙ length_more r.acts x

  silent_on : (r : Progress S) (t : ℕ) (th last : ThreadState S) (v : Words) (moves : List TurnMove) (l : S) → r.core.threads t ≡ Some th
      → next_move code b th ≡ Quiet → quiet_step code th.local ≡ Some l → LeadsTo code b (after_silent r t th l) t moves last v
      → LeadsTo code b r t (silent ∷ moves) last v
  silent_on r t th last v moves l at is steps later = record {
    new = later.new;
    given = (after_silent r t th l, (th, at, gives), later.given);
    words = later.words;
    thread = later.thread;
    others = λ u other apart. later.others u other apart.1 ∙ set_at-other r.core.threads t (Some (after_quiet th l)) u other;
    keeps = later.keeps;
    acts = later.acts ∙ append_assoc r.acts (quiet t ∷ []) (acts_of t moves);
    cores = or_later r.core later.cores;
    begins = refl;
    ends = later.ends;
    leads = lead_on r (after_silent r t th l) (quiet t) moves t last v later refl acts;
  }
    where
      gives : GivesBy code b r t th (next_move code b th) turn_end.Other (after_silent r t th l)
      gives = subst (λ move. GivesBy code b r t th move turn_end.Other (after_silent r t th l)) (sym is)
          (subst (λ o. GivesQuiet r t th o turn_end.Other (after_silent r t th l)) (sym steps) (refl, refl))

      acts : (c : ℕ → Core S) → c (length r.acts) ≡ r.core → c (suc (length r.acts)) ≡ (after_silent r t th l).core → ActAt code b c (length r.acts) (quiet t)
      acts c here next = record {
        from = th;
        local = l;
        stands = ap (λ (x : Core S). x.threads t) here ∙ at;
        move = is;
        step = steps;
        leads = next ∙ ap (λ (x : Core S). record x { threads = set_at x.threads t (Some (after_quiet th l)) }) (sym here);
      }

  made_on : (r : Progress S) (t : ℕ) (th last : ThreadState S) (v : Words) (moves : List TurnMove) (next : Next) (step : Step) (answer : StepAnswer) (tells : Told)
      → r.core.threads t ≡ Some th → next_move code b th ≡ Make step → answer ≡ answer_of r.core.words step → tells ≡ told code b th step answer
      → LeadsTo code b (after_step code b r t th step answer) t moves last v → LeadsTo code b r t (made next step answer tells ∷ moves) last v
  made_on r t th last v moves next step answer tells at is answered tells_is later = record {
    new = later.new;
    given = (after_step code b r t th step answer, (th, at, gives), later.given);
    words = later.words;
    thread = later.thread;
    others = λ u other apart. later.others u other apart.1
        ∙ threads_stay code step th.local (set_at r.core.threads t (Some (after_answer code b th step answer))) u next answer tells apart.0
        ∙ set_at-other r.core.threads t (Some (after_answer code b th step answer)) u other;
    keeps = later.keeps;
    acts = later.acts ∙ append_assoc r.acts (did t step answer ∷ []) (acts_of t moves);
    cores = or_later r.core later.cores;
    begins = refl;
    ends = later.ends;
    leads = lead_on r (after_step code b r t th step answer) (did t step answer) moves t last v later refl acts;
  }
    where
      gives : GivesBy code b r t th (next_move code b th) (end_of step tells) (after_step code b r t th step answer)
      gives = subst (λ move. GivesBy code b r t th move (end_of step tells) (after_step code b r t th step answer)) (sym is)
          (ap (λ x. end_of step x) (tells_is ∙ ap (λ a. told code b th step a) answered), ap (λ a. after_step code b r t th step a) answered)

      acts : (c : ℕ → Core S) → c (length r.acts) ≡ r.core → c (suc (length r.acts)) ≡ (after_step code b r t th step answer).core → ActAt code b c (length r.acts) (did t step answer)
      acts c here next = record {
        from = th;
        stands = ap (λ (x : Core S). x.threads t) here ∙ at;
        move = is;
        answered = answered ∙ ap (λ (x : Core S). answer_of x.words step) (sym here);
        leads = next ∙ ap (λ (x : Core S). core_after code b (length r.acts) x t th step answer) (sym here);
      }

  given_each : (moves : List TurnMove) (t : ℕ) (last : ThreadState S) (v : Words) (r : Progress S) (th : ThreadState S) → r.core.threads t ≡ Some th
      → Turns code b IsStepOnWords th r.core.words moves last v → AreApart t moves → LeadsTo code b r t moves last v
  given_each [] t last v r th at (same, words) apart = record {
    new = r;
    given = refl;
    words = sym words;
    thread = at ∙ ap Some (sym same);
    others = λ u other apart. refl;
    keeps = refl;
    acts = append_none r.acts;
    cores = λ n. r.core;
    begins = refl;
    ends = refl;
    leads = λ c same. tt;
  }
  given_each (silent ∷ moves) t last v r th at (l, is, steps, turns) apart =
      silent_on r t th last v moves l at is steps
      (given_each moves t last v (after_silent r t th l) (after_quiet th l) (set_at-hit r.core.threads t (Some (after_quiet th l))) turns apart.1)
  given_each (made next step answer tells ∷ moves) t last v r th at (z, wants, is, stepped, can, tells_is, turns) apart =
      made_on r t th last v moves next step answer tells at is stepped.answers tells_is
      (given_each moves t last v (after_step code b r t th step answer) (after_answer code b th step answer)
      (threads_stay code step th.local (set_at r.core.threads t (Some (after_answer code b th step answer))) t next answer tells apart.0
      ∙ set_at-hit r.core.threads t (Some (after_answer code b th step answer)))
      (subst (λ w. Turns code b IsStepOnWords (after_answer code b th step answer) w moves last v) stepped.leaves turns) apart.1)

pub turns_given : {S : Type 0} (code : Code S) → TurnsAreGiven code
turns_given code b r t th last v moves at turns apart = given_each code b moves t last v r th at turns apart
