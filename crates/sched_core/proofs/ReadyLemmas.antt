-- Wherever turns of one thread lead from a place of a run, they can go on.
use Rattle.std.proofs.Common.{◌≡◌, ◌≢◌, ℕ, Bool, true, false, Option, None, Some, List, [], ◌∷◌, refl, sym, ◌∙◌, ap, subst}
use Rattle.op_core.specs.declared.Op.TheVariants.{End}
use Rattle.op_core.specs.declared.Next.{Next}
use Rattle.op_core.specs.declared.Next.TheVariants.{Want}
use Rattle.op_core.specs.ThreadCode.{Code}
use Rattle.heap_words.specs.declared.areas.Areas.{Areas}
use Rattle.heap_words.specs.Areas.{IsIn}
use Rattle.step_port.specs.declared.answer.StepAnswer.{StepAnswer}
use Rattle.step_port.specs.declared.step.Step.{Step}
use Rattle.step_port.specs.declared.step.Step.TheVariants.{Split}
use Rattle.step_port.specs.Steps.{place_of, effect_of}
use Rattle.step_port.specs.Words.{Words, answer_of, IsStepOnWords}
use Rattle.thread_automaton.specs.declared.Bounds.{Bounds}
use Rattle.thread_automaton.specs.declared.Move.TheVariants.{Over, Make}
use Rattle.thread_automaton.specs.ThreadState.{ThreadState}
use Rattle.thread_automaton.specs.NextMove.{next_move}
use Rattle.thread_automaton.specs.Told.{Told, after_answer, after_quiet}
use Rattle.plain_words.specs.declared.plain.PlainWords.{PlainWords}
use Rattle.plain_words.specs.Table.{words_in, MayStep, Stepped, HasRoom}
use Rattle.core_runs.specs.Cores.{Core}
use Rattle.thread_moves.specs.Thread.{CanBeAsked}
use Rattle.thread_moves.specs.Change.{NamesThread}
use Rattle.turn_runs.specs.Turns.{TurnMove, silent, made, Turns, CanTurn, StaysReady}
use Rattle.word_runs.specs.WordTurns.{Progress}
use Rattle.word_runs.specs.Laws.{AreActs}
use Rattle.turn_run_laws.specs.GivenTurns.{IsApart, LeadsTo}
use Rattle.turn_run_laws.proofs.GivenLemmas.{on_words, turns_given}
use Rattle.turn_run_laws.proofs.JoinLemmas.{turns_lead_on}
use Rattle.sched_core.specs.Readiness.{IsReady, IsWell, StaysWell}
use Rattle.sched_core.specs.ScheduledRun.{StaysApart}

-- turns leave the areas of the words as they are
pub areas_stay : {S : Type 0} (code : Code S) (b : Bounds) (moves : List TurnMove) (th last : ThreadState S) (x y : PlainWords) → Turns code b Stepped th x moves last y → y.areas ≡ x.areas
areas_stay code b [] th last x y (same, port) = ap (λ p. p.areas) port
areas_stay code b (silent ∷ moves) th last x y (l, is, steps, turns) = areas_stay code b moves (after_quiet th l) last x y turns
areas_stay code b (made next step answer tells ∷ moves) th last x y (z, wants, is, stepped, can, tells_is, turns) =
    areas_stay code b moves (after_answer code b th step answer) last z y turns ∙ stepped.areas

module _ {S : Type 0} (code : Code S) (b : Bounds) (areas : Areas) (core : Core S) (well : StaysWell code b areas core) (t : ℕ) where
  pub place_well : (r : Progress S) → AreActs code b core r → IsWell code b areas r.core
  place_well r are = subst (IsWell code b areas) are.ends (well are.cores r.acts are.begins are.leads)

  -- turns of thread t lead there from r, and leave the other threads as they were
  record Reached (r : Progress S) (last : ThreadState S) (v : Words) : Type 0 where
    next : Progress S
    acts : AreActs code b core next
    thread : next.core.threads t ≡ Some last
    words : next.core.words ≡ v
    others : (u : ℕ) (uh : ThreadState S) → u ≢ t → r.core.threads u ≡ Some uh → next.core.threads u ≡ Some uh

  -- a step hands out no thread that is there
  pub hands_none : (r : Progress S) (th uh : ThreadState S) (u : ℕ) (next : Next) (step : Step) (answer : StepAnswer) (tells : Told) → AreActs code b core r → r.core.threads t ≡ Some th → r.core.threads u ≡ Some uh
      → next_move code b th ≡ Make step → IsApart u (made next step answer tells)
  hands_none r th uh u next (Split n q p) answer tells are at there is = λ same.
      let none : r.core.threads n ≡ None = (place_well r are).new t th n q p at is in
      let both : Some uh ≡ None = sym there ∙ ap r.core.threads same ∙ none in
      absurd (cc)
  hands_none r th uh u next step answer tells are at there is = tt

  one_move : (r : Progress S) (th mid : ThreadState S) (z : Words) (move : TurnMove) → AreActs code b core r → r.core.threads t ≡ Some th → Turns code b IsStepOnWords th r.core.words (move ∷ []) mid z
      → ((u : ℕ) (uh : ThreadState S) → r.core.threads u ≡ Some uh → IsApart u move) → Reached r mid z
  one_move r th mid z move are at turns apart =
      let led : LeadsTo code b r t (move ∷ []) mid z = turns_given code b r t th mid z (move ∷ []) at turns (apart t th at, tt) in
      record {
        next = led.new;
        acts = turns_lead_on code b core r t mid z (move ∷ []) are led;
        thread = led.thread;
        words = led.words;
        others = λ u uh other there. led.others u other (apart u uh there, tt) ∙ there;
      }

  then_on : (r : Progress S) (mid last : ThreadState S) (z v : Words) → (first : Reached r mid z) → Reached first.next last v → Reached r last v
  then_on r mid last z v first later = record {
    next = later.next;
    acts = later.acts;
    thread = later.thread;
    words = later.words;
    others = λ u uh other there. later.others u uh other (first.others u uh other there);
  }

  reach : (moves : List TurnMove) (r : Progress S) (th last : ThreadState S) (v : Words) → AreActs code b core r → r.core.threads t ≡ Some th → Turns code b IsStepOnWords th r.core.words moves last v → Reached r last v
  reach [] r th last v are at (same, words) = record { next = r; acts = are; thread = at ∙ ap Some (sym same); words = sym words; others = λ u uh other there. there }
  reach (silent ∷ moves) r th last v are at (l, is, steps, turns) =
      let first = one_move r th (after_quiet th l) r.core.words silent are at (l, is, steps, (refl, refl)) (λ u uh there. tt) in
      then_on r (after_quiet th l) last r.core.words v first
      (reach moves first.next (after_quiet th l) last v first.acts first.thread (subst (λ w. Turns code b IsStepOnWords (after_quiet th l) w moves last v) (sym first.words) turns))
  reach (made next step answer tells ∷ moves) r th last v are at (z, wants, is, stepped, can, tells_is, turns) =
      let mid = after_answer code b th step answer in
      let first = one_move r th mid z (made next step answer tells) are at (z, wants, is, stepped, can, tells_is, (refl, refl))
      (λ u uh there. hands_none r th uh u next step answer tells are at there is) in
      then_on r mid last z v first
      (reach moves first.next mid last v first.acts first.thread (subst (λ w. Turns code b IsStepOnWords mid w moves last v) (sym first.words) turns))

  reached : (moves : List TurnMove) (r : Progress S) (th last : ThreadState S) (x y : PlainWords) → AreActs code b core r → r.core.threads t ≡ Some th → r.core.words ≡ words_in x
      → Turns code b Stepped th x moves last y → Reached r last (words_in y)
  reached moves r th last x y are at words turns =
      reach moves r th last (words_in y) are at
      (subst (λ w. Turns code b IsStepOnWords th w moves last (words_in y)) (sym words) (on_words code Stepped words_in (λ p step a q stepped. stepped.words) b th last x y moves turns))

  asked_when_over : (l : S) (next : Next) → (x : Option ℕ) × (next ≡ Want (End x)) → CanBeAsked code l next
  asked_when_over l next (x, is) = subst (CanBeAsked code l) (sym is) tt

  over_makes_none : (th : ThreadState S) (step : Step) → th.over ≡ true → next_move code b th ≡ Make step → ⊥
  over_makes_none th step over makes = let none : next_move code b th ≡ Over = over_is th over in absurd (cc)
    where
      over_is : (th : ThreadState S) → th.over ≡ true → next_move code b th ≡ Over
      over_is th over = ap (λ o. next_move code b (record th { over = o })) over

  can_turn_at : (r : Progress S) (th : ThreadState S) (x : PlainWords) → AreActs code b core r → r.core.threads t ≡ Some th → r.core.words ≡ words_in x → x.areas ≡ areas
      → CanTurn code b MayStep Stepped th x
  can_turn_at r th x are at words same_areas = by_over th.over refl
    where
      at_place : IsWell code b areas r.core
      at_place = place_well r are

      by_over : (over : Bool) → th.over ≡ over → CanTurn code b MayStep Stepped th x
      by_over true is = record {
        range = asked_when_over th.local (code.next th.local) (at_place.ended t th at is);
        allowed = λ step makes. absurd (over_makes_none th step is makes);
        names = λ step a y makes stepped. absurd (over_makes_none th step is makes);
      }
      by_over false is =
          let ready : IsReady code b areas r.core.words th = at_place.ready t th at is in
          record {
            range = ready.asked;
            allowed = λ step makes. record {
              there = subst (λ k. IsIn k (place_of step)) (sym same_areas) (ready.there step makes);
              room = subst (λ w. HasRoom (effect_of step) (w (place_of step))) words (ready.room step makes);
            };
            names = λ step a y makes stepped. subst (NamesThread step) (ap (λ w. answer_of w step) words ∙ sym stepped.words.answers) (ready.names step makes);
          }

  pub stays_ready : (r : Progress S) (th : ThreadState S) (x : PlainWords) → AreActs code b core r → r.core.threads t ≡ Some th → r.core.words ≡ words_in x → x.areas ≡ areas
      → StaysReady code b MayStep Stepped th x
  stays_ready r th x are at words same_areas = λ moves last y turns.
      let there = reached moves r th last x y are at words turns in
      can_turn_at there.next last y there.acts there.thread there.words (areas_stay code b moves th last x y turns ∙ same_areas)

  pub stays_apart : (r : Progress S) (th uh : ThreadState S) (u : ℕ) (x : PlainWords) → AreActs code b core r → r.core.threads t ≡ Some th → r.core.threads u ≡ Some uh → t ≢ u → r.core.words ≡ words_in x
      → StaysApart code b x th uh
  stays_apart r th uh u x are at there other words = λ moves last y turns place old new makes.
      let reach_there = reached moves r th last x y are at words turns in
      (place_well reach_there.next reach_there.acts).apart t u last uh place old new reach_there.thread (reach_there.others u uh (λ same. other (sym same)) there) makes
