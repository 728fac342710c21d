-- A turn that leaves the words and the other threads as they were leaves the list of the threads that can go on.
use Rattle.std.proofs.Common.{◌≡◌, ◌≢◌, ℕ, Bool, true, false, Option, None, Some, List, [], refl, sym, ◌∙◌, ap, subst, nat_eq, arith}
use Rattle.std.proofs.lemmas.Grind.{common_steps}
use Rattle.std.proofs.lemmas.Bool.Decides.{nat_tests}
use Rattle.op_core.specs.ThreadCode.{Code, quiet_step}
use Rattle.op_core.specs.OrdinaryState.{set_at}
use Rattle.op_core.proofs.PointwiseLemmas.{set_at-other}
use Rattle.op_core.specs.declared.Next.{Next}
use Rattle.op_core.specs.declared.Next.TheVariants.{Want}
use Rattle.op_core.specs.declared.Op.TheVariants.{Notify}
use Rattle.op_core.specs.declared.Reply.{Reply}
use Rattle.schedules.specs.declared.order.TurnEnd.{TurnEnd}
use Rattle.schedules.specs.Run.{AreThose}
use Rattle.step_port.specs.declared.answer.StepAnswer.{StepAnswer}
use Rattle.step_port.specs.declared.answer.StepAnswer.TheVariants.{Found, Done, Lost}
use Rattle.step_port.specs.declared.step.Effect.{Effect}
use Rattle.step_port.specs.declared.step.Effect.TheVariants.{Load}
use Rattle.step_port.specs.declared.step.Step.{Step}
use Rattle.step_port.specs.declared.step.Step.TheVariants.{LoadWord, LoadSection, LoadMonitor, LoadThread, LoadWait, LoadClass, Split}
use Rattle.step_port.specs.Steps.{place_of, effect_of, kind_of}
use Rattle.step_port.specs.Words.{Words, put_by, answer_of}
use Rattle.thread_automaton.specs.declared.Bounds.{Bounds}
use Rattle.thread_automaton.specs.declared.Move.{Move}
use Rattle.thread_automaton.specs.declared.Move.TheVariants.{Over, Quiet, Stop, Make}
use Rattle.thread_automaton.specs.ThreadState.{ThreadState}
use Rattle.thread_automaton.specs.NextMove.{next_move}
use Rattle.thread_automaton.specs.Changes.{Change, has_to_wait}
use Rattle.thread_automaton.specs.Told.{Told, lost, blocked, told_by, told_unseen, told_of, told}
use Rattle.plain_words.specs.declared.plain.PlainWords.{PlainWords}
use Rattle.plain_words.specs.Table.{words_in}
use Rattle.thread_moves.specs.declared.thread.JThread.{JThread}
use Rattle.core_runs.specs.Cores.{threads_by}
use Rattle.section_laws.proofs.WordLemmas as words
use Rattle.word_runs.specs.WordTurns.{Progress, GivesBy, GivesQuiet, end_of}
use Rattle.word_machine.specs.Machine.{threads_in, is_enabled_in}
use Rattle.word_machine.specs.Turns.{GivesTurn}
use Rattle.sched_core.specs.ScheduledRun.{CanGoOn, is_load, leaves_words}

-- after the turn of thread t the words and the other threads are as they were
record Stays {S : Type 0} (t : ℕ) (r next : Progress S) : Type 0 where
  words : next.core.words ≡ r.core.words
  others : (u : ℕ) → u ≢ t → next.core.threads u ≡ r.core.threads u

-- a step of such a kind is a load, and hands no thread out
record IsPlainLoad {S : Type 0} (code : Code S) (step : Step) : Type 0 where
  load : effect_of step ≡ Load
  threads : (l : S) (threads : ℕ → Option (ThreadState S)) → threads_by code step l threads ≡ threads

plain_load : {S : Type 0} (code : Code S) (step : Step) → is_load (kind_of step) ≡ true → IsPlainLoad code step
plain_load code (LoadWord at) is = record { load = refl; threads = λ l threads. refl }
plain_load code (LoadSection s) is = record { load = refl; threads = λ l threads. refl }
plain_load code (LoadMonitor r) is = record { load = refl; threads = λ l threads. refl }
plain_load code (LoadThread which) is = record { load = refl; threads = λ l threads. refl }
plain_load code (LoadWait n) is = record { load = refl; threads = λ l threads. refl }
plain_load code (LoadClass c) is = record { load = refl; threads = λ l threads. refl }
plain_load code step is = absurd (cc)

loads_leave : (e : Effect) (w : Words) (step : Step) → e ≡ Load → put_by e w (place_of step) ≡ w
loads_leave e w step is = ap (λ x. put_by x w (place_of step)) is

-- a step whose exchange was lost hands no thread out
lost_hands_none : {S : Type 0} (code : Code S) (step : Step) (w : Words) (v : ℕ) → answer_of w step ≡ Lost v → (l : S) (threads : ℕ → Option (ThreadState S)) → threads_by code step l threads ≡ threads
lost_hands_none code (Split n r p) w v is l threads = absurd (cc)
lost_hands_none code step w v is l threads = refl

by_not_lost : (step : Step) (effect : Effect) (next : Next) (v : ℕ) → lost v ≡ told_by step effect next → ⊥
by_not_lost (LoadWait n) effect (Want (Notify r)) v is = cc
by_not_lost step Load next v is = cc
by_not_lost step effect next v is = cc

unseen_not_lost : (next : Next) (step : Step) (change : Change) (v : ℕ) → lost v ≡ told_unseen next step change → ⊥
unseen_not_lost next step (has_to_wait why) v is = cc
unseen_not_lost next step change v is = by_not_lost step (effect_of step) next v is

-- only a lost exchange is told as one
found_not_lost : (next : Next) (step : Step) (x : ℕ) (change : Change) (reply : Option Reply) (v : ℕ) → lost v ≡ told_of next step (Found x) change reply → ⊥
found_not_lost next (Split n r p) x change reply v is = cc
found_not_lost next step x change (Some reply) v is = cc
found_not_lost next step x change None v is = unseen_not_lost next step change v is

done_not_lost : (next : Next) (step : Step) (change : Change) (reply : Option Reply) (v : ℕ) → lost v ≡ told_of next step Done change reply → ⊥
done_not_lost next (Split n r p) change reply v is = cc
done_not_lost next step change (Some reply) v is = cc
done_not_lost next step change None v is = unseen_not_lost next step change v is

module _ {S : Type 0} (code : Code S) (b : Bounds) (r next : Progress S) (t : ℕ) (th : ThreadState S) (comes : TurnEnd) (leaves : leaves_words comes ≡ true) where
  others_by : (step : Step) → ((l : S) (threads : ℕ → Option (ThreadState S)) → threads_by code step l threads ≡ threads) → (last : Option (ThreadState S)) (u : ℕ) → u ≢ t
      → threads_by code step th.local (set_at r.core.threads t last) u ≡ r.core.threads u
  others_by step none last u other = ap (λ f. f u) (none th.local (set_at r.core.threads t last)) ∙ set_at-other r.core.threads t last u other

  by_made : (step : Step) → GivesBy code b r t th (Make step) comes next → is_load (kind_of step) ≡ true → Stays t r next
  by_made step gives is =
      let plain = plain_load code step is in
      record {
        words = ap (λ (n : Progress S). n.core.words) gives.1 ∙ loads_leave (effect_of step) r.core.words step plain.load;
        others = λ u other. ap (λ (n : Progress S). n.core.threads u) gives.1 ∙ others_by step plain.threads _ u other;
      }

  by_lost : (step : Step) (v : ℕ) → GivesBy code b r t th (Make step) comes next → answer_of r.core.words step ≡ Lost v → Stays t r next
  by_lost step v gives is = record {
    words = ap (λ (n : Progress S). n.core.words) gives.1 ∙ words.lost (effect_of step) r.core.words (place_of step) v (sym is);
    others = λ u other. ap (λ (n : Progress S). n.core.threads u) gives.1 ∙ others_by step (lost_hands_none code step r.core.words v is) _ u other;
  }

  by_answer : (step : Step) (a : StepAnswer) → answer_of r.core.words step ≡ a → (tells : Told) → tells ≡ told code b th step a → comes ≡ end_of step tells → GivesBy code b r t th (Make step) comes next → Stays t r next
  by_answer step (Lost v) is tells told_is ends_as gives = by_lost step v gives is
  by_answer step (Found x) is (lost v) told_is ends_as gives = absurd (found_not_lost (code.next th.local) step x _ _ v told_is)
  by_answer step Done is (lost v) told_is ends_as gives = absurd (done_not_lost (code.next th.local) step _ _ v told_is)
  by_answer step a is (blocked why) told_is ends_as gives = let no : leaves_words comes ≡ false = ap leaves_words ends_as in absurd (cc)
  by_answer step a is tells told_is ends_as gives = by_made step gives (sym (ap leaves_words ends_as) ∙ leaves)

  by_quiet : (l : Option S) → GivesQuiet r t th l comes next → Stays t r next
  by_quiet None gives = let no : leaves_words comes ≡ false = ap leaves_words gives.0 in absurd (cc)
  by_quiet (Some l) gives = record {
    words = ap (λ (n : Progress S). n.core.words) gives.1;
    others = λ u other. ap (λ (n : Progress S). n.core.threads u) gives.1 ∙ set_at-other r.core.threads t _ u other;
  }

  by_move : (m : Move) → GivesBy code b r t th m comes next → Stays t r next
  by_move Over gives = record { words = ap (λ (n : Progress S). n.core.words) gives.1; others = λ u other. ap (λ (n : Progress S). n.core.threads u) gives.1 }
  by_move (Stop limit) gives = let no : leaves_words comes ≡ false = ap leaves_words gives.0 in absurd (cc)
  by_move Quiet gives = by_quiet (quiet_step code th.local) gives
  by_move (Make step) gives = by_answer step (answer_of r.core.words step) refl (told code b th step (answer_of r.core.words step)) refl gives.0 gives

module _ {C S : Type 0} (code : Code S) (meant : JThread C → ThreadState S) (b : Bounds) (w new : PlainWords) (places placed : List (Option (JThread C))) (t : ℕ) (comes : TurnEnd) where
  -- any run whose core is in memory
  abbrev any_run : Progress S
  any_run = record {
    acts = [];
    core = record { words = words_in w; threads = threads_in meant places; starting = λ u. None; objects = λ r. None; levels = λ u. []; lines = [] };
    shown = 0;
    keeps = false;
  }

  record InMemory : Type 0 where
    words : words_in new ≡ words_in w
    others : (u : ℕ) → u ≢ t → threads_in meant placed u ≡ threads_in meant places u

  stays : leaves_words comes ≡ true → GivesTurn code meant b w places t comes new placed → InMemory
  stays leaves gives =
      let (next, (th, there, by), core) = gives any_run (record { words = refl; threads = refl }) in
      let same = by_move code b any_run next t th comes leaves (next_move code b th) by in
      record {
        words = sym core.words ∙ same.words;
        others = λ u other. ap (λ f. f u) (sym core.threads) ∙ same.others u other;
      }

  pub list_stays : leaves_words comes ≡ true → GivesTurn code meant b w places t comes new placed → CanGoOn code meant w places t → CanGoOn code meant new placed t
      → (threads : List ℕ) → AreThose (CanGoOn code meant w places) threads → AreThose (CanGoOn code meant new placed) threads
  list_stays leaves gives could can threads those = record {
    rising = those.rising;
    each = λ u. (λ there. after u ((those.each u).0 there), λ able. (those.each u).1 (before u able));
  }
    where
      same : (u : ℕ) → u ≢ t → is_enabled_in code (words_in new) (threads_in meant placed u) ≡ is_enabled_in code (words_in w) (threads_in meant places u)
      same u other =
          let mem = stays leaves gives in
          ap (λ v. is_enabled_in code v (threads_in meant placed u)) mem.words ∙ ap (is_enabled_in code (words_in w)) (mem.others u other)

      is_t : (u : ℕ) → nat_eq u t ≡ true → u ≡ t
      is_t u is = grind (arith, common_steps, nat_tests)

      not_t : (u : ℕ) → nat_eq u t ≡ false → u ≢ t
      not_t u is = λ same. grind (arith, common_steps, nat_tests)

      after_by : (u : ℕ) (test : Bool) → nat_eq u t ≡ test → CanGoOn code meant w places u → CanGoOn code meant new placed u
      after_by u true is able = subst (CanGoOn code meant new placed) (sym (is_t u is)) can
      after_by u false is able = same u (not_t u is) ∙ able

      after : (u : ℕ) → CanGoOn code meant w places u → CanGoOn code meant new placed u
      after u able = after_by u (nat_eq u t) refl able

      before_by : (u : ℕ) (test : Bool) → nat_eq u t ≡ test → CanGoOn code meant new placed u → CanGoOn code meant w places u
      before_by u true is able = subst (CanGoOn code meant w places) (sym (is_t u is)) could
      before_by u false is able = sym (same u (not_t u is)) ∙ able

      before : (u : ℕ) → CanGoOn code meant new placed u → CanGoOn code meant w places u
      before u able = before_by u (nat_eq u t) refl able
