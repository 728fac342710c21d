-- Acts on the words of classes.
use Rattle.std.proofs.Common.{◌≡◌, ℕ, zero, suc, ◌+◌, ◌<◌, ◌≤◌, ◌^◌, nat_eq, Bool, true, false, List, refl, sym, ◌∙◌, ap, subst, arith}
use Rattle.std.specs.Prelude.{if◌then◌else◌}
use Rattle.std.proofs.lemmas.Grind.{common_steps}
use Rattle.std.proofs.lemmas.Bool.Decides.{nat_tests}
use Rattle.op_core.specs.declared.Op.TheVariants.{Init, InitDone}
use Rattle.op_core.specs.declared.Reply.{Reply}
use Rattle.op_core.specs.declared.Reply.TheVariants.{Ready, Bad, Claimed}
use Rattle.op_core.specs.declared.Next.{Next}
use Rattle.op_core.specs.declared.Next.TheVariants.{Want}
use Rattle.op_core.specs.ThreadCode.{Code}
use Rattle.op_core.specs.OrdinaryState.{set_at, ClassState, unready, claimed, ready, bad, live, IsOpenClass, OrdinaryState}
use Rattle.op_core.specs.OrdinaryStep.{AnswersInit, classes_after}
use Rattle.heap_words.specs.declared.areas.Area.{Area}
use Rattle.heap_words.specs.declared.words.ClassWord.TheVariants as class_words
use Rattle.heap_words.specs.Words.{class_word, class_state, class_thread, class_word_of}
use Rattle.step_port.specs.declared.answer.StepAnswer.{StepAnswer}
use Rattle.step_port.specs.declared.answer.StepAnswer.TheVariants.{Found}
use Rattle.step_port.specs.declared.step.Step.{Step}
use Rattle.step_port.specs.declared.step.Step.TheVariants.{LoadClass, ClaimClass, SettleClass}
use Rattle.step_port.specs.Steps.{effect_of}
use Rattle.step_port.specs.Words.{Words, put_at, words_after}
use Rattle.ordinary_words.specs.Reading.{class_of}
use Rattle.thread_automaton.specs.declared.Bounds.{Bounds}
use Rattle.thread_automaton.specs.ThreadState.{ThreadState}
use Rattle.thread_automaton.specs.Changes.{Change, replies}
use Rattle.core_runs.specs.Cores.{Core}
use Rattle.core_runs.specs.Acts.{Act}
use Rattle.core_runs.specs.Reading.{ordinary}
use Rattle.section_laws.proofs.WordLemmas.{Exchanged, exchanged, stays_at}
use Rattle.section_laws.proofs.ClaimLemmas.{found_is}
use Rattle.section_laws.proofs.run_threads.NumberLemmas.{threads_are_numbered}
use Rattle.first_law.specs.InPlace.{IsSeenRun}
use Rattle.first_law.proofs.TurnLemmas.{keeps_load, words_part, starts_part, monitors_part, waiting_part, threads_part}
use Rattle.first_law.proofs.EntryLemmas.{HasEntry, Done, did_at, live_from, then_live, depth_is, event_entry}
use Rattle.first_law.proofs.ReplyLemmas.{kept_entry}
use Rattle.first_law.proofs.ThreadRows.{low}
use Rattle.first_law.proofs.ClassLemmas.{state_in, thread_in_word, state_zero, classes_at}

-- how far a class of this state is
abbrev stage : ℕ → ℕ → ClassState
stage s thread = if nat_eq s 1 then claimed thread else if nat_eq s 2 then ready else if nat_eq s 3 then bad else unready

is_equal : (m n : ℕ) → nat_eq m n ≡ true → m ≡ n
is_equal m n is = grind (arith, common_steps, nat_tests)

-- a state that is none of the others is that of a class that is claimed
is_one : (s : ℕ) → s ≤ 3 → nat_eq s 2 ≡ false → nat_eq s 3 ≡ false → nat_eq s 0 ≡ false → s ≡ 1
is_one zero low not_two not_three not_zero = cc
is_one (suc zero) low not_two not_three not_zero = refl
is_one (suc (suc zero)) low not_two not_three not_zero = cc
is_one (suc (suc (suc zero))) low not_two not_three not_zero = cc
is_one (suc (suc (suc (suc s)))) low not_two not_three not_zero = absurd (no s low)
  where
    no : (s : ℕ) → suc (suc (suc (suc s))) ≤ 3 → ⊥
    no s low = omega (arith, low)

module _ {S : Type 0} (code : Code S) (b : Bounds) (is_thread : ℕ → Bool) (first : S) (classes : ℕ) (c : ℕ → Core S) (acts : List Act) (run : IsSeenRun code b is_thread first classes c acts) (k t : ℕ)
    (th : ThreadState S) where
  abbrev Does : Next → Step → StepAnswer → Change → Type 0
  Does next step a change = Done code b is_thread first classes c acts run k t th next step a change

  abbrev Seen : Step → StepAnswer → Type 0
  Seen step a = HasEntry code b is_thread first classes c acts run k t th step a

  abbrev state : OrdinaryState S
  state = ordinary code is_thread (c k)

  own_number : {next : Next} {step : Step} {a : StepAnswer} {change : Change} → Does next step a change → (th.number ≡ t) × (t < 2 ^ 8)
  own_number act =
      let numbered = threads_are_numbered code b c acts run.levelled.ordered.run run.levelled.numbered k (low code b is_thread first classes c acts run k t th act) in
      (numbered.own t th act.stands, numbered.low t th act.stands)

  -- the class is at this stage
  class_so : {d w : ℕ} {next : Next} {change : Change} → Does next (LoadClass d) (Found w) change → (s : ℕ) → class_state w ≡ s → state.classes d ≡ stage s (class_thread w)
  class_so {d} {w} act s is = ap class_of (sym (found_is w ((c k).words (Area.Class d)) act.answered)) ∙ ap (λ n. stage n (class_thread w)) is

  pub ready_row : {d w : ℕ} → Does (Want (Init d)) (LoadClass d) (Found w) (replies Ready) → nat_eq (class_state w) 2 ≡ true → Seen (LoadClass d) (Found w)
  ready_row {d} {w} act two =
      let is : state.classes d ≡ ready = class_so act 2 (is_equal (class_state w) 2 two) in
      kept_entry code b is_thread first classes c acts run k t th act (Init d) Ready refl refl tt tt (subst (IsOpenClass t) (sym is) tt) (subst (λ x. AnswersInit t x Ready) (sym is) tt)
      (keeps_load (LoadClass d) (c k).words refl) refl (λ f. refl) (λ f. refl) (λ xs. refl) (λ f. refl) refl

  pub bad_row : {d w : ℕ} → Does (Want (Init d)) (LoadClass d) (Found w) (replies Bad) → nat_eq (class_state w) 3 ≡ true → Seen (LoadClass d) (Found w)
  bad_row {d} {w} act three =
      let is : state.classes d ≡ bad = class_so act 3 (is_equal (class_state w) 3 three) in
      kept_entry code b is_thread first classes c acts run k t th act (Init d) Bad refl refl tt tt (subst (IsOpenClass t) (sym is) tt) (subst (λ x. AnswersInit t x Bad) (sym is) tt)
      (keeps_load (LoadClass d) (c k).words refl) refl (λ f. refl) (λ f. refl) (λ xs. refl) (λ f. refl) refl

  pub claimed_row : {d w : ℕ} → Does (Want (Init d)) (LoadClass d) (Found w) (replies Ready) → nat_eq (class_state w) 2 ≡ false → nat_eq (class_state w) 3 ≡ false → nat_eq (class_state w) 0 ≡ false
      → nat_eq (class_thread w) th.number ≡ true → Seen (LoadClass d) (Found w)
  claimed_row {d} {w} act not_two not_three not_zero own =
      let word : w ≡ (c k).words (Area.Class d) = found_is w ((c k).words (Area.Class d)) act.answered in
      let few : class_state w ≤ 3 = subst (λ m. class_state m ≤ 3) (sym word) (classes_at code b c acts run.levelled.ordered.run run.class_words k (low code b is_thread first classes c acts run k t th act) d) in
      let is : state.classes d ≡ claimed (class_thread w) = class_so act 1 (is_one (class_state w) few not_two not_three not_zero) in
      let owner : class_thread w ≡ t = is_equal (class_thread w) th.number own ∙ (own_number act).0 in
      kept_entry code b is_thread first classes c acts run k t th act (Init d) Ready refl refl tt tt (subst (IsOpenClass t) (sym is) owner) (subst (λ x. AnswersInit t x Ready) (sym is) owner)
      (keeps_load (LoadClass d) (c k).words refl) refl (λ f. refl) (λ f. refl) (λ xs. refl) (λ f. refl) refl

  -- ---- classes that are claimed and settled

  put_class : (v : Words) (d new : ℕ) (x : ClassState) → ((e : ℕ) → v (Area.Class e) ≡ put_at (c k).words (Area.Class d) new (Area.Class e)) → class_of new ≡ x
      → (e : ℕ) → class_of (v (Area.Class e)) ≡ set_at state.classes d x e
  put_class v d new x puts is e = ap class_of (puts e) ∙ by_test (nat_eq e d)
    where
      by_test : (p : Bool) → class_of (if p then new else (c k).words (Area.Class e)) ≡ (if p then x else state.classes e)
      by_test true = is
      by_test false = refl

  pub claim_row : {d : ℕ} → Does (Want (Init d)) (ClaimClass d th.number) StepAnswer.Done (replies Claimed) → Seen (ClaimClass d th.number) StepAnswer.Done
  claim_row {d} act = event_entry code b is_thread first classes c acts run k t th act (Init d) Claimed refl refl tt tt (subst (IsOpenClass t) (sym was) tt) (subst (λ x. AnswersInit t x Claimed) (sym was) tt) (record {
    objects = λ q. refl;
    words = λ q i. words_part code b is_thread first classes c acts run k t (ClaimClass d th.number) StepAnswer.Done act.here (did_at code b is_thread first classes c acts run k t th act) object q i;
    monitors = λ q. monitors_part code b is_thread first classes c acts run k t (ClaimClass d th.number) StepAnswer.Done act.here (did_at code b is_thread first classes c acts run k t th act) q (λ o there. object (q + 1));
    waiting = λ u. waiting_part code b is_thread first classes c acts run k t (ClaimClass d th.number) StepAnswer.Done act.here (did_at code b is_thread first classes c acts run k t th act)
        (depth_is code b is_thread first classes c acts run k t th act) (λ u. stays_at (effect_of (ClaimClass d th.number)) (c k).words (Area.Class d) (Area.Wait u) refl) u;
    classes = put_class (words_after (ClaimClass d th.number) (c k).words) d (class_word 1 th.number) (claimed t) (λ e. ap (λ (x : Words). x (Area.Class e)) done.leaves) then_so;
    starts = λ q. starts_part code b is_thread first classes c acts run k t (ClaimClass d th.number) StepAnswer.Done act.here (did_at code b is_thread first classes c acts run k t th act) object q;
    threads = λ u. threads_part code b is_thread first classes c acts run k t (ClaimClass d th.number) StepAnswer.Done act.here (did_at code b is_thread first classes c acts run k t th act) (live (code.reply th.local Claimed))
        (then_live code b is_thread first classes c acts run k t th act ((c k).starting t) (code.reply th.local Claimed) (live_from code b is_thread first classes c acts run k t th act) refl) u;
    lines = refl;
  })
    where
      done : Exchanged (c k).words (Area.Class d) 0 (class_word 1 th.number)
      done = exchanged (c k).words (Area.Class d) 0 (class_word 1 th.number) act.answered

      object : (p : ℕ) → words_after (ClaimClass d th.number) (c k).words (Area.Object p) ≡ (c k).words (Area.Object p)
      object p = stays_at (effect_of (ClaimClass d th.number)) (c k).words (Area.Class d) (Area.Object p) refl

      was : state.classes d ≡ unready
      was = ap class_of (exchanged (c k).words (Area.Class d) 0 (class_word 1 th.number) act.answered).found ∙ ap (λ n. stage n (class_thread 0)) state_zero

      then_so : class_of (class_word 1 th.number) ≡ claimed t
      then_so = ap (λ n. stage n (class_thread (class_word 1 th.number))) (state_in 1 th.number (omega arith))
          ∙ ap claimed (thread_in_word 1 th.number (omega arith) (subst (λ m. m < 2 ^ 8) (sym (own_number act).0) (own_number act).1) ∙ (own_number act).0)

  module _ {d : ℕ} {ok : Bool} (act : Does (Want (InitDone d ok)) (SettleClass d (class_word_of (if ok then class_words.Ready else class_words.Bad))) StepAnswer.Done (replies Reply.Done)) where
    abbrev settle : Step
    settle = SettleClass d (class_word_of (if ok then class_words.Ready else class_words.Bad))

    -- all but the classes
    settled_entry : (x : ClassState) → class_of (class_word_of (if ok then class_words.Ready else class_words.Bad)) ≡ x
        → classes_after t (InitDone d ok) Reply.Done state ≡ set_at state.classes d x → Seen settle StepAnswer.Done
    settled_entry x is after_is = event_entry code b is_thread first classes c acts run k t th act (InitDone d ok) Reply.Done refl refl tt tt tt tt (record {
      objects = λ q. refl;
      words = λ q i. words_part code b is_thread first classes c acts run k t settle StepAnswer.Done act.here (did_at code b is_thread first classes c acts run k t th act) (λ p. refl) q i;
      monitors = λ q. monitors_part code b is_thread first classes c acts run k t settle StepAnswer.Done act.here (did_at code b is_thread first classes c acts run k t th act) q (λ o there. refl);
      waiting = λ u. waiting_part code b is_thread first classes c acts run k t settle StepAnswer.Done act.here (did_at code b is_thread first classes c acts run k t th act)
          (depth_is code b is_thread first classes c acts run k t th act) (λ u. refl) u;
      classes = λ e. put_class (words_after settle (c k).words) d (class_word_of (if ok then class_words.Ready else class_words.Bad)) x (λ e. refl) is e ∙ ap (λ f. f e) (sym after_is);
      starts = λ q. starts_part code b is_thread first classes c acts run k t settle StepAnswer.Done act.here (did_at code b is_thread first classes c acts run k t th act) (λ p. refl) q;
      threads = λ u. threads_part code b is_thread first classes c acts run k t settle StepAnswer.Done act.here (did_at code b is_thread first classes c acts run k t th act) (live (code.reply th.local Reply.Done))
          (then_live code b is_thread first classes c acts run k t th act ((c k).starting t) (code.reply th.local Reply.Done) (live_from code b is_thread first classes c acts run k t th act) refl) u;
      lines = refl;
    })

  pub settle_row : {d : ℕ} {ok : Bool} → Does (Want (InitDone d ok)) (SettleClass d (class_word_of (if ok then class_words.Ready else class_words.Bad))) StepAnswer.Done (replies Reply.Done)
      → Seen (SettleClass d (class_word_of (if ok then class_words.Ready else class_words.Bad))) StepAnswer.Done
  settle_row {d = d} {ok = true} act = settled_entry act ready (ap (λ n. stage n (class_thread (class_word 2 0))) (state_in 2 0 (omega arith))) refl
  settle_row {d = d} {ok = false} act = settled_entry act bad (ap (λ n. stage n (class_thread (class_word 3 0))) (state_in 3 0 (omega arith))) refl
