-- At each place of a run each thread can make the step that comes next for it.
use Rattle.std.proofs.Common.{◌≡◌, ◌≢◌, ◌⊎◌, inl, inr, ℕ, ◌+◌, ◌-◌, ◌*◌, ◌^◌, ◌<◌, ◌≤◌, Bool, true, false, Some, List, length, refl, sym, ◌∙◌, ap, subst, arith}
use Rattle.std.specs.Prelude.{nat_le, nat_eq, if◌then◌else◌}
use Rattle.std.proofs.lemmas.Grind.{common_steps}
use Rattle.std.proofs.lemmas.Option.{same_Some}
use Rattle.std.proofs.lemmas.Bool.Decides.{leb_tells, nat_tests}
use Rattle.op_core.specs.declared.Limit.TheVariants.{Turns}
use Rattle.op_core.specs.declared.Op.{Op}
use Rattle.op_core.specs.declared.Op.TheVariants.{Enter, Rewake, Join}
use Rattle.op_core.specs.declared.Next.{Next}
use Rattle.op_core.specs.declared.Next.TheVariants.{Want}
use Rattle.op_core.specs.ThreadCode.{Code}
use Rattle.op_core.specs.OrdinaryState.{Object, ended, live}
use Rattle.op_core.specs.InPlaceList.{IsSound}
use Rattle.op_core.specs.Orderly.{CanStand, KeepsStartWord}
use Rattle.heap_words.specs.declared.areas.Area.{Area}
use Rattle.heap_words.specs.declared.areas.Area.TheVariants.{Control}
use Rattle.heap_words.specs.declared.areas.Areas.{Areas}
use Rattle.heap_words.specs.Areas.{IsIn}
use Rattle.heap_words.specs.Words.{value_of}
use Rattle.step_port.specs.declared.step.ThreadWord.{ThreadWord}
use Rattle.step_port.specs.declared.step.Step.{Step}
use Rattle.step_port.specs.declared.step.Step.TheVariants.{SwapWord, DrawSection, TakeWords, Ticket, DrawThread, LoadThread, Split}
use Rattle.step_port.specs.Steps.{place_of, effect_of}
use Rattle.step_port.specs.Words.{answer_to, answer_of}
use Rattle.plain_words.specs.Table.{HasRoom}
use Rattle.thread_automaton.specs.declared.Bounds.{Bounds}
use Rattle.thread_automaton.specs.declared.Move.{Move}
use Rattle.thread_automaton.specs.declared.Move.TheVariants.{Over, Make, Stop}
use Rattle.thread_automaton.specs.declared.Attempt.{Attempt}
use Rattle.thread_automaton.specs.declared.Attempt.TheVariants.{Fixed}
use Rattle.thread_automaton.specs.ThreadState.{ThreadState}
use Rattle.thread_automaton.specs.NextMove.{move_of, next_move}
use Rattle.automaton_rows.specs.Fits.{FixedFits, AttemptFits}
use Rattle.core_runs.specs.Cores.{Core}
use Rattle.core_runs.specs.Acts.{Act}
use Rattle.core_runs.specs.Reading.{end_wanted, place_in, thread_in, ordinary}
use Rattle.section_laws.proofs.DeedLemmas.{makes_it}
use Rattle.section_laws.proofs.RunLemmas.{Known, facts_at}
use Rattle.section_laws.specs.Numbers.{AreNumbered}
use Rattle.section_laws.proofs.run_threads.NumberLemmas.{threads_are_numbered}
use Rattle.section_laws.specs.Layout.{FitsObjects, IsLaidRun, IsWordPlace, object_end}
use Rattle.section_laws.specs.Places.{IsInObject}
use Rattle.section_laws.proofs.run_layout.LaidLemmas.{NextFits, is_there, is_such, write_there}
use Rattle.section_laws.proofs.run_layout.NameLemmas.{step_names}
use Rattle.section_laws.proofs.run_layout.PlaceLemmas.{Place, in_object, in_block, step_place}
use Rattle.section_laws.proofs.run_layout.RunLemmas.{laid_at, runs_keep_layout}
use Rattle.section_laws.specs.Starts.{IsThreadObject, start_word_of, StartsAreKnown}
use Rattle.section_laws.proofs.start_words.RunLemmas.{starts_are_known}
use Rattle.section_laws.proofs.held_levels.StandLemmas.{threads_stand_in_order}
use Rattle.first_law.specs.Free.{IsFreeRun}
use Rattle.first_law.proofs.grounded_monitors.RunLemmas.{free_runs_are_in_place}
use Rattle.quick_turn_laws.specs.Laws.{IsNotWaitedFor}
use Rattle.thread_moves.specs.Change.{NamesThread}
use Rattle.ready_runs.specs.Ready.{HasWordsFor, IsRunInRoom, IsAllowed, CanStep, StepsAreAllowed, WritesAreApart, TablesAreReady}
use Rattle.ready_runs.proofs.MeetLemmas.{own_low, opens_low, met_at}
use Rattle.ready_runs.proofs.DrawLemmas.{drawn_in, drawn_low}
use Rattle.ready_runs.proofs.TakeLemmas.{TakesFew, takes_few, taken_low}
use Rattle.ready_runs.proofs.PlaceLemmas.{IsInOthers, step_in}

-- ---- numbers

value_low : (w n : ℕ) → w < n → value_of w < n
unfolding value_of
value_low w n low = omega (arith, low)

-- a thread that makes a step isn't over
not_over : (over full : Bool) (rest : Move) (step : Step) → (if over then Over else if full then Stop Turns else rest) ≡ Make step → over ≡ false
not_over true full rest step is = cc
not_over false full rest step is = refl

module _ {S : Type 0} (code : Code S) (b : Bounds) (is_thread : ℕ → Bool) (first : S) (classes : ℕ) (areas : Areas) (c : ℕ → Core S) (acts : List Act) (words : HasWordsFor b classes areas)
    (run : IsRunInRoom code b is_thread first classes c acts) where
  free : IsFreeRun code b is_thread first classes c acts
  free = run.run

  laid : IsLaidRun code b is_thread c acts
  laid = run.written.tagged.laid

  numbers : AreNumbered (c 0)
  numbers = run.run.grounded.in_bits.numbers

  known : (k : ℕ) → k ≤ length acts → Known code (c k)
  known k within = facts_at code b c acts laid.run k within

  stands_so : (k t : ℕ) (th : ThreadState S) → k ≤ length acts → (c k).threads t ≡ Some th → CanStand code first th.local
  stands_so k t th within stands = threads_stand_in_order code b first classes c acts run.written.tagged.monitors.levelled.ordered k t th within stands

  few_so : (k t : ℕ) (th : ThreadState S) (step : Step) → k < length acts → (c k).threads t ≡ Some th → next_move code b th ≡ Make step → TakesFew step
  few_so k t th step within stands makes =
      let up : k ≤ length acts = omega (arith, within) in
      takes_few code b th first classes free.grounded.orderly (stands_so k t th up stands) is_thread (c k).objects (λ op wants. laid.wants k t th op within stands wants) step
      ((known k up).fit t th stands).attempt makes

  -- ---- what a thread wants after the last act, too, fits the objects, but where it is about to hand a thread out

  module _ (k t : ℕ) (th : ThreadState S) (within : k ≤ length acts) (stands : (c k).threads t ≡ Some th) where
    -- the state after the last act is sound, and start words are left alone there
    sound_last : IsSound code (ordinary code is_thread (c (length acts)))
    sound_last =
        let list = free_runs_are_in_place code b is_thread first classes c acts free in
        subst (λ m. IsSound code (ordinary code is_thread (c m))) list.1 (free.grounded.grounded (λ k. ordinary code is_thread (c k)) list.0 refl list.3)

    kept_last : (u : ℕ) (l : S) (op : Op) → (ordinary code is_thread (c (length acts))).threads u ≡ live l → code.next l ≡ Want op → KeepsStartWord is_thread (c (length acts)).objects op
    kept_last =
        let list = free_runs_are_in_place code b is_thread first classes c acts free in
        subst (λ m. (u : ℕ) (l : S) (op : Op) → (ordinary code is_thread (c m)).threads u ≡ live l → code.next l ≡ Want op → KeepsStartWord is_thread (c m).objects op) list.1
        (free.grounded.kept (λ k. ordinary code is_thread (c k)) list.0 refl list.3)

    last_fits : k ≡ length acts → th.over ≡ false → place_in code th.local th.attempt ≡ th.local → NextFits is_thread (c k).objects (code.next th.local)
    last_fits last going same op wants =
        let there = ap (λ m. (ordinary code is_thread (c m)).threads t) (sym last) ∙ ap (thread_in code ((c k).starting t)) stands
        ∙ ap (λ x. if x then ended (end_wanted (code.next th.local)) else live (place_in code th.local th.attempt)) going ∙ ap (λ x. live x) same in
        subst (λ m. FitsObjects is_thread (c m).objects op) (sym last)
        (sound_last.in_range t th.local op there wants, sound_last.all_there t th.local op there wants, kept_last t th.local op there wants)

    abbrev HandsOut : Attempt → Type 0
    HandsOut g = (n r p : ℕ) × (g ≡ Fixed (Split n r p))

    fits_or : th.over ≡ false → NextFits is_thread (c k).objects (code.next th.local) ⊎ HandsOut th.attempt
    fits_or going = elim (leb_tells (length acts) k) [
      | inl last ↦ by_attempt th.attempt refl (omega (arith, last.1, within))
      | inr before ↦ inl (λ op wants. laid.wants k t th op before.1 stands wants)
    ]
      where
        by_attempt : (g : Attempt) → th.attempt ≡ g → k ≡ length acts → NextFits is_thread (c k).objects (code.next th.local) ⊎ HandsOut th.attempt
        by_attempt (Fixed (Split n r p)) at last = inr (n, r, p, at)
        by_attempt g at last = inl (last_fits last going (ap (place_in code th.local) at))

    -- ---- the word is in the table

    fits_now : AttemptFits th (code.next th.local) th.attempt
    fits_now = ((known k within).fit t th stands).attempt

    starts : StartsAreKnown code is_thread (c k)
    starts = starts_are_known code b is_thread c acts laid free.grounded.starts k within

    number : th.number < 256
    number =
        let numbered = threads_are_numbered code b c acts laid.run numbers k within in
        subst (λ n. n < 256) (sym (numbered.own t th stands)) (numbered.low t th stands)

    object_low : (r : ℕ) (o : Object) → (c k).objects r ≡ Some o → object_end r o ≤ b.first + b.limits.heap
    object_low r o there = elim ((laid_at code b is_thread c acts laid k within).0.from r o there) [
      | inl begun ↦ (let end : object_end r o ≤ b.first + (c 0).words (Control 2) = laid.begins.low r o begun in let none = run.begins.taken in omega (arith, end, none))
      | inr later ↦ later.1
    ]

    module _ (all : NextFits is_thread (c k).objects (code.next th.local)) (step : Step) (makes : next_move code b th ≡ Make step) where
      start_low : (r : ℕ) → code.next th.local ≡ Want (Join r) → start_word_of (c k) r < 2 ^ 8
      start_low r wants = let so = is_such ((c k).objects r) (all (Join r) wants).2 in starts.words.low r (so.0, so.1, so.2.0, so.2.1)

      others_in : IsInOthers areas (place_of step)
      others_in = step_in code b first classes areas words free.grounded.orderly is_thread (c k) th number (own_low code b is_thread first classes c acts run.written k t th within stands)
          (met_at code b is_thread first classes c acts run.written k within t th stands) (opens_low code b is_thread first classes c acts run.written k t th within stands)
          (starts.threads t th stands) start_low (stands_so k t th within stands) fits_now step makes

      place_so : (at : ℕ) → place_of step ≡ Area.Object at → Place is_thread (c k).objects th (code.next th.local) step at
      place_so at on = step_place code b is_thread (c 0).objects (c k).words (c k).objects (c k).threads (laid_at code b is_thread c acts laid k within).0 t th stands step fits_now makes all at on

      object_in : (at : ℕ) → Place is_thread (c k).objects th (code.next th.local) step at → at < areas.objects + 1
      object_in at (in_object none so) =
          let end : object_end so.r so.o ≤ b.first + b.limits.heap = object_low so.r so.o so.there in
          let below = so.below in let place = so.place in let most = words.objects in
          omega (arith, end, below, place, most)
      object_in at (in_block v sets new names) =
          let room = (laid_at code b is_thread c acts laid k within).0.room t at th stands new in
          let some = room.some in let last = room.within in let most = words.objects in
          omega (arith, some, last, most)

      by_area : (a : Area) → place_of step ≡ a → IsInOthers areas a → IsIn areas a
      by_area (Area.Object at) on others = object_in at (place_so at on)
      by_area a on others = others

      there : IsIn areas (place_of step)
      there = by_area (place_of step) refl others_in

      -- ---- a sum has room

      drawn : drawn_in (c k).words < 2 ^ 64 - 1
      drawn =
          let low = drawn_low code b c acts laid.run numbers k within in
          let one = run.begins.sections in let three = run.begins.lines in let four = run.begins.threads in let turns = run.turns in
          few_drawn (drawn_in (c k).words) ((c 0).words (Control 1)) ((c 0).words (Control 3)) ((c 0).words (Control 4)) b.limits.turns low one three four turns
        where
          few_drawn : (drawn one three four turns : ℕ) → drawn ≤ one + three + four + 256 * turns → one ≡ 0 → three ≡ 0 → four ≡ 1 → turns < 2 ^ 56 → drawn < 2 ^ 64 - 1
          few_drawn drawn one three four turns low none no_line main few = omega (arith, low, none, no_line, main, few)

      part_low : (one three four : ℕ) → one + three + four < 2 ^ 64 - 1 → (one + 1 < 2 ^ 64) × (three + 1 < 2 ^ 64) × (four + 1 < 2 ^ 64)
      part_low one three four low = (omega (arith, low), omega (arith, low), omega (arith, low))

      parts : ((c k).words (Control 1) + 1 < 2 ^ 64) × ((c k).words (Control 3) + 1 < 2 ^ 64) × ((c k).words (Control 4) + 1 < 2 ^ 64)
      parts = part_low ((c k).words (Control 1)) ((c k).words (Control 3)) ((c k).words (Control 4)) drawn

      few : TakesFew step
      few = takes_few code b th first classes free.grounded.orderly (stands_so k t th within stands) is_thread (c k).objects all step fits_now makes

      taken : (n : ℕ) → n ≤ 2 ^ 41 → (c k).words (Control 2) + n < 2 ^ 64
      taken n low =
          let none = run.begins.taken in let heap = free.grounded.heap.1 in
          let most = taken_low code b is_thread c acts laid numbers few_so (omega (arith, none)) k within in
          few_taken ((c k).words (Control 2)) n b.first b.limits.heap most low heap
        where
          few_taken : (taken n first heap : ℕ) → taken ≤ heap + 256 * 2 ^ 41 → n ≤ 2 ^ 41 → first + heap ≤ 2 ^ 32 → taken + n < 2 ^ 64
          few_taken taken n first heap most low within_heap = omega (arith, most, low, within_heap)

      room_so : (s : Step) → TakesFew s → HasRoom (effect_of s) ((c k).words (place_of s))
      room_so DrawSection few_words = parts.0
      room_so (TakeWords n) few_words = taken n few_words
      room_so Ticket few_words = parts.1
      room_so DrawThread few_words = parts.2
      room_so s few_words = tt

      -- ---- a start word says the number of a thread

      names_so : (s : Step) → step ≡ s → NamesThread s (answer_of (c k).words s)
      names_so (LoadThread (ThreadWord.Start r)) is = by_place (subst (λ s. Place is_thread (c k).objects th (code.next th.local) s (r + 3)) is (place_so (r + 3) (ap place_of is)))
        where
          thread_object : (so : IsInObject is_thread (c k).objects (LoadThread (ThreadWord.Start r)) (r + 3)) → IsThreadObject is_thread (c k).objects r
          thread_object so =
              let place = so.place in let three = so.fits.0 in let below = so.below in
              subst (IsThreadObject is_thread (c k).objects) (same_place so.r r so.number place three) (so.o, so.there, so.fits.1, inside so.number so.o.words three below)
            where
              same_place : (q r d : ℕ) → r + 3 ≡ q + d → d ≡ 3 → q ≡ r
              same_place q r d is three = omega (arith, is, three)

              inside : (d n : ℕ) → d ≡ 3 → d < 2 + n → 1 < n
              inside d n three below = omega (arith, three, below)

          IsLoad : Step → Type 0
          IsLoad (LoadThread which) = Unit {0}
          IsLoad s = ⊥

          by_place : Place is_thread (c k).objects th (code.next th.local) (LoadThread (ThreadWord.Start r)) (r + 3) → value_of ((c k).words (Area.Object (r + 3))) < 2 ^ 8
          by_place (in_object none so) = value_low ((c k).words (Area.Object (r + 3))) (2 ^ 8) (starts.words.low r (thread_object so))
          by_place (in_block v sets new names) = absurd (subst IsLoad sets tt)
      names_so s is = tt

      pub allowed_so : IsAllowed areas (c k).words step
      allowed_so = record { there = there; room = room_so step few }

      pub named_so : NamesThread step (answer_of (c k).words step)
      named_so = names_so step refl

    -- ---- a thread that is handed out

    module _ (n r p : ℕ) (at : th.attempt ≡ Fixed (Split n r p)) (step : Step) (makes : next_move code b th ≡ Make step) where
      splits : step ≡ Split n r p
      splits = sym (same_step (ap (λ g. move_of code th (code.next th.local) g) (sym at) ∙ makes_it th.over (nat_le b.limits.turns th.counted) _ step makes))
        where
          same_step : {s u : Step} → Make s ≡ Make u → s ≡ u
          same_step is = cc

      split_allowed : IsAllowed areas (c k).words step
      split_allowed = subst (IsAllowed areas (c k).words) (sym splits) (record { there = omega arith; room = tt })

      split_named : NamesThread step (answer_of (c k).words step)
      split_named = subst (λ s. NamesThread s (answer_of (c k).words s)) (sym splits) tt

    pub can_step : CanStep code b areas (c k).words th
    can_step = record {
      allowed = λ step makes. elim (fits_or (not_over th.over (nat_le b.limits.turns th.counted) _ step makes)) [
        | inl all ↦ allowed_so all step makes
        | inr hands ↦ split_allowed hands.0 hands.1 hands.2 hands.3 step makes
      ];
      names = λ step makes. elim (fits_or (not_over th.over (nat_le b.limits.turns th.counted) _ step makes)) [
        | inl all ↦ named_so all step makes
        | inr hands ↦ split_named hands.0 hands.1 hands.2 hands.3 step makes
      ];
    }

  -- ---- writes are apart from what others wait for

  module _ (k t u : ℕ) (th uh : ThreadState S) (within : k ≤ length acts) (mover : (c k).threads t ≡ Some th) (waiter : (c k).threads u ≡ Some uh) (going : uh.over ≡ false)
      (at old new : ℕ) (makes : next_move code b th ≡ Make (SwapWord at old new)) where
    written : IsWordPlace is_thread (c k).objects at
    written = elim (fits_or k t th within mover (not_over th.over (nat_le b.limits.turns th.counted) _ (SwapWord at old new) makes)) [
      | inl all ↦ write_there is_thread th (c k).objects (code.next th.local) at new (step_names code b th (SwapWord at old new) (fits_now k t th within mover) makes) all
      | inr hands ↦ absurd (other_step (splits k t th within mover hands.0 hands.1 hands.2 hands.3 (SwapWord at old new) makes))
    ]
      where
        other_step : {n r p : ℕ} → SwapWord at old new ≡ Split n r p → ⊥
        other_step is = cc

    -- another word of an object that is there isn't the one that is written
    away : (r d : ℕ) (o : Object) → (c k).objects r ≡ Some o → d < 2 + o.words → (r ≡ written.r → d ≢ 2 + written.i) → at ≢ r + d
    away r d o there low other same = by_test (nat_eq r written.r) refl
      where
        place : at ≡ written.r + 2 + written.i
        place = written.place

        by_test : (test : Bool) → nat_eq r written.r ≡ test → ⊥
        by_test true is =
            let here : r ≡ written.r = grind (arith, common_steps, nat_tests) in
            let of_place = place in
            other here (omega (arith, here, same, of_place))
        by_test false is =
            let apart : r ≢ written.r = λ e. grind (arith, common_steps, nat_tests) in
            elim ((runs_keep_layout code b is_thread c acts laid k within).apart r written.r o written.o there written.there apart) [
              | inl before ↦ (let end : r + 2 + o.words ≤ written.r = before in let of_place = place in omega (arith, end, of_place, same, low))
              | inr after ↦ (let end : written.r + 2 + written.o.words ≤ r = after in let of_place = place in let inside = written.low in omega (arith, end, of_place, same, inside))
            ]

    monitor_away : (r : ℕ) → (x : Object) × ((c k).objects r ≡ Some x) → at ≢ r + 1
    monitor_away r (o, there) = away r 1 o there (omega arith) (λ here same. omega (arith, same))

    start_away : (r : ℕ) (o : Object) → (c k).objects r ≡ Some o → is_thread o.class ≡ true → 1 < o.words → at ≢ r + 3
    start_away r o there thread long = away r 3 o there (omega (arith, long)) (λ here same. written.kept (its_class here) (omega (arith, same)))
      where
        its_class : r ≡ written.r → is_thread written.o.class ≡ true
        its_class here = ap (λ (x : Object). is_thread x.class) (same_Some written.o o (sym written.there ∙ ap (c k).objects (sym here) ∙ there)) ∙ thread

    hands_nothing : (op : Op) → code.next uh.local ≡ Want op → HandsOut k u uh within waiter uh.attempt → ((n r p : ℕ) → FixedFits uh (Want op) (Split n r p) → ⊥) → ⊥
    hands_nothing op wants (n, r, p, attempt) never =
        never n r p (subst (λ next. AttemptFits uh next (Fixed (Split n r p))) wants (subst (AttemptFits uh (code.next uh.local)) attempt (fits_now k u uh within waiter)))

    not_awaited_by : (next : Next) → code.next uh.local ≡ next → IsNotWaitedFor next at
    not_awaited_by (Want (Enter r)) wants = elim (fits_or k u uh within waiter going) [
      | inl all ↦ monitor_away r (is_there ((c k).objects r) (all (Enter r) wants).1)
      | inr hands ↦ absurd (hands_nothing (Enter r) wants hands (λ n q p fits. fits))
    ]
    not_awaited_by (Want (Rewake r)) wants = elim (fits_or k u uh within waiter going) [
      | inl all ↦ monitor_away r (is_there ((c k).objects r) (all (Rewake r) wants).1)
      | inr hands ↦ absurd (hands_nothing (Rewake r) wants hands (λ n q p fits. fits))
    ]
    not_awaited_by (Want (Join r)) wants = elim (fits_or k u uh within waiter going) [
      | inl all ↦ (let so = is_such ((c k).objects r) (all (Join r) wants).2 in start_away r so.0 so.1 so.2.0 so.2.1)
      | inr hands ↦ absurd (hands_nothing (Join r) wants hands (λ n q p fits. fits))
    ]
    not_awaited_by next wants = tt

    pub not_awaited : IsNotWaitedFor (code.next uh.local) at
    not_awaited = not_awaited_by (code.next uh.local) refl

pub steps_are_allowed : {S : Type 0} (code : Code S) → StepsAreAllowed code
steps_are_allowed code b is_thread first classes areas c acts words run k t th within stands = can_step code b is_thread first classes areas c acts words run k t th within stands

pub writes_are_apart : {S : Type 0} (code : Code S) → WritesAreApart code
writes_are_apart code b is_thread first classes areas c acts words run k t u th uh at old new within mover waiter going makes =
    not_awaited code b is_thread first classes areas c acts words run k t u th uh within mover waiter going at old new makes

-- ---- tables

-- a step that is allowed on words may be made on a table that holds them, and is answered by them
pub tables_are_ready : {S : Type 0} (code : Code S) → TablesAreReady code
tables_are_ready code b is_thread first classes areas c acts words run k t th within stands x holds = record {
  allows = λ step makes.
      let is = can.allowed step makes in
      record { there = subst (λ n. IsIn n (place_of step)) (sym holds.same) is.there; room = subst (HasRoom (effect_of step)) (sym (holds.words (place_of step) is.there)) is.room };
  names = λ step a y makes made.
      let is = can.allowed step makes in
      subst (NamesThread step) (sym (made.words.answers ∙ ap (answer_to (effect_of step)) (holds.words (place_of step) is.there))) (can.names step makes);
}
  where
    can : CanStep code b areas (c k).words th
    can = can_step code b is_thread first classes areas c acts words run k t th within stands
