-- The words of objects, what threads have logged and their priorities, in bits, along a run.
use Rattle.std.proofs.Common.{◌≡◌, ◌≢◌, inl, inr, ℕ, suc, ◌+◌, ◌<◌, ◌≤◌, ◌^◌, Bool, true, false, Some, List, length, nat_eq, refl, sym, ◌∙◌, ap, subst, arith}
use Rattle.std.specs.Prelude.{slice_get, if◌then◌else◌}
use Rattle.std.proofs.lemmas.Option.{slice_get_within}
use Rattle.op_core.specs.declared.Op.TheVariants.{Write, New, Start}
use Rattle.op_core.specs.declared.Next.{Next}
use Rattle.op_core.specs.declared.Next.TheVariants.{Want}
use Rattle.op_core.specs.ThreadCode.{Code}
use Rattle.op_core.specs.OrdinaryState.{set_at, Object}
use Rattle.heap_words.specs.declared.areas.Area.{Area}
use Rattle.heap_words.specs.Words.{pack_tag, pack, pack_header}
use Rattle.write_log.specs.declared.Noted.{Noted}
use Rattle.step_port.specs.declared.answer.StepAnswer.{StepAnswer}
use Rattle.step_port.specs.declared.answer.StepAnswer.TheVariants.{Found, Done}
use Rattle.step_port.specs.declared.step.Effect.{Effect}
use Rattle.step_port.specs.declared.step.Effect.TheVariants.{Load, Store, Exchange, Add}
use Rattle.step_port.specs.declared.step.Step.{Step}
use Rattle.step_port.specs.declared.step.Step.TheVariants.{LoadWord, SwapWord, RestoreWord, LoadMonitor, TakeMonitor, SetDepth, Release, SetHeader, StartThread, LoadThread, Split}
use Rattle.step_port.specs.Steps.{effect_of}
use Rattle.step_port.specs.Words.{Words, area_eq, put_at, put_by, answer_of, words_after}
use Rattle.thread_automaton.specs.declared.Bounds.{Bounds}
use Rattle.thread_automaton.specs.declared.Attempt.{Attempt}
use Rattle.thread_automaton.specs.ThreadState.{ThreadState, first_state}
use Rattle.thread_automaton.specs.Told.{after_answer, after_quiet}
use Rattle.core_runs.specs.Cores.{Core, threads_by, objects_by}
use Rattle.core_runs.specs.Acts.{Act, quiet, did, beside, QuietAt, DidAt, ActAt}
use Rattle.section_laws.proofs.WordLemmas.{exchanged}
use Rattle.section_laws.proofs.ClaimLemmas.{found_is}
use Rattle.section_laws.proofs.FactLemmas.{Threads, each}
use Rattle.section_laws.proofs.RunLemmas.{act_at, along, Known}
use Rattle.section_laws.specs.OwnWords.{IsInBits}
use Rattle.section_laws.proofs.run_threads.NumberLemmas.{same_priority, threads_are_numbered}
use Rattle.section_laws.specs.Layout.{Objects, IsLaidRun}
use Rattle.section_laws.specs.Places.{FitsNumber}
use Rattle.section_laws.proofs.run_layout.ListLemmas.{In}
use Rattle.section_laws.proofs.run_layout.NameLemmas.{NamesWrite, NamesNew, Names, step_names}
use Rattle.section_laws.proofs.run_layout.OwnedLemmas.{new_place, owned_by, OwnedStep, owned_steps}
use Rattle.section_laws.proofs.run_layout.LaidLemmas.{NextFits, size_of, new_object, with_objects, write_there}
use Rattle.section_laws.proofs.run_layout.PlaceLemmas.{put_object, stays_or_made, SetsNoHeader, Place, in_object, in_block}
use Rattle.section_laws.proofs.run_layout.FillLemmas.{at_place, same_word, apart_new}
use Rattle.section_laws.proofs.run_layout.RunLemmas.{beside_object, fits_at, known_at, laid_at, place_at}
use Rattle.section_laws.specs.Bits.{BeginsInBits, RunsAreInBits}

-- ---- numbers

tag_low : (s level : ℕ) → level < 2 ^ 8 → pack_tag s level < 2 ^ 32
unfolding pack_tag
tag_low s level low = omega (arith, low)

packed_low : (v tag : ℕ) → v < 2 ^ 32 → tag < 2 ^ 32 → pack v tag < 2 ^ 64
unfolding pack
packed_low v tag v_low tag_is = omega (arith, v_low, tag_is)

header_low : (c n : ℕ) → c < 2 ^ 32 → n < 2 ^ 32 → pack_header c n < 2 ^ 64
unfolding pack_header
header_low c n c_low n_low = omega (arith, c_low, n_low)

zero_low : (n : ℕ) → n ≡ 0 → n < 2 ^ 64
zero_low n none = omega (arith, none)

-- what is stored has 64 bits
abbrev StoresLow : Effect → Type 0
StoresLow Load = Unit {0}
StoresLow (Store v) = v < 2 ^ 64
StoresLow (Exchange old new) = new < 2 ^ 64
StoresLow (Add k) = ⊥

put_low : (e : Effect) (w : Words) (at : ℕ) → StoresLow e → w (Area.Object at) < 2 ^ 64 → put_by e w (Area.Object at) (Area.Object at) < 2 ^ 64
put_low Load w at low was = was
put_low (Store v) w at low was = subst (λ n. n < 2 ^ 64) (sym (put_object w at v)) low
put_low (Exchange old new) w at low was = by_test (nat_eq (w (Area.Object at)) old)
  where
    by_test : (t : Bool) → (if t then put_at w (Area.Object at) new else w) (Area.Object at) < 2 ^ 64
    by_test true = subst (λ n. n < 2 ^ 64) (sym (put_object w at new)) low
    by_test false = was
put_low (Add k) w at low was = absurd low

record Low {S : Type 0} (w : Words) (objects : Objects) (threads : Threads S) : Type 0 where
  words : (r d : ℕ) (o : Object) → objects r ≡ Some o → d < 2 + o.words → d ≢ 1 → w (Area.Object (r + d)) < 2 ^ 64
  olds : (u : ℕ) (x : Noted) (th : ThreadState S) → threads u ≡ Some th → In x th.log → x.old < 2 ^ 64
  priorities : (u : ℕ) (th : ThreadState S) → threads u ≡ Some th → th.priority < 2 ^ 8

module _ {S : Type 0} (code : Code S) (b : Bounds) (is_thread : ℕ → Bool) (c : ℕ → Core S) (acts : List Act) (run : IsLaidRun code b is_thread c acts) where
  abbrev LowAt : ℕ → Type 0
  LowAt k = Low (c k).words (c k).objects (c k).threads

  write_low : (th : ThreadState S) (objects : Objects) (next : Next) (at new : ℕ) → th.levels < 2 ^ 8 → NamesWrite th next at new → NextFits is_thread objects next → new < 2 ^ 64
  write_low th objects (Want (Write r i v)) at new levels names all =
      subst (λ n. n < 2 ^ 64) (sym names.1) (packed_low v (pack_tag th.section th.levels) (all (Write r i v) refl).0.2 (tag_low th.section th.levels levels))
  write_low th objects next at new levels names all = absurd names

  new_low : (objects : Objects) (next : Next) (v : ℕ) → NamesNew next v → NextFits is_thread objects next → v < 2 ^ 64
  new_low objects next v names all =
      let range = (all (New names.0 names.1) names.2).0 in
      subst (λ n. n < 2 ^ 64) (sym names.3) (header_low names.0 names.1 range.0 range.1)

  -- what is stored in a word that is no monitor
  effect_low : (th : ThreadState S) (objects : Objects) (next : Next) (g : Attempt) (step : Step) (thread : Bool) (d : ℕ) → th.levels < 2 ^ 8
      → ((x : Noted) → In x th.log → x.old < 2 ^ 64) → NextFits is_thread objects next → Names th next g step → SetsNoHeader step → FitsNumber thread d step → d ≢ 1 → StoresLow (effect_of step)
  effect_low th objects next g (LoadWord at) thread d levels olds all names none fits other = tt
  effect_low th objects next g (SwapWord at old new) thread d levels olds all names none fits other = write_low th objects next at new levels names all
  effect_low th objects next g (RestoreWord at old) thread d levels olds all (x, there, at_x, old_x) none fits other = subst (λ n. n < 2 ^ 64) old_x (olds x there)
  effect_low th objects next g (StartThread q n) thread d levels olds all names none fits other = let low = names.1 in packed_low n 0 (omega (arith, low)) (omega arith)
  effect_low th objects next g (LoadThread which) thread d levels olds all names none fits other = tt
  effect_low th objects next g (LoadMonitor q) thread d levels olds all names none fits other = tt
  effect_low th objects next g (TakeMonitor q new) thread d levels olds all names none fits other = absurd (other fits)
  effect_low th objects next g (SetDepth q new) thread d levels olds all names none fits other = absurd (other fits)
  effect_low th objects next g (Release q) thread d levels olds all names none fits other = absurd (other fits)
  effect_low th objects next g (SetHeader r v) thread d levels olds all names none fits other = absurd none
  effect_low th objects next g step thread d levels olds all names none fits other = absurd fits

  module _ (k t : ℕ) (step : Step) (a : StepAnswer) (within : k < length acts) (at : DidAt code b c k t step a) (low : LowAt k) where
    up : k ≤ length acts
    up = omega (arith, within)

    abbrev th : ThreadState S
    th = at.from

    abbrev w : Words
    w = (c k).words

    known : Known code (c k)
    known = known_at code b is_thread c acts run k up

    all : NextFits is_thread (c k).objects (code.next at.from.local)
    all = fits_at code b is_thread c acts run k t at.from within at.stands

    names : Names at.from (code.next at.from.local) at.from.attempt step
    names = step_names code b at.from step (known.fit t at.from at.stands).attempt at.move

    levels : at.from.levels < 2 ^ 8
    levels = (known.fit t at.from at.stands).kept.most

    owned : OwnedStep code b at.from (code.next at.from.local) step a (owned_by (after_answer code b at.from step a))
    owned = owned_steps code b at.from w step a (known.fit t at.from at.stands).attempt at.move at.answered

    -- the word at a place, of an object that was there
    old_word : (r d : ℕ) (o : Object) → (c k).objects r ≡ Some o → d < 2 + o.words → d ≢ 1 → words_after step w (Area.Object (r + d)) < 2 ^ 64
    old_word r d o there below other =
        let laid = (laid_at code b is_thread c acts run k up).0 in
        elim (at_place code b is_thread (c 0).objects w (c k).objects (c k).threads laid t at.from at.stands step a (known.fit t at.from at.stands).attempt at.move at.answered all (r + d)) [
          | inl stays ↦ subst (λ n. n < 2 ^ 64) (sym stays) (low.words r d o there below other)
          | inr (in_object none so) ↦
              let same = same_word code b is_thread (c 0).objects w (c k).objects (c k).threads laid t at.from at.stands step a (known.fit t at.from at.stands).attempt at.move at.answered all
              so.r r so.o o so.there there so.number d so.below below (sym so.place) in
              stored (effect_low at.from (c k).objects (code.next at.from.local) at.from.attempt step (is_thread so.o.class) so.number levels
              (λ x inside. low.olds t x at.from at.stands inside) all names none so.fits (λ one. other (sym same.1 ∙ one)))
          | inr (in_block v sets new new_names) ↦ absurd (apart_new code b is_thread (c 0).objects w (c k).objects (c k).threads laid t at.from at.stands step a
              (known.fit t at.from at.stands).attempt at.move at.answered all (r + d) r d o new there below refl)
        ]
      where
        stored : StoresLow (effect_of step) → words_after step w (Area.Object (r + d)) < 2 ^ 64
        stored stores = elim (stays_or_made step w (r + d)) [
          | inl stays ↦ subst (λ n. n < 2 ^ 64) (sym stays) (low.words r d o there below other)
          | inr made ↦ subst (λ (p : Area). put_by (effect_of step) w p (Area.Object (r + d)) < 2 ^ 64) (sym made) (put_low (effect_of step) w (r + d) stores (low.words r d o there below other))
        ]

    new_word : (r v m n d : ℕ) → step ≡ SetHeader r v → new_place at.from.attempt ≡ Some r → code.next at.from.local ≡ Want (New m n)
        → d < 2 + (new_object code at.from.local m n).words → words_after step w (Area.Object (r + d)) < 2 ^ 64
    new_word r v m n d sets new wants below =
        let laid = laid_at code b is_thread c acts run k up in
        let size = ap (λ next. size_of code at.from.local next) wants in
        subst (λ s. words_after s w (Area.Object (r + d)) < 2 ^ 64) (sym sets)
        (set_low (zero_low (w (Area.Object (r + d))) (laid.1.empty t r at.from at.stands new (r + d) (omega arith) (omega (arith, below, size)))))
      where
        v_low : v < 2 ^ 64
        v_low = new_low (c k).objects (code.next at.from.local) v (subst (Names at.from (code.next at.from.local) at.from.attempt) sets names).1 all

        set_low : w (Area.Object (r + d)) < 2 ^ 64 → words_after (SetHeader r v) w (Area.Object (r + d)) < 2 ^ 64
        set_low was = by_test (area_eq (Area.Object (r + d)) (Area.Object r))
          where
            by_test : (t : Bool) → (if t then v else w (Area.Object (r + d))) < 2 ^ 64
            by_test true = v_low
            by_test false = was

    words_low : (r d : ℕ) (o : Object) → objects_by code step at.from.local (code.next at.from.local) (c k).objects r ≡ Some o → d < 2 + o.words → d ≢ 1
        → words_after step w (Area.Object (r + d)) < 2 ^ 64
    words_low r d o there below other =
        with_objects code b is_thread (c 0).objects w (c k).objects (c k).threads (laid_at code b is_thread c acts run k up).0 t at.from at.stands step a
        (known.fit t at.from at.stands).attempt at.move at.answered all
        (λ q p. d < 2 + p.words → words_after step w (Area.Object (q + d)) < 2 ^ 64)
        (λ q p old less. old_word q d p old less other) (λ q v m n sets new wants less. new_word q v m n d sets new wants less) r o there below

    -- what is logged was a word of an object
    own_olds : (x : Noted) → In x (after_answer code b at.from step a).log → x.old < 2 ^ 64
    own_olds x there = elim (owned.log x there) [
      | inl before ↦ low.olds t x at.from at.stands before
      | inr logs ↦
          let so = write_there is_thread at.from (c k).objects (code.next at.from.local) x.at logs.new logs.names all in
          let done : Done ≡ answer_of w (SwapWord x.at x.old logs.new) = sym logs.done ∙ at.answered ∙ ap (answer_of w) logs.made in
          let found : w (Area.Object x.at) ≡ x.old = (exchanged w (Area.Object x.at) x.old logs.new done).found in
          let less = so.low in let place = so.place in
          subst (λ n. n < 2 ^ 64) (ap (λ n. w (Area.Object n)) (omega (arith, place)) ∙ found) (low.words so.r (2 + so.i) so.o so.there (omega (arith, less)) (not_one so.i))
    ]
      where
        not_one : (i : ℕ) → 2 + i ≢ 1
        not_one i is = omega (arith, is)

    -- a thread that is handed out has the priority that was wanted for it
    split_low : (n r p : ℕ) → step ≡ Split n r p → p < 2 ^ 8
    split_low n r p sets =
        let wants : code.next at.from.local ≡ Want (Start r p) = (subst (Names at.from (code.next at.from.local) at.from.attempt) sets names).0 in
        (all (Start r p) wants).0.1

    next_low : LowAt (suc k)
    next_low = subst (λ z. Low z.words z.objects z.threads) (sym at.leads) (handed step refl)
      where
        there_low : Low (words_after step w) (objects_by code step at.from.local (code.next at.from.local) (c k).objects) (set_at (c k).threads t (Some (after_answer code b at.from step a)))
        there_low = record {
          words = words_low;
          olds = λ u x. each (λ (uh : ThreadState S). In x uh.log → x.old < 2 ^ 64) (c k).threads t (after_answer code b at.from step a) u (λ own. own_olds x) (λ uh other there. low.olds u x uh there);
          priorities = λ u. each (λ (uh : ThreadState S). uh.priority < 2 ^ 8) (c k).threads t (after_answer code b at.from step a) u
              (λ own. subst (λ n. n < 2 ^ 8) (sym (same_priority code b at.from step a)) (low.priorities t at.from at.stands)) (λ uh other there. low.priorities u uh there);
        }

        handed : (m : Step) → step ≡ m → Low (words_after step w) (objects_by code step at.from.local (code.next at.from.local) (c k).objects)
            (threads_by code m at.from.local (set_at (c k).threads t (Some (after_answer code b at.from step a))))
        handed (Split n r p) sets = record {
          words = there_low.words;
          olds = λ u x. each (λ (uh : ThreadState S). In x uh.log → x.old < 2 ^ 64) (set_at (c k).threads t (Some (after_answer code b at.from step a))) n (first_state n p (code.child at.from.local r)) u (λ own inside. absurd inside) (λ uh other there. there_low.olds u x uh there);
          priorities = λ u. each (λ (uh : ThreadState S). uh.priority < 2 ^ 8) (set_at (c k).threads t (Some (after_answer code b at.from step a))) n (first_state n p (code.child at.from.local r)) u (λ own. split_low n r p sets) (λ uh other there. there_low.priorities u uh there);
        }
        handed m sets = there_low

  quiet_low : (k t : ℕ) → QuietAt code b c k t → LowAt k → LowAt (suc k)
  quiet_low k t at low = subst (λ z. Low z.words z.objects z.threads) (sym at.leads) (record {
    words = low.words;
    olds = λ u x. each (λ (uh : ThreadState S). In x uh.log → x.old < 2 ^ 64) (c k).threads t (after_quiet at.from at.local) u (λ own inside. low.olds t x at.from at.stands inside) (λ uh other there. low.olds u x uh there);
    priorities = λ u. each (λ (uh : ThreadState S). uh.priority < 2 ^ 8) (c k).threads t (after_quiet at.from at.local) u (λ own. low.priorities t at.from at.stands) (λ uh other there. low.priorities u uh there);
  })

  act_low : (k : ℕ) (x : Act) → slice_get acts k ≡ Some x → ActAt code b c k x → LowAt k → LowAt (suc k)
  act_low k (quiet t) here at low = quiet_low k t at low
  act_low k (did t step a) here at low = next_low k t step a (slice_get_within acts k (did t step a) here) at low
  act_low k (beside t step a) here at low = subst (λ z. Low z.words z.objects z.threads) (sym at.leads) (record {
    words = λ r d o there below other. subst (λ n. n < 2 ^ 64) (sym (beside_object step at.is (c k).words (r + d))) (low.words r d o there below other);
    olds = low.olds;
    priorities = low.priorities;
  })

  module _ (begins : BeginsInBits (c 0)) where
    first_low : LowAt 0
    first_low = record {
      words = λ r d o there below other. begins.words (r + d);
      olds = λ u x th there inside. absurd (subst (In x) (ap (λ (z : ThreadState S). z.log) (run.run.begins.threads u th there).3) inside);
      priorities = begins.priorities;
    }

    low_at : (k : ℕ) → k ≤ length acts → LowAt k
    low_at k within = along code b c acts run.run.leads LowAt first_low (λ n x here at low. act_low n x here at low) k within

    -- what a thread loads is no monitor
    loaded_low : (k t at w : ℕ) → slice_get acts k ≡ Some (did t (LoadWord at) (Found w)) → w < 2 ^ 64
    loaded_low k t at w here =
        let within = slice_get_within acts k (did t (LoadWord at) (Found w)) here in
        let it = act_at code b c acts k (did t (LoadWord at) (Found w)) run.run.leads here in
        let low = low_at k (omega (arith, within)) in
        subst (λ n. n < 2 ^ 64) (found_is ((c k).words (Area.Object at)) w (sym it.answered)) (by_place k low (place_at code b is_thread c acts run k t (LoadWord at) (Found w) here it at refl))
      where
        by_place : (k : ℕ) → LowAt k → {th : ThreadState S} {next : Next} → Place is_thread (c k).objects th next (LoadWord at) at → (c k).words (Area.Object at) < 2 ^ 64
        by_place k low (in_object none so) =
            subst (λ n. (c k).words (Area.Object n) < 2 ^ 64) (sym so.place) (low.words so.r so.number so.o so.there so.below (λ one. not_monitor so.number one so.fits))
          where
            not_monitor : {thread : Bool} (d : ℕ) → d ≡ 1 → FitsNumber thread d (LoadWord at) → ⊥
            not_monitor d one (inl none) = omega (arith, one, none)
            not_monitor d one (inr (low, other)) = omega (arith, one, low)
        by_place k low (in_block v sets new names) = absurd (subst IsLoad sets tt)
          where
            IsLoad : Step → Type 0
            IsLoad (LoadWord p) = Unit {0}
            IsLoad step = ⊥

    bits : IsInBits c acts
    bits = record {
      threads = λ k t th within stands.
          let numbered = threads_are_numbered code b c acts run.run begins.numbers k within in
          (subst (λ n. n < 2 ^ 8) (sym (numbered.own t th stands)) (numbered.low t th stands), (low_at k within).priorities t th stands);
      words = loaded_low;
    }

pub runs_are_in_bits : {S : Type 0} (code : Code S) → RunsAreInBits code
runs_are_in_bits code b is_thread c acts run begins = bits code b is_thread c acts run begins
