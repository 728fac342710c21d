-- Runs begin with an opening as they have to.
use Rattle.std.proofs.Common.{◌≡◌, ◌⊎◌, inl, inr, ℕ, ◌+◌, ◌<◌, ◌≤◌, ◌^◌, Bool, true, false, cond, Option, None, Some, List, length, refl, sym, ◌∙◌, ap, subst, arith}
use Rattle.std.specs.Prelude.{◌==◌, slice_get}
use Rattle.std.specs.List.{list_any}
use Rattle.std.proofs.lemmas.Option.{same_Some}
use Rattle.op_core.specs.ThreadCode.{Code}
use Rattle.op_core.specs.OrdinaryState.{Object, set_at, unused, live, awake}
use Rattle.op_core.proofs.PointwiseLemmas.{set_at-hit, set_at-other, same_or_other}
use Rattle.op_core.proofs.ExecutionLemmas.{states_ext}
use Rattle.fixed_objects.specs.declared.Opening.{Opening}
use Rattle.fixed_objects.specs.Fixed.{fixed_header}
use Rattle.fixed_objects.specs.Opening.{opening_state}
use Rattle.heap_words.specs.declared.areas.Area.{Area}
use Rattle.heap_words.specs.Words.{tag_of, pack_header, class_word, class_state}
use Rattle.plain_words.specs.Opening.{opening_words}
use Rattle.opening_cores.specs.Laws.{StandFor}
use Rattle.opening_cores.proofs.opening_law.OpeningLemmas.{own_range, own_threads, is_inside, stand_for}
use Rattle.thread_automaton.specs.declared.Bounds.{Bounds}
use Rattle.thread_automaton.specs.ThreadState.{ThreadState, first_state}
use Rattle.core_runs.specs.Cores.{Core}
use Rattle.core_runs.specs.Acts.{Act, ActFrom}
use Rattle.core_runs.specs.Reading.{thread_in, waiting_in, ordinary}
use Rattle.section_laws.specs.Runs.{BeginsAt, IsBeginning}
use Rattle.section_laws.specs.Numbers.{AreNumbered}
use Rattle.section_laws.specs.Layout.{ObjectsLieApart, free_place, object_end}
use Rattle.section_laws.specs.Bits.{BeginsInBits}
use Rattle.section_laws.specs.Starts.{IsThreadObject, start_word_of, IsStarted, StartWordsSay, BeginsWithStarts}
use Rattle.opening_cores.specs.KeptCores.{IsBegunRun}
use Rattle.opening_cores.specs.Openings.{opening_core, CanBegin, OpeningsBeginRuns, OpeningsAreOrdinary, OpeningsHaveNoTags}
use Rattle.opening_cores.proofs.PlaceLemmas.{Fixed, fixed_of, ends, header_word, monitor_word, start_word, lie_apart, empty_from, word_low, untagged, started_is, started_main}

module _ {S : Type 0} (is_thread : ℕ → Bool) (b : Bounds) (opening : Opening) (can : CanBegin is_thread b opening) (l : S) where
  abbrev core : Core S
  core = opening_core opening l

  -- ---- its thread

  one_thread : (P : ℕ → ThreadState S → Type 0) → P 1 (first_state 1 5 l) → (t : ℕ) (th : ThreadState S) → core.threads t ≡ Some th → P t th
  one_thread P first t th at = elim (same_or_other t 1) [
    | inl own ↦ subst (λ n. P n th) (sym own) (subst (P 1) (same_Some (first_state 1 5 l) th (sym (set_at-hit (λ n. None) 1 (Some (first_state 1 5 l))) ∙ ap core.threads (sym own) ∙ at)) first)
    | inr other ↦ absurd (none_some (sym (set_at-other (λ n. None) 1 (Some (first_state 1 5 l)) t other) ∙ at))
  ]
    where
      none_some : {x : ThreadState S} → None ≡ Some x → ⊥
      none_some is = cc

  main_there : core.threads 1 ≡ Some (first_state 1 5 l)
  main_there = set_at-hit (λ n. None) 1 (Some (first_state 1 5 l))

  numbered : AreNumbered core
  numbered = record {
    own = one_thread (λ t th. th.number ≡ t) refl;
    drawn = one_thread (λ t th. t ≤ core.words (Area.Control 4)) (omega arith);
    low = one_thread (λ t th. t < 2 ^ 8) (omega arith);
  }

  -- ---- its objects

  object : (r : ℕ) (o : Object) → core.objects r ≡ Some o → Fixed opening b.limits is_thread can.place can.ranges can.threads r o
  object r o there = fixed_of opening b.limits is_thread can.place can.ranges can.threads r o there

  free_is : free_place b core.words ≡ opening.first
  free_is = ap (λ n. n + 0) can.first ∙ plus_zero opening.first
    where
      plus_zero : (n : ℕ) → n + 0 ≡ n
      plus_zero n = omega arith

  apart : ObjectsLieApart (free_place b core.words) core.words core.objects
  apart = record {
    apart = λ r q o p at there other.
        let x = object r o at in
        let y = object q p there in
        subst (λ m. (object_end r m ≤ q) ⊎ (object_end q p ≤ r)) x.is
        (subst (λ m. (object_end r (fixed_header x.object) ≤ q) ⊎ (object_end q m ≤ r)) y.is
        (lie_apart opening b.limits is_thread can.place can.ranges can.threads r q x.object y.object x.found y.found other));
    low = λ r o at.
        let x = object r o at in
        subst (λ m. object_end r m ≤ free_place b core.words) x.is
        (subst (λ m. r + 2 + length x.object.words ≤ m) (sym free_is) (ends opening b.limits is_thread can.place can.ranges can.threads r x.object x.found).1);
    in_range = λ r o at.
        let x = object r o at in
        let range = own_range opening b.limits is_thread can.place can.ranges can.threads r x.object x.found in
        subst (λ (m : Object). (m.class < 2 ^ 32) × (m.length < 2 ^ 32)) x.is (range.class, range.size);
    headers = λ r o at.
        let x = object r o at in
        header_word opening b.limits is_thread can.place can.ranges can.threads r x.object x.found ∙ ap (λ (m : Object). pack_header m.class m.length) x.is;
    unused = λ at high. empty_from opening b.limits is_thread can.place can.ranges can.threads at (subst (λ m. m ≤ at) free_is high);
  }

  -- ---- start words

  module _ (r : ℕ) (is : IsThreadObject is_thread core.objects r) where
    abbrev fixed : Fixed opening b.limits is_thread can.place can.ranges can.threads r is.0
    fixed = object r is.0 is.1

    zero_word : slice_get fixed.object.words 1 ≡ Some 0
    zero_word = (own_threads opening b.limits is_thread can.place can.ranges can.threads r fixed.object fixed.found).thread (ap (λ (m : Object). is_thread m.class) fixed.is ∙ is.2)

    start_is : start_word_of core r ≡ fixed.object.started
    start_is = start_word opening b.limits is_thread can.place can.ranges can.threads r fixed.object fixed.found (is_inside fixed.object.words 1 0 zero_word)
        ∙ started_is opening b.limits is_thread can.place can.ranges can.threads fixed.object zero_word

    start_low : start_word_of core r < 2 ^ 8
    start_low = subst (λ n. n < 2 ^ 8) (sym start_is) (own_range opening b.limits is_thread can.place can.ranges can.threads r fixed.object fixed.found).started

    of_main : 0 < start_word_of core r → (r ≡ opening.main_thread) × (start_word_of core r ≡ 1)
    of_main some =
        let so = started_main opening b.limits is_thread can.place can.ranges can.threads can.main r fixed.object fixed.found (subst (λ n. 0 < n) start_is some) in
        (so.0, start_is ∙ so.1)

  start_words : StartWordsSay is_thread core
  start_words = record {
    low = start_low;
    started = λ r is some.
        let so = of_main r is some in
        (subst (λ n. n ≤ core.words (Area.Control 4)) (sym so.1) (omega arith), subst (IsStarted core) (sym so.1) (inl (first_state 1 5 l, main_there)));
    apart = λ r q is there some same.
        (of_main r is some).0 ∙ sym (of_main q there (subst (λ n. 0 < n) same some)).0;
  }

  -- ---- the run

  class_low : (t : Bool) → class_state (cond t (class_word 2 0) 0) ≤ 3
  unfolding class_word class_state
  class_low true = omega arith
  class_low false = omega arith

  module _ (code : Code S) (acts : List Act) where
    begins_so : (c : ℕ → Core S) → c 0 ≡ core → ActFrom code b c 0 acts → IsBegunRun code b is_thread l c acts
    begins_so c is leads = record {
      run = record {
        begins = subst IsBeginning (sym is) (record { sections = λ s. refl; threads = one_thread (λ t th. BeginsAt th) (1, 5, l, refl) });
        leads = leads;
      };
      local = λ t th at. one_thread (λ t th. th.local ≡ l) refl t th (ap (λ (x : Core S). x.threads t) (sym is) ∙ at);
      closed = λ t. ap (λ (x : Core S). x.levels t) is;
      starts = subst (BeginsWithStarts is_thread) (sym is) (record { numbers = numbered; drawn = omega arith; none = λ n. refl; words = start_words });
      ends = λ t. ap (λ (x : Core S). x.words (Area.Thread t)) is;
      in_bits = subst BeginsInBits (sym is) (record {
        numbers = numbered;
        priorities = one_thread (λ t th. th.priority < 2 ^ 8) (omega arith);
        words = word_low opening b.limits is_thread can.place can.ranges can.threads;
      });
      begins = subst (λ (x : Core S). ObjectsLieApart (free_place b x.words) x.words x.objects) (sym is) apart;
      taken = subst (λ (x : Core S). free_place b x.words ≤ 2 ^ 32) (sym is) (subst (λ n. n ≤ 2 ^ 32) (sym free_is) (under opening.first b.limits.heap can.place.heap));
      heap = (subst (λ n. 0 < n) (sym can.first) can.place.first, subst (λ n. n + b.limits.heap ≤ 2 ^ 32) (sym can.first) can.place.heap);
      class_words = λ d. subst (λ (x : Core S). class_state (x.words (Area.Class d)) ≤ 3) (sym is) (class_low (list_any (λ e. d == e) opening.ready));
      numbers = can.sections;
      free = λ r there.
          let x = object r there.0 (ap (λ (x : Core S). x.objects r) (sym is) ∙ there.1) in
          ap (λ (x : Core S). x.words (Area.Object (r + 1))) is ∙ monitor_word opening b.limits is_thread can.place can.ranges can.threads r x.object x.found;
      awake = λ t. ap (λ (x : Core S). x.words (Area.Wait t)) is;
      from_one = ap (λ (x : Core S). x.threads 0) is;
    }
      where
        under : (m n : ℕ) → m + n ≤ 2 ^ 32 → m ≤ 2 ^ 32
        under m n is = omega (arith, is)

  stands : StandFor is_thread (opening_words opening) (opening_state opening l)
  stands = stand_for opening b.limits is_thread l can.place can.ranges can.threads

  waits : (o : Option (ThreadState S)) (t : ℕ) → core.threads t ≡ o → waiting_in o 0 ≡ awake
  waits None t at = refl
  waits (Some th) t at = one_thread (λ t th. waiting_in (Some th) 0 ≡ awake) refl t th at

  threads_are : (code : Code S) (t : ℕ) → thread_in code None (core.threads t) ≡ set_at (λ n. unused) 1 (live l) t
  threads_are code t = elim (same_or_other t 1) [
    | inl own ↦ ap (λ n. thread_in code None (core.threads n)) own ∙ ap (thread_in code None) main_there ∙ sym (ap (set_at (λ n. unused) 1 (live l)) own ∙ set_at-hit (λ n. unused) 1 (live l))
    | inr other ↦ ap (thread_in code None) (set_at-other (λ n. None) 1 (Some (first_state 1 5 l)) t other) ∙ sym (set_at-other (λ n. unused) 1 (live l) t other)
  ]

  is_ordinary : (code : Code S) → ordinary code is_thread core ≡ opening_state opening l
  is_ordinary code = states_ext S (ordinary code is_thread core) (opening_state opening l) (record {
    objects = λ r. refl;
    words = stands.words;
    monitors = stands.monitors;
    waiting = λ t. waits (core.threads t) t refl;
    classes = stands.classes;
    starts = stands.starts;
    threads = threads_are code;
    lines = refl;
  })

pub openings_begin_runs : {S : Type 0} (code : Code S) → OpeningsBeginRuns code
openings_begin_runs code is_thread b opening can l c acts is leads = begins_so is_thread b opening can l code acts c is leads

pub openings_are_ordinary : {S : Type 0} (code : Code S) → OpeningsAreOrdinary code
openings_are_ordinary code is_thread b opening can l = is_ordinary is_thread b opening can l code

pub openings_have_no_tags : {S : Type 0} → OpeningsHaveNoTags S
openings_have_no_tags is_thread b opening can l p word =
    let x = object is_thread b opening can l word.r word.o word.there in
    ap (λ at. tag_of (opening_words opening (Area.Object at))) word.place
    ∙ untagged opening b.limits is_thread can.place can.ranges can.threads word.r word.i x.object x.found (subst (λ (m : Object). word.i < m.words) (sym x.is) word.low)
