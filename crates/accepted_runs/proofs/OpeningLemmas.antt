-- The opening of a program is one that a run can begin with.
use Rattle.std.proofs.Common.{◌≡◌, inl, inr, ℕ, ◌+◌, ◌<◌, ◌≤◌, ◌^◌, true, false, true≢false, Some, List, [], ◌∷◌, length, refl, sym, ◌∙◌, ap, subst, arith}
use Rattle.std.specs.Prelude.{Contains, slice_get, unwrap_or}
use Rattle.std.specs.List.{All}
use Rattle.std.specs.Option.{option_map}
use Rattle.std.proofs.lemmas.Option.{same_Some, slice_get_cases, get_or_from_slice_get}
use Rattle.builtin_world.specs.declared.number.TheConstants.{CLASS, OBJECT, THREAD}
use Rattle.code_decode.specs.declared.code.ClassUnit.{ClassUnit}
use Rattle.link_types.specs.declared.operands.MethodId.{MethodId}
use Rattle.link_types.specs.declared.types.ObjectType.TheVariants.{Class}
use Rattle.link_rules.specs.Classes.{classes_of}
use Rattle.link_rules.specs.FixedObjects.{ObjectAtStart, first_free, objects_at_start, main_thread_at_start, main_thread_object}
use Rattle.link_rules.specs.Names.{program_names}
use Rattle.link_rules.proofs.Numbers.{class_count_is}
use Rattle.link_rules.proofs.Objects.{objects_row}
use Rattle.op_core.specs.OrdinaryState.{Object}
use Rattle.fixed_objects.specs.declared.FixedObject.{FixedObject}
use Rattle.fixed_objects.specs.Fixed.{fixed_at, fixed_header, fixed_word}
use Rattle.java_rows.specs.Start.{fixed_object, opening_of, start_of_program}
use Rattle.java_laws.proofs.OpeningLemmas.{openings_have_place, openings_start_main}
use Rattle.opening_cores.specs.Laws.{HasRanges, TellsThreads}
use Rattle.thread_automaton.specs.declared.Bounds.{Bounds}
use Rattle.row_soundness.specs.Runs.{IsThread, MayStandFor, ObjectFits, fixed_of}
use Rattle.row_soundness.specs.ClassesFollow.{ClassesFollow, IsFixed}
use Rattle.program_soundness.specs.Soundness.{HasRoom, StateFits}
use Rattle.program_soundness.specs.SoundPrograms.{IsSound}
use Rattle.program_soundness.proofs.ClassNumbers.{type_of_class}
use Rattle.program_soundness.specs.Programs.{IsMainMethod}
use Rattle.program_soundness.proofs.BelowClasses.{IsBelowClass, above_class_class, subclass_below}
use Rattle.program_soundness.proofs.ThreadLaws.{programs_have_room, thread_is_class}
use Rattle.program_soundness.proofs.FixedFit.{main_thread_fits}
use Rattle.program_soundness.proofs.FixedRows.{found_in_row}
use Rattle.program_soundness.proofs.ObjectLaws.{classes_follow}
use Rattle.program_soundness.proofs.Starts.{IsAtStart, a_class, the_out, the_thread, the_arguments, a_literal, is_at_start, starts_fit}
use Rattle.opening_cores.specs.Openings.{CanBegin}

module _ (us : List ClassUnit) (order : List ℕ) (sound : IsSound us order) (room : first_free (program_names us) ≤ 2 ^ 32) (main : MethodId) (is_main : IsMainMethod us main) where
  has_room : HasRoom us
  has_room = programs_have_room us order sound room

  follow : ClassesFollow us
  follow = classes_follow us order sound room

  start : StateFits us (start_of_program us main)
  start = starts_fit us order main sound room is_main

  count : length (classes_of us) ≡ 28 + length us
  count = class_count_is us

  -- a class of threads is one whose objects may be used where a Thread is wanted
  thread_stands : (c : ℕ) → IsThread us c ≡ true → MayStandFor us c (Class THREAD)
  thread_stands c is = subst (λ t. MayStandFor us c t) (type_of_class (program_names us) THREAD (omega (arith, count))) (follow.below c THREAD is)

  -- the class Class is none
  no_thread_class : IsThread us CLASS ≡ true → ⊥
  no_thread_class thread =
      let below : IsBelowClass us order sound CLASS THREAD = subclass_below us order sound THREAD (thread_is_class us) (λ e. omega (arith, e)) CLASS (omega (arith, count)) thread in
      let top : THREAD ≡ OBJECT = above_class_class us order sound THREAD below.above (λ e. omega (arith, e)) in
      omega (arith, top)

  abbrev objects : List ObjectAtStart
  objects = objects_at_start (program_names us) us

  module _ (i : ℕ) (o : ObjectAtStart) (at : slice_get objects i ≡ Some o) where
    found : fixed_at (opening_of us).objects o.reference ≡ Some (fixed_object o)
    found = found_in_row objects 1 (first_free (program_names us)) i o (objects_row us) at

    header_found : fixed_of us o.reference ≡ Some (fixed_header (fixed_object o))
    header_found = ap (option_map fixed_header) found

    fits : ObjectFits us o.reference (fixed_header (fixed_object o))
    fits = start.objects o.reference (fixed_header (fixed_object o)) header_found

    word_low : (j : ℕ) → unwrap_or (slice_get o.words j) 0 < 2 ^ 32
    word_low j = subst (λ x. fixed_word x j < 2 ^ 32) found (start.words o.reference j).0

    words_low : All (λ v. v < 2 ^ 32) o.words
    words_low j d inside = elim (slice_get_cases o.words j).1 [
      | inl there ↦ subst (λ v. v < 2 ^ 32) (sym (get_or_from_slice_get o.words j there.0 d there.2)) (subst (λ v. v < 2 ^ 32) (ap (λ v. unwrap_or v 0) there.2) (word_low j))
      | inr past ↦ absurd (both (length o.words) j past.0 inside)
    ]
      where
        both : (n j : ℕ) → n ≤ j → j < n → ⊥
        both n j past inside = omega (arith, past, inside)

    started_low : IsAtStart us o → o.started < 2 ^ 8
    started_low (a_class c is same) = subst (λ (x : ObjectAtStart). x.started < 2 ^ 8) (sym same) (omega arith)
    started_low (the_out same) = subst (λ (x : ObjectAtStart). x.started < 2 ^ 8) (sym same) (omega arith)
    started_low (the_thread same) = subst (λ (x : ObjectAtStart). x.started < 2 ^ 8) (sym same) (omega arith)
    started_low (the_arguments same) = subst (λ (x : ObjectAtStart). x.started < 2 ^ 8) (sym same) (omega arith)
    started_low (a_literal n within same) = subst (λ (x : ObjectAtStart). x.started < 2 ^ 8) (sym same) (omega arith)

    ranges : HasRanges (fixed_object o)
    ranges = record {
      class = has_room.numbers o.class fits.class;
      size = wide o.length fits.length;
      words = words_low;
      started = started_low (is_at_start us i o at);
    }
      where
        wide : (n : ℕ) → n < 2 ^ 31 → n < 2 ^ 32
        wide n low = omega (arith, low)

    -- a thread object has more than one word
    long : IsThread us o.class ≡ true → 1 < length o.words
    long thread = (has_room.threads o.reference (fixed_header (fixed_object o)) fits (thread_stands o.class thread)).1

    short : {A : Type 0} (n : ℕ) → length o.words ≡ n → n ≤ 1 → IsThread us o.class ≡ true → A
    short n is low thread = absurd (no (length o.words) n (long thread) is low)
      where
        no : (m n : ℕ) → 1 < m → m ≡ n → n ≤ 1 → ⊥
        no m n more is low = omega (arith, more, is, low)

    thread_word : IsAtStart us o → IsThread us o.class ≡ true → slice_get o.words 1 ≡ Some 0
    thread_word (a_class c is same) thread = absurd (no_thread_class (sym (ap (λ (x : ObjectAtStart). IsThread us x.class) same) ∙ thread))
    thread_word (the_out same) thread = short 0 (ap (λ (x : ObjectAtStart). length x.words) same) (omega arith) thread
    thread_word (the_thread same) thread = ap (λ (x : ObjectAtStart). slice_get x.words 1) same
    thread_word (the_arguments same) thread = short 0 (ap (λ (x : ObjectAtStart). length x.words) same) (omega arith) thread
    thread_word (a_literal n within same) thread = short 1 (ap (λ (x : ObjectAtStart). length x.words) same) (omega arith) thread

    main_is_thread : o ≡ main_thread_at_start (program_names us) → IsThread us o.class ≡ true
    main_is_thread same =
        let main_thread : IsFixed us (main_thread_object (program_names us)) (Class THREAD) = main_thread_fits us order sound room in
        let object : main_thread.object ≡ fixed_header (fixed_object o) =
        same_Some main_thread.object (fixed_header (fixed_object o)) (sym main_thread.there ∙ ap (fixed_of us) (sym (ap (λ (x : ObjectAtStart). x.reference) same)) ∙ header_found) in
        sym (ap (λ (x : Object). IsThread us x.class) object) ∙ (has_room.threads (main_thread_object (program_names us)) main_thread.object main_thread.fits main_thread.stands).0

    started_none : IsAtStart us o → IsThread us o.class ≡ false → o.started ≡ 0
    started_none (a_class c is same) other = ap (λ (x : ObjectAtStart). x.started) same
    started_none (the_out same) other = ap (λ (x : ObjectAtStart). x.started) same
    started_none (the_thread same) other = absurd (true≢false (sym (main_is_thread same) ∙ other))
    started_none (the_arguments same) other = ap (λ (x : ObjectAtStart). x.started) same
    started_none (a_literal n within same) other = ap (λ (x : ObjectAtStart). x.started) same

    threads : TellsThreads (IsThread us) (fixed_object o)
    threads = record { thread = thread_word (is_at_start us i o at); other = started_none (is_at_start us i o at) }

  -- each fixed object is one of these
  each : (P : FixedObject → Type 0) → ((i : ℕ) (o : ObjectAtStart) → slice_get objects i ≡ Some o → P (fixed_object o)) → All P (opening_of us).objects
  each P all = all_map objects all
    where
      all_map : (os : List ObjectAtStart) → ((i : ℕ) (o : ObjectAtStart) → slice_get os i ≡ Some o → P (fixed_object o)) → All P (Rattle.std.specs.Prelude.map fixed_object os)
      all_map [] so k d within = absurd (none k within)
        where
          none : (k : ℕ) → k < 0 → ⊥
          none k within = omega (arith, within)
      all_map (o ∷ os) so ℕ.zero d within = so 0 o refl
      all_map (o ∷ os) so (ℕ.suc k) d within = all_map os (λ i x at. so (ℕ.suc i) x at) k d (omega (arith, within))

  pub can_begin : (b : Bounds) → b.first ≡ first_free (program_names us) → b.first + b.limits.heap ≤ 2 ^ 32 → b.limits.sections < 2 ^ 32 → CanBegin (IsThread us) b (opening_of us)
  can_begin b first heap sections = record {
    place = openings_have_place us b.limits (subst (λ n. n + b.limits.heap ≤ 2 ^ 32) first heap);
    first = first;
    ranges = each HasRanges ranges;
    threads = each (TellsThreads (IsThread us)) threads;
    main = openings_start_main us;
    sections = sections;
  }
