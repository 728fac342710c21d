-- What the words say of objects at each place of a run, and which are 0.
use Rattle.std.proofs.Common.{◌≡◌, ◌≢◌, ◌⊎◌, inl, inr, ℕ, suc, ◌+◌, ◌<◌, ◌≤◌, Bool, None, Some, refl, sym, ◌∙◌, ap, subst, arith}
use Rattle.op_core.specs.declared.Op.TheVariants.{New}
use Rattle.op_core.specs.declared.Next.{Next}
use Rattle.op_core.specs.declared.Next.TheVariants.{Want}
use Rattle.op_core.specs.ThreadCode.{Code}
use Rattle.op_core.specs.OrdinaryState.{set_at, Object}
use Rattle.heap_words.specs.declared.areas.Area.{Area}
use Rattle.heap_words.specs.Words.{pack_header}
use Rattle.step_port.specs.declared.answer.StepAnswer.{StepAnswer}
use Rattle.step_port.specs.declared.step.Effect.TheVariants.{Load}
use Rattle.step_port.specs.declared.step.ThreadWord.{ThreadWord}
use Rattle.step_port.specs.declared.step.Step.{Step}
use Rattle.step_port.specs.declared.step.Step.TheVariants.{LoadWord, SwapWord, RestoreWord, LoadMonitor, TakeMonitor, SetDepth, Release, SetHeader, StartThread, LoadThread, Split}
use Rattle.step_port.specs.Steps.{place_of, effect_of}
use Rattle.step_port.specs.Words.{Words, put_by, answer_of, words_after}
use Rattle.thread_automaton.specs.declared.Bounds.{Bounds}
use Rattle.thread_automaton.specs.declared.Move.TheVariants.{Make}
use Rattle.thread_automaton.specs.ThreadState.{ThreadState, first_state}
use Rattle.thread_automaton.specs.NextMove.{next_move}
use Rattle.thread_automaton.specs.Told.{after_answer, after_quiet}
use Rattle.automaton_rows.specs.Fits.{AttemptFits}
use Rattle.core_runs.specs.Cores.{threads_by}
use Rattle.section_laws.proofs.ClaimLemmas.{none_some}
use Rattle.section_laws.proofs.FactLemmas.{Threads, each}
use Rattle.section_laws.specs.Layout.{Objects, IsWordPlace, free_place}
use Rattle.section_laws.specs.Places.{FitsNumber}
use Rattle.section_laws.proofs.run_layout.ListLemmas.{In, Holds, WasMarked}
use Rattle.section_laws.proofs.run_layout.NameLemmas.{NamesNew, Names, step_names}
use Rattle.section_laws.proofs.run_layout.OwnedLemmas.{new_place}
use Rattle.section_laws.proofs.run_layout.LaidLemmas.{There, NextFits, new_end, HasRoom, Laid, more_taken, objects_after, with_objects, takes_room}
use Rattle.section_laws.proofs.run_layout.PlaceLemmas.{put_object, stays_or_made, SetsNoHeader, Place, in_object, in_block, step_place, one_object, new_apart}

-- Headers say class and length; words that weren't taken yet are 0, and those that were taken for an object that isn't
-- made yet are too.
pub record Filled {S : Type 0} (code : Code S) (b : Bounds) (w : Words) (objects : Objects) (threads : Threads S) : Type 0 where
  pub headers : (r : ℕ) (o : Object) → objects r ≡ Some o → w (Area.Object r) ≡ pack_header o.class o.length
  pub unused : (at : ℕ) → free_place b w ≤ at → w (Area.Object at) ≡ 0
  pub empty : (u r : ℕ) (th : ThreadState S) → threads u ≡ Some th → new_place th.attempt ≡ Some r
      → (at : ℕ) → r ≤ at → at < new_end code th r → w (Area.Object at) ≡ 0

no_low : (d : ℕ) → d ≡ 0 → 2 ≤ d → ⊥
no_low d none low = omega (arith, none, low)

no_next : (d e : ℕ) → d ≡ 0 → d ≡ suc e → ⊥
no_next d e none next = omega (arith, none, next)

-- a step on a header, but for the one that sets it, is a load
header_load : (thread : Bool) (step : Step) → SetsNoHeader step → FitsNumber thread 0 step → effect_of step ≡ Load
header_load thread (LoadWord at) none fits = refl
header_load thread (SwapWord at old new) none fits = absurd (no_low 0 refl fits.0)
header_load thread (RestoreWord at old) none fits = absurd (no_low 0 refl fits.0)
header_load thread (LoadMonitor r) none fits = refl
header_load thread (TakeMonitor r new) none fits = absurd (no_next 0 0 refl fits)
header_load thread (SetDepth r new) none fits = absurd (no_next 0 0 refl fits)
header_load thread (Release r) none fits = absurd (no_next 0 0 refl fits)
header_load thread (StartThread r n) none fits = absurd (no_next 0 2 refl fits.0)
header_load thread (LoadThread (ThreadWord.Start r)) none fits = refl
header_load thread (SetHeader r w) none fits = absurd none
header_load thread step none fits = absurd fits

pub loads_none : (step : Step) (w : Words) (at : ℕ) → effect_of step ≡ Load → words_after step w (Area.Object at) ≡ w (Area.Object at)
loads_none step w at load = ap (λ e. put_by e w (place_of step) (Area.Object at)) load

module _ {S : Type 0} (code : Code S) (b : Bounds) (is_thread : ℕ → Bool) (begun : Objects) (w : Words) (objects : Objects) (threads : Threads S)
    (laid : Laid code b is_thread begun w objects threads) (t : ℕ) (th : ThreadState S) (stands : threads t ≡ Some th) (step : Step) (a : StepAnswer)
    (fits : AttemptFits th (code.next th.local) th.attempt) (makes : next_move code b th ≡ Make step) (is : a ≡ answer_of w step) (all : NextFits is_thread objects (code.next th.local)) where
  abbrev after : Words
  after = words_after step w

  abbrev objects_now : Objects
  objects_now = objects_after code b is_thread begun w objects threads laid t th stands step a fits makes is all

  abbrev y : ThreadState S
  y = after_answer code b th step a

  -- the word at a place stays, or the step is made there
  pub at_place : (at : ℕ) → (after (Area.Object at) ≡ w (Area.Object at)) ⊎ Place is_thread objects th (code.next th.local) step at
  at_place at = elim (stays_or_made step w at) [
    | inl stays ↦ inl stays
    | inr made ↦ inr (step_place code b is_thread begun w objects threads laid t th stands step fits makes all at made)
  ]

  pub same_word : (r q : ℕ) (o p : Object) → objects r ≡ Some o → objects q ≡ Some p → (d e : ℕ) → d < 2 + o.words → e < 2 + p.words → r + d ≡ q + e → (r ≡ q) × (d ≡ e)
  same_word = one_object code b is_thread begun w objects threads laid t th stands step fits makes all

  pub apart_new : (at r d : ℕ) (o : Object) → new_place th.attempt ≡ Some at → objects r ≡ Some o → d < 2 + o.words → at ≡ r + d → ⊥
  apart_new = new_apart code b is_thread begun w objects threads laid t th stands step fits makes all

  -- the header of a new object says its class and its length
  new_header : (r v c n : ℕ) → step ≡ SetHeader r v → code.next th.local ≡ Want (New c n) → after (Area.Object r) ≡ pack_header c n
  new_header r v c n sets wants =
      let names : NamesNew (code.next th.local) v = (subst (Names th (code.next th.local) th.attempt) sets (step_names code b th step fits makes)).1 in
      let same = same_new names.0 names.1 (sym names.2 ∙ wants) in
      ap (λ m. words_after m w (Area.Object r)) sets ∙ put_object w r v ∙ names.3 ∙ ap (λ m. pack_header m names.1) same.0 ∙ ap (λ m. pack_header c m) same.1
    where
      class_in : Next → ℕ
      class_in (Want (New c n)) = c
      class_in next = 0

      length_in : Next → ℕ
      length_in (Want (New c n)) = n
      length_in next = 0

      same_new : (d m : ℕ) → Want (New d m) ≡ Want (New c n) → (d ≡ c) × (m ≡ n)
      same_new d m same = (ap class_in same, ap length_in same)

  zero_number : (r d q : ℕ) (o p : Object) → objects r ≡ Some o → objects q ≡ Some p → d < 2 + o.words → q ≡ r + d → (q ≡ r) × (0 ≡ d)
  zero_number r d q o p there also below place = same_word q r p o also there 0 d (omega arith) below (omega (arith, place))

  headers_after : (r : ℕ) (o : Object) → objects_now r ≡ Some o → Filled code b w objects threads → after (Area.Object r) ≡ pack_header o.class o.length
  headers_after r o there filled = with_objects code b is_thread begun w objects threads laid t th stands step a fits makes is all
      (λ q p. after (Area.Object q) ≡ pack_header p.class p.length)
      (λ q p old. elim (at_place q) [
        | inl stays ↦ stays ∙ filled.headers q p old
        | inr (in_object none so) ↦
            let same = zero_number so.r so.number q so.o p so.there old so.below so.place in
            loads_none step w q (header_load (is_thread so.o.class) step none (subst (λ d. FitsNumber (is_thread so.o.class) d step) (sym same.1) so.fits)) ∙ filled.headers q p old
        | inr (in_block v sets new names) ↦ absurd (apart_new q q 0 p new old (omega arith) (omega arith))
      ])
      (λ q v c n sets new wants. new_header q v c n sets wants) r o there

  unused_after : (at : ℕ) → free_place b after ≤ at → Filled code b w objects threads → after (Area.Object at) ≡ 0
  unused_after at high filled =
      let up = more_taken step w in
      elim (at_place at) [
        | inl stays ↦ stays ∙ filled.unused at (omega (arith, high, up))
        | inr (in_object none so) ↦
            let low = laid.low so.r so.o so.there in let below = so.below in let place = so.place in
            absurd (no at so.r so.number so.o.words (free_place b w) (omega (arith, high, up)) low below place)
        | inr (in_block v sets new names) ↦
            let room = laid.room t at th stands new in let some = room.some in let low = room.low in
            absurd (too_high at (new_end code th at) (free_place b w) (omega (arith, high, up)) some low)
      ]
    where
      no : (at r d words free : ℕ) → free ≤ at → r + 2 + words ≤ free → d < 2 + words → at ≡ r + d → ⊥
      no at r d words free high low below place = omega (arith, high, low, below, place)

      too_high : (at last free : ℕ) → free ≤ at → at + 2 ≤ last → last ≤ free → ⊥
      too_high at last free high some low = omega (arith, high, some, low)

  -- the words that the own thread has just taken
  empty_own : (r : ℕ) → new_place y.attempt ≡ Some r → Filled code b w objects threads → (at : ℕ) → r ≤ at → at < new_end code y r → after (Area.Object at) ≡ 0
  empty_own r new filled at from below =
      let takes = takes_room code b is_thread begun w objects threads laid t th stands step a fits makes is all r new in
      let here = takes.at in
      ap (λ m. words_after m w (Area.Object at)) takes.made ∙ filled.unused at (omega (arith, from, here))

  empty_other : (u r : ℕ) (uh : ThreadState S) → u ≢ t → threads u ≡ Some uh → new_place uh.attempt ≡ Some r → Filled code b w objects threads
      → (at : ℕ) → r ≤ at → at < new_end code uh r → after (Area.Object at) ≡ 0
  empty_other u r uh other there new filled at from below =
      let room = laid.room u r uh there new in
      elim (at_place at) [
        | inl stays ↦ stays ∙ filled.empty u r uh there new at from below
        | inr (in_object none so) ↦ absurd (elim (room.objects_apart so.r so.o so.there) [
          | inl high ↦ after_end at so.r so.number (new_end code uh r) below high so.place
          | inr low ↦ before_it at r so.r so.number so.o.words from low so.below so.place
        ])
        | inr (in_block v sets own names) ↦
            let some = (laid.room t at th stands own).some in
            absurd (elim (room.others_apart t at th (λ same. other (sym same)) stands own) [
              | inl high ↦ outside at (new_end code uh r) below high
              | inr low ↦ too_low at r (new_end code th at) from low some
            ])
      ]
    where
      after_end : (at r d last : ℕ) → at < last → last ≤ r → at ≡ r + d → ⊥
      after_end at r d last below high place = omega (arith, below, high, place)

      before_it : (at q r d words : ℕ) → q ≤ at → r + 2 + words ≤ q → d < 2 + words → at ≡ r + d → ⊥
      before_it at q r d words from low below place = omega (arith, from, low, below, place)

      outside : (at last : ℕ) → at < last → last ≤ at → ⊥
      outside at last below high = omega (arith, below, high)

      too_low : (at r last : ℕ) → r ≤ at → last ≤ r → at + 2 ≤ last → ⊥
      too_low at r last from low some = omega (arith, from, low, some)

  pub step_filled : Filled code b w objects threads → Filled code b after objects_now (set_at threads t (Some y))
  step_filled filled = record {
    headers = λ r o there. headers_after r o there filled;
    unused = λ at high. unused_after at high filled;
    empty = λ u r. each (λ (uh : ThreadState S). new_place uh.attempt ≡ Some r → (at : ℕ) → r ≤ at → at < new_end code uh r → after (Area.Object at) ≡ 0) threads t y u
        (λ own new. empty_own r new filled) (λ uh other there new. empty_other u r uh other there new filled);
  }

-- ---- other acts

module _ {S : Type 0} (code : Code S) (b : Bounds) (is_thread : ℕ → Bool) (begun : Objects) (w : Words) (objects : Objects) where
  abbrev LaidSo : Threads S → Type 0
  LaidSo threads = Laid code b is_thread begun w objects threads × Filled code b w objects threads

  -- a thread that holds and logs no more than before, and is about to make no object
  calm_laid : (threads : Threads S) (t : ℕ) (y : ThreadState S) → LaidSo threads → ((q : ℕ) → Holds y.held q → There objects q) → ((q : ℕ) → WasMarked y.marks q → There objects q)
      → ((x : _) → In x y.log → IsWordPlace is_thread objects x.at) → new_place y.attempt ≡ None → LaidSo (set_at threads t (Some y))
  calm_laid threads t y (laid, filled) held marked logged none = (
    record {
      apart = laid.apart;
      low = laid.low;
      in_range = laid.in_range;
      from = laid.from;
      held = λ u q. each (λ (uh : ThreadState S). Holds uh.held q → There objects q) threads t y u (λ own. held q) (λ uh other at. laid.held u q uh at);
      marked = λ u q. each (λ (uh : ThreadState S). WasMarked uh.marks q → There objects q) threads t y u (λ own. marked q) (λ uh other at. laid.marked u q uh at);
      logged = λ u x. each (λ (uh : ThreadState S). In x uh.log → IsWordPlace is_thread objects x.at) threads t y u (λ own. logged x) (λ uh other at. laid.logged u x uh at);
      room = λ u r. each (λ (uh : ThreadState S). new_place uh.attempt ≡ Some r → HasRoom code b w objects (set_at threads t (Some y)) u r (new_end code uh r)) threads t y u
          (λ own new. none_some r (sym none ∙ new))
          (λ uh other at new.
          let room = laid.room u r uh at new in
          record {
            low = room.low;
            within = room.within;
            high = room.high;
            some = room.some;
            objects_apart = room.objects_apart;
            others_apart = λ v q vh away there about. each (λ (xh : ThreadState S). new_place xh.attempt ≡ Some q → (new_end code uh r ≤ q) ⊎ (new_end code xh q ≤ r)) threads t y v
                (λ own new_too. none_some q (sym none ∙ new_too)) (λ xh other_too at_x new_too. room.others_apart v q xh away at_x new_too) vh there about;
          });
    },
    record {
      headers = filled.headers;
      unused = filled.unused;
      empty = λ u r. each (λ (uh : ThreadState S). new_place uh.attempt ≡ Some r → (at : ℕ) → r ≤ at → at < new_end code uh r → w (Area.Object at) ≡ 0) threads t y u
          (λ own new. none_some r (sym none ∙ new)) (λ uh other at new. filled.empty u r uh at new);
    },
  )

  pub handed_laid : (step : Step) (l : S) (threads : Threads S) → LaidSo threads → LaidSo (threads_by code step l threads)
  handed_laid (Split n r p) l threads laid = calm_laid threads n (first_state n p (code.child l r)) laid (λ q there. absurd there.1) (λ q there. absurd there.1) (λ x there. absurd there) refl
  handed_laid step l threads laid = laid

  pub quiet_laid : (threads : Threads S) (t : ℕ) (th : ThreadState S) (l : S) → threads t ≡ Some th → LaidSo threads → LaidSo (set_at threads t (Some (after_quiet th l)))
  quiet_laid threads t th l stands laid = calm_laid threads t (after_quiet th l) laid (λ q there. laid.0.held t q th stands there) (λ q there. laid.0.marked t q th stands there)
      (λ x there. laid.0.logged t x th stands there) refl
