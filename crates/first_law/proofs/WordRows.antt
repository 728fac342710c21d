-- Acts on the words of objects: those that read them, that write them, that put them back, and that make an object.
use Rattle.std.proofs.Common.{◌≡◌, ◌≢◌, inl, inr, ℕ, suc, ◌+◌, ◌<◌, ◌≤◌, ◌^◌, ◌&&◌, nat_eq, Bool, true, false, Option, None, Some, List, length, refl, sym, ◌∙◌, ap, subst, arith}
use Rattle.std.specs.Prelude.{IsSomeAnd, is_some, nat_lt, if◌then◌else◌}
use Rattle.std.proofs.lemmas.Option.{same_Some}
use Rattle.op_core.specs.declared.Op.TheVariants.{ClassOf, Read, Write, New}
use Rattle.op_core.specs.declared.Reply.{Reply}
use Rattle.op_core.specs.declared.Reply.TheVariants.{Class, Value, Made}
use Rattle.op_core.specs.declared.Next.{Next}
use Rattle.op_core.specs.declared.Next.TheVariants.{Want}
use Rattle.op_core.specs.ThreadCode.{Code}
use Rattle.op_core.specs.OrdinaryState.{set_at, Object, live, free, OrdinaryState}
use Rattle.op_core.specs.InPlaceList.{put_back}
use Rattle.op_core.specs.Laws.{HasSameParts}
use Rattle.op_core.proofs.ExecutionLemmas.{states_ext}
use Rattle.op_core.proofs.PointwiseLemmas.{same_or_other, set_at-hit, set_at-other}
use Rattle.heap_words.specs.declared.areas.Area.{Area}
use Rattle.heap_words.specs.Words.{pack, value_of, pack_tag, pack_header, header_class, header_length}
use Rattle.write_log.specs.declared.Noted.{Noted}
use Rattle.step_port.specs.declared.answer.StepAnswer.{StepAnswer}
use Rattle.step_port.specs.declared.answer.StepAnswer.TheVariants.{Found}
use Rattle.step_port.specs.declared.step.Step.{Step}
use Rattle.step_port.specs.declared.step.Step.TheVariants.{LoadWord, SwapWord, RestoreWord, SetHeader}
use Rattle.step_port.specs.Steps.{effect_of}
use Rattle.step_port.specs.Words.{Words, words_after}
use Rattle.ordinary_words.specs.Reading.{word_in, start_in, monitor_in, monitor_of}
use Rattle.thread_automaton.specs.declared.Bounds.{Bounds}
use Rattle.thread_automaton.specs.declared.Attempt.TheVariants.{Undoing}
use Rattle.thread_automaton.specs.ThreadState.{ThreadState}
use Rattle.thread_automaton.specs.NextMove.{word_place}
use Rattle.thread_automaton.specs.Changes.{Change, replies, writes, puts_back}
use Rattle.thread_automaton.specs.Checks.{written_word, noted}
use Rattle.core_runs.specs.Cores.{Core, objects_by}
use Rattle.core_runs.specs.Acts.{Act}
use Rattle.core_runs.specs.Reading.{place_in, ordinary}
use Rattle.section_laws.proofs.level_saves.SaveLemmas.{stands_so}
use Rattle.section_laws.proofs.WordLemmas.{exchanged, stays_at}
use Rattle.section_laws.proofs.ClaimLemmas.{none_some, found_is}
use Rattle.section_laws.specs.Layout.{object_end, IsWordPlace, IsNewObject}
use Rattle.section_laws.proofs.run_layout.ListLemmas.{In}
use Rattle.section_laws.proofs.run_layout.LaidLemmas.{is_there, is_such, placed, NextFits, Laid}
use Rattle.section_laws.proofs.run_layout.NameLemmas.{step_names}
use Rattle.section_laws.proofs.run_layout.PlaceLemmas.{object_other, put_object, one_place}
use Rattle.section_laws.proofs.run_layout.FillLemmas.{Filled}
use Rattle.section_laws.proofs.run_layout.RunLemmas.{laid_at, stays, is_new}
use Rattle.first_law.specs.InPlace.{IsSeenRun}
use Rattle.first_law.proofs.StateLemmas.{word_is, word_kept, start_kept}
use Rattle.first_law.proofs.TurnLemmas.{keeps_load, laid, within, up, known, monitors_part, waiting_part, classes_part, threads_part, stays_part}
use Rattle.first_law.proofs.EntryLemmas.{HasEntry, Done, did_at, after, live_from, then_live, depth_is, event_entry, leads}
use Rattle.first_law.proofs.ReplyLemmas.{kept_entry}
use Rattle.first_law.proofs.NotedLemmas.{WasNoted, noted_at}
use Rattle.first_law.proofs.WordLemmas.{words_put, monitor_else, starts_else}

class_in : (c n : ℕ) → c < 2 ^ 32 → header_class (pack_header c n) ≡ c
unfolding header_class pack_header
class_in c n low = omega (arith, low)

length_in : (c n : ℕ) → c < 2 ^ 32 → header_length (pack_header c n) ≡ n
unfolding header_length pack_header
length_in c n low = omega (arith, low)

value_in : (v tag : ℕ) → v < 2 ^ 32 → value_of (pack v tag) ≡ v
unfolding value_of pack
value_in v tag low = omega (arith, low)

value_zero : value_of 0 ≡ 0
unfolding value_of
value_zero = refl

module _ {S : Type 0} (code : Code S) (b : Bounds) (is_thread : ℕ → Bool) (first : S) (classes : ℕ) (c : ℕ → Core S) (acts : List Act) (run : IsSeenRun code b is_thread first classes c acts) (k t : ℕ)
    (th : ThreadState S) where
  abbrev Does : Next → Step → StepAnswer → Change → Type 0
  Does next step a change = Done code b is_thread first classes c acts run k t th next step a change

  abbrev Seen : Step → StepAnswer → Type 0
  Seen step a = HasEntry code b is_thread first classes c acts run k t th step a

  abbrev state : OrdinaryState S
  state = ordinary code is_thread (c k)

  module _ {next : Next} {step : Step} {a : StepAnswer} {change : Change} (act : Does next step a change) where
    low : k ≤ length acts
    low = up code b is_thread first classes c acts run k t step a act.here (did_at code b is_thread first classes c acts run k t th act)

    inside : k < length acts
    inside = within code b is_thread first classes c acts run k t step a act.here (did_at code b is_thread first classes c acts run k t th act)

    pub all_fit : NextFits is_thread (c k).objects next
    all_fit op is = run.wants k t th op inside act.stands (act.wants ∙ is)

    pub layout : Laid code b is_thread (c 0).objects (c k).words (c k).objects (c k).threads × Filled code b (c k).words (c k).objects (c k).threads
    layout = laid_at code b is_thread c acts (laid code b is_thread first classes c acts run) k low

    pub has_start : (q : ℕ) (o : Object) → (c k).objects q ≡ Some o → is_thread o.class ≡ true → 1 < o.words
    has_start q o there thread = run.threads k q o low there thread

  -- ---- words that are read

  pub class_row : {r w : ℕ} → Does (Want (ClassOf r)) (LoadWord r) (Found w) (replies (Class (header_class w) (header_length w))) → Seen (LoadWord r) (Found w)
  class_row {r} {w} act =
      let there = (all_fit act (ClassOf r) refl).1 in
      let so = is_there ((c k).objects r) there in
      let word : w ≡ pack_header so.0.class so.0.length = found_is w ((c k).words (Area.Object r)) act.answered ∙ (layout act).1.headers r so.0 so.1 in
      let range = (layout act).0.in_range r so.0 so.1 in
      kept_entry code b is_thread first classes c acts run k t th act (ClassOf r) (Class (header_class w) (header_length w)) refl refl tt tt there
      (subst (λ x. IsSomeAnd x (λ (o : Object). (o.class ≡ header_class w) × (o.length ≡ header_length w))) (sym so.1)
      (sym (ap header_class word ∙ class_in so.0.class so.0.length range.0), sym (ap header_length word ∙ length_in so.0.class so.0.length range.0)))
      (keeps_load (LoadWord r) (c k).words refl) refl (λ f. refl) (λ f. refl) (λ xs. refl) (λ f. refl) refl

  pub read_row : {r i w : ℕ} → Does (Want (Read r i)) (LoadWord (word_place r i)) (Found w) (replies (Value (value_of w))) → Seen (LoadWord (word_place r i)) (Found w)
  read_row {r} {i} {w} act =
      let fits = all_fit act (Read r i) refl in
      let so = placed is_thread (c k).objects r i (word_place r i) fits.1 fits.2 refl in
      let such = is_such ((c k).objects r) fits.1 in
      let kept = is_such ((c k).objects r) fits.2 in
      let plain : is_thread such.0.class ≡ true → i ≢ 1 = λ thread. kept.2 (ap (λ (x : Object). is_thread x.class) (same_Some kept.0 such.0 (sym kept.1 ∙ such.1)) ∙ thread) in
      kept_entry code b is_thread first classes c acts run k t th act (Read r i) (Value (value_of w)) refl refl tt tt fits.1
      (ap value_of (found_is w ((c k).words (Area.Object (word_place r i))) act.answered) ∙ sym (word_is is_thread (c k).words r i such.0 such.2 plain)
      ∙ ap (word_in is_thread (c k).words r i) (sym such.1))
      (keeps_load (LoadWord (word_place r i)) (c k).words refl) refl (λ f. refl) (λ f. refl) (λ xs. refl) (λ f. refl) refl

  -- ---- a word that is written

  module _ {r i v old : ℕ} (act : Does (Want (Write r i v)) (SwapWord (word_place r i) old (written_word th v)) StepAnswer.Done (writes (noted th (word_place r i) old))) where
    abbrev swap : Step
    swap = SwapWord (word_place r i) old (written_word th v)

    abbrev swapped : Words
    swapped = words_after (SwapWord (word_place r i) old (written_word th v)) (c k).words

    written : IsWordPlace is_thread (c k).objects (word_place r i)
    written = let fits = all_fit act (Write r i v) refl in placed is_thread (c k).objects r i (word_place r i) fits.1 fits.2 refl

    such : (o : Object) × ((c k).objects r ≡ Some o) × (i < o.words)
    such = is_such ((c k).objects r) (all_fit act (Write r i v) refl).1

    plain : is_thread such.0.class ≡ true → i ≢ 1
    plain thread =
        let kept = is_such ((c k).objects r) (all_fit act (Write r i v) refl).2 in
        kept.2 (ap (λ (x : Object). is_thread x.class) (same_Some kept.0 such.0 (sym kept.1 ∙ such.1)) ∙ thread)

    puts : swapped (Area.Object (r + 2 + i)) ≡ written_word th v
    puts = ap (λ (x : Words). x (Area.Object (r + 2 + i))) (exchanged (c k).words (Area.Object (word_place r i)) old (written_word th v) act.answered).leaves
        ∙ put_object (c k).words (r + 2 + i) (written_word th v)

    others : (p : ℕ) → p ≢ r + 2 + i → swapped (Area.Object p) ≡ (c k).words (Area.Object p)
    others p other = stays_at (effect_of swap) (c k).words (Area.Object (word_place r i)) (Area.Object p) (object_other p (r + 2 + i) other)

    pub write_row : Seen (SwapWord (word_place r i) old (written_word th v)) StepAnswer.Done
    write_row = event_entry code b is_thread first classes c acts run k t th act (Write r i v) Reply.Done refl refl tt tt (all_fit act (Write r i v) refl).1 tt (record {
      objects = λ q. refl;
      words = λ q j. words_put is_thread (c k).objects (layout act).0.apart (has_start act) (c k).words swapped r i (written_word th v) such.0 such.1 such.2 plain puts others q j
          ∙ ap (λ n. set_at state.words r (set_at (state.words r) i n) q j) (value_in v (pack_tag th.section th.levels) (all_fit act (Write r i v) refl).0.2);
      monitors = λ q. monitors_part code b is_thread first classes c acts run k t swap StepAnswer.Done act.here (did_at code b is_thread first classes c acts run k t th act) q
          (λ o there. monitor_else is_thread (c k).objects (layout act).0.apart (has_start act) (c k).words swapped r i (written_word th v) such.0 such.1 such.2 plain puts others q o there);
      waiting = λ u. waiting_part code b is_thread first classes c acts run k t swap StepAnswer.Done act.here (did_at code b is_thread first classes c acts run k t th act)
          (depth_is code b is_thread first classes c acts run k t th act) (λ u. stays_at (effect_of swap) (c k).words (Area.Object (word_place r i)) (Area.Wait u) refl) u;
      classes = λ d. classes_part code b is_thread first classes c acts run k t swap StepAnswer.Done act.here (did_at code b is_thread first classes c acts run k t th act)
          (λ d. stays_at (effect_of swap) (c k).words (Area.Object (word_place r i)) (Area.Class d) refl) d;
      starts = λ q. starts_else is_thread (c k).objects (layout act).0.apart (has_start act) (c k).words swapped r i (written_word th v) such.0 such.1 such.2 plain puts others q;
      threads = λ u. threads_part code b is_thread first classes c acts run k t swap StepAnswer.Done act.here (did_at code b is_thread first classes c acts run k t th act) (live (code.reply th.local Reply.Done))
          (then_live code b is_thread first classes c acts run k t th act ((c k).starting t) (code.reply th.local Reply.Done) (live_from code b is_thread first classes c acts run k t th act) refl) u;
      lines = refl;
    })

  -- ---- a word that is put back

  module _ {next : Next} {w at old : ℕ} (act : Does next (RestoreWord at old) StepAnswer.Done puts_back) (undoing : th.attempt ≡ Undoing w) where
    abbrev restored : Words
    restored = words_after (RestoreWord at old) (c k).words

    logged : (x : Noted) × In x th.log × (x.at ≡ at) × (x.old ≡ old)
    logged = step_names code b th (RestoreWord at old)
        ((known code b is_thread first classes c acts run k t (RestoreWord at old) StepAnswer.Done act.here (did_at code b is_thread first classes c acts run k t th act)).fit t th act.stands).attempt act.move

    was : WasNoted code b is_thread c acts (laid code b is_thread first classes c acts run) k logged.0
    was = noted_at code b is_thread c acts (laid code b is_thread first classes c acts run) k (low act) t th logged.0 act.stands logged.1

    earlier : was.place ≤ k
    earlier = let less = was.earlier in omega (arith, less)

    abbrev word : IsWordPlace is_thread (c k).objects at
    word = record {
      r = was.there.r;
      i = was.there.i;
      o = was.there.o;
      there = stays code b is_thread c acts (laid code b is_thread first classes c acts run) was.place k was.there.r was.there.o earlier (low act) was.there.there;
      low = was.there.low;
      place = sym logged.2 ∙ was.there.place;
      kept = was.there.kept;
    }

    back_puts : restored (Area.Object (word.r + 2 + word.i)) ≡ old
    back_puts = ap (λ p. restored (Area.Object p)) (sym word.place) ∙ put_object (c k).words at old

    back_others : (p : ℕ) → p ≢ word.r + 2 + word.i → restored (Area.Object p) ≡ (c k).words (Area.Object p)
    back_others p other = stays_at (effect_of (RestoreWord at old)) (c k).words (Area.Object at) (Area.Object p) (object_other p at (λ same. other (same ∙ word.place)))

    back_parts : HasSameParts (ordinary code is_thread (after code b is_thread first classes c acts run k t th act))
        (record state { words = set_at state.words word.r (set_at (state.words word.r) word.i (value_of old)) })
    back_parts = record {
      objects = λ q. refl;
      words = λ q j. words_put is_thread (c k).objects (layout act).0.apart (has_start act) (c k).words restored word.r word.i old word.o word.there word.low word.kept back_puts back_others q j;
      monitors = λ q. monitors_part code b is_thread first classes c acts run k t (RestoreWord at old) StepAnswer.Done act.here (did_at code b is_thread first classes c acts run k t th act) q
          (λ o there. monitor_else is_thread (c k).objects (layout act).0.apart (has_start act) (c k).words restored word.r word.i old word.o word.there word.low word.kept back_puts back_others q o there);
      waiting = λ u. waiting_part code b is_thread first classes c acts run k t (RestoreWord at old) StepAnswer.Done act.here (did_at code b is_thread first classes c acts run k t th act)
          (depth_is code b is_thread first classes c acts run k t th act) (λ u. refl) u;
      classes = λ d. refl;
      starts = λ q. starts_else is_thread (c k).objects (layout act).0.apart (has_start act) (c k).words restored word.r word.i old word.o word.there word.low word.kept back_puts back_others q;
      threads = λ u. stays_part code b is_thread first classes c acts run k t (RestoreWord at old) StepAnswer.Done act.here (did_at code b is_thread first classes c acts run k t th act) th.local
          (stands_so code b th ((c k).starting t) (RestoreWord at old) act.move tt)
          (then_live code b is_thread first classes c acts run k t th act ((c k).starting t) th.local (live_from code b is_thread first classes c acts run k t th act)
          (ap (place_in code th.local) undoing)) u;
      lines = refl;
    }

    pub back_row : Seen (RestoreWord at old) StepAnswer.Done
    back_row = (
      put_back word.r word.i (value_of old),
      (th, act.stands, (word.r, word.i, subst (λ x. IsSomeAnd x (λ (o : Object). word.i < o.words)) (sym word.there) word.low, word.place, refl)),
      record {
        place = was.place;
        earlier = earlier;
        was = ap (word_in is_thread (c was.place).words was.there.r was.there.i) was.there.there
            ∙ word_is is_thread (c was.place).words was.there.r was.there.i was.there.o was.there.low was.there.kept
            ∙ ap value_of (ap (λ p. (c was.place).words (Area.Object p)) (sym was.there.place) ∙ was.was ∙ logged.3);
        leads = leads code b is_thread first classes c acts run k t th act
            ∙ states_ext S (ordinary code is_thread (after code b is_thread first classes c acts run k t th act))
            (record state { words = set_at state.words word.r (set_at (state.words word.r) word.i (value_of old)) }) back_parts;
      },
    )

  -- ---- an object that is made

  module _ {r m n : ℕ} (act : Does (Want (New m n)) (SetHeader r (pack_header m n)) StepAnswer.Done (replies (Made r))) where
    abbrev made : Object
    made = record { class = m; length = n; words = code.words th.local m n }

    abbrev headed : Words
    headed = words_after (SetHeader r (pack_header m n)) (c k).words

    is_made : IsNewObject b c k r made
    is_made =
        let so = is_new code b is_thread c acts (laid code b is_thread first classes c acts run) k t (SetHeader r (pack_header m n)) StepAnswer.Done act.here (did_at code b is_thread first classes c acts run k t th act)
        r (pack_header m n) refl in
        let same = same_new so.0 so.1 (sym so.2 ∙ act.wants) in
        subst (λ j. IsNewObject b c k r (record { class = m; length = j; words = code.words th.local m j })) same.1
        (subst (λ j. IsNewObject b c k r (record { class = j; length = so.1; words = code.words th.local j so.1 })) same.0 so.3)
      where
        class_wanted : Next → ℕ
        class_wanted (Want (New j l)) = j
        class_wanted next = 0

        length_wanted : Next → ℕ
        length_wanted (Want (New j l)) = l
        length_wanted next = 0

        same_new : (d l : ℕ) → Want (New d l) ≡ Want (New m n) → (d ≡ m) × (l ≡ n)
        same_new d l same = (ap class_wanted same, ap length_wanted same)

    abbrev then : Core S
    then = after code b is_thread first classes c acts run k t th act

    -- the words of the new object are 0
    fresh : (p : ℕ) → r < p → p < object_end r made → headed (Area.Object p) ≡ 0
    fresh p above below = ap (λ (z : Core S). z.words (Area.Object p)) (sym act.leads) ∙ is_made.empty p above below

    headed_else : (p : ℕ) → p ≢ r → headed (Area.Object p) ≡ (c k).words (Area.Object p)
    headed_else p other = stays_at (effect_of (SetHeader r (pack_header m n))) (c k).words (Area.Object r) (Area.Object p) (object_other p r other)

    objects_then : (q : ℕ) → then.objects q ≡ set_at (c k).objects r (Some made) q
    objects_then q = ap (λ next. objects_by code (SetHeader r (pack_header m n)) th.local next (c k).objects q) act.wants

    -- an object that was there lies elsewhere
    old_else : (q d : ℕ) (o : Object) → (c k).objects q ≡ Some o → d < 2 + o.words → q + d ≢ r
    old_else q d o there below same =
        let both_apart = (laid_at code b is_thread c acts (laid code b is_thread first classes c acts run) (suc k) (inside act)).0.apart in
        let stayed = stays code b is_thread c acts (laid code b is_thread first classes c acts run) k (suc k) q o (omega arith) (inside act) there in
        not_there q (one_place (c (suc k)).objects both_apart q r o made stayed is_made.there d 0 below (omega arith) (omega (arith, same))).0 there
      where
        not_there : (q : ℕ) → q ≡ r → {o : Object} → (c k).objects q ≡ Some o → ⊥
        not_there q own {o} there = none_some o (sym is_made.none ∙ ap (c k).objects (sym own) ∙ there)

    new_words : (q i : ℕ) → word_in is_thread headed q i (then.objects q) ≡ set_at state.words r (λ _. 0) q i
    new_words q i = ap (word_in is_thread headed q i) (objects_then q) ∙ elim (same_or_other q r) [
      | inl own ↦ ap (λ j. word_in is_thread headed j i (set_at (c k).objects r (Some made) j)) own ∙ ap (word_in is_thread headed r i) (set_at-hit (c k).objects r (Some made))
          ∙ word_kept is_thread (λ _. 0) headed r i (Some made) (λ o is below plain. ap value_of (fresh (r + 2 + i) (omega arith) (end_low i o is below))) ∙ zero_word r i (Some made)
          ∙ sym (ap (λ j. set_at state.words r (λ _. 0) j i) own ∙ ap (λ (f : ℕ → ℕ). f i) (set_at-hit state.words r (λ _. 0)))
      | inr other ↦ ap (word_in is_thread headed q i) (set_at-other (c k).objects r (Some made) q other)
          ∙ word_kept is_thread (c k).words headed q i ((c k).objects q) (λ o there below plain. ap value_of (headed_else (q + 2 + i) (λ same. old_else q (2 + i) o there (omega (arith, below)) (omega (arith, same)))))
          ∙ sym (ap (λ (f : ℕ → ℕ). f i) (set_at-other state.words r (λ _. 0) q other))
    ]
      where
        end_low : (i : ℕ) (o : Object) → Some made ≡ Some o → i < o.words → r + 2 + i < object_end r made
        end_low i o is below = let size = ap (λ (x : Object). x.words) (same_Some made o is) in omega (arith, below, size)

        zero_word : (q i : ℕ) (x : Option Object) → word_in is_thread (λ _. 0) q i x ≡ 0
        zero_word q i None = refl
        zero_word q i (Some o) = by_low (nat_lt i o.words) (is_thread o.class && nat_eq i 1)
          where
            by_low : (p s : Bool) → (if p then (if s then 0 else value_of 0) else 0) ≡ 0
            by_low true true = refl
            by_low true false = value_zero
            by_low false s = refl

    new_monitors : (q : ℕ) → monitor_in headed q (then.objects q) ≡ set_at state.monitors r free q
    new_monitors q = ap (monitor_in headed q) (objects_then q) ∙ elim (same_or_other q r) [
      | inl own ↦ ap (λ j. monitor_in headed j (set_at (c k).objects r (Some made) j)) own ∙ ap (monitor_in headed r) (set_at-hit (c k).objects r (Some made))
          ∙ ap (monitor_of headed) (fresh (r + 1) (omega arith) (omega arith)) ∙ sym (ap (set_at state.monitors r free) own ∙ set_at-hit state.monitors r free)
      | inr other ↦ ap (monitor_in headed q) (set_at-other (c k).objects r (Some made) q other)
          ∙ monitors_part code b is_thread first classes c acts run k t (SetHeader r (pack_header m n)) StepAnswer.Done act.here (did_at code b is_thread first classes c acts run k t th act) q
          (λ o there. headed_else (q + 1) (λ same. old_else q 1 o there (omega arith) same)) ∙ sym (set_at-other state.monitors r free q other)
    ]

    new_starts : (q : ℕ) → start_in is_thread headed q (then.objects q) ≡ state.starts q
    new_starts q = ap (start_in is_thread headed q) (objects_then q) ∙ elim (same_or_other q r) [
      | inl own ↦ ap (λ j. start_in is_thread headed j (set_at (c k).objects r (Some made) j)) own ∙ ap (start_in is_thread headed r) (set_at-hit (c k).objects r (Some made))
          ∙ start_kept is_thread (λ _. 0) headed r (Some made) (λ o is thread. fresh (r + 3) (omega arith) (start_low (run.threads (suc k) r made (inside act) is_made.there (same_class o is thread)))) ∙ zero_start
          ∙ sym (ap (λ j. start_in is_thread (c k).words j ((c k).objects j)) own ∙ ap (start_in is_thread (c k).words r) is_made.none)
      | inr other ↦ ap (start_in is_thread headed q) (set_at-other (c k).objects r (Some made) q other)
          ∙ start_kept is_thread (c k).words headed q ((c k).objects q) (λ o there thread. headed_else (q + 3) (λ same. old_else q 3 o there (three (has_start act q o there thread)) same))
    ]
      where
        start_low : 1 < made.words → r + 3 < object_end r made
        start_low some = omega (arith, some)

        three : {j : ℕ} → 1 < j → 3 < 2 + j
        three some = omega (arith, some)

        same_class : (o : Object) → Some made ≡ Some o → is_thread o.class ≡ true → is_thread made.class ≡ true
        same_class o is thread = ap (λ (x : Object). is_thread x.class) (same_Some made o is) ∙ thread

        zero_start : start_in is_thread (λ _. 0) r (Some made) ≡ 0
        zero_start = by_thread (is_thread m)
          where
            by_thread : (p : Bool) → (if p then value_of 0 else 0) ≡ 0
            by_thread true = value_zero
            by_thread false = refl

    pub new_row : Seen (SetHeader r (pack_header m n)) StepAnswer.Done
    new_row = event_entry code b is_thread first classes c acts run k t th act (New m n) (Made r) refl refl tt tt tt
        (let from = is_made.first in let heap = run.heap in let last = is_made.last in
        (omega (arith, from, heap), omega (arith, last, heap), ap is_some is_made.none)) (record {
          objects = objects_then;
          words = new_words;
          monitors = new_monitors;
          waiting = λ u. waiting_part code b is_thread first classes c acts run k t (SetHeader r (pack_header m n)) StepAnswer.Done act.here (did_at code b is_thread first classes c acts run k t th act)
              (depth_is code b is_thread first classes c acts run k t th act) (λ u. refl) u;
          classes = λ d. refl;
          starts = new_starts;
          threads = λ u. threads_part code b is_thread first classes c acts run k t (SetHeader r (pack_header m n)) StepAnswer.Done act.here (did_at code b is_thread first classes c acts run k t th act)
              (live (code.reply th.local (Made r))) (then_live code b is_thread first classes c acts run k t th act ((c k).starting t) (code.reply th.local (Made r))
              (live_from code b is_thread first classes c acts run k t th act) refl) u;
          lines = refl;
        })
