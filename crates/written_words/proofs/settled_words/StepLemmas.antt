-- Words and logs round a step of a thread.
use Rattle.std.proofs.Common.{◌≡◌, ◌≢◌, inl, inr, ℕ, zero, suc, ◌+◌, ◌-◌, ◌<◌, ◌≤◌, Bool, true, Option, None, Some, List, [], length, refl, sym, ◌∙◌, ap, subst, arith}
use Rattle.std.specs.Prelude.{slice_get}
use Rattle.std.proofs.lemmas.Option.{slice_get_within}
use Rattle.op_core.specs.ThreadCode.{Code}
use Rattle.op_core.specs.OrdinaryState.{set_at}
use Rattle.op_core.proofs.PointwiseLemmas.{same_or_other, set_at-hit, set_at-other}
use Rattle.heap_words.specs.declared.areas.Area.TheVariants.{Section}
use Rattle.section_state.specs.SectionWord.{pinned_of, revoke_of}
use Rattle.write_log.specs.declared.Noted.{Noted}
use Rattle.step_port.specs.declared.answer.StepAnswer.{StepAnswer}
use Rattle.step_port.specs.declared.step.Step.{Step}
use Rattle.step_port.specs.declared.step.Step.TheVariants.{Split}
use Rattle.thread_automaton.specs.declared.Bounds.{Bounds}
use Rattle.thread_automaton.specs.declared.Attempt.{Attempt}
use Rattle.thread_automaton.specs.declared.Attempt.TheVariants.{Undoing}
use Rattle.thread_automaton.specs.ThreadState.{ThreadState, no_mark, nth_or, first_state, is_open, mark_of, noted_since}
use Rattle.thread_automaton.specs.Checks.{is_safe}
use Rattle.thread_automaton.specs.Told.{told, after_answer}
use Rattle.core_runs.specs.Cores.{Core, threads_by}
use Rattle.core_runs.specs.Acts.{Act, did, DidAt}
use Rattle.section_laws.specs.Runs.{IsRun}
use Rattle.section_laws.proofs.RunLemmas.{facts_at}
use Rattle.section_laws.proofs.own_sections.SeenLemmas.{undoing_seen}
use Rattle.section_laws.proofs.own_sections.MoveLemmas.{own_at}
use Rattle.section_laws.proofs.section_levels.RunLemmas.{counted_at}
use Rattle.section_laws.proofs.section_levels.LevelLemmas.{doomed_levels_are_unpinned}
use Rattle.section_laws.specs.OpenSections.{IsLiveOrRevoking}
use Rattle.section_laws.specs.Layout.{IsWordPlace}
use Rattle.section_laws.proofs.run_layout.RunLemmas.{laid_at}
use Rattle.first_law.specs.Held.{top_at}
use Rattle.first_law.proofs.run_monitors.DidLemmas as dids
use Rattle.first_law.proofs.run_monitors.RunLemmas.{so_at}
use Rattle.section_laws.specs.Settled.{to_undo, words_back, notes}
use Rattle.first_law.specs.SettledRuns.{IsDoomedTest}
use Rattle.first_law.proofs.settled_monitors.DoomedLemmas.{Outermost, outermost_of, doomed_open, doomed_section, doomed_stands, undoing_counts, closes_none}
use Rattle.written_words.specs.Noted.{IsTaggedRun, heap_of, AreOwnFrom}
use Rattle.written_words.proofs.noted_words.PartLemmas.{notes_since}
use Rattle.written_words.proofs.noted_words.TagLemmas.{noted_in}
use Rattle.written_words.proofs.noted_words.TurnLemmas.{SetsNoWord}
use Rattle.written_words.proofs.noted_words.StepLemmas.{safe_other}
use Rattle.written_words.proofs.noted_words.RunLemmas.{noted_words_are_own}
use Rattle.written_words.specs.SettledWords.{back_words}
use Rattle.written_words.proofs.settled_words.ReplayLemmas.{none_back}
use Rattle.written_words.proofs.settled_words.BackLemmas.{Around, back_same}
use Rattle.written_words.proofs.settled_words.RoundLemmas as rounds

module _ {S : Type 0} (code : Code S) (b : Bounds) (is_thread : ℕ → Bool) (first : S) (classes : ℕ) (c : ℕ → Core S) (acts : List Act) (run : IsTaggedRun code b is_thread first classes c acts) (doomed : ℕ → Bool)
    (tells : IsDoomedTest c acts doomed) where
  ran : IsRun code b c acts
  ran = run.monitors.levelled.ordered.run

  -- the words that thread u is to put back, at place k
  abbrev pub back : ℕ → ℕ → List Noted
  back k u = back_words doomed ((c k).levels u) ((c k).threads u)

  -- ---- at one place

  -- what is logged since the outermost level that is to be undone is the section's own
  pub record BackIsOwn (k : ℕ) (uh : ThreadState S) (u : ℕ) : Type 0 where
    pub some : 0 < uh.section
    pub live : IsLiveOrRevoking ((c k).words (Section uh.section))
    pub level : ℕ
    pub deep : pinned_of ((c k).words (Section uh.section)) < level
    pub own : AreOwnFrom uh.section level (heap_of (c k).words) (words_back (to_undo doomed ((c k).levels u)) uh.marks uh.log)

  pub back_is_own : (k u : ℕ) (uh : ThreadState S) → k ≤ length acts → (c k).threads u ≡ Some uh → 0 < to_undo doomed ((c k).levels u) → BackIsOwn k uh u
  back_is_own k u uh within there some = record {
    some = doomed_section code b first classes c acts run.monitors.levelled doomed tells k u uh within there some;
    live = live;
    level = out.level;
    deep = deep;
    own = by_count (to_undo doomed ((c k).levels u)) refl;
  }
    where
      live : IsLiveOrRevoking ((c k).words (Section uh.section))
      live = doomed_stands code b first classes c acts run.monitors.levelled doomed tells k u uh within there some

      out : Outermost doomed ((c k).levels u)
      out = outermost_of doomed ((c k).levels u) some

      deep : pinned_of ((c k).words (Section uh.section)) < out.level
      deep = doomed_levels_are_unpinned code b first classes c acts run.monitors.levelled out.place out.level k u uh within there ((tells out.place).0 out.so) out.is

      counted : length ((c k).levels u) ≡ uh.levels
      counted = (counted_at code b first classes c acts run.monitors.levelled k within).there u uh there

      top : (g : Attempt) → uh.attempt ≡ g → out.level ≤ top_at g uh.levels
      top (Undoing w) is = low (length ((c k).levels u)) out.level (to_undo doomed ((c k).levels u)) (revoke_of w) out.count (undoing_counts code b first classes c acts run.monitors.levelled doomed tells k u uh within there w is)
        where
          low : (l d n r : ℕ) → d + n ≡ suc l → suc l ≤ r + n → d ≤ r
          low l d n r count deep = omega (arith, count, deep)
      top g is = low (length ((c k).levels u)) out.level (to_undo doomed ((c k).levels u)) uh.levels out.count some counted
        where
          low : (l d n y : ℕ) → d + n ≡ suc l → 0 < n → l ≡ y → d ≤ y
          low l d n y count some same = omega (arith, count, some, same)

      owned : AreOwnFrom uh.section out.level (heap_of (c k).words) (noted_since (mark_of uh out.level).noted uh.log)
      owned = noted_words_are_own code b is_thread first classes c acts run k u out.level uh within there live deep (top uh.attempt refl)

      place : (m l d n y : ℕ) → n ≡ suc m → d + n ≡ suc l → l ≡ y → 0 < d → y - d ≡ m
      place m l d n y is count same above = omega (arith, is, count, same, above)

      above : (p d : ℕ) → p < d → 0 < d
      above p d deep = omega (arith, deep)

      by_count : (n : ℕ) → to_undo doomed ((c k).levels u) ≡ n → AreOwnFrom uh.section out.level (heap_of (c k).words) (words_back n uh.marks uh.log)
      by_count zero is = absurd (no (to_undo doomed ((c k).levels u)) is some)
        where
          no : (n : ℕ) → n ≡ 0 → 0 < n → ⊥
          no n none some = omega (arith, none, some)
      by_count (suc m) is = subst (λ j. AreOwnFrom uh.section out.level (heap_of (c k).words) (noted_since (nth_or no_mark j uh.marks).noted uh.log))
          (place m (length ((c k).levels u)) out.level (to_undo doomed ((c k).levels u)) uh.levels is out.count counted (above (pinned_of ((c k).words (Section uh.section))) out.level deep)) owned

  -- who is to put back a word is there, has a level that is to be undone, and has logged the word
  pub record PutsBack (k u p : ℕ) : Type 0 where
    pub uh : ThreadState S
    pub there : (c k).threads u ≡ Some uh
    pub some : 0 < to_undo doomed ((c k).levels u)
    pub logged : notes p uh.log ≡ true
    pub noted : notes p (words_back (to_undo doomed ((c k).levels u)) uh.marks uh.log) ≡ true

  pub puts_back : (k u p : ℕ) → notes p (back k u) ≡ true → PutsBack k u p
  puts_back k u p has = by_thread ((c k).threads u) refl has
    where
      by_count : (uh : ThreadState S) → (c k).threads u ≡ Some uh → (n : ℕ) → to_undo doomed ((c k).levels u) ≡ n → notes p (words_back n uh.marks uh.log) ≡ true → PutsBack k u p
      by_count uh there zero is has = cc
      by_count uh there (suc n) is has = record {
        uh = uh;
        there = there;
        some = subst (λ m. 0 < m) (sym is) (omega arith);
        logged = notes_since p (nth_or no_mark n uh.marks).noted uh.log has;
        noted = subst (λ m. notes p (words_back m uh.marks uh.log) ≡ true) (sym is) has;
      }

      by_thread : (o : Option (ThreadState S)) → (c k).threads u ≡ o → notes p (back_words doomed ((c k).levels u) o) ≡ true → PutsBack k u p
      by_thread None there has = cc
      by_thread (Some uh) there has = by_count uh there (to_undo doomed ((c k).levels u)) refl has

  -- the word is one of an object that is there
  pub word_logged : (k u p : ℕ) → k ≤ length acts → PutsBack k u p → IsWordPlace is_thread (c k).objects p
  word_logged k u p within puts =
      let logged = noted_in p puts.uh.log puts.logged in
      subst (IsWordPlace is_thread (c k).objects) logged.2 ((laid_at code b is_thread c acts run.laid k within).0.logged u logged.0 puts.uh puts.there logged.1)

  -- a word that a thread takes to be safe is put back by no other
  pub safe_unnoted : (k t u p : ℕ) (th : ThreadState S) → k ≤ length acts → (c k).threads t ≡ Some th → u ≢ t → is_safe th (heap_of (c k).words p) ≡ true → notes p (back k u) ≡ true → ⊥
  safe_unnoted k t u p th within at other safe has =
      let puts = puts_back k u p has in
      let own = back_is_own k u puts.uh within puts.there puts.some in
      safe_other code b is_thread first classes c acts run k t u own.level (heap_of (c k).words p) th puts.uh within at puts.there other own.some own.live own.deep (own.own.0 p puts.noted) safe

  -- ---- with a step of a thread

  module _ (k t : ℕ) (step : Step) (a : StepAnswer) (here : slice_get acts k ≡ Some (did t step a)) (at : DidAt code b c k t step a) where
    within : k < length acts
    within = slice_get_within acts k (did t step a) here

    up : k ≤ length acts
    up = let low = within in omega (arith, low)

    abbrev y : ThreadState S
    y = after_answer code b at.from step a

    abbrev levels_then : List ℕ
    levels_then = rounds.levels_then code b is_thread first classes c acts run k t step a here at

    own_levels : (c (suc k)).levels t ≡ rounds.levels_then code b is_thread first classes c acts run k t step a here at
    own_levels = rounds.own_levels code b is_thread first classes c acts run k t step a here at

    own_there : (c (suc k)).threads t ≡ Some (after_answer code b at.from step a)
    own_there = rounds.own_there code b is_thread first classes c acts run k t step a here at

    so : dids.So code b first classes c acts run.monitors k
    so = so_at code b first classes c acts run.monitors k up

    pub around : Around doomed at.from (is_open y) ((c k).levels t) levels_then step
    around = record {
      counted = counted;
      open_after = λ some. doomed_open code b first classes c acts run.monitors.levelled doomed tells (suc k) t y within own_there (subst (λ l. 0 < to_undo doomed l) (sym own_levels) some);
      closed = λ j other less. closes_none code b first classes c acts run.monitors.levelled doomed tells k t j step a within here other (own_levels ∙ less);
      undoing = λ w undoing.
          let seen = undoing_seen code at.from (c k).words (own_at code b c acts ran run.monitors.levelled.ordered.in_bits k up t at.from at.stands) ((facts_at code b c acts ran k up).fit t at.from at.stands) w undoing in (
            above at.from.pinned (revoke_of w) seen.0,
            subst (λ n. revoke_of w ≤ n) (sym counted) seen.1,
            undoing_counts code b first classes c acts run.monitors.levelled doomed tells k t at.from up at.stands w undoing,
          );
    }
      where
        counted : length ((c k).levels t) ≡ at.from.levels
        counted = (counted_at code b first classes c acts run.monitors.levelled k up).there t at.from at.stands

        above : (p v : ℕ) → p < v → 0 < v
        above p v low = omega (arith, low)

    -- what the thread itself is to put back
    pub own_back : back (suc k) t ≡ words_back (to_undo doomed levels_then) y.marks y.log
    own_back = ap (λ o. back_words doomed ((c (suc k)).levels t) o) own_there ∙ ap (λ l. words_back (to_undo doomed l) y.marks y.log) own_levels

    pub was_back : back k t ≡ words_back (to_undo doomed ((c k).levels t)) at.from.marks at.from.log
    was_back = ap (back_words doomed ((c k).levels t)) at.stands

    -- and what others are
    pub others_back : (u : ℕ) → u ≢ t → back (suc k) u ≡ back k u
    others_back u other = ap (λ l. back_words doomed l ((c (suc k)).threads u)) same_levels ∙ by_step step refl
      where
        same_levels : (c (suc k)).levels u ≡ (c k).levels u
        same_levels = ap (λ (core : Core S). core.levels u) at.leads ∙ set_at-other (c k).levels t levels_then u other

        by_step : (made : Step) → step ≡ made → back_words doomed ((c k).levels u) ((c (suc k)).threads u) ≡ back k u
        by_step made is = ap (back_words doomed ((c k).levels u)) (ap (λ (core : Core S). core.threads u) at.leads) ∙ by_made made is
          where
            abbrev_threads : Step → Option (ThreadState S)
            abbrev_threads s = threads_by code s at.from.local (set_at (c k).threads t (Some (after_answer code b at.from step a))) u

            new_none : (n r p : ℕ) → step ≡ Split n r p → (c k).threads n ≡ None
            new_none n r p is = dids.new code b first classes c acts run.monitors k within t step a here at so n r p is

            by_made : (made : Step) → step ≡ made → back_words doomed ((c k).levels u) (threads_by code step at.from.local (set_at (c k).threads t (Some (after_answer code b at.from step a))) u) ≡ back k u
            by_made (Split n r p) is = ap (λ s. back_words doomed ((c k).levels u) (abbrev_threads s)) is ∙ elim (same_or_other u n) [
              | inl own ↦ ap (back_words doomed ((c k).levels u)) (ap (set_at (set_at (c k).threads t (Some (after_answer code b at.from step a))) n (Some (first_state n p (code.child at.from.local r)))) own
                  ∙ set_at-hit (set_at (c k).threads t (Some (after_answer code b at.from step a))) n (Some (first_state n p (code.child at.from.local r))))
                  ∙ none_back (to_undo doomed ((c k).levels u)) [] ∙ sym (ap (back_words doomed ((c k).levels u)) (ap (c k).threads own ∙ new_none n r p is))
              | inr apart ↦ ap (back_words doomed ((c k).levels u)) (set_at-other (set_at (c k).threads t (Some (after_answer code b at.from step a))) n (Some (first_state n p (code.child at.from.local r))) u apart
                  ∙ set_at-other (c k).threads t (Some (after_answer code b at.from step a)) u other)
            ]
            by_made made is = ap (λ s. back_words doomed ((c k).levels u) (abbrev_threads s)) is ∙ ap (back_words doomed ((c k).levels u)) (set_at-other (c k).threads t (Some (after_answer code b at.from step a)) u other)

    pub all_back : SetsNoWord step a → (u : ℕ) → back (suc k) u ≡ back k u
    all_back none u = elim (same_or_other u t) [
      | inl own ↦ ap (back (suc k)) own ∙ own_back ∙ back_same doomed k (code.next at.from.local) at.from y.log y.marks (is_open y) (told code b at.from step a) ((c k).levels t) levels_then step a around none (rounds.turn code b is_thread first classes c acts run k t step a here at) ∙ sym was_back ∙ ap (back k) (sym own)
      | inr other ↦ others_back u other
    ]
