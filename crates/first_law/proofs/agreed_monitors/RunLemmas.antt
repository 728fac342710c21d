-- Events that are left find each monitor as the events left before them have made it.
use Rattle.std.proofs.Common.{◌≡◌, ◌≢◌, ◌⊎◌, inl, inr, ℕ, zero, suc, ◌+◌, ◌^◌, ◌<◌, ◌≤◌, Bool, true, false, true≢false, Option, None, Some, List, length, nat_eq, refl, sym, ◌∙◌, ap, subst, arith}
use Rattle.std.specs.Prelude.{slice_get, if◌then◌else◌}
use Rattle.std.proofs.lemmas.Grind.{common_steps}
use Rattle.std.proofs.lemmas.Bool.Decides.{nat_tests}
use Rattle.std.proofs.lemmas.Option.{same_Some, slice_get_within}
use Rattle.op_core.specs.ThreadCode.{Code}
use Rattle.op_core.specs.OrdinaryState.{Monitor, free, IsOwner}
use Rattle.op_core.specs.InPlaceList.{owned_by}
use Rattle.heap_words.specs.declared.areas.Area.TheVariants as area
use Rattle.section_state.specs.SectionWord.{owner_of}
use Rattle.monitor_core.specs.Monitors.{monitor_section, monitor_depth}
use Rattle.step_port.specs.declared.answer.StepAnswer.{StepAnswer}
use Rattle.step_port.specs.declared.step.Step.{Step}
use Rattle.step_port.specs.declared.step.Step.TheVariants.{LoadMonitor, TakeMonitor}
use Rattle.step_port.specs.Words.{answer_of}
use Rattle.thread_automaton.specs.declared.Bounds.{Bounds}
use Rattle.thread_automaton.specs.ThreadState.{ThreadState, held_as}
use Rattle.thread_automaton.specs.Told.{advanced, told}
use Rattle.automaton_rows.specs.Undoing as rows
use Rattle.automaton_rows.proofs.UndoLemmas.{depth_is}
use Rattle.ordinary_words.specs.Reading.{monitor_of, monitor_in}
use Rattle.core_runs.specs.Cores.{Core}
use Rattle.core_runs.specs.Acts.{Act, did, DidAt}
use Rattle.core_runs.specs.Reading.{ordinary}
use Rattle.section_laws.specs.Settled.{to_undo}
use Rattle.section_laws.specs.SettledMonitors.{is_held, depth_back, SettledMonitors}
use Rattle.section_laws.proofs.WordLemmas.{exchanged}
use Rattle.section_laws.proofs.RunLemmas.{act_at, facts_at}
use Rattle.section_laws.proofs.own_sections.MoveLemmas.{own_at}
use Rattle.section_laws.proofs.run_threads.NumberLemmas.{threads_are_numbered}
use Rattle.first_law.specs.RunMonitors.{IsObject, IsMonitorRun}
use Rattle.first_law.proofs.run_monitors.ListLemmas.{depth_fits, level_fits}
use Rattle.first_law.proofs.run_monitors.MarkLemmas.{section_is}
use Rattle.first_law.proofs.run_monitors.KeptLemmas.{held_own}
use Rattle.first_law.proofs.run_monitors.DidLemmas as did_monitors
use Rattle.first_law.proofs.run_monitors.RunLemmas.{so_at}
use Rattle.first_law.specs.SettledRuns.{IsDoomedTest, AreSettled, held_in, back_in}
use Rattle.first_law.proofs.settled_monitors.TurnLemmas.{owned_some}
use Rattle.first_law.proofs.settled_monitors.SettleLemmas.{same_is_held}
use Rattle.first_law.proofs.settled_monitors.RunLemmas.{monitors_settle}
use Rattle.first_law.specs.Agreed.{MonitorsAgree}
use Rattle.first_law.proofs.agreed_monitors.RowLemmas.{ToldAgrees, agrees}

contrary : {P : Type 0} → true ≡ false → P
contrary same = absurd (true≢false same)

false_or : (t : Bool) → (t ≡ true → ⊥) → t ≡ false
false_or true other = absurd (other refl)
false_or false other = refl

-- who owns it n times is its owner, if anybody is
owner_is : (t u n : ℕ) → IsOwner t (owned_by u n) → u ≡ t
owner_is t u zero is = absurd is
owner_is t u (suc n) is = is

zero_or_not : (n : ℕ) → (n ≡ 0) ⊎ (n ≢ 0)
zero_or_not zero = inl refl
zero_or_not (suc n) = inr (λ none. no n none)
  where
    no : (n : ℕ) → suc n ≡ 0 → ⊥
    no n none = omega (arith, none)

module _ {S : Type 0} (code : Code S) (b : Bounds) (first : S) (classes : ℕ) (c : ℕ → Core S) (acts : List Act) (run : IsMonitorRun code b first classes c acts) (doomed : ℕ → Bool)
    (tells : IsDoomedTest c acts doomed) (settled : ℕ → ℕ → Monitor) (are : AreSettled code b doomed c acts settled) (is_thread : ℕ → Bool) (k : ℕ) (within : k < length acts) where
  low : k ≤ length acts
  low = omega (arith, within)

  so : did_monitors.So code b first classes c acts run k
  so = so_at code b first classes c acts run k low

  facts : SettledMonitors (settled k) (λ t. held_in ((c k).threads t)) (λ t r. back_in doomed ((c k).levels t) ((c k).threads t) r)
  facts = monitors_settle code b first classes c acts run doomed tells settled are k low

  abbrev now : ℕ → Monitor
  now r = (ordinary code is_thread (c k)).monitors r

  abbrev word : ℕ → ℕ
  word r = (c k).words (area.Object (r + 1))

  reads : (r : ℕ) → IsObject (c k) r → now r ≡ monitor_of (c k).words (word r)
  reads r object = ap (monitor_in (c k).words r) object.1

  not_zero : (n : ℕ) → n ≢ 0 → nat_eq n 0 ≡ false
  not_zero n some = by_test (nat_eq n 0) refl
    where
      zero_is : (n : ℕ) → nat_eq n 0 ≡ true → n ≡ 0
      zero_is n is = grind (arith, common_steps, nat_tests)

      by_test : (test : Bool) → nat_eq n 0 ≡ test → nat_eq n 0 ≡ false
      by_test true is = absurd (some (zero_is n is))
      by_test false is = is

  -- where its word is 0 nobody holds a monitor
  nobody : (r : ℕ) → word r ≡ 0 → (u : ℕ) → is_held r (held_in ((c k).threads u)) ≡ false
  nobody r none u = by_option ((c k).threads u) refl
    where
      by_option : (o : Option (ThreadState S)) → (c k).threads u ≡ o → is_held r (held_in o) ≡ false
      by_option None is = refl
      by_option (Some uh) is = false_or (is_held r uh.held) (λ has. did_monitors.word_of_held code b first classes c acts run k within so.1 u r uh is (same_is_held r uh.held ∙ has) none)

  free_agrees : (r : ℕ) → IsObject (c k) r → word r ≡ 0 → now r ≡ settled k r
  free_agrees r object none = reads r object ∙ ap (monitor_of (c k).words) none ∙ sym (facts.is_free r (nobody r none))

  module _ (t : ℕ) (th : ThreadState S) (at : (c k).threads t ≡ Some th) where
    -- a monitor that a thread holds which has nothing to undo
    held_agrees : to_undo doomed ((c k).levels t) ≡ 0 → (r : ℕ) → rows.is_held r th.held ≡ true → now r ≡ settled k r
    held_agrees none r has =
        reads r (so.1.objects t r th at has) ∙ ap (λ test. if test then free else Monitor.held (owner_of ((c k).words (area.Section (monitor_section (word r))))) (monitor_depth (word r)))
        (not_zero (word r) (did_monitors.word_of_held code b first classes c acts run k within so.1 t r th at has))
        ∙ ap (λ o. Monitor.held o (monitor_depth (word r))) owner ∙ ap (Monitor.held t) depth
        ∙ sym (facts.holds t r (ap (λ o. is_held r (held_in o)) at ∙ sym (same_is_held r th.held) ∙ has) ∙ ap (owned_by t) back ∙ owned_some t (held_as r th.held).depth fit.0)
      where
        fit : (0 < (held_as r th.held).depth) × ((held_as r th.held).depth < 2 ^ 16)
        fit = depth_fits r th.held (so.0 t th at).depths has

        level : (0 < (held_as r th.held).level) × ((held_as r th.held).level < 2 ^ 8)
        level = level_fits r th.held ((facts_at code b c acts run.levelled.ordered.run k low).fit t th at).kept.in_levels

        small : th.section < 2 ^ 32
        small = did_monitors.small_number code b first classes c acts run k within so.0 t th at

        depth : monitor_depth (word r) ≡ (held_as r th.held).depth
        depth = ap monitor_depth (so.1.says t r th at has) ∙ depth_is th.section (held_as r th.held).depth (held_as r th.held).level small fit.1 level.1

        section : monitor_section (word r) ≡ th.section
        section = ap monitor_section (so.1.says t r th at has) ∙ section_is th.section (held_as r th.held).depth (held_as r th.held).level small fit.1 level.1

        owner : owner_of ((c k).words (area.Section (monitor_section (word r)))) ≡ t
        owner = ap (λ s. owner_of ((c k).words (area.Section s))) section
            ∙ ((own_at code b c acts run.levelled.ordered.run run.levelled.ordered.in_bits k low t th at).own (did_monitors.some_section code b first classes c acts run k within t r th at has)).says.owner
            ∙ (threads_are_numbered code b c acts run.levelled.ordered.run run.levelled.numbered k low).own t th at

        back : back_in doomed ((c k).levels t) ((c k).threads t) r ≡ (held_as r th.held).depth
        back = ap (λ o. back_in doomed ((c k).levels t) o r) at ∙ ap (λ n. depth_back n th.marks th.held r) none

    -- one that it doesn't hold isn't its own
    lacks_agrees : (r : ℕ) → IsObject (c k) r → rows.is_held r th.held ≡ false → IsOwner t (settled k r) → ⊥
    lacks_agrees r object none owns = by_word (zero_or_not (word r))
      where
        by_holder : (u : ℕ) × (uh : ThreadState S) × ((c k).threads u ≡ Some uh) × (rows.is_held r uh.held ≡ true) → ⊥
        by_holder holder =
            let same : holder.0 ≡ t = owner_is t holder.0 _ (subst (IsOwner t) (facts.holds holder.0 r (ap (λ o. is_held r (held_in o)) holder.2 ∙ sym (same_is_held r holder.1.held) ∙ holder.3)) owns) in
            true≢false (sym (subst (λ (x : ThreadState S). rows.is_held r x.held ≡ true) (same_Some holder.1 th (sym holder.2 ∙ ap (c k).threads same ∙ at)) holder.3) ∙ none)

        by_word : (word r ≡ 0) ⊎ (word r ≢ 0) → ⊥
        by_word (inl is_zero) = subst (IsOwner t) (facts.is_free r (nobody r is_zero)) owns
        by_word (inr some) = by_holder (so.1.taken r object some)

  module _ (t : ℕ) (step : Step) (a : StepAnswer) (here : slice_get acts k ≡ Some (did t step a)) (at : DidAt code b c k t step a) where
    own_agrees : to_undo doomed ((c k).levels t) ≡ 0 → ToldAgrees now (settled k) t (told code b at.from step a) (code.next at.from.local)
    own_agrees none =
        agrees b (did_monitors.ground code b first classes c acts run k within t step a here at so) t now (settled k) (held_agrees t at.from at.stands none)
        (did_monitors.row code b first classes c acts run k within t step a here at so) refl (so.0 t at.from at.stands) (did_monitors.makes code b first classes c acts run k within t step a here at so)
        (λ r new is done. free_agrees r (run.apart.wanted k t r (TakeMonitor r new) a (here ∙ ap (λ st. Some (did t st a)) is) refl)
        (exchanged (c k).words (area.Object (r + 1)) 0 new (sym done ∙ at.answered ∙ ap (answer_of (c k).words) is)).found)
        (λ r m is found other. lacks_agrees t at.from at.stands r (run.apart.wanted k t r (LoadMonitor r) a (here ∙ ap (λ st. Some (did t st a)) is) refl)
        (false_or (rows.is_held r at.from.held) (λ has. true≢false (sym (held_own at.from.section at.from.held r m (did_monitors.small_number code b first classes c acts run k within so.0 t at.from at.stands)
        (so.0 t at.from at.stands).depths ((facts_at code b c acts run.levelled.ordered.run k low).fit t at.from at.stands).kept.in_levels
        (did_monitors.loads code b first classes c acts run k within t step a here at so r m is found) (did_monitors.some_section code b first classes c acts run k within t r at.from at.stands has) has) ∙ other))))

pub monitors_agree : {S : Type 0} (code : Code S) → MonitorsAgree code
monitors_agree {S} code b first classes c acts run doomed tells settled are is_thread k t step a th op reply here at wants seen none =
    subst (λ n. ToldAgrees (ordinary code is_thread (c k)).monitors (settled k) t (advanced (Some reply)) n) wants
    (subst (λ m. ToldAgrees (ordinary code is_thread (c k)).monitors (settled k) t m (code.next th.local)) seen
    (subst (λ (x : ThreadState S). ToldAgrees (ordinary code is_thread (c k)).monitors (settled k) t (told code b x step a) (code.next x.local)) (same_Some act.from th (sym act.stands ∙ at))
    (own_agrees code b first classes c acts run doomed tells settled are is_thread k (slice_get_within acts k (did t step a) here) t step a here act none)))
  where
    act : DidAt code b c k t step a
    act = act_at code b c acts k (did t step a) run.levelled.ordered.run.leads here
