-- What the events that are left make of the view, act by act.
use Rattle.std.proofs.Common.{◌≡◌, ℕ, zero, suc, ◌+◌, Bool, true, false, Option, None, Some, List, [], ◌∷◌, length, refl, sym, ◌∙◌, ap, subst, arith}
use Rattle.std.specs.Prelude.{nat_lt, slice_get, if◌then◌else◌}
use Rattle.std.proofs.Math.Path.{fun_ext}
use Rattle.std.proofs.lemmas.Grind.{common_steps}
use Rattle.std.proofs.lemmas.Bool.Decides.{nat_tests}
use Rattle.std.proofs.lemmas.Option.{same_Some}
use Rattle.op_core.specs.declared.Op.{Op}
use Rattle.op_core.specs.declared.Reply.{Reply}
use Rattle.op_core.specs.declared.Next.TheVariants.{Want}
use Rattle.op_core.specs.ThreadCode.{Code}
use Rattle.op_core.specs.OrdinaryState.{Monitor, free, OrdinaryState, View, view_of, saved_count}
use Rattle.op_core.specs.OrdinaryStep.{waiting_after}
use Rattle.op_core.specs.InPlaceList.{Entry, silent, event, put_back, give_back, go_back, unseen, FitsAt, FitFrom, IsInPlaceList}
use Rattle.op_core.specs.CleanCut.{written_after, view_after, Agrees, AgreeFrom, view_from}
use Rattle.heap_words.specs.declared.areas.Area.{Area}
use Rattle.step_port.specs.declared.answer.StepAnswer.{StepAnswer}
use Rattle.step_port.specs.declared.step.Step.{Step}
use Rattle.thread_automaton.specs.declared.Bounds.{Bounds}
use Rattle.thread_automaton.specs.ThreadState.{ThreadState}
use Rattle.thread_automaton.specs.Told.{advanced, told}
use Rattle.core_runs.specs.Cores.{Core}
use Rattle.core_runs.specs.Acts.{Act, quiet, did, beside, mover}
use Rattle.core_runs.specs.Entries.{StepShows, Shows}
use Rattle.core_runs.specs.Reading.{waiting_in, ordinary}
use Rattle.section_laws.specs.Settled.{to_undo}
use Rattle.section_laws.specs.SettledMonitors.{SettledMonitors}
use Rattle.first_law.specs.SettledRuns.{monitors_by, SettlesBy, AreSettled, held_in, back_in}
use Rattle.first_law.proofs.settled_monitors.RunLemmas.{monitors_settle}
use Rattle.written_words.specs.SettledWords.{words_by, SettlesWordsBy, AreSettledWords, WordsAreSettled}
use Rattle.written_words.proofs.settled_words.RunLemmas.{words_settle}
use Rattle.written_words.proofs.settled_words.ReadLemmas.{reads_agree}
use Rattle.first_law.specs.Agreed.{AgreesOnMonitors}
use Rattle.first_law.proofs.agreed_monitors.RunLemmas.{monitors_agree}
use Rattle.written_words.specs.Noted.{IsTaggedRun}
use Rattle.first_law.specs.Cuts.{is_cut_by}
use Rattle.core_law.specs.CleanCuts.{IsShownRun}
use Rattle.core_law.proofs.third_law.EntryLemmas.{shown_at}
use Rattle.core_law.proofs.third_law.AllowedLemmas.{event_is_told, cut_is_allowed}
use Rattle.core_law.proofs.third_law.EventLemmas.{IsEvent, NoEvent, told_shows, words_stay, monitors_stay, monitors_same, waiting_same, waiting_stays, agrees_of, saved_is, view_ext}

-- ---- along a run

module _ {S : Type 0} (code : Code S) (b : Bounds) (is_thread : ℕ → Bool) (first : S) (classes : ℕ) (c : ℕ → Core S) (acts : List Act) (es : List Entry) (doomed : ℕ → Bool) where
  abbrev pub states : ℕ → OrdinaryState S
  states k = ordinary code is_thread (c k)

  abbrev turn_monitors : ℕ → Step → StepAnswer → List ℕ → Option (ThreadState S) → (ℕ → Monitor) → ℕ → Monitor
  turn_monitors t step a levels None old r = old r
  turn_monitors t step a levels (Some th) old r = if nat_lt 0 (to_undo doomed levels) then old r else monitors_by t (told code b th step a) (code.next th.local) th.depth old r

  abbrev act_monitors : Core S → Option Act → (ℕ → Monitor) → ℕ → Monitor
  act_monitors core (Some (did t step a)) old r = turn_monitors t step a (core.levels t) (core.threads t) old r
  act_monitors core (Some (quiet t)) old r = old r
  act_monitors core (Some (beside t step a)) old r = old r
  act_monitors core None old r = old r

  -- the settled monitors
  abbrev monitors_at : ℕ → ℕ → Monitor
  monitors_at zero r = free
  monitors_at (suc k) r = act_monitors (c k) (slice_get acts k) (monitors_at k) r

  monitors_go : (k : ℕ) (act : Act) → slice_get acts k ≡ Some act → SettlesBy code b doomed (c k) act (monitors_at k) (monitors_at (suc k))
  monitors_go k (quiet t) here = λ r. ap (λ o. act_monitors (c k) o (monitors_at k) r) here
  monitors_go k (beside t step a) here = λ r. ap (λ o. act_monitors (c k) o (monitors_at k) r) here
  monitors_go k (did t step a) here = λ th there r. ap (λ o. act_monitors (c k) o (monitors_at k) r) here ∙ ap (λ o. turn_monitors t step a ((c k).levels t) o (monitors_at k) r) there

  are_monitors : AreSettled code b doomed c acts monitors_at
  are_monitors = record { begins = λ r. refl; goes_on = monitors_go }

  abbrev turn_words : Step → StepAnswer → List ℕ → Option (ThreadState S) → (ℕ → ℕ → ℕ) → ℕ → ℕ → ℕ
  turn_words step a levels None old r i = old r i
  turn_words step a levels (Some th) old r i = if nat_lt 0 (to_undo doomed levels) then old r i else words_by (told code b th step a) (code.next th.local) old r i

  abbrev act_words : Core S → Option Act → (ℕ → ℕ → ℕ) → ℕ → ℕ → ℕ
  act_words core (Some (did t step a)) old r i = turn_words step a (core.levels t) (core.threads t) old r i
  act_words core (Some (quiet t)) old r i = old r i
  act_words core (Some (beside t step a)) old r i = old r i
  act_words core None old r i = old r i

  -- and the settled words
  abbrev words_at : ℕ → ℕ → ℕ → ℕ
  words_at zero r i = (states 0).words r i
  words_at (suc k) r i = act_words (c k) (slice_get acts k) (words_at k) r i

  words_go : (k : ℕ) (act : Act) → slice_get acts k ≡ Some act → SettlesWordsBy code b doomed (c k) act (words_at k) (words_at (suc k))
  words_go k (quiet t) here = λ r i. ap (λ o. act_words (c k) o (words_at k) r i) here
  words_go k (beside t step a) here = λ r i. ap (λ o. act_words (c k) o (words_at k) r i) here
  words_go k (did t step a) here = λ th there r i. ap (λ o. act_words (c k) o (words_at k) r i) here ∙ ap (λ o. turn_words step a ((c k).levels t) o (words_at k) r i) there

  are_words : AreSettledWords code b is_thread doomed c acts words_at
  are_words = record { begins = λ r i. refl; goes_on = words_go }

  abbrev view_at : ℕ → View
  view_at k = record { words = words_at k; monitors = monitors_at k; waiting = (states k).waiting }

  abbrev cut : ℕ → Bool
  cut = is_cut_by doomed c acts

  fits_from : (es : List Entry) (k j : ℕ) (e : Entry) → FitFrom code states k es → slice_get es j ≡ Some e → FitsAt code states (k + j) e
  fits_from [] k j e fits at = cc
  fits_from (x ∷ es) k zero e fits at = subst (λ n. FitsAt code states n e) (omega arith) (subst (FitsAt code states k) (same_Some x e at) fits.0)
  fits_from (x ∷ es) k (suc j) e fits at = subst (λ n. FitsAt code states n e) (omega arith) (fits_from es (suc k) j e fits.1 at)

  module _ (run : IsShownRun code b first classes c acts es doomed) (in_place : IsInPlaceList code states es) (tagged : IsTaggedRun code b is_thread first classes c acts) where
    fits_at : (k : ℕ) (e : Entry) → slice_get es k ≡ Some e → FitsAt code states k e
    fits_at k e at = subst (λ n. FitsAt code states n e) (omega arith) (fits_from es 0 k e in_place at)

    -- ---- acts that show no event

    either : {A : Type 0} (z : Bool) (x y w : A) → x ≡ w → y ≡ w → (if z then x else y) ≡ w
    either true x y w one other = one
    either false x y w one other = other

    no_event_told : (k u : ℕ) (step : Step) (a : StepAnswer) (e : Entry) (th : ThreadState S) → StepShows code b (c k) u th step a e → (IsEvent e → ⊥) → NoEvent (code.next th.local) (told code b th step a)
    no_event_told k u step a e th shows other op reply wants so = other (subst IsEvent (sym (told_shows code b (c k) u th e op reply wants step a shows so)) tt)

    still : (k : ℕ) (x : Act) (e : Entry) → slice_get acts k ≡ Some x → Shows code b (c k) x e → (IsEvent e → ⊥) → (states (suc k)).waiting ≡ (states k).waiting → view_at (suc k) ≡ view_at k
    still k (quiet u) e here shows other waiting = view_ext (fun_ext (λ r. fun_ext (λ i. words_go k (quiet u) here r i))) (fun_ext (λ r. monitors_go k (quiet u) here r)) waiting
    still k (beside u step a) e here shows other waiting = view_ext (fun_ext (λ r. fun_ext (λ i. words_go k (beside u step a) here r i))) (fun_ext (λ r. monitors_go k (beside u step a) here r)) waiting
    still k (did u step a) e here shows other waiting =
        let none = no_event_told k u step a e shows.0 shows.2 other in
        view_ext
        (fun_ext (λ r. fun_ext (λ i. words_go k (did u step a) here shows.0 shows.1 r i
        ∙ either (nat_lt 0 (to_undo doomed ((c k).levels u))) (words_at k r i) (words_by (told code b shows.0 step a) (code.next shows.0.local) (words_at k) r i) (words_at k r i) refl
        (ap (λ (w : ℕ → ℕ → ℕ). w r i) (words_stay (code.next shows.0.local) (told code b shows.0 step a) (words_at k) none)))))
        (fun_ext (λ r. monitors_go k (did u step a) here shows.0 shows.1 r
        ∙ either (nat_lt 0 (to_undo doomed ((c k).levels u))) (monitors_at k r) (monitors_by u (told code b shows.0 step a) (code.next shows.0.local) shows.0.depth (monitors_at k) r) (monitors_at k r) refl
        (ap (λ (m : ℕ → Monitor). m r) (monitors_stay u (code.next shows.0.local) (told code b shows.0 step a) shows.0.depth (monitors_at k) none))))
        waiting

    stays_at : (k : ℕ) (e : Entry) → slice_get es k ≡ Some e → (IsEvent e → ⊥) → (states (suc k)).waiting ≡ (states k).waiting → view_at (suc k) ≡ view_at k
    stays_at k e at other waiting = let found = shown_at code b c acts es k e run.shows at in still k found.0 e found.1 found.2 other waiting

    -- ---- events

    module _ (k t : ℕ) (op : Op) (reply : Reply) (at : slice_get es k ≡ Some (event t op reply)) where
      -- the turn that was answered
      record Turn : Type 0 where
        step : Step
        answer : StepAnswer
        th : ThreadState S
        here : slice_get acts k ≡ Some (did t step answer)
        stands : (c k).threads t ≡ Some th
        wants : code.next th.local ≡ Want op
        so : told code b th step answer ≡ advanced (Some reply)

      turn_by : (x : Act) → slice_get acts k ≡ Some x → Shows code b (c k) x (event t op reply) → Turn
      turn_by (quiet u) here shows = absurd (subst IsEvent shows tt)
      turn_by (beside u step a) here shows = absurd (subst IsEvent shows tt)
      turn_by (did u step a) here shows =
          let is = event_is_told code b (c k) u t shows.0 op reply step a shows.2 in record {
            step = step;
            answer = a;
            th = shows.0;
            here = here ∙ ap (λ n. Some (did n step a)) is.own;
            stands = ap (c k).threads (sym is.own) ∙ shows.1;
            wants = is.wants;
            so = is.so;
          }

      turn : Turn
      turn = let found = shown_at code b c acts es k (event t op reply) run.shows at in turn_by found.0 found.1 found.2

      cut_is : cut k ≡ nat_lt 0 (to_undo doomed ((c k).levels t))
      cut_is = ap (λ o. nat_lt 0 (to_undo doomed ((c k).levels (mover o)))) turn.here

      words_then : (z : Bool) → cut k ≡ z → (r i : ℕ) → words_at (suc k) r i ≡ (if z then words_at k r i else written_after op reply (words_at k) r i)
      words_then z is r i = words_go k (did t turn.step turn.answer) turn.here turn.th turn.stands r i
          ∙ ap (λ y. if y then words_at k r i else words_by (told code b turn.th turn.step turn.answer) (code.next turn.th.local) (words_at k) r i) (sym cut_is ∙ is)
          ∙ ap (λ m. if z then words_at k r i else words_by m (code.next turn.th.local) (words_at k) r i) turn.so
          ∙ ap (λ n. if z then words_at k r i else words_by (advanced (Some reply)) n (words_at k) r i) turn.wants

      monitors_then : (z : Bool) → cut k ≡ z → (r : ℕ)
          → monitors_at (suc k) r ≡ (if z then monitors_at k r else monitors_by t (advanced (Some reply)) (Want op) turn.th.depth (monitors_at k) r)
      monitors_then z is r = monitors_go k (did t turn.step turn.answer) turn.here turn.th turn.stands r
          ∙ ap (λ y. if y then monitors_at k r else monitors_by t (told code b turn.th turn.step turn.answer) (code.next turn.th.local) turn.th.depth (monitors_at k) r) (sym cut_is ∙ is)
          ∙ ap (λ m. if z then monitors_at k r else monitors_by t m (code.next turn.th.local) turn.th.depth (monitors_at k) r) turn.so
          ∙ ap (λ n. if z then monitors_at k r else monitors_by t (advanced (Some reply)) n turn.th.depth (monitors_at k) r) turn.wants

      waiting_then : (states (suc k)).waiting ≡ waiting_after t op reply (view_of (states k))
      waiting_then = ap (λ (s : OrdinaryState S). s.waiting) (fits_at k (event t op reply) at).leads

      none_of : cut k ≡ false → to_undo doomed ((c k).levels t) ≡ 0
      none_of is = zero_or (to_undo doomed ((c k).levels t)) (sym cut_is ∙ is)
        where
          zero_or : (n : ℕ) → nat_lt 0 n ≡ false → n ≡ 0
          zero_or n is = grind (arith, common_steps, nat_tests)

      on_monitors : cut k ≡ false → AgreesOnMonitors (states k).monitors (monitors_at k) t op reply
      on_monitors is = monitors_agree code b first classes c acts tagged.monitors doomed run.tells monitors_at are_monitors is_thread k t turn.step turn.answer turn.th op reply turn.here turn.stands turn.wants turn.so
          (none_of is)

      agrees_at : cut k ≡ false → Agrees (states k) (view_at k) t op reply
      agrees_at is = agrees_of (states k) (view_at k) t op reply (on_monitors is) (λ r i v reads value.
          reads_agree code b is_thread first classes c acts tagged doomed run.tells words_at are_words k t r i v turn.step turn.answer turn.th turn.here turn.stands (turn.wants ∙ ap Want reads)
          (turn.so ∙ ap (λ x. advanced (Some x)) value) (none_of is))

      view_then : (z : Bool) → cut k ≡ z → (if z then view_at k else view_after t op reply (view_at k)) ≡ view_at (suc k)
      view_then true is = sym (view_ext (fun_ext (λ r. fun_ext (words_then true is r))) (fun_ext (monitors_then true is))
          (waiting_then ∙ waiting_stays t op reply (view_of (states k)) (cut_is_allowed code b first classes c acts es doomed run k t op reply is at)))
      view_then false is = sym (view_ext (fun_ext (λ r. fun_ext (words_then false is r)))
          (fun_ext (λ r. monitors_then false is r ∙ monitors_same t op reply turn.th.depth (view_at k) saved r))
          (waiting_then ∙ waiting_same t op reply (view_of (states k)) (words_at k) (monitors_at k) (on_monitors is)))
        where
          saved : saved_count ((states k).waiting t) ≡ turn.th.depth
          saved = ap (λ o. saved_count (waiting_in o ((c k).words (Area.Wait t)))) turn.stands ∙ saved_is turn.th ((c k).words (Area.Wait t))

      view_goes : (if cut k then view_at k else view_after t op reply (view_at k)) ≡ view_at (suc k)
      view_goes = view_then (cut k) refl

    -- ---- the list

    -- what an entry makes of the view where the acts before number k were made
    abbrev made_by : ℕ → Entry → View
    made_by k (event t op reply) = if cut k then view_at k else view_after t op reply (view_at k)
    made_by k entry = view_at k

    entry_goes : (k : ℕ) (x : Entry) → slice_get es k ≡ Some x → made_by k x ≡ view_at (suc k)
    entry_goes k (event t op reply) at = view_goes k t op reply at
    entry_goes k (silent t) at = sym (stays_at k (silent t) at (λ none. none) (ap (λ (s : OrdinaryState S). s.waiting) (fits_at k (silent t) at).leads))
    entry_goes k (put_back r i v) at = sym (stays_at k (put_back r i v) at (λ none. none) (ap (λ (s : OrdinaryState S). s.waiting) (fits_at k (put_back r i v) at).leads))
    entry_goes k (give_back t r n) at = sym (stays_at k (give_back t r n) at (λ none. none) (ap (λ (s : OrdinaryState S). s.waiting) (fits_at k (give_back t r n) at)))
    entry_goes k (go_back t p) at = sym (stays_at k (go_back t p) at (λ none. none) (ap (λ (s : OrdinaryState S). s.waiting) (fits_at k (go_back t p) at).leads))
    entry_goes k unseen at = sym (stays_at k unseen at (λ none. none) (ap (λ (s : OrdinaryState S). s.waiting) (fits_at k unseen at)))

    -- the rest of the entries from number k on
    abbrev IsRest : List Entry → ℕ → Type 0
    IsRest rest k = (j : ℕ) → slice_get rest j ≡ slice_get es (k + j)

    rest_head : (k : ℕ) (e : Entry) (rest : List Entry) → IsRest (e ∷ rest) k → slice_get es k ≡ Some e
    rest_head k e rest same = ap (slice_get es) (plus_zero k) ∙ sym (same 0)
      where
        plus_zero : (k : ℕ) → k ≡ k + 0
        plus_zero k = omega arith

    rest_tail : (k : ℕ) (e : Entry) (rest : List Entry) → IsRest (e ∷ rest) k → IsRest rest (suc k)
    rest_tail k e rest same j = same (suc j) ∙ ap (slice_get es) (shift k j)
      where
        shift : (k j : ℕ) → k + suc j ≡ suc k + j
        shift k j = omega arith

    all_rest : IsRest es 0
    all_rest j = ap (slice_get es) (from_zero j)
      where
        from_zero : (j : ℕ) → j ≡ 0 + j
        from_zero j = omega arith

    pub agree_from : (rest : List Entry) (k : ℕ) → IsRest rest k → AgreeFrom cut states k (view_at k) rest
    agree_from [] k same = tt
    agree_from (e ∷ rest) k same = by_entry e (rest_head k e rest same) (agree_from rest (suc k) (rest_tail k e rest same))
      where
        by_entry : (x : Entry) → slice_get es k ≡ Some x → AgreeFrom cut states (suc k) (view_at (suc k)) rest → AgreeFrom cut states k (view_at k) (x ∷ rest)
        by_entry (event t op reply) at later = (λ left. agrees_at k t op reply at left, subst (λ v. AgreeFrom cut states (suc k) v rest) (sym (entry_goes k (event t op reply) at)) later)
        by_entry (silent t) at later = subst (λ v. AgreeFrom cut states (suc k) v rest) (sym (entry_goes k (silent t) at)) later
        by_entry (put_back r i v) at later = subst (λ z. AgreeFrom cut states (suc k) z rest) (sym (entry_goes k (put_back r i v) at)) later
        by_entry (give_back t r n) at later = subst (λ v. AgreeFrom cut states (suc k) v rest) (sym (entry_goes k (give_back t r n) at)) later
        by_entry (go_back t p) at later = subst (λ v. AgreeFrom cut states (suc k) v rest) (sym (entry_goes k (go_back t p) at)) later
        by_entry unseen at later = subst (λ v. AgreeFrom cut states (suc k) v rest) (sym (entry_goes k unseen at)) later

    -- what the events that are left make from number k on
    view_rest : (rest : List Entry) (k : ℕ) → IsRest rest k → view_from cut k (view_at k) rest ≡ view_at (k + length rest)
    view_rest [] k same = ap view_at (plus_none k)
      where
        plus_none : (k : ℕ) → k ≡ k + 0
        plus_none k = omega arith
    view_rest (e ∷ rest) k same = by_entry e (rest_head k e rest same) (view_rest rest (suc k) (rest_tail k e rest same)) ∙ ap view_at (one_more k (length rest))
      where
        one_more : (k n : ℕ) → suc k + n ≡ k + suc n
        one_more k n = omega arith

        by_entry : (x : Entry) → slice_get es k ≡ Some x → view_from cut (suc k) (view_at (suc k)) rest ≡ view_at (suc k + length rest) → view_from cut k (view_at k) (x ∷ rest) ≡ view_at (suc k + length rest)
        by_entry (event t op reply) at later = ap (λ v. view_from cut (suc k) v rest) (entry_goes k (event t op reply) at) ∙ later
        by_entry (silent t) at later = ap (λ v. view_from cut (suc k) v rest) (entry_goes k (silent t) at) ∙ later
        by_entry (put_back r i v) at later = ap (λ z. view_from cut (suc k) z rest) (entry_goes k (put_back r i v) at) ∙ later
        by_entry (give_back t r n) at later = ap (λ v. view_from cut (suc k) v rest) (entry_goes k (give_back t r n) at) ∙ later
        by_entry (go_back t p) at later = ap (λ v. view_from cut (suc k) v rest) (entry_goes k (go_back t p) at) ∙ later
        by_entry unseen at later = ap (λ v. view_from cut (suc k) v rest) (entry_goes k unseen at) ∙ later

    -- beginning with what is there at first
    first_view : ((r : ℕ) → (states 0).monitors r ≡ free) → view_at 0 ≡ view_of (states 0)
    first_view first_free = view_ext (fun_ext (λ r. fun_ext (λ i. refl))) (fun_ext (λ r. sym (first_free r))) refl

    pub agree_all : ((r : ℕ) → (states 0).monitors r ≡ free) → AgreeFrom cut states 0 (view_of (states 0)) es
    agree_all first_free = subst (λ v. AgreeFrom cut states 0 v es) (first_view first_free) (agree_from es 0 all_rest)

    -- and all of it is settled at the end
    view_ends : ((r : ℕ) → (states 0).monitors r ≡ free) → view_from cut 0 (view_of (states 0)) es ≡ view_at (length es)
    view_ends first_free = ap (λ v. view_from cut 0 v es) (sym (first_view first_free)) ∙ view_rest es 0 all_rest ∙ ap view_at (zero_plus (length es))
      where
        zero_plus : (n : ℕ) → 0 + n ≡ n
        zero_plus n = omega arith

    pub words_end : ((r : ℕ) → (states 0).monitors r ≡ free) → length es ≡ length acts
        → WordsAreSettled is_thread doomed (c (length acts)) (view_from cut 0 (view_of (states 0)) es).words
    words_end first_free size = subst (WordsAreSettled is_thread doomed (c (length acts))) (sym (ap (λ (v : View). v.words) (view_ends first_free ∙ ap view_at size)))
        (words_settle code b is_thread first classes c acts tagged doomed run.tells words_at are_words (length acts) (omega arith))

    pub monitors_end : ((r : ℕ) → (states 0).monitors r ≡ free) → length es ≡ length acts
        → SettledMonitors (view_from cut 0 (view_of (states 0)) es).monitors (λ t. held_in ((c (length acts)).threads t)) (λ t r. back_in doomed ((c (length acts)).levels t) ((c (length acts)).threads t) r)
    monitors_end first_free size =
        subst (λ m. SettledMonitors m (λ t. held_in ((c (length acts)).threads t)) (λ t r. back_in doomed ((c (length acts)).levels t) ((c (length acts)).threads t) r))
        (sym (ap (λ (v : View). v.monitors) (view_ends first_free ∙ ap view_at size)))
        (monitors_settle code b first classes c acts tagged.monitors doomed run.tells monitors_at are_monitors (length acts) (omega arith))
