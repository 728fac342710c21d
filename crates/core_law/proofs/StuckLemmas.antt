-- Where no thread is enabled, what is left is stuck.
use Rattle.std.proofs.Common.{◌≡◌, ◌≢◌, ◌⊎◌, inl, inr, ℕ, zero, suc, ◌+◌, ◌<◌, ◌≤◌, ◌^◌, ◌&&◌, ◌||◌, not, Bool, true, false, true≢false, Option, None, Some, List, length, nat_eq, refl, sym, ◌∙◌, ap, subst, arith}
use Rattle.std.specs.Prelude.{nat_lt, IsSome, IsSomeAnd, if◌then◌else◌}
use Rattle.std.proofs.lemmas.Grind.{common_steps}
use Rattle.std.proofs.lemmas.Bool.Decides.{nat_tests}
use Rattle.std.proofs.lemmas.Bool.{and_parts, not-true, eqb-true, eq-eqb}
use Rattle.std.proofs.lemmas.Option.{same_Some}
use Rattle.op_core.specs.declared.Op.{Op}
use Rattle.op_core.specs.declared.Op.TheVariants.{Read, Write, Enter, Rewake, Join, Init}
use Rattle.op_core.specs.declared.Next.{Next}
use Rattle.op_core.specs.declared.Next.TheVariants.{Silent, Want, Ended}
use Rattle.op_core.specs.ThreadCode.{Code, quiet_steps}
use Rattle.op_core.specs.OrdinaryState.{Object, Monitor, free, held, Waiting, awake, notified, waits, ClassState, unready, claimed, ready, bad, Thread, unused, live, ended, OrdinaryState, IsOpenTo, IsNotifiedFor, IsOpenClass, HasEnded}
use Rattle.op_core.specs.OrdinaryStep.{CanStep}
use Rattle.op_core.specs.InPlaceList.{owned_by}
use Rattle.op_core.specs.Execution.{IsBlocked, IsStuck}
use Rattle.op_core.specs.Laws.{IsSameKind}
use Rattle.heap_words.specs.declared.areas.Area.{Area}
use Rattle.heap_words.specs.Words.{value_of, tag_of, tag_section, wait_state, wait_object, class_state, class_thread}
use Rattle.section_state.specs.declared.State.TheVariants.{Revoking}
use Rattle.monitor_core.specs.declared.Contend.{Contend}
use Rattle.monitor_core.specs.declared.Contend.TheVariants.{Free, Own}
use Rattle.monitor_core.specs.Contention.{is_in, contend_with, contend_for}
use Rattle.monitor_core.specs.Monitors.{monitor_section, monitor_level, is_own}
use Rattle.step_port.specs.Words.{Words}
use Rattle.thread_automaton.specs.declared.Bounds.{Bounds}
use Rattle.thread_automaton.specs.ThreadState.{ThreadState, held_as}
use Rattle.thread_automaton.specs.NextMove.{word_place}
use Rattle.thread_automaton.specs.Checks.{is_safe}
use Rattle.automaton_rows.specs.Fits.{IsFit}
use Rattle.automaton_rows.specs.Undoing.{is_held}
use Rattle.ordinary_words.specs.Reading.{start_in, class_of}
use Rattle.core_runs.specs.Cores.{Core}
use Rattle.core_runs.specs.Acts.{Act}
use Rattle.core_runs.specs.Reading.{waiting_in, end_wanted, place_in, thread_in, ordinary}
use Rattle.section_laws.specs.Runs.{IsRun}
use Rattle.section_laws.specs.Ends.{HasNoEnds, end_word}
use Rattle.section_laws.proofs.run_threads.NumberLemmas.{threads_are_numbered}
use Rattle.section_laws.proofs.run_threads.EndLemmas.{ends_are_known}
use Rattle.section_laws.specs.Layout.{IsLaidRun}
use Rattle.section_laws.specs.Starts.{BeginsWithStarts}
use Rattle.section_laws.proofs.start_words.RunLemmas.{starts_are_known}
use Rattle.section_laws.proofs.held_levels.StandLemmas.{threads_stand_in_order}
use Rattle.first_law.specs.RunMonitors.{IsObject, IsMonitorRun}
use Rattle.first_law.specs.Held.{Holds}
use Rattle.first_law.proofs.run_monitors.ListLemmas.{depth_fits, level_fits}
use Rattle.first_law.proofs.run_monitors.MarkLemmas.{section_is}
use Rattle.first_law.proofs.run_monitors.RunLemmas.{threads_hold, monitors_are_held}
use Rattle.word_runs.specs.Enabled.{is_busy, is_monitor_busy, is_waiting, is_alive, is_of_another, has_to_wait_for, has_to_undo}
use Rattle.core_law.specs.Idle.{NoneIsEnabled, JoinsNameThreads, IsLeftAt, IdleCoresAreStuck}
use Rattle.core_law.proofs.IdleLemmas.{from_both, some_above, waits_at, none_revoked, fit, now_live, alive_at}

-- ---- tests

not_zero : (n : ℕ) → nat_eq n 0 ≡ false → n ≢ 0
not_zero n some none = grind (arith, common_steps, nat_tests)

some_of : {A : Type 0} (o : Option A) → IsSome o → (a : A) × (o ≡ Some a)
some_of (Some a) is = (a, refl)
some_of None is = absurd (true≢false (sym is))

owned_some : (t d : ℕ) → 0 < d → owned_by t d ≡ held t d
owned_some t zero some = absurd (no some)
  where
    no : 0 < 0 → ⊥
    no some = omega (arith, some)
owned_some t (suc d) some = refl

-- a monitor that has to be waited for is held, and by another section
taken_by_other : (m s own priority : ℕ) → is_busy (contend_for m s own priority) ≡ true → (nat_eq m 0 ≡ false) × (is_own m own ≡ false)
taken_by_other m s own priority = by_tests (nat_eq m 0) (is_own m own) (contend_with s (monitor_level m) priority)
  where
    by_tests : (x y : Bool) (c : Contend) → is_busy (if x then Free else if y then Own else c) ≡ true → (x ≡ false) × (y ≡ false)
    by_tests true y c is = cc
    by_tests false true c is = cc
    by_tests false false c is = (refl, refl)

same_live : {S : Type 0} (l : S) (x : Thread S) → IsSameKind (live l) x → (m : S) × (x ≡ live m)
same_live l unused is = absurd is
same_live l (live m) is = (m, refl)
same_live l (ended e) is = absurd is

-- a start word that isn't 0 names a thread
small_zero : (word : ℕ) → word < 2 ^ 8 → value_of word ≡ 0 → word ≡ 0
unfolding value_of
small_zero word small none = omega (arith, small, none)

module _ {S : Type 0} (code : Code S) (b : Bounds) (is_thread : ℕ → Bool) (first : S) (classes : ℕ) (c : ℕ → Core S) (acts : List Act) (mon : IsMonitorRun code b first classes c acts)
    (laid : IsLaidRun code b is_thread c acts) (starts : BeginsWithStarts is_thread (c 0)) (ends : HasNoEnds (c 0).words) (k : ℕ) (within : k ≤ length acts) (idle : NoneIsEnabled code (c k))
    (joins : JoinsNameThreads code is_thread (c k)) (last : OrdinaryState S) (left : IsLeftAt code is_thread (c k) last) where
  run : IsRun code b c acts
  run = mon.levelled.ordered.run

  abbrev w : Words
  w = (c k).words

  abbrev threads : ℕ → Option (ThreadState S)
  threads = (c k).threads

  fit_at : (t : ℕ) (th : ThreadState S) → threads t ≡ Some th → IsFit code th
  fit_at = fit code b is_thread first classes c acts mon starts k within idle

  revoked : (s : ℕ) → is_in Revoking (w (Area.Section s)) ≡ true → ⊥
  revoked = none_revoked code b is_thread first classes c acts mon starts k within idle

  waits_so : (t : ℕ) (th : ThreadState S) → threads t ≡ Some th → th.over ≡ false → (has_to_undo w th ≡ false) × (has_to_wait_for w th (code.next th.local) ≡ true)
  waits_so = waits_at code b is_thread first classes c acts mon starts k within idle

  live_now : (t : ℕ) (th : ThreadState S) → threads t ≡ Some th → th.over ≡ false → (ordinary code is_thread (c k)).threads t ≡ live th.local
  live_now = now_live code b is_thread first classes c acts mon starts k within idle

  -- ---- monitors

  -- the monitor of r is held by this thread
  record HeldBy (r : ℕ) : Type 0 where
    thread : ℕ
    th : ThreadState S
    at : threads thread ≡ Some th
    has : is_held r th.held ≡ true
    is : last.monitors r ≡ held thread (held_as r th.held).depth

  held_by : (r : ℕ) → IsObject (c k) r → nat_eq (w (Area.Object (r + 1))) 0 ≡ false → HeldBy r
  held_by r there some = by_holder ((monitors_are_held code b first classes c acts mon k within).taken r there (not_zero (w (Area.Object (r + 1))) some))
    where
      by_holder : (t : ℕ) × (th : ThreadState S) × (threads t ≡ Some th) × (is_held r th.held ≡ true) → HeldBy r
      by_holder (t, th, at, has) = record {
        thread = t;
        th = th;
        at = at;
        has = has;
        is = left.monitors t r th at has ∙ owned_some t (held_as r th.held).depth (depth_fits r th.held (threads_hold code b first classes c acts mon k t th within at).depths has).0;
      }

  -- then its word says that the thread's section holds it
  holder_owns : (r : ℕ) (by : HeldBy r) → is_own (w (Area.Object (r + 1))) by.th.section ≡ true
  holder_owns r by = owns by.th.section (monitor_section (w (Area.Object (r + 1)))) some section
    where
      holds : Holds b (code.next by.th.local) by.th
      holds = threads_hold code b first classes c acts mon k by.thread by.th within by.at

      owns : (s m : ℕ) → 0 < s → m ≡ s → (nat_lt 0 s && nat_eq m s) ≡ true
      owns s m some is = grind (arith, common_steps, nat_tests)

      none_held : (x : Bool) → nat_eq by.th.section 0 ≡ x → nat_eq by.th.section 0 ≡ false
      none_held true none = from_both (is_held r by.th.held) by.has (ap (is_held r) ((fit_at by.thread by.th by.at).kept.held none))
      none_held false some = some

      some : 0 < by.th.section
      some = some_above by.th.section (none_held (nat_eq by.th.section 0) refl)

      low : (s most : ℕ) → s ≤ most → most < 2 ^ 32 → s < 2 ^ 32
      low s most upto below = omega (arith, upto, below)

      section : monitor_section (w (Area.Object (r + 1))) ≡ by.th.section
      section = ap monitor_section ((monitors_are_held code b first classes c acts mon k within).says by.thread r by.th by.at by.has)
          ∙ section_is by.th.section (held_as r by.th.held).depth (held_as r by.th.held).level (low by.th.section b.limits.sections holds.within mon.numbers)
          (depth_fits r by.th.held holds.depths by.has).1 (level_fits r by.th.held (fit_at by.thread by.th by.at).kept.in_levels).1

  -- ---- each wait is for want of a step

  there_in : (r : ℕ) → IsSome (last.objects r) → IsObject (c k) r
  there_in r is = let found = some_of (last.objects r) is in (found.0, left.objects r found.0 found.1)

  not_open : (t : ℕ) (th : ThreadState S) → threads t ≡ Some th → (r : ℕ) → IsObject (c k) r → is_monitor_busy w th r ≡ true → IsOpenTo t (last.monitors r) → ⊥
  not_open t th at r there busy is =
      let taken = taken_by_other (w (Area.Object (r + 1))) (w (Area.Section (monitor_section (w (Area.Object (r + 1)))))) th.section th.priority busy in
      let by = held_by r there taken.0 in
      let same : by.thread ≡ t = subst (IsOpenTo t) by.is is in
      let own : by.th ≡ th = same_Some by.th th (sym by.at ∙ ap threads same ∙ at) in
      from_both (is_own (w (Area.Object (r + 1))) th.section) (ap (λ (x : ThreadState S). is_own (w (Area.Object (r + 1))) x.section) (sym own) ∙ holder_owns r by) taken.1

  not_free : (t : ℕ) (th : ThreadState S) (r : ℕ) → IsObject (c k) r → is_monitor_busy w th r ≡ true → last.monitors r ≡ free → ⊥
  not_free t th r there busy is =
      let taken = taken_by_other (w (Area.Object (r + 1))) (w (Area.Section (monitor_section (w (Area.Object (r + 1)))))) th.section th.priority busy in
      let by = held_by r there taken.0 in
      subst IsFree (sym is ∙ by.is) tt
    where
      IsFree : Monitor → Type 0
      IsFree free = Unit {0}
      IsFree (held owner count) = ⊥

  -- it is in the wait set still
  not_notified : (th : ThreadState S) (t r word : ℕ) → nat_eq (wait_state word) 1 ≡ true → IsNotifiedFor r (waiting_in (Some th) word) → ⊥
  not_notified th t r word is = by_tests (nat_eq th.depth 0)
    where
      state : nat_eq (wait_state word) 2 ≡ false
      state = ap (λ n. nat_eq n 2) (eqb-true (wait_state word) 1 is)

      by_tests : (x : Bool) → IsNotifiedFor r (if x then awake else if nat_eq (wait_state word) 2 then notified (wait_object word) th.depth else waits (wait_object word) th.depth) → ⊥
      by_tests true said = said
      by_tests false said = subst (λ y. IsNotifiedFor r (if y then notified (wait_object word) th.depth else waits (wait_object word) th.depth)) state said

  -- the thread for whose end is waited hasn't ended
  not_ended : (t r : ℕ) (th : ThreadState S) → threads t ≡ Some th → th.over ≡ false → code.next th.local ≡ Want (Join r) → IsObject (c k) r → is_alive w r ≡ true
      → ((last.starts r ≡ 0) ⊎ HasEnded (last.threads (last.starts r))) → ⊥
  not_ended t r th at going wants there alive = by_start
    where
      n : ℕ
      n = value_of (w (Area.Object (r + 3)))

      parts : (not (nat_eq (w (Area.Object (r + 3))) 0) ≡ true) × (nat_eq (w (Area.Thread n)) 0 ≡ true)
      parts = and_parts (not (nat_eq (w (Area.Object (r + 3))) 0)) (nat_eq (w (Area.Thread n)) 0) alive

      names : (is_thread there.0.class ≡ true) × (1 < there.0.words)
      names = subst (λ o. IsSomeAnd o (λ (x : Object). (is_thread x.class ≡ true) × (1 < x.words))) there.1 (joins t r th at going wants)

      start_is : last.starts r ≡ n
      start_is = ap (λ (f : ℕ → ℕ). f r) left.starts ∙ ap (start_in is_thread w r) there.1
          ∙ ap (λ x. if x then n else 0) names.0

      by_start : (last.starts r ≡ 0) ⊎ HasEnded (last.threads (last.starts r)) → ⊥
      by_start (inr has_ended) = none_ended (last.threads n) refl (subst (λ m. HasEnded (last.threads m)) start_is has_ended)
        where
          end_is : end_word (threads n) ≡ 0
          end_is = sym (ends_are_known code b c acts run mon.levelled.numbered ends k n within) ∙ eqb-true (w (Area.Thread n)) 0 parts.1

          still : (start : Option S) (o : Option (ThreadState S)) → end_word o ≡ 0 → HasEnded (thread_in code start o) → ⊥
          still start (Some uh) word has = by_over uh.over word has
            where
              by_over : (x : Bool) → ◌≡◌ {A = ℕ} (if x then 1 else 0) 0 → HasEnded (if x then ended (end_wanted (code.next uh.local)) else live (place_in code uh.local uh.attempt)) → ⊥
              by_over true is has = absurd (one 1 refl is)
                where
                  one : (m : ℕ) → m ≡ 1 → m ≡ 0 → ⊥
                  one m is none = omega (arith, is, none)
              by_over false is has = has
          still None None word has = has
          still (Some l) None word has = has

          none_ended : (x : Thread S) → last.threads n ≡ x → HasEnded x → ⊥
          none_ended unused is has = has
          none_ended (live l) is has = has
          none_ended (ended e) is has =
              let kind : IsSameKind (ended e) ((ordinary code is_thread (c k)).threads n) = subst (λ x. IsSameKind x ((ordinary code is_thread (c k)).threads n)) is (left.kinds n) in
              still ((c k).starting n) (threads n) end_is (same_ended e ((ordinary code is_thread (c k)).threads n) kind)
            where
              same_ended : (e : Option ℕ) (x : Thread S) → IsSameKind (ended e) x → HasEnded x
              same_ended e unused is = absurd is
              same_ended e (live l) is = absurd is
              same_ended e (ended f) is = tt
      by_start (inl none) =
          not_zero (w (Area.Object (r + 3))) (not-true (nat_eq (w (Area.Object (r + 3))) 0) parts.0)
          (small_zero (w (Area.Object (r + 3))) ((starts_are_known code b is_thread c acts laid starts k within).words.low r (there.0, there.1, names.0, names.1)) (sym start_is ∙ none))

  -- the class is initialized by another thread
  not_open_class : (t word : ℕ) → is_of_another t word ≡ true → IsOpenClass t (class_of word) → ⊥
  not_open_class t word another is =
      let parts = and_parts (nat_eq (class_state word) 1) (not (nat_eq (class_thread word) t)) another in
      from_both (nat_eq (class_thread word) t)
      (eq-eqb (class_thread word) t (subst (λ x. IsOpenClass t (if x then claimed (class_thread word) else if nat_eq (class_state word) 2 then ready else if nat_eq (class_state word) 3 then bad else unready)) parts.0 is))
      (not-true (nat_eq (class_thread word) t) parts.1)

  cannot : (t : ℕ) (th : ThreadState S) → threads t ≡ Some th → th.over ≡ false → (op : Op) → code.next th.local ≡ Want op → has_to_wait_for w th (Want op) ≡ true → CanStep last t op → ⊥
  cannot t th at going (Enter r) wants is can = not_open t th at r (there_in r can.0) is can.1
  cannot t th at going (Rewake r) wants is can = by_test (is_waiting w th.number) refl
    where
      number : th.number ≡ t
      number = (threads_are_numbered code b c acts run mon.levelled.numbered k within).own t th at

      waiting_is : last.waiting t ≡ waiting_in (Some th) (w (Area.Wait t))
      waiting_is = ap (λ (f : ℕ → Waiting). f t) left.waiting ∙ ap (λ o. waiting_in o (w (Area.Wait t))) at

      or_else : (x y : Bool) → (x || y) ≡ true → x ≡ false → y ≡ true
      or_else true y some none = from_both true refl none
      or_else false y some none = some

      by_test : (x : Bool) → is_waiting w th.number ≡ x → ⊥
      by_test true waiting = not_notified th t r (w (Area.Wait t)) (ap (is_waiting w) (sym number) ∙ waiting) (subst (IsNotifiedFor r) waiting_is can.1)
      by_test false other = not_free t th r (there_in r can.0) (or_else (is_waiting w th.number) (is_monitor_busy w th r) is other) can.2
  cannot t th at going (Read r i) wants is can = revoked _ (and_parts (not (is_safe th (w (Area.Object (word_place r i))))) (is_in Revoking (w (Area.Section (tag_section (tag_of (w (Area.Object (word_place r i)))))))) is).1
  cannot t th at going (Write r i v) wants is can = revoked _ (and_parts (not (is_safe th (w (Area.Object (word_place r i))))) (is_in Revoking (w (Area.Section (tag_section (tag_of (w (Area.Object (word_place r i)))))))) is).1
  cannot t th at going (Join r) wants is can = not_ended t r th at going wants (there_in r can.0) is can.1
  cannot t th at going (Init d) wants is can =
      not_open_class t (w (Area.Class d)) (ap (λ n. is_of_another n (w (Area.Class d))) (sym ((threads_are_numbered code b c acts run mon.levelled.numbered k within).own t th at)) ∙ is)
      (subst (IsOpenClass t) (ap (λ (f : ℕ → ClassState). f d) left.classes) can)
  cannot t th at going op wants is can = true≢false (sym is)

  blocked : (t : ℕ) (th : ThreadState S) → threads t ≡ Some th → th.over ≡ false → (l : S) → last.threads t ≡ live l → IsBlocked code last t l
  blocked t th at alive l is = by_next (code.next th.local) refl
    where
      placed : (from : S) × (n : ℕ) × (last.threads t ≡ live from) × (quiet_steps code n from ≡ Some th.local)
      placed = left.places t th th.local at (live_now t th at alive)

      local_of : S → Thread S → S
      local_of m unused = m
      local_of m (live l) = l
      local_of m (ended e) = m

      from_l : quiet_steps code placed.1 l ≡ Some th.local
      from_l = subst (λ m. quiet_steps code placed.1 m ≡ Some th.local) (ap (local_of l) (sym placed.2 ∙ is)) placed.3

      by_next : (next : Next) → code.next th.local ≡ next → IsBlocked code last t l
      by_next Silent wants = absurd (true≢false (sym (sym (ap (has_to_wait_for w th) wants) ∙ (waits_so t th at alive).1)))
      by_next Ended wants = absurd (mon.levelled.ordered.orderly.ends th.local (threads_stand_in_order code b first classes c acts mon.levelled.ordered k t th within at) wants)
      by_next (Want op) wants = record {
        silent = placed.1;
        at_op = th.local;
        op = op;
        quiet = from_l;
        wanted = wants;
        cannot = cannot t th at alive op wants (sym (ap (has_to_wait_for w th) wants) ∙ (waits_so t th at alive).1);
      }

  is_stuck : IsStuck code last
  is_stuck = record {
    some_live = (idle.some_live.0, left_there.0, left_there.2);
    all_blocked = λ t l is. by_kind t l is (same_live l ((ordinary code is_thread (c k)).threads t) (subst (λ x. IsSameKind x ((ordinary code is_thread (c k)).threads t)) is (left.kinds t)));
  }
    where
      left_there : (from : S) × (n : ℕ) × (last.threads idle.some_live.0 ≡ live from) × (quiet_steps code n from ≡ Some idle.some_live.1.local)
      left_there = left.places idle.some_live.0 idle.some_live.1 idle.some_live.1.local idle.some_live.2 (live_now idle.some_live.0 idle.some_live.1 idle.some_live.2 idle.some_live.3)

      by_kind : (t : ℕ) (l : S) → last.threads t ≡ live l → (m : S) × ((ordinary code is_thread (c k)).threads t ≡ live m) → IsBlocked code last t l
      by_kind t l is there = let found = alive_at code b is_thread first classes c acts mon starts k within idle t there.0 there.1 in blocked t found.th found.at found.alive l is

pub idle_cores_are_stuck : {S : Type 0} (code : Code S) → IdleCoresAreStuck code
idle_cores_are_stuck code b is_thread first classes c acts mon laid starts ends k within idle joins last left =
    is_stuck code b is_thread first classes c acts mon laid starts ends k within idle joins last left
