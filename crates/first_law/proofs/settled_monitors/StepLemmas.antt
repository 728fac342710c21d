-- The monitors stay settled with each turn of a thread.
use Rattle.std.proofs.Common.{◌≡◌, ◌≢◌, ◌⊎◌, inl, inr, ℕ, zero, suc, ◌+◌, ◌-◌, ◌<◌, ◌≤◌, Bool, true, false, true≢false, List, [], ◌∷◌, length, drop, refl, sym, ◌∙◌, ap, subst, arith}
use Rattle.std.specs.Prelude.{nat_lt, if◌then◌else◌}
use Rattle.std.proofs.lemmas.Grind.{common_steps}
use Rattle.std.proofs.lemmas.Bool.Decides.{nat_tests}
use Rattle.op_core.specs.declared.Op.TheVariants.{Exit}
use Rattle.op_core.specs.declared.Next.{Next}
use Rattle.op_core.specs.declared.Next.TheVariants.{Want}
use Rattle.op_core.specs.OrdinaryState.{set_at, Monitor, free}
use Rattle.op_core.specs.InPlaceList.{owned_by}
use Rattle.op_core.proofs.PointwiseLemmas.{same_or_other, set_at-hit, set_at-other}
use Rattle.section_state.specs.SectionWord.{revoke_of}
use Rattle.step_port.specs.declared.step.Step.{Step}
use Rattle.step_port.specs.declared.step.Step.TheVariants.{SetHeader, MarkUndone, Release}
use Rattle.thread_automaton.specs.declared.Held.{Held}
use Rattle.thread_automaton.specs.declared.Attempt.TheVariants.{Fixed, Undoing}
use Rattle.thread_automaton.specs.ThreadState.{ThreadState, Mark, nth_or, no_mark, is_open, mark_of, held_as, with_depth_of}
use Rattle.thread_automaton.specs.Changes.{without}
use Rattle.thread_automaton.specs.Told.{Told}
use Rattle.automaton_rows.specs.Undoing as rows
use Rattle.automaton_rows.proofs.UndoLemmas.{depth_then, other_depth, still_as}
use Rattle.core_runs.specs.Cores.{outermost}
use Rattle.section_laws.specs.Settled.{count_more, to_undo}
use Rattle.section_laws.specs.SettledMonitors.{is_held, depth_back, SettledMonitors}
use Rattle.section_laws.proofs.settled_lists.PartLemmas.{less_to_undo}
use Rattle.section_laws.proofs.settled_lists.MonitorLemmas.{opened_depth, closed_depth}
use Rattle.first_law.proofs.run_monitors.ListLemmas.{held_first, as_first, as_later}
use Rattle.first_law.specs.SettledRuns.{monitors_by}
use Rattle.first_law.proofs.settled_monitors.SettleLemmas.{same_is_held, stays, takes, sets, releases}
use Rattle.first_law.proofs.settled_monitors.TurnLemmas.{Unseen, Sees, Leaves, of_level, of_pinned, of_last, of_undoing, MonitorTurn, calm, opens_one, closes_some, is_undone_to, takes_one, sets_one, leaves_one, makes_one}

some_or : (n : ℕ) → nat_lt 0 n ≡ true → 0 < n
some_or n is = grind (arith, common_steps, nat_tests)

zero_or : (n : ℕ) → nat_lt 0 n ≡ false → n ≡ 0
zero_or n is = grind (arith, common_steps, nat_tests)

contrary : {P : Type 0} → true ≡ false → P
contrary same = absurd (true≢false same)

no_some : {P : Type 0} (n : ℕ) → n ≡ 0 → 0 < n → P
no_some n none some = absurd (no n none some)
  where
    no : (n : ℕ) → n ≡ 0 → 0 < n → ⊥
    no n none some = omega (arith, none, some)

-- What is so round a turn of thread t, which is x, as act number k.
pub record Around {S : Type 0} (doomed : ℕ → Bool) (k t : ℕ) (next : Next) (x : ThreadState S) (behind : List Held) (marks : List Mark) (open_then : Bool) (told : Told) (levels levels_then : List ℕ) (step : Step)
    (settled settled' : ℕ → Monitor) (held held' : ℕ → List Held) (back back' : ℕ → ℕ → ℕ) : Type 0 where
  -- of the thread before and after, and of the others
  pub held_before : held t ≡ x.held
  pub back_before : (q : ℕ) → back t q ≡ depth_back (to_undo doomed levels) x.marks x.held q
  pub held_after : held' t ≡ behind
  pub back_after : (q : ℕ) → back' t q ≡ depth_back (to_undo doomed levels_then) marks behind q
  pub others_held : (u : ℕ) → u ≢ t → held' u ≡ held u
  pub others_back : (u q : ℕ) → u ≢ t → back' u q ≡ back u q
  pub settles : (q : ℕ) → settled' q ≡ (if nat_lt 0 (to_undo doomed levels) then settled q else monitors_by t told next x.depth settled q)
  pub counted : length levels ≡ x.levels
  -- where a level is to be undone, one is open that isn't seen pinned, and the section isn't committed
  pub open_before : 0 < to_undo doomed levels → is_open x ≡ true
  pub open_after : 0 < to_undo doomed levels_then → open_then ≡ true
  pub stands : (r : ℕ) → 0 < to_undo doomed levels → x.attempt ≡ Fixed (Release r) → next ≡ Want (Exit r) → without r x.held ≡ [] → ⊥
  -- all from the level to which the section is undone on are to be undone
  pub undoing : (w : ℕ) → x.attempt ≡ Undoing w → (0 < revoke_of w) × (revoke_of w ≤ length levels) × (suc (length levels) ≤ revoke_of w + to_undo doomed levels)
  pub undone_as : (w s v : ℕ) → x.attempt ≡ Undoing w → step ≡ MarkUndone s v → x.held ≡ (mark_of x (revoke_of w)).held
  -- no level that is to be undone is closed
  pub closes : (j : ℕ) → ((s w : ℕ) → step ≡ MarkUndone s w → ⊥) → levels_then ≡ drop j levels → (to_undo doomed levels ≡ 0) ⊎ (j < to_undo doomed levels)
  -- the outermost of them has a mark, which names no monitor that isn't held, or was taken at it or further inside
  pub unmarked : (n r : ℕ) → to_undo doomed levels ≡ suc n → (rows.is_held r x.held ≡ false) ⊎ ((rows.is_held r x.held ≡ true) × (suc (length levels) ≤ (held_as r x.held).level + suc n))
      → (held_as r (nth_or no_mark n x.marks).held).depth ≡ 0
  -- nobody holds what the thread takes, nor the monitor of a new object
  pub nobody : (r : ℕ) → rows.is_held r behind ≡ true → rows.is_held r x.held ≡ false → (u : ℕ) → u ≢ t → is_held r (held u) ≡ false
  pub made : (r w : ℕ) → step ≡ SetHeader r w → (u : ℕ) → is_held r (held u) ≡ false

module _ {S : Type 0} {doomed : ℕ → Bool} {k t : ℕ} {next : Next} {x : ThreadState S} {behind : List Held} {marks : List Mark} {open_then : Bool} {told : Told} {levels levels_then : List ℕ} {step : Step}
    {settled settled' : ℕ → Monitor} {held held' : ℕ → List Held} {back back' : ℕ → ℕ → ℕ}
    (a : Around doomed k t next x behind marks open_then told levels levels_then step settled settled' held held' back back') (facts : SettledMonitors settled held back) where
  abbrev count : ℕ
  count = to_undo doomed levels

  abbrev count_then : ℕ
  count_then = to_undo doomed levels_then

  -- ---- what others see

  kept_settled : 0 < count → (q : ℕ) → settled' q ≡ settled q
  kept_settled some q = a.settles q ∙ ap (λ test. if test then settled q else monitors_by t told next x.depth settled q) (is_some count some)
    where
      is_some : (n : ℕ) → 0 < n → nat_lt 0 n ≡ true
      is_some n some = grind (arith, common_steps, nat_tests)

  seen_settled : count ≡ 0 → (q : ℕ) → settled' q ≡ monitors_by t told next x.depth settled q
  seen_settled none q = a.settles q ∙ ap (λ test. if test then settled q else monitors_by t told next x.depth settled q) (is_none count none)
    where
      is_none : (n : ℕ) → n ≡ 0 → nat_lt 0 n ≡ false
      is_none n none = grind (arith, common_steps, nat_tests)

  -- whether a level is to be undone
  data Whether : Type 0 where
    some_to : (n : ℕ) → count ≡ suc n → Whether
    none_to : count ≡ 0 → Whether

  whether : Whether
  whether = by_count count refl
    where
      by_count : (n : ℕ) → count ≡ n → Whether
      by_count zero is = none_to is
      by_count (suc n) is = some_to n is

  above_zero : (n : ℕ) → count ≡ suc n → 0 < count
  above_zero n is = subst (λ m. 0 < m) (sym is) (omega arith)

  unseen_settled : Unseen t told next → (q : ℕ) → settled' q ≡ settled q
  unseen_settled unseen q = by_whether whether
    where
      by_whether : Whether → settled' q ≡ settled q
      by_whether (some_to n is) = kept_settled (above_zero n is) q
      by_whether (none_to is) = seen_settled is q ∙ ap (λ (f : ℕ → Monitor). f q) (unseen x.depth settled)

  seen_one : count ≡ 0 → (r : ℕ) (old new : Monitor) → Sees t told next x.depth r old new → settled r ≡ old → (q : ℕ) → settled' q ≡ set_at settled r new q
  seen_one none r old new sees was q = seen_settled none q ∙ sees settled was q

  held_own : (r : ℕ) → rows.is_held r x.held ≡ true → is_held r (held t) ≡ true
  held_own r has = ap (is_held r) a.held_before ∙ sym (same_is_held r x.held) ∙ has

  owned : (r : ℕ) → rows.is_held r x.held ≡ true → settled r ≡ owned_by t (depth_back count x.marks x.held r)
  owned r has = facts.holds t r (held_own r has) ∙ ap (owned_by t) (a.back_before r)

  owned_now : count ≡ 0 → (r : ℕ) → rows.is_held r x.held ≡ true → settled r ≡ owned_by t (held_as r x.held).depth
  owned_now none r has = owned r has ∙ ap (λ n. owned_by t (depth_back n x.marks x.held r)) none

  -- ---- how often each is held once all is undone

  -- where the marks are forgotten, nothing is to be undone then
  none_then : open_then ≡ false → count_then ≡ 0
  none_then shut = by_test (nat_lt 0 count_then) refl
    where
      by_test : (test : Bool) → nat_lt 0 count_then ≡ test → count_then ≡ 0
      by_test true some = contrary (sym (a.open_after (some_or count_then some)) ∙ shut)
      by_test false none = zero_or count_then none

  -- by the same number, marks and monitors
  by_parts : (n : ℕ) (now : List Held) → count_then ≡ n → behind ≡ now → (q : ℕ) → back' t q ≡ depth_back n marks now q
  by_parts n now same same_held q = a.back_after q ∙ ap (λ m. depth_back m marks behind q) same ∙ ap (λ xs. depth_back n marks xs q) same_held

  back_calm : behind ≡ x.held → levels_then ≡ levels → (marks ≡ x.marks) ⊎ (open_then ≡ false) → (q : ℕ) → back' t q ≡ back t q
  back_calm same same_levels which q = elim which [
    | inl same_marks ↦ by_parts count x.held (ap (to_undo doomed) same_levels) same q ∙ ap (λ ms. depth_back count ms x.held q) same_marks ∙ sym (a.back_before q)
    | inr shut ↦
        let none = none_then shut in
        by_parts 0 x.held none same q ∙ sym (ap (λ n. depth_back n x.marks x.held q) (sym (ap (to_undo doomed) same_levels) ∙ none)) ∙ sym (a.back_before q)
  ]

  settle_calm : behind ≡ x.held → levels_then ≡ levels → (marks ≡ x.marks) ⊎ (open_then ≡ false) → ((q : ℕ) → settled' q ≡ settled q) → SettledMonitors settled' held' back'
  settle_calm same same_levels which same_settled =
      stays settled settled' held held' back back' facts t a.others_held a.others_back (a.held_after ∙ same ∙ sym a.held_before) same_settled (back_calm same same_levels which)

  keeps_held : behind ≡ x.held → ((q : ℕ) → settled' q ≡ settled q) → ((q : ℕ) → back' t q ≡ back t q) → SettledMonitors settled' held' back'
  keeps_held same same_settled same_back = stays settled settled' held held' back back' facts t a.others_held a.others_back (a.held_after ∙ same ∙ sym a.held_before) same_settled same_back

  back_opened : (m : Mark) → m.held ≡ x.held → behind ≡ x.held → levels_then ≡ k ∷ levels → (marks ≡ m ∷ x.marks) ⊎ (open_then ≡ false) → (q : ℕ) → back' t q ≡ back t q
  back_opened m named same more which q = elim which [
    | inl same_marks ↦ by_parts (to_undo doomed (k ∷ levels)) m.held (ap (to_undo doomed) more) (same ∙ sym named) q ∙ ap (λ ms. depth_back (to_undo doomed (k ∷ levels)) ms m.held q) same_marks
        ∙ opened_depth doomed k levels m.silents m.noted x.marks m.held q ∙ ap (λ xs. depth_back count x.marks xs q) named ∙ sym (a.back_before q)
    | inr shut ↦
        let none = none_then shut in
        by_parts 0 x.held none same q ∙ sym (ap (λ n. depth_back n x.marks x.held q) (before (doomed k) count (sym (ap (to_undo doomed) more) ∙ none))) ∙ sym (a.back_before q)
  ]
    where
      before : (test : Bool) (n : ℕ) → count_more test n ≡ 0 → n ≡ 0
      before test zero is = refl
      before test (suc n) is = absurd (no n is)
        where
          no : (n : ℕ) → suc (suc n) ≡ 0 → ⊥
          no n is = omega (arith, is)

  -- levels inside of the outermost one that is to be undone are left
  back_closed : (j : ℕ) → behind ≡ x.held → levels_then ≡ drop j levels → (marks ≡ drop j x.marks) ⊎ (open_then ≡ false) → (count ≡ 0) ⊎ (j < count) → (q : ℕ) → back' t q ≡ back t q
  back_closed j same less which inner q = elim which [
    | inl same_marks ↦ by_parts (to_undo doomed (drop j levels)) x.held (ap (to_undo doomed) less) same q ∙ ap (λ ms. depth_back (to_undo doomed (drop j levels)) ms x.held q) same_marks
        ∙ closed_depth doomed j levels x.marks x.held q inner ∙ sym (a.back_before q)
    | inr shut ↦
        let none = none_then shut in
        by_parts 0 x.held none same q
        ∙ sym (ap (λ n. depth_back n x.marks x.held q) (before count j inner (sym (less_to_undo doomed j levels) ∙ sym (ap (to_undo doomed) less) ∙ none))) ∙ sym (a.back_before q)
  ]
    where
      before : (n j : ℕ) → (n ≡ 0) ⊎ (j < n) → n - j ≡ 0 → n ≡ 0
      before n j inner none = elim inner [ inl is ↦ is | inr low ↦ absurd (no n j low none) ]
        where
          no : (n j : ℕ) → j < n → n - j ≡ 0 → ⊥
          no n j low none = omega (arith, low, none)

  -- once exactly the levels are undone that are to be
  back_undone : (w s v : ℕ) → x.attempt ≡ Undoing w → step ≡ MarkUndone s v → behind ≡ x.held → levels_then ≡ outermost (revoke_of w - 1) levels
      → (marks ≡ drop (suc (x.levels - revoke_of w)) x.marks) ⊎ (open_then ≡ false) → (q : ℕ) → back' t q ≡ back t q
  back_undone w s v undoing is same less which q = by_order (nat_lt (length levels - (revoke_of w - 1)) count) refl
    where
      level : (0 < revoke_of w) × (revoke_of w ≤ length levels) × (suc (length levels) ≤ revoke_of w + count)
      level = a.undoing w undoing

      one_more : (l n x : ℕ) → 0 < n → n ≤ l → l ≡ x → suc (x - n) ≡ l - (n - 1)
      one_more l n x some low is = omega (arith, some, low, is)

      same_marks_of : (marks ≡ drop (suc (x.levels - revoke_of w)) x.marks) ⊎ (open_then ≡ false) → (marks ≡ drop (length levels - (revoke_of w - 1)) x.marks) ⊎ (open_then ≡ false)
      same_marks_of which = elim which [ inl is ↦ inl (is ∙ ap (λ n. drop n x.marks) (one_more (length levels) (revoke_of w) x.levels level.0 level.1 a.counted)) | inr shut ↦ inr shut ]

      less_so : (m n : ℕ) → nat_lt m n ≡ true → m < n
      less_so m n is = grind (arith, common_steps, nat_tests)

      not_less : (m n : ℕ) → nat_lt m n ≡ false → n ≤ m
      not_less m n is = grind (arith, common_steps, nat_tests)

      exact : (l n c : ℕ) → 0 < n → n ≤ l → suc l ≤ n + c → c ≤ l - (n - 1) → c ≡ suc (l - n)
      exact l n c some low deep few = omega (arith, some, low, deep, few)

      none_left : (l n c : ℕ) → 0 < n → n ≤ l → c ≡ suc (l - n) → c - (l - (n - 1)) ≡ 0
      none_left l n c some low is = omega (arith, some, low, is)

      by_order : (test : Bool) → nat_lt (length levels - (revoke_of w - 1)) count ≡ test → back' t q ≡ back t q
      by_order true deeper = back_closed (length levels - (revoke_of w - 1)) same less (same_marks_of which) (inr (less_so (length levels - (revoke_of w - 1)) count deeper)) q
      by_order false all =
          let counts = exact (length levels) (revoke_of w) count level.0 level.1 level.2 (not_less (length levels - (revoke_of w - 1)) count all) in
          by_parts 0 x.held (ap (to_undo doomed) less ∙ less_to_undo doomed (length levels - (revoke_of w - 1)) levels ∙ none_left (length levels) (revoke_of w) count level.0 level.1 counts) same q
          ∙ ap (λ xs. (held_as q xs).depth) (a.undone_as w s v undoing is)
          ∙ ap (λ n. (held_as q (nth_or no_mark (n - revoke_of w) x.marks).held).depth) (sym a.counted)
          ∙ sym (ap (λ n. depth_back n x.marks x.held q) counts) ∙ sym (a.back_before q)

  -- while nothing else changes
  back_none : count ≡ 0 → levels_then ≡ levels → (q : ℕ) → back' t q ≡ (held_as q behind).depth
  back_none none same q = by_parts 0 behind (ap (to_undo doomed) same ∙ none) refl q

  back_some : (n : ℕ) → count ≡ suc n → levels_then ≡ levels → marks ≡ x.marks → (q : ℕ) → back' t q ≡ (held_as q (nth_or no_mark n x.marks).held).depth
  back_some n is same same_marks q = by_parts (suc n) behind (ap (to_undo doomed) same ∙ is) refl q ∙ ap (λ ms. (held_as q (nth_or no_mark n ms).held).depth) same_marks

  was_none : count ≡ 0 → (q : ℕ) → back t q ≡ (held_as q x.held).depth
  was_none none q = a.back_before q ∙ ap (λ n. depth_back n x.marks x.held q) none

  was_some : (n : ℕ) → count ≡ suc n → (q : ℕ) → back t q ≡ (held_as q (nth_or no_mark n x.marks).held).depth
  was_some n is q = a.back_before q ∙ ap (λ m. depth_back m x.marks x.held q) is

  -- a section isn't undone where nothing is to be
  no_undoing : {P : Type 0} (w : ℕ) → x.attempt ≡ Undoing w → count ≡ 0 → P
  no_undoing w undoing none = let level = a.undoing w undoing in absurd (no (length levels) (revoke_of w) count level.1 level.2 none)
    where
      no : (l n c : ℕ) → n ≤ l → suc l ≤ n + c → c ≡ 0 → ⊥
      no l n c low deep none = omega (arith, low, deep, none)

  -- ---- a monitor is taken

  settle_taken : (h : Held) → rows.is_held h.object x.held ≡ false → behind ≡ h ∷ x.held → levels_then ≡ levels → marks ≡ x.marks → Sees t told next x.depth h.object free (owned_by t h.depth)
      → SettledMonitors settled' held' back'
  settle_taken h none after same_levels same_marks sees =
      takes settled settled' held held' back back' facts t a.others_held a.others_back h (a.held_after ∙ after ∙ ap (λ xs. h ∷ xs) (sym a.held_before)) nobody
      (λ q other. by_settled q other whether) (λ q other. by_back q other whether) (by_now whether)
    where
      none_of : is_held h.object (held t) ≡ false
      none_of = ap (is_held h.object) a.held_before ∙ sym (same_is_held h.object x.held) ∙ none

      has_now : rows.is_held h.object behind ≡ true
      has_now = ap (rows.is_held h.object) after ∙ held_first h x.held

      nobody : (u : ℕ) → is_held h.object (held u) ≡ false
      nobody u = elim (same_or_other u t) [ inl own ↦ ap (λ n. is_held h.object (held n)) own ∙ none_of | inr other ↦ a.nobody h.object has_now none u other ]

      was_free : settled h.object ≡ free
      was_free = facts.is_free h.object nobody

      by_settled : (q : ℕ) → q ≢ h.object → Whether → settled' q ≡ settled q
      by_settled q other (some_to n is) = kept_settled (above_zero n is) q
      by_settled q other (none_to is) = seen_one is h.object free (owned_by t h.depth) sees was_free q ∙ set_at-other settled h.object (owned_by t h.depth) q other

      by_back : (q : ℕ) → q ≢ h.object → Whether → back' t q ≡ back t q
      by_back q other (some_to n is) = back_some n is same_levels same_marks q ∙ sym (was_some n is q)
      by_back q other (none_to is) = back_none is same_levels q ∙ ap (λ xs. (held_as q xs).depth) after ∙ ap (λ (z : Held). z.depth) (as_later h x.held q other) ∙ sym (was_none is q)

      by_now : Whether → settled' h.object ≡ owned_by t (back' t h.object)
      by_now (some_to n is) = kept_settled (above_zero n is) h.object ∙ was_free ∙ ap (owned_by t) (sym (back_some n is same_levels same_marks h.object ∙ a.unmarked n h.object is (inl none)))
      by_now (none_to is) = seen_one is h.object free (owned_by t h.depth) sees was_free h.object ∙ set_at-hit settled h.object (owned_by t h.depth)
          ∙ ap (owned_by t) (sym (back_none is same_levels h.object ∙ ap (λ xs. (held_as h.object xs).depth) after ∙ ap (λ (z : Held). z.depth) (as_first h x.held)))

  -- ---- it gets another depth

  settle_set : (r d : ℕ) → rows.is_held r x.held ≡ true → behind ≡ with_depth_of r d x.held → levels_then ≡ levels → marks ≡ x.marks
      → Sees t told next x.depth r (owned_by t (held_as r x.held).depth) (owned_by t d) ⊎ ((w : ℕ) × (x.attempt ≡ Undoing w) × Unseen t told next) → SettledMonitors settled' held' back'
  settle_set r d has after same_levels same_marks how =
      sets settled settled' held held' back back' facts t a.others_held a.others_back r d (a.held_after ∙ after ∙ ap (with_depth_of r d) (sym a.held_before)) (held_own r has)
      (λ q other. by_settled q other whether how) (λ q other. by_back q other whether) (by_now whether how)
    where
      by_settled : (q : ℕ) → q ≢ r → Whether → Sees t told next x.depth r (owned_by t (held_as r x.held).depth) (owned_by t d) ⊎ ((w : ℕ) × (x.attempt ≡ Undoing w) × Unseen t told next) → settled' q ≡ settled q
      by_settled q other (some_to n is) how = kept_settled (above_zero n is) q
      by_settled q other (none_to is) (inl sees) = seen_one is r (owned_by t (held_as r x.held).depth) (owned_by t d) sees (owned_now is r has) q ∙ set_at-other settled r (owned_by t d) q other
      by_settled q other (none_to is) (inr undo) = no_undoing undo.0 undo.1 is

      by_back : (q : ℕ) → q ≢ r → Whether → back' t q ≡ back t q
      by_back q other (some_to n is) = back_some n is same_levels same_marks q ∙ sym (was_some n is q)
      by_back q other (none_to is) = back_none is same_levels q ∙ ap (λ xs. (held_as q xs).depth) after ∙ other_depth r q d x.held other ∙ sym (was_none is q)

      by_now : Whether → Sees t told next x.depth r (owned_by t (held_as r x.held).depth) (owned_by t d) ⊎ ((w : ℕ) × (x.attempt ≡ Undoing w) × Unseen t told next) → settled' r ≡ owned_by t (back' t r)
      by_now (some_to n is) how = kept_settled (above_zero n is) r ∙ owned r has ∙ ap (λ m. owned_by t (depth_back m x.marks x.held r)) is ∙ ap (owned_by t) (sym (back_some n is same_levels same_marks r))
      by_now (none_to is) (inl sees) = seen_one is r (owned_by t (held_as r x.held).depth) (owned_by t d) sees (owned_now is r has) r ∙ set_at-hit settled r (owned_by t d)
          ∙ ap (owned_by t) (sym (back_none is same_levels r ∙ ap (λ xs. (held_as r xs).depth) after ∙ depth_then r d x.held has))
      by_now (none_to is) (inr undo) = no_undoing undo.0 undo.1 is

  -- ---- it is left

  -- others see that it is free then
  left_free : (r : ℕ) → rows.is_held r x.held ≡ true → count ≡ 0 → Leaves t next x told r → (q : ℕ) → settled' q ≡ set_at settled r free q
  left_free r has none (of_level high sees) q = seen_one none r (owned_by t (held_as r x.held).depth) free sees (owned_now none r has) q
  left_free r has none (of_pinned shut sees) q = seen_one none r (owned_by t (held_as r x.held).depth) free sees (owned_now none r has) q
  left_free r has none (of_last at exit alone sees) q = seen_one none r (owned_by t (held_as r x.held).depth) free sees (owned_now none r has) q
  left_free r has none (of_undoing w undoing deep unseen) q = no_undoing w undoing none

  -- or it is none that will be held once all is undone
  left_deep : (n r : ℕ) → count ≡ suc n → Leaves t next x told r → suc (length levels) ≤ (held_as r x.held).level + suc n
  left_deep n r is (of_level high sees) = deep (length levels) x.levels (held_as r x.held).level n a.counted high
    where
      deep : (l x h n : ℕ) → l ≡ x → x < h → suc l ≤ h + suc n
      deep l x h n is high = omega (arith, is, high)
  left_deep n r is (of_pinned shut sees) = contrary (sym (a.open_before (above_zero n is)) ∙ shut)
  left_deep n r is (of_last at exit alone sees) = absurd (a.stands r (above_zero n is) at exit alone)
  left_deep n r is (of_undoing w undoing deep unseen) = within (length levels) (revoke_of w) (held_as r x.held).level count n (a.undoing w undoing).2 is deep
    where
      within : (l v h c n : ℕ) → suc l ≤ v + c → c ≡ suc n → v ≤ h → suc l ≤ h + suc n
      within l v h c n counts is deep = omega (arith, counts, is, deep)

  settle_left : (r : ℕ) → rows.is_held r x.held ≡ true → behind ≡ without r x.held
      → ((levels_then ≡ levels) × (marks ≡ x.marks)) ⊎ ((levels_then ≡ []) × (x.attempt ≡ Fixed (Release r)) × (next ≡ Want (Exit r)) × (without r x.held ≡ [])) → Leaves t next x told r
      → SettledMonitors settled' held' back'
  settle_left r has after which why =
      releases settled settled' held held' back back' facts t a.others_held a.others_back r (a.held_after ∙ after ∙ ap (without r) (sym a.held_before)) (held_own r has)
      (λ q other. by_settled q other whether) (λ q other. by_back q other whether which) (by_now whether)
    where
      by_settled : (q : ℕ) → q ≢ r → Whether → settled' q ≡ settled q
      by_settled q other (some_to n is) = kept_settled (above_zero n is) q
      by_settled q other (none_to is) = left_free r has is why q ∙ set_at-other settled r free q other

      by_back : (q : ℕ) → q ≢ r → Whether → ((levels_then ≡ levels) × (marks ≡ x.marks)) ⊎ ((levels_then ≡ []) × (x.attempt ≡ Fixed (Release r)) × (next ≡ Want (Exit r)) × (without r x.held ≡ []))
          → back' t q ≡ back t q
      by_back q other (some_to n is) (inl same) = back_some n is same.0 same.1 q ∙ sym (was_some n is q)
      by_back q other (none_to is) (inl same) = back_none is same.0 q ∙ ap (λ xs. (held_as q xs).depth) after ∙ ap (λ (z : Held). z.depth) (still_as r q x.held other) ∙ sym (was_none is q)
      by_back q other (some_to n is) (inr last) = absurd (a.stands r (above_zero n is) last.1 last.2 last.3)
      by_back q other (none_to is) (inr last) = by_parts 0 behind (ap (to_undo doomed) last.0) refl q ∙ ap (λ xs. (held_as q xs).depth) after ∙ ap (λ (z : Held). z.depth) (still_as r q x.held other) ∙ sym (was_none is q)

      by_now : Whether → settled' r ≡ free
      by_now (some_to n is) = kept_settled (above_zero n is) r ∙ owned r has ∙ ap (λ m. owned_by t (depth_back m x.marks x.held r)) is ∙ ap (owned_by t) (a.unmarked n r is (inr (has, left_deep n r is why)))
      by_now (none_to is) = left_free r has is why r ∙ set_at-hit settled r free

  -- ---- all turns

  pub turns : MonitorTurn k t next x behind marks open_then told levels levels_then step → SettledMonitors settled' held' back'
  turns (calm same same_levels which unseen) = settle_calm same same_levels which (unseen_settled unseen)
  turns (opens_one m named same more which unseen) = keeps_held same (unseen_settled unseen) (back_opened m named same more which)
  turns (closes_some n same less which other unseen) = keeps_held same (unseen_settled unseen) (back_closed (length levels - n) same less (by_marks which) (a.closes (length levels - n) other less))
    where
      by_marks : (marks ≡ drop (x.levels - n) x.marks) ⊎ (open_then ≡ false) → (marks ≡ drop (length levels - n) x.marks) ⊎ (open_then ≡ false)
      by_marks which = elim which [ inl is ↦ inl (is ∙ ap (λ l. drop (l - n) x.marks) (sym a.counted)) | inr shut ↦ inr shut ]
  turns (is_undone_to w s v undoing is same less which unseen) = keeps_held same (unseen_settled unseen) (back_undone w s v undoing is same less which)
  turns (takes_one h none after same_levels same_marks sees) = settle_taken h none after same_levels same_marks sees
  turns (sets_one r d has after same_levels same_marks how) = settle_set r d has after same_levels same_marks how
  turns (leaves_one r has after which why) = settle_left r has after which why
  turns (makes_one r w is same same_levels same_marks sees) = settle_calm same same_levels (inl same_marks) (λ q. by_settled q whether)
    where
      was_free : settled r ≡ free
      was_free = facts.is_free r (a.made r w is)

      by_settled : (q : ℕ) → Whether → settled' q ≡ settled q
      by_settled q (some_to n some) = kept_settled (above_zero n some) q
      by_settled q (none_to none) = seen_settled none q ∙ ap (λ (f : ℕ → Monitor). f q) (sees x.depth settled) ∙ elim (same_or_other q r) [
        | inl here ↦ ap (set_at settled r free) here ∙ set_at-hit settled r free ∙ sym was_free ∙ ap settled (sym here)
        | inr other ↦ set_at-other settled r free q other
      ]
