-- Who owns the section that holds a monitor.
use Rattle.std.proofs.Common.{◌≡◌, ◌≢◌, inl, inr, ℕ, ◌+◌, ◌-◌, ◌<◌, ◌≤◌, ◌^◌, Bool, true, false, Some, List, length, sym, ◌∙◌, ap, subst, arith}
use Rattle.std.specs.Prelude.{nat_le, if◌then◌else◌}
use Rattle.op_core.specs.ThreadCode.{Code}
use Rattle.op_core.specs.OrdinaryState.{Object}
use Rattle.heap_words.specs.declared.areas.Area.{Area}
use Rattle.section_state.specs.SectionWord.{state_of, owner_of, revoke_of, with_state, with_pinned, with_depth, with_revoke, undone_of}
use Rattle.monitor_core.specs.Monitors.{monitor_word, monitor_section, monitor_depth}
use Rattle.thread_automaton.specs.declared.Bounds.{Bounds}
use Rattle.thread_automaton.specs.ThreadState.{ThreadState, held_as}
use Rattle.automaton_rows.specs.Undoing.{is_held}
use Rattle.core_runs.specs.Cores.{Core}
use Rattle.core_runs.specs.Acts.{Act}
use Rattle.section_laws.proofs.WordLemmas.{state_of_zero}
use Rattle.section_laws.specs.Moves.{Move}
use Rattle.section_laws.proofs.own_sections.MoveLemmas.{own_words_are_known}
use Rattle.section_laws.proofs.run_threads.NumberLemmas.{threads_are_numbered}
use Rattle.first_law.specs.Monitors.{MonitorsFit}
use Rattle.first_law.specs.InPlace.{IsSeenRun}

-- ---- words of monitors

pub section_is : (s d l : ℕ) → s < 2 ^ 32 → d < 2 ^ 16 → l < 2 ^ 8 → monitor_section (monitor_word s d l) ≡ s
unfolding monitor_section monitor_word
section_is s d l low small few = omega (arith, low, small, few)

pub depth_is : (s d l : ℕ) → s < 2 ^ 32 → d < 2 ^ 16 → l < 2 ^ 8 → monitor_depth (monitor_word s d l) ≡ d
unfolding monitor_depth monitor_word
depth_is s d l low small few = omega (arith, low, small, few)

pub not_free : (s d l : ℕ) → 0 < d → monitor_word s d l ≢ 0
unfolding monitor_word
not_free s d l some is = omega (arith, is, some)

-- ---- words of sections

owner_state : (w n : ℕ) → n < 2 ^ 8 → owner_of (with_state w n) ≡ owner_of w
unfolding owner_of with_state
owner_state w n low = omega (arith, low)

owner_pinned : (w n : ℕ) → owner_of (with_pinned w n) ≡ owner_of w
unfolding owner_of with_pinned
owner_pinned w n = omega arith

owner_depth : (w n : ℕ) → owner_of (with_depth w n) ≡ owner_of w
unfolding owner_of with_depth
owner_depth w n = omega arith

owner_revoke : (w n : ℕ) → owner_of (with_revoke w n) ≡ owner_of w
unfolding owner_of with_revoke
owner_revoke w n = omega arith

owner_undone : (w : ℕ) → owner_of (undone_of w) ≡ owner_of w
owner_undone w = by_test (nat_le (revoke_of w) 1)
  where
    by_test : (t : Bool) → owner_of (with_revoke (if t then with_state w 4 else with_depth (with_state w 1) (revoke_of w - 1)) 0) ≡ owner_of w
    by_test true = owner_revoke (with_state w 4) 0 ∙ owner_state w 4 (omega arith)
    by_test false = owner_revoke (with_depth (with_state w 1) (revoke_of w - 1)) 0 ∙ owner_depth (with_state w 1) (revoke_of w - 1) ∙ owner_state w 1 (omega arith)

-- a section that is there stays its owner's
pub owner_kept : (old new : ℕ) → Move old new → old ≢ 0 → owner_of new ≡ owner_of old
owner_kept old new (Move.stays is) some = ap owner_of is
owner_kept old new (Move.opens number priority number_low priority_low none is) some = absurd (some none)
owner_kept old new (Move.pins n live deeper low is) some = ap owner_of is ∙ owner_pinned old n
owner_kept old new (Move.revokes n live free there is) some = ap owner_of is ∙ owner_revoke (with_state old 3) n ∙ owner_state old 3 (omega arith)
owner_kept old new (Move.opens_level live room is) some = ap owner_of is ∙ owner_depth old _
owner_kept old new (Move.closes_to n live some_level low is) some = ap owner_of is ∙ owner_depth old n
owner_kept old new (Move.commits live is) some = ap owner_of is ∙ owner_state old 5 (omega arith)
owner_kept old new (Move.undoes turned some_level is) some = ap owner_of is ∙ owner_undone old

state_some : (w n : ℕ) → state_of w ≡ n → 0 < n → w ≢ 0
state_some w n is some none = let zero_state = ap state_of none ∙ state_of_zero in no n (sym is ∙ zero_state) some
  where
    no : (n : ℕ) → n ≡ 0 → 0 < n → ⊥
    no n none some = omega (arith, none, some)

module _ {S : Type 0} (code : Code S) (b : Bounds) (is_thread : ℕ → Bool) (first : S) (classes : ℕ) (c : ℕ → Core S) (acts : List Act) (run : IsSeenRun code b is_thread first classes c acts)
    (k : ℕ) (within : k ≤ length acts) where
  -- a thread owns the section that it has open
  pub own_section : (t : ℕ) (th : ThreadState S) → (c k).threads t ≡ Some th → 0 < th.section
      → (owner_of ((c k).words (Area.Section th.section)) ≡ t) × ((c k).words (Area.Section th.section) ≢ 0)
  own_section t th there some =
      let own = (own_words_are_known code b c acts run.levelled.ordered.run run.levelled.ordered.in_bits k t th within there some).0 in
      let number = (threads_are_numbered code b c acts run.levelled.ordered.run run.levelled.numbered k within).own t th there in
      let word : ℕ = (c k).words (Area.Section th.section) in (
        own.owner ∙ number,
        elim own.state [
          | inl live ↦ state_some word 1 live (omega arith)
          | inr (inl turned) ↦ state_some word 3 turned (omega arith)
          | inr (inr committed) ↦ state_some word 5 committed (omega arith)
        ],
      )

  module _ (monitors : MonitorsFit code (c k)) where
    -- the section of a monitor that is held
    pub section_held : (t r : ℕ) (th : ThreadState S) → (c k).threads t ≡ Some th → is_held r th.held ≡ true → monitor_section ((c k).words (Area.Object (r + 1))) ≡ th.section
    section_held t r th there holds =
        let says = monitors.held.says t r th there holds in
        ap monitor_section says.0 ∙ section_is th.section (held_as r th.held).depth (held_as r th.held).level (monitors.numbers t th there) says.1.1 says.1.2

    pub depth_held : (t r : ℕ) (th : ThreadState S) → (c k).threads t ≡ Some th → is_held r th.held ≡ true → monitor_depth ((c k).words (Area.Object (r + 1))) ≡ (held_as r th.held).depth
    depth_held t r th there holds =
        let says = monitors.held.says t r th there holds in
        ap monitor_depth says.0 ∙ depth_is th.section (held_as r th.held).depth (held_as r th.held).level (monitors.numbers t th there) says.1.1 says.1.2

    pub some_held : (t r : ℕ) (th : ThreadState S) → (c k).threads t ≡ Some th → is_held r th.held ≡ true → (c k).words (Area.Object (r + 1)) ≢ 0
    some_held t r th there holds none =
        let says = monitors.held.says t r th there holds in
        not_free th.section (held_as r th.held).depth (held_as r th.held).level says.1.0 (sym says.0 ∙ none)

    pub held_section : (q : ℕ) (o : Object) → (c k).objects q ≡ Some o → (c k).words (Area.Object (q + 1)) ≢ 0
        → (c k).words (Area.Section (monitor_section ((c k).words (Area.Object (q + 1))))) ≢ 0
    held_section q o there some =
        let holder = monitors.held.holders q o there some in
        subst (λ s. (c k).words (Area.Section s) ≢ 0) (sym (section_held holder.0 q holder.1 holder.2 holder.3))
        (own_section holder.0 holder.1 holder.2 (monitors.held.sections holder.0 q holder.1 holder.2 holder.3)).1
