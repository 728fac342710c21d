-- Threads at a place of a run where none is enabled.
use Rattle.std.proofs.Common.{◌≡◌, inr, ℕ, ◌<◌, ◌≤◌, ◌&&◌, ◌||◌, not, Bool, true, false, true≢false, Option, None, Some, List, length, nat_eq, refl, sym, ◌∙◌, ap, subst, arith}
use Rattle.std.specs.Prelude.{nat_lt, if◌then◌else◌}
use Rattle.std.proofs.lemmas.Grind.{common_steps}
use Rattle.std.proofs.lemmas.Bool.Decides.{nat_tests}
use Rattle.std.proofs.lemmas.Bool.{or_parts, eqb-true}
use Rattle.op_core.specs.declared.Op.TheVariants.{Start}
use Rattle.op_core.specs.declared.Next.{Next}
use Rattle.op_core.specs.declared.Next.TheVariants.{Want}
use Rattle.op_core.specs.ThreadCode.{Code}
use Rattle.op_core.specs.OrdinaryState.{Thread, live, ended}
use Rattle.heap_words.specs.declared.areas.Area.{Area}
use Rattle.section_state.specs.declared.State.TheVariants.{Revoking}
use Rattle.section_state.specs.SectionWord.{state_of, pinned_of, revoke_of}
use Rattle.monitor_core.specs.Contention.{is_in}
use Rattle.step_port.specs.declared.step.Step.TheVariants.{Split}
use Rattle.step_port.specs.Words.{Words}
use Rattle.thread_automaton.specs.declared.Bounds.{Bounds}
use Rattle.thread_automaton.specs.declared.Attempt.{Attempt}
use Rattle.thread_automaton.specs.declared.Attempt.TheVariants.{Begin, Fixed}
use Rattle.thread_automaton.specs.ThreadState.{ThreadState, is_open}
use Rattle.automaton_rows.specs.Fits.{FixedFits, AttemptFits, IsFit}
use Rattle.core_runs.specs.Cores.{Core}
use Rattle.core_runs.specs.Acts.{Act}
use Rattle.core_runs.specs.Reading.{end_wanted, place_in, thread_in, ordinary}
use Rattle.section_laws.specs.Runs.{IsRun}
use Rattle.section_laws.proofs.WordLemmas.{state_of_zero}
use Rattle.section_laws.proofs.RunLemmas.{facts_at}
use Rattle.section_laws.proofs.SectionLemmas.{zero_no_section}
use Rattle.section_laws.proofs.own_sections.MoveLemmas.{own_words_are_known}
use Rattle.section_laws.specs.Starts.{BeginsWithStarts}
use Rattle.section_laws.specs.OpenSections.{IsOpenBy}
use Rattle.section_laws.proofs.open_sections.RunLemmas.{open_sections_have_threads}
use Rattle.first_law.specs.RunMonitors.{IsMonitorRun}
use Rattle.word_runs.specs.Enabled.{has_to_wait_for, has_to_undo}
use Rattle.core_law.specs.Idle.{NoneIsEnabled}
use Rattle.core_law.proofs.ThreadLemmas.{HandsOut, past_at, started_at}

-- ---- tests

pub from_both : {A : Type 0} (x : Bool) → x ≡ true → x ≡ false → A
from_both x is isnt = absurd (true≢false (sym is ∙ isnt))

not_false : (x : Bool) → not x ≡ false → x ≡ true
not_false true is = refl
not_false false is = cc

pub some_above : (n : ℕ) → nat_eq n 0 ≡ false → 0 < n
some_above n some = grind (arith, common_steps, nat_tests)

less_so : (m n : ℕ) → m < n → nat_lt m n ≡ true
less_so m n is = grind (arith, common_steps, nat_tests)

module _ {S : Type 0} (code : Code S) (b : Bounds) (is_thread : ℕ → Bool) (first : S) (classes : ℕ) (c : ℕ → Core S) (acts : List Act) (mon : IsMonitorRun code b first classes c acts)
    (starts : BeginsWithStarts is_thread (c 0)) (k : ℕ) (within : k ≤ length acts) (idle : NoneIsEnabled code (c k)) where
  run : IsRun code b c acts
  run = mon.levelled.ordered.run

  abbrev w : Words
  w = (c k).words

  abbrev threads : ℕ → Option (ThreadState S)
  threads = (c k).threads

  -- ---- what threads that haven't ended wait for

  pub waits_at : (t : ℕ) (th : ThreadState S) → (c k).threads t ≡ Some th → th.over ≡ false → (has_to_undo (c k).words th ≡ false) × (has_to_wait_for (c k).words th (code.next th.local) ≡ true)
  waits_at t th at alive =
      let parts = or_parts (has_to_undo w th) (not (has_to_wait_for w th (code.next th.local)))
      (ap (λ x. not x && (has_to_undo w th || not (has_to_wait_for w th (code.next th.local)))) (sym alive) ∙ idle.not_enabled t th at) in
      (parts.0, not_false (has_to_wait_for w th (code.next th.local)) parts.1)

  -- no section is being undone
  pub none_revoked : (s : ℕ) → is_in Revoking ((c k).words (Area.Section s)) ≡ true → ⊥
  none_revoked s is = by_over found.th.over refl
    where
      found : IsOpenBy (c k) s
      found = open_sections_have_threads code b first classes c acts mon.levelled k s within (inr (eqb-true (state_of (w (Area.Section s))) 3 is))

      own_is : is_in Revoking (w (Area.Section found.th.section)) ≡ true
      own_is = ap (λ n. is_in Revoking (w (Area.Section n))) found.own ∙ is

      zero_so : is_in Revoking (w (Area.Section 0)) ≡ false
      zero_so = ap (is_in Revoking) (zero_no_section code b c acts run k within) ∙ ap (λ n. nat_eq n 3) state_of_zero

      some : nat_eq found.th.section 0 ≡ false
      some = by_test (nat_eq found.th.section 0) refl
        where
          by_test : (x : Bool) → nat_eq found.th.section 0 ≡ x → nat_eq found.th.section 0 ≡ false
          by_test true none = from_both (is_in Revoking (w (Area.Section 0))) (ap (λ n. is_in Revoking (w (Area.Section n))) (sym (eqb-true found.th.section 0 none)) ∙ own_is) zero_so
          by_test false some = some

      low_open : (p v r n : ℕ) → p ≤ v → v < r → r ≤ n → p < n
      low_open p v r n seen below upto = omega (arith, seen, below, upto)

      by_over : (x : Bool) → found.th.over ≡ x → ⊥
      by_over false alive =
          from_both (has_to_undo w found.th) (ap (λ x. not x && is_in Revoking (w (Area.Section found.th.section))) some ∙ own_is) (waits_at found.thread found.th found.stands alive).0
      by_over true over =
          let says = (own_words_are_known code b c acts run mon.levelled.ordered.in_bits k found.thread found.th within found.stands (some_above found.th.section some)).0 in
          let turned = says.revoking (eqb-true (state_of (w (Area.Section found.th.section))) 3 own_is) in
          from_both (is_open found.th) (less_so found.th.pinned found.th.levels (low_open found.th.pinned (pinned_of (w (Area.Section found.th.section))) (revoke_of (w (Area.Section found.th.section))) found.th.levels says.pinned turned.0 turned.1))
          (past_at code b c acts run mon.levelled.numbered k within found.thread found.th found.stands over).shut

  -- a thread that waits isn't about to hand one out
  starts_none : (th : ThreadState S) (n r p : ℕ) (next : Next) → FixedFits th next (Split n r p) → has_to_wait_for w th next ≡ true → ⊥
  starts_none th n r p (Want (Start q o)) fits is = true≢false (sym is)
  starts_none th n r p next fits is = absurd fits

  pub fit : (t : ℕ) (th : ThreadState S) → (c k).threads t ≡ Some th → IsFit code th
  fit t th at = (facts_at code b c acts run k within).fit t th at

  none_handed : (t : ℕ) (th : ThreadState S) → threads t ≡ Some th → th.over ≡ false → (n r p : ℕ) → th.attempt ≡ Fixed (Split n r p) → ⊥
  none_handed t th at alive n r p fixed =
      starts_none th n r p (code.next th.local) (subst (AttemptFits th (code.next th.local)) fixed (fit t th at).attempt) (waits_at t th at alive).1

  place_so : (l : S) (attempt : Attempt) → ((n r p : ℕ) → attempt ≡ Fixed (Split n r p) → ⊥) → place_in code l attempt ≡ l
  place_so l (Fixed (Split n r p)) none = absurd (none n r p refl)
  place_so l attempt none = refl

  pub now_live : (t : ℕ) (th : ThreadState S) → (c k).threads t ≡ Some th → th.over ≡ false → (ordinary code is_thread (c k)).threads t ≡ live th.local
  now_live t th at alive =
      ap (thread_in code ((c k).starting t)) at ∙ ap (λ x. if x then ended (end_wanted (code.next th.local)) else live (place_in code th.local th.attempt)) alive
      ∙ ap live (place_so th.local th.attempt (none_handed t th at alive))

  -- each thread that hasn't ended in what is left is there, and hasn't ended
  pub record Alive (t : ℕ) : Type 0 where
    pub th : ThreadState S
    pub at : (c k).threads t ≡ Some th
    pub alive : th.over ≡ false

  pub alive_at : (t : ℕ) (m : S) → (ordinary code is_thread (c k)).threads t ≡ live m → Alive t
  alive_at t m is = by_thread (threads t) refl
    where
      IsLive : Thread S → Type 0
      IsLive (live l) = Unit {0}
      IsLive x = ⊥

      by_over : (th : ThreadState S) → threads t ≡ Some th → (x : Bool) → th.over ≡ x → Alive t
      by_over th at false alive = record { th = th; at = at; alive = alive }
      by_over th at true over =
          absurd (subst IsLive (sym is ∙ ap (thread_in code ((c k).starting t)) at ∙ ap (λ x. if x then ended (end_wanted (code.next th.local)) else live (place_in code th.local th.attempt)) over) tt)

      by_parent : HandsOut threads t → ⊥
      by_parent out = by_out out.th.over refl
        where
          IsBegin : Attempt → Type 0
          IsBegin Begin = Unit {0}
          IsBegin attempt = ⊥

          by_out : (x : Bool) → out.th.over ≡ x → ⊥
          by_out false alive = none_handed out.parent out.th out.stands alive t out.object out.priority out.fixed
          by_out true over = subst IsBegin (sym (past_at code b c acts run mon.levelled.numbered k within out.parent out.th out.stands over).between ∙ out.fixed) tt

      by_start : threads t ≡ None → (o : Option S) → (c k).starting t ≡ o → Alive t
      by_start none (Some l) is_started = absurd (by_parent (started_at code b c acts run mon.levelled.numbered starts.none k within t l is_started none))
      by_start none None not_started = absurd (subst IsLive (sym is ∙ ap (thread_in code ((c k).starting t)) none ∙ ap (λ o. thread_in code o None) not_started) tt)

      by_thread : (o : Option (ThreadState S)) → threads t ≡ o → Alive t
      by_thread (Some th) at = by_over th at th.over refl
      by_thread None none = by_start none ((c k).starting t) refl
