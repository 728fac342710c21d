-- The threads that have ended where a run ends are those that have ended after what is left of it.
use Rattle.std.proofs.Common.{◌≡◌, ◌↔◌, ℕ, suc, ◌≤◌, Bool, true, false, Option, None, Some, List, length, refl, sym, ◌∙◌, ap, subst, arith}
use Rattle.std.specs.Prelude.{slice_get, if◌then◌else◌}
use Rattle.std.proofs.lemmas.Option.{slice_get_within}
use Rattle.op_core.specs.declared.Op.TheVariants.{Start, End}
use Rattle.op_core.specs.declared.Next.TheVariants.{Want}
use Rattle.op_core.specs.ThreadCode.{Code}
use Rattle.op_core.specs.OrdinaryState.{Thread, unused, live, ended}
use Rattle.op_core.specs.Laws.{IsSameKind}
use Rattle.thread_automaton.specs.declared.Bounds.{Bounds}
use Rattle.thread_automaton.specs.ThreadState.{ThreadState}
use Rattle.core_runs.specs.Cores.{Core}
use Rattle.core_runs.specs.Acts.{Act, ActAt}
use Rattle.core_runs.specs.Reading.{end_wanted, place_in, thread_in, ordinary}
use Rattle.section_laws.proofs.RunLemmas.{along, facts_at}
use Rattle.section_laws.specs.Layout.{IsLaidRun}
use Rattle.section_laws.proofs.run_layout.RunLemmas.{objects_stay}
use Rattle.first_law.proofs.RestLemmas.{Rests, rests_first, act_rests}
use Rattle.first_law.specs.Free.{IsFreeRun}
use Rattle.first_law.proofs.grounded_monitors.RunLemmas.{free_runs_fit_objects}
use Rattle.core_law.specs.Erasure.{Erasure}
use Rattle.word_runs.specs.WordTurns.{EndedBy}
use Rattle.core_law.specs.Ends.{OverThreadsWantTheirEnd, EndsAreThoseLeft}

-- ---- threads that are over

module _ {S : Type 0} (code : Code S) (b : Bounds) (is_thread : ℕ → Bool) (c : ℕ → Core S) (acts : List Act) (laid : IsLaidRun code b is_thread c acts) where
  abbrev AllRest : ℕ → Type 0
  AllRest k = (t : ℕ) (th : ThreadState S) → (c k).threads t ≡ Some th → Rests code is_thread (c k).objects th

  begin : AllRest 0
  begin t th at = let begins = laid.run.begins.threads t th at in subst (Rests code is_thread (c 0).objects) (sym begins.3) (rests_first code is_thread (c 0).objects begins.0 begins.1 begins.2)

  go_on : (k : ℕ) (act : Act) → slice_get acts k ≡ Some act → ActAt code b c k act → AllRest k → AllRest (suc k)
  go_on k act here at before =
      let within = slice_get_within acts k act here in
      act_rests code b is_thread c k (λ t th stands. (facts_at code b c acts laid.run k (omega (arith, within))).fit t th stands) (λ t r p th stands wanted. laid.wants k t th (Start r p) within stands wanted)
      (λ q o there. objects_stay code b is_thread c acts laid k (suc k) q o (omega arith) (omega (arith, within)) there) act at before

  all_rest : (k : ℕ) → k ≤ length acts → AllRest k
  all_rest k within = along code b c acts laid.run.leads AllRest begin go_on k within

pub over_threads_want_their_end : {S : Type 0} (code : Code S) → OverThreadsWantTheirEnd code
over_threads_want_their_end code b is_thread c acts laid k t th within at over = (all_rest code b is_thread c acts laid k within t th at).ended over

-- ---- kinds of threads

ended_so : {S : Type 0} (x : Option ℕ) (thread : Thread S) → IsSameKind thread (ended x) → thread ≡ ended x
ended_so x unused same = absurd same
ended_so x (live l) same = absurd same
ended_so x (ended y) same = ap ended same

so_ended : {S : Type 0} (x : Option ℕ) (thread : Thread S) → IsSameKind (ended x) thread → thread ≡ ended x
so_ended x unused same = absurd same
so_ended x (live l) same = absurd same
so_ended x (ended y) same = ap ended (sym same)

abbrev end_of : {S : Type 0} → Option ℕ → Thread S → Option ℕ
end_of x (ended y) = y
end_of x thread = x

abbrev HasItsEnd : {S : Type 0} → Thread S → Type 0
HasItsEnd (ended x) = Unit {0}
HasItsEnd thread = ⊥

-- ---- threads of the last core

module _ {S : Type 0} (code : Code S) (b : Bounds) (is_thread : ℕ → Bool) (first : S) (classes : ℕ) (c : ℕ → Core S) (acts : List Act) (free : IsFreeRun code b is_thread first classes c acts)
    (left : Erasure code b is_thread c acts) (t : ℕ) (x : Option ℕ) where
  abbrev starting : Option S
  starting = (c (length acts)).starting t

  read_ended : (o : Option (ThreadState S)) → EndedBy code x o → thread_in code starting o ≡ ended x
  read_ended None is = absurd is
  read_ended (Some th) is =
      ap (λ over. if over then ended (end_wanted (code.next th.local)) else live (place_in code th.local th.attempt)) is.0 ∙ ap (λ next. ended (end_wanted next)) is.1

  no_end : {A : Type 0} (thread : Thread S) → (HasItsEnd thread → ⊥) → thread ≡ ended x → A
  no_end thread none is = absurd (none (subst HasItsEnd (sym is) tt))

  ended_read : (o : Option (ThreadState S)) → (c (length acts)).threads t ≡ o → thread_in code starting o ≡ ended x → EndedBy code x o
  ended_read None at is = by_start starting is
    where
      by_start : (s : Option S) → thread_in code s None ≡ ended x → ⊥
      by_start None is = no_end unused (λ has. has) is
      by_start (Some l) is = no_end (live l) (λ has. has) is
  ended_read (Some th) at is = by_over th.over refl
    where
      by_over : (over : Bool) → th.over ≡ over → EndedBy code x (Some th)
      by_over true over =
          let end = over_threads_want_their_end code b is_thread c acts (free_runs_fit_objects code b is_thread first classes c acts free) (length acts) t th (omega arith) at over in
          let reads = ap (λ z. if z then ended (end_wanted (code.next th.local)) else live (place_in code th.local th.attempt)) over ∙ ap (λ next. ended (end_wanted next)) end.1 in
          let same : end.0 ≡ x = ap (end_of x) (sym reads ∙ is) in
          (over, end.1 ∙ ap (λ y. Want (End y)) same)
      by_over false going =
          no_end (live (place_in code th.local th.attempt)) (λ has. has)
          (sym (ap (λ z. if z then ended (end_wanted (code.next th.local)) else live (place_in code th.local th.attempt)) going) ∙ is)

  ends_are : EndedBy code x ((c (length acts)).threads t) ↔ (left.last.threads t ≡ ended x)
  ends_are = (
    λ is. ended_so x (left.last.threads t) (subst (IsSameKind (left.last.threads t)) (read_ended ((c (length acts)).threads t) is) (left.kept.kinds t)),
    λ is. ended_read ((c (length acts)).threads t) refl
        (so_ended x ((ordinary code is_thread (c (length acts))).threads t) (subst (λ thread. IsSameKind thread ((ordinary code is_thread (c (length acts))).threads t)) is (left.kept.kinds t))),
  )

pub ends_are_those_left : {S : Type 0} (code : Code S) → EndsAreThoseLeft code
ends_are_those_left code b is_thread first classes c acts free left t x = ends_are code b is_thread first classes c acts free left t x
