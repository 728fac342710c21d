-- Acts that are cut.
use Rattle.std.proofs.Common.{◌≡◌, refl, inl, inr, ℕ, ◌<◌, true, List, [], ◌∷◌, sym, subst, arith}
use Rattle.std.specs.Prelude.{Contains, nat_lt, slice_get}
use Rattle.std.proofs.lemmas.Grind.{common_steps}
use Rattle.std.proofs.lemmas.Bool.Decides.{nat_tests}
use Rattle.core_runs.specs.Acts.{mover}
use Rattle.core_runs.specs.Revoked.{IsInDoomed}
use Rattle.section_laws.specs.LevelRun.{In}
use Rattle.section_laws.specs.Settled.{to_undo}
use Rattle.section_laws.proofs.CoreRunLemmas.{none_there, in_front, behind_front}
use Rattle.section_laws.proofs.section_levels.LevelLemmas.{level_in}
use Rattle.first_law.proofs.settled_monitors.DoomedLemmas.{outermost_of, some_in}
use Rattle.first_law.specs.Cuts.{TestedActsAreCut}

pub in_of : (p : ℕ) (levels : List ℕ) → Contains levels p → In p levels
in_of p [] there = none_there p there
in_of p (q ∷ levels) there = elim (in_front q p levels there) [ inl is ↦ inl (sym is) | inr rest ↦ inr (in_of p levels rest) ]

pub contains_of : (p : ℕ) (levels : List ℕ) → In p levels → Contains levels p
contains_of p [] is = absurd is
contains_of p (q ∷ levels) is = elim is [ inl here ↦ subst (Contains (q ∷ levels)) (sym here) (0, omega arith, refl) | inr more ↦ behind_front q p levels (contains_of p levels more) ]

pub some_is : (n : ℕ) → nat_lt 0 n ≡ true → 0 < n
some_is n is = grind (arith, common_steps, nat_tests)

pub is_some : (n : ℕ) → 0 < n → nat_lt 0 n ≡ true
is_some n some = grind (arith, common_steps, nat_tests)

pub tested_acts_are_cut : (S : Type 0) → TestedActsAreCut S
tested_acts_are_cut S c acts doomed tells k = (forward, backward)
  where
    forward : nat_lt 0 (to_undo doomed ((c k).levels (mover (slice_get acts k)))) ≡ true → IsInDoomed c acts k
    forward is =
        let out = outermost_of doomed ((c k).levels (mover (slice_get acts k))) (some_is (to_undo doomed ((c k).levels (mover (slice_get acts k)))) is) in (
          out.place,
          contains_of out.place ((c k).levels (mover (slice_get acts k))) (level_in out.place out.level ((c k).levels (mover (slice_get acts k))) out.is),
          (tells out.place).0 out.so,
        )

    backward : IsInDoomed c acts k → nat_lt 0 (to_undo doomed ((c k).levels (mover (slice_get acts k)))) ≡ true
    backward found = is_some (to_undo doomed ((c k).levels (mover (slice_get acts k))))
        (some_in doomed found.0 ((c k).levels (mover (slice_get acts k))) (in_of found.0 ((c k).levels (mover (slice_get acts k))) found.1) ((tells found.0).1 found.2))
