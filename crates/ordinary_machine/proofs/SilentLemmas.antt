-- Silent steps, one after another.
use Rattle.std.proofs.Common.{◌≡◌, ℕ, zero, suc, ◌+◌, Option, Some, None, List, [], ◌∷◌, ◌++◌, refl, sym, ◌∙◌, ap, subst, arith}
use Rattle.std.specs.Option.{option_and_then}
use Rattle.op_core.specs.declared.Limits.{Limits}
use Rattle.op_core.specs.ThreadCode.{Code, quiet_step, quiet_steps}
use Rattle.op_core.specs.OrdinaryState.{Thread, live}
use Rattle.op_core.proofs.PointwiseLemmas.{set_at-hit, set_at-same, set_at-twice}
use Rattle.ordinary_machine.specs.Machine.{Machine, with_thread_at}
use Rattle.ordinary_machine.specs.Advance.{IsSilentTo, Advances}
use Rattle.ordinary_machine.specs.declared.advance.Advance.TheVariants as advance
use Rattle.ordinary_machine.specs.Laws.{Call, Runs, silent_calls, RunsAreAdvances}

-- A run of silent steps is one answer Silent after another.
runs_on : {S : Type 0} (code : Code S) (m middle last : Machine S) (calls : List Call) (call : Call) → Runs code m calls middle → Advances code middle call.thread call.limits call.answer last
    → Runs code m (calls ++ call ∷ []) last
runs_on code m middle last [] call before advances = (last, subst (λ x. Advances code x call.thread call.limits call.answer last) before advances, refl)
runs_on code m middle last (first ∷ calls) call (next, one, rest) advances = (next, one, runs_on code next middle last calls call rest advances)

pub and_then_some : {S : Type 0} (f : S → Option S) (o : Option S) (y : S) → option_and_then f o ≡ Some y → (x : S) × (o ≡ Some x) × (f x ≡ Some y)
and_then_some f None y h = cc
and_then_some f (Some x) y h = (x, refl, h)

pub put_twice : {S : Type 0} (m : Machine S) (t : ℕ) (a b : Thread S) (j k : ℕ) → with_thread_at (with_thread_at m t a j) t b k ≡ with_thread_at m t b k
put_twice m t a b j k = λ i. record m { now = record m.now { threads = set_at-twice m.now.threads t a b i }; silents = set_at-twice m.silents t j k i }

pub put_back : {S : Type 0} (m : Machine S) (t : ℕ) (a : Thread S) (k : ℕ) → m.now.threads t ≡ a → m.silents t ≡ k → with_thread_at m t a k ≡ m
put_back m t a k thread count = λ i. record m { now = record m.now { threads = set_at-same m.now.threads t a thread i }; silents = set_at-same m.silents t k count i }

quiet_runs : {S : Type 0} (code : Code S) (m : Machine S) (t n : ℕ) (limits : Limits) (from behind : S) → m.now.threads t ≡ live from → quiet_steps code n from ≡ Some behind
    → Runs code m (silent_calls t limits n) (with_thread_at m t (live behind) (m.silents t + n))
quiet_runs {S} code m t zero limits from behind begun quiet =
    let same : from ≡ behind = cc in put_back m t (live behind) (m.silents t + 0) (begun ∙ ap live same) (omega arith)
quiet_runs {S} code m t (suc n) limits from behind begun quiet =
    let (middle, before, step) = and_then_some (quiet_step code) (quiet_steps code n from) behind quiet in
    let there : Machine S = with_thread_at m t (live middle) (m.silents t + n) in
    let count : there.silents t ≡ m.silents t + n = set_at-hit m.silents t (m.silents t + n) in
    let more : suc (there.silents t) ≡ m.silents t + suc n = omega (arith, count) in
    let silent : IsSilentTo code there t (with_thread_at m t (live behind) (m.silents t + suc n)) = record {
      from = middle;
      behind = behind;
      begun = set_at-hit m.now.threads t (live middle);
      quiet = step;
      leads = sym (put_twice m t (live middle) (live behind) (m.silents t + n) (suc (there.silents t)) ∙ ap (with_thread_at m t (live behind)) more);
    } in
    runs_on code m there (with_thread_at m t (live behind) (m.silents t + suc n)) (silent_calls t limits n) (record { thread = t; limits = limits; answer = advance.Silent })
    (quiet_runs code m t n limits from middle begun before) silent

pub runs_advance : {S : Type 0} (code : Code S) → RunsAreAdvances code
runs_advance code m new t zero limits runs = runs
runs_advance {S} code m new t (suc n) limits runs =
    subst (Runs code m (silent_calls t limits (suc n))) (sym runs.leads) (quiet_runs code m t (suc n) limits runs.from runs.behind runs.begun runs.quiet)
