-- Turns of the lowest enabled thread, where the order is through and no number is drawn.
use Rattle.std.proofs.Common.{◌≡◌, ℕ, zero, suc, ◌+◌, ◌<◌, ◌≤◌, [], ◌++◌, Option, Some, None, refl, sym, ◌∙◌, ap, subst, arith, length-append, below_more}
use Rattle.std.proofs.lemmas.List.Elements.{All-append}
use Rattle.op_core.specs.declared.Limits.{Limits}
use Rattle.op_core.specs.declared.Limit.{Limit}
use Rattle.op_core.specs.declared.How.{How}
use Rattle.op_core.specs.ThreadCode.{Code}
use Rattle.op_core.specs.OrdinaryState.{live}
use Rattle.schedules.specs.declared.order.TurnEnd.{TurnEnd}
use Rattle.schedules.specs.declared.order.TurnEnd.TheVariants.{Made, Other, Blocked, Spent}
use Rattle.schedules.specs.Schedule.{Rest}
use Rattle.schedules.specs.Run.{Run}
use Rattle.schedules.proofs.RunLemmas.{go_on}
use Rattle.ordinary_machine.specs.declared.ordinary.Ordinary.{Ordinary}
use Rattle.ordinary_machine.specs.Machine.{Machine, machine_of, with_thread_at}
use Rattle.ordinary_machine.specs.Advance.{MayAdvance}
use Rattle.ordinary_runs.specs.declared.turns.CountedMachine.{CountedMachine}
use Rattle.ordinary_runs.specs.Turns.{traced, Progress, progress_of, machine_turns, IsSilentFor, GivesIfEnabled}
use Rattle.ordinary_runs.specs.ScheduledRun.{how_at, GoesOn, GoesOnOrEnds}
use Rattle.ordinary_runs.proofs.SilentLemmas.{others_same, silent_enabled}
use Rattle.ordinary_runs.proofs.EnabledLemmas.{lowest_picked}
use Rattle.ordinary_runs.proofs.RunLemmas.{silent_none, spent_same, silent_on, picked_turn, picked_came}

-- nothing is left of a schedule with no seed
abbrev pub none_left : Rest
none_left = record { order = []; number = None }

-- no thread below t is enabled
abbrev pub NoneBelow : {S : Type 0} → Code S → Machine S → ℕ → Type 0
NoneBelow code m t = (u : ℕ) → u < t → MayAdvance code m u → ⊥

-- no thread has number 0
pub none_below_1 : {C S : Type 0} (code : Code S) (state : C → S) (machine : Ordinary C) → NoneBelow code (machine_of state machine) 1
none_below_1 code state machine zero below may = may.begun
none_below_1 code state machine (suc u) below may = omega (arith, below)

goes_join : {S : Type 0} (code : Code S) (limits : Limits) (run next last : Run (Progress S)) → GoesOn code limits run next → GoesOn code limits next last → GoesOn code limits run last
goes_join {S} code limits run next last first later = record {
  threads = first.threads ++ later.threads;
  some = let some = first.some in let long = length-append first.threads later.threads in omega (arith, some, long);
  numbers = All-append (λ t. t < 256) first.threads later.threads first.numbers later.numbers;
  follows = go_on (Progress S) (machine_turns code limits) run next last first.threads later.threads first.follows later.follows;
}

-- after silent steps of t no thread below it is enabled either
still_none : {S : Type 0} (code : Code S) (m new : Machine S) (t n : ℕ) (from behind : S) → m.now.threads t ≡ live from → new ≡ with_thread_at m t (live behind) n → NoneBelow code m t → NoneBelow code new t
still_none code m new t n from behind begun leads none u below may =
    none u below ((others_same code m t from behind n begun u (λ is. omega (arith, is, below))).1 (subst (λ x. MayAdvance code x u) leads may))

module _ {C S : Type 0} (code : Code S) (state : C → S) (limits : Limits) where
  abbrev at : CountedMachine C → Run (Progress S)
  at x = record { state = progress_of state x; rest = none_left }

  abbrev now : CountedMachine C → Machine S
  now x = machine_of state x.machine

  turn_on : (x z : CountedMachine C) (t : ℕ) (end : TurnEnd) → traced x.events ≡ None → t < 256 → NoneBelow code (now x) t → MayAdvance code (now x) t → (machine_turns code limits).gives (progress_of state x) t end (progress_of state z)
      → ((limit : Limit) → end ≡ Spent limit → ⊥) → GoesOn code limits (at x) (at z)
  turn_on x z t end untraced number none may given unspent =
      picked_turn code limits (progress_of state x) (progress_of state z) none_left none_left None t end untraced refl refl (lowest_picked code state x.machine t may none) number given unspent refl

  -- After some silent turns of the lowest enabled thread, it isn't enabled any more, or its turn is spent or made.
  goes_behind : (x y z : CountedMachine C) (t : ℕ) (end : Option TurnEnd) → traced y.events ≡ None → t < 256 → NoneBelow code (now y) t → GoesOn code limits (at x) (at y) → GivesIfEnabled code limits (progress_of state y) t end (progress_of state z)
      → GoesOn code limits (at x) (at z)
  goes_behind x y z t None untraced number none goes (never, same) = subst (λ (r : Progress S). GoesOn code limits (at x) (record { state = r; rest = none_left })) (sym same) goes
  goes_behind x y z t (Some (Spent limit)) untraced number none goes (may, given) =
      subst (λ (r : Progress S). GoesOn code limits (at x) (record { state = r; rest = none_left })) (sym (spent_same code limits (progress_of state y) (progress_of state z) t limit given)) goes
  goes_behind x y z t (Some (Made kind)) untraced number none goes (may, given) = goes_join code limits (at x) (at y) (at z) goes (turn_on y z t (Made kind) untraced number none may given (λ limit is. cc))
  goes_behind x y z t (Some Other) untraced number none goes (may, given) = goes_join code limits (at x) (at y) (at z) goes (turn_on y z t Other untraced number none may given (λ limit is. cc))
  goes_behind x y z t (Some Blocked) untraced number none goes (may, given) = goes_join code limits (at x) (at y) (at z) goes (turn_on y z t Blocked untraced number none may given (λ limit is. cc))

  -- silent turns and what comes after them
  pub lowest_made : (x y z : CountedMachine C) (t n : ℕ) (end : Option TurnEnd) → traced x.events ≡ None → t < 256 → NoneBelow code (now x) t → 0 < n → IsSilentFor code limits (progress_of state x) t n (progress_of state y)
      → GivesIfEnabled code limits (progress_of state y) t end (progress_of state z) → GoesOn code limits (at x) (at z)
  lowest_made x y z t zero end untraced number none some ran gives = absurd (omega (arith, some))
  lowest_made x y z t (suc n) end untraced number none some ran gives =
      let runs = ran.runs in
      let may = silent_enabled code (now x) t n runs.from runs.behind runs.begun runs.quiet in
      let goes = silent_on code limits (progress_of state x) (progress_of state y) t (suc n) untraced (lowest_picked code state x.machine t may none) number some ran in
      goes_behind x y z t end (ap traced ran.kept ∙ untraced) number (still_none code (now x) (now y) t ((now x).silents t + suc n) runs.from runs.behind runs.begun runs.leads none) goes gives

  -- Without silent turns, the thread is none that is enabled, or its turn is the next one.
  module _ (x y z : CountedMachine C) (t n : ℕ) (none_made : n ≤ 0) (ran : IsSilentFor code limits (progress_of state x) t n (progress_of state y)) where
    given_there : (end came : Option TurnEnd) → GivesIfEnabled code limits (progress_of state y) t end (progress_of state z) → end ≡ came → GivesIfEnabled code limits (progress_of state x) t came (progress_of state z)
    given_there end came gives is =
        subst (λ (r : Progress S). GivesIfEnabled code limits r t came (progress_of state z)) (silent_none code limits (progress_of state x) (progress_of state y) t n none_made ran)
        (subst (λ e. GivesIfEnabled code limits (progress_of state y) t e (progress_of state z)) is gives)

    pub lowest_passed : (end : Option TurnEnd) → NoneBelow code (now x) t → GivesIfEnabled code limits (progress_of state y) t end (progress_of state z) → end ≡ None
        → (progress_of state z ≡ progress_of state x) × NoneBelow code (now z) (t + 1)
    lowest_passed end none gives is =
        let (never, same) = given_there end None gives is in
        (same, subst (λ (r : Progress S). NoneBelow code r.machine (t + 1)) (sym same) (below_more (λ u. MayAdvance code (now x) u → ⊥) t none never))

    pub lowest_came : (end : Option TurnEnd) (came : TurnEnd) → traced x.events ≡ None → t < 256 → NoneBelow code (now x) t → GivesIfEnabled code limits (progress_of state y) t end (progress_of state z) → end ≡ Some came
        → GoesOnOrEnds code limits (at x) (how_at t came) (at z)
    lowest_came end came untraced number none gives is =
        let (may, given) = given_there end (Some came) gives is in
        picked_came code limits (progress_of state x) (progress_of state z) none_left none_left None t came untraced refl refl (lowest_picked code state x.machine t may none) number given refl

-- The same holds for a run in this state, under the same limits.
pub stands_so : {S : Type 0} (code : Code S) (limits same : Limits) (run : Run (Progress S)) (r new : Progress S) (rest : Rest) (end : Option How) → limits ≡ same → record { state = r; rest = rest } ≡ run → run.rest ≡ none_left
    → GoesOnOrEnds code limits (record { state = r; rest = none_left }) end (record { state = new; rest = none_left }) → GoesOnOrEnds code same run end (record { state = new; rest = rest })
stands_so {S} code limits same run r new rest end limited is none goes =
    let left : rest ≡ none_left = ap (λ (x : Run (Progress S)). x.rest) is ∙ none in
    subst (λ (l : Limits). GoesOnOrEnds code l run end (record { state = new; rest = rest })) limited
    (subst (λ (x : Run (Progress S)). GoesOnOrEnds code limits x end (record { state = new; rest = rest })) is
    (subst (λ (x : Rest). GoesOnOrEnds code limits (record { state = r; rest = x }) end (record { state = new; rest = x })) (sym left) goes))
