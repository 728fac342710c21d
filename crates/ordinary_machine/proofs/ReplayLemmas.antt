-- Replayed events are executions.
use Rattle.std.proofs.Math.Seq.{take-suc, take-length}
use Rattle.std.proofs.Common.{◌≡◌, ℕ, ◌+◌, ◌<◌, ◌≤◌, List, [], ◌∷◌, ◌++◌, length, take, get_or, add-one, arith, map, Some, refl, sym, ◌∙◌, ap, subst}
use Rattle.op_core.specs.declared.Event.{Event}
use Rattle.op_core.specs.declared.Op.{Op}
use Rattle.op_core.specs.ThreadCode.{Code, quiet_steps}
use Rattle.op_core.specs.OrdinaryState.{live}
use Rattle.op_core.specs.OrdinaryStep.{CanStep, MayAnswer}
use Rattle.op_core.specs.Execution.{Leads}
use Rattle.op_core.proofs.ExecutionLemmas.{lines}
use Rattle.ordinary_machine.specs.Machine.{Machine, moved, Wants}
use Rattle.ordinary_machine.specs.Laws.{ExecutionsAreReplayed}
use Rattle.ordinary_machine.specs.Step.{event_without_line, IsNext, IsStepTo, Replays, IsReplayed}

-- one step more
pub replays_on : {S : Type 0} (code : Code S) (m middle last : Machine S) (es : List Event) (e : Event) → Replays code m es middle → IsStepTo code middle e last → Replays code m (es ++ e ∷ []) last
replays_on code m middle last [] e before step = (last, subst (λ x. IsStepTo code x e last) before step, refl)
replays_on code m middle last (f ∷ es) e (next, first, rest) step = (next, first, replays_on code next middle last es e rest step)

-- the events with their threads' own lines
own_leads : {S : Type 0} (code : Code S) (m last : Machine S) (es : List Event) → Replays code m es last
    → (own : List Event) × (map event_without_line own ≡ map event_without_line es) × Leads code m.now own last.now
own_leads code m last [] same = ([], refl, ap (λ x. x.now) (sym same))
own_leads code m last (e ∷ es) (next, step, rest) =
    let (own, same, leads) = own_leads code next last es rest in
    let mine : Event = record e { op = step.op } in
    let here : event_without_line mine ≡ event_without_line e = ap (λ op. record e { op = op }) step.next.same in
    let led = subst (λ x. Leads code x.now own last.now) step.leads leads in
    (mine ∷ own, cc, (step.place, record { from = step.next.from; begun = step.next.begun; quiet = step.next.quiet; step = record { wanted = step.next.wanted; can = step.can; answered = step.answered } }, led))

pub replayed : {S : Type 0} (code : Code S) (m last : Machine S) (es : List Event) → Replays code m es last → IsReplayed code m.now es last.now
replayed code m last es replays =
    let (own, same, leads) = own_leads code m last es replays in
    record { own = own; same = same; leads = leads; lines = lines code m.now last.now own leads }

pub replays_next : {S : Type 0} (code : Code S) (m middle last : Machine S) (es : List Event) (i : ℕ) (e : Event) → i < length es
    → Replays code m (take i es) middle → IsStepTo code middle (get_or es i e) last → Replays code m (take (i + 1) es) last
replays_next code m middle last es i e inside before step =
    subst (λ xs. Replays code m xs last) (sym (ap (λ k. take k es) (add-one i) ∙ take-suc es i e inside))
    (replays_on code m middle last (take i es) (get_or es i e) before step)

pub replayed_whole : {S : Type 0} (code : Code S) (m last : Machine S) (es : List Event) (n : ℕ) → n ≤ length es → length es ≤ n → Replays code m (take n es) last → IsReplayed code m.now es last.now
replayed_whole code m last es n below above replays =
    let all : n ≡ length es = omega (arith, below, above) in
    let whole : take n es ≡ es = ap (λ k. take k es) all ∙ take-length es in
    replayed code m last es (subst (λ xs. Replays code m xs last) whole replays)

-- an event with no silent steps is made from where its thread is
pub stands_there : {S : Type 0} (code : Code S) (m : Machine S) (e : Event) (l : S) (op : Op) → e.silent ≡ 0 → IsNext code m.now e l op → m.now.threads e.thread ≡ live l
stands_there {S} code m e l op none next =
    let here : Some next.from ≡ Some l = subst (λ n. quiet_steps code n next.from ≡ Some l) none next.quiet in
    let same : next.from ≡ l = cc in next.begun ∙ ap live same

pub wants_there : {S : Type 0} (code : Code S) (m : Machine S) (e : Event) (op : Op) → e.silent ≡ 0 → (l : S) × IsNext code m.now e l op → Wants code m e.thread op
wants_there {S} code m e op none (l, next) = record { place = l; begun = stands_there code m e l op none next; wanted = next.wanted }

pub stepped_there : {S : Type 0} (code : Code S) (m new : Machine S) (e : Event) (op : Op) → e.silent ≡ 0 → (l : S) × IsNext code m.now e l op
    → CanStep m.now e.thread op → MayAnswer m.now e.thread op e.reply → ((l : S) → m.now.threads e.thread ≡ live l → new ≡ moved code m e.thread l op e.reply) → IsStepTo code m e new
stepped_there {S} code m new e op none (l, next) can answered made = record {
  place = l;
  op = op;
  next = next;
  can = can;
  answered = answered;
  leads = made l (stands_there code m e l op none next);
}

-- an execution is replayed
pub executions_replayed : {S : Type 0} (code : Code S) → ExecutionsAreReplayed code
executions_replayed code m [] last same = (m, refl, same)
executions_replayed {S} code m (e ∷ es) last (l, comes, leads) =
    let next : Machine S = moved code m e.thread l e.op e.reply in
    let (new, replays, same) = executions_replayed code next es last leads in
    let step : IsStepTo code m e next = record {
      place = l;
      op = e.op;
      next = record { from = comes.from; begun = comes.begun; quiet = comes.quiet; wanted = comes.step.wanted; same = refl };
      can = comes.step.can;
      answered = comes.step.answered;
      leads = refl;
    } in (new, (next, step, replays), same)
