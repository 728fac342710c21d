-- Turns of the machine's threads along a run: silent ones at once, and that each uses up one of those that are left.
use Rattle.std.proofs.Common.{◌≡◌, inl, inr, ℕ, zero, suc, ◌+◌, ◌<◌, ◌≤◌, Bool, true, List, [], ◌∷◌, ◌++◌, length, All, Option, Some, None, refl, sym, ◌∙◌, ap, subst, arith, length-append, append-nil, option_map}
use Rattle.op_core.specs.declared.Event.{Event}
use Rattle.std.proofs.lemmas.List.Elements.{All-append, All-cons, All-nil}
use Rattle.std.proofs.lemmas.Option.{slice_get_within, get_or_from_slice_get}
use Rattle.op_core.specs.declared.Limits.{Limits}
use Rattle.op_core.specs.declared.Limit.TheVariants as limit
use Rattle.op_core.specs.ThreadCode.{Code, quiet_step, quiet_steps}
use Rattle.op_core.specs.OrdinaryState.{set_at, live}
use Rattle.op_core.proofs.PointwiseLemmas.{set_at-hit, set_at-same, set_at-twice}
use Rattle.schedules.specs.declared.order.OrderItem.{OrderItem}
use Rattle.schedules.specs.declared.order.TurnEnd.{TurnEnd}
use Rattle.schedules.specs.declared.order.TurnEnd.TheVariants.{Other, Blocked}
use Rattle.schedules.specs.Schedule.{thread_of, drawn, place_of, due, order_after, number_after, Rest, rest_after}
use Rattle.schedules.specs.Run.{IsPicked, Run, due_of, GetsTurn, IsNext, IsTurn, Follows}
use Rattle.schedules.proofs.RunLemmas.{go_on}
use Rattle.ordinary_machine.specs.declared.advance.Advance.{Advance}
use Rattle.ordinary_machine.specs.declared.advance.Advance.TheVariants as advance
use Rattle.ordinary_machine.specs.Machine.{with_thread_at}
use Rattle.ordinary_machine.specs.Advance.{Advances, MayAdvance}
use Rattle.ordinary_machine.proofs.SilentLemmas.{put_twice, put_back, and_then_some}
use Rattle.ordinary_runs.specs.Turns.{traced, Progress, is_live, end_of, counted_after, IsSilentFor, machine_turns}
use Rattle.ordinary_runs.specs.ScheduledRun.{CanGive, order_behind, GoesOn}
use Rattle.ordinary_runs.proofs.CountLemmas.{counted_left, left_less}
use Rattle.ordinary_runs.proofs.OrderLemmas.{due_first, due_stays, order_turns, due_no_more, other_no_more, blocked_less, item_behind, all_behind, behind_turns, behind_thread}
use Rattle.ordinary_runs.proofs.SilentLemmas.{enabled_same, step_silent}

-- thread t is at l, k silent steps later
abbrev pub later : {S : Type 0} → Progress S → ℕ → S → ℕ → Progress S
later r t l k = record { machine = with_thread_at r.machine t (live l) (r.machine.silents t + k); counted = set_at r.counted t (r.counted t + k); events = r.events }

not_later : {S : Type 0} (r : Progress S) (t : ℕ) (from : S) → r.machine.now.threads t ≡ live from → later r t from 0 ≡ r
not_later r t from begun =
    let machine = put_back r.machine t (live from) (r.machine.silents t + 0) begun (omega arith) in
    let counted = set_at-same r.counted t (r.counted t + 0) (omega arith) in
    λ i. record { machine = machine i; counted = counted i; events = r.events }

-- no event more
pub none_more : (events : Option (List Event)) → option_map (λ es. es ++ []) events ≡ events
none_more None = refl
none_more (Some es) = ap Some (append-nil es)

-- one silent step more is a turn
silent_turn : {S : Type 0} (code : Code S) (limits : Limits) (r : Progress S) (t : ℕ) (l behind : S) (k : ℕ) → quiet_step code l ≡ Some behind → r.counted t + k < limits.turns
    → (machine_turns code limits).gives (later r t l k) t Other (later r t behind (suc k))
silent_turn code limits r t l behind k quiet left =
    let m = later r t l k in
    let count : m.counted t ≡ r.counted t + k = set_at-hit r.counted t (r.counted t + k) in
    let steps : m.machine.silents t ≡ r.machine.silents t + k = set_at-hit r.machine.silents t (r.machine.silents t + k) in
    let one_more : suc (m.machine.silents t) ≡ r.machine.silents t + suc k = omega (arith, steps) in
    let counts : m.counted t + 1 ≡ r.counted t + suc k = omega (arith, count) in
    inr (record {
      left = omega (arith, count, left);
      answer = advance.Silent;
      advances = record {
        from = l;
        behind = behind;
        begun = set_at-hit r.machine.now.threads t (live l);
        quiet = quiet;
        leads = sym (put_twice r.machine t (live l) (live behind) (r.machine.silents t + k) (suc (m.machine.silents t)) ∙ ap (with_thread_at r.machine t (live behind)) one_more);
      };
      comes = refl;
      counts = sym (set_at-twice r.counted t (r.counted t + k) (m.counted t + 1) ∙ ap (set_at r.counted t) counts);
      kept = sym (none_more r.events);
    })

-- n turns of thread t
abbrev pub turns_of : ℕ → ℕ → List ℕ
turns_of t zero = []
turns_of t (suc n) = turns_of t n ++ t ∷ []

turns_of-length : (t n : ℕ) → length (turns_of t n) ≡ n
turns_of-length t zero = refl
turns_of-length t (suc n) = let before = turns_of-length t n in let whole = length-append (turns_of t n) (t ∷ []) in omega (arith, before, whole)

turns_of-all : (t n : ℕ) → t < 256 → All (λ u. u < 256) (turns_of t n)
turns_of-all t zero below = All-nil (λ u. u < 256)
turns_of-all t (suc n) below = All-append (λ u. u < 256) (turns_of t n) (t ∷ []) (turns_of-all t n below) (All-cons (λ u. u < 256) t [] below (All-nil (λ u. u < 256)))

-- the run where thread t is at l, k silent steps later
abbrev pub run_later : {S : Type 0} → Progress S → (ℕ → Rest) → ℕ → S → ℕ → Run (Progress S)
run_later r rests t l k = record { state = later r t l k; rest = rests k }

-- the thread gets the turn of each of its first n silent steps, and what is left after each is as `rests` says
pub record KeepsTurn {S : Type 0} (code : Code S) (limits : Limits) (r : Progress S) (rests : ℕ → Rest) (t : ℕ) (from : S) (n : ℕ) : Type 0 where
  gets : (k : ℕ) (l behind : S) → k < n → quiet_step code l ≡ Some behind → IsNext (machine_turns code limits) (run_later r rests t l k) t
  leaves : (k : ℕ) (l : S) → k < n → rests (suc k) ≡ rest_after (due_of (machine_turns code limits) (run_later r rests t l k)) Other
  left : r.counted t + n ≤ limits.turns
  untraced : traced r.events ≡ None

silent_turns : {S : Type 0} (code : Code S) (limits : Limits) (r : Progress S) (rests : ℕ → Rest) (t : ℕ) (from : S) (n : ℕ) → KeepsTurn code limits r rests t from n
    → (k : ℕ) (l : S) → k ≤ n → quiet_steps code k from ≡ Some l → Follows (machine_turns code limits) (run_later r rests t from 0) (turns_of t k) (run_later r rests t l k)
silent_turns code limits r rests t from n keeps zero l within quiet =
    let same : l ≡ from = cc in ap (λ x. run_later r rests t x 0) same
silent_turns {S} code limits r rests t from n keeps (suc k) l within quiet =
    let (middle, before, step) = and_then_some (quiet_step code) (quiet_steps code k from) l quiet in
    let more : k < n = omega (arith, within) in
    let room : r.counted t + k < limits.turns = let left = keeps.left in omega (arith, left, more) in
    let turn : IsTurn (machine_turns code limits) (run_later r rests t middle k) t Other (run_later r rests t l (suc k)) = record {
      goes_on = keeps.untraced;
      gets = keeps.gets k middle l more step;
      given = silent_turn code limits r t middle l k step room;
      unspent = λ limit is. absurd (cc);
      leaves = keeps.leaves k middle more;
    } in
    go_on (Progress S) (machine_turns code limits) (run_later r rests t from 0) (run_later r rests t middle k) (run_later r rests t l (suc k)) (turns_of t k) (t ∷ [])
    (silent_turns code limits r rests t from n keeps k middle (omega (arith, within)) before) (Other, run_later r rests t l (suc k), turn, refl)

-- so a silent run of a thread that keeps its turn goes on
pub goes_silently : {S : Type 0} (code : Code S) (limits : Limits) (r new : Progress S) (rests : ℕ → Rest) (t n : ℕ) (ran : IsSilentFor code limits r t (suc n) new) → t < 256
    → KeepsTurn code limits r rests t ran.runs.from (suc n) → GoesOn code limits (record { state = r; rest = rests 0 }) (record { state = new; rest = rests (suc n) })
goes_silently {S} code limits r new rests t n ran below keeps =
    let from = ran.runs.from in
    let behind = ran.runs.behind in
    let first : later r t from 0 ≡ r = not_later r t from ran.runs.begun in
    let machine = ran.runs.leads in
    let counts = ran.counts in
    let kept = ran.kept in
    let last : new ≡ later r t behind (suc n) = λ i. record { machine = machine i; counted = counts i; events = kept i } in
    let follows = silent_turns code limits r rests t from (suc n) keeps (suc n) behind (omega arith) ran.runs.quiet in
    record {
      threads = turns_of t (suc n);
      some = let long = turns_of-length t (suc n) in omega (arith, long);
      numbers = turns_of-all t (suc n) below;
      follows = subst (λ (x : Progress S). Follows (machine_turns code limits) (record { state = r; rest = rests 0 }) (turns_of t (suc n)) (record { state = x; rest = rests (suc n) })) (sym last)
          (subst (λ (x : Progress S). Follows (machine_turns code limits) (record { state = x; rest = rests 0 }) (turns_of t (suc n)) (run_later r rests t behind (suc n))) first follows);
    }

-- The thread of a due item keeps its turn while the item has turns to give.
pub ordered_keeps : {S : Type 0} (code : Code S) (limits : Limits) (r : Progress S) (rest : Rest) (t : ℕ) (from : S) (n : ℕ) (item : OrderItem) (others : List OrderItem)
    → traced r.events ≡ None → rest.order ≡ item ∷ others → t ≡ thread_of item → CanGive n item → r.counted t + n ≤ limits.turns
    → KeepsTurn code limits r (λ k. record rest { order = order_behind k rest.order }) t from n
ordered_keeps {S} code limits r rest t from n item others untraced is mine gives left =
    let rests : ℕ → Rest = λ k. record rest { order = order_behind k rest.order } in
    let lives : (k : ℕ) (l : S) → is_live ((later r t l k).machine.now.threads t) ≡ true = λ k l. ap is_live (set_at-hit r.machine.now.threads t (live l)) in
    let shown : (k : ℕ) → order_behind k rest.order ≡ item_behind k item ∷ others = λ k. ap (order_behind k) is ∙ all_behind k item others in
    let owner : (k : ℕ) → t ≡ thread_of (item_behind k item) = λ k. mine ∙ sym (behind_thread k item) in
    let dues : (k : ℕ) (l : S) → k < n → (due_of (machine_turns code limits) (run_later r rests t l k)).order ≡ item_behind k item ∷ others = λ k l below.
    ap (due (λ u. is_live ((later r t l k).machine.now.threads u))) (shown k)
    ∙ due_stays (λ u. is_live ((later r t l k).machine.now.threads u)) (item_behind k item) others
    (record { turns = behind_turns n k item gives below; lives = subst (λ u. is_live ((later r t l k).machine.now.threads u) ≡ true) (owner k) (lives k l) }) in
    record {
      gets = λ k l behind below step. subst (λ order. GetsTurn (machine_turns code limits) (later r t l k) order rest.number t) (sym (dues k l below)) (owner k);
      leaves = λ k l below.
          let same : order_behind k rest.order ≡ due (λ u. is_live ((later r t l k).machine.now.threads u)) (order_behind k rest.order) = shown k ∙ sym (dues k l below) in
          let kept : (order : List OrderItem) → order ≡ item_behind k item ∷ others → rest.number ≡ number_after order rest.number = λ order eq. sym (ap (λ x. number_after x rest.number) eq) in
          let order = ap (λ x. order_after x Other) same in
          let number = kept (due_of (machine_turns code limits) (run_later r rests t l k)).order (dues k l below) in
          λ i. record { order = order i; number = number i };
      left = left;
      untraced = untraced;
    }

-- The lowest enabled thread keeps its turn while it is silent.
pub lowest_keeps : {S : Type 0} (code : Code S) (limits : Limits) (r : Progress S) (t : ℕ) (from : S) (n : ℕ) (picked : IsPicked (MayAdvance code r.machine) None t)
    → traced r.events ≡ None → r.machine.now.threads t ≡ live from → MayAdvance code r.machine t → r.counted t + n ≤ limits.turns
    → KeepsTurn code limits r (λ k. record { order = []; number = None }) t from n
lowest_keeps {S} code limits r t from n picked untraced begun may left = record {
  gets = λ k l behind below step.
      let same = enabled_same code r.machine t from l (r.machine.silents t + k) begun may (step_silent code l behind step) in
      record {
        threads = picked.threads;
        those = record {
          rising = picked.those.rising;
          each = λ u. (λ there. (same u).0 ((picked.those.each u).0 there), λ does. (picked.those.each u).1 ((same u).1 does));
        };
        at_place = picked.at_place;
      };
  leaves = λ k l below. refl;
  left = left;
  untraced = untraced;
}

-- who is picked is enabled
pub picked_enabled : (enabled : ℕ → Type 0) (number : Option ℕ) (t : ℕ) → IsPicked enabled number t → enabled t
picked_enabled enabled number t picked =
    let place : ℕ = place_of number (length picked.threads) in
    (picked.those.each t).0 (place, slice_get_within picked.threads place t picked.at_place, get_or_from_slice_get picked.threads place t t picked.at_place)

-- how many turns a run has left at most
abbrev pub turns_left : {S : Type 0} → Limits → Run (Progress S) → ℕ
turns_left limits run = counted_left limits.turns run.state.counted 256 + order_turns run.rest.order

counted_sum : (a b c d e f : ℕ) → a < b → c ≡ d → d ≤ e → e ≤ f → a + c < b + f
counted_sum a b c d e f less same one two = omega (arith, less, same, one, two)

order_sum : (a b c d e f : ℕ) → a ≡ b → c ≡ d → d < e → e ≤ f → a + c < b + f
order_sum a b c d e f counts same less more = omega (arith, counts, same, less, more)

one_sum : (a b c n : ℕ) → b < c → a + n ≤ b → a + suc n ≤ c
one_sum a b c n less more = omega (arith, less, more)

-- a silent step or a step is one counted turn less, and the order has no more turns
counted_less : {S : Type 0} (limits : Limits) (run : Run (Progress S)) (t : ℕ) (lives : ℕ → Bool) (counted : ℕ → ℕ) (rest : Rest) → t < 256 → run.state.counted t < limits.turns
    → counted ≡ set_at run.state.counted t (run.state.counted t + 1) → rest.order ≡ order_after (due lives run.rest.order) Other
    → counted_left limits.turns counted 256 + order_turns rest.order < turns_left limits run
counted_less limits run t lives counted rest below room counts is =
    let less = subst (λ f. counted_left limits.turns f 256 < counted_left limits.turns run.state.counted 256) (sym counts) (left_less limits.turns 256 t run.state.counted below room) in
    let dues = due_no_more lives run.rest.order in
    let others = other_no_more (due lives run.rest.order) in
    let same : order_turns rest.order ≡ order_turns (order_after (due lives run.rest.order) Other) = ap order_turns is in
    counted_sum (counted_left limits.turns counted 256) (counted_left limits.turns run.state.counted 256) (order_turns rest.order) (order_turns (order_after (due lives run.rest.order) Other)) (order_turns (due lives run.rest.order)) (order_turns run.rest.order) less same others dues

-- a turn that has to wait is one turn of the order less
blocked_turn : {S : Type 0} (code : Code S) (limits : Limits) (run : Run (Progress S)) (t : ℕ) (dues : List OrderItem) → due (λ u. is_live (run.state.machine.now.threads u)) run.rest.order ≡ dues
    → (MayAdvance code run.state.machine t → ⊥) → GetsTurn (machine_turns code limits) run.state dues run.rest.number t → order_turns (order_after dues Blocked) < order_turns dues
blocked_turn code limits run t [] is never gets = absurd (never (picked_enabled (MayAdvance code run.state.machine) (drawn run.rest.number) t gets))
blocked_turn code limits run t (item ∷ others) is never gets =
    blocked_less item others (due_first (λ u. is_live (run.state.machine.now.threads u)) run.rest.order item others is).turns

blocked_left : {S : Type 0} (code : Code S) (limits : Limits) (run next : Run (Progress S)) (t : ℕ) → next.state.counted ≡ run.state.counted → (MayAdvance code run.state.machine t → ⊥)
    → IsNext (machine_turns code limits) run t → next.rest.order ≡ order_after (due (λ u. is_live (run.state.machine.now.threads u)) run.rest.order) Blocked → turns_left limits next < turns_left limits run
blocked_left code limits run next t counts never gets is =
    let lives : ℕ → Bool = λ u. is_live (run.state.machine.now.threads u) in
    let same : counted_left limits.turns next.state.counted 256 ≡ counted_left limits.turns run.state.counted 256 = ap (λ f. counted_left limits.turns f 256) counts in
    let less = blocked_turn code limits run t (due lives run.rest.order) refl never gets in
    let dues = due_no_more lives run.rest.order in
    let order : order_turns next.rest.order ≡ order_turns (order_after (due lives run.rest.order) Blocked) = ap order_turns is in
    order_sum (counted_left limits.turns next.state.counted 256) (counted_left limits.turns run.state.counted 256) (order_turns next.rest.order) (order_turns (order_after (due lives run.rest.order) Blocked)) (order_turns (due lives run.rest.order)) (order_turns run.rest.order) same order less dues

-- what a turn leaves of the order
order_left : {S : Type 0} (code : Code S) (limits : Limits) (run next : Run (Progress S)) (t : ℕ) (end came : TurnEnd) → IsTurn (machine_turns code limits) run t end next → end ≡ came
    → next.rest.order ≡ order_after (due (λ u. is_live (run.state.machine.now.threads u)) run.rest.order) came
order_left code limits run next t end came turn is =
    ap (λ rest. rest.order) turn.leaves ∙ ap (order_after (due (λ u. is_live (run.state.machine.now.threads u)) run.rest.order)) is

-- Each turn uses up one of those that are left.
made_less : {S : Type 0} (code : Code S) (limits : Limits) (run next : Run (Progress S)) (t : ℕ) (end : TurnEnd) → t < 256 → IsTurn (machine_turns code limits) run t end next
    → (answer : Advance) → run.state.counted t < limits.turns → Advances code run.state.machine t limits answer next.state.machine → end ≡ end_of answer
    → next.state.counted ≡ counted_after t answer run.state.counted → turns_left limits next < turns_left limits run
made_less code limits run next t end below turn advance.Silent room advances comes counts =
    counted_less limits run t (λ u. is_live (run.state.machine.now.threads u)) next.state.counted next.rest below room counts (order_left code limits run next t end Other turn comes)
made_less code limits run next t end below turn (advance.Step e) room advances comes counts =
    counted_less limits run t (λ u. is_live (run.state.machine.now.threads u)) next.state.counted next.rest below room counts (order_left code limits run next t end Other turn comes)
made_less code limits run next t end below turn advance.Waits room advances comes counts =
    blocked_left code limits run next t counts (λ may. may.goes_on limits advances.0) turn.gets (order_left code limits run next t end Blocked turn comes)
made_less code limits run next t end below turn advance.Halts room advances comes counts =
    blocked_left code limits run next t counts (λ may. may.more (inr advances.0)) turn.gets (order_left code limits run next t end Blocked turn comes)
made_less code limits run next t end below turn advance.Ended room advances comes counts =
    blocked_left code limits run next t counts (λ may. may.more (inl advances.0)) turn.gets (order_left code limits run next t end Blocked turn comes)
made_less code limits run next t end below turn (advance.Spent limit) room advances comes counts = absurd (turn.unspent limit comes)

turn_less : {S : Type 0} (code : Code S) (limits : Limits) (run next : Run (Progress S)) (t : ℕ) (end : TurnEnd) → t < 256 → IsTurn (machine_turns code limits) run t end next → turns_left limits next < turns_left limits run
turn_less code limits run next t end below turn = elim turn.given [
  | inl out ↦ absurd (turn.unspent limit.Turns out.spent)
  | inr made ↦ made_less code limits run next t end below turn made.answer made.left made.advances made.comes made.counts
]

all_less : {S : Type 0} (code : Code S) (limits : Limits) (run last : Run (Progress S)) (ts : List ℕ) → All (λ t. t < 256) ts → Follows (machine_turns code limits) run ts last
    → turns_left limits last + length ts ≤ turns_left limits run
all_less code limits run last [] numbers same = let is = ap (turns_left limits) same in omega (arith, is)
all_less code limits run last (t ∷ ts) numbers (end, next, turn, after) =
    let one = turn_less code limits run next t end (numbers 0 0 (omega arith)) turn in
    let more = all_less code limits next last ts (λ k d within. numbers (suc k) d (omega (arith, within))) after in
    one_sum (turns_left limits last) (turns_left limits next) (turns_left limits run) (length ts) one more

pub goes_less : {S : Type 0} (code : Code S) (limits : Limits) (run next : Run (Progress S)) → GoesOn code limits run next → turns_left limits next < turns_left limits run
goes_less code limits run next goes =
    let less = all_less code limits run next goes.threads goes.numbers goes.follows in
    let some = goes.some in
    omega (arith, less, some)
