-- Where a run is, and how it goes on from there or ends.
use Rattle.std.proofs.Common.{◌≡◌, inl, inr, ℕ, zero, suc, ◌+◌, ◌-◌, ◌<◌, ◌≤◌, Bool, true, false, List, [], ◌∷◌, ◌++◌, length, All, Option, Some, None, IfSome, Result, Ok, Err, IfOk, slice_get, option_map, refl, sym, ◌∙◌, ap, subst, arith}
use Rattle.std.proofs.lemmas.Bool.{cases_lt}
use Rattle.std.proofs.lemmas.List.Elements.{All-cons, All-nil}
use Rattle.op_core.specs.MadeTexts.{AreMadeTexts}
use Rattle.op_core.specs.declared.Limits.{Limits}
use Rattle.op_core.specs.declared.Limit.{Limit}
use Rattle.op_core.specs.declared.NoMemory.{NoMemory}
use Rattle.op_core.specs.declared.Outcome.{Outcome}
use Rattle.op_core.specs.declared.How.{How}
use Rattle.op_core.specs.declared.How.TheVariants.{Done, Died, Stuck}
use Rattle.op_core.specs.declared.How.TheVariants as how
use Rattle.op_core.specs.ThreadCode.{Code}
use Rattle.op_core.specs.OrdinaryState.{Thread, unused, live, ended, HasEnded}
use Rattle.op_core.proofs.PointwiseLemmas.{set_at-same}
use Rattle.schedules.specs.declared.order.OrderItem.{OrderItem}
use Rattle.schedules.specs.declared.order.OrderItem.TheVariants.{Turns, Until}
use Rattle.schedules.specs.declared.order.TurnEnd.{TurnEnd}
use Rattle.schedules.specs.declared.order.TurnEnd.TheVariants.{Made, Other, Blocked, Spent}
use Rattle.schedules.specs.declared.order.Schedule.{Schedule}
use Rattle.schedules.specs.Schedule.{thread_of, drawn, place_of, due, order_after, number_after, Rest, rest_due, rest_after}
use Rattle.schedules.specs.Run.{AreThose, IsPicked, Run, due_of, GetsTurn, IsNext, IsTurn, Follows, EndsOfItself, EndsWith, EndsBy, Goes}
use Rattle.schedules.proofs.RunLemmas.{go_on}
use Rattle.ordinary_machine.specs.declared.advance.Advance.{Advance}
use Rattle.ordinary_machine.specs.declared.advance.Advance.TheVariants as advance
use Rattle.ordinary_machine.specs.Machine.{Machine, HasBegun}
use Rattle.ordinary_machine.specs.Advance.{Advances, MayAdvance}
use Rattle.ordinary_runs.specs.Turns.{Progress, traced, is_live, end_of, counted_after, events_after, IsSilentFor, machine_turns}
use Rattle.ordinary_runs.specs.ScheduledRun.{keeping_for, turns_keeping, begun_with, AreEnds, IsOutcome, CanGive, order_behind, how_at, GoesOn, GoesOnOrEnds}
use Rattle.ordinary_runs.proofs.OrderLemmas.{due_first, due_twice}
use Rattle.ordinary_runs.proofs.TurnLemmas.{ordered_keeps, lowest_keeps, goes_silently, picked_enabled, none_more}

-- no silent steps leave all as it was
pub silent_none : {S : Type 0} (code : Code S) (limits : Limits) (r new : Progress S) (t n : ℕ) → n ≤ 0 → IsSilentFor code limits r t n new → new ≡ r
silent_none code limits r new t zero none ran =
    let machine = ran.runs in
    let counted = ran.counts ∙ set_at-same r.counted t (r.counted t + 0) (omega arith) in
    let kept = ran.kept in
    λ i. record { machine = machine i; counted = counted i; events = kept i }
silent_none code limits r new t (suc n) none ran = absurd (omega (arith, none))

-- a spent turn leaves all as it was
spent_advance : {S : Type 0} (code : Code S) (limits : Limits) (r new : Progress S) (t : ℕ) (limit : Limit) (answer : Advance) → Advances code r.machine t limits answer new.machine → Spent limit ≡ end_of answer
    → new.counted ≡ counted_after t answer r.counted → new.events ≡ events_after answer r.events → new ≡ r
spent_advance code limits r new t limit advance.Silent advances comes counts kept = absurd (cc)
spent_advance code limits r new t limit (advance.Step e) advances comes counts kept = absurd (cc)
spent_advance code limits r new t limit advance.Waits advances comes counts kept = absurd (cc)
spent_advance code limits r new t limit advance.Halts advances comes counts kept = absurd (cc)
spent_advance code limits r new t limit advance.Ended advances comes counts kept = absurd (cc)
spent_advance code limits r new t limit (advance.Spent met) advances comes counts kept =
    let machine = advances.1 in
    let events = kept ∙ none_more r.events in
    λ i. record { machine = machine i; counted = counts i; events = events i }

pub spent_same : {S : Type 0} (code : Code S) (limits : Limits) (r new : Progress S) (t : ℕ) (limit : Limit) → (machine_turns code limits).gives r t (Spent limit) new → new ≡ r
spent_same code limits r new t limit (inl out) = out.same
spent_same code limits r new t limit (inr made) = spent_advance code limits r new t limit made.answer made.advances made.comes made.counts made.kept

-- Where no limit of a journal was met, a run ends as it ends of itself.
pub ends_untraced : {S : Type 0} (code : Code S) (limits : Limits) (run : Run (Progress S)) (end : How) → traced run.state.events ≡ None → EndsOfItself (machine_turns code limits) run end → EndsBy (machine_turns code limits) run end
ends_untraced code limits run end untraced ends = subst (λ met. EndsWith (machine_turns code limits) run met end) (sym untraced) ends

-- Where it was met, the run ends at it.
pub ends_traced : {S : Type 0} (code : Code S) (limits : Limits) (run : Run (Progress S)) (answer : Option How) (end : How)
    → answer ≡ option_map (λ met. how.Limit met.0 met.1) (traced run.state.events) → answer ≡ Some end → EndsBy (machine_turns code limits) run end
ends_traced code limits run answer end shown is = of (traced run.state.events) (sym is ∙ shown)
  where
    of : (met : Option (ℕ × Limit)) → Some end ≡ option_map (λ met. how.Limit met.0 met.1) met → EndsWith (machine_turns code limits) run met end
    of None e = absurd (cc)
    of (Some (t, limit)) e = cc

pub not_traced : {S : Type 0} (r : Progress S) (answer : Option How) → answer ≡ option_map (λ met. how.Limit met.0 met.1) (traced r.events) → answer ≡ None → traced r.events ≡ None
not_traced r answer shown is = of (traced r.events) (sym is ∙ shown)
  where
    of : (met : Option (ℕ × Limit)) → None ≡ option_map (λ met. how.Limit met.0 met.1) met → met ≡ None
    of None e = refl
    of (Some (t, limit)) e = absurd (cc)

-- The next turn is thread t's, and it is spent: the run ends.
spent_ends : {S : Type 0} (code : Code S) (limits : Limits) (r middle new : Progress S) (rest left : Rest) (t n : ℕ) (limit : Limit) (end : TurnEnd) → traced r.events ≡ None → n ≤ 0 → IsSilentFor code limits r t n middle
    → IsNext (machine_turns code limits) (record { state = r; rest = rest }) t → (machine_turns code limits).gives middle t end new → end ≡ Spent limit
    → GoesOnOrEnds code limits (record { state = r; rest = rest }) (Some (how.Limit t limit)) (record { state = new; rest = left })
spent_ends {S} code limits r middle new rest left t n limit end untraced none ran next given is =
    let here : (machine_turns code limits).gives r t (Spent limit) new =
    subst (λ (x : Progress S). (machine_turns code limits).gives x t (Spent limit) new) (silent_none code limits r middle t n none ran) (subst (λ e. (machine_turns code limits).gives middle t e new) is given) in
    let same = spent_same code limits r new t limit here in
    (ends_untraced code limits (record { state = r; rest = rest }) (how.Limit t limit) untraced (next, subst ((machine_turns code limits).gives r t (Spent limit)) same here), same)

-- It is another one: the run goes on.
turn_goes : {S : Type 0} (code : Code S) (limits : Limits) (r middle new : Progress S) (rest left : Rest) (t n : ℕ) (end : TurnEnd) → traced r.events ≡ None → n ≤ 0 → IsSilentFor code limits r t n middle → t < 256
    → IsNext (machine_turns code limits) (record { state = r; rest = rest }) t → (machine_turns code limits).gives middle t end new → ((limit : Limit) → end ≡ Spent limit → ⊥)
    → left ≡ rest_after (due_of (machine_turns code limits) (record { state = r; rest = rest })) end → GoesOn code limits (record { state = r; rest = rest }) (record { state = new; rest = left })
turn_goes {S} code limits r middle new rest left t n end untraced none ran below next given unspent leaves = record {
  threads = t ∷ [];
  some = omega arith;
  numbers = All-cons (λ u. u < 256) t [] below (All-nil (λ u. u < 256));
  follows = (
    end,
    record { state = new; rest = left },
    record {
      goes_on = untraced;
      gets = next;
      given = subst (λ (x : Progress S). (machine_turns code limits).gives x t end new) (silent_none code limits r middle t n none ran) given;
      unspent = unspent;
      leaves = leaves;
    },
    refl,
  );
}

-- The first item of an order of which nothing is to be dropped.
record IsFirst {S : Type 0} (r : Progress S) (rest : Rest) (t : ℕ) : Type 0 where
  item : OrderItem
  others : List OrderItem
  is : rest.order ≡ item ∷ others
  mine : t ≡ thread_of item
  dues : due (λ u. is_live (r.machine.now.threads u)) rest.order ≡ item ∷ others

first_of : {S : Type 0} (r : Progress S) (order : List OrderItem) (number : Option ℕ) (t : ℕ) → due (λ u. is_live (r.machine.now.threads u)) order ≡ order → Some t ≡ option_map thread_of (slice_get order 0)
    → IsFirst r (record { order = order; number = number }) t
first_of r [] number t kept first = absurd (cc)
first_of r (item ∷ others) number t kept first = record { item = item; others = others; is = refl; mine = cc; dues = kept }

first_item : {S : Type 0} (code : Code S) (limits : Limits) (r : Progress S) (rest : Rest) (t : ℕ) → due_of (machine_turns code limits) (record { state = r; rest = rest }) ≡ rest
    → Some t ≡ option_map thread_of (slice_get rest.order 0) → IsFirst r rest t
first_item code limits r rest t kept first = first_of r rest.order rest.number t (ap (λ x. x.order) kept) first

-- its thread gets the next turn
pub ordered_next : {S : Type 0} (code : Code S) (limits : Limits) (r : Progress S) (rest : Rest) (t : ℕ) → due_of (machine_turns code limits) (record { state = r; rest = rest }) ≡ rest
    → Some t ≡ option_map thread_of (slice_get rest.order 0) → IsNext (machine_turns code limits) (record { state = r; rest = rest }) t
ordered_next code limits r rest t kept first =
    let h = first_item code limits r rest t kept first in
    subst (λ order. GetsTurn (machine_turns code limits) r order rest.number t) (sym h.dues) h.mine

-- it is live
pub ordered_live : {S : Type 0} (code : Code S) (limits : Limits) (r middle : Progress S) (rest : Rest) (t n : ℕ) → due_of (machine_turns code limits) (record { state = r; rest = rest }) ≡ rest
    → Some t ≡ option_map thread_of (slice_get rest.order 0) → n ≤ 0 → IsSilentFor code limits r t n middle → is_live (middle.machine.now.threads t) ≡ true
ordered_live {S} code limits r middle rest t n kept first none ran =
    let h = first_item code limits r rest t kept first in
    let lives = (due_first (λ u. is_live (r.machine.now.threads u)) rest.order h.item h.others h.dues).lives in
    subst (λ (x : Progress S). is_live (x.machine.now.threads t) ≡ true) (sym (silent_none code limits r middle t n none ran))
    (subst (λ u. is_live (r.machine.now.threads u) ≡ true) (sym h.mine) lives)

fewer_turns : (n most : ℕ) (item : OrderItem) → n ≤ most → CanGive most item → CanGive n item
fewer_turns n most (Turns t m) fewer gives = omega (arith, fewer, gives)
fewer_turns n most (Until t kind) fewer gives = tt

room_for : (turns counted n : ℕ) → 0 < n → n ≤ turns - counted → counted + n ≤ turns
room_for turns counted n some left = omega (arith, some, left)

-- silent turns of an item's thread
pub ordered_silent : {S : Type 0} (code : Code S) (limits : Limits) (r new : Progress S) (rest left : Rest) (t n most : ℕ) (first : Option OrderItem) → traced r.events ≡ None → due_of (machine_turns code limits) (record { state = r; rest = rest }) ≡ rest
    → Some t ≡ option_map thread_of (slice_get rest.order 0) → t < 256 → first ≡ slice_get rest.order 0 → IfSome first (CanGive most) → n ≤ most → 0 < n → IsSilentFor code limits r t n new
    → left ≡ record rest { order = order_behind n rest.order } → GoesOn code limits (record { state = r; rest = rest }) (record { state = new; rest = left })
ordered_silent code limits r new rest left t zero most first untraced kept gets below shows gives within some ran leaves = absurd (omega (arith, some))
ordered_silent {S} code limits r new rest left t (suc n) most first untraced kept gets below shows gives within some ran leaves =
    let h = first_item code limits r rest t kept gets in
    let shown : first ≡ Some h.item = shows ∙ ap (λ order. slice_get order 0) h.is in
    let has = fewer_turns (suc n) most h.item within (subst (λ x. IfSome x (CanGive most)) shown gives) in
    subst (λ x. GoesOn code limits (record { state = r; rest = rest }) (record { state = new; rest = x })) (sym leaves)
    (goes_silently code limits r new (λ k. record rest { order = order_behind k rest.order }) t n ran below
    (ordered_keeps code limits r rest t ran.runs.from (suc n) h.item h.others untraced h.is h.mine has (room_for limits.turns (r.counted t) (suc n) some ran.left)))

pub ordered_spent : {S : Type 0} (code : Code S) (limits : Limits) (r middle new : Progress S) (rest left : Rest) (t n : ℕ) (limit : Limit) (end : TurnEnd) → traced r.events ≡ None → due_of (machine_turns code limits) (record { state = r; rest = rest }) ≡ rest
    → Some t ≡ option_map thread_of (slice_get rest.order 0) → n ≤ 0 → IsSilentFor code limits r t n middle → (machine_turns code limits).gives middle t end new → end ≡ Spent limit
    → GoesOnOrEnds code limits (record { state = r; rest = rest }) (Some (how.Limit t limit)) (record { state = new; rest = left })
ordered_spent code limits r middle new rest left t n limit end untraced kept gets none ran given is =
    spent_ends code limits r middle new rest left t n limit end untraced none ran (ordered_next code limits r rest t kept gets) given is

number_kept : (order : List OrderItem) (item : OrderItem) (others : List OrderItem) (number : Option ℕ) → order ≡ item ∷ others → number ≡ number_after order number
number_kept order item others number is = sym (ap (λ x. number_after x number) is)

pub ordered_turn : {S : Type 0} (code : Code S) (limits : Limits) (r middle new : Progress S) (rest left : Rest) (t n : ℕ) (end : TurnEnd) → traced r.events ≡ None → due_of (machine_turns code limits) (record { state = r; rest = rest }) ≡ rest
    → Some t ≡ option_map thread_of (slice_get rest.order 0) → t < 256 → n ≤ 0 → IsSilentFor code limits r t n middle → (machine_turns code limits).gives middle t end new → ((limit : Limit) → end ≡ Spent limit → ⊥)
    → left ≡ record rest { order = order_after rest.order end } → GoesOn code limits (record { state = r; rest = rest }) (record { state = new; rest = left })
ordered_turn code limits r middle new rest left t n end untraced kept gets below none ran given unspent leaves =
    let h = first_item code limits r rest t kept gets in
    let order = ap (λ x. order_after x.order end) (sym kept) in
    let number = number_kept (due (λ u. is_live (r.machine.now.threads u)) rest.order) h.item h.others rest.number h.dues in
    turn_goes code limits r middle new rest left t n end untraced none ran below (ordered_next code limits r rest t kept gets) given unspent
    (leaves ∙ (λ i. record { order = order i; number = number i }))

-- Where the order is through, the thread that is picked gets the next turn.
pub picked_next : {S : Type 0} (code : Code S) (limits : Limits) (r : Progress S) (rest : Rest) (number : Option ℕ) (t : ℕ) → rest.order ≡ [] → number ≡ drawn rest.number → IsPicked (MayAdvance code r.machine) number t
    → IsNext (machine_turns code limits) (record { state = r; rest = rest }) t
picked_next code limits r rest number t through draws picked =
    let dues : due (λ u. is_live (r.machine.now.threads u)) rest.order ≡ [] = ap (due (λ u. is_live (r.machine.now.threads u))) through in
    subst (λ order. GetsTurn (machine_turns code limits) r order rest.number t) (sym dues) (subst (λ x. IsPicked (MayAdvance code r.machine) x t) draws picked)

begun_lives : {S : Type 0} (thread : Thread S) → HasBegun thread → (HasEnded thread → ⊥) → is_live thread ≡ true
begun_lives unused begun never = absurd begun
begun_lives (live l) begun never = refl
begun_lives (ended x) begun never = absurd (never tt)

pub enabled_live : {S : Type 0} (code : Code S) (m : Machine S) (t : ℕ) → MayAdvance code m t → is_live (m.now.threads t) ≡ true
enabled_live code m t may = begun_lives (m.now.threads t) may.begun (λ over. may.more (inl over))

-- the thread at the place that the number gives is picked
pub is_picked : (enabled : ℕ → Type 0) (threads : List ℕ) (number : Option ℕ) (t : ℕ) → AreThose enabled threads → slice_get threads (place_of number (length threads)) ≡ Some t → IsPicked enabled number t
is_picked enabled threads number t those at = record { threads = threads; those = those; at_place = at }

pub picked_live : {S : Type 0} (code : Code S) (r : Progress S) (number : Option ℕ) (t : ℕ) → IsPicked (MayAdvance code r.machine) number t → is_live (r.machine.now.threads t) ≡ true
picked_live code r number t picked = enabled_live code r.machine t (picked_enabled (MayAdvance code r.machine) number t picked)

pub silent_on : {S : Type 0} (code : Code S) (limits : Limits) (r new : Progress S) (t n : ℕ) → traced r.events ≡ None → IsPicked (MayAdvance code r.machine) None t → t < 256 → 0 < n → IsSilentFor code limits r t n new
    → GoesOn code limits (record { state = r; rest = record { order = []; number = None } }) (record { state = new; rest = record { order = []; number = None } })
silent_on code limits r new t zero untraced picked below some ran = absurd (omega (arith, some))
silent_on code limits r new t (suc n) untraced picked below some ran =
    goes_silently code limits r new (λ k. record { order = []; number = None }) t n ran below
    (lowest_keeps code limits r t ran.runs.from (suc n) picked untraced ran.runs.begun (picked_enabled (MayAdvance code r.machine) None t picked) (room_for limits.turns (r.counted t) (suc n) some ran.left))

none_made : {S : Type 0} (code : Code S) (limits : Limits) (r : Progress S) (t : ℕ) → IsSilentFor code limits r t 0 r
none_made code limits r t = record { left = omega arith; runs = refl; counts = sym (set_at-same r.counted t (r.counted t + 0) (omega arith)); kept = refl }

picked_spent : {S : Type 0} (code : Code S) (limits : Limits) (r new : Progress S) (rest left : Rest) (number : Option ℕ) (t : ℕ) (limit : Limit) (end : TurnEnd) → traced r.events ≡ None → rest.order ≡ [] → number ≡ drawn rest.number
    → IsPicked (MayAdvance code r.machine) number t → (machine_turns code limits).gives r t end new → end ≡ Spent limit
    → GoesOnOrEnds code limits (record { state = r; rest = rest }) (Some (how.Limit t limit)) (record { state = new; rest = left })
picked_spent code limits r new rest left number t limit end untraced through draws picked given is =
    spent_ends code limits r r new rest left t 0 limit end untraced (omega arith) (none_made code limits r t) (picked_next code limits r rest number t through draws picked) given is

pub picked_turn : {S : Type 0} (code : Code S) (limits : Limits) (r new : Progress S) (rest left : Rest) (number : Option ℕ) (t : ℕ) (end : TurnEnd) → traced r.events ≡ None → rest.order ≡ [] → number ≡ drawn rest.number
    → IsPicked (MayAdvance code r.machine) number t → t < 256 → (machine_turns code limits).gives r t end new → ((limit : Limit) → end ≡ Spent limit → ⊥)
    → left ≡ record { order = []; number = number } → GoesOn code limits (record { state = r; rest = rest }) (record { state = new; rest = left })
picked_turn code limits r new rest left number t end untraced through draws picked below given unspent leaves =
    let lives : ℕ → Bool = λ u. is_live (r.machine.now.threads u) in
    let order : [] ≡ order_after (due lives rest.order) end = sym (ap (λ x. order_after (due lives x) end) through) in
    let numbers = draws ∙ sym (ap (λ x. number_after (due lives x) rest.number) through) in
    turn_goes code limits r r new rest left t 0 end untraced (omega arith) (none_made code limits r t) below (picked_next code limits r rest number t through draws picked) given unspent
    (leaves ∙ (λ i. record { order = order i; number = numbers i }))

-- whatever the turn of the picked thread came to
pub picked_came : {S : Type 0} (code : Code S) (limits : Limits) (r new : Progress S) (rest left : Rest) (number : Option ℕ) (t : ℕ) (end : TurnEnd) → traced r.events ≡ None → rest.order ≡ [] → number ≡ drawn rest.number
    → IsPicked (MayAdvance code r.machine) number t → t < 256 → (machine_turns code limits).gives r t end new
    → left ≡ record { order = []; number = number } → GoesOnOrEnds code limits (record { state = r; rest = rest }) (how_at t end) (record { state = new; rest = left })
picked_came code limits r new rest left number t (Spent limit) untraced through draws picked below given leaves = picked_spent code limits r new rest left number t limit (Spent limit) untraced through draws picked given refl
picked_came code limits r new rest left number t (Made kind) untraced through draws picked below given leaves = picked_turn code limits r new rest left number t (Made kind) untraced through draws picked below given (λ limit is. cc) leaves
picked_came code limits r new rest left number t Other untraced through draws picked below given leaves = picked_turn code limits r new rest left number t Other untraced through draws picked below given (λ limit is. cc) leaves
picked_came code limits r new rest left number t Blocked untraced through draws picked below given leaves = picked_turn code limits r new rest left number t Blocked untraced through draws picked below given (λ limit is. cc) leaves

-- what is left where no item is due
pub order_through : (order : List OrderItem) → None ≡ option_map thread_of (slice_get order 0) → order ≡ []
order_through [] none = refl
order_through (item ∷ order) none = absurd (cc)

-- A run goes on as it does after the first items are dropped that are to be dropped.
module _ {S : Type 0} (code : Code S) (limits : Limits) (r : Progress S) (rest : Rest) where
  abbrev lives : ℕ → Bool
  lives u = is_live (r.machine.now.threads u)

  dropped_next : (t : ℕ) → IsNext (machine_turns code limits) (record { state = r; rest = rest_due lives rest }) t → IsNext (machine_turns code limits) (record { state = r; rest = rest }) t
  dropped_next t next = subst (λ x. GetsTurn (machine_turns code limits) r x.order rest.number t) (due_twice lives rest) next

  dropped_end : (end : How) → EndsOfItself (machine_turns code limits) (record { state = r; rest = rest_due lives rest }) end → EndsOfItself (machine_turns code limits) (record { state = r; rest = rest }) end
  dropped_end Done ends = ends
  dropped_end Died ends = ends
  dropped_end Stuck ends = record { through = sym (ap (λ x. x.order) (due_twice lives rest)) ∙ ends.through; some_live = ends.some_live; none_enabled = ends.none_enabled }
  dropped_end (how.Limit t limit) ends = (dropped_next t ends.0, ends.1)

  dropped_with : (met : Option (ℕ × Limit)) (end : How) → EndsWith (machine_turns code limits) (record { state = r; rest = rest_due lives rest }) met end → EndsWith (machine_turns code limits) (record { state = r; rest = rest }) met end
  dropped_with None end ends = dropped_end end ends
  dropped_with (Some (t, limit)) end ends = ends

  dropped_ends : (end : How) → EndsBy (machine_turns code limits) (record { state = r; rest = rest_due lives rest }) end → EndsBy (machine_turns code limits) (record { state = r; rest = rest }) end
  dropped_ends end ends = dropped_with (traced r.events) end ends

  dropped_turn : (next : Run (Progress S)) (t : ℕ) (end : TurnEnd) → IsTurn (machine_turns code limits) (record { state = r; rest = rest_due lives rest }) t end next
      → IsTurn (machine_turns code limits) (record { state = r; rest = rest }) t end next
  dropped_turn next t end turn = record {
    goes_on = turn.goes_on;
    gets = dropped_next t turn.gets;
    given = turn.given;
    unspent = turn.unspent;
    leaves = turn.leaves ∙ ap (λ x. rest_after x end) (due_twice lives rest);
  }

  dropped_goes : (next : Run (Progress S)) → GoesOn code limits (record { state = r; rest = rest_due lives rest }) next → GoesOn code limits (record { state = r; rest = rest }) next
  dropped_goes next goes = of goes.threads goes.some goes.numbers goes.follows
    where
      of : (ts : List ℕ) → 0 < length ts → All (λ t. t < 256) ts → Follows (machine_turns code limits) (record { state = r; rest = rest_due lives rest }) ts next
          → GoesOn code limits (record { state = r; rest = rest }) next
      of [] some numbers follows = absurd (omega (arith, some))
      of (t ∷ ts) some numbers (end, middle, turn, later) = record { threads = t ∷ ts; some = some; numbers = numbers; follows = (end, middle, dropped_turn middle t end turn, later) }

pub dropped : {S : Type 0} (code : Code S) (limits : Limits) (r : Progress S) (rest left : Rest) (end : Option How) (next : Run (Progress S)) → left ≡ rest_due (λ u. is_live (r.machine.now.threads u)) rest
    → GoesOnOrEnds code limits (record { state = r; rest = left }) end next → GoesOnOrEnds code limits (record { state = r; rest = rest }) end next
dropped {S} code limits r rest left end next drops goes =
    of end (subst (λ x. GoesOnOrEnds code limits (record { state = r; rest = x }) end next) drops goes)
  where
    of : (end : Option How) → GoesOnOrEnds code limits (record { state = r; rest = rest_due (λ u. is_live (r.machine.now.threads u)) rest }) end next → GoesOnOrEnds code limits (record { state = r; rest = rest }) end next
    of None goes = dropped_goes code limits r rest next goes
    of (Some how) (ends, same) = (dropped_ends code limits r rest how ends, same)

-- no thread of a number above the highest has begun
pub begun_within : {S : Type 0} (threads : ℕ → Thread S) (highest t : ℕ) → ((k : ℕ) → highest < k → threads k ≡ unused) → HasBegun (threads t) → t < highest + 1
begun_within threads highest t above begun = elim (cases_lt t (highest + 1)) [
  | inl below ↦ below
  | inr past ↦ absurd (subst HasBegun (above t (omega (arith, past))) begun)
]

-- what a run that has ended comes to
pub outcome_of : {S : Type 0} (code : Code S) (m : Machine S) (schedule : Schedule) (limits : Limits) (keeps : Bool) (run next : Run (Progress S)) (end : How) (result : Result Outcome NoMemory)
    → ((ts : List ℕ) × Follows (machine_turns code limits) (begun_with m schedule (keeping_for keeps)) ts run) → EndsBy (machine_turns code limits) run end → next.state ≡ run.state
    → IfOk result (λ o. o.how ≡ end) → IfOk result (λ o. o.lines ≡ next.state.machine.now.lines) → IfOk result (λ o. AreEnds next.state.machine.now o.ends)
    → IfOk result (λ o. o.opened ≡ 0) → IfOk result (λ o. o.undone ≡ 0) → IfOk result (λ o. o.events ≡ next.state.events)
    → IfOk result (λ o. o.undos ≡ option_map (λ _. []) next.state.events) → IfOk result (λ o. AreMadeTexts next.state.machine.now o.lines o.made)
    → IfOk result (IsOutcome code m schedule limits (keeping_for keeps))
outcome_of code m schedule limits keeps run next end (Err e) (ts, follows) ends same how lines all opened undone events undos made = tt
outcome_of {S} code m schedule limits keeps run next end (Ok o) (ts, follows) ends same how lines all opened undone events undos made = record {
  threads = ts;
  last = run;
  goes = of keeps follows (subst (EndsBy (machine_turns code limits) run) (sym how) ends);
  lines = lines ∙ ap (λ (r : Progress S). r.machine.now.lines) same;
  ends = subst (λ (r : Progress S). AreEnds r.machine.now o.ends) same all;
  opened = opened;
  undone = undone;
  events = events ∙ ap (λ (r : Progress S). r.events) same;
  undos = undos ∙ ap (λ (r : Progress S). option_map (λ _. []) r.events) same;
  made = subst (λ (r : Progress S). AreMadeTexts r.machine.now o.lines o.made) same made;
}
  where
    of : (b : Bool) → Follows (machine_turns code limits) (begun_with m schedule (keeping_for b)) ts run → EndsBy (machine_turns code limits) run o.how
        → Goes (turns_keeping code limits (keeping_for b)) (begun_with m schedule (keeping_for b)) ts o.how run
    of true follows ends = (follows, ends)
    of false follows ends = (follows, ends)

-- some turns after others
pub goes_further : {S : Type 0} (code : Code S) (limits : Limits) (first run next : Run (Progress S)) → ((ts : List ℕ) × Follows (machine_turns code limits) first ts run) → GoesOn code limits run next
    → (ts : List ℕ) × Follows (machine_turns code limits) first ts next
goes_further {S} code limits first run next (ts, follows) goes =
    (ts ++ goes.threads, go_on (Progress S) (machine_turns code limits) first run next ts goes.threads follows goes.follows)
