-- The threads for which a fact holds, listed one number after another, and how threads have ended.
use Rattle.std.proofs.Common.{◌≡◌, inl, inr, ℕ, suc, ◌+◌, ◌<◌, ◌≤◌, false, List, [], ◌∷◌, ◌++◌, map, All, None, refl, sym, ◌∙◌, ap, subst, arith}
use Rattle.std.proofs.lemmas.Bool.{cases_lt}
use Rattle.std.proofs.lemmas.List.{map-append}
use Rattle.std.proofs.lemmas.List.Elements.{All-append, All-cons, All-nil}
use Rattle.std.proofs.lemmas.List.Kept.{AllPairs-from_increasing}
use Rattle.op_core.specs.declared.ThreadEnd.{ThreadEnd}
use Rattle.op_core.specs.OrdinaryState.{Thread, unused, ended, OrdinaryState, HasEnded}
use Rattle.schedules.specs.Run.{TurnSystem, AreThose}
use Rattle.schedules.specs.Laws.{AreThoseBelow, ThreadsAreListed}
use Rattle.schedules.proofs.ListLemmas.{threads_listed}
use Rattle.schedules.proofs.RunLemmas.{one_list}
use Rattle.ordinary_runs.specs.ScheduledRun.{AreEnds}

-- what gives no turns, and enables the threads of the fact
abbrev enabling : (ℕ → Type 0) → TurnSystem (Unit {0})
enabling fact = record {
  live = λ r t. false;
  enabled = λ r t. fact t;
  ended = λ r t x. ⊥;
  gives = λ r t end new. ⊥;
  stopped = λ r. None;
}

listed : (fact : ℕ → Type 0) → ThreadsAreListed (enabling fact)
listed fact = threads_listed (Unit {0}) (enabling fact)

pub none_listed : (fact : ℕ → Type 0) → AreThoseBelow fact 0 []
none_listed fact = (listed fact).none tt

pub one_more_listed : (fact : ℕ → Type 0) (n : ℕ) (ts : List ℕ) → AreThoseBelow fact n ts → fact n → AreThoseBelow fact (n + 1) (ts ++ n ∷ [])
one_more_listed fact n ts those holds = (listed fact).one_more tt n ts those holds

pub no_more_listed : (fact : ℕ → Type 0) (n : ℕ) (ts : List ℕ) → AreThoseBelow fact n ts → (fact n → ⊥) → AreThoseBelow fact (n + 1) ts
no_more_listed fact n ts those never = (listed fact).no_more tt n ts those never

pub all_listed : (fact : ℕ → Type 0) (n : ℕ) (ts : List ℕ) → AreThoseBelow fact n ts → ((t : ℕ) → fact t → t < n) → AreThose fact ts
all_listed fact n ts those within = (listed fact).all tt n ts those within

one_those : (fact : ℕ → Type 0) (ts us : List ℕ) → AreThose fact ts → AreThose fact us → us ≡ ts
one_those fact ts us those them = one_list ts us
    (AllPairs-from_increasing ts those.rising) (AllPairs-from_increasing us them.rising)
    (λ t there. (them.each t).1 ((those.each t).0 there))
    (λ t there. (those.each t).1 ((them.each t).0 there))

-- the numbers of the threads that have ended decide how each of them ended
abbrev numbers_of : List ThreadEnd → List ℕ
numbers_of ends = map (λ end. end.thread) ends

abbrev IsEndIn : {S : Type 0} → (ℕ → Thread S) → ThreadEnd → Type 0
IsEndIn threads end = threads end.thread ≡ ended end.class

one_end : {S : Type 0} (threads : ℕ → Thread S) (x y : ThreadEnd) → y.thread ≡ x.thread → IsEndIn threads x → IsEndIn threads y → y ≡ x
one_end {S} threads x y same one other =
    let there : threads y.thread ≡ threads x.thread = ap threads same in
    let classes : y.class ≡ x.class = cc in
    λ i. record { thread = same i; class = classes i }

all_ends : {S : Type 0} (threads : ℕ → Thread S) (xs ys : List ThreadEnd) → numbers_of ys ≡ numbers_of xs → All (IsEndIn threads) xs → All (IsEndIn threads) ys → ys ≡ xs
all_ends threads [] [] same one other = refl
all_ends threads [] (y ∷ ys) same one other = absurd (cc)
all_ends threads (x ∷ xs) [] same one other = absurd (cc)
all_ends threads (x ∷ xs) (y ∷ ys) same one other =
    let heads : y.thread ≡ x.thread = cc in
    let tails : numbers_of ys ≡ numbers_of xs = cc in
    let first = one_end threads x y heads (one 0 x (omega arith)) (other 0 y (omega arith)) in
    let later = all_ends threads xs ys tails (λ k d within. one (suc k) d (omega (arith, within))) (λ k d within. other (suc k) d (omega (arith, within))) in
    λ i. first i ∷ later i

pub ends_one : {S : Type 0} (s : OrdinaryState S) (xs ys : List ThreadEnd) → AreEnds s xs → AreEnds s ys → ys ≡ xs
ends_one s xs ys one other =
    all_ends s.threads xs ys (one_those (λ t. HasEnded (s.threads t)) (numbers_of xs) (numbers_of ys) one.threads other.threads) one.classes other.classes

-- the ends of the threads below a number
pub record AreEndsBelow {S : Type 0} (s : OrdinaryState S) (n : ℕ) (ends : List ThreadEnd) : Type 0 where
  pub threads : AreThoseBelow (λ t. HasEnded (s.threads t)) n (numbers_of ends)
  pub classes : All (IsEndIn s.threads) ends

pub no_ends : {S : Type 0} (s : OrdinaryState S) → AreEndsBelow s 0 []
no_ends s = record { threads = none_listed (λ t. HasEnded (s.threads t)); classes = All-nil (IsEndIn s.threads) }

pub one_more_end : {S : Type 0} (s : OrdinaryState S) (n : ℕ) (ends : List ThreadEnd) (end : ThreadEnd) → AreEndsBelow s n ends → end.thread ≡ n → s.threads n ≡ ended end.class → AreEndsBelow s (n + 1) (ends ++ end ∷ [])
one_more_end s n ends end those mine is = record {
  threads = subst (AreThoseBelow (λ t. HasEnded (s.threads t)) (n + 1)) (ap (λ k. numbers_of ends ++ k ∷ []) (sym mine) ∙ sym (map-append (λ e. e.thread) ends (end ∷ [])))
      (one_more_listed (λ t. HasEnded (s.threads t)) n (numbers_of ends) those.threads (subst HasEnded (sym is) tt));
  classes = All-append (IsEndIn s.threads) ends (end ∷ []) those.classes (All-cons (IsEndIn s.threads) end [] (ap s.threads mine ∙ is) (All-nil (IsEndIn s.threads)));
}

pub no_more_ends : {S : Type 0} (s : OrdinaryState S) (n : ℕ) (ends : List ThreadEnd) → AreEndsBelow s n ends → (HasEnded (s.threads n) → ⊥) → AreEndsBelow s (n + 1) ends
no_more_ends s n ends those never = record { threads = no_more_listed (λ t. HasEnded (s.threads t)) n (numbers_of ends) those.threads never; classes = those.classes }

-- no thread of a number above the highest has ended
ended_within : {S : Type 0} (s : OrdinaryState S) (n : ℕ) → ((k : ℕ) → n ≤ k → s.threads k ≡ unused) → (t : ℕ) → HasEnded (s.threads t) → t < n
ended_within s n above t over = elim (cases_lt t n) [
  | inl below ↦ below
  | inr past ↦ absurd (subst HasEnded (above t past) over)
]

pub all_ended : {S : Type 0} (s : OrdinaryState S) (n : ℕ) (ends : List ThreadEnd) → AreEndsBelow s n ends → ((k : ℕ) → n ≤ k → s.threads k ≡ unused) → AreEnds s ends
all_ended s n ends those above = record { threads = all_listed (λ t. HasEnded (s.threads t)) n (numbers_of ends) those.threads (ended_within s n above); classes = those.classes }
