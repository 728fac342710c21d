-- Where no thread may advance, the events are stuck.
use Rattle.std.proofs.Common.{◌≡◌, ℕ, Some, refl, sym, subst, inl, inr}
use Rattle.op_core.specs.declared.Op.{Op}
use Rattle.op_core.specs.declared.Op.TheVariants.{Start, Join}
use Rattle.op_core.specs.declared.Next.{Next}
use Rattle.op_core.specs.declared.Next.TheVariants.{Want}
use Rattle.op_core.specs.declared.Next.TheVariants as next
use Rattle.op_core.specs.ThreadCode.{Code, quiet_steps}
use Rattle.op_core.specs.OrdinaryState.{Thread, unused, live, ended, OrdinaryState, HasEnded}
use Rattle.op_core.specs.OrdinaryStep.{IsFreeNumber, CanStep}
use Rattle.op_core.specs.Execution.{IsStuck}
use Rattle.ordinary_machine.specs.Machine.{Machine, HasBegun}
use Rattle.ordinary_machine.specs.Laws.{StandsFurther, IsFurther, IsStandstill, StandstillsAreStuck}
use Rattle.ordinary_machine.proofs.OutcomeLemmas.{Stands, one_wish, silent_or_wish, over_no_more, waiting_stands}
use Rattle.ordinary_machine.proofs.RunLemmas.{further_from, executed}

-- a thread of one kind is still of the same kind when it is further
unused_further : {S : Type 0} (code : Code S) (thread : Thread S) (n : ℕ) (now : Thread S) → StandsFurther code thread n now → thread ≡ unused → now ≡ unused
unused_further code unused n unused h is = refl
unused_further code unused n (live l) h is = absurd h
unused_further code unused n (ended x) h is = absurd h
unused_further code (live from) n now h is = cc
unused_further code (ended x) n now h is = cc

ended_further : {S : Type 0} (code : Code S) (thread : Thread S) (n : ℕ) (now : Thread S) → StandsFurther code thread n now → HasEnded thread → HasEnded now
ended_further code (ended x) n (ended y) h is = tt
ended_further code (ended x) n unused h is = absurd h
ended_further code (ended x) n (live l) h is = absurd h
ended_further code unused n now h is = absurd is
ended_further code (live from) n now h is = absurd is

-- where a live thread is when it is further
record Further {S : Type 0} (code : Code S) (from : S) (n : ℕ) (now : Thread S) : Type 0 where
  place : S
  stands : now ≡ live place
  quiet : quiet_steps code n from ≡ Some place

live_further : {S : Type 0} (code : Code S) (from : S) (n : ℕ) (now : Thread S) → StandsFurther code (live from) n now → Further code from n now
live_further code from n (live l) h = record { place = l; stands = refl; quiet = h }
live_further code from n unused h = absurd h
live_further code from n (ended x) h = absurd h

free_further : {S : Type 0} (code : Code S) (s : OrdinaryState S) (m : Machine S) → IsFurther code s m → (n : ℕ) → IsFreeNumber s.threads n → IsFreeNumber m.now.threads n
free_further code s m further n free = (free.0, free.1, unused_further code (s.threads n) (m.silents n) (m.now.threads n) (further.threads n) free.2)

can_further : {S : Type 0} (code : Code S) (s : OrdinaryState S) (m : Machine S) (t : ℕ) (op : Op) → IsFurther code s m → CanStep (record m.now { threads = s.threads }) t op → CanStep m.now t op
can_further code s m t (Start r p) further (there, inl started) = (there, inl started)
can_further code s m t (Start r p) further (there, inr (n, free)) = (there, inr (n, free_further code s m further n free))
can_further code s m t (Join r) further (there, inl none) = (there, inl none)
can_further code s m t (Join r) further (there, inr over) = let k = m.now.starts r in (there, inr (ended_further code (s.threads k) (m.silents k) (m.now.threads k) (further.threads k) over))
can_further code s m t _ further can = can

-- a thread that can't advance and isn't at its code's end wants an operation that has no step
record Held {S : Type 0} (code : Code S) (m : Machine S) (t : ℕ) (l : S) : Type 0 where
  op : Op
  wanted : code.next l ≡ Want op
  cannot : CanStep m.now t op → ⊥

held_there : {S : Type 0} (code : Code S) (m : Machine S) (t : ℕ) (l : S) → IsStandstill code m → m.now.threads t ≡ live l → Held code m t l
held_there {S} code m t l still begun = of (code.next l) refl
  where
    has_begun : HasBegun (m.now.threads t)
    has_begun = subst HasBegun (sym begun) tt

    of : (goes : Next) → code.next l ≡ goes → Held code m t l
    of next.Silent is =
        let stands : Stands code m t l next.Silent = record { begun = begun; goes_on = is } in
        absurd (still.none_advances t (record {
          begun = has_begun;
          goes_on = λ limits waits. silent_or_wish code m t l waits.place waits.op stands (waiting_stands code m t limits waits);
          more = over_no_more code m t l next.Silent (λ h. cc) stands;
        }))
    of next.Ended is = absurd (still.none_halts t (record { place = l; begun = begun; over = is }))
    of (Want op) is =
        let stands : Stands code m t l (Want op) = record { begun = begun; goes_on = is } in
        record {
          op = op;
          wanted = is;
          cannot = λ can. still.none_advances t (record {
            begun = has_begun;
            goes_on = λ limits waits. waits.cannot (subst (CanStep m.now t) (sym (one_wish code m t l waits.place op waits.op stands (waiting_stands code m t limits waits))) can);
            more = over_no_more code m t l (Want op) (λ h. cc) stands;
          });
        }

stuck_there : {S : Type 0} (code : Code S) (s : OrdinaryState S) (m : Machine S) → IsFurther code s m → IsStandstill code m → IsStuck code s
stuck_there {S} code s m further still = record {
  some_live =
      let (t, is_live) = still.some_live in
      let (l, begun) = is_live in
      let (from, stood, quiet) = further_from code (s.threads t) (m.silents t) l (subst (StandsFurther code (s.threads t) (m.silents t)) begun (further.threads t)) in (t, from, stood);
  all_blocked = λ t l stood.
      let there = live_further code l (m.silents t) (m.now.threads t) (subst (λ x. StandsFurther code x (m.silents t) (m.now.threads t)) stood (further.threads t)) in
      let held = held_there code m t there.place still there.stands in
      record {
        silent = m.silents t;
        at_op = there.place;
        op = held.op;
        quiet = there.quiet;
        wanted = held.wanted;
        cannot = λ can. held.cannot (can_further code s m t held.op further (subst (λ (x : OrdinaryState S). CanStep x t held.op) (sym further.shared) can));
      };
}

pub standstills_stuck : {S : Type 0} (code : Code S) → StandstillsAreStuck code
standstills_stuck code m last calls none runs still =
    let done = executed code m last calls none runs in (done.state, done.leads, stuck_there code done.state last done.further still)
