-- A toy thread keeps its steps in each turn.
use Rattle.std.proofs.Common.{◌≡◌, ℕ, zero, suc, Bool, true, false, if◌then◌else◌, Option, None, Some, List, [], ◌∷◌, drop, refl, sym, ◌∙◌, ap, subst}
use Rattle.op_core.specs.declared.Next.{Next}
use Rattle.op_core.specs.declared.Next.TheVariants.{Silent, Want, Ended}
use Rattle.op_core.specs.declared.Reply.{Reply}
use Rattle.op_core.specs.ThreadCode.{quiet_to, quiet_step}
use Rattle.step_port.specs.declared.answer.StepAnswer.{StepAnswer}
use Rattle.step_port.specs.declared.step.Step.{Step}
use Rattle.thread_automaton.specs.declared.Bounds.{Bounds}
use Rattle.thread_automaton.specs.ThreadState.{ThreadState, is_open, inside, nth_or}
use Rattle.thread_automaton.specs.Changes.{Change, goes, has_to_wait, replies, sees_pinned, knows, writes, opens, opens_level, closes_to, takes, deepens, drops, closes, waits, prints, puts_back, sets_back, gives_back, goes_back, ends, forgotten, changed}
use Rattle.thread_automaton.specs.Answers.{change_of}
use Rattle.thread_automaton.specs.Told.{Told, probed, advanced, born, lost, blocked, told, counted_for, after_answer, after_quiet}
use Rattle.toy_code.specs.declared.script.ToyStep.{ToyStep}
use Rattle.toy_code.specs.Toy.{ToyState, toy_code}
use Rattle.turn_runs.specs.Turns.{TurnMove, silent, made, Turns}

module _ (steps : List ToyStep) where
  abbrev pub AllHave : List ToyState → Type 0
  AllHave [] = Unit {0}
  AllHave (l ∷ ls) = (l.steps ≡ steps) × AllHave ls

  -- the thread makes these steps, also from where it goes back to
  pub record Makes (th : ThreadState ToyState) : Type 0 where
    pub local : th.local.steps ≡ steps
    pub saved : AllHave th.saved

  dropped : (n : ℕ) (ls : List ToyState) → AllHave ls → AllHave (drop n ls)
  dropped zero ls have = have
  dropped (suc n) [] have = tt
  dropped (suc n) (l ∷ ls) have = dropped n ls have.1

  picked : (ls : List ToyState) (n : ℕ) (l : ToyState) → l.steps ≡ steps → AllHave ls → (nth_or l n ls).steps ≡ steps
  picked [] n l is have = is
  picked (m ∷ ls) zero l is have = have.0
  picked (m ∷ ls) (suc n) l is have = picked ls n l is have.1

  by_test : (test : Bool) (x y : ThreadState ToyState) → Makes x → Makes y → Makes (if test then x else y)
  by_test true x y one two = one
  by_test false x y one two = two

  forgets : (th : ThreadState ToyState) → Makes th → Makes (forgotten th)
  forgets th makes = by_test (is_open th) th (record th { log = []; saved = []; marks = [] }) makes (record { local = makes.local; saved = tt })

  changes : (th : ThreadState ToyState) (change : Change) → Makes th → Makes (changed toy_code th change)
  changes th (goes attempt) makes = record { local = makes.local; saved = makes.saved }
  changes th (has_to_wait why) makes = record { local = makes.local; saved = makes.saved }
  changes th (replies reply) makes = record { local = makes.local; saved = makes.saved }
  changes th (sees_pinned depth attempt) makes = forgets _ (record { local = makes.local; saved = makes.saved })
  changes th (knows s depth) makes = record { local = makes.local; saved = makes.saved }
  changes th (writes log) makes = record { local = makes.local; saved = makes.saved }
  changes th (opens s attempt) makes = record { local = makes.local; saved = (makes.local, makes.saved) }
  changes th (opens_level attempt) makes = forgets _ (record { local = makes.local; saved = (makes.local, makes.saved) })
  changes th (closes_to n attempt) makes = forgets _ (record { local = makes.local; saved = dropped (inside th n) th.saved makes.saved })
  changes th (takes h) makes = record { local = makes.local; saved = makes.saved }
  changes th (deepens r depth) makes = record { local = makes.local; saved = makes.saved }
  changes th (drops held) makes = record { local = makes.local; saved = makes.saved }
  changes th closes makes = forgets _ (record { local = makes.local; saved = dropped (inside th 0) th.saved makes.saved })
  changes th (waits r) makes = record { local = makes.local; saved = makes.saved }
  changes th (prints ticket line) makes = record { local = makes.local; saved = makes.saved }
  changes th puts_back makes = record { local = makes.local; saved = makes.saved }
  changes th (sets_back r depth) makes = record { local = makes.local; saved = makes.saved }
  changes th (gives_back r) makes = record { local = makes.local; saved = makes.saved }
  changes th (goes_back n) makes = forgets _ (record { local = picked th.saved (inside th n) th.local makes.local makes.saved; saved = dropped (suc (inside th n)) th.saved makes.saved })
  changes th ends makes = record { local = makes.local; saved = makes.saved }

  counts : (tells : Told) (th : ThreadState ToyState) → Makes th → Makes (counted_for tells th)
  counts probed th makes = makes
  counts (advanced None) th makes = record { local = makes.local; saved = makes.saved }
  counts (advanced (Some reply)) th makes = record { local = makes.local; saved = makes.saved }
  counts born th makes = record { local = makes.local; saved = makes.saved }
  counts (lost v) th makes = makes
  counts (blocked why) th makes = makes

  kept_if : (test : Bool) (l m : ToyState) → (if test then Some l else None) ≡ Some m → m.steps ≡ l.steps
  kept_if true l m is = cc
  kept_if false l m is = absurd cc

  kept_to : (next : Next) (l m : ToyState) → quiet_to toy_code l next ≡ Some m → m.steps ≡ l.steps
  kept_to Silent l m is = kept_if _ l m is
  kept_to (Want op) l m is = absurd cc
  kept_to Ended l m is = absurd cc

  -- along its turns
  pub each_turn : {P : Type 0} (b : Bounds) (stepped : P → Step → StepAnswer → P → Type 0) (last : ThreadState ToyState) (y : P) (moves : List TurnMove)
      (th : ThreadState ToyState) (x : P) → Turns toy_code b stepped th x moves last y → Makes th → Makes last
  each_turn b stepped last y [] th x turns makes = subst Makes (sym turns.0) makes
  each_turn b stepped last y (silent ∷ moves) th x (l, is, quiet, turns) makes =
      each_turn b stepped last y moves (after_quiet th l) x turns
      (record { local = kept_to (toy_code.next th.local) (toy_code.silent th.local) l quiet ∙ makes.local; saved = makes.saved })
  each_turn b stepped last y (made next step answer tells ∷ moves) th x (z, wants, is, stepped_to, can, tells_is, turns) makes =
      each_turn b stepped last y moves (after_answer toy_code b th step answer) z turns
      (counts (told toy_code b th step answer) (changed toy_code th (change_of toy_code b th (toy_code.next th.local) step answer))
      (changes th (change_of toy_code b th (toy_code.next th.local) step answer) makes))
