-- Acts in which threads move in a given order lead on.
use Rattle.std.proofs.Common.{◌≡◌, ℕ, suc, ◌+◌, Option, None, Some, List, [], ◌∷◌, refl, sym, ◌∙◌, ap, subst, arith}
use Rattle.std.specs.Option.{option_map_or}
use Rattle.op_core.specs.ThreadCode.{Code, quiet_step}
use Rattle.op_core.specs.OrdinaryState.{set_at}
use Rattle.step_port.specs.Words.{answer_of}
use Rattle.thread_automaton.specs.declared.Bounds.{Bounds}
use Rattle.thread_automaton.specs.declared.Move.{Move}
use Rattle.thread_automaton.specs.declared.Move.TheVariants.{Quiet, Make}
use Rattle.thread_automaton.specs.ThreadState.{ThreadState}
use Rattle.thread_automaton.specs.NextMove.{next_move}
use Rattle.thread_automaton.specs.Told.{after_quiet}
use Rattle.core_runs.specs.Cores.{Core, core_after}
use Rattle.core_runs.specs.Acts.{ActAt, ActFrom}
use Rattle.word_runs.specs.Moves.{Moved, moved_quietly, moved_by, moved_from, moved, or_later, acts_in, core_in}

module _ {S : Type 0} (code : Code S) (b : Bounds) where
  -- the cores from number k on, where one is c
  abbrev GoOn : (ℕ → Core S) → ℕ → Core S → List ℕ → Type 0
  GoOn cores k c order = (n : ℕ) → cores (k + n) ≡ core_in code b k c order n

  module _ (cores : ℕ → Core S) (k : ℕ) (c : Core S) (t : ℕ) (here : cores k ≡ c) where
    abbrev IsAct : Moved S → Type 0
    IsAct m = cores (suc k) ≡ m.core → ActAt code b cores k m.act

    quietly_acts : (th : ThreadState S) → c.threads t ≡ Some th → next_move code b th ≡ Quiet → (o : Option S) → quiet_step code th.local ≡ o
        → (m : Moved S) → moved_quietly c t th o ≡ Some m → IsAct m
    quietly_acts th at move None step m is next = absurd cc
    quietly_acts th at move (Some l) step m is next =
        let same = moved_same is in
        subst (λ (x : Moved S). ActAt code b cores k x.act) same (record {
          from = th;
          local = l;
          stands = ap (λ (x : Core S). x.threads t) here ∙ at;
          move = move;
          step = step;
          leads = next ∙ ap (λ (x : Moved S). x.core) (sym same) ∙ ap (λ (x : Core S). record x { threads = set_at x.threads t (Some (after_quiet th l)) }) (sym here);
        })
      where
        moved_same : {x y : Moved S} → Some x ≡ Some y → x ≡ y
        moved_same {x} {y} is = ap (λ o. option_map_or (λ z. z) o x) is

    by_move : (th : ThreadState S) → c.threads t ≡ Some th → (move : Move) → next_move code b th ≡ move → (m : Moved S) → moved_by code b k c t th move ≡ Some m → IsAct m
    by_move th at Quiet move m is next = quietly_acts th at move (quiet_step code th.local) refl m is next
    by_move th at (Make step) move m is next =
        let same = moved_same is in
        subst (λ (x : Moved S). ActAt code b cores k x.act) same (record {
          from = th;
          stands = ap (λ (x : Core S). x.threads t) here ∙ at;
          move = move;
          answered = ap (λ (x : Core S). answer_of x.words step) (sym here);
          leads = next ∙ ap (λ (x : Moved S). x.core) (sym same) ∙ ap (λ (x : Core S). core_after code b k x t th step (answer_of c.words step)) (sym here);
        })
      where
        moved_same : {x y : Moved S} → Some x ≡ Some y → x ≡ y
        moved_same {x} {y} is = ap (λ o. option_map_or (λ z. z) o x) is
    by_move th at move other m is next = absurd cc

    moves_act : (m : Moved S) → moved code b k c t ≡ Some m → IsAct m
    moves_act m is = by_thread (c.threads t) refl is
      where
        by_thread : (o : Option (ThreadState S)) → c.threads t ≡ o → moved_from code b k c t o ≡ Some m → IsAct m
        by_thread None at none = absurd cc
        by_thread (Some th) at is = by_move th at (next_move code b th) refl m is

  core_first : (order : List ℕ) (k : ℕ) (c : Core S) → core_in code b k c order 0 ≡ c
  core_first [] k c = refl
  core_first (t ∷ order) k c = by_moved (moved code b k c t) (core_first order k c)
    where
      by_moved : (o : Option (Moved S)) → core_in code b k c order 0 ≡ c → option_map_or (λ m. or_later c (core_in code b (suc k) m.core order) 0) o (core_in code b k c order 0) ≡ c
      by_moved None later = later
      by_moved (Some m) later = refl

  lead_on : (cores : ℕ → Core S) (order : List ℕ) (k : ℕ) (c : Core S) → GoOn cores k c order → ActFrom code b cores k (acts_in code b k c order)
  lead_on cores [] k c same = tt
  lead_on cores (t ∷ order) k c same = by_moved (moved code b k c t) refl (lead_on cores order)
    where
      plus_zero : (k : ℕ) → k ≡ k + 0
      plus_zero k = omega arith

      plus_one : (k n : ℕ) → suc k + n ≡ k + suc n
      plus_one k n = omega arith

      by_moved : (o : Option (Moved S)) → moved code b k c t ≡ o → ((k : ℕ) (c : Core S) → GoOn cores k c order → ActFrom code b cores k (acts_in code b k c order))
          → ActFrom code b cores k (option_map_or (λ m. m.act ∷ acts_in code b (suc k) m.core order) o (acts_in code b k c order))
      by_moved None is later = later k c (λ n. same n ∙ ap (λ o. option_map_or (λ m. or_later c (core_in code b (suc k) m.core order) n) o (core_in code b k c order n)) is)
      by_moved (Some m) is later = (
        moves_act cores k c t (ap cores (plus_zero k) ∙ at 0) m is (ap cores (plus_zero (suc k) ∙ plus_one k 0) ∙ at 1 ∙ core_first order (suc k) m.core),
        later (suc k) m.core (λ n. ap cores (plus_one k n) ∙ at (suc n)),
      )
        where
          at : (n : ℕ) → cores (k + n) ≡ or_later c (core_in code b (suc k) m.core order) n
          at n = same n ∙ ap (λ o. option_map_or (λ x. or_later c (core_in code b (suc k) x.core order) n) o (core_in code b k c order n)) is

pub leads_in : {S : Type 0} (code : Code S) (b : Bounds) (c : Core S) (order : List ℕ) → ActFrom code b (core_in code b 0 c order) 0 (acts_in code b 0 c order)
leads_in code b c order = lead_on code b (core_in code b 0 c order) order 0 c (λ n. ap (core_in code b 0 c order) (zero_plus n))
  where
    zero_plus : (n : ℕ) → 0 + n ≡ n
    zero_plus n = omega arith

pub begins_in : {S : Type 0} (code : Code S) (b : Bounds) (c : Core S) (order : List ℕ) → core_in code b 0 c order 0 ≡ c
begins_in code b c order = core_first code b order 0 c
