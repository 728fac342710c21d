-- Silent moves of a thread at the end of a run act by act, and two ways along the same silent moves.
use Rattle.std.proofs.Common.{◌≡◌, ◌⊎◌, inl, inr, ℕ, zero, suc, ◌+◌, ◌≤◌, Bool, true, false, None, Some, List, [], ◌∷◌, ◌++◌, length, nat_eq, refl, sym, ◌∙◌, ap, subst, arith}
use Rattle.std.specs.Prelude.{nat_le, if◌then◌else◌}
use Rattle.std.proofs.lemmas.Grind.{common_steps}
use Rattle.std.proofs.lemmas.Bool.Decides.{nat_tests}
use Rattle.std.proofs.lemmas.Option.{same_Some}
use Rattle.op_core.specs.ThreadCode.{Code, quiet_step}
use Rattle.op_core.specs.OrdinaryState.{set_at}
use Rattle.op_core.proofs.PointwiseLemmas.{set_at-hit}
use Rattle.step_port.specs.Words.{Words, answer_of, words_after}
use Rattle.thread_automaton.specs.declared.Bounds.{Bounds}
use Rattle.thread_automaton.specs.declared.Move.TheVariants.{Quiet}
use Rattle.thread_automaton.specs.ThreadState.{ThreadState}
use Rattle.thread_automaton.specs.NextMove.{next_move}
use Rattle.thread_automaton.specs.Told.{after_quiet}
use Rattle.core_runs.specs.OwnParts.{Quietly}
use Rattle.core_runs.specs.Cores.{Core, core_after}
use Rattle.core_runs.specs.Acts.{Act, quiet, did, beside, ActAt, ActFrom}
use Rattle.section_laws.specs.NextSteps.{next_quiet}
use Rattle.section_laws.proofs.run_parts.NextStepLemmas.{quiet_front}

module _ {S : Type 0} (code : Code S) (b : Bounds) where
  -- of two ways along silent moves from the same state one goes on from where the other ends
  pub data Apart (y z : ThreadState S) : Type 0 where
    later : (d : ℕ) → Quietly code b d y z → Apart y z
    earlier : (d : ℕ) → Quietly code b (suc d) z y → Apart y z

  pub ways : (n m : ℕ) (x y z : ThreadState S) → Quietly code b n x y → Quietly code b m x z → Apart y z
  ways zero m x y z one two = later m (subst (λ v. Quietly code b m v z) one two)
  ways (suc n) zero x y z one two = earlier n (subst (λ v. Quietly code b (suc n) v y) two one)
  ways (suc n) (suc m) x y z one two =
      let f = quiet_front code b n x y one in
      let g = quiet_front code b m x z two in
      let same : g.0 ≡ f.0 = same_Some g.0 f.0 (sym g.1 ∙ f.1) in
      ways n m f.0 y z f.2 (subst (λ v. Quietly code b m v z) same g.2)

  abbrev extended : (ℕ → Core S) → ℕ → Core S → ℕ → Core S
  extended c n d k = if nat_le k n then c k else d

  up_to : (c : ℕ → Core S) (n : ℕ) (d : Core S) (k : ℕ) → k ≤ n → extended c n d k ≡ c k
  up_to c n d k within = ap (λ t. if t then c k else d) (low k n within)
    where
      low : (k n : ℕ) → k ≤ n → nat_le k n ≡ true
      low k n within = grind (arith, common_steps, nat_tests)

  beyond : (c : ℕ → Core S) (n : ℕ) (d : Core S) → extended c n d (suc n) ≡ d
  beyond c n d = ap (λ t. if t then c (suc n) else d) (high n)
    where
      high : (n : ℕ) → nat_le (suc n) n ≡ false
      high n = grind (arith, common_steps, nat_tests)

  act_same : (c e : ℕ → Core S) (k : ℕ) (x : Act) → c k ≡ e k → c (suc k) ≡ e (suc k) → ActAt code b c k x → ActAt code b e k x
  act_same c e k (quiet t) same next at = record {
    from = at.from;
    local = at.local;
    stands = ap (λ z. z.threads t) (sym same) ∙ at.stands;
    move = at.move;
    step = at.step;
    leads = sym next ∙ at.leads ∙ ap (λ (z : Core S). record z { threads = set_at z.threads t (Some (after_quiet at.from at.local)) }) same;
  }
  act_same c e k (did t step a) same next at = record {
    from = at.from;
    stands = ap (λ z. z.threads t) (sym same) ∙ at.stands;
    move = at.move;
    answered = at.answered ∙ ap (λ z. answer_of z.words step) same;
    leads = sym next ∙ at.leads ∙ ap (λ z. core_after code b k z t at.from step a) same;
  }
  act_same c e k (beside t step a) same next at = record {
    is = at.is;
    answered = at.answered ∙ ap (λ z. answer_of z.words step) same;
    leads = sym next ∙ at.leads ∙ ap (λ (z : Core S). record z { words = words_after step z.words }) same;
  }

  -- the acts, and one more after them
  one_more : (c e : ℕ → Core S) (acts : List Act) (k : ℕ) (x : Act) → ((j : ℕ) → k ≤ j → j ≤ k + length acts → c j ≡ e j) → ActAt code b e (k + length acts) x → ActFrom code b c k acts
      → ActFrom code b e k (acts ++ x ∷ [])
  one_more c e [] k x same at leads = (subst (λ n. ActAt code b e n x) (omega arith) at, tt)
  one_more c e (y ∷ acts) k x same at leads = (
    act_same c e k y (same k (omega arith) (omega arith)) (same (suc k) (omega arith) (omega arith)) leads.0,
    one_more c e acts (suc k) x (λ j from to. same j (omega (arith, from)) (omega (arith, to))) (subst (λ n. ActAt code b e n x) (omega arith) at) leads.1,
  )

  -- A run from this core, at whose end thread t is th and the words are these.
  pub record EndsWith (first : Core S) (w : Words) (t : ℕ) (th : ThreadState S) : Type 0 where
    pub cores : ℕ → Core S
    pub acts : List Act
    pub starts : cores 0 ≡ first
    pub leads : ActFrom code b cores 0 acts
    pub words : (cores (length acts)).words ≡ w
    pub stands : (cores (length acts)).threads t ≡ Some th

  one_longer : (xs : List Act) (x : Act) → length (xs ++ x ∷ []) ≡ suc (length xs)
  one_longer [] x = refl
  one_longer (y ∷ xs) x = ap suc (one_longer xs x)

  goes_quiet : (first : Core S) (words : Words) (t : ℕ) (z : ThreadState S) (l : S) → next_move code b z ≡ Quiet → quiet_step code z.local ≡ Some l → EndsWith first words t z
      → EndsWith first words t (after_quiet z l)
  goes_quiet first words t z l move step at = record {
    cores = next;
    acts = at.acts ++ quiet t ∷ [];
    starts = up_to at.cores n d 0 (omega arith) ∙ at.starts;
    leads = one_more at.cores next at.acts 0 (quiet t) (λ j from to. sym (up_to at.cores n d j (omega (arith, to)))) (subst (λ m. ActAt code b next m (quiet t)) (omega arith) act) at.leads;
    words = ap (λ m. (next m).words) (one_longer at.acts (quiet t)) ∙ ap (λ (x : Core S). x.words) (beyond at.cores n d) ∙ at.words;
    stands = ap (λ m. (next m).threads t) (one_longer at.acts (quiet t)) ∙ ap (λ (x : Core S). x.threads t) (beyond at.cores n d) ∙ set_at-hit (at.cores n).threads t (Some (after_quiet z l));
  }
    where
      n : ℕ
      n = length at.acts

      d : Core S
      d = record (at.cores (length at.acts)) { threads = set_at (at.cores (length at.acts)).threads t (Some (after_quiet z l)) }

      next : ℕ → Core S
      next = extended at.cores (length at.acts) (record (at.cores (length at.acts)) { threads = set_at (at.cores (length at.acts)).threads t (Some (after_quiet z l)) })

      act : ActAt code b next (length at.acts) (quiet t)
      act = record {
        from = z;
        local = l;
        stands = ap (λ (x : Core S). x.threads t) (up_to at.cores (length at.acts) d (length at.acts) (omega arith)) ∙ at.stands;
        move = move;
        step = step;
        leads = beyond at.cores (length at.acts) d
            ∙ ap (λ (x : Core S). record x { threads = set_at x.threads t (Some (after_quiet z l)) }) (sym (up_to at.cores (length at.acts) d (length at.acts) (omega arith)));
      }

  pub goes_on_quietly : (first : Core S) (words : Words) (t n : ℕ) (x y : ThreadState S) → Quietly code b n x y → EndsWith first words t x → EndsWith first words t y
  goes_on_quietly first words t zero x y same at = subst (EndsWith first words t) same at
  goes_on_quietly first words t (suc n) x y (z, l, before, move, step, is) at =
      subst (EndsWith first words t) (sym is) (goes_quiet first words t z l move step (goes_on_quietly first words t n x z before at))
