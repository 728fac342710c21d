-- Threads make the silent moves that they made after their last steps.
use Rattle.std.proofs.Common.{◌≡◌, ◌≢◌, ℕ, zero, suc, ◌+◌, ◌<◌, ◌≤◌, Bool, true, false, cond, Option, Some, List, [], ◌∷◌, ◌++◌, length, nat_eq, refl, sym, ◌∙◌, ap, arith}
use Rattle.std.specs.Prelude.{filter}
use Rattle.std.proofs.lemmas.List.{length-append}
use Rattle.std.proofs.lemmas.List.Elements.{filter-append}
use Rattle.op_core.specs.ThreadCode.{Code}
use Rattle.thread_automaton.specs.declared.Bounds.{Bounds}
use Rattle.thread_automaton.specs.ThreadState.{ThreadState}
use Rattle.thread_automaton.specs.Told.{after_quiet}
use Rattle.core_runs.specs.OwnParts.{Quietly}
use Rattle.core_runs.specs.Cores.{Core}
use Rattle.core_runs.specs.Acts.{Act, quiet}
use Rattle.thread_moves.specs.Thread.{thread_of}
use Rattle.thread_moves.specs.declared.thread.JThread.{JThread}
use Rattle.turn_runs.specs.Turns.{silent}
use Rattle.turn_run_laws.specs.GivenTurns.{LeadsTo}
use Rattle.turn_run_laws.proofs.GivenLemmas.{turns_given}
use Rattle.turn_run_laws.proofs.JoinLemmas.{turns_lead_on}
use Rattle.word_runs.specs.WordTurns.{Progress}
use Rattle.word_runs.specs.Laws.{AreActs}
use Rattle.sched_core.specs.Counts.{is_opening, is_undoing, opened_in, undone_in}
use Rattle.table_words.specs.declared.setup.Setup.{Setup}
use Rattle.table_words.specs.declared.setup.ThreadPart.{ThreadPart}
use Rattle.table_words.specs.Setups.{setup_bounds}
use Rattle.table_words.specs.Rule.{sum_parts, one_if_numbered}
use Rattle.table_words.proofs.Births.{flag, same_number}
use Rattle.going_runs.specs.Places.{AreAfterSteps}

-- a silent act is none that the test counts
not_counted : (test : Act → Bool) (t : ℕ) (acts : List Act) → test (quiet t) ≡ false → length (filter test (acts ++ quiet t ∷ [])) ≡ length (filter test acts)
not_counted test t acts isnt =
    let both = ap length (filter-append test acts (quiet t ∷ [])) ∙ length-append (filter test acts) (filter test (quiet t ∷ [])) in
    let none : length (filter test (quiet t ∷ [])) ≡ 0 = ap (λ c. length (cond c (quiet t ∷ []) [])) isnt in
    omega (arith, both, none)

module _ {S : Type 0} (code : Code S) (b : Bounds) (core : Core S) where
  -- acts lead on from the place r to this one, which has the same words and counts
  pub record Onward (r next : Progress S) : Type 0 where
    pub acts : AreActs code b core next
    pub words : next.core.words ≡ r.core.words
    pub keeps : next.keeps ≡ r.keeps
    pub opened : opened_in next.acts ≡ opened_in r.acts
    pub undone : undone_in next.acts ≡ undone_in r.acts

  stays : (r : Progress S) → AreActs code b core r → Onward r r
  stays r are = record { acts = are; words = refl; keeps = refl; opened = refl; undone = refl }

  then_on : (r mid next : Progress S) → Onward r mid → Onward mid next → Onward r next
  then_on r mid next first later = record {
    acts = later.acts;
    words = later.words ∙ first.words;
    keeps = later.keeps ∙ first.keeps;
    opened = later.opened ∙ first.opened;
    undone = later.undone ∙ first.undone;
  }

  -- there thread t is y, and the others are as before
  pub record Moved (r : Progress S) (t : ℕ) (y : ThreadState S) : Type 0 where
    pub next : Progress S
    pub onward : Onward r next
    pub thread : next.core.threads t ≡ Some y
    pub others : (u : ℕ) → u ≢ t → next.core.threads u ≡ r.core.threads u

  pub moves : (r : Progress S) (t n : ℕ) (x y : ThreadState S) → AreActs code b core r → r.core.threads t ≡ Some x → Quietly code b n x y → Moved r t y
  moves r t zero x y are at same = record { next = r; onward = stays r are; thread = at ∙ ap Some same; others = λ u other. refl }
  moves r t (suc n) x y are at (z, l, before, move, step, is) =
      let first : Moved r t z = moves r t n x z are at before in
      let mid = first.next in
      let led : LeadsTo code b mid t (silent ∷ []) (after_quiet z l) mid.core.words =
      turns_given code b mid t z (after_quiet z l) mid.core.words (silent ∷ []) first.thread (l, move, step, (refl, refl)) (tt, tt) in
      record {
        next = led.new;
        onward = then_on r mid led.new first.onward (record {
          acts = turns_lead_on code b core mid t (after_quiet z l) mid.core.words (silent ∷ []) first.onward.acts led;
          words = led.words;
          keeps = led.keeps;
          opened = ap opened_in led.acts ∙ not_counted is_opening t mid.acts refl;
          undone = ap undone_in led.acts ∙ not_counted is_undoing t mid.acts refl;
        });
        thread = led.thread ∙ ap Some (sym is);
        others = λ u other. led.others u other (tt, tt) ∙ first.others u other;
      }

-- no two of these parts have the same number
abbrev pub AreApart : {C : Type 0} → List (ThreadPart C) → Type 0
AreApart ps = (n : ℕ) → sum_parts (one_if_numbered n) ps ≤ 1

module _ {C : Type 0} (p : ThreadPart C) (ps : List (ThreadPart C)) (apart : AreApart (p ∷ ps)) where
  pub rest_apart : AreApart ps
  rest_apart n = let all = apart n in omega (arith, all)

  pub first_apart : sum_parts (one_if_numbered p.birth.number) ps ≡ 0
  first_apart =
      let all = apart p.birth.number in
      let own : flag (nat_eq p.birth.number p.birth.number) ≡ 1 = ap flag (same_number p.birth.number p.birth.number refl) in
      omega (arith, all, own)

  -- a number of a later one isn't that of the first
  pub later_apart : (n : ℕ) → 0 < sum_parts (one_if_numbered n) ps → nat_eq n p.birth.number ≡ false
  later_apart n some = by (nat_eq n p.birth.number) (apart n)
    where
      by : (t : Bool) → flag t + sum_parts (one_if_numbered n) ps ≤ 1 → t ≡ false
      by false all = refl
      by true all = absurd (omega (arith, all, some))

pub none_numbered : {C : Type 0} (p : ThreadPart C) (ps : List (ThreadPart C)) (n : ℕ) → sum_parts (one_if_numbered n) (p ∷ ps) ≡ 0 → (n ≢ p.birth.number) × (sum_parts (one_if_numbered n) ps ≡ 0)
none_numbered p ps n none = (
  λ same. let own : flag (nat_eq n p.birth.number) ≡ 1 = ap flag (same_number n p.birth.number same) in omega (arith, none, own),
  omega (arith, none),
)

module _ {C S : Type 0} (state : C → S) (saved : C → List S) (code : Code S) (k : Setup C) (core : Core S) where
  -- each thread is right after its last step
  abbrev pub AreAtLast : (ps : List (ThreadPart C)) (xs : List (JThread C)) → AreAfterSteps state saved code k ps xs → (ℕ → Option (ThreadState S)) → Type 0
  AreAtLast [] xs after f = Unit {0}
  AreAtLast (p ∷ ps) [] after f = Unit {0}
  AreAtLast (p ∷ ps) (x ∷ xs) after f = (f p.birth.number ≡ Some after.0.last) × AreAtLast ps xs after.1 f

  -- each thread is where it is now
  abbrev pub AreNow : List (ThreadPart C) → List (JThread C) → (ℕ → Option (ThreadState S)) → Type 0
  AreNow [] [] f = Unit {0}
  AreNow (p ∷ ps) (x ∷ xs) f = (f p.birth.number ≡ Some (thread_of state saved x)) × AreNow ps xs f
  AreNow _ _ f = ⊥

  still_last : (ps : List (ThreadPart C)) (xs : List (JThread C)) (after : AreAfterSteps state saved code k ps xs) (f g : ℕ → Option (ThreadState S)) (n : ℕ) → ((u : ℕ) → u ≢ n → g u ≡ f u)
      → sum_parts (one_if_numbered n) ps ≡ 0 → AreAtLast ps xs after f → AreAtLast ps xs after g
  still_last [] xs after f g n same none at = tt
  still_last (p ∷ ps) [] after f g n same none at = tt
  still_last (p ∷ ps) (x ∷ xs) after f g n same none at =
      let (other, others) = none_numbered p ps n none in
      (same p.birth.number (λ is. other (sym is)) ∙ at.0, still_last ps xs after.1 f g n same others at.1)

  pub record AllMoved (r : Progress S) (ps : List (ThreadPart C)) (xs : List (JThread C)) : Type 0 where
    pub next : Progress S
    pub onward : Onward code (setup_bounds k) core r next
    pub now : AreNow ps xs next.core.threads
    pub others : (u : ℕ) → sum_parts (one_if_numbered u) ps ≡ 0 → next.core.threads u ≡ r.core.threads u

  pub all_move : (ps : List (ThreadPart C)) (xs : List (JThread C)) (after : AreAfterSteps state saved code k ps xs) (r : Progress S) → AreActs code (setup_bounds k) core r → AreApart ps
      → AreAtLast ps xs after r.core.threads → AllMoved r ps xs
  all_move [] [] after r are apart at = record { next = r; onward = stays code (setup_bounds k) core r are; now = tt; others = λ u none. refl }
  all_move [] (x ∷ xs) after r are apart at = absurd after
  all_move (p ∷ ps) [] after r are apart at = absurd after
  all_move (p ∷ ps) (x ∷ xs) after r are apart at =
      let first : Moved code (setup_bounds k) core r p.birth.number (thread_of state saved x) = moves code (setup_bounds k) core r p.birth.number after.0.moves after.0.last (thread_of state saved x) are at.0 after.0.quietly in
      let rest : AllMoved first.next ps xs = all_move ps xs after.1 first.next first.onward.acts (rest_apart p ps apart)
      (still_last ps xs after.1 r.core.threads first.next.core.threads p.birth.number first.others (first_apart p ps apart) at.1) in
      record {
        next = rest.next;
        onward = then_on code (setup_bounds k) core r first.next rest.next first.onward rest.onward;
        now = (rest.others p.birth.number (first_apart p ps apart) ∙ first.thread, rest.now);
        others = λ u none. let (other, others) = none_numbered p ps u none in rest.others u others ∙ first.others u other;
      }
