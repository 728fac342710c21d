-- The acts of a run as one list.
use Rattle.std.proofs.Common.{◌≡◌, ◌≢◌, inl, inr, ℕ, zero, suc, ◌+◌, ◌<◌, ◌≤◌, Bool, true, false, true≢false, Option, None, Some, List, [], ◌∷◌, ◌++◌, length, take, nat_eq, refl, sym, ◌∙◌, ap, subst, arith}
use Rattle.std.specs.Prelude.{Contains, nat_le, if◌then◌else◌}
use Rattle.std.proofs.lemmas.Grind.{common_steps}
use Rattle.std.proofs.lemmas.Bool.Decides.{nat_tests, leb_tells}
use Rattle.std.proofs.lemmas.List.{append_assoc}
use Rattle.std.proofs.lemmas.Bool.{eq-eqb, ne_eqb}
use Rattle.std.proofs.lemmas.Option.{same_Some}
use Rattle.op_core.specs.ThreadCode.{Code, quiet_step}
use Rattle.op_core.specs.OrdinaryState.{Object, set_at}
use Rattle.op_core.proofs.PointwiseLemmas.{set_at-hit, set_at-other, same_or_other}
use Rattle.heap_words.specs.declared.areas.Area.TheVariants.{Control, Section}
use Rattle.step_port.specs.declared.step.Step.{Step}
use Rattle.step_port.specs.declared.step.Step.TheVariants.{Split}
use Rattle.step_port.specs.Words.{Words, answer_of, words_after}
use Rattle.thread_automaton.specs.declared.Bounds.{Bounds}
use Rattle.thread_automaton.specs.declared.Move.TheVariants.{Quiet}
use Rattle.thread_automaton.specs.ThreadState.{ThreadState, first_state}
use Rattle.thread_automaton.specs.NextMove.{next_move}
use Rattle.thread_automaton.specs.Told.{after_answer, after_quiet}
use Rattle.core_runs.specs.WordRuns.{RunEntry, words_by, part_of}
use Rattle.core_runs.specs.declared.Birth.{Birth}
use Rattle.core_runs.specs.OwnParts.{IsCoreRun, is_beside, Quietly, MakesOwn, OwnTo, IsOwnPart, births_after, births, StepOnceBegun}
use Rattle.core_runs.specs.Cores.{Core, threads_by, core_after}
use Rattle.core_runs.specs.Acts.{Act, quiet, did, beside, ActAt, ActFrom}
use Rattle.section_laws.specs.Runs.{BeginsAt, IsRun, IsBeginning}
use Rattle.section_laws.specs.InRuns.{StandsBehind, first_core, with_entry, with_entries, IsPlaceIn, ActsOf, ActsTo, BeginsSo, BeginAsHandedOut, RunsHaveActs, RunsReachStates}
use Rattle.section_laws.proofs.ClaimLemmas.{none_some}
use Rattle.section_laws.proofs.FactLemmas.{Threads, each}
use Rattle.section_laws.proofs.CoreRunLemmas.{in_front, behind_front, none_there, begun_later, equal, differ, sub_run}
use Rattle.section_laws.proofs.NumberLemmas.{numbers_at, new_number}

-- ---- lists of acts

length_more : {A : Type 0} (xs : List A) (x : A) → length (xs ++ x ∷ []) ≡ suc (length xs)
length_more [] x = refl
length_more (y ∷ xs) x = ap suc (length_more xs x)

entries_more : (acts : List Act) (x : Act) (run : List RunEntry) → with_entries (acts ++ x ∷ []) run ≡ with_entry x (with_entries acts run)
entries_more [] x run = refl
entries_more (y ∷ acts) x run = entries_more acts x (with_entry y run)

take_same : {A : Type 0} (xs : List A) (x : A) (k : ℕ) → k ≤ length xs → take k (xs ++ x ∷ []) ≡ take k xs
take_same xs x zero within = refl
take_same [] x (suc k) within = absurd (too_long k within)
  where
    too_long : (k : ℕ) → suc k ≤ 0 → ⊥
    too_long k within = omega arith
take_same (y ∷ xs) x (suc k) within = ap (λ zs. y ∷ zs) (take_same xs x k (omega (arith, within)))

pub take_whole : {A : Type 0} (xs : List A) (k : ℕ) → length xs ≤ k → take k xs ≡ xs
take_whole [] zero within = refl
take_whole [] (suc k) within = refl
take_whole (y ∷ xs) zero within = absurd (too_long (length xs) within)
  where
    too_long : (n : ℕ) → suc n ≤ 0 → ⊥
    too_long n within = omega arith
take_whole (y ∷ xs) (suc k) within = ap (λ zs. y ∷ zs) (take_whole xs k (omega (arith, within)))

module _ {S : Type 0} (code : Code S) (b : Bounds) where
  -- the cores up to number n, and this one after them
  abbrev extended : (ℕ → Core S) → ℕ → Core S → ℕ → Core S
  extended c n d k = if nat_le k n then c k else d

  up_to : (c : ℕ → Core S) (n : ℕ) (d : Core S) (k : ℕ) → k ≤ n → extended c n d k ≡ c k
  up_to c n d k within = ap (λ t. if t then c k else d) (low k n within)
    where
      low : (k n : ℕ) → k ≤ n → nat_le k n ≡ true
      low k n within = grind (arith, common_steps, nat_tests)

  behind_all : (c : ℕ → Core S) (n : ℕ) (d : Core S) → extended c n d (suc n) ≡ d
  behind_all c n d = ap (λ t. if t then c (suc n) else d) (high n)
    where
      high : (n : ℕ) → nat_le (suc n) n ≡ false
      high n = grind (arith, common_steps, nat_tests)

  act_moved : (c e : ℕ → Core S) (k : ℕ) (x : Act) → c k ≡ e k → c (suc k) ≡ e (suc k) → ActAt code b c k x → ActAt code b e k x
  act_moved c e k (quiet t) same next at = record {
    from = at.from;
    local = at.local;
    stands = ap (λ z. z.threads t) (sym same) ∙ at.stands;
    move = at.move;
    step = at.step;
    leads = sym next ∙ at.leads ∙ ap (λ (z : Core S). record z { threads = set_at z.threads t (Some (after_quiet at.from at.local)) }) same;
  }
  act_moved c e k (did t step a) same next at = record {
    from = at.from;
    stands = ap (λ z. z.threads t) (sym same) ∙ at.stands;
    move = at.move;
    answered = at.answered ∙ ap (λ z. answer_of z.words step) same;
    leads = sym next ∙ at.leads ∙ ap (λ z. core_after code b k z t at.from step a) same;
  }
  act_moved c e k (beside t step a) same next at = record {
    is = at.is;
    answered = at.answered ∙ ap (λ z. answer_of z.words step) same;
    leads = sym next ∙ at.leads ∙ ap (λ (z : Core S). record z { words = words_after step z.words }) same;
  }

  from_moved : (c e : ℕ → Core S) (acts : List Act) (k : ℕ) → ((j : ℕ) → k ≤ j → j ≤ k + length acts → c j ≡ e j) → ActFrom code b c k acts → ActFrom code b e k acts
  from_moved c e [] k same leads = tt
  from_moved c e (x ∷ acts) k same leads = (
    act_moved c e k x (same k (omega arith) (omega arith)) (same (suc k) (omega arith) (omega arith)) leads.0,
    from_moved c e acts (suc k) (λ j up within. same j (omega (arith, up)) (omega (arith, within))) leads.1,
  )

  from_more : (c : ℕ → Core S) (acts : List Act) (k : ℕ) (x : Act) → ActFrom code b c k acts → ActAt code b c (k + length acts) x → ActFrom code b c k (acts ++ x ∷ [])
  from_more c [] k x leads at = (subst (λ n. ActAt code b c n x) (omega arith) at, tt)
  from_more c (y ∷ acts) k x leads at = (leads.0, from_more c acts (suc k) x leads.1 (subst (λ n. ActAt code b c n x) (omega arith) at))

  module _ (first : Birth → ThreadState S) (main : Birth) (w : Words) (objects : ℕ → Option Object) where
    -- the core in which the run begins
    abbrev beginning : Core S
    beginning = first_core first main w objects

    abbrev Stands : List RunEntry → ℕ → ThreadState S → Type 0
    Stands run t th = StandsBehind code b first main run t th

    -- acts that are all of this run
    record Path (run : List RunEntry) : Type 0 where
      cores : ℕ → Core S
      acts : List Act
      is_run : IsRun code b cores acts
      starts : cores 0 ≡ beginning
      steps : with_entries acts [] ≡ run
      words : (cores (length acts)).words ≡ words_by w run
      stands : (t : ℕ) (th : ThreadState S) → (cores (length acts)).threads t ≡ Some th → Stands run t th
      begun : (x : Birth) → Contains (births main run) x → (th : ThreadState S) × ((cores (length acts)).threads x.number ≡ Some th)
      places : (k : ℕ) → k ≤ length acts → IsPlaceIn code b first main w run (with_entries (take k acts) []) (cores k)

    abbrev last : {run : List RunEntry} → Path run → Core S
    last p = p.cores (length p.acts)

    -- ending at this core
    record Grown (run : List RunEntry) (d : Core S) : Type 0 where
      path : Path run
      ends : last path ≡ d

    grow : (run later : List RunEntry) (p : Path run) (x : Act) (d : Core S) → with_entry x run ≡ later
        → ((c : ℕ → Core S) → c (length p.acts) ≡ last p → c (suc (length p.acts)) ≡ d → ActAt code b c (length p.acts) x)
        → d.words ≡ words_by w later → ((t : ℕ) (th : ThreadState S) → d.threads t ≡ Some th → Stands later t th)
        → ((y : Birth) → Contains (births main later) y → (th : ThreadState S) × (d.threads y.number ≡ Some th))
        → (newer : List RunEntry) → later ≡ newer ++ run → Grown later d
    grow run later p x d entry at words stands begun newer parts = record {
      path = record {
        cores = c;
        acts = acts;
        is_run = record {
          begins = subst IsBeginning (sym (up_to p.cores n d 0 (omega arith))) p.is_run.begins;
          leads = from_more c p.acts 0 x (from_moved p.cores c p.acts 0 (λ j up within. sym (up_to p.cores n d j (omega (arith, within)))) p.is_run.leads)
              (subst (λ m. ActAt code b c m x) (omega arith) (at c (up_to p.cores n d n (omega arith)) (behind_all p.cores n d)));
        };
        starts = up_to p.cores n d 0 (omega arith) ∙ p.starts;
        steps = entries_more p.acts x [] ∙ ap (with_entry x) p.steps ∙ entry;
        words = ap (λ z. z.words) ends ∙ words;
        stands = λ t th is. stands t th (ap (λ z. z.threads t) (sym ends) ∙ is);
        begun = λ y there. let so = begun y there in (so.0, ap (λ (z : Core S). z.threads y.number) ends ∙ so.1);
        places = λ k within. elim (leb_tells k n) [
          | inl less ↦
              subst (λ xs. IsPlaceIn code b first main w later (with_entries xs []) (c k)) (sym (take_same p.acts x k less.1))
              (subst (IsPlaceIn code b first main w later (with_entries (take k p.acts) [])) (sym (up_to p.cores n d k less.1)) (earlier (p.places k less.1)))
          | inr more ↦
              let here : k ≡ suc n = all_but k within more.1 in
              subst (λ xs. IsPlaceIn code b first main w later xs (c k)) (sym (ap (λ xs. with_entries xs []) (take_whole acts k (whole k here)) ∙ all_steps))
              (subst (IsPlaceIn code b first main w later later) (sym (ap c here ∙ behind_all p.cores n d))
              (record { newer = []; parts = refl; words = words; threads = stands; begun = begun }))
        ];
      };
      ends = ends;
    }
      where
        n : ℕ
        n = length p.acts

        c : ℕ → Core S
        c = extended p.cores n d

        acts : List Act
        acts = p.acts ++ x ∷ []

        ends : c (length acts) ≡ d
        ends = ap c (length_more p.acts x) ∙ behind_all p.cores n d

        all_but : (k : ℕ) → k ≤ length (p.acts ++ x ∷ []) → n < k → k ≡ suc n
        all_but k within more = let size = length_more p.acts x in omega (arith, within, more, size)

        whole : (k : ℕ) → k ≡ suc n → length (p.acts ++ x ∷ []) ≤ k
        whole k here = let size = length_more p.acts x in omega (arith, here, size)

        all_steps : with_entries (p.acts ++ x ∷ []) [] ≡ later
        all_steps = entries_more p.acts x [] ∙ ap (with_entry x) p.steps ∙ entry

        earlier : {older : List RunEntry} {core : Core S} → IsPlaceIn code b first main w run older core → IsPlaceIn code b first main w later older core
        earlier {older = older} at =
            record { newer = newer ++ at.newer; parts = parts ∙ ap (λ xs. newer ++ xs) at.parts ∙ sym (append_assoc newer at.newer older); words = at.words; threads = at.threads; begun = at.begun }

    -- each thread that has begun is there still, where one of them is another one now
    still_there : (bs : List Birth) (threads : Threads S) (t : ℕ) (y : ThreadState S) → ((x : Birth) → Contains bs x → (th : ThreadState S) × (threads x.number ≡ Some th))
        → (x : Birth) → Contains bs x → (th : ThreadState S) × (set_at threads t (Some y) x.number ≡ Some th)
    still_there bs threads t y begun x there = elim (same_or_other x.number t) [
      | inl own ↦ (y, ap (set_at threads t (Some y)) own ∙ set_at-hit threads t (Some y))
      | inr other ↦ let was = begun x there in (was.0, set_at-other threads t (Some y) x.number other ∙ was.1)
    ]

    beside_births : (step : Step) (bs : List Birth) → is_beside step ≡ true → births_after step bs ≡ bs
    beside_births (Split n r p) bs is = absurd (true≢false (sym is))
    beside_births step bs is = refl

    -- ---- silent moves

    -- a thread has begun, and is in its state after its last step
    record Own (run : List RunEntry) (t : ℕ) (x : ThreadState S) : Type 0 where
      birth : Birth
      begun : Contains (births main run) birth
      number : birth.number ≡ t
      own : OwnTo code b (first birth) (part_of t run) x

    stands_by : {run : List RunEntry} {t : ℕ} {x y : ThreadState S} → Own run t x → (n : ℕ) → Quietly code b n x y → Stands run t y
    stands_by {x = x} at n moves = record { birth = at.birth; begun = at.begun; number = at.number; last = x; own = at.own; moves = n; quietly = moves }

    record Quieted (run : List RunEntry) (threads : Threads S) (t : ℕ) (y : ThreadState S) : Type 0 where
      path : Path run
      now : (last path).threads t ≡ Some y
      others : (u : ℕ) → u ≢ t → (last path).threads u ≡ threads u

    -- one silent move more
    quiet_one : (run : List RunEntry) (threads : Threads S) (t : ℕ) (x z : ThreadState S) → Own run t x → (n : ℕ) (l : S) → Quietly code b (suc n) x (after_quiet z l)
        → next_move code b z ≡ Quiet → quiet_step code z.local ≡ Some l → Quieted run threads t z → Quieted run threads t (after_quiet z l)
    quiet_one run threads t x z own n l moves move step q = record {
      path = more.path;
      now = ap (λ core. core.threads t) more.ends ∙ set_at-hit (last q.path).threads t (Some (after_quiet z l));
      others = λ u other. ap (λ core. core.threads u) more.ends ∙ set_at-other (last q.path).threads t (Some (after_quiet z l)) u other ∙ q.others u other;
    }
      where
        d : Core S
        d = record (last q.path) { threads = set_at (last q.path).threads t (Some (after_quiet z l)) }

        more : Grown run d
        more = grow run run q.path (quiet t) d refl
            (λ c here next. record {
              from = z;
              local = l;
              stands = ap (λ core. core.threads t) here ∙ q.now;
              move = move;
              step = step;
              leads = next ∙ ap (λ (core : Core S). record core { threads = set_at core.threads t (Some (after_quiet z l)) }) (sym here);
            })
            q.path.words
            (λ u. each (Stands run u) (last q.path).threads t (after_quiet z l) u
            (λ mine. subst (λ v. Stands run v (after_quiet z l)) (sym mine) (stands_by own (suc n) moves))
            (λ uh other at. q.path.stands u uh at)) (still_there (births main run) (last q.path).threads t (after_quiet z l) q.path.begun) [] refl

    quiet_grow : (run : List RunEntry) (p : Path run) (t : ℕ) (x : ThreadState S) → Own run t x → (last p).threads t ≡ Some x → (n : ℕ) (y : ThreadState S) → Quietly code b n x y
        → Quieted run (last p).threads t y
    quiet_grow run p t x own there zero y same = record { path = p; now = there ∙ ap Some same; others = λ u other. refl }
    quiet_grow run p t x own there (suc n) y (z, l, before, move, step, is) =
        subst (Quieted run (last p).threads t) (sym is)
        (quiet_one run (last p).threads t x z own n l (z, l, before, move, step, refl) move step (quiet_grow run p t x own there n z before))

    -- ---- the step of an entry

    part_own : (e : RunEntry) (run : List RunEntry) (t : ℕ) → t ≡ e.thread → part_of t (e ∷ run) ≡ e.made ∷ part_of t run
    part_own e run t is = ap (λ test. if test then e.made ∷ part_of t run else part_of t run) (ap (λ n. nat_eq e.thread n) is ∙ eq-eqb e.thread e.thread refl)

    part_other : (e : RunEntry) (run : List RunEntry) (t : ℕ) → t ≢ e.thread → part_of t (e ∷ run) ≡ part_of t run
    part_other e run t other = ap (λ test. if test then e.made ∷ part_of t run else part_of t run) (ne_eqb e.thread t (λ is. other (sym is)))

    -- another thread is where it was before
    stands_on : (e : RunEntry) (run : List RunEntry) (t : ℕ) (th : ThreadState S) → t ≢ e.thread → Stands run t th → Stands (e ∷ run) t th
    stands_on e run t th other at = record {
      birth = at.birth;
      begun = begun_later e.made.step (births main run) at.birth at.begun;
      number = at.number;
      last = at.last;
      own = subst (λ part. OwnTo code b (first at.birth) part at.last) (sym (part_other e run t other)) at.own;
      moves = at.moves;
      quietly = at.quietly;
    }

    -- the thread of an entry: where it was after its step before, and where it makes this one
    record Turn (e : RunEntry) (run : List RunEntry) (y : ThreadState S) : Type 0 where
      stood : ThreadState S
      own : Own run e.thread stood
      about : ThreadState S
      moves : ℕ
      quiet : Quietly code b moves stood about
      makes : MakesOwn (is_beside e.made.step) code b e.made about y

    turned : {e : RunEntry} {run : List RunEntry} {y : ThreadState S} → Turn e run y → Stands (e ∷ run) e.thread y
    turned {e = e} {run = run} {y = y} turn = record {
      birth = turn.own.birth;
      begun = begun_later e.made.step (births main run) turn.own.birth turn.own.begun;
      number = turn.own.number;
      last = y;
      own = subst (λ part. OwnTo code b (first turn.own.birth) part y) (sym (part_own e run e.thread refl)) (turn.stood, turn.about, turn.moves, turn.own.own, turn.quiet, turn.makes);
      moves = 0;
      quietly = refl;
    }

    -- after its step, and where another thread is handed out with it
    record Stepped (e : RunEntry) (run : List RunEntry) (threads : Threads S) (y : ThreadState S) : Type 0 where
      path : Path (e ∷ run)
      now : (x : Birth) → Contains (births main run) x → x.number ≡ e.thread → (last path).threads x.number ≡ Some y
      others : (x : Birth) → Contains (births main run) x → x.number ≢ e.thread → (last path).threads x.number ≡ threads x.number
      begins : (n r p : ℕ) → e.made.step ≡ Split n r p → (last path).threads n ≡ Some (first (record { number = n; object = r; priority = p }))

    beside_step : (e : RunEntry) (run : List RunEntry) (y : ThreadState S) (turn : Turn e run y) → is_beside e.made.step ≡ true → e.made.answer ≡ answer_of (words_by w run) e.made.step
        → (p : Path run) → (last p).threads e.thread ≡ Some turn.about → Stepped e run (last p).threads y
    beside_step e run y turn is answered p there = record {
      path = more.path;
      now = λ x at same. ap (λ (core : Core S). core.threads x.number) more.ends ∙ ap (last p).threads same ∙ there ∙ ap Some stays;
      others = λ x at other. ap (λ (core : Core S). core.threads x.number) more.ends;
      begins = λ n r q split. absurd (true≢false (sym is ∙ ap is_beside split));
    }
      where
        stays : turn.about ≡ y
        stays = subst (λ test. MakesOwn test code b e.made turn.about y) is turn.makes

        d : Core S
        d = record (last p) { words = words_after e.made.step (last p).words }

        more : Grown (e ∷ run) d
        more = grow run (e ∷ run) p (beside e.thread e.made.step e.made.answer) d refl
            (λ c here next. record {
              is = is;
              answered = answered ∙ ap (λ v. answer_of v e.made.step) (sym p.words ∙ ap (λ z. z.words) (sym here));
              leads = next ∙ ap (λ (core : Core S). record core { words = words_after e.made.step core.words }) (sym here);
            })
            (ap (words_after e.made.step) p.words)
            (λ t th at. elim (same_or_other t e.thread) [
              | inl own ↦ subst (λ u. Stands (e ∷ run) u th) (sym own)
                  (subst (Stands (e ∷ run) e.thread) (sym stays ∙ same_Some turn.about th (sym there ∙ ap (last p).threads (sym own) ∙ at)) (turned turn))
              | inr other ↦ stands_on e run t th other (p.stands t th at)
            ]) (λ x at. p.begun x (subst (λ bs. Contains bs x) (beside_births e.made.step (births main run) is) at)) (e ∷ []) refl

    -- a thread that hasn't begun has made no steps
    no_steps : (n : ℕ) (run : List RunEntry) → StepOnceBegun main run → ((x : Birth) → Contains (births main run) x → n ≡ x.number → ⊥) → part_of n run ≡ []
    no_steps n [] so none = refl
    no_steps n (e ∷ run) so none =
        part_other e run n (λ is. none so.1.0 (begun_later e.made.step (births main run) so.1.0 so.1.1) (is ∙ sym so.1.2))
        ∙ no_steps n run so.0 (λ x there. none x (begun_later e.made.step (births main run) x there))

    -- who has begun before is no new one
    abbrev IsNew : RunEntry → List RunEntry → Type 0
    IsNew e run = (n r p : ℕ) → e.made.step ≡ Split n r p → (x : Birth) → Contains (births main run) x → n ≡ x.number → ⊥

    module _ (e : RunEntry) (run : List RunEntry) (y : ThreadState S) (turn : Turn e run y) (is : is_beside e.made.step ≡ false)
        (answered : e.made.answer ≡ answer_of (words_by w run) e.made.step) (begun : StepOnceBegun main (e ∷ run)) (new : IsNew e run)
        (begins : BeginsSo code b first main e run e.made.step) (p : Path run) (there : (last p).threads e.thread ≡ Some turn.about) where
      abbrev t : ℕ
      t = e.thread

      abbrev z : ThreadState S
      z = turn.about

      does : MakesOwn false code b e.made z y
      does = subst (λ test. MakesOwn test code b e.made z y) is turn.makes

      abbrev after : Threads S
      after = set_at (last p).threads t (Some (after_answer code b z e.made.step e.made.answer))

      -- what a thread that is handed out is
      child : (n r q : ℕ) → e.made.step ≡ Split n r q → first (record { number = n; object = r; priority = q }) ≡ first_state n q (code.child z.local r)
      child n r q split = by_step e.made.step refl begins
        where
          by_step : (step : Step) → e.made.step ≡ step → BeginsSo code b first main e run step → first (record { number = n; object = r; priority = q }) ≡ first_state n q (code.child z.local r)
          by_step step same so =
              subst (BeginsSo code b first main e run) (sym same ∙ split) so z (record { stands = stands_by turn.own turn.moves turn.quiet; makes = does.0 })

      new_stands : (n r q : ℕ) → e.made.step ≡ Split n r q → Stands (e ∷ run) n (first_state n q (code.child z.local r))
      new_stands n r q split = record {
        birth = record { number = n; object = r; priority = q };
        begun = subst (λ step. Contains (births_after step (births main run)) (record { number = n; object = r; priority = q })) (sym split) (0, omega arith, refl);
        number = refl;
        last = first (record { number = n; object = r; priority = q });
        own = subst (λ part. OwnTo code b (first (record { number = n; object = r; priority = q })) part (first (record { number = n; object = r; priority = q }))) (sym none) refl;
        moves = 0;
        quietly = child n r q split;
      }
        where
          none : part_of n (e ∷ run) ≡ []
          none = part_other e run n (λ own. new n r q split begun.1.0 begun.1.1 (own ∙ sym begun.1.2)) ∙ no_steps n run begun.0 (new n r q split)

      stands_after : (u : ℕ) (uh : ThreadState S) → after u ≡ Some uh → Stands (e ∷ run) u uh
      stands_after u = each (Stands (e ∷ run) u) (last p).threads t (after_answer code b z e.made.step e.made.answer) u
          (λ own. subst (λ v. Stands (e ∷ run) v (after_answer code b z e.made.step e.made.answer)) (sym own) (subst (Stands (e ∷ run) t) does.1 (turned turn)))
          (λ uh other at. stands_on e run u uh other (p.stands u uh at))

      handed_stands : (step : Step) → e.made.step ≡ step → (u : ℕ) (uh : ThreadState S) → threads_by code step z.local after u ≡ Some uh → Stands (e ∷ run) u uh
      handed_stands (Split n r q) split u uh at =
          each (Stands (e ∷ run) u) after n (first_state n q (code.child z.local r)) u
          (λ own. subst (λ v. Stands (e ∷ run) v (first_state n q (code.child z.local r))) (sym own) (new_stands n r q split)) (λ vh other here. stands_after u vh here) uh at
      handed_stands step same u uh at = stands_after u uh at

      -- others are as before the one that is handed out
      not_handed : (step : Step) → e.made.step ≡ step → (x : Birth) → Contains (births main run) x → threads_by code step z.local after x.number ≡ after x.number
      not_handed (Split n r q) split x at = set_at-other after n (Some (first_state n q (code.child z.local r))) x.number (λ same. new n r q split x at (sym same))
      not_handed step same x at = refl

      -- each thread that has begun is there
      begun_after : (step : Step) → e.made.step ≡ step → (x : Birth) → Contains (births_after step (births main run)) x → (th : ThreadState S) × (threads_by code step z.local after x.number ≡ Some th)
      begun_after (Split n r q) split x at = elim (in_front (record { number = n; object = r; priority = q }) x (births main run) at) [
        | inl is_new ↦ (
          first_state n q (code.child z.local r),
          ap (λ (v : Birth). set_at after n (Some (first_state n q (code.child z.local r))) v.number) (sym is_new)
              ∙ set_at-hit after n (Some (first_state n q (code.child z.local r))),
        )
        | inr rest ↦
            let was = still_there (births main run) (last p).threads t (after_answer code b z e.made.step e.made.answer) p.begun x rest in
            (was.0, not_handed (Split n r q) split x rest ∙ was.1)
      ]
      begun_after step same x at = still_there (births main run) (last p).threads t (after_answer code b z e.made.step e.made.answer) p.begun x at

      abbrev behind : Core S
      behind = core_after code b (length p.acts) (last p) t z e.made.step e.made.answer

      more : Grown (e ∷ run) behind
      more = grow run (e ∷ run) p (did t e.made.step e.made.answer) behind refl
          (λ c here next. record {
            from = z;
            stands = ap (λ (core : Core S). core.threads t) here ∙ there;
            move = does.0;
            answered = answered ∙ ap (λ v. answer_of v e.made.step) (sym p.words ∙ ap (λ (core : Core S). core.words) (sym here));
            leads = next ∙ ap (λ (core : Core S). core_after code b (length p.acts) core t z e.made.step e.made.answer) (sym here);
          })
          (ap (words_after e.made.step) p.words) (handed_stands e.made.step refl) (begun_after e.made.step refl) (e ∷ []) refl

      did_step : Stepped e run (last p).threads y
      did_step = record {
        path = more.path;
        now = λ x at same. ap (λ (core : Core S). core.threads x.number) more.ends ∙ not_handed e.made.step refl x at
            ∙ ap after same ∙ set_at-hit (last p).threads t (Some (after_answer code b z e.made.step e.made.answer)) ∙ ap Some (sym does.1);
        others = λ x at other. ap (λ (core : Core S). core.threads x.number) more.ends ∙ not_handed e.made.step refl x at
            ∙ set_at-other (last p).threads t (Some (after_answer code b z e.made.step e.made.answer)) x.number other;
        begins = λ n r q split. ap (λ (core : Core S). core.threads n) more.ends ∙ ap (λ step. threads_by code step z.local after n) split
            ∙ set_at-hit after n (Some (first_state n q (code.child z.local r))) ∙ ap Some (sym (child n r q split));
      }

    -- ---- along the run

    -- so are the threads that have begun
    abbrev Owns : List RunEntry → (ℕ → ThreadState S) → Type 0
    Owns run ys = (x : Birth) → Contains (births main run) x → OwnTo code b (first x) (part_of x.number run) (ys x.number)

    record Reached (run : List RunEntry) (ys : ℕ → ThreadState S) : Type 0 where
      path : Path run
      threads : (x : Birth) → Contains (births main run) x → (last path).threads x.number ≡ Some (ys x.number)

    module _ (none : (s : ℕ) → w (Section s) ≡ 0) (fresh : (birth : Birth) → BeginsAt (first birth)) (low : main.number ≤ w (Control 4)) where
      abbrev IsOne : List RunEntry → Type 0
      IsOne run = IsCoreRun code b first main w run

      shorter : (e : RunEntry) (run : List RunEntry) → IsOne (e ∷ run) → IsOne run
      shorter e run so = sub_run code b first main w none fresh e run so

      first_stands : (t : ℕ) (th : ThreadState S) → beginning.threads t ≡ Some th → Stands [] t th
      first_stands t = each (Stands [] t) (λ u. None) main.number (first main) t
          (λ own. record { birth = main; begun = (0, omega arith, refl); number = sym own; last = first main; own = refl; moves = 0; quietly = refl })
          (λ uh other at. none_some uh at)

      first_begun : (x : Birth) → Contains (births main []) x → (th : ThreadState S) × (beginning.threads x.number ≡ Some th)
      first_begun x at = elim (in_front main x [] at) [
        | inl is ↦ (first main, ap (λ (y : Birth). beginning.threads y.number) (sym is) ∙ set_at-hit (λ t. None) main.number (Some (first main)))
        | inr rest ↦ none_there x rest
      ]

      first_path : Path []
      first_path = record {
        cores = λ k. beginning;
        acts = [];
        is_run = record {
          begins = record {
            sections = none;
            threads = λ t. each BeginsAt (λ u. None) main.number (first main) t (λ own. fresh main) (λ uh other at. none_some uh at);
          };
          leads = tt;
        };
        starts = refl;
        steps = refl;
        words = refl;
        stands = first_stands;
        begun = first_begun;
        places = λ k within. subst (λ xs. IsPlaceIn code b first main w [] (with_entries xs []) beginning) (sym (take_whole [] k (omega arith)))
            (record { newer = []; parts = refl; words = refl; threads = first_stands; begun = first_begun });
      }

      first_reached : (ys : ℕ → ThreadState S) → Owns [] ys → Reached [] ys
      unfolding first_path
      first_reached ys owns = record {
        path = first_path;
        threads = λ x at. elim (in_front main x [] at) [
          | inl is ↦ ap beginning.threads (ap (λ (y : Birth). y.number) (sym is)) ∙ set_at-hit (λ t. None) main.number (Some (first main))
              ∙ ap Some (owns main (0, omega arith, refl)) ∙ ap (λ (y : Birth). Some (ys y.number)) is
          | inr rest ↦ none_there x rest
        ];
      }

      -- where the thread of an entry stood before
      module _ (e : RunEntry) (run : List RunEntry) (so : IsOne (e ∷ run)) (ys : ℕ → ThreadState S) (owns : Owns (e ∷ run) ys) where
        single : (x y : Birth) → Contains (births main run) x → Contains (births main run) y → x.number ≡ y.number → x ≡ y
        single = (numbers_at code b first main w none fresh low run (shorter e run so)).single

        abbrev birth : Birth
        birth = so.begun.1.0

        maker_turn : Turn e run (ys e.thread)
        maker_turn =
            let own = subst (λ part. OwnTo code b (first birth) part (ys birth.number)) (part_own e run birth.number so.begun.1.2) (owns birth (begun_later e.made.step (births main run) birth so.begun.1.1)) in
            record {
              stood = own.0;
              own = record { birth = birth; begun = so.begun.1.1; number = so.begun.1.2; own = subst (λ n. OwnTo code b (first birth) (part_of n run) own.0) so.begun.1.2 own.3 };
              about = own.1;
              moves = own.2;
              quiet = own.4;
              makes = subst (λ n. MakesOwn (is_beside e.made.step) code b e.made own.1 (ys n)) so.begun.1.2 own.5;
            }

        abbrev before : ThreadState S → ℕ → ThreadState S
        before x u = if nat_eq u e.thread then x else ys u

        owns_before : (turn : Turn e run (ys e.thread)) → Owns run (before turn.stood)
        owns_before turn x at = elim (same_or_other x.number e.thread) [
          | inl own ↦
              let is : turn.own.birth ≡ x = single turn.own.birth x turn.own.begun at (turn.own.number ∙ sym own) in
              subst (OwnTo code b (first x) (part_of x.number run)) (sym (ap (λ t. if t then turn.stood else ys x.number) (ap (λ n. nat_eq n e.thread) own ∙ eq-eqb e.thread e.thread refl)))
              (subst (λ (z : Birth). OwnTo code b (first z) (part_of x.number run) turn.stood) is
              (subst (λ n. OwnTo code b (first turn.own.birth) (part_of n run) turn.stood) (sym own) turn.own.own))
          | inr other ↦
              subst (OwnTo code b (first x) (part_of x.number run)) (sym (ap (λ t. if t then turn.stood else ys x.number) (ne_eqb x.number e.thread other)))
              (subst (λ part. OwnTo code b (first x) part (ys x.number)) (part_other e run x.number other) (owns x (begun_later e.made.step (births main run) x at)))
        ]

        next_reached : (turn : Turn e run (ys e.thread)) → BeginsSo code b first main e run e.made.step → Reached run (before turn.stood) → Reached (e ∷ run) ys
        next_reached turn begins r = record {
          path = done.path;
          threads = λ x at. by_step e.made.step refl x at;
        }
          where
            there : (last r.path).threads e.thread ≡ Some turn.stood
            there = ap (last r.path).threads (sym turn.own.number) ∙ r.threads turn.own.birth turn.own.begun
                ∙ ap Some (ap (λ t. if t then turn.stood else ys turn.own.birth.number) (ap (λ n. nat_eq n e.thread) turn.own.number ∙ eq-eqb e.thread e.thread refl))

            q : Quieted run (last r.path).threads e.thread turn.about
            q = quiet_grow run r.path e.thread turn.stood turn.own there turn.moves turn.about turn.quiet

            new : IsNew e run
            new = new_number code b first main w none fresh low e run so

            by_kind : (test : Bool) → is_beside e.made.step ≡ test → Stepped e run (last q.path).threads (ys e.thread)
            by_kind true is = beside_step e run (ys e.thread) turn is so.words.1 q.path q.now
            by_kind false is = did_step e run (ys e.thread) turn is so.words.1 so.begun new begins q.path q.now

            done : Stepped e run (last q.path).threads (ys e.thread)
            done = by_kind (is_beside e.made.step) refl

            as_before : (x : Birth) → Contains (births main run) x → (last done.path).threads x.number ≡ Some (ys x.number)
            as_before x at = elim (same_or_other x.number e.thread) [
              | inl own ↦ done.now x at own ∙ ap (λ n. Some (ys n)) (sym own)
              | inr other ↦ done.others x at other ∙ q.others x.number other ∙ r.threads x at
                  ∙ ap Some (ap (λ t. if t then turn.stood else ys x.number) (ne_eqb x.number e.thread other))
            ]

            no_part : (n r p : ℕ) → e.made.step ≡ Split n r p → part_of n (e ∷ run) ≡ []
            no_part n r p split = part_other e run n (λ own. new n r p split so.begun.1.0 so.begun.1.1 (own ∙ sym so.begun.1.2)) ∙ no_steps n run so.begun.0 (new n r p split)

            by_step : (step : Step) → e.made.step ≡ step → (x : Birth) → Contains (births_after step (births main run)) x → (last done.path).threads x.number ≡ Some (ys x.number)
            by_step (Split n r p) split x at = elim (in_front (record { number = n; object = r; priority = p }) x (births main run) at) [
              | inl is ↦
                  let there_x : Contains (births main (e ∷ run)) x = subst (λ step. Contains (births_after step (births main run)) x) (sym split) at in
                  let own = subst (λ part. OwnTo code b (first x) part (ys x.number)) (ap (λ (y : Birth). part_of y.number (e ∷ run)) (sym is) ∙ no_part n r p split) (owns x there_x) in
                  ap (λ (y : Birth). (last done.path).threads y.number) (sym is) ∙ done.begins n r p split ∙ ap (λ (y : Birth). Some (first y)) is ∙ ap Some own
              | inr rest ↦ as_before x rest
            ]
            by_step step same x at = as_before x at

      reached : (run : List RunEntry) → IsOne run → BeginAsHandedOut code b first main run → (ys : ℕ → ThreadState S) → Owns run ys → Reached run ys
      reached [] so begins ys owns = first_reached ys owns
      reached (e ∷ run) so begins ys owns =
          let turn = maker_turn e run so ys owns in
          next_reached e run so ys owns turn begins.1 (reached run (shorter e run so) begins.0 (before e run so ys owns turn.stood) (owns_before e run so ys owns turn))

      -- one state for each number
      abbrev chosen : (run : List RunEntry) (xs : List Birth) → ((x : Birth) → Contains xs x → IsOwnPart code b (first x) (part_of x.number run)) → ℕ → ThreadState S
      chosen run [] own u = first main
      chosen run (x ∷ xs) own u = if nat_eq x.number u then (own x (0, omega arith, refl)).0 else chosen run xs (λ y there. own y (behind_front x y xs there)) u

      chosen_own : (run : List RunEntry) (xs : List Birth) (own : (x : Birth) → Contains xs x → IsOwnPart code b (first x) (part_of x.number run))
          → ((x y : Birth) → Contains xs x → Contains xs y → x.number ≡ y.number → x ≡ y) → (x : Birth) → Contains xs x
          → OwnTo code b (first x) (part_of x.number run) (chosen run xs own x.number)
      chosen_own run [] own single x there = none_there x there
      chosen_own run (y ∷ xs) own single x there =
          by_test (nat_eq y.number x.number) refl (λ later. chosen_own run xs (λ z at. own z (behind_front y z xs at))
          (λ u v at also. single u v (behind_front y u xs at) (behind_front y v xs also)) x later)
        where
          by_test : (t : Bool) → nat_eq y.number x.number ≡ t → (Contains xs x → OwnTo code b (first x) (part_of x.number run) (chosen run xs (λ z at. own z (behind_front y z xs at)) x.number))
              → OwnTo code b (first x) (part_of x.number run) (if t then (own y (0, omega arith, refl)).0 else chosen run xs (λ z at. own z (behind_front y z xs at)) x.number)
          by_test true is later =
              let same : y ≡ x = single y x (0, omega arith, refl) there (equal y.number x.number is) in
              subst (λ (z : Birth). OwnTo code b (first z) (part_of z.number run) (own y (0, omega arith, refl)).0) same (own y (0, omega arith, refl)).1
          by_test false is later = elim (in_front y x xs there) [
            | inl same ↦ absurd (differ y.number x.number is (ap (λ (z : Birth). z.number) (sym same)))
            | inr at ↦ later at
          ]

      acts_to : (run : List RunEntry) → IsOne run → BeginAsHandedOut code b first main run → (ys : ℕ → ThreadState S) → Owns run ys → ActsTo code b first main w objects run ys
      acts_to run so begins ys owns =
          let r = reached run so begins ys owns in
          record { all = record { cores = r.path.cores; acts = r.path.acts; is_run = r.path.is_run; starts = r.path.starts; steps = r.path.steps; places = r.path.places }; last = r.threads }

      acts_of : (run : List RunEntry) → IsOne run → BeginAsHandedOut code b first main run → ActsOf code b first main w objects run
      acts_of run so begins =
          let single = (numbers_at code b first main w none fresh low run so).single in
          (acts_to run so begins (chosen run (births main run) so.own) (chosen_own run (births main run) so.own single)).all

pub runs_have_acts : {S : Type 0} (code : Code S) → RunsHaveActs code
runs_have_acts code b first main w run so low begins objects = acts_of code b first main w objects so.sections so.threads low run so.is_run begins

pub runs_reach_states : {S : Type 0} (code : Code S) → RunsReachStates code
runs_reach_states code b first main w run so low begins objects ys owns = acts_to code b first main w objects so.sections so.threads low run so.is_run begins ys owns
