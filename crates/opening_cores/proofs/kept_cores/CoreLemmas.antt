-- What is closed under the steps of a code is kept along a run on shared words.
use Rattle.std.proofs.Common.{◌≡◌, inl, inr, ℕ, zero, suc, ◌<◌, ◌≤◌, ◌+◌, ◌^◌, Bool, true, false, Option, None, Some, List, length, take, refl, sym, ◌∙◌, ap, subst, arith}
use Rattle.std.specs.Prelude.{IsSomeAnd, nat_le, if◌then◌else◌}
use Rattle.std.proofs.lemmas.Bool.Decides.{leb_tells}
use Rattle.std.proofs.lemmas.List.{length-take-le}
use Rattle.std.proofs.lemmas.Option.{same_Some}
use Rattle.op_core.specs.declared.Limit.TheVariants.{Turns}
use Rattle.op_core.specs.declared.Op.TheVariants.{Read, Write, New}
use Rattle.op_core.specs.declared.Next.{Next}
use Rattle.op_core.specs.declared.Next.TheVariants.{Want}
use Rattle.op_core.specs.ThreadCode.{Code}
use Rattle.op_core.specs.OrdinaryState.{Object, ended, live}
use Rattle.op_core.specs.InPlaceList.{IsGrounded, IsSound}
use Rattle.op_core.specs.Orderly.{IsOrderly, StartWordsAreKept}
use Rattle.op_core.proofs.PointwiseLemmas.{set_at-at}
use Rattle.step_port.specs.declared.answer.StepAnswer.{StepAnswer}
use Rattle.step_port.specs.declared.step.Step.{Step}
use Rattle.step_port.specs.declared.step.Step.TheVariants.{SetHeader, Split}
use Rattle.thread_automaton.specs.declared.Bounds.{Bounds}
use Rattle.thread_automaton.specs.declared.Move.{Move}
use Rattle.thread_automaton.specs.declared.Move.TheVariants.{Over, Make, Stop}
use Rattle.thread_automaton.specs.declared.Attempt.{Attempt}
use Rattle.thread_automaton.specs.declared.Attempt.TheVariants.{Fixed}
use Rattle.thread_automaton.specs.ThreadState.{ThreadState}
use Rattle.thread_automaton.specs.NextMove.{word_place}
use Rattle.automaton_rows.specs.Fits.{AttemptFits}
use Rattle.core_runs.specs.Cores.{Core, objects_by}
use Rattle.core_runs.specs.Acts.{Act, ActAt, DidAt, quiet, did, beside}
use Rattle.core_runs.specs.Reading.{end_wanted, place_in, thread_in, ordinary}
use Rattle.section_laws.proofs.RunLemmas.{get_some, act_at, facts_at}
use Rattle.section_laws.specs.Layout.{IsLaidRun, free_place, object_end}
use Rattle.section_laws.proofs.run_layout.NameLemmas.{step_names}
use Rattle.section_laws.proofs.run_layout.RunLemmas.{laid_at}
use Rattle.first_law.proofs.GroundedLemmas.{from_take}
use Rattle.first_law.specs.Free.{IsFreeRun}
use Rattle.first_law.proofs.grounded_monitors.RunLemmas.{free_runs_are_in_place, free_runs_fit_objects}
use Rattle.thread_moves.specs.Thread.{CanBeAsked}
use Rattle.kept_states.specs.Kept.{Objects, IsKeptState}
use Rattle.kept_states.proofs.KeptLemmas.{lists_keep}
use Rattle.opening_cores.specs.KeptCores.{CoresAreKept, CoresKeep, IsBegunRun, KeepsFitting, ObjectsEndInRange}

-- objects end within the heap, or where those from the beginning do
pub objects_end : {S : Type 0} (code : Code S) → ObjectsEndInRange code
objects_end code b is_thread first classes c acts run taken k r o within there =
    let laid : IsLaidRun code b is_thread c acts = free_runs_fit_objects code b is_thread first classes c acts run in
    elim ((laid_at code b is_thread c acts laid k within).0.from r o there) [
      | inl begun ↦ (let end : object_end r o ≤ free_place b (c 0).words = run.grounded.begins.low r o begun in omega (arith, end, taken))
      | inr later ↦ (let end : object_end r o ≤ b.first + b.limits.heap = later.1 in let heap = run.grounded.heap.1 in omega (arith, end, heap))
    ]

-- a thread that makes a step hasn't ended
not_over : (over limit : Bool) (move : Move) (step : Step) → (if over then Over else if limit then Stop Turns else move) ≡ Make step → over ≡ false
not_over true limit move step e = cc
not_over false limit move step e = refl

module _ {S : Type 0} (code : Code S) (is_thread : ℕ → Bool) (P : Objects → S → Type 0) (W : Objects → ℕ → ℕ → ℕ → Type 0) (O : ℕ → Object → Type 0) (fitting : KeepsFitting code is_thread P W O) where
  -- ---- where a thread is

  module _ (b : Bounds) (c : Core S) (t : ℕ) (th : ThreadState S) (stands : c.threads t ≡ Some th) (kept : IsKeptState P W O (ordinary code is_thread c)) (going : th.over ≡ false) where
    place_known : P c.objects (place_in code th.local th.attempt)
    place_known = kept.threads t (place_in code th.local th.attempt) (ap (thread_in code (c.starting t)) stands ∙ ap (λ x. if x then ended (end_wanted (code.next th.local)) else live (place_in code th.local th.attempt)) going)

    -- it is at its own local state where it hands no thread out
    own_known : (g : Attempt) → th.attempt ≡ g → place_in code th.local g ≡ th.local → P c.objects th.local
    own_known g is same = subst (P c.objects) (ap (place_in code th.local) is ∙ same) place_known

  module _ (b : Bounds) (first : S) (classes : ℕ) (c : ℕ → Core S) (acts : List Act) (orderly : IsOrderly code first classes) (grounded : IsGrounded code (ordinary code is_thread (c 0))) (start_words : StartWordsAreKept code is_thread (ordinary code is_thread (c 0))) (run : IsBegunRun code b is_thread first c acts) (start : IsKeptState P W O (ordinary code is_thread (c 0))) where
    attempt_fits : (k t : ℕ) (th : ThreadState S) → k ≤ length acts → (c k).threads t ≡ Some th → AttemptFits th (code.next th.local) th.attempt
    attempt_fits k t th within stands = ((facts_at code b c acts run.run k within).fit t th stands).attempt

    -- thread objects have a start word, up to place n
    abbrev ThreadsTo : ℕ → Type 0
    ThreadsTo n = (k r : ℕ) (o : Object) → k ≤ n → (c k).objects r ≡ Some o → is_thread o.class ≡ true → 1 < o.words

    module _ (n : ℕ) (low : n ≤ length acts) (threads : ThreadsTo n) where
      size : length (take n acts) ≡ n
      size = length-take-le n acts low

      free_so : IsFreeRun code b is_thread first classes c (take n acts)
      free_so = record {
        grounded = record {
          run = record { begins = run.run.begins; leads = from_take code b c acts n 0 run.run.leads };
          orderly = orderly;
          grounded = grounded;
          kept = start_words;
          local = run.local;
          closed = run.closed;
          starts = run.starts;
          ends = run.ends;
          in_bits = run.in_bits;
          begins = run.begins;
          heap = run.heap;
          class_words = run.class_words;
          threads = λ k r o within there thread. threads k r o (let is = size in omega (arith, within, is)) there thread;
        };
        numbers = run.numbers;
        free = run.free;
        awake = run.awake;
        from_one = run.from_one;
      }

      -- the state there is sound
      sound_so : IsSound code (ordinary code is_thread (c n))
      sound_so =
          let list = free_runs_are_in_place code b is_thread first classes c (take n acts) free_so in
          subst (λ m. IsSound code (ordinary code is_thread (c m))) (list.1 ∙ size) (grounded (λ k. ordinary code is_thread (c k)) list.0 refl list.3)

      kept_so : IsKeptState P W O (ordinary code is_thread (c n))
      kept_so =
          let list = free_runs_are_in_place code b is_thread first classes c (take n acts) free_so in
          subst (λ m. IsKeptState P W O (ordinary code is_thread (c m))) (list.1 ∙ size) (lists_keep S code P W O fitting.keeps (λ k. ordinary code is_thread (c k)) list.0 start list.3)

      -- a new object is one that the code may make
      module _ (t : ℕ) (step : Step) (a : StepAnswer) (at : DidAt code b c n t step a) where
        made_known : (q w m count : ℕ) → at.from.attempt ≡ Fixed (SetHeader q w) → code.next at.from.local ≡ Want (New m count) → O 1 (record { class = m; length = count; words = code.words at.from.local m count })
        made_known q w m count attempt wants =
            let going : at.from.over ≡ false = not_over at.from.over (nat_le b.limits.turns at.from.counted) _ step at.move in
            let own : P (c n).objects at.from.local = own_known b (c n) t at.from at.stands kept_so going (Fixed (SetHeader q w)) attempt refl in
            fitting.keeps.makes (c n).objects at.from.local m count 1 own wants (omega arith) (omega arith)

        by_step : (s : Step) → step ≡ s → (r : ℕ) (o : Object) → objects_by code s at.from.local (code.next at.from.local) (c n).objects r ≡ Some o → is_thread o.class ≡ true → 1 < o.words
        by_step (SetHeader q w) is r o there thread =
            let names = step_names code b at.from (SetHeader q w) (attempt_fits n t at.from low at.stands) (at.move ∙ ap (λ s. Make s) is) in
            let m : ℕ = names.1.0 in
            let count : ℕ = names.1.1 in
            let made : Object = record { class = m; length = count; words = code.words at.from.local m count } in
            let known : O 1 made = made_known q w m count names.0 names.1.2 in
            set_at-at (λ x. x ≡ Some o → 1 < o.words) (c n).objects q (Some made) r
            (λ e same. let one : made ≡ o = same_Some made o same in subst (λ (x : Object). 1 < x.words) one (fitting.threads 1 made known (subst (λ (x : Object). is_thread x.class ≡ true) (sym one) thread)))
            (λ e same. threads n r o (omega arith) same thread)
            (subst (λ next. objects_by code (SetHeader q w) at.from.local next (c n).objects r ≡ Some o) names.1.2 there)
        by_step s is r o there thread = threads n r o (omega arith) there thread

      next_threads : (x : Act) → ActAt code b c n x → (r : ℕ) (o : Object) → (c (suc n)).objects r ≡ Some o → is_thread o.class ≡ true → 1 < o.words
      next_threads (quiet t) at r o there thread = threads n r o (omega arith) (sym (ap (λ (z : Core S). z.objects r) at.leads) ∙ there) thread
      next_threads (beside t step a) at r o there thread = threads n r o (omega arith) (sym (ap (λ (z : Core S). z.objects r) at.leads) ∙ there) thread
      next_threads (did t step a) at r o there thread = by_step t step a at step refl r o (sym (ap (λ (z : Core S). z.objects r) at.leads) ∙ there) thread

    threads_to : (n : ℕ) → n ≤ length acts → ThreadsTo n
    threads_to zero low k r o within there thread =
        let is : k ≡ 0 = omega (arith, within) in
        fitting.threads r o (start.objects r o (subst (λ m. (c m).objects r ≡ Some o) is there)) thread
    threads_to (suc n) low k r o within there thread =
        let before = threads_to n (omega (arith, low)) in
        let act = get_some acts n (omega (arith, low)) in
        elim (leb_tells k n) [
          | inl less ↦ before k r o less.1 there thread
          | inr more ↦ (let is : k ≡ suc n = same k n more.1 within in
              next_threads n (omega (arith, low)) before act.0 (act_at code b c acts n act.0 run.run.leads act.1) r o (subst (λ m. (c m).objects r ≡ Some o) is there) thread)
        ]
      where
        same : (k n : ℕ) → n < k → k ≤ suc n → k ≡ suc n
        same k n more within = omega (arith, more, within)

    -- ---- the whole run

    whole : IsFreeRun code b is_thread first classes c acts
    whole = record {
      grounded = record {
        run = run.run;
        orderly = orderly;
        grounded = grounded;
        kept = start_words;
        local = run.local;
        closed = run.closed;
        starts = run.starts;
        ends = run.ends;
        in_bits = run.in_bits;
        begins = run.begins;
        heap = run.heap;
        class_words = run.class_words;
        threads = threads_to (length acts) (omega arith);
      };
      numbers = run.numbers;
      free = run.free;
      awake = run.awake;
      from_one = run.from_one;
    }

    kept_at : (k : ℕ) → k ≤ length acts → IsKeptState P W O (ordinary code is_thread (c k))
    kept_at k within = kept_so k within (threads_to k within)

    low_at : (k r : ℕ) (o : Object) → k ≤ length acts → (c k).objects r ≡ Some o → object_end r o ≤ 2 ^ 32
    low_at = objects_end code b is_thread first classes c acts whole run.taken

    -- ---- what can be asked for

    module _ (k t : ℕ) (th : ThreadState S) (within : k ≤ length acts) (stands : (c k).threads t ≡ Some th) (going : th.over ≡ false) where
      in_object : (r i : ℕ) (o : Option Object) → (c k).objects r ≡ o → IsSomeAnd o (λ x. i < x.words) → word_place r i < 2 ^ 32
      in_object r i (Some o) there inside = let end : object_end r o ≤ 2 ^ 32 = low_at k r o within there in omega (arith, end, inside)
      in_object r i None there inside = absurd inside

      new_asked : (m count : ℕ) (g : Attempt) → th.attempt ≡ g → AttemptFits th (Want (New m count)) g → code.next th.local ≡ Want (New m count) → 2 + code.words th.local m count < 2 ^ 64
      new_asked m count (Fixed (Split n r p)) is fits wanted = absurd fits
      new_asked m count g is fits wanted =
          let own : P (c k).objects th.local = own_known b (c k) t th stands (kept_at k within) going g is refl in
          let made : Object = record { class = m; length = count; words = code.words th.local m count } in
          let few : code.words th.local m count ≤ 2 ^ 32 = fitting.few 1 made (fitting.keeps.makes (c k).objects th.local m count 1 own wanted (omega arith) (omega arith)) in
          omega (arith, few)

      live_at : (g : Attempt) → th.attempt ≡ g → place_in code th.local g ≡ th.local → (ordinary code is_thread (c k)).threads t ≡ live th.local
      live_at g is same =
          ap (thread_in code ((c k).starting t)) stands ∙ (ap (λ x. if x then ended (end_wanted (code.next th.local)) else live (place_in code th.local th.attempt)) going ∙ ap (λ x. live x) (ap (place_in code th.local) is ∙ same))

      -- an object that is read or written is there
      read_there : (r i : ℕ) (g : Attempt) → th.attempt ≡ g → AttemptFits th (Want (Read r i)) g → code.next th.local ≡ Want (Read r i) → IsSomeAnd ((c k).objects r) (λ x. i < x.words)
      read_there r i (Fixed (Split n q p)) is fits wanted = absurd fits
      read_there r i g is fits wanted = (sound_so k within (threads_to k within)).all_there t th.local (Read r i) (live_at g is refl) wanted

      write_there : (r i v : ℕ) (g : Attempt) → th.attempt ≡ g → AttemptFits th (Want (Write r i v)) g → code.next th.local ≡ Want (Write r i v) → IsSomeAnd ((c k).objects r) (λ x. i < x.words)
      write_there r i v (Fixed (Split n q p)) is fits wanted = absurd fits
      write_there r i v g is fits wanted = (sound_so k within (threads_to k within)).all_there t th.local (Write r i v) (live_at g is refl) wanted

      asked_at : CanBeAsked code th.local (code.next th.local)
      asked_at = by_next (code.next th.local) refl
        where
          fits_next : (next : Next) → code.next th.local ≡ next → AttemptFits th next th.attempt
          fits_next next wanted = subst (λ x. AttemptFits th x th.attempt) wanted (attempt_fits k t th within stands)

          by_next : (next : Next) → code.next th.local ≡ next → CanBeAsked code th.local next
          by_next (Want (Read r i)) wanted = in_object r i ((c k).objects r) refl (read_there r i th.attempt refl (fits_next (Want (Read r i)) wanted) wanted)
          by_next (Want (Write r i v)) wanted = in_object r i ((c k).objects r) refl (write_there r i v th.attempt refl (fits_next (Want (Write r i v)) wanted) wanted)
          by_next (Want (New m count)) wanted = new_asked m count th.attempt refl (fits_next (Want (New m count)) wanted) wanted
          by_next next wanted = tt

    pub cores_are_kept : CoresAreKept code b is_thread first classes c acts P W O
    cores_are_kept = record {
      run = whole;
      kept = kept_at;
      low = low_at;
      asked = λ k t th within stands going. asked_at k t th within stands going;
    }

pub cores_keep : {S : Type 0} (code : Code S) → CoresKeep code
cores_keep code P W O is_thread fitting b first classes c acts orderly grounded start_words run start = cores_are_kept code is_thread P W O fitting b first classes c acts orderly grounded start_words run start
