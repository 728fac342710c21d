-- The layout of objects along a run.
use Rattle.std.proofs.Common.{◌≡◌, inl, inr, ℕ, suc, ◌<◌, ◌≤◌, Bool, true, Option, None, Some, List, length, refl, sym, ◌∙◌, ap, subst, arith}
use Rattle.std.specs.Prelude.{slice_get, is_some}
use Rattle.std.proofs.lemmas.Bool.Decides.{leb_tells}
use Rattle.std.proofs.lemmas.Option.{same_Some, slice_get_within}
use Rattle.op_core.specs.declared.Op.TheVariants.{New}
use Rattle.op_core.specs.declared.Next.TheVariants.{Want}
use Rattle.op_core.specs.ThreadCode.{Code}
use Rattle.op_core.specs.OrdinaryState.{Object, IsThere}
use Rattle.op_core.proofs.PointwiseLemmas.{set_at-hit}
use Rattle.heap_words.specs.declared.areas.Area.{Area}
use Rattle.step_port.specs.declared.answer.StepAnswer.{StepAnswer}
use Rattle.step_port.specs.declared.step.Step.{Step}
use Rattle.step_port.specs.declared.step.Step.TheVariants.{SetHeader, LoadStop, SetStop, LookMonitor, LookSection, BreakLevel}
use Rattle.step_port.specs.declared.step.Effect.TheVariants.{Exchange}
use Rattle.step_port.specs.Steps.{place_of, effect_of}
use Rattle.step_port.specs.Words.{Words, words_after}
use Rattle.section_state.specs.SectionWord.{revoked_of}
use Rattle.thread_automaton.specs.declared.Bounds.{Bounds}
use Rattle.thread_automaton.specs.ThreadState.{ThreadState}
use Rattle.thread_automaton.specs.NextMove.{words_asked}
use Rattle.core_runs.specs.OwnParts.{is_beside}
use Rattle.core_runs.specs.Cores.{Core, objects_by}
use Rattle.core_runs.specs.Acts.{Act, quiet, did, beside, DidAt, ActAt, ActFrom}
use Rattle.section_laws.proofs.WordLemmas.{stays_at}
use Rattle.section_laws.proofs.ClaimLemmas.{none_some}
use Rattle.section_laws.proofs.RunLemmas.{act_at, along, Known, facts_at}
use Rattle.section_laws.specs.Layout.{Objects, object_end, IsLaidRun, RunsKeepLayout, ObjectsStay, IsNewObject, NewObjectsAreEmpty, ThreadsNameObjects}
use Rattle.section_laws.specs.Places.{FitsNumber, IsInObject, StepsStayInObjects}
use Rattle.section_laws.proofs.run_layout.ListLemmas.{In, in_list, Holds, WasMarked}
use Rattle.section_laws.proofs.run_layout.NameLemmas.{Names, step_names}
use Rattle.section_laws.proofs.run_layout.OwnedLemmas.{new_place}
use Rattle.section_laws.proofs.run_layout.LaidLemmas.{There, NextFits, size_of, Laid, new_object, grows, step_laid}
use Rattle.section_laws.proofs.run_layout.PlaceLemmas.{object_other, Place, in_object, in_block, step_place, new_apart}
use Rattle.section_laws.proofs.run_layout.FillLemmas.{Filled, step_filled, handed_laid, quiet_laid}

-- a step beside those of threads changes no word of an object, and takes none
pub beside_object : (step : Step) → is_beside step ≡ true → (w : Words) (at : ℕ) → words_after step w (Area.Object at) ≡ w (Area.Object at)
beside_object LoadStop is w at = refl
beside_object SetStop is w at = refl
beside_object (LookMonitor r) is w at = refl
beside_object (LookSection s) is w at = refl
beside_object (BreakLevel s old level) is w at = stays_at (Exchange old (revoked_of old level)) w (Area.Section s) (Area.Object at) refl
beside_object step is w at = cc

pub beside_control : (step : Step) → is_beside step ≡ true → (w : Words) → words_after step w (Area.Control 2) ≡ w (Area.Control 2)
beside_control LoadStop is w = refl
beside_control SetStop is w = refl
beside_control (LookMonitor r) is w = refl
beside_control (LookSection s) is w = refl
beside_control (BreakLevel s old level) is w = stays_at (Exchange old (revoked_of old level)) w (Area.Section s) (Area.Control 2) refl
beside_control step is w = cc

-- what is so at a place, and stays so with each act from there on, is so at each later place
pub along_from : {S : Type 0} (code : Code S) (b : Bounds) (c : ℕ → Core S) (acts : List Act) → ActFrom code b c 0 acts → (P : ℕ → Type 0) (k : ℕ) → P k
    → ((n : ℕ) (x : Act) → k ≤ n → slice_get acts n ≡ Some x → ActAt code b c n x → P n → P (suc n)) → (j : ℕ) → k ≤ j → j ≤ length acts → P j
along_from code b c acts leads P k start step j up within =
    along code b c acts leads (λ n. k ≤ n → P n) (λ low. subst P (omega (arith, low)) start)
    (λ n x here at so low. elim (leb_tells k n) [
      | inl less ↦ step n x less.1 here at (so less.1)
      | inr more ↦ subst P (omega (arith, low, more.1)) start
    ]) j within up

module _ {S : Type 0} (code : Code S) (b : Bounds) (is_thread : ℕ → Bool) (c : ℕ → Core S) (acts : List Act) (run : IsLaidRun code b is_thread c acts) where
  abbrev pub LaidAt : ℕ → Type 0
  LaidAt k = Laid code b is_thread (c 0).objects (c k).words (c k).objects (c k).threads × Filled code b (c k).words (c k).objects (c k).threads

  pub fits_at : (k t : ℕ) (th : ThreadState S) → k < length acts → (c k).threads t ≡ Some th → NextFits is_thread (c k).objects (code.next th.local)
  fits_at k t th within stands op is = run.wants k t th op within stands is

  within_acts : (k : ℕ) (x : Act) → slice_get acts k ≡ Some x → k < length acts
  within_acts k x here = slice_get_within acts k x here

  up_to : (k : ℕ) → k < length acts → k ≤ length acts
  up_to k within = omega (arith, within)

  pub known_at : (k : ℕ) → k ≤ length acts → Known code (c k)
  known_at k within = facts_at code b c acts run.run k within

  beside_laid : (k : ℕ) (step : Step) → is_beside step ≡ true → LaidAt k
      → Laid code b is_thread (c 0).objects (words_after step (c k).words) (c k).objects (c k).threads × Filled code b (words_after step (c k).words) (c k).objects (c k).threads
  beside_laid k step is (laid, filled) =
      let w = (c k).words in
      let count = beside_control step is w in (
        record {
          apart = laid.apart;
          low = λ r o there. let was = laid.low r o there in omega (arith, was, count);
          in_range = laid.in_range;
          from = laid.from;
          held = laid.held;
          marked = laid.marked;
          logged = laid.logged;
          room = λ u r th there new. let room = laid.room u r th there new in record {
            low = let was = room.low in omega (arith, was, count);
            within = room.within;
            high = room.high;
            some = room.some;
            objects_apart = room.objects_apart;
            others_apart = room.others_apart;
          };
        },
        record {
          headers = λ r o there. beside_object step is w r ∙ filled.headers r o there;
          unused = λ at high. beside_object step is w at ∙ filled.unused at (omega (arith, high, count));
          empty = λ u r th there new at from below. beside_object step is w at ∙ filled.empty u r th there new at from below;
        },
      )

  act_laid : (k : ℕ) (x : Act) → slice_get acts k ≡ Some x → ActAt code b c k x → LaidAt k → LaidAt (suc k)
  act_laid k (quiet t) here at laid =
      subst (λ z. Laid code b is_thread (c 0).objects z.words z.objects z.threads × Filled code b z.words z.objects z.threads) (sym at.leads)
      (quiet_laid code b is_thread (c 0).objects (c k).words (c k).objects (c k).threads t at.from at.local at.stands laid)
  act_laid k (did t step a) here at laid =
      let within = within_acts k (did t step a) here in
      let fits = ((known_at k (up_to k within)).fit t at.from at.stands).attempt in
      let all = fits_at k t at.from within at.stands in
      subst (λ z. Laid code b is_thread (c 0).objects z.words z.objects z.threads × Filled code b z.words z.objects z.threads) (sym at.leads)
      (handed_laid code b is_thread (c 0).objects (words_after step (c k).words) (objects_by code step at.from.local (code.next at.from.local) (c k).objects) step at.from.local _ (
        step_laid code b is_thread (c 0).objects (c k).words (c k).objects (c k).threads laid.0 t at.from at.stands step a fits at.move at.answered all,
        step_filled code b is_thread (c 0).objects (c k).words (c k).objects (c k).threads laid.0 t at.from at.stands step a fits at.move at.answered all laid.1,
      ))
  act_laid k (beside t step a) here at laid =
      subst (λ z. Laid code b is_thread (c 0).objects z.words z.objects z.threads × Filled code b z.words z.objects z.threads) (sym at.leads) (beside_laid k step at.is laid)

  first_laid : LaidAt 0
  first_laid = (
    record {
      apart = run.begins.apart;
      low = run.begins.low;
      in_range = run.begins.in_range;
      from = λ r o there. inl there;
      held = λ u q th at there. absurd (subst (λ held. Holds held q) (ap (λ (x : ThreadState S). x.held) (run.run.begins.threads u th at).3) there).1;
      marked = λ u q th at there. absurd (subst (λ marks. WasMarked marks q) (ap (λ (x : ThreadState S). x.marks) (run.run.begins.threads u th at).3) there).1;
      logged = λ u x th at there. absurd (subst (In x) (ap (λ (y : ThreadState S). y.log) (run.run.begins.threads u th at).3) there);
      room = λ u r th at new. none_some r (sym (ap (λ (x : ThreadState S). new_place x.attempt) (run.run.begins.threads u th at).3) ∙ new);
    },
    record {
      headers = run.begins.headers;
      unused = run.begins.unused;
      empty = λ u r th at new. none_some r (sym (ap (λ (x : ThreadState S). new_place x.attempt) (run.run.begins.threads u th at).3) ∙ new);
    },
  )

  pub laid_at : (k : ℕ) → k ≤ length acts → LaidAt k
  laid_at k within = along code b c acts run.run.leads LaidAt first_laid (λ n x here at so. act_laid n x here at so) k within

  -- ---- objects stay

  act_grows : (k : ℕ) (x : Act) → slice_get acts k ≡ Some x → ActAt code b c k x → (q : ℕ) (p : Object) → (c k).objects q ≡ Some p → (c (suc k)).objects q ≡ Some p
  act_grows k (quiet t) here at q p there = ap (λ z. z.objects q) at.leads ∙ there
  act_grows k (beside t step a) here at q p there = ap (λ z. z.objects q) at.leads ∙ there
  act_grows k (did t step a) here at q p there =
      let within = within_acts k (did t step a) here in
      ap (λ z. z.objects q) at.leads
      ∙ grows code b is_thread (c 0).objects (c k).words (c k).objects (c k).threads (laid_at k (up_to k within)).0 t at.from at.stands step a
      ((known_at k (up_to k within)).fit t at.from at.stands).attempt at.move at.answered (fits_at k t at.from within at.stands) q p there

  pub stays : (k m q : ℕ) (p : Object) → k ≤ m → m ≤ length acts → (c k).objects q ≡ Some p → (c m).objects q ≡ Some p
  stays k m q p up within there = along_from code b c acts run.run.leads (λ n. (c n).objects q ≡ Some p) k there (λ n x more here at so. act_grows n x here at q p so) m up within

  -- ---- where steps are made

  module _ (k t : ℕ) (step : Step) (a : StepAnswer) (here : slice_get acts k ≡ Some (did t step a)) (at : DidAt code b c k t step a) where
    within : k < length acts
    within = within_acts k (did t step a) here

    abbrev pub PlaceAt : ℕ → Type 0
    PlaceAt place = Place is_thread (c k).objects at.from (code.next at.from.local) step place

    pub place_at : (place : ℕ) → place_of step ≡ Area.Object place → PlaceAt place
    place_at place on = step_place code b is_thread (c 0).objects (c k).words (c k).objects (c k).threads (laid_at k (up_to k within)).0 t at.from at.stands step
        ((known_at k (up_to k within)).fit t at.from at.stands).attempt at.move (fits_at k t at.from within at.stands) place on

    -- the new object is there
    new_there : (r v m n : ℕ) → step ≡ SetHeader r v → code.next at.from.local ≡ Want (New m n)
        → (c (suc k)).objects r ≡ Some (new_object code at.from.local m n)
    new_there r v m n sets wants =
        ap (λ z. z.objects r) at.leads ∙ ap (λ s. objects_by code s at.from.local (code.next at.from.local) (c k).objects r) sets
        ∙ ap (λ next. objects_by code (SetHeader r v) at.from.local next (c k).objects r) wants ∙ set_at-hit (c k).objects r (Some (new_object code at.from.local m n))

    -- none was there
    new_free : (r v : ℕ) → step ≡ SetHeader r v → new_place at.from.attempt ≡ Some r → (o : Option Object) → (c k).objects r ≡ o → o ≡ None
    new_free r v sets new None none = refl
    new_free r v sets new (Some o) there = absurd (new_apart code b is_thread (c 0).objects (c k).words (c k).objects (c k).threads (laid_at k (up_to k within)).0 t at.from at.stands step
        ((known_at k (up_to k within)).fit t at.from at.stands).attempt at.move (fits_at k t at.from within at.stands) r r 0 o new there (omega arith) (omega arith))

    new_empty : (r v m n : ℕ) → step ≡ SetHeader r v → new_place at.from.attempt ≡ Some r → code.next at.from.local ≡ Want (New m n)
        → (p : ℕ) → r < p → p < object_end r (new_object code at.from.local m n) → (c (suc k)).words (Area.Object p) ≡ 0
    new_empty r v m n sets new wants p above below =
        let so = laid_at k (up_to k within) in
        let size : size_of code at.from.local (code.next at.from.local) ≡ words_asked code at.from.local m n = ap (λ next. size_of code at.from.local next) wants in
        ap (λ z. z.words (Area.Object p)) at.leads ∙ ap (λ s. words_after s (c k).words (Area.Object p)) sets
        ∙ stays_at (effect_of (SetHeader r v)) (c k).words (Area.Object r) (Area.Object p) (object_other p r (λ same. above_not p r above same))
        ∙ so.1.empty t r at.from at.stands new p (omega (arith, above)) (omega (arith, below, size))
      where
        above_not : (p r : ℕ) → r < p → p ≡ r → ⊥
        above_not p r above same = omega (arith, above, same)

    pub is_new : (r v : ℕ) → step ≡ SetHeader r v → (m n : ℕ) × (code.next at.from.local ≡ Want (New m n)) × IsNewObject b c k r (new_object code at.from.local m n)
    is_new r v sets =
        let names = subst (Names at.from (code.next at.from.local) at.from.attempt) sets (step_names code b at.from step ((known_at k (up_to k within)).fit t at.from at.stands).attempt at.move) in
        let new : new_place at.from.attempt ≡ Some r = ap new_place names.0 in
        let m : ℕ = names.1.0 in
        let n : ℕ = names.1.1 in
        let wants : code.next at.from.local ≡ Want (New m n) = names.1.2 in
        let room = (laid_at k (up_to k within)).0.room t r at.from at.stands new in
        let size : size_of code at.from.local (code.next at.from.local) ≡ words_asked code at.from.local m n = ap (λ next. size_of code at.from.local next) wants in
        let last = room.within in (
          m,
          n,
          wants,
          record {
            none = new_free r v sets new ((c k).objects r) refl;
            there = new_there r v m n sets wants;
            first = room.high;
            last = omega (arith, last, size);
            empty = λ p above below. new_empty r v m n sets new wants p above below;
          },
        )

    made_in : (place : ℕ) → PlaceAt place → IsInObject is_thread (c (suc k)).objects step place
    made_in place (in_object none so) = record {
      r = so.r;
      o = so.o;
      there = stays k (suc k) so.r so.o (omega arith) within so.there;
      number = so.number;
      below = so.below;
      place = so.place;
      fits = so.fits;
    }
    made_in place (in_block v sets new names) = record {
      r = place;
      o = new_object code at.from.local names.0 names.1;
      there = new_there place v names.0 names.1 sets names.2;
      number = 0;
      below = omega arith;
      place = omega arith;
      fits = subst (FitsNumber (is_thread names.0) 0) (sym sets) refl;
    }

pub runs_keep_layout : {S : Type 0} (code : Code S) → RunsKeepLayout code
runs_keep_layout code b is_thread c acts run k within =
    let so = laid_at code b is_thread c acts run k within in
    record { apart = so.0.apart; low = so.0.low; in_range = so.0.in_range; headers = so.1.headers; unused = so.1.unused }

pub objects_stay : {S : Type 0} (code : Code S) → ObjectsStay code
objects_stay code b is_thread c acts run j k r o up within there = stays code b is_thread c acts run j k r o up within there

pub new_objects : {S : Type 0} (code : Code S) → NewObjectsAreEmpty code
new_objects code b is_thread c acts run k t r w th a here stands =
    let at = act_at code b c acts k (did t (SetHeader r w) a) run.run.leads here in
    let same : at.from ≡ th = same_Some at.from th (sym at.stands ∙ stands) in
    subst (λ (z : ThreadState _). (m n : ℕ) × (code.next z.local ≡ Want (New m n)) × IsNewObject b c k r (new_object code z.local m n)) same
    (is_new code b is_thread c acts run k t (SetHeader r w) a here at r w refl)

some_there : (objects : Objects) (r : ℕ) → There objects r → IsThere objects r
some_there objects r (o, there) = ap is_some there

pub names_there : {S : Type 0} (code : Code S) → ThreadsNameObjects code
names_there code b is_thread c acts run k t th within stands =
    let laid = (laid_at code b is_thread c acts run k within).0 in
    record {
      logged = λ x there. laid.logged t x th stands (in_list x th.log there);
      held = λ h there. some_there (c k).objects h.object (laid.held t h.object th stands (h, in_list h th.held there, refl));
      marked = λ m h there inside. some_there (c k).objects h.object (laid.marked t h.object th stands (m, in_list m th.marks there, (h, in_list h m.held inside, refl)));
    }

pub steps_stay : {S : Type 0} (code : Code S) → StepsStayInObjects code
steps_stay code b is_thread c acts run k t place step a here on =
    let at = act_at code b c acts k (did t step a) run.run.leads here in
    made_in code b is_thread c acts run k t step a here at place (place_at code b is_thread c acts run k t step a here at place on)
