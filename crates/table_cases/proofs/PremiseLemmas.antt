-- The programs of the tests are such that their threads can go on after each run.
use Rattle.std.proofs.Common.{◌≡◌, ◌⊎◌, inl, inr, ℕ, zero, suc, ◌+◌, ◌<◌, ◌^◌, false, true≢false, Option, None, Some, List, [], ◌∷◌, length, refl, sym, ◌∙◌, ap, subst, arith}
use Rattle.std.specs.Prelude.{slice_get}
use Rattle.std.specs.List.{All, AllByRecursion, AllPairs}
use Rattle.std.proofs.lemmas.List.Kept.{AllPairs-cons}
use Rattle.op_core.specs.declared.Op.{Op}
use Rattle.op_core.specs.declared.Op.TheVariants.{New, End}
use Rattle.op_core.specs.declared.script.ScriptStep.{ScriptStep}
use Rattle.op_core.specs.declared.script.ScriptStep.TheVariants.{Pass, Call, Return, Operation}
use Rattle.op_core.specs.InPlaceList.{IsAllThere, IsInRange}
use Rattle.op_core.specs.Orderly.{KeepsStartWord}
use Rattle.op_core.specs.OrderlyLaws.{IsOrderlyStep, IsOrderlyScript}
use Rattle.op_core.specs.OrdinaryState.{OrdinaryState, set_at, unused, live}
use Rattle.op_core.specs.Script.{ScriptState}
use Rattle.op_core.specs.ScriptLaws.{AllExecute, NamesWhatIsThere, script_at}
use Rattle.op_core.proofs.PointwiseLemmas.{set_at-hit, set_at-other, same_or_other}
use Rattle.fixed_objects.specs.declared.FixedObject.{FixedObject}
use Rattle.fixed_objects.specs.Opening.{opening_state}
use Rattle.plain_words.specs.Opening.{EndsBelow, LiesBehind, KeepsStartWord as KeepsItsStartWord}
use Rattle.opening_cores.specs.Laws.{HasRanges, TellsThreads}
use Rattle.opening_cores.specs.Openings.{CanBegin}
use Rattle.table_cases.specs.Program.{program_steps, kind_steps, waiting_steps, is_thread, program_objects as objects, program_opening as opening, limits_with}

-- ---- the script

-- each operation of a script is so
abbrev EachIs : (Op → Type 0) → List ScriptStep → Type 0
EachIs P [] = Unit {0}
EachIs P (Operation op ∷ rest) = P op × EachIs P rest
EachIs P (step ∷ rest) = EachIs P rest

each_at : (P : Op → Type 0) (script : List ScriptStep) → EachIs P script → (i : ℕ) (op : Op) → slice_get script i ≡ Some (Operation op) → P op
each_at P [] all i op at = absurd cc
each_at P (Operation x ∷ rest) all zero op at = subst P (same_op x op at) all.0
  where
    same_op : (x op : Op) → Some (Operation x) ≡ Some (Operation op) → x ≡ op
    same_op x op is = cc
each_at P (Pass ∷ rest) all zero op at = absurd cc
each_at P (Call ∷ rest) all zero op at = absurd cc
each_at P (Return ∷ rest) all zero op at = absurd cc
each_at P (Operation x ∷ rest) all (suc i) op at = each_at P rest all.1 i op at
each_at P (Pass ∷ rest) all (suc i) op at = each_at P rest all i op at
each_at P (Call ∷ rest) all (suc i) op at = each_at P rest all i op at
each_at P (Return ∷ rest) all (suc i) op at = each_at P rest all i op at

-- it makes no object of a thread
abbrev MakesNoThread : Op → Type 0
MakesNoThread (New c n) = is_thread c ≡ false
MakesNoThread op = Unit {0}

abbrev pub start_at : List ScriptStep → OrdinaryState ScriptState
start_at steps = opening_state opening (script_at steps 0)

-- what the steps of a script must be
pub record IsFitScript (steps : List ScriptStep) : Type 0 where
  pub some : 0 < length steps
  pub orderly : EachIs (IsOrderlyStep 4 (length steps)) steps
  pub last : (i : ℕ) → i + 1 ≡ length steps → (x : Option ℕ) × (slice_get steps i ≡ Some (Operation (End x)))
  pub there : EachIs (λ op. IsAllThere (start_at steps).objects op × IsInRange op) steps
  pub kept : EachIs (KeepsStartWord is_thread (start_at steps).objects) steps
  pub plain : EachIs MakesNoThread steps

module _ (steps : List ScriptStep) (fit : IsFitScript steps) where
  pub orderly : IsOrderlyScript steps 4
  orderly = record { each = each_at (IsOrderlyStep 4 (length steps)) steps fit.orderly; last = fit.last }

  pub all_execute : AllExecute steps (start_at steps)
  all_execute t l at = elim (same_or_other t 1) [
    | inl own ↦ ap (λ (x : ScriptState). x.steps) (sym (same_live first l (sym (ap (set_at (λ n. unused) 1 (live first)) own ∙ set_at-hit (λ n. unused) 1 (live first)) ∙ at)))
    | inr other ↦ absurd (no_live l (sym (set_at-other (λ n. unused) 1 (live first) t other) ∙ at))
  ]
    where
      first : ScriptState
      first = script_at steps 0

      same_live : (x y : ScriptState) → live x ≡ live y → x ≡ y
      same_live x y is = cc

      no_live : (y : ScriptState) → unused ≡ live y → ⊥
      no_live y is = cc

  pub names_there : NamesWhatIsThere steps (start_at steps)
  names_there i op at = each_at (λ op. IsAllThere (start_at steps).objects op × IsInRange op) steps fit.there i op at

  pub keep_start_words : (i : ℕ) (op : Op) → slice_get steps i ≡ Some (Operation op) → KeepsStartWord is_thread (start_at steps).objects op
  keep_start_words i op at = each_at (KeepsStartWord is_thread (start_at steps).objects) steps fit.kept i op at

  pub makes_no_thread : (i c n : ℕ) → slice_get steps i ≡ Some (Operation (New c n)) → is_thread c ≡ false
  makes_no_thread i c n at = each_at MakesNoThread steps fit.plain i (New c n) at

pub program_fits : IsFitScript program_steps
program_fits = record {
  some = omega arith;
  orderly = (omega arith, (tt, (tt, (tt, (tt, (tt, (tt, (tt, (tt, (tt, (tt, (tt, (tt, tt)))))))))))));
  last = λ i is. (None, ap (slice_get program_steps) (twelve i is));
  there = ((refl, (omega arith, omega arith)), ((refl, omega arith), ((refl, omega arith), ((omega arith, (omega arith, omega arith, omega arith)), ((refl, omega arith), ((refl, omega arith), ((tt, tt), ((tt, tt), ((refl, omega arith), ((refl, omega arith), ((refl, omega arith), ((refl, omega arith), ((tt, tt), tt)))))))))))));
  kept = ((refl, omega arith), (tt, (tt, ((λ no one. absurd (true≢false (sym no))), (tt, (tt, (tt, (tt, (tt, (tt, (tt, (tt, (tt, tt)))))))))))));
  plain = (tt, (tt, (tt, (tt, (tt, (tt, (tt, (tt, (tt, (tt, (tt, (tt, (tt, tt)))))))))))));
}
  where
    twelve : (i : ℕ) → i + 1 ≡ 13 → i ≡ 12
    twelve i is = omega (arith, is)

pub kinds_fit : IsFitScript kind_steps
kinds_fit = record {
  some = omega arith;
  orderly = (omega arith, (tt, (tt, (tt, (tt, (tt, (tt, (tt, (omega arith, (omega arith, (tt, (tt, (tt, (tt, (tt, (tt, (tt, (tt, (tt, tt)))))))))))))))))));
  last = λ i is. (None, ap (slice_get kind_steps) (eighteen i is));
  there = ((refl, (omega arith, omega arith)), ((refl, omega arith), ((omega arith, (omega arith, omega arith, omega arith)), ((refl, omega arith), ((refl, omega arith), ((refl, omega arith), ((refl, omega arith), ((tt, tt), ((tt, omega arith), ((tt, omega arith), ((tt, (omega arith, omega arith)), ((refl, omega arith), ((refl, omega arith), ((tt, tt), ((refl, omega arith), ((refl, omega arith), ((refl, omega arith), ((omega arith, (omega arith, omega arith)), ((tt, tt), tt)))))))))))))))))));
  kept = ((refl, omega arith), (tt, ((λ no one. absurd (true≢false (sym no))), (tt, (tt, (tt, ((refl, omega arith), (tt, (tt, (tt, (tt, (tt, (tt, (tt, (tt, (tt, (tt, ((λ no one. absurd (true≢false (sym no))), (tt, tt)))))))))))))))))));
  plain = (tt, (tt, (tt, (tt, (tt, (tt, (tt, (tt, (tt, (tt, (refl, (tt, (tt, (tt, (tt, (tt, (tt, (tt, (tt, tt)))))))))))))))))));
}
  where
    eighteen : (i : ℕ) → i + 1 ≡ 19 → i ≡ 18
    eighteen i is = omega (arith, is)

pub waiting_fits : IsFitScript waiting_steps
waiting_fits = record {
  some = omega arith;
  orderly = (tt, (tt, tt));
  last = λ i is. (None, ap (slice_get waiting_steps) (one i is));
  there = ((refl, omega arith), ((tt, tt), tt));
  kept = ((refl, omega arith), (tt, tt));
  plain = (tt, (tt, tt));
}
  where
    one : (i : ℕ) → i + 1 ≡ 2 → i ≡ 1
    one i is = omega (arith, is)

-- ---- the opening

all_of : {X : Type 0} (P : X → Type 0) (xs : List X) → AllByRecursion P xs → All P xs
all_of P [] all k d within = absurd (none k within)
  where
    none : (k : ℕ) → k < 0 → ⊥
    none k within = omega (arith, within)
all_of P (x ∷ xs) all zero d within = all.0
all_of P (x ∷ xs) all (suc k) d within = all_of P xs all.1 k d (omega (arith, within))

none_apart : AllPairs LiesBehind []
none_apart i j d less within = absurd (none i j less within)
  where
    none : (i j : ℕ) → i < j → j < 0 → ⊥
    none i j less within = omega (arith, less, within)

-- each object lies after those that are listed before it
abbrev Apart : List FixedObject → Type 0
Apart [] = Unit {0}
Apart (x ∷ xs) = AllByRecursion (LiesBehind x) xs × Apart xs

apart_of : (xs : List FixedObject) → Apart xs → AllPairs LiesBehind xs
apart_of [] all = none_apart
apart_of (x ∷ xs) all = AllPairs-cons LiesBehind x xs (all_of (LiesBehind x) xs all.0) (apart_of xs all.1)

pub can_begin : (turns : ℕ) → CanBegin is_thread (record { limits = limits_with turns; first = 20 }) opening
can_begin turns = record {
  place = record {
    first = omega arith;
    heap = omega arith;
    objects = record {
      below = all_of (EndsBelow 20) objects ((omega arith, omega arith), ((omega arith, omega arith), ((omega arith, omega arith), ((omega arith, omega arith), ((omega arith, omega arith), tt)))));
      apart = apart_of objects ((omega arith, (omega arith, (omega arith, (omega arith, tt)))), ((omega arith, (omega arith, (omega arith, tt))), ((omega arith, (omega arith, tt)), ((omega arith, tt), (tt, tt)))));
      starts = all_of KeepsItsStartWord objects ((λ some. refl), ((λ some. refl), ((λ some. absurd (zero_some some)), ((λ some. absurd (zero_some some)), ((λ some. absurd (zero_some some)), tt)))));
    };
    ready = all_of _ [] tt;
  };
  first = refl;
  ranges = all_of HasRanges objects (
    record { class = omega arith; size = omega arith; words = all_of (λ v. v < 2 ^ 32) (5 ∷ 0 ∷ 0 ∷ []) (omega arith, (omega arith, (omega arith, tt))); started = omega arith },
    (
      record { class = omega arith; size = omega arith; words = all_of (λ v. v < 2 ^ 32) (9 ∷ 0 ∷ 0 ∷ []) (omega arith, (omega arith, (omega arith, tt))); started = omega arith },
      (
        record { class = omega arith; size = omega arith; words = all_of (λ v. v < 2 ^ 32) ([]) tt; started = omega arith },
        (
          record { class = omega arith; size = omega arith; words = all_of (λ v. v < 2 ^ 32) ([]) tt; started = omega arith },
          (
            record { class = omega arith; size = omega arith; words = all_of (λ v. v < 2 ^ 32) (0 ∷ []) (omega arith, tt); started = omega arith },
            tt,
          ),
        ),
      ),
    ),
  );
  threads = all_of (TellsThreads is_thread) objects (
    record { thread = λ is. refl; other = λ no. absurd (true≢false no) },
    (
      record { thread = λ is. refl; other = λ no. refl },
      (
        record { thread = λ is. absurd (true≢false (sym is)); other = λ no. refl },
        (
          record { thread = λ is. absurd (true≢false (sym is)); other = λ no. refl },
          (
            record { thread = λ is. absurd (true≢false (sym is)); other = λ no. refl },
            tt,
          ),
        ),
      ),
    ),
  );
  main = record {
    main = refl;
    others = all_of (λ (o : FixedObject). (o.reference ≡ 1) ⊎ (o.started ≡ 0)) objects (inl refl, (inr refl, (inr refl, (inr refl, (inr refl, tt)))));
  };
  sections = omega arith;
}
  where
    zero_some : 0 < 0 → ⊥
    zero_some some = omega (arith, some)
