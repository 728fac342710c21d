-- Fixed objects that lie in a row.
use Rattle.std.proofs.Common.{◌≡◌, ◌⊎◌, inl, inr, ℕ, zero, suc, Bool, true, false, cond, nat_eq, None, reverse, subst, sym, ◌∙◌, append_assoc, ◌+◌, ◌<◌, ◌≤◌, List, [], ◌∷◌, ◌++◌, Some, map, length, get_or, refl, ap, arith}
use Rattle.std.specs.Prelude.{find}
use Rattle.std.specs.Option.{option_or}
use Rattle.std.proofs.lemmas.List.{reverse-append}
use Rattle.std.proofs.lemmas.List.Folds.{find-append}
use Rattle.std.proofs.lemmas.Bool.Decides.{nat_tests}
use Rattle.std.specs.List.{All, AllPairs, range_with_len}
use Rattle.std.proofs.lemmas.List.Elements.{All-append, All-map}
use Rattle.builtin_world.specs.declared.number.TheConstants.{COUNT, PRINT_STREAM}
use Rattle.code_decode.specs.declared.code.ClassUnit.{ClassUnit}
use Rattle.fixed_objects.specs.declared.FixedObject.{FixedObject}
use Rattle.fixed_objects.specs.Fixed.{fixed_start}
use Rattle.link_rules.specs.FixedObjects.{ObjectAtStart, objects_at_start, first_free, object_at_start, class_object_at_start, main_thread_at_start, main_thread_object, string_at_start, system_out_object, arguments_object, arguments_class}
use Rattle.link_rules.specs.Names.{ProgramNames, program_names, class_count}
use Rattle.link_rules.proofs.Numbers.{class_count_is}
use Rattle.link_rules.proofs.Objects.{objects_row}
use Rattle.link_rules.specs.Laws.{LieInARow}
use Rattle.plain_words.specs.Opening.{LiesBehind, KeepsStartWord}
use Rattle.java_rows.specs.Start.{fixed_object}
use Rattle.java_laws.specs.Laws.{OpeningsHavePlace, OpeningsLieBelowFirst, OpeningsStartMain}

-- from place `at` on, up to `end`
row_rises : (at end : ℕ) (os : List ObjectAtStart) → LieInARow at os end → at ≤ end
row_rises at end [] row = omega (arith, row)
row_rises at end (o ∷ os) row = omega (arith, row_rises (at + 2 + length o.words) end os row.1)

behind_place : (at end : ℕ) (os : List ObjectAtStart) → LieInARow at os end → (k : ℕ) (d : FixedObject) → k < length (map fixed_object os) → at ≤ (get_or (map fixed_object os) k d).reference
behind_place at end [] row k d below = absurd (omega (arith, below))
behind_place at end (o ∷ os) row zero d below = omega (arith, row.0)
behind_place at end (o ∷ os) row (suc k) d below =
    omega (arith, behind_place (at + 2 + length o.words) end os row.1 k d (omega (arith, below)))

before_end : (at end : ℕ) (os : List ObjectAtStart) → LieInARow at os end → (k : ℕ) (d : FixedObject) → k < length (map fixed_object os) → (get_or (map fixed_object os) k d).reference + 2 + length (get_or (map fixed_object os) k d).words ≤ end
before_end at end [] row k d below = absurd (omega (arith, below))
before_end at end (o ∷ os) row zero d below = omega (arith, row.0, row_rises (at + 2 + length o.words) end os row.1)
before_end at end (o ∷ os) row (suc k) d below = before_end (at + 2 + length o.words) end os row.1 k d (omega (arith, below))

lie_apart : (at end : ℕ) (os : List ObjectAtStart) → LieInARow at os end → AllPairs LiesBehind (map fixed_object os)
lie_apart at end [] row i j d order below = absurd (omega (arith, below))
lie_apart at end (o ∷ os) row i zero d order below = absurd (omega (arith, order))
lie_apart at end (o ∷ os) row zero (suc j) d order below =
    omega (arith, row.0, behind_place (at + 2 + length o.words) end os row.1 j d (omega (arith, below)))
lie_apart at end (o ∷ os) row (suc i) (suc j) d order below =
    lie_apart (at + 2 + length o.words) end os row.1 i j d (omega (arith, order)) (omega (arith, below))

-- only main's Thread has started a thread, and its word 1 is 0
abbrev KeepsAtStart : ObjectAtStart → Type 0
KeepsAtStart o = KeepsStartWord (fixed_object o)

all_cons : {X : Type 0} (P : X → Type 0) (x : X) (xs : List X) → P x → All P xs → All P (x ∷ xs)
all_cons P x xs first others zero d below = first
all_cons P x xs first others (suc k) d below = others k d (omega (arith, below))

none_started : {X : Type 0} (f : X → ObjectAtStart) (xs : List X) → ((x : X) → (f x).started ≡ 0) → All KeepsAtStart (map f xs)
none_started f [] none k d below = absurd (omega (arith, below))
none_started f (x ∷ xs) none zero d below = λ started. absurd (omega (arith, started, none x))
none_started f (x ∷ xs) none (suc k) d below = none_started f xs none k d (omega (arith, below))

numbers_below : (a n k d : ℕ) → k < length (range_with_len a n) → (a ≤ get_or (range_with_len a n) k d) × (get_or (range_with_len a n) k d < a + n)
numbers_below a zero k d below = absurd (omega (arith, below))
numbers_below a (suc n) zero d below = (omega arith, omega arith)
numbers_below a (suc n) (suc k) d below =
    let rest = numbers_below (a + 1) n k d (omega (arith, below)) in
    (omega (arith, rest.0), omega (arith, rest.1))

unstarted : (o : ObjectAtStart) → o.started ≡ 0 → KeepsAtStart o
unstarted o none = λ started. absurd (omega (arith, started, none))

objects_keep : (us : List ClassUnit) → All KeepsAtStart (objects_at_start (program_names us) us)
objects_keep us =
    let p : ProgramNames = program_names us in
    let classes : List ObjectAtStart = map (class_object_at_start p us) (range_with_len 1 (class_count p)) in
    let out : ObjectAtStart = object_at_start (system_out_object p) PRINT_STREAM 0 [] in
    let arguments : ObjectAtStart = object_at_start (arguments_object p) (arguments_class p) 0 [] in
    let strings : List ObjectAtStart = map (string_at_start p) (range_with_len 0 (length p.strings)) in
    let of_strings = none_started (string_at_start p) (range_with_len 0 (length p.strings)) (λ _. refl) in
    let from_arguments = all_cons KeepsAtStart arguments strings (unstarted arguments refl) of_strings in
    let from_thread = all_cons KeepsAtStart (main_thread_at_start p) (arguments ∷ strings) (λ _. refl) from_arguments in
    let from_out = all_cons KeepsAtStart out (main_thread_at_start p ∷ arguments ∷ strings) (unstarted out refl) from_thread in
    All-append KeepsAtStart classes (out ∷ main_thread_at_start p ∷ arguments ∷ strings)
    (none_started (class_object_at_start p us) (range_with_len 1 (class_count p)) (λ _. refl)) from_out

pub openings_have_place : OpeningsHavePlace
openings_have_place us limits heap =
    let row = objects_row us in
    record {
      first = omega (arith, row_rises 1 (first_free (program_names us)) (objects_at_start (program_names us) us) row);
      heap = heap;
      objects = record {
        below = λ k d below. (omega (arith, behind_place 1 (first_free (program_names us)) (objects_at_start (program_names us) us) row k d below), before_end 1 (first_free (program_names us)) (objects_at_start (program_names us) us) row k d below);
        apart = lie_apart 1 (first_free (program_names us)) (objects_at_start (program_names us) us) row;
        starts = All-map KeepsStartWord fixed_object (objects_at_start (program_names us) us) (objects_keep us);
      };
      ready = λ k d below.
          let is = numbers_below 1 COUNT k d below in
          (omega (arith, is.0), omega (arith, is.1, class_count_is us));
    }

pub openings_lie_below_first : OpeningsLieBelowFirst
openings_lie_below_first us =
    let row = objects_row us in
    record {
      first = omega (arith, row_rises 1 (first_free (program_names us)) (objects_at_start (program_names us) us) row);
      objects = λ k d below. (omega (arith, behind_place 1 (first_free (program_names us)) (objects_at_start (program_names us) us) row k d below), omega (arith, before_end 1 (first_free (program_names us)) (objects_at_start (program_names us) us) row k d below));
    }

-- ---- main's Thread is found by its reference, and alone has started a thread

abbrev is_at : ℕ → FixedObject → Bool
is_at r o = nat_eq r o.reference

-- a list from the end
last_of : {X : Type 0} (x : X) (xs : List X) → reverse (x ∷ xs) ≡ reverse xs ++ x ∷ []
last_of x xs = reverse-append (x ∷ []) xs

none_at : (r at end : ℕ) (os : List ObjectAtStart) → r < at → LieInARow at os end → find (is_at r) (reverse (map fixed_object os)) ≡ None
none_at r at end [] less row = refl
none_at r at end (o ∷ os) less row =
    let others = none_at r (at + 2 + length o.words) end os (omega (arith, less)) row.1 in
    let test : nat_eq r o.reference ≡ false = grind (arith, nat_tests, row.0) in
    ap (find (is_at r)) (last_of (fixed_object o) (map fixed_object os))
    ∙ find-append (is_at r) (reverse (map fixed_object os)) (fixed_object o ∷ [])
    ∙ ap (λ found. option_or found (find (is_at r) (fixed_object o ∷ []))) others
    ∙ ap (λ b. cond b (Some (fixed_object o)) None) test

found_at : (at end : ℕ) (before : List ObjectAtStart) (m : ObjectAtStart) (behind : List ObjectAtStart) → LieInARow at (before ++ m ∷ behind) end → find (is_at m.reference) (reverse (map fixed_object (before ++ m ∷ behind))) ≡ Some (fixed_object m)
found_at at end [] m behind row =
    let others = none_at m.reference (at + 2 + length m.words) end behind (omega (arith, row.0)) row.1 in
    let test : nat_eq m.reference m.reference ≡ true = grind (arith, nat_tests) in
    ap (find (is_at m.reference)) (last_of (fixed_object m) (map fixed_object behind))
    ∙ find-append (is_at m.reference) (reverse (map fixed_object behind)) (fixed_object m ∷ [])
    ∙ ap (λ found. option_or found (find (is_at m.reference) (fixed_object m ∷ []))) others
    ∙ ap (λ b. cond b (Some (fixed_object m)) None) test
found_at at end (o ∷ before) m behind row =
    let others = found_at (at + 2 + length o.words) end before m behind row.1 in
    ap (find (is_at m.reference)) (last_of (fixed_object o) (map fixed_object (before ++ m ∷ behind)))
    ∙ find-append (is_at m.reference) (reverse (map fixed_object (before ++ m ∷ behind))) (fixed_object o ∷ [])
    ∙ ap (λ found. option_or found (find (is_at m.reference) (fixed_object o ∷ []))) others

all_mapped : {X Y : Type 0} (P : Y → Type 0) (f : X → Y) (xs : List X) → ((x : X) → P (f x)) → All P (map f xs)
all_mapped P f [] holds k d below = absurd (omega (arith, below))
all_mapped P f (x ∷ xs) holds zero d below = holds x
all_mapped P f (x ∷ xs) holds (suc k) d below = all_mapped P f xs holds k d (omega (arith, below))

module _ (us : List ClassUnit) where
  abbrev classes : List ObjectAtStart
  classes = map (class_object_at_start (program_names us) us) (range_with_len 1 (class_count (program_names us)))

  abbrev out : ObjectAtStart
  out = object_at_start (system_out_object (program_names us)) PRINT_STREAM 0 []

  abbrev behind : List ObjectAtStart
  behind = object_at_start (arguments_object (program_names us)) (arguments_class (program_names us)) 0 [] ∷ map (string_at_start (program_names us)) (range_with_len 0 (length (program_names us).strings))

  abbrev HasStarted : FixedObject → Type 0
  HasStarted o = o.reference ≡ main_thread_object (program_names us) ⊎ (o.started ≡ 0)

  parts : (classes ++ out ∷ []) ++ main_thread_at_start (program_names us) ∷ behind ≡ objects_at_start (program_names us) us
  parts = append_assoc classes (out ∷ []) (main_thread_at_start (program_names us) ∷ behind)

  found : find (is_at (main_thread_object (program_names us))) (reverse (map fixed_object (objects_at_start (program_names us) us))) ≡ Some (fixed_object (main_thread_at_start (program_names us)))
  found =
      ap (λ os. find (is_at (main_thread_object (program_names us))) (reverse (map fixed_object os))) (sym parts)
      ∙ found_at 1 (first_free (program_names us)) (classes ++ out ∷ []) (main_thread_at_start (program_names us)) behind (subst (λ os. LieInARow 1 os (first_free (program_names us))) (sym parts) (objects_row us))

  abbrev Started : ObjectAtStart → Type 0
  Started o = HasStarted (fixed_object o)

  whole : All Started (objects_at_start (program_names us) us)
  whole =
      All-append Started classes (out ∷ main_thread_at_start (program_names us) ∷ behind)
      (all_mapped Started (class_object_at_start (program_names us) us) (range_with_len 1 (class_count (program_names us))) (λ _. inr refl))
      (all_cons Started out (main_thread_at_start (program_names us) ∷ behind) (inr refl)
      (all_cons Started (main_thread_at_start (program_names us)) behind (inl refl)
      (all_cons Started (object_at_start (arguments_object (program_names us)) (arguments_class (program_names us)) 0 []) (map (string_at_start (program_names us)) (range_with_len 0 (length (program_names us).strings))) (inr refl)
      (all_mapped Started (string_at_start (program_names us)) (range_with_len 0 (length (program_names us).strings)) (λ _. inr refl)))))

pub openings_start_main : OpeningsStartMain
openings_start_main us = record { main = ap fixed_start (found us); others = All-map (HasStarted us) fixed_object (objects_at_start (program_names us) us) (whole us) }
