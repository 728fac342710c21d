-- Class objects one after the other.
use Rattle.std.proofs.Common.{◌≡◌, ◌≢◌, ℕ, zero, suc, ◌+◌, ◌-◌, ◌*◌, ◌^◌, ◌<◌, ◌≤◌, List, [], ◌∷◌, ◌++◌, length, take, sum_by, get_or, slice_get, All, Some, inl, inr, refl, sym, ap, subst, ◌∙◌, arith}
use Rattle.std.specs.List.{range_with_len}
use Rattle.std.proofs.lemmas.Bool.{cases_lt, cases_eq}
use Rattle.std.proofs.lemmas.List.{length-take-le, length_push, take_all}
use Rattle.std.proofs.lemmas.List.Sums.{sum_by-append, sum_by_push}
use Rattle.std.proofs.lemmas.Option.{slice_get_within, slice_get-get_or}
use Rattle.class_read.proofs.FindLaws.{take_next}
use Rattle.code_decode.specs.declared.code.ClassUnit.{ClassUnit}
use Rattle.link_rules.specs.Classes.{NamedClass, classes_of}
use Rattle.link_rules.specs.Names.{program_names}
use Rattle.link_rules.specs.Layout.{static_words}
use Rattle.link_rules.specs.FixedObjects.{class_object, class_object_size}
use Rattle.link_rules.specs.Units.{AreUnits}
use Rattle.link_rules.proofs.Objects.{range_more}
use Rattle.link_rules.proofs.Numbers.{past_all}
use Rattle.link_rules.proofs.Lists.{before_at}
use Rattle.class_supers.proofs.AboveLaws.{last_at}
use Rattle.class_layout.specs.declared.row.ClassRow.{ClassRow}
use Rattle.class_layout.specs.Rows.{AreRowsOf}
use Rattle.class_layout.specs.declared.object_places.ObjectPlaces.{ObjectPlaces}
use Rattle.class_layout.specs.Objects.{object_size, behind, ArePlacesOf}
use Rattle.class_layout.proofs.RowLaws.{no_statics, statics_few}

pub behind_more : (rows : List ClassRow) (i : ℕ) (r : ClassRow) → slice_get rows i ≡ Some r → behind rows (i + 1) ≡ behind rows i + (2 + r.static_words)
behind_more rows i r at =
    let next : take (i + 1) rows ≡ take i rows ++ r ∷ [] = take_next rows i r at in
    let sum : sum_by object_size (take i rows ++ r ∷ []) ≡ sum_by object_size (take i rows) + object_size r = sum_by_push object_size (take i rows) r in
    let same : behind rows (i + 1) ≡ 1 + sum_by object_size (take i rows ++ r ∷ []) = ap (λ xs. 1 + sum_by object_size xs) next in
    omega arith

-- the class objects of the first rows have their places
pub record FirstHavePlaces (rows : List ClassRow) (n : ℕ) (objects : List ℕ) (end : ℕ) : Type 0 where
  pub within : n ≤ length rows
  pub count : length objects ≡ n
  pub each : (i : ℕ) → i < n → slice_get objects i ≡ Some (behind rows i)
  pub end_is : end ≡ behind rows n
  pub small : end ≤ 1 + 131074 * n

pub places_more : (rows : List ClassRow) (n : ℕ) (r : ClassRow) (old new : List ℕ) (end next : ℕ) → slice_get rows n ≡ Some r → r.static_words < 131072
    → FirstHavePlaces rows n old end → new ≡ old ++ end ∷ [] → next ≡ end + (2 + r.static_words) → FirstHavePlaces rows (n + 1) new next
places_more rows n r old new end next at few have push more = record {
  within = (let lt = slice_get_within rows n r at in omega arith);
  count = ap length push ∙ length_push old end ∙ ap (λ m. m + 1) have.count;
  each = λ i lt. elim (cases_lt i n) [
    | inl before ↦ ap (λ xs. slice_get xs i) push ∙ before_at old (end ∷ []) i (let count = have.count in omega arith) ∙ have.each i before
    | inr past ↦
        let here : i ≡ n = omega arith in
        ap (λ xs. slice_get xs i) push ∙ last_at old end i (here ∙ sym have.count) ∙ ap (λ x. Some x) (have.end_is ∙ ap (behind rows) (sym here))
  ];
  end_is = more ∙ ap (λ m. m + (2 + r.static_words)) have.end_is ∙ sym (behind_more rows n r at);
  small = (let small = have.small in omega arith);
}

-- ---- the classes of a program

static_at : (cs : List NamedClass) (rows : List ClassRow) → AreRowsOf cs rows → (i : ℕ) (r : ClassRow) → slice_get rows i ≡ Some r → r.static_words ≡ static_words cs (suc i)
static_at cs rows are i r at = (are.each (suc i) r at).statics

-- the place after the first class objects is that of the next class object
pub object_behind : (us : List ClassUnit) (rows : List ClassRow) → AreRowsOf (classes_of us) rows → (i : ℕ) → i ≤ length rows → behind rows i ≡ class_object (program_names us) (suc i)
object_behind us rows are zero le = refl
object_behind us rows are (suc i) le =
    let r : ClassRow = get_or rows i (record { places = []; static_words = 0; instance_words = 0 }) in
    let at : slice_get rows i ≡ Some (get_or rows i (record { places = []; static_words = 0; instance_words = 0 })) = slice_get-get_or rows i (record { places = []; static_words = 0; instance_words = 0 }) (omega arith) in
    let same : i + 1 ≡ suc i = omega arith in
    let more : behind rows (suc i) ≡ behind rows i + (2 + r.static_words) = ap (behind rows) (sym same) ∙ behind_more rows i (get_or rows i (record { places = []; static_words = 0; instance_words = 0 })) at in
    let statics : r.static_words ≡ static_words (classes_of us) (suc i) = static_at (classes_of us) rows are i r at in
    let before : behind rows i ≡ class_object (program_names us) (suc i) = object_behind us rows are i (omega arith) in
    more ∙ next i (behind rows i) r.static_words before statics
  where
    next : (i b w : ℕ) → b ≡ class_object (program_names us) (suc i) → w ≡ static_words (classes_of us) (suc i) → b + (2 + w) ≡ class_object (program_names us) (suc (suc i))
    next i b w is size =
        let sum : sum_by (class_object_size (classes_of us)) (range_with_len 1 (suc i)) ≡ sum_by (class_object_size (classes_of us)) (range_with_len 1 i) + class_object_size (classes_of us) (1 + i) = range_more 1 i (class_object_size (classes_of us)) in
        let here : suc i - 1 ≡ i = omega arith in
        let there : suc (suc i) - 1 ≡ suc i = omega arith in
        let one : 1 + i ≡ suc i = omega arith in
        let first : class_object (program_names us) (suc i) ≡ 1 + sum_by (class_object_size (classes_of us)) (range_with_len 1 i) = ap (λ k. 1 + sum_by (class_object_size (classes_of us)) (range_with_len 1 k)) here in
        let second : class_object (program_names us) (suc (suc i)) ≡ 1 + sum_by (class_object_size (classes_of us)) (range_with_len 1 (suc i)) = ap (λ k. 1 + sum_by (class_object_size (classes_of us)) (range_with_len 1 k)) there in
        let size_is : class_object_size (classes_of us) (1 + i) ≡ 2 + static_words (classes_of us) (suc i) = ap (class_object_size (classes_of us)) one in
        omega arith

-- past the classes, each class object has two places
past_classes : (us : List ClassUnit) (n : ℕ) → class_object (program_names us) (suc (length (classes_of us)) + n) ≡ class_object (program_names us) (suc (length (classes_of us))) + 2 * n
past_classes us zero = (let same : suc (length (classes_of us)) + 0 ≡ suc (length (classes_of us)) = omega arith in ap (class_object (program_names us)) same ∙ omega arith)
past_classes us (suc n) =
    let m : ℕ = length (classes_of us) in
    let size : ℕ → ℕ = class_object_size (classes_of us) in
    let sum : sum_by (class_object_size (classes_of us)) (range_with_len 1 (suc (m + n))) ≡ sum_by (class_object_size (classes_of us)) (range_with_len 1 (m + n)) + class_object_size (classes_of us) (1 + (m + n)) = range_more 1 (m + n) (class_object_size (classes_of us)) in
    let here : suc m + n - 1 ≡ m + n = omega arith in
    let there : suc m + suc n - 1 ≡ suc (m + n) = omega arith in
    let first : class_object (program_names us) (suc m + n) ≡ 1 + sum_by (class_object_size (classes_of us)) (range_with_len 1 (m + n)) = ap (λ k. 1 + sum_by (class_object_size (classes_of us)) (range_with_len 1 k)) here in
    let second : class_object (program_names us) (suc m + suc n) ≡ 1 + sum_by (class_object_size (classes_of us)) (range_with_len 1 (suc (m + n))) = ap (λ k. 1 + sum_by (class_object_size (classes_of us)) (range_with_len 1 k)) there in
    let none : static_words (classes_of us) (1 + (m + n)) ≡ 0 = no_statics (classes_of us) (1 + (m + n)) (past_all (classes_of us) (1 + (m + n)) (omega arith)) in
    let later : class_object (program_names us) (suc m + n) ≡ class_object (program_names us) (suc m) + 2 * n = past_classes us n in
    omega arith

-- the class object of a number past the classes
pub object_past : (us : List ClassUnit) (rows : List ClassRow) → AreRowsOf (classes_of us) rows → (c index end : ℕ) → index ≡ c - 1 → length rows ≤ index → end ≡ behind rows (length rows)
    → end + 2 * (index - length rows) ≡ class_object (program_names us) c
object_past us rows are c index end is past end_is =
    let m : ℕ = length (classes_of us) in
    let count : length rows ≡ length (classes_of us) = are.count in
    let last : behind rows (length rows) ≡ class_object (program_names us) (suc (length rows)) = object_behind us rows are (length rows) (omega arith) in
    let same : class_object (program_names us) (suc (length rows)) ≡ class_object (program_names us) (suc (length (classes_of us))) = ap (λ k. class_object (program_names us) (suc k)) count in
    let more : class_object (program_names us) (suc (length (classes_of us)) + (index - length rows)) ≡ class_object (program_names us) (suc (length (classes_of us))) + 2 * (index - length rows) = past_classes us (index - length rows) in
    let number : class_object (program_names us) (suc (length (classes_of us)) + (index - length rows)) ≡ class_object (program_names us) c = at_number in
    omega arith
  where
    some : c ≢ 0 → suc (length (classes_of us)) + (index - length rows) ≡ c
    some ne = (let count = are.count in omega (arith, ne))

    at_number : class_object (program_names us) (suc (length (classes_of us)) + (index - length rows)) ≡ class_object (program_names us) c
    at_number = elim (cases_eq c 0) [
      | inl none ↦ absurd (let count = are.count in let many = Rattle.link_rules.proofs.Numbers.class_count_is us in omega arith)
      | inr ne ↦ ap (class_object (program_names us)) (some ne)
    ]

-- and that of a class
pub object_at : (us : List ClassUnit) (rows : List ClassRow) → AreRowsOf (classes_of us) rows → (c index : ℕ) → index ≡ c - 1 → index < length rows → behind rows index ≡ class_object (program_names us) c
object_at us rows are c index is lt = object_behind us rows are index (omega arith) ∙ same
  where
    same : class_object (program_names us) (suc index) ≡ class_object (program_names us) c
    same = (let number : suc index - 1 ≡ c - 1 = omega arith in ap (λ k. 1 + sum_by (class_object_size (classes_of us)) (range_with_len 1 k)) number)

-- the static words of the rows are few
pub rows_few : (us : List ClassUnit) (rows : List ClassRow) → AreUnits us → AreRowsOf (classes_of us) rows → All (λ r. r.static_words < 2 ^ 17) rows
rows_few us rows decoded are i d lt =
    let at = slice_get-get_or rows i d lt in
    let count = are.count in
    subst (λ w. w < 2 ^ 17) (sym (static_at (classes_of us) rows are i (get_or rows i d) at)) (statics_few us (suc i) decoded (omega arith))

pub behind_le : (rows : List ClassRow) (i : ℕ) → behind rows i ≤ behind rows (length rows)
behind_le rows i =
    let part : sum_by object_size (take i rows) ≤ sum_by object_size rows = Rattle.std.proofs.lemmas.List.Sums.sum_by-take-le object_size rows i in
    let whole : behind rows (length rows) ≡ 1 + sum_by object_size rows = ap (λ xs. 1 + sum_by object_size xs) (take_all (length rows) rows (omega arith)) in
    omega arith

pub all_have_places : (rows : List ClassRow) (n : ℕ) (places : ObjectPlaces) → length rows ≤ n → FirstHavePlaces rows n places.objects.items places.behind → ArePlacesOf rows places
all_have_places rows n places le have =
    let same : n ≡ length rows = (let within = have.within in omega arith) in
    record {
      count = have.count ∙ same;
      each = λ i lt. have.each i (omega arith);
      behind_all = have.end_is ∙ ap (behind rows) same;
    }
