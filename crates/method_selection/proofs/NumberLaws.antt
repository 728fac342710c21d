-- Numbers of methods, one method and one class after the other.
use Rattle.std.proofs.Common.{◌≡◌, ℕ, zero, suc, ◌+◌, ◌<◌, ◌≤◌, List, [], ◌∷◌, ◌++◌, length, get_or, slice_get, Some, inl, inr, refl, sym, ◌∙◌, ap, arith, length-append}
use Rattle.std.proofs.lemmas.Bool.{cases_lt, cases_eq}
use Rattle.std.proofs.lemmas.Option.{slice_get_within, get_or_from_slice_get, none-some}
use Rattle.class_texts.specs.Texts.{ProgramTexts}
use Rattle.link_types.specs.declared.operands.MethodId.{MethodId}
use Rattle.link_rules.specs.Classes.{classes_of}
use Rattle.link_rules.proofs.Lists.{slice_get-behind, before_at}
use Rattle.member_table.specs.declared.table.MemberRow.{MemberRow}
use Rattle.member_lookup.proofs.FoundLaws.{no_methods}
use Rattle.member_lookup.specs.Rows.{class_rows, id_of_row}
use Rattle.method_selection.specs.Numbers.{id_numbered, Keeps, AreNumbered, AreMethodNumbers, rows_of_class}

pub keeps_push : (ids : List MethodId) (id : MethodId) → Keeps ids (ids ++ id ∷ [])
keeps_push ids id zero x e = absurd (none-some x e)
keeps_push ids id (suc i) x e = before_at ids (id ∷ []) i (slice_get_within ids i x e) ∙ e

pub last_numbered : (ids : List MethodId) (id : MethodId) → id_numbered (ids ++ id ∷ []) (suc (length ids)) ≡ Some id
last_numbered ids id = (let same : length ids ≡ length ids + 0 = omega arith in ap (slice_get (ids ++ id ∷ [])) same ∙ slice_get-behind ids (id ∷ []) 0)

-- what a list has before its last item, and the last item
get_or_before : {X : Type 0} (xs : List X) (x d : X) (i : ℕ) → i < length xs → get_or (xs ++ x ∷ []) i d ≡ get_or xs i d
get_or_before [] x d i lt = absurd (omega arith)
get_or_before (y ∷ xs) x d zero lt = refl
get_or_before (y ∷ xs) x d (suc i) lt = get_or_before xs x d i (omega arith)

get_or_last : {X : Type 0} (xs : List X) (x d : X) → get_or (xs ++ x ∷ []) (length xs) d ≡ x
get_or_last [] x d = refl
get_or_last (y ∷ xs) x d = get_or_last xs x d

-- ---- the first methods of a class

pub record FirstAreNumbered (old ids : List MethodId) (members : List MemberRow) (k : ℕ) (row : List ℕ) : Type 0 where
  pub count : length row ≡ k
  pub kept : Keeps old ids
  pub each : (i : ℕ) (m : MemberRow) → i < k → slice_get members i ≡ Some m → id_numbered ids (get_or row i 0) ≡ Some (id_of_row m)

pub none_numbered : (ids : List MethodId) (members : List MemberRow) → FirstAreNumbered ids ids members 0 []
none_numbered ids members = record { count = refl; kept = λ n id e. e; each = λ i m lt at. absurd (omega arith) }

pub numbered_more : (old ids more : List MethodId) (members : List MemberRow) (k : ℕ) (row : List ℕ) (n : ℕ) (d : MemberRow) → FirstAreNumbered old ids members k row
    → Keeps ids more → id_numbered more n ≡ Some (id_of_row (get_or members k d)) → FirstAreNumbered old more members (k + 1) (row ++ n ∷ [])
numbered_more old ids more members k row n d first keeps is = record {
  count = (let count = first.count in omega (arith, length-append row (n ∷ [])));
  kept = λ x id e. keeps x id (first.kept x id e);
  each = λ i m lt at. elim (cases_eq i k) [
    | inl same ↦
        let place : i ≡ length row = same ∙ sym first.count in
        ap (λ j. id_numbered more (get_or (row ++ n ∷ []) j 0)) place ∙ ap (id_numbered more) (get_or_last row n 0) ∙ is
        ∙ ap (λ x. Some (id_of_row x)) (ap (λ j. get_or members j d) (sym same) ∙ get_or_from_slice_get members i m d at)
    | inr other ↦
        let before : i < k = omega (arith, other) in
        let inside : i < length row = (let count = first.count in omega arith) in
        ap (id_numbered more) (get_or_before row n 0 i inside) ∙ keeps (get_or row i 0) (id_of_row m) (first.each i m before at)
  ];
}

pub all_numbered : (old ids : List MethodId) (members : List MemberRow) (k : ℕ) (row : List ℕ) → length members ≤ k → FirstAreNumbered old ids members k row → AreNumbered ids members row
all_numbered old ids members k row le first i m at = first.each i m (let lt = slice_get_within members i m at in omega arith) at

-- ---- the first classes

pub record ClassesAreNumbered (p : ProgramTexts) (n : ℕ) (numbers : List (List ℕ)) (ids : List MethodId) : Type 0 where
  pub count : length numbers ≡ n
  pub each : (c : ℕ) → c < n → AreNumbered ids (rows_of_class p c) (get_or numbers c [])

pub no_classes : (p : ProgramTexts) → ClassesAreNumbered p 0 [] []
no_classes p = record { count = refl; each = λ c lt. absurd (omega arith) }

pub class_more : (p : ProgramTexts) (n : ℕ) (numbers : List (List ℕ)) (ids more : List MethodId) (row : List ℕ) → ClassesAreNumbered p n numbers ids
    → Keeps ids more → AreNumbered more (rows_of_class p n) row → ClassesAreNumbered p (n + 1) (numbers ++ row ∷ []) more
class_more p n numbers ids more row first keeps are = record {
  count = (let count = first.count in omega (arith, length-append numbers (row ∷ [])));
  each = λ c lt. elim (cases_eq c n) [
    | inl same ↦
        let place : c ≡ length numbers = same ∙ sym first.count in
        let here : get_or (numbers ++ row ∷ []) c [] ≡ row = ap (λ j. get_or (numbers ++ row ∷ []) j []) place ∙ get_or_last numbers row [] in
        λ i m at. ap (λ r. id_numbered more (get_or r i 0)) here ∙ are i m (ap (λ d. slice_get (rows_of_class p d) i) (sym same) ∙ at)
    | inr other ↦
        let before : c < n = omega (arith, other) in
        let inside : c < length numbers = (let count = first.count in omega arith) in
        λ i m at. ap (λ r. id_numbered more (get_or r i 0)) (get_or_before numbers row [] c inside)
        ∙ keeps (get_or (get_or numbers c []) i 0) (id_of_row m) (first.each c before i m at)
  ];
}

pub all_classes : (p : ProgramTexts) (n : ℕ) (numbers : List (List ℕ)) (ids : List MethodId) → length (classes_of p.units) < n → ClassesAreNumbered p n numbers ids → AreMethodNumbers p numbers ids
all_classes p n numbers ids whole first c = elim (cases_lt c n) [
  | inl inside ↦ first.each c inside
  | inr past ↦ λ i m at. absurd (none-some m (sym (ap (λ ms. slice_get (Rattle.member_lookup.specs.Rows.rows_from p.texts c 0 ms) i) (no_methods (classes_of p.units) c (omega arith))) ∙ at))
]
