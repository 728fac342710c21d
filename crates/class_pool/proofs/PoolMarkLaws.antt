-- Marks of the texts that the first entries of the pool use.
use Rattle.std.proofs.Common.{◌≡◌, ℕ, ◌+◌, ◌<◌, ◌≤◌, Bool, true, false, List, length, get_or, set, slice_get, Option, None, Some, ◌↔◌, ◌⊎◌, inl, inr, sym, ◌∙◌, subst, arith, get_or-set_same, get_or-set_other}
use Rattle.std.proofs.lemmas.Option.{slice_get_within, same_Some}
use Rattle.std.proofs.lemmas.Bool.{cases_lt, cases_eq}
use Rattle.std.proofs.Math.ListN.{length-set}
use Rattle.class_walk.specs.declared.class.Constant.{Constant}
use Rattle.class_pool.specs.declared.pool.Role.{Role}
use Rattle.class_pool.specs.declared.pool.Uses.{Uses}
use Rattle.class_pool.specs.PoolRules.{used_as, IsUsedRightly}
use Rattle.class_pool.specs.PoolMarks.{AreMarks, AreUses, FitsMarks, marked}

-- one of the entries before an index uses the text so
abbrev pub IsUsedBelow : List Constant → Role → ℕ → ℕ → Type 0
IsUsedBelow pool role end index = (j : ℕ) × (c : Constant) × (j < end) × (slice_get pool j ≡ Some c) × (used_as role c ≡ Some index)

-- these marks are those of the entries before an index
pub record AreMarksBelow (pool : List Constant) (role : Role) (end : ℕ) (marks : List Bool) : Type 0 where
  pub size : length marks ≡ length pool
  pub at : (i : ℕ) → i < length pool → (get_or marks i false ≡ true) ↔ IsUsedBelow pool role end i

later : (pool : List Constant) (role : Role) (end i : ℕ) → IsUsedBelow pool role end i → IsUsedBelow pool role (end + 1) i
later pool role end i u = let lt = u.2 in (u.0, u.1, omega arith, u.3, u.4)

-- what a later use is: an earlier one, or that of the entry itself
earlier_or : (pool : List Constant) (role : Role) (end i : ℕ) (c : Constant) → slice_get pool end ≡ Some c → IsUsedBelow pool role (end + 1) i → IsUsedBelow pool role end i ⊎ (used_as role c ≡ Some i)
earlier_or pool role end i c at u =
    elim (cases_lt u.0 end) [
      | inl less ↦ inl (u.0, u.1, less, u.3, u.4)
      | inr more ↦
          let lt : u.0 < end + 1 = u.2 in
          let same_index : u.0 ≡ end = omega arith in
          let P : ℕ → Type 0 = λ k. slice_get pool k ≡ Some u.1 in
          let here : slice_get pool end ≡ Some u.1 = subst P same_index u.3 in
          let same : u.1 ≡ c = same_Some u.1 c (sym here ∙ at) in
          let Q : Constant → Type 0 = λ d. used_as role d ≡ Some i in
          inr (subst Q same u.4)
    ]

pub none_marked : (pool : List Constant) (role : Role) (marks : List Bool) → length marks ≡ length pool → ((i : ℕ) → get_or marks i false ≡ false) → AreMarksBelow pool role 0 marks
none_marked pool role marks size all = record {
  size = size;
  at = λ i lt. (λ t. let f = all i in absurd cc, λ u. let lt = u.2 in absurd (omega arith));
}

pub keeps_marks : (pool : List Constant) (role : Role) (end : ℕ) (marks : List Bool) (c : Constant) → slice_get pool end ≡ Some c → used_as role c ≡ None → AreMarksBelow pool role end marks → AreMarksBelow pool role (end + 1) marks
keeps_marks pool role end marks c at none m = record {
  size = m.size;
  at = λ i lt. (
    λ t. later pool role end i ((m.at i lt).0 t),
    λ u. elim (earlier_or pool role end i c at u) [
      | inl before ↦ (m.at i lt).1 before
      | inr here ↦ absurd cc
    ],
  );
}

pub marks_one : (pool : List Constant) (role : Role) (end : ℕ) (marks : List Bool) (c : Constant) (index : ℕ) → slice_get pool end ≡ Some c → used_as role c ≡ Some index → AreMarksBelow pool role end marks → AreMarksBelow pool role (end + 1) (set marks index true)
marks_one pool role end marks c index at some m = record {
  size = length-set marks index true ∙ m.size;
  at = λ i lt. elim (cases_eq i index) [
    | inl same ↦
        let inside : index < length marks = let s = m.size in omega arith in
        let used : used_as role c ≡ Some i = rw same some in
        (λ t. (end, c, omega arith, at, used), λ u. rw same (get_or-set_same marks index true false inside))
    | inr other ↦
        let same_mark : get_or (set marks index true) i false ≡ get_or marks i false = rw get_or-set_other in (
          λ t. later pool role end i ((m.at i lt).0 (sym same_mark ∙ t)),
          λ u. elim (earlier_or pool role end i c at u) [
            | inl before ↦ same_mark ∙ (m.at i lt).1 before
            | inr here ↦ absurd (other (same_Some i index (sym here ∙ some)))
          ],
        )
  ];
}

pub marks_more : (pool : List Constant) (role : Role) (end : ℕ) (marks : List Bool) (c : Constant) (used : Option ℕ) → slice_get pool end ≡ Some c → used ≡ used_as role c → AreMarksBelow pool role end marks → AreMarksBelow pool role (end + 1) (marked marks used)
marks_more pool role end marks c None at e m = keeps_marks pool role end marks c at (sym e) m
marks_more pool role end marks c (Some index) at e m = marks_one pool role end marks c index at (sym e) m

pub all_marked : (pool : List Constant) (role : Role) (end : ℕ) (marks : List Bool) → length pool ≤ end → AreMarksBelow pool role end marks → AreMarks pool role marks
all_marked pool role end marks le m = record {
  size = m.size;
  at = λ i lt. (
    λ t. let u = (m.at i lt).0 t in (u.0, u.1, u.3, u.4),
    λ u. let within = slice_get_within pool u.0 u.1 u.2 in (m.at i lt).1 (u.0, u.1, omega arith, u.2, u.3),
  );
}

-- a text that is used rightly is one that fits where it is marked
pub fits_marks : (pool : List Constant) (uses : Uses) (i : ℕ) (text : List ℕ) → AreUses pool uses → i < length pool → IsUsedRightly pool i text → FitsMarks uses i text
fits_marks pool uses i text a lt right = (
  λ t. right.class ((a.class_names.at i lt).0 t),
  λ t. right.name ((a.member_names.at i lt).0 t),
  λ t. right.descriptor ((a.descriptors.at i lt).0 t),
)
