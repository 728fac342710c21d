-- The marks of labels, as they are gathered.
use Rattle.std.proofs.Common.{◌≡◌, ℕ, suc, ◌+◌, ◌<◌, ◌≤◌, Bool, true, false, cond, List, ◌∷◌, length, drop, get_or, Option, Some, None, is_some, ◌⊎◌, inl, inr, refl, sym, ap, subst, ◌∙◌, bytes_eq, add-one, drop-cons, true≢false}
use Rattle.std.proofs.lemmas.List.{drop_all}
use Rattle.std.proofs.lemmas.Bool.{cases_Bool, cond-true, cond-false}
use Rattle.std.proofs.lemmas.Cmp.{nat_list_eq_equiv, eq_by_cmp_equiv, nat_list_cmp_total}
use Rattle.std.proofs.lemmas.Map.Text.{is_eq-slice_cmp}
use Rattle.std.proofs.lemmas.Slice.Eq.{bytes_eq-Decides}
use Rattle.std.specs.BTreeMap as tree
use Rattle.std.specs.BTreeMap.{BTreeMap}
use Rattle.std.specs.Map.{KeepsOthers}
use Rattle.std.specs.Ordering.{is_eq, nat_cmp}
use Rattle.std.specs.Cmp.Lexicographic.{slice_cmp}
use Rattle.std.specs.declared.vec.Vec.{Vec}
use Rattle.assembler_bodies.specs.declared.labels.Mark.{Mark}
use Rattle.assembler_text.specs.declared.lines.Numbered.{Numbered}
use Rattle.assembler_bodies.specs.Labels.{is_end, is_label, offset_behind, first_mark, marks_from}
use Rattle.assembler_bodies.specs.Marks.{mark_in, mark_at}

apart : (bs cs ks : List ℕ) → bytes_eq bs cs ≡ false → is_eq (slice_cmp nat_cmp bs ks) ≡ true → is_eq (slice_cmp nat_cmp cs ks) ≡ false
apart bs cs ks n y =
    let same : bytes_eq bs ks ≡ true = sym (is_eq-slice_cmp bs ks) ∙ y in
    is_eq-slice_cmp cs ks ∙ (nat_list_eq_equiv.symm cs ks ∙ sym (nat_list_eq_equiv.congr bs ks cs same) ∙ n)

module _ {Z : Type 0} (m n : BTreeMap (Vec ℕ Z) Mark) where
  mark_updated : (key : Vec ℕ Z) (w : Option Mark) → tree.Updates (λ x y. slice_cmp nat_cmp x.items y.items) m n key w → (q : List ℕ)
      → (bytes_eq key.items q ≡ true) ⊎ (bytes_eq key.items q ≡ false) → mark_in n q ≡ cond (bytes_eq key.items q) w (mark_in m q)
  unfolding KeepsOthers
  mark_updated key w changes q (inl same) =
      let P : List ℕ → Type 0 = λ ds. mark_in n ds ≡ w in
      subst P ((bytes_eq-Decides key.items q).0 same) changes.1 ∙ sym (cond-true (bytes_eq key.items q) w (mark_in m q) same)
  mark_updated key w changes q (inr other) =
      changes.3 (λ k. is_eq (slice_cmp nat_cmp q k.items)) (λ x y. (eq_by_cmp_equiv nat_list_cmp_total).congr q x.items y.items) (λ k. apart key.items q k.items other)
      ∙ sym (cond-false (bytes_eq key.items q) w (mark_in m q) other)

  none_known : (o : Option Mark) → is_some o ≡ false → o ≡ None
  none_known None e = refl
  none_known (Some mark) e = absurd (true≢false e)

  only_first : (o : Option Mark) → o ≡ first_mark o None
  only_first None = refl
  only_first (Some mark) = refl

  known_first : (o other : Option Mark) → is_some o ≡ true → o ≡ first_mark o other
  known_first None other e = absurd (true≢false (sym e))
  known_first (Some mark) other e = refl

  -- a name without a mark gets one
  pub mark_put : (key : Vec ℕ Z) (mark : Mark) (name q : List ℕ) → key.items ≡ name → is_some (mark_in m name) ≡ false
      → tree.Updates (λ x y. slice_cmp nat_cmp x.items y.items) m n key (Some mark) → mark_in n q ≡ first_mark (mark_in m q) (cond (bytes_eq q name) (Some mark) None)
  mark_put key mark name q is new changes = by_cases (cases_Bool (bytes_eq q name))
    where
      turned : bytes_eq key.items q ≡ bytes_eq q name
      turned = ap (λ (ds : List ℕ). bytes_eq ds q) is ∙ nat_list_eq_equiv.symm name q

      now : mark_in n q ≡ cond (bytes_eq q name) (Some mark) (mark_in m q)
      now = mark_updated key (Some mark) changes q (cases_Bool (bytes_eq key.items q)) ∙ ap (λ (b : Bool). cond b (Some mark) (mark_in m q)) turned

      by_cases : (bytes_eq q name ≡ true) ⊎ (bytes_eq q name ≡ false) → mark_in n q ≡ first_mark (mark_in m q) (cond (bytes_eq q name) (Some mark) None)
      by_cases (inl same) =
          let none : mark_in m q ≡ None = none_known (mark_in m q) (ap (λ (ds : List ℕ). is_some (mark_in m ds)) ((bytes_eq-Decides q name).0 same) ∙ new) in
          rw (now, same, none) refl
      by_cases (inr other) = rw (now, other) (only_first (mark_in m q))

-- a name with a mark keeps it
pub mark_stays : {Z : Type 0} (m : BTreeMap (Vec ℕ Z) Mark) (mark : Mark) (name q : List ℕ) → is_some (mark_in m name) ≡ true → mark_in m q ≡ first_mark (mark_in m q) (cond (bytes_eq q name) (Some mark) None)
mark_stays m mark name q known = by_cases (cases_Bool (bytes_eq q name))
  where
    by_cases : (bytes_eq q name ≡ true) ⊎ (bytes_eq q name ≡ false) → mark_in m q ≡ first_mark (mark_in m q) (cond (bytes_eq q name) (Some mark) None)
    by_cases (inl same) = rw same (known_first m m (mark_in m q) (Some mark) (ap (λ (ds : List ℕ). is_some (mark_in m ds)) ((bytes_eq-Decides q name).0 same) ∙ known))
    by_cases (inr other) = rw other (only_first m m (mark_in m q))

-- ---- line by line

step : (at : ℕ) (numbered : Numbered) (rest : Option Mark) (lines : List Numbered) (q : List ℕ) (known : Option Mark)
    → is_end numbered.line ≡ false → rest ≡ marks_from (offset_behind at numbered.line) lines q
    → first_mark (first_mark known (mark_at at numbered q)) rest ≡ first_mark known (marks_from at (numbered ∷ lines) q)
step at numbered rest lines q (Some mark) goes is = refl
step at numbered rest lines q None goes is = rw (goes, is) (by_label (is_label q numbered.line))
  where
    by_label : (b : Bool) → first_mark (cond b (Some (record { line = numbered.number; offset = at })) None) (marks_from (offset_behind at numbered.line) lines q)
        ≡ cond b (Some (record { line = numbered.number; offset = at })) (marks_from (offset_behind at numbered.line) lines q)
    by_label true = refl
    by_label false = refl

pub marks_go_on : (lines : List Numbered) (i : ℕ) (numbered : Numbered) (at next : ℕ) (q : List ℕ) (known new total : Option Mark) → i < length lines → numbered ≡ get_or lines i numbered
    → is_end numbered.line ≡ false → next ≡ offset_behind at numbered.line → new ≡ first_mark known (mark_at at numbered q)
    → first_mark known (marks_from at (drop i lines) q) ≡ total → first_mark new (marks_from next (drop (i + 1) lines) q) ≡ total
marks_go_on lines i numbered at next q known new total lt is goes behind changes so_far =
    let one : first_mark (first_mark known (mark_at at numbered q)) (marks_from (offset_behind at numbered.line) (drop (suc i) lines) q) ≡ first_mark known (marks_from at (numbered ∷ drop (suc i) lines) q) =
    step at numbered _ (drop (suc i) lines) q known goes refl in
    rw (add-one, behind, changes) (one ∙ (let back : first_mark known (marks_from at (drop i lines) q) ≡ first_mark known (marks_from at (numbered ∷ drop (suc i) lines) q) = rw (drop-cons lines i numbered lt, ← is) refl in sym back ∙ so_far))

pub marks_at_end : (lines : List Numbered) (i : ℕ) (numbered : Numbered) (at : ℕ) (q : List ℕ) (known total : Option Mark) → i < length lines → numbered ≡ get_or lines i numbered
    → is_end numbered.line ≡ true → first_mark known (marks_from at (drop i lines) q) ≡ total → known ≡ total
marks_at_end lines i numbered at q known total lt is ends so_far =
    let back : first_mark known (marks_from at (drop i lines) q) ≡ first_mark known None = rw (drop-cons lines i numbered lt, ← is, ends) refl in
    only_one known ∙ sym back ∙ so_far
  where
    only_one : (o : Option Mark) → o ≡ first_mark o None
    only_one None = refl
    only_one (Some mark) = refl

pub marks_done : (lines : List Numbered) (i at : ℕ) (q : List ℕ) (known total : Option Mark) → length lines ≤ i → first_mark known (marks_from at (drop i lines) q) ≡ total → known ≡ total
marks_done lines i at q known total le so_far =
    let back : first_mark known (marks_from at (drop i lines) q) ≡ first_mark known None = rw (drop_all i lines le) refl in
    only_one known ∙ sym back ∙ so_far
  where
    only_one : (o : Option Mark) → o ≡ first_mark o None
    only_one None = refl
    only_one (Some mark) = refl
