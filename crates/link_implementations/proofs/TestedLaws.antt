-- Tests that were made before.
use Rattle.std.proofs.Common.{◌≡◌, ℕ, zero, suc, [], ◌∷◌, ◌++◌, ◌&&◌, ◌==◌, Bool, true, List, map, filter, slice_get, Option, None, Some, refl, sym, ◌∙◌, ap, subst}
use Rattle.std.specs.Option.{option_map}
use borrow.Author.Tests.{eqb-true}
use Rattle.std.proofs.lemmas.List.Elements.{filter_passes}
use Rattle.std.proofs.lemmas.Option.{slice_get-map, slice_get_within, get_or_from_slice_get, none-some, same_Some}
use Rattle.std.proofs.lemmas.Bool.{and_parts}
use Rattle.class_texts.specs.Texts.{ProgramTexts}
use Rattle.text_numbers.specs.Numbers.{number_of}
use Rattle.link_rules.specs.Classes.{NamedMember}
use Rattle.link_rules.specs.Members.{signature_of}
use Rattle.member_table.specs.declared.table.MemberRow.{MemberRow}
use Rattle.member_table.specs.Members.{has_signature}
use Rattle.member_lookup.specs.Rows.{is_virtual_row}
use Rattle.member_lookup.specs.Found.{HaveNumbers, virtuals_of}
use Rattle.link_members.specs.Members.{AreCandidates, candidates_of}
use Rattle.link_implementations.specs.declared.memo.Tested.{Tested}
use Rattle.link_implementations.specs.Tested.{AreOfOne, AreTested, EachOfOne, IsTested}

first_passes : (q : MemberRow → Bool) (xs : List MemberRow) (r : MemberRow) → slice_get (filter q xs) 0 ≡ Some r → q r ≡ true
first_passes q xs r at =
    subst (λ x. q x ≡ true) (get_or_from_slice_get (filter q xs) 0 r r at) (filter_passes q xs 0 r (slice_get_within (filter q xs) 0 r at))

module _ (p : ProgramTexts) (n d : ℕ) (r : MemberRow) (at : slice_get (virtuals_of p n d) 0 ≡ Some r) where
  signed : has_signature n d r ≡ true
  signed = (and_parts (has_signature n d r) (is_virtual_row r) (first_passes (λ m. has_signature n d m && is_virtual_row m) _ r at)).0

  pub its_name : r.name ≡ n
  its_name = eqb-true r.name n (and_parts (r.name == n) (r.descriptor == d) signed).0

  pub its_descriptor : r.descriptor ≡ d
  its_descriptor = eqb-true r.descriptor d (and_parts (r.name == n) (r.descriptor == d) signed).1

-- the numbers of the first of a method's candidates are those of the method
pub numbers_of_first : (p : ProgramTexts) (m : NamedMember) (rows : List MemberRow) (r : MemberRow) → AreCandidates p m rows → slice_get rows 0 ≡ Some r → HaveNumbers p r.name r.descriptor (signature_of m)
numbers_of_first p m rows r are at =
    let n = number_of p.texts m.name in
    let d = number_of p.texts m.descriptor in
    let there = ap (λ xs. slice_get xs 0) (sym are.are) ∙ at in
    record {
      name_is = its_name p n d r there;
      descriptor_is = its_descriptor p n d r there;
      name_has = are.have.name_has;
      descriptor_has = are.have.descriptor_has;
    }

-- the methods of one signature are the candidates of each method that has it
pub candidates_by_first : (p : ProgramTexts) (m : NamedMember) (rows : List MemberRow) (r : MemberRow) → AreOfOne p rows → slice_get rows 0 ≡ Some r → HaveNumbers p r.name r.descriptor (signature_of m) → AreCandidates p m rows
candidates_by_first p m rows r one at have = record {
  are = one r at ∙ ap (λ n. virtuals_of p n r.descriptor) have.name_is ∙ ap (λ d. virtuals_of p (number_of p.texts m.name) d) have.descriptor_is;
  have = record { name_is = refl; descriptor_is = refl; name_has = have.name_has; descriptor_has = have.descriptor_has };
}

of_one : (p : ProgramTexts) (m : NamedMember) → AreOfOne p (candidates_of p m)
of_one p m r at =
    let n = number_of p.texts m.name in
    let d = number_of p.texts m.descriptor in
    ap (λ k. virtuals_of p k d) (sym (its_name p n d r at)) ∙ ap (λ k. virtuals_of p r.name k) (sym (its_descriptor p n d r at))

pub each_of_one : (p : ProgramTexts) (ms : List NamedMember) (each : List (List MemberRow)) → each ≡ map (candidates_of p) ms → EachOfOne p each
each_of_one p ms each is i rows at = go (slice_get ms i) (sym (slice_get-map (candidates_of p) ms i) ∙ ap (λ xs. slice_get xs i) (sym is) ∙ at)
  where
    go : (o : Option NamedMember) → option_map (candidates_of p) o ≡ Some rows → AreOfOne p rows
    go None e = absurd (none-some rows e)
    go (Some m) e = subst (AreOfOne p) (same_Some (candidates_of p m) rows e) (of_one p m)

-- one test more
pub tested_more : (p : ProgramTexts) (old new : List Tested) (x : Tested) → AreTested p old → new ≡ old ++ x ∷ [] → IsTested p x → AreTested p new
tested_more p old new x are push is = subst (AreTested p) (sym push) (go old are)
  where
    go : (xs : List Tested) → AreTested p xs → AreTested p (xs ++ x ∷ [])
    go [] a zero t at = subst (IsTested p) (same_Some x t at) is
    go [] a (suc i) t at = absurd (none-some t at)
    go (y ∷ ys) a zero t at = a zero t at
    go (y ∷ ys) a (suc i) t at = go ys (λ j u e. a (suc j) u e) i t at
