-- Methods that aren't answered as asked, by their candidates.
use Rattle.std.proofs.Common.{◌≡◌, ℕ, zero, suc, ◌+◌, ◌||◌, not, Bool, true, false, List, [], filter, take, get_or, slice_get, Option, None, Some, All, refl, sym, ◌∙◌, ap, subst}
use Rattle.std.specs.List.{list_any}
use Rattle.std.specs.Option.{option_map, option_map_or}
use Rattle.std.proofs.lemmas.List.Elements.{All-filter}
use Rattle.std.proofs.lemmas.List.Folds.{list_any_more}
use Rattle.std.proofs.lemmas.Map.Keys.{any_passes_from_place}
use Rattle.std.proofs.lemmas.Option.{slice_get-map, slice_get-get_or, slice_get_within, get_or_from_slice_get, none-some, same_Some}
use Rattle.link_rules.specs.Classes.{NamedClass, NamedMember, classes_of, methods_of}
use Rattle.link_rules.specs.Members.{signature_of}
use Rattle.class_texts.specs.Texts.{ProgramTexts}
use Rattle.text_numbers.specs.Numbers.{number_of}
use Rattle.member_lookup.specs.Found.{HaveNumbers}
use Rattle.member_table.specs.declared.table.MemberRow.{MemberRow}
use Rattle.link_members.specs.declared.implementations.Asked.{Asked}
use Rattle.link_members.specs.Members.{AreCandidates, candidates_of}
use Rattle.link_implementations.specs.Implementations.{HaveCandidates, abstract_candidates, candidate_table, is_abstract, is_open, leaves_open}
use Rattle.link_implementations.proofs.CandidateLaws.{of_class}

abbrev Numbered : ProgramTexts → NamedMember → Type 0
Numbered p m = HaveNumbers p (number_of p.texts m.name) (number_of p.texts m.descriptor) (signature_of m)

-- a class's row of the table has the candidates of its abstract methods
pub row_of_class : (p : ProgramTexts) (d : ℕ) (each : List (List MemberRow)) → ((c i : ℕ) (m : NamedMember) → slice_get (methods_of (classes_of p.units) c) i ≡ Some m → Numbered p m)
    → each ≡ get_or (candidate_table p) d [] → HaveCandidates p (filter is_abstract (methods_of (classes_of p.units) d)) each
row_of_class p d each numbered is =
    let ms = methods_of (classes_of p.units) d in
    let kept = filter is_abstract (methods_of (classes_of p.units) d) in
    let all : All (Numbered p) ms = λ k x lt. numbered d k (get_or ms k x) (slice_get-get_or ms k x lt) in
    record {
      are = is ∙ of_class p d;
      have = λ i m at. subst (Numbered p) (get_or_from_slice_get kept i m m at) (All-filter is_abstract (Numbered p) ms all i m (slice_get_within kept i m at));
    }

-- what the table hasn't got is no class, and has no methods
pub none_open_past : (p : ProgramTexts) (asked : Asked) (c d : ℕ) → slice_get (candidate_table p) d ≡ None → false ≡ leaves_open asked (classes_of p.units) c d
none_open_past p asked c zero none = refl
none_open_past p asked c (suc i) none =
    ap (λ o. list_any (is_open asked (classes_of p.units) c) (filter is_abstract (option_map_or (λ (k : NamedClass). k.methods) o [])))
    (sym (past (slice_get (classes_of p.units) i) (sym (slice_get-map (λ (k : NamedClass). abstract_candidates p k.methods) (classes_of p.units) i) ∙ none)))
  where
    past : (o : Option NamedClass) → option_map (λ (k : NamedClass). abstract_candidates p k.methods) o ≡ None → o ≡ None
    past None e = refl
    past (Some k) e = absurd (none-some (abstract_candidates p k.methods) (sym e))

-- the method of which these are the candidates
pub record IsMethodAt (p : ProgramTexts) (ms : List NamedMember) (i : ℕ) (rows : List MemberRow) : Type 0 where
  pub method : NamedMember
  pub there : slice_get ms i ≡ Some method
  pub its : AreCandidates p method rows

method_at : (p : ProgramTexts) (ms : List NamedMember) (each : List (List MemberRow)) (i : ℕ) (rows : List MemberRow) → HaveCandidates p ms each → slice_get each i ≡ Some rows → IsMethodAt p ms i rows
method_at p ms each i rows is at = go (slice_get ms i) refl (sym (slice_get-map (candidates_of p) ms i) ∙ ap (λ xs. slice_get xs i) (sym is.are) ∙ at)
  where
    go : (o : Option NamedMember) → slice_get ms i ≡ o → option_map (candidates_of p) o ≡ Some rows → IsMethodAt p ms i rows
    go None there e = absurd (none-some rows e)
    go (Some m) there e =
        record { method = m; there = there; its = record { are = sym (same_Some (candidates_of p m) rows e); have = is.have i m there } }

-- a loop that stops at the first method of which a test says no
module _ (test : NamedMember → Bool) (p : ProgramTexts) (ms : List NamedMember) (each : List (List MemberRow)) (i : ℕ) (rows : List MemberRow) (r : Bool) (is : HaveCandidates p ms each) (at : slice_get each i ≡ Some rows)
    (says : (m : NamedMember) → AreCandidates p m rows → r ≡ test m) where
  here : IsMethodAt p ms i rows
  here = method_at p ms each i rows is at

  pub found_open : r ≡ false → list_any (λ m. not (test m)) ms ≡ true
  found_open e = any_passes_from_place (λ m. not (test m)) ms i here.method here.there (ap not (sym (says here.method here.its) ∙ e))

  pub none_more : r ≡ true → list_any (λ m. not (test m)) (take i ms) ≡ false → list_any (λ m. not (test m)) (take (i + 1) ms) ≡ false
  none_more e so_far =
      list_any_more (λ m. not (test m)) ms i here.method (slice_get_within ms i here.method here.there)
      ∙ ap (λ b. b || not (test (get_or ms i here.method))) so_far
      ∙ ap (λ m. not (test m)) (get_or_from_slice_get ms i here.method here.method here.there)
      ∙ ap not (sym (says here.method here.its) ∙ e)
