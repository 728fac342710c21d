-- References by numbers.
use Rattle.std.proofs.Common.{◌≡◌, ◌≢◌, ◌≤◌, ◌-◌, ℕ, zero, suc, true, false, List, length, map, get_or, slice_get, Option, None, Some, refl, sym, ◌∙◌, ap, subst, arith}
use Rattle.std.specs.Option.{option_map, option_map_or, IfSome}
use Rattle.std.proofs.lemmas.Option.{slice_get-map, get_or_from_slice_get}
use Rattle.class_pool.specs.Lookup.{class_and_member}
use Rattle.code_decode.specs.declared.code.ClassUnit.{ClassUnit}
use Rattle.class_texts.specs.Texts.{ProgramTexts}
use Rattle.text_numbers.specs.Numbers.{number_of}
use Rattle.text_numbers.proofs.NumberLaws.{text_of_number}
use Rattle.builtin_world.specs.declared.number.TheConstants.{OBJECT}
use Rattle.link_rules.specs.Classes.{classes_of, class_number, is_array_name}
use Rattle.link_rules.proofs.Numbers.{class_count_is, class_number_within}
use Rattle.member_lookup.specs.declared.tables.Tables.{Tables}
use Rattle.member_lookup.specs.Found.{holder_named, assembled, AreNumbersOf, IsLookup}

pub a_text : (ts : List (List ℕ)) (o : Option (List ℕ)) (n : ℕ) → n ≡ option_map_or (number_of ts) o 0 → n ≢ 0 → Some n ≡ option_map (number_of ts) o
a_text ts None n is some = absurd (some is)
a_text ts (Some t) n is some = ap (λ x. Some x) is

pub no_text : (ts : List (List ℕ)) (o : Option (List ℕ)) (n : ℕ) → n ≡ option_map_or (number_of ts) o 0 → n ≡ 0 → ((t : List ℕ) → o ≡ Some t → number_of ts t ≢ 0) → None ≡ option_map (number_of ts) o
no_text ts None n is none known = refl
no_text ts (Some t) n is none known = absurd (known t refl (sym is ∙ none))

-- at the number of a text is what is made of it
at_number : (h : List ℕ → ℕ) (ts : List (List ℕ)) (t : List ℕ) → number_of ts t ≢ 0 → get_or (map h ts) (number_of ts t - 1) 0 ≡ h t
at_number h ts t some = go (number_of ts t) refl some
  where
    go : (n : ℕ) → number_of ts t ≡ n → n ≢ 0 → get_or (map h ts) (n - 1) 0 ≡ h t
    go zero is ne = absurd (ne refl)
    go (suc i) is ne =
        let place : suc i - 1 ≡ i = omega arith in
        ap (λ k. get_or (map h ts) k 0) place
        ∙ get_or_from_slice_get (map h ts) i (h t) 0 (slice_get-map h ts i ∙ ap (option_map h) (text_of_number ts t i is))

holder_within : (us : List ClassUnit) (name : List ℕ) → holder_named (classes_of us) name ≤ length (classes_of us)
holder_within us name = elim (is_array_name name) as (λ b. Rattle.std.proofs.Common.cond b OBJECT (class_number (classes_of us) name) ≤ length (classes_of us)) [
  | true ↦ omega (arith, class_count_is us)
  | false ↦ class_number_within (classes_of us) name
]

module _ (us : List ClassUnit) (p : ProgramTexts) (hs : List ℕ) (init : ℕ) (t : Tables) (is : IsLookup us p hs init t) where
  pub reference_is : (class : Option (List ℕ)) (member : Option (List ℕ × List ℕ)) (c : Option ℕ) (m : Option (ℕ × ℕ))
      → c ≡ option_map (number_of p.texts) class → m ≡ option_map (λ x. (number_of p.texts x.0, number_of p.texts x.1)) member
      → IfSome c (λ n. n ≢ 0) → IfSome {T = ℕ × ℕ} m (λ n. (n.0 ≢ 0) × (n.1 ≢ 0)) → AreNumbersOf p (class_and_member class member) (assembled hs c m)
  reference_is class member c m named typed some both =
      subst (λ x. AreNumbersOf p (class_and_member class member) (assembled hs x m)) (sym named)
      (subst (λ x. AreNumbersOf p (class_and_member class member) (assembled hs (option_map (number_of p.texts) class) x)) (sym typed)
      (go class member (subst (λ x. IfSome x (λ n. n ≢ 0)) named some) (subst (λ x. IfSome {T = ℕ × ℕ} x (λ n. (n.0 ≢ 0) × (n.1 ≢ 0))) typed both)))
    where
      go : (class : Option (List ℕ)) (member : Option (List ℕ × List ℕ)) → IfSome (option_map (number_of p.texts) class) (λ n. n ≢ 0)
          → IfSome {T = ℕ × ℕ} (option_map (λ (x : List ℕ × List ℕ). (number_of p.texts x.0, number_of p.texts x.1)) member) (λ n. (n.0 ≢ 0) × (n.1 ≢ 0))
          → AreNumbersOf p (class_and_member class member) (assembled hs (option_map (number_of p.texts) class) (option_map (λ x. (number_of p.texts x.0, number_of p.texts x.1)) member))
      go None None some both = tt
      go None (Some x) some both = tt
      go (Some name) None some both = tt
      go (Some name) (Some x) some both =
          let held : get_or hs (number_of p.texts name - 1) 0 ≡ holder_named (classes_of us) name =
          ap (λ xs. get_or xs (number_of p.texts name - 1) 0) is.holders_are ∙ at_number (holder_named (classes_of us)) p.texts name some in
          let h : get_or hs (number_of p.texts name - 1) 0 ≡ holder_named (classes_of p.units) name = held ∙ ap (λ u. holder_named (classes_of u) name) (sym is.units) in (
            record {
              are = ap (λ (k : ℕ). record { holder = k; name = number_of p.texts x.0; descriptor = number_of p.texts x.1 }) h;
              name = both.0;
              descriptor = both.1;
            },
            subst (λ k. k ≤ length (classes_of p.units)) (sym h) (holder_within p.units name),
          )
