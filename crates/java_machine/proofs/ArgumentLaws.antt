-- The class of the array of the arguments of main.
use Rattle.std.proofs.Common.{◌≡◌, ℕ, suc, ◌+◌, ◌-◌, ◌<◌, ◌≤◌, ◌==◌, Bool, true, false, cond, nat_le, List, [], ◌∷◌, ◌++◌, length, take, slice_get, Option, None, Some, unwrap_or, bytes_eq, inl, inr, refl, sym, ap, ◌∙◌, true≢false, arith}
use Rattle.std.specs.List.{position_from}
use Rattle.std.specs.Option.{option_map, option_map_or}
use Rattle.std.proofs.lemmas.Bool.{and_parts, eqb-true, lt-leb}
use Rattle.std.proofs.lemmas.List.{take_all}
use Rattle.std.proofs.lemmas.Option.{slice_get_cases, get_or_from_slice_get}
use Rattle.std.proofs.Math.Seq.{take-suc}
use Rattle.std.proofs.lemmas.Slice.Eq.{bytes_eq-Decides}
use Rattle.builtin_world.specs.declared.number.TheConstants.{STRING}
use Rattle.code_decode.specs.declared.code.ClassUnit.{ClassUnit}
use Rattle.link_types.specs.declared.types.ElementType.{ElementType}
use Rattle.link_types.specs.declared.types.ElementType.TheVariants as elements
use Rattle.link_types.specs.declared.types.ObjectType.{ObjectType}
use Rattle.link_types.specs.declared.types.ObjectType.TheVariants.{Class, Other, Array}
use Rattle.link_rules.specs.Arrays.{arguments_array, array_names}
use Rattle.link_rules.specs.Classes.{classes_of}
use Rattle.link_rules.specs.FixedObjects.{arguments_class}
use Rattle.link_rules.specs.LinkRules.{link_rules}
use Rattle.link_rules.specs.Names.{ProgramNames, program_names, type_named, array_numbered}
use Rattle.link_rules.specs.Readers.{array_type}
use Rattle.link_rules.specs.Units.{AreUnits}
use Rattle.link_rules.proofs.Lists.{position_at, position_push}
use Rattle.link_rules.proofs.Named.{one_number}
use Rattle.array_kinds.specs.Kinds.{array_kind}
use Rattle.array_kinds.proofs.Names.{type_spells}
use Rattle.array_kinds.proofs.Bases.{spelled_here}
use Rattle.array_uses.proofs.Right.{arguments_in}
use Rattle.array_classes.proofs.ClassNames.{classes_named}
use Rattle.array_classes.proofs.Numbered.{in_type}
use Rattle.java_machine.specs.Arguments.{is_string_array}

string_array_is : (t : ObjectType) → is_string_array t ≡ true → t ≡ Array 1 (elements.Class STRING)
string_array_is (Class c) is = absurd (true≢false (sym is))
string_array_is (Other n) is = absurd (true≢false (sym is))
string_array_is (Array d base) is = of d base is
  where
    of : (d : ℕ) (base : ElementType) → is_string_array (Array d base) ≡ true → Array d base ≡ Array 1 (elements.Class STRING)
    of d (elements.Class c) is =
        let parts = and_parts (d == 1) (c == STRING) is in
        ap (λ n. Array n (elements.Class c)) (eqb-true d 1 parts.0) ∙ ap (λ n. Array 1 (elements.Class n)) (eqb-true c STRING parts.1)
    of d elements.Boolean is = absurd (true≢false (sym is))
    of d elements.Byte is = absurd (true≢false (sym is))
    of d elements.Char is = absurd (true≢false (sym is))
    of d elements.Short is = absurd (true≢false (sym is))
    of d elements.Int is = absurd (true≢false (sym is))
    of d elements.Long is = absurd (true≢false (sym is))
    of d elements.Float is = absurd (true≢false (sym is))
    of d elements.Double is = absurd (true≢false (sym is))
    of d (elements.Other n) is = absurd (true≢false (sym is))

same_tests : (b t : Bool) → (b ≡ true → t ≡ true) → (t ≡ true → b ≡ true) → b ≡ t
same_tests true true one other = refl
same_tests true false one other = sym (one refl)
same_tests false true one other = other refl
same_tests false false one other = refl

module _ (us : List ClassUnit) (decoded : AreUnits us) (linked : (link_rules us).Hold) where
  -- the type of a name is that of arrays of Strings exactly where it is the name of the array of the arguments
  named_so : (name : List ℕ) → is_string_array (type_named (program_names us) name) ≡ bytes_eq arguments_array name
  named_so name = same_tests (is_string_array (type_named (program_names us) name)) (bytes_eq arguments_array name) one other
    where
      one : is_string_array (type_named (program_names us) name) ≡ true → bytes_eq arguments_array name ≡ true
      one is =
          let spells = type_spells (program_names us) name 1 (elements.Class STRING) (string_array_is (type_named (program_names us) name) is) in
          let text = spelled_here (program_names us) (array_kind 1 (elements.Class STRING)) name spells (arguments_in us).base in
          (bytes_eq-Decides arguments_array name).1 ((arguments_in us).spelled ∙ sym text)

      other : bytes_eq arguments_array name ≡ true → is_string_array (type_named (program_names us) name) ≡ true
      other is =
          let same : arguments_array ≡ name = (bytes_eq-Decides arguments_array name).0 is in
          let type = in_type (program_names us) (one_number us linked) (classes_named us decoded) (array_kind 1 (elements.Class STRING)) arguments_array (arguments_in us) in
          ap (λ n. is_string_array (type_named (program_names us) n)) (sym same) ∙ ap is_string_array type

  pub numbered_so : (c : ℕ) → option_map_or is_string_array (array_type (program_names us) c) false ≡ option_map_or (bytes_eq arguments_array) (array_numbered (program_names us) c) false
  numbered_so c = of (array_numbered (program_names us) c)
    where
      of : (o : Option (List ℕ)) → option_map_or is_string_array (option_map (type_named (program_names us)) o) false ≡ option_map_or (bytes_eq arguments_array) o false
      of None = refl
      of (Some name) = named_so name

-- ---- the first array class of this name

numbered_at : (p : ProgramNames) (place : ℕ) → array_numbered p (length p.classes + 1 + place) ≡ slice_get p.arrays place
numbered_at p place =
    let above : nat_le (length p.classes + 1 + place) (length p.classes) ≡ false = lt-leb (length p.classes + 1 + place) (length p.classes) (omega arith) in
    let same : length p.classes + 1 + place - suc (length p.classes) ≡ place = omega arith in
    ap (λ b. cond b None (slice_get p.arrays (length p.classes + 1 + place - suc (length p.classes)))) above ∙ ap (slice_get p.arrays) same

module _ (us : List ClassUnit) (decoded : AreUnits us) (linked : (link_rules us).Hold) (place : ℕ) (before : position_from (bytes_eq arguments_array) 0 (take place (array_names us)) ≡ None) (lt : place < length (array_names us)) where
  there : (x : List ℕ) × (slice_get (array_names us) place ≡ Some x)
  there = elim (slice_get_cases (array_names us) place).1 [
    | inl (x, within, at, same) ↦ (x, at)
    | inr (past, none) ↦ absurd (omega (arith, past, lt))
  ]

  abbrev test_of : ℕ → Bool
  test_of c = option_map_or is_string_array (array_type (program_names us) c) false

  tested : test_of (length (classes_of us) + 1 + place) ≡ bytes_eq arguments_array there.0
  tested =
      numbered_so us decoded linked (length (classes_of us) + 1 + place)
      ∙ ap (λ o. option_map_or (bytes_eq arguments_array) o false) (numbered_at (program_names us) place ∙ there.1)

  next : take (place + 1) (array_names us) ≡ take place (array_names us) ++ there.0 ∷ []
  next =
      let more : place + 1 ≡ suc place = omega arith in
      ap (λ n. take n (array_names us)) more ∙ take-suc (array_names us) place there.0 lt
      ∙ ap (λ x. take place (array_names us) ++ x ∷ []) (get_or_from_slice_get (array_names us) place there.0 there.0 there.1)

  pub found_here : true ≡ test_of (length (classes_of us) + 1 + place) → arguments_class (program_names us) ≡ suc (length (classes_of us) + place)
  found_here passes =
      ap (λ o. unwrap_or (option_map (λ i. suc (length (classes_of us) + i)) o) 0)
      (position_at (bytes_eq arguments_array) (array_names us) place there.0 there.1 (sym tested ∙ sym passes) before)

  pub not_here : false ≡ test_of (length (classes_of us) + 1 + place) → position_from (bytes_eq arguments_array) 0 (take (place + 1) (array_names us)) ≡ None
  not_here fails =
      ap (position_from (bytes_eq arguments_array) 0) next
      ∙ position_push (bytes_eq arguments_array) 0 (take place (array_names us)) there.0 before
      ∙ ap (λ b. cond b (Some (0 + length (take place (array_names us)))) None) (sym tested ∙ sym fails)

pub found_nowhere : (us : List ClassUnit) (n : ℕ) → position_from (bytes_eq arguments_array) 0 (take n (array_names us)) ≡ None → length (array_names us) ≤ n → 0 ≡ arguments_class (program_names us)
found_nowhere us n before all =
    sym (ap (λ o. unwrap_or (option_map (λ i. suc (length (classes_of us) + i)) o) 0)
    (ap (position_from (bytes_eq arguments_array) 0) (sym (take_all n (array_names us) all)) ∙ before))
