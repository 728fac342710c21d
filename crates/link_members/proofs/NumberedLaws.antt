-- The names and the descriptors of the methods of all classes have numbers.
use Rattle.std.proofs.Common.{◌≡◌, ℕ, zero, suc, ◌-◌, ◌<◌, List, [], length, map, slice_get, Option, None, Some, inl, inr, refl, sym, ◌∙◌, ap, subst, arith}
use Rattle.std.specs.Option.{option_map, option_map_or}
use Rattle.std.proofs.lemmas.Bool.{cases_lt}
use Rattle.std.proofs.lemmas.List.{length-map}
use Rattle.std.proofs.lemmas.Option.{slice_get-map, none-some}
use Rattle.builtin_world.specs.Library.{library}
use Rattle.builtin_world.specs.Library.{Class as LibraryClass}
use Rattle.builtin_world.specs.BuiltinClass.{rows, row_of}
use Rattle.code_decode.specs.declared.code.ClassUnit.{ClassUnit}
use Rattle.class_texts.specs.Texts.{ProgramTexts, KnowsUnits, KnowsClasses, entry_number}
use Rattle.class_texts.proofs.AddingLaws.{each_made}
use Rattle.text_numbers.specs.Numbers.{number_of}
use Rattle.link_rules.specs.Classes.{NamedClass, NamedMember, classes_of, class_numbered, class_of_unit, library_class, library_method, member_of_file, methods_of, number_of_file}
use Rattle.link_rules.specs.Members.{signature_of}
use Rattle.link_rules.specs.Units.{AreUnits}
use Rattle.link_rules.proofs.Numbers.{file_class}
use Rattle.link_rules.proofs.Lists.{before_at}
use Rattle.member_lookup.specs.Found.{HaveNumbers}
use Rattle.member_lookup.proofs.SourceLaws.{no_class}
use Rattle.member_rules.proofs.MethodLaws.{have_texts}
use Rattle.link_members.proofs.MemberLaws.{named, described}

abbrev methods_in : Option NamedClass → List NamedMember
methods_in o = option_map_or (λ (k : NamedClass). k.methods) o []

abbrev Numbered : ProgramTexts → NamedMember → Type 0
Numbered p m = HaveNumbers p (number_of p.texts m.name) (number_of p.texts m.descriptor) (signature_of m)

-- those of a list that is empty
none_numbered : (p : ProgramTexts) (ms : List NamedMember) → ms ≡ [] → (i : ℕ) (m : NamedMember) → slice_get ms i ≡ Some m → Numbered p m
none_numbered p ms e i m at = absurd (none-some m (ap (λ xs. slice_get xs i) (sym e) ∙ at))

module _ (p : ProgramTexts) where
  in_file : AreUnits p.units → KnowsUnits p.texts p.units → (k : ℕ) (u : ClassUnit) → slice_get p.units k ≡ Some u
      → (i : ℕ) (m : NamedMember) → slice_get (map (member_of_file u.file.pool) u.file.methods) i ≡ Some m → Numbered p m
  in_file decoded known k u there =
      each_made (Numbered p) (member_of_file u.file.pool) u.file.methods (λ i m at.
      let d = decoded k u there in
      let have = have_texts p u.file.pool m (entry_number p.texts (slice_get u.file.pool m.name)) (entry_number p.texts (slice_get u.file.pool m.descriptor)) (named u d i m at) (described u d i m at) refl (known k u there m.name) refl (known k u there m.descriptor) in
      record { name_is = refl; descriptor_is = refl; name_has = have.name_has; descriptor_has = have.descriptor_has })

  in_library : KnowsClasses p.texts rows → (j : ℕ) (r : LibraryClass) → slice_get library j ≡ Some r
      → (i : ℕ) (m : NamedMember) → slice_get (map library_method r.methods) i ≡ Some m → Numbered p m
  unfolding rows
  in_library known j r there =
      let row : slice_get (map row_of library) j ≡ Some (row_of r) = slice_get-map row_of library j ∙ ap (option_map row_of) there in
      each_made (Numbered p) library_method r.methods (λ i m at.
      let k = known j (row_of r) row i m at in
      record { name_is = refl; descriptor_is = refl; name_has = k.name; descriptor_has = k.descriptor })

  of_file : AreUnits p.units → KnowsUnits p.texts p.units → (k : ℕ) (i : ℕ) (m : NamedMember) → slice_get (methods_of (classes_of p.units) (number_of_file k)) i ≡ Some m → Numbered p m
  of_file decoded known k = go (slice_get p.units k) refl
    where
      go : (o : Option ClassUnit) → slice_get p.units k ≡ o → (i : ℕ) (m : NamedMember) → slice_get (methods_of (classes_of p.units) (number_of_file k)) i ≡ Some m → Numbered p m
      go None none = none_numbered p (methods_of (classes_of p.units) (number_of_file k)) (ap methods_in (no_class p.units k none))
      go (Some u) there = λ i m at.
          in_file decoded known k u there i m (ap (λ ms. slice_get ms i) (sym (ap methods_in (file_class p.units k u there))) ∙ at)

  of_library : KnowsClasses p.texts rows → (j : ℕ) → j < length library → (i : ℕ) (m : NamedMember) → slice_get (methods_of (classes_of p.units) (suc j)) i ≡ Some m → Numbered p m
  of_library known j lt = go (slice_get library j) refl
    where
      is : class_numbered (classes_of p.units) (suc j) ≡ option_map library_class (slice_get library j)
      is = before_at (map library_class library) (map class_of_unit p.units) j (omega (arith, length-map library library_class)) ∙ slice_get-map library_class library j

      go : (o : Option LibraryClass) → slice_get library j ≡ o → (i : ℕ) (m : NamedMember) → slice_get (methods_of (classes_of p.units) (suc j)) i ≡ Some m → Numbered p m
      go None none = none_numbered p (methods_of (classes_of p.units) (suc j)) (ap methods_in (is ∙ ap (option_map library_class) none))
      go (Some r) there = λ i m at.
          in_library known j r there i m (ap (λ ms. slice_get ms i) (sym (ap methods_in (is ∙ ap (option_map library_class) there))) ∙ at)

  pub all_numbered : AreUnits p.units → KnowsUnits p.texts p.units → KnowsClasses p.texts rows → (c i : ℕ) (m : NamedMember) → slice_get (methods_of (classes_of p.units) c) i ≡ Some m → Numbered p m
  unfolding library
  all_numbered decoded files builtin zero = none_numbered p [] refl
  all_numbered decoded files builtin (suc j) = elim (cases_lt j 28) [
    | inl lt ↦ of_library builtin j lt
    | inr le ↦
        let is : number_of_file (j - 28) ≡ suc j = omega arith in
        let Goal : ℕ → Type 0 = λ c. (i : ℕ) (m : NamedMember) → slice_get (methods_of (classes_of p.units) c) i ≡ Some m → Numbered p m in
        subst Goal is (of_file decoded files (j - 28))
  ]
