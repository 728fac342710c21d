-- Entries of a sound pool.
use Rattle.std.proofs.Common.{◌≡◌, ℕ, List, refl, sym, ap, subst, ◌∙◌}
use Rattle.std.specs.Prelude.{Some, slice_get, ◌⊎◌}
use Rattle.std.proofs.lemmas.Option.{same_Some}
use Rattle.class_walk.specs.declared.class.Constant.{Constant}
use Rattle.class_walk.specs.declared.class.Constant.TheVariants.{Utf8, Class, Str, Field, Method, IfaceMethod, Pair}
use Rattle.class_names.specs.Names.{IsMemberName}
use Rattle.class_pool.specs.Pool.{Reference, reference_of, IsUtf8At, IsPairAt}
use Rattle.class_pool.specs.PoolRules.{IsText, IsClassEntry, IsPairEntry, IsUsedRightly, IsFieldType, IsMethodType}
use Rattle.class_pool.specs.Lookup.{class_name_of, name_and_type_of, class_and_member}
use Rattle.class_pool.proofs.LookupLaws.{class_again, name_and_type_again}
use Rattle.class_read.specs.Sound.{Each, IsSoundEntry}
use Rattle.code_laws.specs.File.{NamesClass, HoldsText, NamesMember, IsRightReference, IsRightEntry}

module _ (pool : List Constant) (sound : Each (IsSoundEntry pool) pool) where
  text_used : (index : ℕ) (text : List ℕ) → IsUtf8At pool index text → IsUsedRightly pool index text
  text_used index text there = (sound index (Utf8 text) there).1

  names_class : (index name : ℕ) → slice_get pool index ≡ Some (Class name) → NamesClass pool index
  names_class index name there =
      let text : IsText pool name = sound index (Class name) there in
      (text.0, (name, there, text.1), (text_used name text.0 text.1).class (index, Class name, there, refl))

  class_named : (index : ℕ) → IsClassEntry pool index → NamesClass pool index
  class_named index is = names_class index is.0 is.1

  names_member : (index name descriptor : ℕ) → slice_get pool index ≡ Some (Pair name descriptor) → NamesMember pool index
  names_member index name descriptor there =
      let texts : IsText pool name × IsText pool descriptor = sound index (Pair name descriptor) there in (
        texts.0.0,
        texts.1.0,
        (name, descriptor, there, texts.0.1, texts.1.1),
        (text_used name texts.0.0 texts.0.1).name (index, Pair name descriptor, there, refl),
        (text_used descriptor texts.1.0 texts.1.1).descriptor (index, Pair name descriptor, there, refl),
      )

  member_named : (index : ℕ) → IsPairEntry pool index → NamesMember pool index
  member_named index is = names_member index is.0 is.1 is.2

  holds_text : (index text : ℕ) → slice_get pool index ≡ Some (Str text) → HoldsText pool text
  holds_text index text there =
      let is : IsText pool text = sound index (Str text) there in
      (is.0, is.1, (sound text (Utf8 is.0) is.1).0)

  -- the class and the member of two entries
  both_named : (class pair : ℕ) → IsClassEntry pool class → IsPairEntry pool pair
      → (r : Reference) × (class_and_member (class_name_of pool (slice_get pool class)) (name_and_type_of pool (slice_get pool pair)) ≡ Some r) × IsRightReference r
  both_named class pair is_class is_pair =
      let c = class_named class is_class in
      let m = member_named pair is_pair in
      let name = class_again pool class c.0 c.1 in
      let member = name_and_type_again pool pair m.0 m.1 m.2 in (
        reference_of c.0 m.0 m.1,
        rw (name, member) refl,
        record { class = c.2; name = m.3; descriptor = m.4 },
      )

  right_entry : (index : ℕ) (c : Constant) → slice_get pool index ≡ Some c → IsRightEntry pool index c
  right_entry index (Utf8 text) there = (sound index (Utf8 text) there).0
  right_entry index (Class name) there = names_class index name there
  right_entry index (Str text) there = holds_text index text there
  right_entry index (Pair name descriptor) there = names_member index name descriptor there
  right_entry index (Field class pair) there = let is = sound index (Field class pair) there in rw there (both_named class pair is.0 is.1)
  right_entry index (Method class pair) there = let is = sound index (Method class pair) there in rw there (both_named class pair is.0 is.1)
  right_entry index (IfaceMethod class pair) there = let is = sound index (IfaceMethod class pair) there in rw there (both_named class pair is.0 is.1)
  right_entry index _ there = tt

pub entry_right : (pool : List Constant) → Each (IsSoundEntry pool) pool → (index : ℕ) (c : Constant) → slice_get pool index ≡ Some c → IsRightEntry pool index c
entry_right pool sound index c there = right_entry pool sound index c there

-- the member that two entries name has the name and the type of the pair
pub named_by_both : (pool : List Constant) → Each (IsSoundEntry pool) pool → (class pair : ℕ) (name descriptor : List ℕ) → IsClassEntry pool class → IsPairAt pool pair name descriptor
    → (r : Reference) × (class_and_member (class_name_of pool (slice_get pool class)) (name_and_type_of pool (slice_get pool pair)) ≡ Some r) × IsRightReference r × (r.name ≡ name) × (r.descriptor ≡ descriptor)
named_by_both pool sound class pair name descriptor is_class is =
    let c = class_named pool sound class is_class in
    let m = names_member pool sound pair is.0 is.1 is.2 in
    let found = name_and_type_again pool pair name descriptor is in
    let same : Some (m.0, m.1) ≡ Some (name, descriptor) = sym (name_and_type_again pool pair m.0 m.1 m.2) ∙ found in
    let one : m.0 ≡ name = ap (λ (x : List ℕ × List ℕ). x.0) (same_Some (m.0, m.1) (name, descriptor) same) in
    let other : m.1 ≡ descriptor = ap (λ (x : List ℕ × List ℕ). x.1) (same_Some (m.0, m.1) (name, descriptor) same) in
    let class_found = class_again pool class c.0 c.1 in (
      reference_of c.0 name descriptor,
      rw (class_found, found) refl,
      record { class = c.2; name = subst IsMemberName one m.3; descriptor = subst (λ (d : List ℕ). IsFieldType d ⊎ IsMethodType d) other m.4 },
      refl,
      refl,
    )
