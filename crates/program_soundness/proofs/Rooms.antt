-- Objects have few words.
use Rattle.std.proofs.Common.{◌≡◌, ◌≢◌, ◌<◌, ◌≤◌, ◌+◌, ◌*◌, ◌^◌, ℕ, Bool, true, false, cond, Option, None, Some, List, length, map, nat_le, bytes_eq, codes, inl, inr, refl, ap, ◌∙◌, arith}
use Rattle.std.specs.List.{range_with_len}
use Rattle.std.specs.Option.{option_map_or}
use Rattle.std.proofs.lemmas.Bool.{cases_lt, leb-true}
use Rattle.std.proofs.lemmas.List.{length-map}
use Rattle.builtin_world.specs.Library.{library}
use Rattle.class_layout.proofs.FieldLaws.{own_few}
use Rattle.class_layout.proofs.RowLaws.{super_is_small, no_words}
use Rattle.code_decode.specs.declared.code.ClassUnit.{ClassUnit}
use Rattle.code_laws.proofs.FileLaws.{small}
use Rattle.link_rules.specs.Classes.{classes_of, fields_of, member_of_file, superclass_of}
use Rattle.link_rules.specs.Layout.{array_words, built_in_words, instance_words, own_words}
use Rattle.link_rules.specs.Names.{program_names, array_numbered}
use Rattle.link_rules.proofs.Fields.{library_stays, library_words_are, words_of_file}
use Rattle.link_rules.proofs.Numbers.{in_library, is_file}
use Rattle.link_rules.proofs.Objects.{fields_of_file}
use Rattle.program_soundness.specs.SoundPrograms.{IsSound}
use Rattle.program_soundness.specs.Programs.{ObjectsHaveRoom}

library_words : map (λ c. nat_le (built_in_words c) 3) (range_with_len 0 29) ≡ map (λ _. true) (range_with_len 0 29)
unfolding library
library_words = refl

module _ (us : List ClassUnit) (order : List ℕ) (sound : IsSound us order) where
  class_words : (c : ℕ) → instance_words (classes_of us) c ≤ 2 ^ 31
  class_words c = elim (cases_lt (length (classes_of us)) c) [
    | inl past ↦ (let none : instance_words (classes_of us) c ≡ 0 = no_words us c (inr past) in omega (arith, none))
    | inr within ↦ elim (cases_lt 28 c) [
      | inl read ↦ of_file read (omega (arith, within))
      | inr low ↦ elim (cases_lt 0 c) [
        | inl some ↦ of_library (λ e. omega (arith, e, some)) (omega (arith, within)) (omega (arith, low))
        | inr zero ↦ (let none : instance_words (classes_of us) c ≡ 0 = no_words us c (inl (omega (arith, zero))) in omega (arith, none))
      ]
    ]
  ]
    where
      of_library : c ≢ 0 → c ≤ length (classes_of us) → c ≤ 28 → instance_words (classes_of us) c ≤ 2 ^ 31
      of_library some within low =
          let are : instance_words (classes_of us) c ≡ built_in_words c = library_words_are (classes_of us) order sound.linked.order (library_stays us) c some within low in
          let few : built_in_words c ≤ 3 = leb-true (built_in_words c) 3 (in_library 0 29 (λ d. nat_le (built_in_words d) 3) (λ _. true) library_words c (omega arith) (omega (arith, low))) in
          omega (arith, are, few)

      of_file : 28 < c → c ≤ length (classes_of us) → instance_words (classes_of us) c ≤ 2 ^ 31
      of_file read within =
          let (k, u, at, class) = is_file us c read within in
          let (i, there) = sound.linked.order.whole c (λ e. omega (arith, e, read)) within in
          let above : instance_words (classes_of us) (superclass_of (classes_of us) c) < 2 ^ 30 = super_is_small us order i c sound.units sound.linked.rules.0 sound.linked.order there in
          let fields : fields_of (classes_of us) c ≡ map (member_of_file u.file.pool) u.file.fields = ap (fields_of (classes_of us)) class ∙ fields_of_file us k u at in
          let many : length (fields_of (classes_of us) c) ≡ length u.file.fields = ap length fields ∙ length-map u.file.fields (member_of_file u.file.pool) in
          let few : length u.file.fields < 2 ^ 16 = (small u.file (sound.units k u at).file).fields in
          let own : own_words false (fields_of (classes_of us) c) ≤ 2 * length (fields_of (classes_of us) c) = own_few false (fields_of (classes_of us) c) in
          let words : instance_words (classes_of us) c ≡ instance_words (classes_of us) (superclass_of (classes_of us) c) + own_words false (fields_of (classes_of us) c) = words_of_file (classes_of us) order sound.linked.order c read within in
          omega (arith, above, many, few, own, words)

  pub have_room : ObjectsHaveRoom us
  have_room c n can = by_array (array_numbered (program_names us) c)
    where
      by_array : (o : Option (List ℕ)) → option_map_or (λ name. array_words name n) o (instance_words (classes_of us) c) ≤ 2 ^ 32
      by_array None = let few = class_words c in omega (arith, few)
      by_array (Some name) = by_longs (bytes_eq name (codes "[J"))
        where
          by_longs : (b : Bool) → cond b (2 * n) n ≤ 2 ^ 32
          by_longs true = let short = can.length in omega (arith, short)
          by_longs false = let short = can.length in omega (arith, short)
