-- An array of chars has one word for each of them, and is no thread.
use Rattle.std.proofs.Common.{◌≡◌, inl, inr, ◌+◌, ℕ, ◌==◌, ◌&&◌, Bool, true, false, true≢false, cond, nat_eq, nat_lt, Option, None, Some, List, length, refl, sym, ap, ◌∙◌, arith}
use Rattle.std.specs.Prelude.{unwrap_or, option_map}
use Rattle.std.specs.Option.{option_map_or}
use Rattle.std.proofs.lemmas.Bool.{and_parts, eqb-true}
use Rattle.array_kinds.specs.Kinds.{array_kind, Spells}
use Rattle.array_kinds.proofs.Names.{type_spells}
use Rattle.array_order.specs.Order.{array_text}
use Rattle.builtin_world.specs.declared.number.TheConstants.{CLASS, THREAD}
use Rattle.class_names.specs.declared.kind.BaseKind.{BaseKind}
use Rattle.class_names.specs.declared.kind.BaseKind.TheVariants as bases
use Rattle.class_names.specs.Descriptor.{base_text}
use Rattle.code_decode.specs.declared.code.ClassUnit.{ClassUnit}
use Rattle.link_types.specs.declared.types.ElementType.{ElementType}
use Rattle.link_types.specs.declared.types.ElementType.TheVariants as elements
use Rattle.link_types.specs.declared.types.ObjectType.{ObjectType}
use Rattle.link_types.specs.declared.types.ObjectType.TheVariants.{Class, Other, Array}
use Rattle.link_types.specs.Subtypes.{is_element_below, is_object_element, is_object_below}
use Rattle.link_rules.specs.Classes.{class_number, classes_of}
use Rattle.link_rules.specs.Layout.{array_words, instance_words}
use Rattle.link_rules.specs.Names.{array_numbered, element_type_of, program_names, type_named, type_numbered}
use Rattle.link_rules.specs.Supers.{is_class_below}
use Rattle.link_rules.proofs.Numbers.{class_count_is}
use Rattle.op_core.specs.OrdinaryState.{Object}
use Rattle.row_soundness.specs.Runs.{IsThread, MayStandFor, ObjectFits}
use Rattle.row_soundness.specs.Texts.{char_array}
use Rattle.program_soundness.specs.SoundPrograms.{IsSound}
use Rattle.program_soundness.proofs.ClassNumbers.{type_of_class}
use Rattle.program_soundness.proofs.TopClasses.{thread_top, no_array}

-- ---- what may be used as an array of chars is one

only_chars : (below : ℕ → ℕ → Bool) (x : ElementType) → is_element_below below x elements.Char ≡ true → x ≡ elements.Char
only_chars below elements.Char is = refl
only_chars below x is = cc

only_char_arrays : (below : ℕ → ℕ → Bool) (t : ObjectType) → is_object_below below t char_array ≡ true → t ≡ char_array
only_char_arrays below (Class c) is = cc
only_char_arrays below (Other c) is = cc
only_char_arrays below (Array m x) is = by_test (m == 1) refl is
  where
    by_test : (b : Bool) → (m == 1) ≡ b → cond b (is_element_below below x elements.Char) (nat_lt 1 m && is_object_element elements.Char) ≡ true → Array m x ≡ char_array
    by_test true one is = ap (λ k. Array k x) (eqb-true m 1 one) ∙ ap (Array 1) (only_chars below x is)
    by_test false more is = absurd (true≢false (sym (and_parts (nat_lt 1 m) (is_object_element elements.Char) is).1))

class_no_array : {A : Type 0} (c : ℕ) → ◌≡◌ {A = ObjectType} (Class c) char_array → A
class_no_array c is = cc

-- ---- its name has one word for each char

module _ (us : List ClassUnit) where
  one_each : (name : List ℕ) (n : ℕ) → type_named (program_names us) name ≡ char_array → array_words name n ≡ n
  one_each name n type = by_base spells.base (sym spells.base_is) spells.spelled
    where
      spells : Spells (program_names us) (array_kind 1 elements.Char) name
      spells = type_spells (program_names us) name 1 elements.Char type

      no_class : (b : Bool) (o : ℕ) (c : ℕ) → cond b (elements.Other o) (elements.Class c) ≡ elements.Char → ⊥
      no_class true o c is = cc
      no_class false o c is = cc

      by_base : (base : BaseKind) → element_type_of (program_names us) base ≡ elements.Char → name ≡ array_text 1 (base_text base) → array_words name n ≡ n
      by_base bases.Char same spelled = ap (λ text. array_words text n) spelled
      by_base bases.Long same spelled = cc
      by_base bases.Int same spelled = cc
      by_base bases.Byte same spelled = cc
      by_base bases.Short same spelled = cc
      by_base bases.Boolean same spelled = cc
      by_base bases.Float same spelled = cc
      by_base bases.Double same spelled = cc
      by_base (bases.Class c) same spelled = absurd (no_class (nat_eq (class_number (classes_of us) c) 0) _ _ same)

  module _ (r : ℕ) (o : Object) (fits : ObjectFits us r o) (stands : MayStandFor us o.class char_array) where
    type_is : type_numbered (program_names us) o.class ≡ char_array
    type_is = only_char_arrays (is_class_below (classes_of us)) (type_numbered (program_names us) o.class) stands

    no_class_object : {A : Type 0} → o.class ≡ CLASS → A
    no_class_object same =
        let count : length (classes_of us) ≡ 28 + length us = class_count_is us in
        class_no_array CLASS (sym (type_of_class (program_names us) CLASS (omega (arith, count))) ∙ (ap (type_numbered (program_names us)) (sym same) ∙ type_is))

    pub chars_have_a_word_each : o.words ≡ o.length
    chars_have_a_word_each = by_array (array_numbered (program_names us) o.class) refl
      where
        by_array : (a : Option (List ℕ)) → array_numbered (program_names us) o.class ≡ a → o.words ≡ o.length
        by_array None same = class_no_array o.class (sym (ap (λ a. unwrap_or (option_map (type_named (program_names us)) a) (Class o.class)) same) ∙ type_is)
        by_array (Some name) same = elim fits.words [
          | inl words ↦ words ∙ ap (λ a. option_map_or (λ n. array_words n o.length) a (instance_words (classes_of us) o.class)) same
              ∙ one_each name o.length (sym (ap (λ a. unwrap_or (option_map (type_named (program_names us)) a) (Class o.class)) same) ∙ type_is)
          | inr object ↦ no_class_object object.2
        ]

pub no_thread : (us : List ClassUnit) (order : List ℕ) → IsSound us order → (c : ℕ) → MayStandFor us c char_array → IsThread us c ≡ false
no_thread us order sound c stands = by_test (IsThread us c) refl
  where
    by_test : (b : Bool) → IsThread us c ≡ b → IsThread us c ≡ false
    by_test false is = is
    by_test true is = absurd (no_array us order sound THREAD (thread_top us) c 1 elements.Char stands is)
