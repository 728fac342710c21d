-- Names and types as tests, which the table passes.
use Rattle.std.proofs.Common.{◌≡◌, ◌&&◌, ◌||◌, ℕ, Bool, true, false, not, List, [], ◌∷◌, length, refl, ap, nat_eq, inl, inr}
use Rattle.std.specs.Prelude.{Option, Some, None, IfSome, All, codes, bytes_eq}
use Rattle.std.specs.List.{AllByRecursion}
use Rattle.std.specs.Option.{option_map_or}
use Rattle.std.proofs.lemmas.Bool.{and_parts, eqb-false, not-true, or_cases}
use Rattle.std.proofs.lemmas.List.Elements.{All-nil, All-cons}
use Rattle.std.proofs.lemmas.Slice.Eq.{bytes_eq-Decides}
use Rattle.class_names.specs.declared.kind.BaseKind.{BaseKind}
use Rattle.class_names.specs.declared.kind.BaseKind.TheVariants as bases
use Rattle.class_names.specs.declared.kind.Kind.{Kind}
use Rattle.class_names.specs.declared.kind.Kind.TheVariants as kinds
use Rattle.class_names.specs.Names.{is_name_byte, IsNameByte, is_plain_byte, IsPlainByte, IsMemberName, IsMethodName}
use Rattle.class_names.specs.Kinds.{field_kind, method_kinds}
use Rattle.class_names.proofs.BytesLaws.{field_kind_is, method_kinds_are}
use Rattle.builtin_world.specs.Library.{Field, Method}
use Rattle.builtin_world.specs.BuiltinClass.{number_of}
use Rattle.builtin_laws.specs.Types.{IsBuiltInBase, IsBuiltInKind, HasBuiltInKind, HasBuiltInKinds, IsTypedField, IsTypedMethod}

-- each item passes
abbrev pub all_pass : {X : Type 0} → (X → Bool) → List X → Bool
all_pass test [] = true
all_pass test (x ∷ xs) = test x && all_pass test xs

passed : {X : Type 0} (test : X → Bool) (P : X → Type 0) → ((x : X) → test x ≡ true → P x) → (xs : List X) → all_pass test xs ≡ true → AllByRecursion P xs
passed test P tells [] pass = tt
passed test P tells (x ∷ xs) pass =
    let both = and_parts (test x) (all_pass test xs) pass in
    (tells x both.0, passed test P tells xs both.1)

pub all_passed : {X : Type 0} (test : X → Bool) (P : X → Type 0) → ((x : X) → test x ≡ true → P x) → (xs : List X) → all_pass test xs ≡ true → All P xs
all_passed test P tells [] pass = All-nil P
all_passed test P tells (x ∷ xs) pass =
    let both = and_parts (test x) (all_pass test xs) pass in
    All-cons P x xs (tells x both.0) (all_passed test P tells xs both.1)

-- ---- kinds

abbrev pub is_base : BaseKind → Bool
is_base bases.Float = false
is_base bases.Double = false
is_base (bases.Class name) = not (nat_eq (number_of name) 0)
is_base _ = true

abbrev pub is_kind : Kind → Bool
is_kind (kinds.Base base) = is_base base
is_kind (kinds.Array dimensions base) = is_base base

base_tells : (base : BaseKind) → is_base base ≡ true → IsBuiltInBase base
base_tells bases.Float pass = absurd cc
base_tells bases.Double pass = absurd cc
base_tells (bases.Class name) pass = eqb-false (number_of name) 0 (not-true (nat_eq (number_of name) 0) pass)
base_tells _ pass = tt

kind_tells : (kind : Kind) → is_kind kind ≡ true → IsBuiltInKind kind
kind_tells (kinds.Base base) pass = base_tells base pass
kind_tells (kinds.Array dimensions base) pass = base_tells base pass

abbrev pub is_kind_of : List ℕ → Bool
is_kind_of descriptor = option_map_or is_kind (field_kind descriptor) false

kind_of_tells : (descriptor : List ℕ) → is_kind_of descriptor ≡ true → HasBuiltInKind descriptor
kind_of_tells descriptor pass = by_kind (field_kind descriptor) refl pass
  where
    by_kind : (o : Option Kind) → field_kind descriptor ≡ o → option_map_or is_kind o false ≡ true → HasBuiltInKind descriptor
    by_kind None e pass = absurd cc
    by_kind (Some kind) e pass = (kind, (field_kind_is descriptor kind).0 e, kind_tells kind pass)

abbrev pub are_kinds : List Kind × Option Kind → Bool
are_kinds x = all_pass is_kind x.0 && option_map_or is_kind x.1 true

abbrev pub are_kinds_of : List ℕ → Bool
are_kinds_of descriptor = option_map_or are_kinds (method_kinds descriptor) false

result_tells : (returned : Option Kind) → option_map_or is_kind returned true ≡ true → IfSome returned IsBuiltInKind
result_tells None pass = tt
result_tells (Some kind) pass = kind_tells kind pass

kinds_of_tell : (descriptor : List ℕ) → are_kinds_of descriptor ≡ true → HasBuiltInKinds descriptor
kinds_of_tell descriptor pass = by_kinds (method_kinds descriptor) refl pass
  where
    by_kinds : (o : Option (List Kind × Option Kind)) → method_kinds descriptor ≡ o → option_map_or are_kinds o false ≡ true → HasBuiltInKinds descriptor
    by_kinds None e pass = absurd cc
    by_kinds (Some x) e pass =
        let both = and_parts (all_pass is_kind x.0) (option_map_or is_kind x.1 true) pass in
        (x.0, x.1, (method_kinds_are descriptor x.0 x.1).0 e, passed is_kind IsBuiltInKind kind_tells x.0 both.0, result_tells x.1 both.1)

-- ---- names

abbrev pub is_member_name : List ℕ → Bool
is_member_name name = not (nat_eq (length name) 0) && all_pass is_name_byte name

member_name_tells : (name : List ℕ) → is_member_name name ≡ true → IsMemberName name
member_name_tells name pass =
    let both = and_parts (not (nat_eq (length name) 0)) (all_pass is_name_byte name) pass in
    let full = eqb-false (length name) 0 (not-true (nat_eq (length name) 0) both.0) in
    (λ empty. full (ap length empty), passed is_name_byte IsNameByte (λ b is. is) name both.1)

abbrev pub is_method_name : List ℕ → Bool
is_method_name name = bytes_eq name (codes "<init>") || (is_member_name name && all_pass is_plain_byte name)

method_name_tells : (name : List ℕ) → is_method_name name ≡ true → IsMethodName name
method_name_tells name pass =
    elim (or_cases (bytes_eq name (codes "<init>")) (is_member_name name && all_pass is_plain_byte name) pass) [
      | inl init ↦ inl ((bytes_eq-Decides name (codes "<init>")).0 init)
      | inr plain ↦
          let both = and_parts (is_member_name name) (all_pass is_plain_byte name) plain in
          inr (inr (member_name_tells name both.0, passed is_plain_byte IsPlainByte (λ b is. is) name both.1))
    ]

-- ---- members

abbrev pub is_field : Field → Bool
is_field f = is_member_name f.name && is_kind_of f.descriptor

pub field_tells : (f : Field) → is_field f ≡ true → IsTypedField f
field_tells f pass =
    let both = and_parts (is_member_name f.name) (is_kind_of f.descriptor) pass in
    (member_name_tells f.name both.0, kind_of_tells f.descriptor both.1)

abbrev pub is_method : Method → Bool
is_method m = is_method_name m.name && are_kinds_of m.descriptor

pub method_tells : (m : Method) → is_method m ≡ true → IsTypedMethod m
method_tells m pass =
    let both = and_parts (is_method_name m.name) (are_kinds_of m.descriptor) pass in
    (method_name_tells m.name both.0, kinds_of_tell m.descriptor both.1)
