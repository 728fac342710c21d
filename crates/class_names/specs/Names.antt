-- Names (JVMS 4.2).
use Rattle.std.specs.Prelude.{◌≡◌, ◌≢◌, ℕ, Bool, List, [], ◌∷◌, ◌++◌, ◌||◌, ◌==◌, ◌⊎◌, not, IsTrue, codes, flat_map}
use Rattle.std.specs.List.{AllByRecursion}

-- a byte that may occur in an unqualified name (JVMS 4.2.2): any but . ; [ /
abbrev pub is_name_byte : ℕ → Bool
is_name_byte b = not (b == 46 || b == 59 || b == 91 || b == 47)

abbrev pub IsNameByte : ℕ → Type 0
IsNameByte b = IsTrue (is_name_byte b)

-- An unqualified name (JVMS 4.2.2): it is not empty, and each byte may occur in one.
abbrev pub IsMemberName : List ℕ → Type 0
IsMemberName name = (name ≢ []) × AllByRecursion IsNameByte name

-- a byte that is neither < nor >
abbrev pub is_plain_byte : ℕ → Bool
is_plain_byte b = not (b == 60 || b == 62)

abbrev pub IsPlainByte : ℕ → Type 0
IsPlainByte b = IsTrue (is_plain_byte b)

-- A method name (JVMS 4.2.2): an unqualified name that is <init> or <clinit>, or has neither < nor >.
abbrev pub IsMethodName : List ℕ → Type 0
IsMethodName name = (name ≡ codes "<init>") ⊎ (name ≡ codes "<clinit>") ⊎ (IsMemberName name × AllByRecursion IsPlainByte name)

-- a part of a class name after the first, with the / before it
abbrev pub with_slash : List ℕ → List ℕ
with_slash part = 47 ∷ part

-- The internal form of a class name (JVMS 4.2.1): unqualified names, joined by /.
pub record IsClassName (name : List ℕ) : Type 0 where
  pub first : List ℕ
  pub others : List (List ℕ)
  pub first_part : IsMemberName first
  pub other_parts : AllByRecursion IsMemberName others
  pub joined : name ≡ first ++ flat_map with_slash others
