-- Pieces of a quoted text: each is one UTF-16 code unit.
use Rattle.std.specs.Prelude.{◌≡◌, ℕ, ◌+◌, ◌-◌, ◌*◌, ◌==◌, Bool, not, List, [], ◌∷◌, ◌++◌, nat_le, ◌&&◌, ◌||◌, if◌then◌else◌, Option, Some, None, IsTrue}

-- The bytes with a meaning of their own: the line's end, the quote 34 and the backslash 92.
abbrev pub is_special : ℕ → Bool
is_special a = a == 10 || a == 34 || a == 92

-- any other ASCII character
abbrev pub stands_for_itself : ℕ → Bool
stands_for_itself a = nat_le a 127 && not (is_special a)

-- what a hexadecimal digit, in either case, is worth
abbrev pub hex_value : ℕ → Option ℕ
hex_value a = if nat_le 48 a && nat_le a 57 then Some (a - 48) else if nat_le 65 a && nat_le a 70 then Some (a - 55) else if nat_le 97 a && nat_le a 102 then Some (a - 87) else None

-- \n, \" and \\
abbrev pub escaped : ℕ → Option ℕ
escaped b = if b == 110 then Some 10 else if b == 34 then Some 34 else if b == 92 then Some 92 else None

-- The first of four digits counts most.
pub record IsHexUnit (c d e f unit : ℕ) : Type 0 where
  pub first : ℕ
  pub second : ℕ
  pub third : ℕ
  pub fourth : ℕ
  pub has_first : hex_value c ≡ Some first
  pub has_second : hex_value d ≡ Some second
  pub has_third : hex_value e ≡ Some third
  pub has_fourth : hex_value f ≡ Some fourth
  pub is : unit ≡ first * 4096 + second * 256 + third * 16 + fourth

-- A character that stands for itself; a backslash and n, a quote or a backslash; a backslash, u and four
-- hexadecimal digits.
abbrev pub IsPiece : List ℕ → ℕ → Type 0
IsPiece [] unit = ⊥
IsPiece (a ∷ []) unit = IsTrue (stands_for_itself a) × (unit ≡ a)
IsPiece (a ∷ b ∷ []) unit = (a ≡ 92) × (escaped b ≡ Some unit)
IsPiece (a ∷ b ∷ c ∷ []) unit = ⊥
IsPiece (a ∷ b ∷ c ∷ d ∷ []) unit = ⊥
IsPiece (a ∷ b ∷ c ∷ d ∷ e ∷ []) unit = ⊥
IsPiece (a ∷ b ∷ c ∷ d ∷ e ∷ f ∷ []) unit = (a ≡ 92) × (b ≡ 117) × IsHexUnit c d e f unit
IsPiece (a ∷ b ∷ c ∷ d ∷ e ∷ f ∷ g ∷ bytes) unit = ⊥

-- The bytes are pieces, one after another, of these code units.
abbrev pub ArePieces : List ℕ → List ℕ → Type 0
ArePieces bytes [] = bytes ≡ []
ArePieces bytes (unit ∷ units) = (piece : List ℕ) × (rest : List ℕ) × (bytes ≡ piece ++ rest) × IsPiece piece unit × ArePieces rest units
