-- Modified UTF-8 (JVMS 4.4.7).
use Rattle.std.specs.Prelude.{◌≡◌, ℕ, ◌+◌, ◌-◌, ◌*◌, ◌%◌, Bool, List, [], ◌∷◌, nat_le, ◌&&◌, ◌||◌, if◌then◌else◌, map, IsTrue, encode_utf8_all}
use Rattle.std.specs.List.{AllByRecursion, concat}

-- 0xxxxxxx other than 0
abbrev pub is_single : ℕ → Bool
is_single a = nat_le 1 a && nat_le a 127

-- 110xxxxx
abbrev pub is_double : ℕ → Bool
is_double a = nat_le 192 a && nat_le a 223

-- 1110xxxx
abbrev pub is_triple : ℕ → Bool
is_triple a = nat_le 224 a && nat_le a 239

-- 10xxxxxx
abbrev pub is_continuation : ℕ → Bool
is_continuation b = nat_le 128 b && nat_le b 191

-- The three forms of a UTF-16 code unit. A unit may have a longer form than it needs.
abbrev pub IsForm : List ℕ → Type 0
IsForm [] = ⊥
IsForm (a ∷ []) = IsTrue (is_single a)
IsForm (a ∷ b ∷ []) = IsTrue (is_double a) × IsTrue (is_continuation b)
IsForm (a ∷ b ∷ c ∷ []) = IsTrue (is_triple a) × IsTrue (is_continuation b) × IsTrue (is_continuation c)
IsForm (a ∷ b ∷ c ∷ d ∷ bs) = ⊥

-- The code unit of a form: the bits that are shown as x above, one byte after another.
abbrev pub unit_of : List ℕ → ℕ
unit_of [] = 0
unit_of (a ∷ []) = a
unit_of (a ∷ b ∷ []) = a % 32 * 64 + b % 64
unit_of (a ∷ b ∷ c ∷ bs) = a % 16 * 4096 + b % 64 * 64 + c % 64

-- The bytes are these forms, one after the other.
pub record AreForms (bytes : List ℕ) (forms : List (List ℕ)) : Type 0 where
  pub each : AllByRecursion IsForm forms
  pub joined : bytes ≡ concat forms

abbrev pub IsModifiedUtf8 : List ℕ → Type 0
IsModifiedUtf8 bytes = (forms : List (List ℕ)) × AreForms bytes forms

-- a high surrogate, U+D800 to U+DBFF
abbrev pub is_high : ℕ → Bool
is_high unit = nat_le 55296 unit && nat_le unit 56319

-- a low surrogate, U+DC00 to U+DFFF
abbrev pub is_low : ℕ → Bool
is_low unit = nat_le 56320 unit && nat_le unit 57343

-- the character of a surrogate pair
abbrev pub pair_of : ℕ → ℕ → ℕ
pair_of high low = 65536 + (high - 55296) * 1024 + (low - 56320)

-- the character of a unit that is in no pair: ? for a surrogate
abbrev pub alone : ℕ → ℕ
alone unit = if is_high unit || is_low unit then 63 else unit

-- The characters of UTF-16 code units: a high surrogate and a low one after it are one character.
abbrev pub characters : List ℕ → List ℕ
characters [] = []
characters (u ∷ []) = alone u ∷ []
characters (u ∷ v ∷ us) = if is_high u && is_low v then pair_of u v ∷ characters us else alone u ∷ characters (v ∷ us)

-- The text, in UTF-8, is that of the characters that the bytes stand for.
pub record IsTextOf (bytes text : List ℕ) : Type 0 where
  pub forms : List (List ℕ)
  pub formed : AreForms bytes forms
  pub spelled : text ≡ encode_utf8_all (characters (map unit_of forms))
