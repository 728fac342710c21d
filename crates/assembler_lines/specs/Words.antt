-- Words of a line.
use Prim.Native.String.{String}
use Rattle.std.specs.Prelude.{◌≡◌, ℕ, ◌==◌, Bool, false, not, List, [], ◌∷◌, ◌++◌, map, nat_le, ◌&&◌, ◌||◌, IsTrue, codes}
use Rattle.std.specs.List.{AllByRecursion}
use Rattle.class_names.specs.ShortestForms.{encoded}
use Rattle.assembler_lines.specs.declared.word.Word.{Word}
use Rattle.assembler_lines.specs.declared.word.Word.TheVariants.{Plain, Quoted}
use Rattle.assembler_lines.specs.Piece.{ArePieces}

-- an ASCII character that is neither a space nor the line's end
abbrev pub is_plain_byte : ℕ → Bool
is_plain_byte b = nat_le b 127 && not (b == 32 || b == 10)

abbrev pub IsPlainByte : ℕ → Type 0
IsPlainByte b = IsTrue (is_plain_byte b)

-- One such character or more, of which the first is no quote.
abbrev pub IsPlain : List ℕ → Type 0
IsPlain [] = ⊥
IsPlain (b ∷ bytes) = ((b == 34) ≡ false) × IsTrue (is_plain_byte b) × AllByRecursion IsPlainByte bytes

-- The text of a plain word is its characters in modified UTF-8, where NUL has two bytes (JVMS 4.4.7). A quoted text has its pieces between two quotes.
abbrev pub Spells : List ℕ → Word → Type 0
Spells bytes (Plain text) = (text ≡ encoded bytes) × IsPlain bytes
Spells bytes (Quoted units) = (pieces : List ℕ) × (bytes ≡ 34 ∷ (pieces ++ 34 ∷ [])) × ArePieces pieces units

-- One space separates two words.
abbrev pub AreWords : List ℕ → List Word → Type 0
AreWords text [] = ⊥
AreWords text (word ∷ []) = Spells text word
AreWords text (word ∷ next ∷ words) = (first : List ℕ) × (rest : List ℕ) × (text ≡ first ++ 32 ∷ rest) × Spells first word × AreWords rest (next ∷ words)

-- a plain word that is known
abbrev pub word : String → Word
word text = Plain (codes text)

-- plain words
abbrev pub plain_words : List (List ℕ) → List Word
plain_words names = map (λ name. Plain name) names
