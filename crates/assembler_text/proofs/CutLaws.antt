-- The first line of a text is what comes before its first byte 10.
use Rattle.std.proofs.Common.{◌≡◌, ◌≢◌, ℕ, ◌+◌, Bool, true, false, eqb, not, List, [], ◌∷◌, take, drop, refl, ap, arith}
use Rattle.std.proofs.Math.Numerals.{one-add}
use Rattle.std.specs.List.{prefix_len}
use Rattle.assembler_text.specs.TextLines.{onto_first}
use Rattle.assembler_text.specs.Reading.{IsFirstLine}

abbrev len : List ℕ → ℕ
len text = prefix_len (λ b. not (eqb b 10)) text

-- a byte in front of a line
onto : (b : ℕ) (text line rest : List ℕ) → IsFirstLine text line rest → eqb b 10 ≡ false → IsFirstLine (b ∷ text) (b ∷ line) rest
onto b text line rest f e = record {
  size = f.size + 1;
  cut = rw e (ap (onto_first b) f.cut);
  measured = let m = f.measured in omega arith;
  some = let s = f.some in omega arith;
}

cut_before : (b : ℕ) (text : List ℕ) (test : Bool) → eqb b 10 ≡ test → IsFirstLine (b ∷ text) (take (len (b ∷ text)) (b ∷ text)) (drop 1 (drop (len (b ∷ text)) (b ∷ text)))
cut_before b text true e = rw e (record { size = 1; cut = rw e refl; measured = omega arith; some = omega arith })
cut_before b [] false e = rw e (record { size = 1; cut = rw e refl; measured = omega arith; some = omega arith })
cut_before b (c ∷ text) false e = rw (e, one-add (len (c ∷ text))) (onto b (c ∷ text) (take (len (c ∷ text)) (c ∷ text)) (drop 1 (drop (len (c ∷ text)) (c ∷ text))) (cut_before c text (eqb c 10) refl) e)

pub first_line : (text line rest : List ℕ) (n : ℕ) → text ≢ [] → n ≡ len text → line ≡ take n text → rest ≡ drop 1 (drop n text) → IsFirstLine text line rest
first_line [] line rest n some is l r = absurd (some refl)
first_line (b ∷ text) line rest n some is l r = rw (l, r, is) (cut_before b text (eqb b 10) refl)
