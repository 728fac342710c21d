-- Numbers at the front of the same bytes are the same.
use Rattle.std.proofs.Common.{◌≡◌, ℕ, ◌<◌, ◌^◌, List, [], ◌∷◌, ◌++◌, length, refl, sym, ap, ◌∙◌, arith, append_assoc}
use Rattle.byteorder.specs.Endian.{big_bytes}
use Rattle.code_frames.proofs.ByteLaws.{unsigned_once}

-- ---- bytes

-- two numbers of as many bytes, before other bytes
pub number_same : (n x y : ℕ) (a b : List ℕ) → x < 256 ^ n → y < 256 ^ n → big_bytes n x ++ a ≡ big_bytes n y ++ b → (x ≡ y) × (a ≡ b)
number_same n x y a b small_x small_y e = unsigned_once n (big_bytes n x ++ a) x y a b small_x small_y refl e

-- a text that is a number, before other bytes
pub text_same : (n x y : ℕ) (text a b : List ℕ) → x < 256 ^ n → y < 256 ^ n → text ≡ big_bytes n x → text ++ a ≡ big_bytes n y ++ b → (x ≡ y) × (a ≡ b)
text_same n x y text a b small_x small_y spelled e = number_same n x y a b small_x small_y (ap (λ (s : List ℕ). s ++ a) (sym spelled) ∙ e)

-- two texts of one length, before other bytes
pub front_same : (x y a b : List ℕ) → length x ≡ length y → x ++ a ≡ y ++ b → (x ≡ y) × (a ≡ b)
front_same [] [] a b size e = (refl, e)
front_same [] (k ∷ y) a b size e = absurd (omega arith)
front_same (h ∷ x) [] a b size e = absurd (omega arith)
front_same (h ∷ x) (k ∷ y) a b size e =
    let more : x ++ a ≡ y ++ b = cc in
    let others = front_same x y a b (omega arith) more in
    let first : h ≡ k = cc in
    (cc (others.0), others.1)

-- the first parts of two texts, before the other bytes
pub parted : (text first others rest second more behind : List ℕ) → text ≡ first ++ others → text ++ rest ≡ (second ++ more) ++ behind → first ++ (others ++ rest) ≡ second ++ (more ++ behind)
parted text first others rest second more behind spelled e =
    sym (append_assoc first others rest) ∙ ap (λ (s : List ℕ). s ++ rest) (sym spelled) ∙ e ∙ append_assoc second more behind
