-- The pieces of a text that is cut.
use Rattle.std.proofs.Common.{◌≡◌, ℕ, suc, ◌+◌, ◌<◌, ◌==◌, Bool, true, false, cond, ltb, List, [], ◌∷◌, length, take, drop, Option, Some, None, option_map, refl, ap, ◌∙◌, arith}
use Rattle.std.specs.List.{position_or_len}
use Rattle.std.proofs.lemmas.Bool.{ltb-true, ltb-false, lt-ltb, le-ltb}
use Rattle.command_words.specs.Cut.{cut, pieces, put_first}

abbrev pub Parts : Type 0
Parts = Option (List ℕ × List ℕ)

-- the parts with a byte more in front
abbrev pub after_byte : ℕ → Parts → Parts
after_byte b parts = option_map (λ p. (b ∷ p.0, p.1)) parts

-- what comes before a place and after it, where it is inside
abbrev pub parts_at : ℕ → List ℕ → Bool → Parts
parts_at at text t = option_map (λ at. (take at text, drop (at + 1) text)) (cond t (Some at) None)

suc-at : (at : ℕ) → 1 + at ≡ suc at
suc-at at = omega arith

abbrev pub front : ℕ → List ℕ → Parts
front at text = Some (take at text, drop (at + 1) text)

at-true : (b : ℕ) (text : List ℕ) (at : ℕ) → front (1 + at) (b ∷ text) ≡ after_byte b (front at text)
at-true b text at =
    let next : suc at + 1 ≡ suc (at + 1) = omega arith in
    let behind : drop (suc at + 1) (b ∷ text) ≡ drop (at + 1) text = ap (λ k. drop k (b ∷ text)) next in
    let more : front (suc at) (b ∷ text) ≡ after_byte b (front at text) = ap (λ d. Some (b ∷ take at text, d)) behind in
    ap (λ k. front k (b ∷ text)) (suc-at at) ∙ more

pub cut-here : (byte b : ℕ) (text : List ℕ) → (b == byte) ≡ true → cut byte (b ∷ text) ≡ Some ([], text)
cut-here byte b text t = let some : ltb 0 (length (b ∷ text)) ≡ true = lt-ltb 0 _ (omega arith) in rw (t, some) refl

later : (b at : ℕ) (text : List ℕ) (t : Bool) → ltb at (length text) ≡ t → parts_at (1 + at) (b ∷ text) (ltb (1 + at) (length (b ∷ text))) ≡ after_byte b (parts_at at text (ltb at (length text)))
later b at text true t =
    let inside = ltb-true at (length text) t in
    let more : ltb (1 + at) (length (b ∷ text)) ≡ true = lt-ltb _ _ (omega arith) in
    rw (more, t) (at-true b text at)
later b at text false f =
    let behind = ltb-false at (length text) f in
    let more : ltb (1 + at) (length (b ∷ text)) ≡ false = le-ltb _ _ (omega arith) in
    rw (more, f) refl

pub cut-later : (byte b : ℕ) (text : List ℕ) → (b == byte) ≡ false → cut byte (b ∷ text) ≡ after_byte b (cut byte text)
cut-later byte b text f = rw f (later b (position_or_len (λ c. c == byte) text) text _ refl)

-- the pieces of the parts
abbrev pub pieces_of : ℕ → List ℕ → Parts → List (List ℕ)
pieces_of byte text None = text ∷ []
pieces_of byte text (Some p) = p.0 ∷ pieces byte p.1

put-before : (byte b : ℕ) (text : List ℕ) (parts : Parts) → put_first b (pieces_of byte text parts) ≡ pieces_of byte (b ∷ text) (after_byte b parts)
put-before byte b text None = refl
put-before byte b text (Some p) = refl

first-byte : (byte b : ℕ) (text : List ℕ) (t : Bool) → (b == byte) ≡ t → pieces byte text ≡ pieces_of byte text (cut byte text) → pieces byte (b ∷ text) ≡ pieces_of byte (b ∷ text) (cut byte (b ∷ text))
first-byte byte b text true t same = rw (cut-here byte b text t, t) refl
first-byte byte b text false f same = rw (cut-later byte b text f, f) (ap (put_first b) same ∙ put-before byte b text (cut byte text))

pub pieces-cut : (byte : ℕ) (text : List ℕ) → pieces byte text ≡ pieces_of byte text (cut byte text)
pieces-cut byte [] = refl
pieces-cut byte (b ∷ text) = first-byte byte b text (b == byte) refl (pieces-cut byte text)

-- what is left after a cut is shorter
abbrev pub IsShorter : List ℕ → Parts → Type 0
IsShorter text None = Unit {0}
IsShorter text (Some p) = length p.1 < length text

shorter-more : (b : ℕ) (text : List ℕ) (parts : Parts) → IsShorter text parts → IsShorter (b ∷ text) (after_byte b parts)
shorter-more b text None less = tt
shorter-more b text (Some p) less = omega arith

shorter-byte : (byte b : ℕ) (text : List ℕ) (t : Bool) → (b == byte) ≡ t → IsShorter text (cut byte text) → IsShorter (b ∷ text) (cut byte (b ∷ text))
shorter-byte byte b text true t less = rw (cut-here byte b text t) (omega arith)
shorter-byte byte b text false f less = rw (cut-later byte b text f) (shorter-more b text (cut byte text) less)

pub cut-shorter : (byte : ℕ) (text : List ℕ) → IsShorter text (cut byte text)
cut-shorter byte [] = tt
cut-shorter byte (b ∷ text) = shorter-byte byte b text (b == byte) refl (cut-shorter byte text)
