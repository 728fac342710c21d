-- What a sink gains in several puts.
use Rattle.std.proofs.Common.{◌≡◌, inl, inr, ℕ, zero, suc, ◌<◌, List, [], ◌∷◌, ◌++◌, length, map, take, get_or, Option, refl, sym, ap, ◌∙◌, subst, arith, append_assoc, append-nil}
use Rattle.jr_ports.specs.Stream.{IsBegun, Gains, GainsPart}
use Rattle.jr_ports.proofs.Gained.{Gains-then}
use Rattle.trace_journal.specs.Text.{ended}
use Rattle.trace_journal.specs.Lines.{HasLine}

-- what is begun of a piece alone is begun of it before others
begun-more : (begun : List (List ℕ)) (piece : List ℕ) (others : List (List ℕ)) → IsBegun begun (piece ∷ []) → IsBegun begun (piece ∷ others)
begun-more [] piece others is = tt
begun-more (b ∷ []) piece others (inl is) = absurd is.1
begun-more (b ∷ c ∷ begun) piece others (inl is) = absurd is.1
begun-more (b ∷ begun) piece others (inr is) = inr is

-- the first pieces, and what is begun of the next one
front-begun : (pieces : List (List ℕ)) (i : ℕ) (piece d : List ℕ) (begun : List (List ℕ)) → i < length pieces → piece ≡ get_or pieces i d → IsBegun begun (piece ∷ [])
    → IsBegun (take i pieces ++ begun) pieces
front-begun [] i piece d begun below at is = absurd (omega arith)
front-begun (p ∷ pieces) zero piece d begun below at is =
    let P : List ℕ → Type 0 = λ q. IsBegun begun (q ∷ pieces) in
    subst P at (begun-more begun piece pieces is)
front-begun (p ∷ pieces) (suc i) piece d begun below at is = inl (refl, front-begun pieces i piece d begun (omega arith) at is)

pub GainsPart-more : (a b c : Option (List (List ℕ))) (pieces : List (List ℕ)) (i : ℕ) (piece d : List ℕ) → i < length pieces → piece ≡ get_or pieces i d → Gains a b (take i pieces) → GainsPart b c (piece ∷ []) → GainsPart a c pieces
GainsPart-more a b c pieces i piece d below at gains part =
    (take i pieces ++ part.0, front-begun pieces i piece d part.0 below at part.1, Gains-then a b c (take i pieces) part.0 gains part.2)

-- ---- pieces of which some were given, and the others are left

begun-after : (done : List (List ℕ)) (piece : List ℕ) (left begun : List (List ℕ)) → IsBegun begun (piece ∷ []) → IsBegun (done ++ begun) (done ++ piece ∷ left)
begun-after [] piece left begun is = begun-more begun piece left is
begun-after (d ∷ done) piece left begun is = inl (refl, begun-after done piece left begun is)

abbrev pub GainsSoFar : Option (List (List ℕ)) → Option (List (List ℕ)) → List (List ℕ) → List (List ℕ) → Type 0
GainsSoFar before now left pieces = (done : List (List ℕ)) × (done ++ left ≡ pieces) × Gains before now done

-- the line that was made, where nothing came before it
abbrev IsLine : List ℕ → List ℕ → List (List ℕ) → List (List ℕ) → Type 0
IsLine before bytes lines lines' = (l : List ℕ) × (lines ≡ l ∷ lines') × (bytes ≡ before ++ ended l)

next-piece : (before bytes : List ℕ) (lines lines' : List (List ℕ)) → before ≡ [] → IsLine before bytes lines lines' → map ended lines ≡ bytes ∷ map ended lines'
next-piece before bytes lines lines' none (l, is, made) = ap (map ended) is ∙ ap (λ piece. piece ∷ map ended lines') (sym (made ∙ ap (λ b. b ++ ended l) none))

pub line_gained : (a b c : Option (List (List ℕ))) (lines lines' pieces : List (List ℕ)) (before bytes : List ℕ) → GainsSoFar a b (map ended lines) pieces → before ≡ [] → IsLine before bytes lines lines' → Gains b c (bytes ∷ [])
    → GainsSoFar a c (map ended lines') pieces
line_gained a b c lines lines' pieces before bytes (done, is, gains) none line given = (
  done ++ bytes ∷ [],
  append_assoc done (bytes ∷ []) (map ended lines') ∙ ap (λ xs. done ++ xs) (sym (next-piece before bytes lines lines' none line)) ∙ is,
  Gains-then a b c done (bytes ∷ []) gains given,
)

pub all_gained : (a b : Option (List (List ℕ))) (lines pieces : List (List ℕ)) → GainsSoFar a b (map ended lines) pieces → lines ≡ [] → Gains a b pieces
all_gained a b lines pieces (done, is, gains) none = subst (Gains a b) (sym (append-nil done) ∙ ap (λ xs. done ++ map ended xs) (sym none) ∙ is) gains

pub line_begun : (a b c : Option (List (List ℕ))) (lines lines' pieces : List (List ℕ)) (before bytes : List ℕ) → GainsSoFar a b (map ended lines) pieces → before ≡ [] → IsLine before bytes lines lines' → GainsPart b c (bytes ∷ [])
    → GainsPart a c pieces
line_begun a b c lines lines' pieces before bytes (done, is, gains) none line part =
    (done ++ part.0, subst (IsBegun (done ++ part.0)) (ap (λ xs. done ++ xs) (sym (next-piece before bytes lines lines' none line)) ∙ is) (begun-after done bytes (map ended lines') part.0 part.1), Gains-then a b c done part.0 gains part.2)

-- nothing was begun of the next line
pub none_begun : (a b : Option (List (List ℕ))) (lines pieces : List (List ℕ)) → GainsSoFar a b (map ended lines) pieces → HasLine lines → GainsPart a b pieces
none_begun a b [] pieces so_far has = absurd has
none_begun a b (l ∷ lines) pieces (done, is, gains) has =
    (done, subst (IsBegun done) is (subst (λ xs. IsBegun xs (done ++ ended l ∷ map ended lines)) (append-nil done) (begun-after done (ended l) (map ended lines) [] tt)), gains)
