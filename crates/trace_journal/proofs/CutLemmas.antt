-- A line is cut as its end is.
use Rattle.std.proofs.Common.{◌≡◌, ℕ, zero, suc, ◌<◌, ◌==◌, true, false, nat_le, List, [], ◌∷◌, ◌++◌, take, drop, length, get_or, Option, None, Some, refl, sym, ap, ◌∙◌, cond, inl, inr, arith}
use Rattle.std.proofs.lemmas.Bool.{cases_Bool, eqb-true, ne_eqb, leb-true, and_parts}
use Rattle.decimal_numbers.specs.Numbers.{is_digit, are_digits}
use Rattle.trace_journal.specs.Parsing.{Cut, cut}

-- a cut, with bytes before it that have no space
abbrev pub behind : List ℕ → Cut → Cut
behind [] c = c
behind (b ∷ bytes) c = record { word = b ∷ (behind bytes c).word; rest = (behind bytes c).rest }

pub cut_space : (b : ℕ) (line : List ℕ) → (b == 32) ≡ true → cut (b ∷ line) ≡ record { word = []; rest = Some line }
cut_space b line is = ap (λ x. cond x (record { word = []; rest = Some line }) (record { word = b ∷ (cut line).word; rest = (cut line).rest })) is

pub cut_other : (b : ℕ) (line : List ℕ) → (b == 32) ≡ false → cut (b ∷ line) ≡ record { word = b ∷ (cut line).word; rest = (cut line).rest }
cut_other b line is = ap (λ x. cond x (record { word = []; rest = Some line }) (record { word = b ∷ (cut line).word; rest = (cut line).rest })) is

-- one byte more that is no space
pub moves : (line : List ℕ) (k : ℕ) → k < length line → (get_or line k 0 ≡ 32 → ⊥)
    → behind (take k line) (cut (drop k line)) ≡ behind (take (suc k) line) (cut (drop (suc k) line))
moves [] k inside other = absurd (omega arith)
moves (b ∷ line) zero inside other = cut_other b line (ne_eqb b 32 other)
moves (b ∷ line) (suc k) inside other = ap (λ c. record { word = b ∷ c.word; rest = c.rest }) (moves line k (omega arith) other)

pub word_of : (bytes rest : List ℕ) → behind bytes (record { word = []; rest = Some rest }) ≡ record { word = bytes; rest = Some rest }
word_of [] rest = refl
word_of (b ∷ bytes) rest = ap (λ c. record { word = b ∷ c.word; rest = c.rest }) (word_of bytes rest)

pub word_at_end : (bytes : List ℕ) → behind bytes (record { word = []; rest = None }) ≡ record { word = bytes; rest = None }
word_at_end [] = refl
word_at_end (b ∷ bytes) = ap (λ c. record { word = b ∷ c.word; rest = c.rest }) (word_at_end bytes)

-- the line is cut at the space at this place
pub cut_at : (line : List ℕ) (k : ℕ) → k < length line → get_or line k 0 ≡ 32 → behind (take k line) (cut (drop k line)) ≡ record { word = take k line; rest = Some (drop (suc k) line) }
cut_at [] k inside is = absurd (omega arith)
cut_at (b ∷ line) zero inside is = cut_space b line (ap (λ x. x == 32) is)
cut_at (b ∷ line) (suc k) inside is = ap (λ c. record { word = b ∷ c.word; rest = c.rest }) (cut_at line k (omega arith) is)

-- a cut line, put together again
abbrev pub uncut : List ℕ → Option (List ℕ) → List ℕ
uncut word None = word
uncut word (Some rest) = word ++ 32 ∷ rest

pub uncut_more : (b : ℕ) (word : List ℕ) (rest : Option (List ℕ)) → uncut (b ∷ word) rest ≡ b ∷ uncut word rest
uncut_more b word None = refl
uncut_more b word (Some rest) = refl

uncut_first : (b : ℕ) (line : List ℕ) → uncut (cut line).word (cut line).rest ≡ line → uncut (cut (b ∷ line)).word (cut (b ∷ line)).rest ≡ b ∷ line
uncut_first b line others = elim (cases_Bool (b == 32)) [
  | inl is ↦ ap (λ c. uncut c.word c.rest) (cut_space b line is) ∙ ap (λ x. x ∷ line) (sym (eqb-true b 32 is))
  | inr other ↦ ap (λ c. uncut c.word c.rest) (cut_other b line other) ∙ uncut_more b (cut line).word (cut line).rest ∙ ap (λ x. b ∷ x) others
]

pub uncut_cut : (line : List ℕ) → uncut (cut line).word (cut line).rest ≡ line
uncut_cut [] = refl
uncut_cut (b ∷ line) = uncut_first b line (uncut_cut line)

no_space : (b : ℕ) → is_digit b ≡ true → (b == 32) ≡ false
no_space b digit = ne_eqb b 32 (λ e. let m = and_parts (nat_le 48 b) (nat_le b 57) digit in let le = leb-true 48 b m.0 in omega (arith, e, le))

-- digits are cut at the space after them
pub cut_digits : (ds rest : List ℕ) → are_digits ds ≡ true → cut (ds ++ 32 ∷ rest) ≡ record { word = ds; rest = Some rest }
cut_digits [] rest digits = refl
cut_digits (b ∷ ds) rest digits =
    let k = and_parts (is_digit b) (are_digits ds) digits in
    cut_other b (ds ++ 32 ∷ rest) (no_space b k.0) ∙ ap (λ c. record { word = b ∷ c.word; rest = c.rest }) (cut_digits ds rest k.1)

-- .. and not where they are the last word
pub cut_last : (ds : List ℕ) → are_digits ds ≡ true → cut ds ≡ record { word = ds; rest = None }
cut_last [] digits = refl
cut_last (b ∷ ds) digits =
    let k = and_parts (is_digit b) (are_digits ds) digits in
    cut_other b ds (no_space b k.0) ∙ ap (λ c. record { word = b ∷ c.word; rest = c.rest }) (cut_last ds k.1)
