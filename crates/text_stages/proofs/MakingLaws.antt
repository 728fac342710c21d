-- A text is made.
use Rattle.std.proofs.Common.{◌≡◌, ◌≢◌, ◌<◌, ◌≤◌, ◌+◌, ◌^◌, ◌%◌, refl, ◌==◌, Bool, true, false, ℕ, zero, suc, nat_eq, List, [], ◌∷◌, ◌++◌, length, ap, sym, subst, ◌∙◌, arith, cond, inl, inr, ne_eqb}
use Rattle.std.specs.Prelude.{All, Some, slice_get, unwrap_or, if◌then◌else◌}
use Rattle.builtin_world.specs.declared.number.TheConstants.{STRING}
use Rattle.builtin_world.specs.declared.word.TheConstants.{STRING_UNITS}
use Rattle.code_decode.specs.declared.code.ClassUnit.{ClassUnit}
use Rattle.op_core.specs.OrdinaryState.{set_at}
use Rattle.op_core.proofs.PointwiseLemmas.{set_at-hit, set_at-other}
use Rattle.std.proofs.lemmas.Bool.Decides.{eqb_tells}
use Rattle.std.proofs.lemmas.List.Elements.{All-head, All-tail}
use Rattle.java_rows.specs.Plan.{Plan}
use Rattle.java_rows.specs.Numbers.{char_of}
use Rattle.java_rows.specs.Units.{literal_units}
use Rattle.java_rows.specs.Texts.{writes_units, makes_string, makes_array}
use Rattle.text_stages.specs.Reading.{Memory, units_from, text_in}
use Rattle.text_stages.specs.Making.{with_word, with_object, Going, going, gone, gone_by, written, made_memory, TextsAreMade, MadeTextsAreTexts}

units_written : (m : Memory) (array s i n : ℕ) (rs units : List ℕ) (k : ℕ → Plan) → gone_by (n + 2) (going m (s ∷ rs) (writes_units array units i n (makes_string array k))) ≡ going (with_word (with_object (written m array units i n) s STRING 0) s STRING_UNITS array) rs (k s)
units_written m array s i zero rs units k = refl
units_written m array s i (suc n) rs units k =
    let more : suc n + 2 ≡ suc (n + 2) = omega arith in
    ap (λ x. gone_by x (going m (s ∷ rs) (writes_units array units i (suc n) (makes_string array k)))) more
    ∙ units_written (with_word m array i (unwrap_or (slice_get units i) 0)) array s (suc i) n rs units k

pub texts_are_made : TextsAreMade
texts_are_made m class array s rs units k = units_written (with_object m array class (length units)) array s 0 (length units) rs units k

-- ---- the units of the array are the text

-- an array that holds these units from a place on
abbrev Holds : Memory → ℕ → ℕ → List ℕ → Type 0
Holds m array i units = (k : ℕ) → k < length units → m.words array (i + k) ≡ unwrap_or (slice_get units k) 0

units_held : (m : Memory) (array i : ℕ) (units : List ℕ) → Holds m array i units → All (λ u. u < 2 ^ 16) units → units_from m array i (length units) ≡ units
units_held m array i [] holds small = refl
units_held m array i (x ∷ units) holds small =
    let here : m.words array i ≡ x = (let same : i ≡ i + 0 = omega arith in ap (m.words array) same ∙ holds 0 (omega arith)) in
    let low : x < 2 ^ 16 = All-head (λ u. u < 2 ^ 16) x units small in
    let unit : char_of (m.words array i) ≡ x = (let e : x % 2 ^ 16 ≡ x = omega arith in ap char_of here ∙ e) in
    let rest : Holds m array (suc i) units = λ k lt. (let same : suc i + k ≡ i + suc k = omega arith in ap (m.words array) same ∙ holds (suc k) (omega arith)) in
    ap (λ u. u ∷ units_from m array (suc i) (length units)) unit
    ∙ ap (λ us. x ∷ us) (units_held m array (suc i) units rest (All-tail (λ u. u < 2 ^ 16) x units small))

-- a place that isn't written stays
stays_below : (m : Memory) (array : ℕ) (units : List ℕ) (i n j : ℕ) → j < i → (written m array units i n).words array j ≡ m.words array j
stays_below m array units i zero j lt = refl
stays_below m array units i (suc n) j lt =
    stays_below (with_word m array i (unwrap_or (slice_get units i) 0)) array units (suc i) n j (omega arith)
    ∙ ap (λ f. f j) (set_at-hit m.words array (set_at (m.words array) i (unwrap_or (slice_get units i) 0)))
    ∙ set_at-other (m.words array) i (unwrap_or (slice_get units i) 0) j (λ e. omega arith)

are_written : (m : Memory) (array : ℕ) (units : List ℕ) (i n j : ℕ) → i ≤ j → j < i + n → (written m array units i n).words array j ≡ unwrap_or (slice_get units j) 0
are_written m array units i zero j low high = absurd (omega arith)
are_written m array units i (suc n) j low high = elim (eqb_tells j i) [
  | inl same ↦
      let next : Memory = with_word m array i (unwrap_or (slice_get units i) 0) in
      ap ((written next array units (suc i) n).words array) same.1
      ∙ stays_below next array units (suc i) n i (omega arith)
      ∙ ap (λ f. f i) (set_at-hit m.words array (set_at (m.words array) i (unwrap_or (slice_get units i) 0)))
      ∙ set_at-hit (m.words array) i (unwrap_or (slice_get units i) 0)
      ∙ ap (λ x. unwrap_or (slice_get units x) 0) (sym same.1)
  | inr other ↦ are_written (with_word m array i (unwrap_or (slice_get units i) 0)) array units (suc i) n j (omega (arith, other.1)) (omega arith)
]

lengths_stay : (m : Memory) (array : ℕ) (units : List ℕ) (i n : ℕ) → (written m array units i n).length ≡ m.length
lengths_stay m array units i zero = refl
lengths_stay m array units i (suc n) = lengths_stay (with_word m array i (unwrap_or (slice_get units i) 0)) array units (suc i) n

pub made_texts_are_texts : MadeTextsAreTexts
made_texts_are_texts us m class array s units some apart small =
    let begun : Memory = with_object m array class (length units) in
    let filled : Memory = written begun array units 0 (length units) in
    let named : Memory = with_object filled s STRING 0 in
    let last : Memory = with_word named s STRING_UNITS array in
    let word : last.words s STRING_UNITS ≡ array =
    ap (λ f. f STRING_UNITS) (set_at-hit named.words s (set_at (named.words s) STRING_UNITS array)) ∙ set_at-hit (named.words s) STRING_UNITS array in
    let others : last.words array ≡ filled.words array =
    set_at-other named.words s (set_at (named.words s) STRING_UNITS array) array apart ∙ set_at-other filled.words s (λ i. 0) array apart in
    let count : last.length array ≡ length units =
    set_at-other filled.length s 0 array apart ∙ ap (λ f. f array) (lengths_stay begun array units 0 (length units)) ∙ set_at-hit m.length array (length units) in
    let holds : Holds last array 0 units = λ k lt. (let plain : 0 + k ≡ k = omega arith in ap (last.words array) plain) ∙ ap (λ f. f k) others ∙ are_written begun array units 0 (length units) k (omega arith) (omega arith) in
    ap (λ x. if x == 0 then literal_units us (last.length s) else units_from last x 0 (last.length x)) word
    ∙ ap (λ b. cond b (literal_units us (last.length s)) (units_from last array 0 (last.length array))) (ne_eqb array 0 some)
    ∙ ap (units_from last array 0) count
    ∙ units_held last array 0 units holds small
