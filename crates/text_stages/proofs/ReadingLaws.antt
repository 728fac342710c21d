-- A text is read unit by unit.
use Rattle.std.proofs.Common.{◌≡◌, refl, ◌==◌, Bool, true, false, ℕ, zero, suc, List, [], ◌∷◌, ◌++◌, length, ap, sym, ◌∙◌}
use Rattle.std.specs.Prelude.{if◌then◌else◌}
use Rattle.std.proofs.lemmas.List.{append_assoc, append-nil}
use Rattle.builtin_world.specs.declared.word.TheConstants.{STRING_UNITS}
use Rattle.code_decode.specs.declared.code.ClassUnit.{ClassUnit}
use Rattle.java_rows.specs.Numbers.{char_of}
use Rattle.java_rows.specs.Plan.{Plan, asks_class, reads}
use Rattle.java_rows.specs.Units.{literal_units}
use Rattle.java_rows.specs.Texts.{reads_units, reads_array, reads_text}
use Rattle.text_stages.specs.Reading.{Memory, units_from, text_in, followed, followed_by, steps_of_text, TextsAreRead}

units_read : (m : Memory) (array i n : ℕ) (before : List ℕ) (k : List ℕ → Plan) → followed_by m n (reads_units array i n before k) ≡ k (before ++ units_from m array i n)
units_read m array i zero before k = ap k (sym (append-nil before))
units_read m array i (suc n) before k =
    units_read m array (suc i) n (before ++ char_of (m.words array i) ∷ []) k
    ∙ ap k (append_assoc before (char_of (m.words array i) ∷ []) (units_from m array (suc i) n))

by_word : (us : List ClassUnit) (m : Memory) (s array : ℕ) (k : List ℕ → Plan) (c : Bool)
    → followed_by m (if c then 1 else suc (suc (m.length array))) (if c then asks_class s (λ d n. k (literal_units us n)) else reads_array array k)
    ≡ k (if c then literal_units us (m.length s) else units_from m array 0 (m.length array))
by_word us m s array k true = refl
by_word us m s array k false = units_read m array 0 (m.length array) [] k

steps_are : (n : ℕ) (c : Bool) → (if c then 2 else suc n) ≡ suc (if c then 1 else n)
steps_are n true = refl
steps_are n false = refl

pub texts_are_read : TextsAreRead
texts_are_read us m s k =
    let array = m.words s STRING_UNITS in
    ap (λ n. followed_by m n (reads_text us s k)) (steps_are (suc (suc (m.length array))) (array == 0))
    ∙ by_word us m s array k (array == 0)
