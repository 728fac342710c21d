-- The words at the front of others.
use Rattle.std.specs.Prelude.{◌≡◌, ℕ, List, [], ◌∷◌, if◌then◌else◌, Option, Some, None, Result, Ok, Err, IfOk, MatchResult}
use Rattle.std.specs.Str.{bytes_eq}
use Rattle.assembler_lines.specs.declared.word.LineRefusal.{LineRefusal}
use Rattle.assembler_lines.specs.declared.word.LineRefusal.TheVariants.{Malformed, NoMemory}
use Rattle.assembler_lines.specs.declared.word.Word.{Word}
use Rattle.assembler_lines.specs.declared.word.Word.TheVariants.{Plain, Quoted}
use Rattle.decimal_numbers.specs.Numbers.{number_up_to}

infixl 10 ◌>>=◌
abbrev pub ◌>>=◌ : {A B : Type 0} → Option A → (A → Option B) → Option B
None >>= f = None
(Some x) >>= f = f x

-- There is no such value, unless memory ran out.
abbrev pub Fails : {Y : Type 0} → LineRefusal → Option Y → Type 0
Fails NoMemory read = Unit {0}
Fails Malformed read = read ≡ None

-- What a function returned, seen by view, is what is read, unless memory ran out.
abbrev pub Gives : {X Y : Type 0} → (X → Y) → Result X LineRefusal → Option Y → Type 0
Gives view (Ok x) read = read ≡ Some (view x)
Gives view (Err refusal) read = Fails refusal read

-- the plain word at the front, and the words after it
abbrev pub plain_at : List Word → Option (List ℕ × List Word)
plain_at [] = None
plain_at (Plain name ∷ words) = Some (name, words)
plain_at (Quoted units ∷ words) = None

abbrev pub only : {A : Type 0} → A × List Word → Option A
only (a, []) = Some a
only (a, word ∷ words) = None

-- the plain word, where it is the only word
abbrev pub only_plain : List Word → Option (List ℕ)
only_plain words = plain_at words >>= only

abbrev pub only_word : List Word → Option Word
only_word [] = None
only_word (word ∷ words) = only (word, words)

-- the words after one that is known
abbrev pub behind : List ℕ → List Word → Option (List Word)
behind text words = plain_at words >>= λ first. if bytes_eq first.0 text then Some first.1 else None

abbrev pub short : List ℕ → Option ℕ
short written = number_up_to 65535 written

-- each of the words
abbrev pub each : {X : Type 0} → (Word → Option X) → List Word → Option (List X)
each read [] = Some []
each read (word ∷ words) = read word >>= λ x. each read words >>= λ others. Some (x ∷ others)

-- A function returned what is said, of which there is only one, or that the words are malformed where nothing is said;
-- memory may run out anywhere.
pub record Answers {Y : Type 0} (Says : Y → Type 0) (result : Result Y LineRefusal) : Type 0 where
  pub found : IfOk result Says
  pub only : (y : Y) → Says y → MatchResult result (λ found. found ≡ y) (λ refusal. refusal ≡ NoMemory)
