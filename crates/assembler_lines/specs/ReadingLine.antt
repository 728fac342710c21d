-- Reading the words of a line from the first one on.
use Rattle.std.specs.Prelude.{ℕ, Bool, ◌-◌, ◌==◌, ◌&&◌, ◌||◌, nat_le, List, [], ◌∷◌, length, take, slice_index, if◌then◌else◌, Option, Some, None, option_map, codes}
use Rattle.std.specs.Str.{bytes_eq}
use Rattle.assembler_lines.specs.declared.word.Word.{Word}
use Rattle.assembler_lines.specs.declared.word.Word.TheVariants.{Plain, Quoted}
use Rattle.assembler_lines.specs.declared.line.FieldValue.{FieldValue}
use Rattle.assembler_lines.specs.declared.line.FieldValue.TheVariants as values
use Rattle.assembler_lines.specs.declared.line.Room.{Room}
use Rattle.assembler_lines.specs.declared.line.Line.{Line}
use Rattle.assembler_lines.specs.declared.line.Line.TheVariants.{Class, Super, Implements, Field, Method, End, Label, Handler}
use Rattle.decimal_numbers.specs.Numbers.{integer_up_to}
use Rattle.assembler_lines.specs.Front.{◌>>=◌, plain_at, only_plain, only_word, behind, short}
use Rattle.assembler_lines.specs.ReadingFrames.{frame_at}

abbrev pub class_flags : List Word → Option ℕ
class_flags [] = Some 33
class_flags (word ∷ words) = only_plain (word ∷ words) >>= short

unfoldable pub class_at : List Word → Option Line
class_at words = do
  name ← plain_at words
  flags ← class_flags name.1
  Some (Class name.0 flags)

unfoldable pub super_at : List Word → Option Line
super_at words = do
  name ← only_plain words
  Some (Super name)

unfoldable pub implements_at : List Word → Option Line
implements_at words = do
  name ← only_plain words
  Some (Implements name)

-- the flags, the name and the descriptor of a member, and the words after them
unfoldable pub header_at : List Word → Option (ℕ × List ℕ × List ℕ × List Word)
header_at words = do
  written ← plain_at words
  name ← plain_at written.1
  descriptor ← plain_at name.1
  flags ← short written.0
  Some (flags, name.0, descriptor.0, descriptor.1)

abbrev pub is_int_descriptor : List ℕ → Bool
is_int_descriptor descriptor = bytes_eq descriptor (codes "I") || bytes_eq descriptor (codes "S") || bytes_eq descriptor (codes "C") || bytes_eq descriptor (codes "B") || bytes_eq descriptor (codes "Z")

abbrev pub number_value : List ℕ → List ℕ → Option FieldValue
number_value descriptor written =
    if is_int_descriptor descriptor then option_map (λ n. values.Int n) (integer_up_to 2147483647 written)
    else if bytes_eq descriptor (codes "J") then option_map (λ n. values.Long n) (integer_up_to 9223372036854775807 written)
    else None

abbrev pub value_of : List ℕ → Word → Option FieldValue
value_of descriptor (Plain written) = number_value descriptor written
value_of descriptor (Quoted units) = if bytes_eq descriptor (codes "Ljava/lang/String;") then Some (values.Text units) else None

unfoldable pub constant_at : List ℕ → List Word → Option FieldValue
constant_at descriptor words = do
  rest ← behind (codes "=") words
  said ← only_word rest
  value_of descriptor said

abbrev pub value_at : List ℕ → List Word → Option (Option FieldValue)
value_at descriptor [] = Some None
value_at descriptor (word ∷ words) = option_map (λ value. Some value) (constant_at descriptor (word ∷ words))

unfoldable pub field_at : List Word → Option Line
field_at words = do
  header ← header_at words
  value ← value_at header.2 header.3
  Some (Field header.0 header.1 header.2 value)

unfoldable pub frame_room_at : List Word → Option Room
frame_room_at words = do
  rest ← behind (codes "stack") words
  stack_written ← plain_at rest
  rest ← behind (codes "locals") stack_written.1
  locals_written ← only_plain rest
  stack ← short stack_written.0
  locals ← short locals_written
  Some (record { stack = stack; locals = locals })

abbrev pub room_at : List Word → Option (Option Room)
room_at [] = Some None
room_at (word ∷ words) = option_map (λ room. Some room) (frame_room_at (word ∷ words))

unfoldable pub method_at : List Word → Option Line
method_at words = do
  header ← header_at words
  room ← room_at header.3
  Some (Method header.0 header.1 header.2 room)

abbrev pub handler_class : List ℕ → Option (List ℕ)
handler_class class = if bytes_eq class (codes "any") then None else Some class

unfoldable pub handler_at : List Word → Option Line
handler_at words = do
  from ← plain_at words
  to ← plain_at from.1
  at ← plain_at to.1
  class ← only_plain at.1
  Some (Handler from.0 to.0 at.0 (handler_class class))

-- the label of a word that ends in a colon
abbrev pub label_of : List ℕ → Option (List ℕ)
label_of word = if nat_le 2 (length word) && slice_index word (length word - 1) == 58 then Some (take (length word - 1) word) else None

unfoldable pub word_line : List ℕ → Option Line
word_line word = if bytes_eq word (codes "end") then Some End else option_map (λ name. Label name) (label_of word)

unfoldable pub keyword_line : List ℕ → List Word → Option Line
keyword_line keyword words =
    if bytes_eq keyword (codes "class") then class_at words
    else if bytes_eq keyword (codes "super") then super_at words
    else if bytes_eq keyword (codes "implements") then implements_at words
    else if bytes_eq keyword (codes "field") then field_at words
    else if bytes_eq keyword (codes "method") then method_at words
    else if bytes_eq keyword (codes "handler") then handler_at words
    else if bytes_eq keyword (codes "frame") then frame_at words
    else None

-- the line of a first word that is not a mnemonic, and of the words after it
abbrev pub line_with : List ℕ × List Word → Option Line
line_with (keyword, []) = word_line keyword
line_with (keyword, word ∷ words) = keyword_line keyword (word ∷ words)
