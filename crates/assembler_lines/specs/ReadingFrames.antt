-- Reading a stack map frame word by word.
use Rattle.std.specs.Prelude.{ℕ, Bool, false, nat_lt, ◌&&◌, List, [], ◌∷◌, length, take, drop, if◌then◌else◌, Option, Some, None, option_map, codes}
use Rattle.std.specs.Str.{bytes_eq}
use Rattle.assembler_lines.specs.declared.word.Word.{Word}
use Rattle.assembler_lines.specs.declared.word.Word.TheVariants.{Plain, Quoted}
use Rattle.assembler_lines.specs.declared.frame.FrameItem.{FrameItem}
use Rattle.assembler_lines.specs.declared.frame.FrameItem.TheVariants.{Top, Int, Long, Null, This, New, Class}
use Rattle.assembler_lines.specs.declared.line.Line.{Line}
use Rattle.assembler_lines.specs.declared.line.Line.TheVariants.{Frame}
use Rattle.assembler_lines.specs.Front.{◌>>=◌, each}

-- the label after new:
abbrev pub new_label : List ℕ → Option (List ℕ)
new_label written = if nat_lt 4 (length written) && bytes_eq (take 4 written) (codes "new:") then Some (drop 4 written) else None

abbrev pub object_of : List ℕ → Option (List ℕ) → FrameItem
object_of written None = Class written
object_of written (Some label) = New label

abbrev pub named_item : List ℕ → FrameItem
named_item written =
    if bytes_eq written (codes "top") then Top
    else if bytes_eq written (codes "int") then Int
    else if bytes_eq written (codes "long") then Long
    else if bytes_eq written (codes "null") then Null
    else if bytes_eq written (codes "this") then This
    else object_of written (new_label written)

abbrev pub is_slash : Word → Bool
is_slash (Plain written) = bytes_eq written (codes "/")
is_slash (Quoted units) = false

abbrev pub item_of : Word → Option FrameItem
item_of (Plain written) = if bytes_eq written (codes "/") then None else Some (named_item written)
item_of (Quoted units) = None

-- what comes before the first slash, and what comes after it
unfoldable pub split_at_slash : List Word → Option (List Word × List Word)
split_at_slash [] = None
split_at_slash (word ∷ words) = if is_slash word then Some ([], words) else option_map (λ x. (word ∷ x.0, x.1)) (split_at_slash words)

unfoldable pub frame_at : List Word → Option Line
frame_at words = do
  parts ← split_at_slash words
  locals ← each item_of parts.0
  stack ← each item_of parts.1
  Some (Frame locals stack)
