-- Lists of words as trees whose parts are shared.
use Rattle.std.specs.Prelude.{◌≡◌, ℕ, zero, suc, ◌+◌, ◌*◌, ◌/◌, ◌%◌, ◌==◌, ◌≤◌, List, [], length, slice_index, slice_index_or, if◌then◌else◌}
use Rattle.type_rules.specs.declared.types.VerificationType.{VerificationType}
use Rattle.type_rules.specs.declared.types.VerificationType.TheVariants.{Top}
use Rattle.type_rules.specs.Assignable.{is_same_type}
use Rattle.type_lists.specs.declared.parts.Part.{Part}
use Rattle.type_lists.specs.declared.parts.Part.TheVariants.{Leaf, Node}

abbrev pub leaf_words : Part → List VerificationType
leaf_words (Leaf words) = words
leaf_words (Node children) = []

abbrev pub node_children : Part → List ℕ
node_children (Leaf words) = []
node_children (Node children) = children

-- parts are numbered from 1; what isn't there is Top everywhere
abbrev pub part_at : List Part → ℕ → Part
part_at parts zero = Leaf []
part_at parts (suc i) = slice_index_or parts i (Leaf [])

abbrev pub child_at : List Part → ℕ → ℕ → ℕ
child_at parts part digit = slice_index (node_children (part_at parts part)) digit

abbrev pub leaf_word : List Part → ℕ → ℕ → VerificationType
leaf_word parts part place = slice_index_or (leaf_words (part_at parts part)) place Top

-- how many words a part of a height has
abbrev pub room : ℕ → ℕ
room zero = 8
room (suc height) = 32 * room height

-- what a part at a height has at a place
abbrev pub word_of : List Part → ℕ → ℕ → ℕ → VerificationType
word_of parts zero part place = leaf_word parts part place
word_of parts (suc height) part place = word_of parts height (child_at parts part (place / room height)) (place % room height)

-- f with a word at a place
abbrev pub with_word : (ℕ → VerificationType) → ℕ → VerificationType → ℕ → VerificationType
with_word f place word n = if n == place then word else f n

-- the parts up to a number lead to such parts alone
abbrev pub IsClosed : List Part → ℕ → Type 0
IsClosed parts bound = (i j : ℕ) → i ≤ bound → child_at parts i j ≤ bound

-- the parts that were there are there still
abbrev pub Grows : List Part → List Part → Type 0
Grows old new = (length old ≤ length new) × ((i : ℕ) → i ≤ length old → part_at new i ≡ part_at old i)

-- a type, or another one where it is the old one
abbrev pub replaced_type : VerificationType → VerificationType → VerificationType → VerificationType
replaced_type old new type = if is_same_type type old then new else type

-- how many parts a list of a height has at most
abbrev pub most_parts : ℕ → ℕ
most_parts zero = 1
most_parts (suc height) = 1 + 32 * most_parts height
