-- Lists in a store.
use Rattle.std.specs.Prelude.{◌≡◌, ℕ, ◌+◌, ◌≤◌, max, nat_le, length, if◌then◌else◌}
use Rattle.type_rules.specs.declared.types.VerificationType.{VerificationType}
use Rattle.type_rules.specs.declared.types.VerificationType.TheVariants.{Top}
use Rattle.type_rules.specs.Assignable.{Hierarchy}
use Rattle.type_lists.specs.declared.store.WordStore.{WordStore}
use Rattle.type_lists.specs.declared.store.Words.{Words}
use Rattle.type_lists.specs.Parts.{most_parts, room, word_of}
use Rattle.type_lists.specs.Trees.{IsTree}
use Rattle.type_lists.specs.Compared.{KnowsRightly}

-- the word of a list at a place, from 0; Top past the list's end
unfoldable pub word_at : WordStore → Words → ℕ → VerificationType
word_at store words n =
    if nat_le (room store.height) n then Top else word_of store.parts.items store.height words.root n

-- lists of one number are the same
abbrev pub list_number : Words → ℕ
list_number words = words.root

-- there is such a list in the store
unfoldable pub IsList : WordStore → Words → Type 0
IsList store words =
    (words.root ≤ length store.parts.items) × IsTree store.parts.items store.fixed store.height words.root

-- .. that was there when lists were kept
unfoldable pub IsMarked : WordStore → Words → Type 0
IsMarked store words = words.root ≤ store.kept

-- there is such a list, and no change of the store changes it
abbrev pub IsKept : WordStore → Words → Type 0
IsKept store words = IsList store words × IsMarked store words

-- .. whose parts aren't changed in their places
unfoldable pub IsWhole : WordStore → Words → Type 0
IsWhole store words = words.root ≤ store.fixed

-- there is such a list, and no change of the store changes it, until lists are given back
abbrev pub IsFixed : WordStore → Words → Type 0
IsFixed store words = IsList store words × IsWhole store words

-- what isn't kept has no more than 2^16 parts, or no more than the kept lists have, besides those of one list
abbrev pub HasFewOthers : WordStore → Type 0
HasFewOthers store = length store.parts.items ≤ store.kept + max 65536 store.kept + most_parts store.height

-- what the store remembers of comparisons is so among these classes
unfoldable pub Remembers : Hierarchy → WordStore → Type 0
Remembers h store = KnowsRightly h store.parts.items store.fixed store.known

-- what no call changes
pub record Follows (old new : WordStore) : Type 0 where
  pub most : new.most ≡ old.most
  pub kept : (words : Words) → IsKept old words → IsKept new words
  pub words : (words : Words) → IsKept old words → word_at new words ≡ word_at old words
  pub later : old.given_back ≤ new.given_back
  pub fixed : new.given_back ≡ old.given_back → (words : Words) → IsFixed old words → IsFixed new words × (word_at new words ≡ word_at old words)
