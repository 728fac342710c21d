-- Marks of parts: the uninitialized words that a part may have.
use Rattle.std.specs.Prelude.{◌≡◌, ℕ, zero, suc, ◌*◌, ◌/◌, ◌%◌, ◌^◌, ◌≤◌, List, length, slice_index, slice_index_or}
use Rattle.std.specs.Int.Bits.{bit_and, bit_or}
use Rattle.type_rules.specs.declared.types.VerificationType.{VerificationType}
use Rattle.type_rules.specs.declared.types.VerificationType.TheVariants.{Top, UninitThis, Uninit}
use Rattle.type_lists.specs.declared.parts.Part.{Part}
use Rattle.type_lists.specs.Parts.{leaf_words, node_children, part_at}

-- one bit of 64, by six bits of an offset that is spread over 32
abbrev pub spread_bit : ℕ → ℕ → ℕ
spread_bit offset at = 2 ^ (offset * 2654435769 % 2 ^ 32 / 2 ^ at % 64)

-- up to three bits of 64 for an uninitialized word (JVMS 4.10.1.2), none for others
abbrev pub word_mark : VerificationType → ℕ
word_mark (Uninit offset) = bit_or (bit_or (spread_bit offset 26) (spread_bit offset 20)) (spread_bit offset 14)
word_mark UninitThis = 1
word_mark _ = 0

-- a mark has each bit of another one
abbrev pub HasBits : ℕ → ℕ → Type 0
HasBits mark bits = bit_and mark bits ≡ bits

-- marks are numbered as parts are
abbrev pub mark_at : List ℕ → ℕ → ℕ
mark_at marks zero = 0
mark_at marks (suc i) = slice_index marks i

-- a mark has the bits of a part's words, and those of its children
abbrev pub Covers : List ℕ → ℕ → Part → Type 0
Covers marks mark part =
    ((n : ℕ) → HasBits mark (word_mark (slice_index_or (leaf_words part) n Top)))
    × ((j : ℕ) → HasBits mark (mark_at marks (slice_index (node_children part) j)))

-- each part has a mark that covers it
pub record AreMarked (parts : List Part) (marks : List ℕ) : Type 0 where
  pub count : length parts ≤ length marks
  pub covered : (i : ℕ) → Covers marks (mark_at marks i) (part_at parts i)
