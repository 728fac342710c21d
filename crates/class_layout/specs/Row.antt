-- Fields one after another.
use Rattle.std.specs.Prelude.{◌≡◌, ℕ, ◌+◌, ◌++◌, ◌∷◌, [], Bool, true, false, List, take, slice_get, option_map, if◌then◌else◌}
use Rattle.access_flags.specs.declared.TheConstants.{STATIC}
use Rattle.access_flags.specs.Flags.{has}
use Rattle.link_rules.specs.Classes.{NamedMember}
use Rattle.link_rules.specs.Layout.{own_words}
use Rattle.class_layout.specs.declared.row.ClassRow.{ClassRow}

-- one more field, of the given number of words
pub record IsJustPlaced (old : ClassRow) (static : Bool) (words : ℕ) (new : ClassRow) : Type 0 where
  pub places : new.places ≡ old.places ++ (if static then old.static_words else old.instance_words) ∷ []
  pub statics : new.static_words ≡ old.static_words + (if static then words else 0)
  pub instances : new.instance_words ≡ old.instance_words + (if static then 0 else words)

-- the first word of a field: a static field comes after the static fields before it, and any other after the inherited
-- words and the other instance fields before it
abbrev pub place_among : List NamedMember → ℕ → ℕ → NamedMember → ℕ
place_among fields inherited i f =
    if has f.flags STATIC then own_words true (take i fields) else inherited + own_words false (take i fields)

pub record ArePlaced (fields : List NamedMember) (inherited : ℕ) (placed : ClassRow) : Type 0 where
  pub places : (i : ℕ) → slice_get placed.places i ≡ option_map (place_among fields inherited i) (slice_get fields i)
  pub statics : placed.static_words ≡ own_words true fields
  pub instances : placed.instance_words ≡ inherited + own_words false fields
