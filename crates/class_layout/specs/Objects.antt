-- Class objects one after another.
use Rattle.std.specs.Prelude.{◌≡◌, ℕ, ◌+◌, ◌<◌, Some, List, length, take, slice_get, sum_by}
use Rattle.class_layout.specs.declared.row.ClassRow.{ClassRow}
use Rattle.class_layout.specs.declared.object_places.ObjectPlaces.{ObjectPlaces}

-- the header, the monitor and the words of a class object
abbrev pub object_size : ClassRow → ℕ
object_size r = 2 + r.static_words

-- the place after the class objects of the first i classes
abbrev pub behind : List ClassRow → ℕ → ℕ
behind rows i = 1 + sum_by object_size (take i rows)

pub record ArePlacesOf (rows : List ClassRow) (places : ObjectPlaces) : Type 0 where
  pub count : length places.objects.items ≡ length rows
  pub each : (i : ℕ) → i < length rows → slice_get places.objects.items i ≡ Some (behind rows i)
  pub behind_all : places.behind ≡ behind rows (length rows)
