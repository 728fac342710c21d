-- Descriptors of arrays by the places of their bases.
use Rattle.std.specs.Prelude.{ℕ, List, [], slice_index_or}
use Rattle.array_order.specs.Order.{array_text}
use Rattle.array_table.specs.declared.place.ArrayPlace.{ArrayPlace}

abbrev pub descriptor_at : List (List ℕ) → ArrayPlace → List ℕ
descriptor_at bases p = array_text p.dimensions (slice_index_or bases p.base [])
