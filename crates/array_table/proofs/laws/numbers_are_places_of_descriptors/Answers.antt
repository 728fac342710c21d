use Rattle.array_table.proofs.Descriptors.{arrays_map, number_is_place}
use Rattle.array_table.proofs.laws.numbers_are_places_of_descriptors.Goals as goal

pub returns-clause-descriptors : goal.returns-clause-descriptors
returns-clause-descriptors c = arrays_map

pub returns-clause-numbers : goal.returns-clause-numbers
returns-clause-numbers c = number_is_place
