-- What lists of wants mean.
use Rattle.std.specs.Prelude.{List, [], ◌∷◌, ◌++◌, map, reverse}
use Rattle.type_rules.specs.Wants as wants
use Rattle.step_wants.specs.declared.want.Want.{Want}
use Rattle.step_wants.specs.declared.want.Want.TheVariants.{Word, Whole, Int, Long, StoredReference, Reference, ReferenceTo, ArrayOf, Array, ArrayOfReferences, ReceiverToSet, ReceiverHere, ToInitialize}
use Rattle.step_wants.specs.declared.listed.FewWants.{FewWants}
use Rattle.step_wants.specs.declared.listed.FewWants.TheVariants.{Nothing, One, Two, Three, Four}
use Rattle.step_wants.specs.declared.listed.WantedWords.{WantedWords}

abbrev pub want_meant : Want → wants.Want
want_meant Word = wants.a_word
want_meant Whole = wants.a_whole
want_meant Int = wants.an_int
want_meant Long = wants.a_long
want_meant StoredReference = wants.a_stored_reference
want_meant Reference = wants.a_reference
want_meant (ReferenceTo named) = wants.a_reference_to named
want_meant (ArrayOf kind) = wants.an_array_of (wants.element_types kind)
want_meant Array = wants.an_array
want_meant ArrayOfReferences = wants.an_array_of_references
want_meant (ReceiverToSet named) = wants.a_receiver_to_set named
want_meant (ReceiverHere named) = wants.a_receiver_here named
want_meant (ToInitialize named) = wants.to_initialize named

abbrev pub few_wanted : FewWants → List wants.Want
few_wanted Nothing = []
few_wanted (One a) = want_meant a ∷ []
few_wanted (Two a b) = want_meant a ∷ want_meant b ∷ []
few_wanted (Three a b c) = want_meant a ∷ want_meant b ∷ want_meant c ∷ []
few_wanted (Four a b c d) = want_meant a ∷ want_meant b ∷ want_meant c ∷ want_meant d ∷ []

-- from the top of the stack on
abbrev pub words_listed : WantedWords → List wants.Want
words_listed w = map wants.type_wanted (reverse w.arguments.now) ++ few_wanted w.others
