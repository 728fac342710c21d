use Rattle.type_lists.proofs.ListLaws.{first_count, first_read, first_set, first_replaced, first_padded}
use Rattle.type_lists.proofs.laws.locals_are_words.Goals as goal

pub returns : goal.returns
returns c = record { count = first_count; read = first_read; set = first_set; replaced = first_replaced; padded = first_padded }
