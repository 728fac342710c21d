use Rattle.class_pool.proofs.LookupLaws.{utf8_stands, class_stands, name_and_type_stands}
use Rattle.class_pool.proofs.laws.what_stands_there_is_found.Goals as goal

pub returns : goal.returns
returns c = record { utf8 = utf8_stands; class = class_stands; name_and_type = name_and_type_stands }
