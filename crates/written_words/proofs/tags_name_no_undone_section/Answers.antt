use Rattle.written_words.proofs.CarriedLemmas.{tags_name_no_undone_section}
use Rattle.written_words.proofs.tags_name_no_undone_section.Goals as goal

pub returns : goal.returns
returns g c = tags_name_no_undone_section g.C.ThreadCode.code
