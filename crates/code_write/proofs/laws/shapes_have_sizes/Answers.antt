use Rattle.code_write.proofs.SizeLaws.{written_size}
use Rattle.code_write.proofs.laws.shapes_have_sizes.Goals as goal

pub returns : goal.returns
returns c = written_size
