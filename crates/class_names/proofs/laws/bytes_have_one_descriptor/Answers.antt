use Rattle.class_names.proofs.DescriptorLaws.{one_descriptor}
use Rattle.class_names.proofs.laws.bytes_have_one_descriptor.Goals as goal

pub returns : goal.returns
returns c = one_descriptor
