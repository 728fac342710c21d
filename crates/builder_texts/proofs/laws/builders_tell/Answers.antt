use Rattle.builder_texts.proofs.BuilderLaws.{builders_tell as law}
use Rattle.builder_texts.proofs.laws.builders_tell.Goals as goal

pub returns : goal.returns
returns c = law
