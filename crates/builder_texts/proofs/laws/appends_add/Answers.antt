use Rattle.builder_texts.proofs.BuilderLaws.{appends_add as law}
use Rattle.builder_texts.proofs.laws.appends_add.Goals as goal

pub returns : goal.returns
returns c = law
