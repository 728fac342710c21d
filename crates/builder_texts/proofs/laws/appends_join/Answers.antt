use Rattle.builder_texts.proofs.BuilderLaws.{appends_join as law}
use Rattle.builder_texts.proofs.laws.appends_join.Goals as goal

pub returns : goal.returns
returns c = law
