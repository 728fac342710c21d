use Rattle.link_rules.proofs.Sharp.{sharp_link}
use Rattle.link_rules.proofs.laws.programs_have_one_answer.Goals as goal

pub returns : goal.returns
returns c = record {
  linked = λ us e holds broken. (sharp_link us).apart e holds broken;
  refused = λ us e d f g. (sharp_link us).one e d f g;
}
