use Rattle.std.proofs.Common.{refl, subst}
use Rattle.word_texts.specs.Texts.{AreTextsOf}
use Rattle.sched_core.proofs.outcomes.outcome_of.Goals as goal

pub returns : goal.returns
returns g c = record {
  how = refl;
  lines = c.in_ok-lines.ensures;
  ends = c.in_ok-ends.ensures;
  opened = refl;
  undone = refl;
  made = λ core is. subst (λ lines. AreTextsOf core lines c.in_ok-made.made) c.as_slice.ensures (c.in_ok-made.ensures core is);
}
