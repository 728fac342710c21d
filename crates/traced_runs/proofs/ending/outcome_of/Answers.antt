use Rattle.std.proofs.Common.{refl, subst}
use Rattle.word_texts.specs.Texts.{AreTextsOf}
use Rattle.traced_runs.proofs.ending.outcome_of.Goals as goal

pub returns : goal.returns
returns g c = record {
  how = refl;
  lines = c.in_ok-lines.ensures;
  ends = c.in_ok-ends.ensures;
  opened = refl;
  undone = refl;
  made = λ core is. subst (λ lines. AreTextsOf core lines c.in_ok-made.made) c.as_slice.ensures (c.in_ok-made.ensures core is);
  count = c.count.result;
  above = c.count.ensures.above;
  events = λ core is s told. c.in_ok-journal.ensures.events _ (c.tell_ends.ensures core is s told);
  undos = λ core is s told. c.in_ok-journal.ensures.undos _ (c.tell_ends.ensures core is s told);
}
