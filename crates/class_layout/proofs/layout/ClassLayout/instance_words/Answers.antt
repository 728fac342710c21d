use Rattle.std.proofs.Common.{◌∙◌, ap}
use Rattle.class_layout.specs.Rows.{instance_in}
use Rattle.class_layout.proofs.RowLaws.{instance_right}
use Rattle.class_layout.proofs.layout.ClassLayout.instance_words.Goals as goal

pub returns : goal.returns
returns c = λ us are.
    c.instance_words_in.ensures ∙ ap (λ rows. instance_in rows c.args.class) c.deref.ensures.value ∙ instance_right us c.args.self.now.rows.items are.rows c.args.class
