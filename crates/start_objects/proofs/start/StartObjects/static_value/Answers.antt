use Rattle.std.proofs.Common.{◌∙◌, ap}
use Rattle.start_objects.specs.Start.{kept_word}
use Rattle.start_objects.proofs.StartLaws.{kept_right}
use Rattle.start_objects.proofs.start.StartObjects.static_value.Goals as goal

pub returns : goal.returns
returns c = λ us are.
    c.word_in.ensures ∙ ap (λ files. kept_word files c.args.class c.args.place) c.deref.ensures.value ∙ kept_right us c.args.self.now.statics.items c.args.class c.args.place are.statics
