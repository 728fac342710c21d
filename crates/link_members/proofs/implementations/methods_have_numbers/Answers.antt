use Rattle.std.proofs.Common.{subst}
use Rattle.builtin_world.specs.BuiltinClass.{rows}
use Rattle.class_texts.specs.Texts.{ProgramTexts, KnowsUnits, KnowsClasses}
use Rattle.link_members.proofs.NumberedLaws.{all_numbered}
use Rattle.link_members.proofs.implementations.methods_have_numbers.Goals as goal

pub returns : goal.returns
returns c =
    all_numbered c.args.lookup.now c.requires
    (subst (λ (p : ProgramTexts). KnowsUnits p.texts p.units) c.texts.ensures c.know_all.ensures.files)
    (subst (λ (p : ProgramTexts). KnowsClasses p.texts rows) c.texts.ensures c.know_all.ensures.library)
