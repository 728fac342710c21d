use Rattle.std.proofs.Common.{subst}
use Rattle.builtin_world.specs.BuiltinClass.{rows}
use Rattle.class_texts.specs.Texts.{ProgramTexts, KnowsUnits, KnowsClasses}
use Rattle.class_texts.proofs.texts.ClassTexts.know_all.Goals as goal

pub returns-clause-files : goal.returns-clause-files
returns-clause-files c = subst (λ (p : ProgramTexts). KnowsUnits p.texts p.units) c.self.view_is c.self.invariant.known

pub returns-clause-library : goal.returns-clause-library
returns-clause-library c = subst (λ (p : ProgramTexts). KnowsClasses p.texts rows) c.self.view_is c.self.invariant.library
