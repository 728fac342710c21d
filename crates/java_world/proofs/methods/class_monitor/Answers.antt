use Rattle.std.proofs.Common.{ap, ◌∙◌}
use Rattle.access_flags.specs.declared.TheConstants.{SYNCHRONIZED}
use Rattle.link_types.specs.declared.operands.Layout.{Layout}
use Rattle.link_rules.specs.Names.{program_names}
use Rattle.java_world.proofs.ClassLaws.{flag_counts, object_of}
use Rattle.java_world.proofs.methods.class_monitor.Goals as goal

pub returns : goal.returns
returns c = λ has.
    let us = c.args.world.now in
    ap (λ (l : Layout). l.object) c.layout.ensures ∙ object_of (program_names us) c.args.method.class (flag_counts us c.args.method SYNCHRONIZED has)
