use Rattle.std.proofs.Common.{slice_get, get_or, ◌-◌, ap, ◌∙◌}
use Rattle.class_pool.specs.Lookup.{class_name_of}
use Rattle.link_rules.specs.Classes.{classes_of}
use Rattle.use_rules.specs.Facts.{class_facts, nothing_known}
use Rattle.use_rules.proofs.ClassLaws.{name_is}
use Rattle.use_rules.proofs.classes.class_at.Goals as goal

pub returns : goal.returns
returns c =
    let pool = c.args.unit.now.file.pool in
    c.facts_numbered.ensures
    ∙ ap (λ fs. get_or fs (c.name_number-number.result - 1) nothing_known) c.requires.facts
    ∙ name_is (class_facts (classes_of c.args.lookup.now.units)) nothing_known c.args.lookup.now.texts (class_name_of pool (slice_get pool c.args.index)) c.name_number-number.result c.name_number-number.ensures c.if-number-eq0.false
