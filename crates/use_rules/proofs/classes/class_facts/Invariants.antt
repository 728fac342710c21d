use Rattle.std.proofs.Common.{◌≡◌, map, take}
use Rattle.link_rules.specs.Classes.{classes_of}
use Rattle.use_rules.specs.Facts.{class_facts}
use Rattle.use_rules.proofs.classes.class_facts.Given as goal

abbrev pub invariant-loop-name : goal.invariant-loop-name
invariant-loop-name l = l.facts.items ≡ map (λ t. class_facts (classes_of l.lookup.units) t.now) (take l.name-index l.name-items)
