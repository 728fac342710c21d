-- The classes of a linked program.
use Rattle.link_rules.specs.Classes.{classes_of}
use Rattle.type_rules.specs.Assignable.{Hierarchy}
use Rattle.type_rules.specs.Environments.{hierarchy_of}
use Rattle.linked_methods.specs.declared.classes.LinkedClasses.{LinkedClasses}

abbrev pub hierarchy_of_classes : LinkedClasses → Hierarchy
hierarchy_of_classes c = hierarchy_of (classes_of c.world.now)
