-- The groups of rules after those of what lies above classes.
use Rattle.std.specs.Prelude.{List}
use Rattle.rules.specs.Rules.{Rules, ◌then◌, each}
use Rattle.code_decode.specs.declared.code.ClassUnit.{ClassUnit}
use Rattle.link_types.specs.declared.refusal.LinkRefusal.{LinkRefusal}
use Rattle.link_rules.specs.Classes.{classes_of}
use Rattle.link_rules.specs.LinkRules.{uses_rules}
use Rattle.link_members.specs.Members.{all_members_rules}
use Rattle.link_implementations.specs.Implementations.{all_implementation_rules}

abbrev pub member_groups : List ClassUnit → Rules LinkRefusal
member_groups us = all_members_rules us then all_implementation_rules us then each (uses_rules (classes_of us)) us
