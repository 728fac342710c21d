use Rattle.std.proofs.Common.{take}
use Rattle.rules.specs.Rules.{HoldBelow}
use Rattle.link_rules.specs.Classes.{classes_of, class_of_unit}
use Rattle.link_rules.specs.LinkRules.{twice_rules}
use Rattle.class_supers.specs.Numbers.{number_named, AreNumbersOf}
use Rattle.class_supers.proofs.naming.class_numbers.Given as goal

abbrev pub invariant-loop-place : goal.invariant-loop-place
invariant-loop-place l = record {
  known : AreNumbersOf (number_named l.numbers) (classes_of (take l.place l.units));
  apart : HoldBelow (λ k u. twice_rules (classes_of l.units) k (class_of_unit u)) l.units l.place;
}
