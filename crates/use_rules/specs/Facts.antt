-- What is known of the classes and the members that entries of a pool name.
use Rattle.std.specs.Prelude.{◌≡◌, ◌≢◌, ℕ, ◌==◌, not, Bool, true, false, Option, Some, None, List, option_map}
use Rattle.std.specs.Option.{option_map_or}
use Rattle.access_flags.specs.declared.TheConstants.{INTERFACE, ABSTRACT}
use Rattle.access_flags.specs.Flags.{has}
use Rattle.class_walk.specs.declared.class.Constant.{Constant}
use Rattle.class_walk.specs.declared.class.Constant.TheVariants.{Field, Method, IfaceMethod}
use Rattle.class_pool.specs.Pool.{Reference}
use Rattle.link_rules.specs.Classes.{NamedClass, number_of_file, class_number, class_has}
use Rattle.link_rules.specs.Descriptors.{named_kind, class_of_kind}
use Rattle.link_rules.specs.Members.{Declared, holder, found_field, found_method, special}
use Rattle.link_rules.specs.LinkRules.{cannot_be_made, IsClassThere}
use Rattle.text_numbers.specs.Numbers.{number_of}
use Rattle.member_lookup.specs.Found.{found_of}
use Rattle.use_rules.specs.declared.classes.ClassFacts.{ClassFacts}
use Rattle.use_rules.specs.declared.members.MemberFacts.{MemberFacts}
use Rattle.use_rules.specs.declared.members.MethodFacts.{MethodFacts}

-- a class is there; of an array class, the class of its innermost elements, if they have one
abbrev pub is_class_there : List NamedClass → List ℕ → Bool
is_class_there cs name = option_map_or (λ n. not (class_number cs n == 0)) (class_of_kind (named_kind name)) true

-- what is known of a class by its name
abbrev pub class_facts : List NamedClass → List ℕ → ClassFacts
class_facts cs name = record { is_there = is_class_there cs name; cannot_be_made = cannot_be_made cs 0 name }

-- what is known of a class that isn't there
abbrev pub nothing_known : ClassFacts
nothing_known = record { is_there = false; cannot_be_made = false }

-- the index of the Class entry that a Field, Method or InterfaceMethod entry has (JVMS 4.4.2)
abbrev pub class_entry : Option Constant → ℕ
class_entry (Some (Field class pair)) = class
class_entry (Some (Method class pair)) = class
class_entry (Some (IfaceMethod class pair)) = class
class_entry _ = 0

-- what is known of a method that the class of the file at a place finds
abbrev pub method_facts : List NamedClass → ℕ → Reference → Declared → MethodFacts
method_facts cs k r d = record {
  found = found_of d;
  is_special = option_map_or (λ (m : Declared). not (has m.member.flags ABSTRACT)) (special cs (number_of_file k) r d) false;
}

-- what is known of a reference that the class of the file at a place makes
abbrev pub member_facts : List NamedClass → ℕ → Reference → MemberFacts
member_facts cs k r = record {
  in_interface = class_has cs (holder cs r) INTERFACE;
  field = option_map found_of (found_field cs r);
  method = option_map (method_facts cs k r) (found_method cs r);
}

-- this is known of a reference whose class is there, and nothing of another
abbrev pub AreFactsOf : List NamedClass → ℕ → Reference → Option MemberFacts → Type 0
AreFactsOf cs k r None = ¬ IsClassThere cs k r.class
AreFactsOf cs k r (Some facts) = IsClassThere cs k r.class × (facts ≡ member_facts cs k r)

abbrev pub or_none : Option (Option MemberFacts) → Option MemberFacts
or_none None = None
or_none (Some facts) = facts

-- the number of a name that has one; 0 where there is no name
abbrev pub NumbersName : List (List ℕ) → Option (List ℕ) → ℕ → Type 0
NumbersName ts None n = n ≡ 0
NumbersName ts (Some name) n = (n ≡ number_of ts name) × (n ≢ 0)
