-- The rules of members over all files.
use Rattle.std.specs.Prelude.{◌≡◌, ℕ, Bool, true, false, not, ◌||◌, List, Option, None, Some, option_map}
use Rattle.access_flags.specs.declared.TheConstants.{ABSTRACT, PUBLIC}
use Rattle.access_flags.specs.Flags.{has}
use Rattle.rules.specs.Rules.{Rules, each}
use Rattle.code_decode.specs.declared.code.ClassUnit.{ClassUnit}
use Rattle.link_types.specs.declared.refusal.LinkRefusal.{LinkRefusal}
use Rattle.link_rules.specs.Classes.{NamedClass, NamedMember, classes_of, class_of_unit}
use Rattle.link_rules.specs.Members.{Declared, selected, signature_of}
use Rattle.class_texts.specs.Texts.{ProgramTexts}
use Rattle.text_numbers.specs.Numbers.{number_of}
use Rattle.member_table.specs.declared.table.MemberRow.{MemberRow}
use Rattle.member_lookup.specs.Found.{HaveNumbers, virtuals_of}
use Rattle.link_members.specs.declared.implementations.Asked.{Asked}
use Rattle.link_members.specs.declared.implementations.Asked.TheVariants.{Implemented, Public}
use Rattle.link_rules.specs.LinkRules.{members_rules}

-- the fields and methods of each file are such as may be declared (JVMS 4.5, 4.6, 5.4.5)
abbrev pub all_members_rules : List ClassUnit → Rules LinkRefusal
all_members_rules us = each (λ k u. members_rules (classes_of us) k (class_of_unit u)) us

-- among the rows of all classes, the methods of a method's name and descriptor that are neither static nor private
abbrev pub candidates_of : ProgramTexts → NamedMember → List MemberRow
candidates_of p m = virtuals_of p (number_of p.texts m.name) (number_of p.texts m.descriptor)

-- these are those of a method whose name and descriptor have numbers
pub record AreCandidates (p : ProgramTexts) (m : NamedMember) (rows : List MemberRow) : Type 0 where
  pub are : rows ≡ candidates_of p m
  pub have : HaveNumbers p (number_of p.texts m.name) (number_of p.texts m.descriptor) (signature_of m)

-- what is asked of a method of these flags, or where there is none
abbrev pub answers : Asked → Option ℕ → Bool
answers Implemented None = false
answers Implemented (Some flags) = not (has flags ABSTRACT)
answers Public None = true
answers Public (Some flags) = has flags ABSTRACT || has flags PUBLIC

-- the method that objects of a class answer with is as asked
abbrev pub is_answered : Asked → List NamedClass → ℕ → NamedMember → Bool
is_answered asked cs c m = answers asked (option_map (λ (d : Declared). d.member.flags) (selected cs c (signature_of m)))
