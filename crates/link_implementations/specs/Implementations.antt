-- The rules of abstract methods over all files, and the candidates of abstract methods.
use Rattle.std.specs.Prelude.{◌≡◌, ℕ, Bool, not, List, [], ◌∷◌, Some, filter, map, slice_get}
use Rattle.std.specs.List.{list_any}
use Rattle.access_flags.specs.declared.TheConstants.{ABSTRACT}
use Rattle.access_flags.specs.Flags.{has}
use Rattle.rules.specs.Rules.{Rules, each}
use Rattle.code_decode.specs.declared.code.ClassUnit.{ClassUnit}
use Rattle.link_types.specs.declared.refusal.LinkRefusal.{LinkRefusal}
use Rattle.link_rules.specs.Classes.{NamedClass, NamedMember, classes_of, methods_of}
use Rattle.link_rules.specs.Members.{signature_of}
use Rattle.link_rules.specs.LinkRules.{implementation_rules}
use Rattle.class_texts.specs.Texts.{ProgramTexts}
use Rattle.text_numbers.specs.Numbers.{number_of}
use Rattle.member_table.specs.declared.table.MemberRow.{MemberRow}
use Rattle.member_lookup.specs.Found.{HaveNumbers}
use Rattle.link_members.specs.declared.implementations.Asked.{Asked}
use Rattle.link_members.specs.Members.{candidates_of, is_answered}

-- each class implements what it must, and by public methods where interfaces declare it (JVMS 5.4.5, 6.5)
abbrev pub all_implementation_rules : List ClassUnit → Rules LinkRefusal
all_implementation_rules us = each (λ k u. implementation_rules (classes_of us) k u.file.flags) us

abbrev pub is_abstract : NamedMember → Bool
is_abstract m = has m.flags ABSTRACT

-- the candidates of each of the abstract ones of some methods
abbrev pub abstract_candidates : ProgramTexts → List NamedMember → List (List MemberRow)
abstract_candidates p ms = map (candidates_of p) (filter is_abstract ms)

-- those of each class by its number; 0 is no class
abbrev pub candidate_table : ProgramTexts → List (List (List MemberRow))
candidate_table p = [] ∷ map (λ (k : NamedClass). abstract_candidates p k.methods) (classes_of p.units)

-- these are the candidates of each of some methods, whose names and descriptors have numbers
pub record HaveCandidates (p : ProgramTexts) (ms : List NamedMember) (each : List (List MemberRow)) : Type 0 where
  pub are : each ≡ map (candidates_of p) ms
  pub have : (i : ℕ) (m : NamedMember) → slice_get ms i ≡ Some m → HaveNumbers p (number_of p.texts m.name) (number_of p.texts m.descriptor) (signature_of m)

-- objects of a class don't answer a method as asked
abbrev pub is_open : Asked → List NamedClass → ℕ → NamedMember → Bool
is_open asked cs c m = not (is_answered asked cs c m)

-- objects of a class don't answer an abstract method of another one as asked
abbrev pub leaves_open : Asked → List NamedClass → ℕ → ℕ → Bool
leaves_open asked cs c d = list_any (is_open asked cs c) (filter is_abstract (methods_of cs d))
