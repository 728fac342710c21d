-- The pool of a file, whose entries name classes and members of a program.
use Rattle.std.specs.Prelude.{◌≡◌, ◌≤◌, ℕ, List, [], Option, Some, map, slice_get}
use Rattle.class_walk.specs.declared.class.Constant.{Constant}
use Rattle.class_texts.specs.Texts.{ProgramTexts}
use Rattle.code_decode.specs.declared.code.ClassUnit.{ClassUnit}
use Rattle.link_rules.specs.Classes.{NamedClass, classes_of, class_number, reference_at}
use Rattle.use_rules.specs.declared.classes.ClassFacts.{ClassFacts}
use Rattle.use_rules.specs.declared.members.MemberFacts.{MemberFacts}
use Rattle.use_rules.specs.Facts.{class_facts, AreFactsOf, or_none}

-- the classes of a program, and the pool of the file at a place
pub record NamedPool : Type 0 where
  pub classes : List NamedClass
  pub place : ℕ
  pub pool : List Constant

abbrev pub named_pool : ProgramTexts → ℕ → ClassUnit → NamedPool
named_pool p k u = record { classes = classes_of p.units; place = k; pool = u.file.pool }

-- facts of the classes by their names, and of the members that the entries of the pool of the file at a place name
pub record AreNames (p : ProgramTexts) (facts : List ClassFacts) (k : ℕ) (u : ClassUnit) (members : List (Option MemberFacts)) : Type 0 where
  pub within : k ≤ 1024
  pub unnamed : class_number (classes_of p.units) [] ≡ 0
  pub classes_are : facts ≡ map (class_facts (classes_of p.units)) p.texts
  pub there : slice_get p.units k ≡ Some u
  pub members_are : (i : ℕ) → i ≤ 65535 → AreFactsOf (classes_of p.units) k (reference_at u.file.pool i) (or_none (slice_get members i))
