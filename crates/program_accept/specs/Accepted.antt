-- Programs that are accepted (JVMS 4.1 to 4.10.1, 5.3 to 5.5), and the first rule that another one breaks.
use Rattle.std.specs.Prelude.{◌≡◌, ◌≤◌, ℕ, Some, List, length, slice_get}
use Rattle.rules.specs.Rules.{Rules, must, ◌then◌, each}
use Rattle.class_pool.specs.declared.refusal.ReadRefusal.{ReadRefusal}
use Rattle.class_read.specs.declared.class_file.ClassFile.{ClassFile}
use Rattle.class_read.specs.ClassFile.{IsFile, IsRefusalOf}
use Rattle.code_decode.specs.declared.code.ClassUnit.{ClassUnit}
use Rattle.code_decode.specs.declared.code.CodeAt.{CodeAt}
use Rattle.code_decode.specs.Unit.{IsUnit, ClassRefuses}
use Rattle.link_types.specs.declared.operands.MethodId.{MethodId}
use Rattle.link_rules.specs.LinkRules.{link_rules}
use Rattle.type_rules.specs.VerifyRules.{verify_rules}
use Rattle.program_accept.specs.declared.refusal.AcceptRefusal.{AcceptRefusal}
use Rattle.program_accept.specs.declared.refusal.AcceptRefusal.TheVariants.{NoMain}
use Rattle.program_accept.specs.Refusals.{too_many, read_refused, code_refused, link_refused, verify_refused}
use Rattle.program_accept.specs.Main.{main_method}

-- a file is a class file
abbrev pub read_rules : ℕ → List ℕ → Rules AcceptRefusal
read_rules file bytes = record {
  Hold = (c : ClassFile) × IsFile bytes c;
  Refuse = λ e. (r : ReadRefusal) × IsRefusalOf bytes r × (e ≡ read_refused file r);
}

-- a file is a class file, and this is what it contains
pub record IsUnitOf (bytes : List ℕ) (u : ClassUnit) : Type 0 where
  pub read : IsFile bytes u.file
  pub decoded : IsUnit u.file u

-- the code of each of its methods is well formed
abbrev pub code_rules : ℕ → List ℕ → Rules AcceptRefusal
code_rules file bytes = record {
  Hold = (u : ClassUnit) × IsUnitOf bytes u;
  Refuse = λ e. (c : ClassFile) × (at : CodeAt) × IsFile bytes c × ClassRefuses c at × (e ≡ code_refused file at);
}

-- this is what the files contain
pub record AreUnitsOf (files : List (List ℕ)) (us : List ClassUnit) : Type 0 where
  pub count : length us ≡ length files
  pub each : (k : ℕ) (bytes : List ℕ) (u : ClassUnit) → slice_get files k ≡ Some bytes → slice_get us k ≡ Some u → IsUnitOf bytes u

-- rules of what the files contain
abbrev pub of_units : List (List ℕ) → (List ClassUnit → Rules AcceptRefusal) → Rules AcceptRefusal
of_units files rules = record {
  Hold = (us : List ClassUnit) × AreUnitsOf files us × (rules us).Hold;
  Refuse = λ e. (us : List ClassUnit) × AreUnitsOf files us × (rules us).Refuse e;
}

-- rules whose refusals are given in another form
abbrev pub told : {E : Type 0} → (E → AcceptRefusal) → Rules E → Rules AcceptRefusal
told {E} tell rules = record {
  Hold = rules.Hold;
  Refuse = λ e. (r : E) × rules.Refuse r × (e ≡ tell r);
}

-- the program begins with a method
abbrev pub main_rules : List ℕ → List ClassUnit → Rules AcceptRefusal
main_rules name us = must ((m : MethodId) × (main_method us name ≡ Some m)) NoMain

-- the classes fit together, each method is type safe, and the program begins with a method
abbrev pub unit_rules : List ℕ → List ClassUnit → Rules AcceptRefusal
unit_rules name us = told link_refused (link_rules us) then told verify_refused (verify_rules us) then main_rules name us

-- All files are read before the code of any is; the rules of linking and of type safety, and the main method, are those
-- of all files together.
abbrev pub program_rules : List (List ℕ) → List ℕ → Rules AcceptRefusal
program_rules files name =
    must (length files ≤ 1024) too_many
    then each read_rules files
    then each code_rules files
    then of_units files (unit_rules name)

-- what is executed: what the files contain, and the method with which it begins
pub record Accepted : Type 0 where
  pub units : List ClassUnit
  pub main : MethodId

-- the program of these classes
pub record IsProgramOf (us : List ClassUnit) (name : List ℕ) (program : Accepted) : Type 0 where
  pub units : program.units ≡ us
  pub linked : (link_rules us).Hold
  pub safe : (verify_rules us).Hold
  pub main : main_method us name ≡ Some program.main

-- the program that these files contain
pub record IsProgram (files : List (List ℕ)) (name : List ℕ) (program : Accepted) : Type 0 where
  pub units : AreUnitsOf files program.units
  pub is : IsProgramOf program.units name program

-- .. and no other one is
pub record IsOnlyProgram (files : List (List ℕ)) (name : List ℕ) (program : Accepted) : Type 0 where
  pub is : IsProgram files name program
  pub only : (other : Accepted) → IsProgram files name other → other ≡ program
