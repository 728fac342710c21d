-- The tables of a linked program.
use Rattle.std.specs.Prelude.{ℕ, List}
use Rattle.code_decode.specs.declared.code.ClassUnit.{ClassUnit}
use Rattle.link_rules.specs.Classes.{classes_of}
use Rattle.link_rules.specs.Supers.{PutsSupersFirst}
use Rattle.class_relations.specs.Relations.{AreRelationsOf}
use Rattle.class_layout.specs.Layout.{IsLayoutOf}
use Rattle.string_literals.specs.Literals.{IsLiteralsOf}
use Rattle.start_objects.specs.Start.{AreStartObjectsOf}
use Rattle.method_table.specs.Methods.{AreMethodsOf}
use Rattle.method_selection.specs.Selection.{IsSelectionOf}
use Rattle.operand_table.specs.Sources.{AreArraysOf}
use Rattle.operand_table.specs.Table.{AreOperandsOf}
use Rattle.linker.specs.declared.tables.ClassTables.{ClassTables}
use Rattle.linker.specs.declared.tables.MemberTables.{MemberTables}
use Rattle.linker.specs.declared.tables.Tables.{Tables}

pub record AreClassTables (us : List ClassUnit) (t : ClassTables) : Type 0 where
  pub relations : AreRelationsOf us t.relations
  pub arrays : AreArraysOf us t.arrays
  pub layout : IsLayoutOf us t.layout
  pub literals : IsLiteralsOf us t.literals
  pub start : AreStartObjectsOf us t.start

pub record AreMemberTables (us : List ClassUnit) (t : MemberTables) : Type 0 where
  pub methods : AreMethodsOf us t.methods
  pub selection : IsSelectionOf us t.selection
  pub operands : AreOperandsOf us t.operands

-- classes can be put in an order in which each comes after those that it names
abbrev pub HasOrder : List ClassUnit → Type 0
HasOrder us = (order : List ℕ) × PutsSupersFirst (classes_of us) order

pub record AreTables (us : List ClassUnit) (t : Tables) : Type 0 where
  pub order : HasOrder us
  pub classes : AreClassTables us t.classes
  pub members : AreMemberTables us t.members
