-- What tests that were made before say.
use Rattle.std.specs.Prelude.{◌≡◌, ℕ, true, List, Some, slice_get}
use Rattle.class_texts.specs.Texts.{ProgramTexts}
use Rattle.link_rules.specs.Classes.{NamedMember, classes_of}
use Rattle.link_rules.specs.Members.{signature_of}
use Rattle.member_table.specs.declared.table.MemberRow.{MemberRow}
use Rattle.member_lookup.specs.Found.{HaveNumbers, virtuals_of}
use Rattle.link_members.specs.Members.{is_answered}
use Rattle.link_implementations.specs.declared.memo.Tested.{Tested}

-- objects of the class answer each method of this name and descriptor as asked
abbrev pub IsTested : ProgramTexts → Tested → Type 0
IsTested p t = (m : NamedMember) → HaveNumbers p t.name t.descriptor (signature_of m) → is_answered t.asked (classes_of p.units) t.class m ≡ true

abbrev pub AreTested : ProgramTexts → List Tested → Type 0
AreTested p ts = (i : ℕ) (t : Tested) → slice_get ts i ≡ Some t → IsTested p t

-- these are all the methods of one signature that are neither static nor private
abbrev pub AreOfOne : ProgramTexts → List MemberRow → Type 0
AreOfOne p rows = (r : MemberRow) → slice_get rows 0 ≡ Some r → rows ≡ virtuals_of p r.name r.descriptor

abbrev pub EachOfOne : ProgramTexts → List (List MemberRow) → Type 0
EachOfOne p each = (i : ℕ) (rows : List MemberRow) → slice_get each i ≡ Some rows → AreOfOne p rows
