-- What a StringBuilder has, what append adds to it and what toString makes of it, where no other thread writes.
use Rattle.std.specs.Prelude.{◌≡◌, ◌≢◌, ◌<◌, ◌^◌, ◌==◌, ℕ, Some, List, [], ◌∷◌, ◌++◌, All, codes, length, if◌then◌else◌}
use Rattle.builtin_world.specs.declared.word.TheConstants.{BUILDER_TEXT}
use Rattle.code_decode.specs.declared.code.ClassUnit.{ClassUnit}
use Rattle.instructions.specs.declared.operation.PrimitiveType.TheVariants.{Char}
use Rattle.link_rules.specs.Names.{program_names}
use Rattle.link_rules.specs.Readers.{primitive_array_number}
use Rattle.op_core.specs.declared.Op.{Op}
use Rattle.op_core.specs.declared.Op.TheVariants.{ClassOf, Read}
use Rattle.op_core.specs.declared.Reply.{Reply}
use Rattle.op_core.specs.declared.Reply.TheVariants.{Class, Value}
use Rattle.java_rows.specs.Plan.{Plan, Use, want, silently}
use Rattle.java_rows.specs.Units.{Appended, a_string, units_without_reading}
use Rattle.java_rows.specs.Texts.{appends, tells_text}
use Rattle.text_stages.specs.Reading.{Memory, text_in}
use Rattle.text_stages.specs.Making.{Going, going, gone_op, made_memory, with_word}

-- one reply, or one silent step, of a thread that goes on alone
abbrev pub alone_op : Memory → List ℕ → Op → (Reply → Plan) → Plan → Going
alone_op m rs (Read r i) k same = going m rs (k (Value (m.words r i)))
alone_op m rs (ClassOf r) k same = going m rs (k (Class (m.class r) (m.length r)))
alone_op m rs op k same = gone_op m rs op k same

abbrev pub alone : Memory → List ℕ → Plan → Going
alone m rs (want op k) = alone_op m rs op k (want op k)
alone m rs (silently plan) = going m rs plan
alone m rs plan = going m rs plan

-- such a thread comes there
pub data ComesTo (last : Going) : Going → Type 0 where
  there : ComesTo last last
  goes_on : (m : Memory) (rs : List ℕ) (plan : Plan) → ComesTo last (alone m rs plan) → ComesTo last (going m rs plan)

-- the text of a builder, which has no String at first
abbrev pub builder_text : List ClassUnit → Memory → ℕ → List ℕ
builder_text us m b = if m.words b BUILDER_TEXT == 0 then [] else text_in us m (m.words b BUILDER_TEXT)

-- what is appended
abbrev pub appended_text : List ClassUnit → Memory → Appended → List ℕ
appended_text us m (a_string s) = if s == 0 then codes "null" else text_in us m s
appended_text us m x = units_without_reading x

-- a new array and a new String, neither of them the builder
pub record AreNew (array s b : ℕ) : Type 0 where
  pub some : array ≢ 0
  pub string : s ≢ 0
  pub apart : array ≢ s
  pub other_array : array ≢ b
  pub other_string : s ≢ b

-- a text that is short enough for an array, of units
pub record IsText (units : List ℕ) : Type 0 where
  pub short : length units < 2 ^ 31
  pub are_units : All (λ v. v < 2 ^ 16) units

abbrev pub longer : List ClassUnit → Memory → ℕ → Appended → List ℕ
longer us m b x = builder_text us m b ++ appended_text us m x

abbrev pub longer_memory : List ClassUnit → Memory → ℕ → Appended → ℕ → ℕ → ℕ → Memory
longer_memory us m b x class array s = with_word (made_memory m class array s (longer us m b x)) b BUILDER_TEXT s

-- append comes to a memory in which the text of the builder is the one before it and what was appended
pub record Adds (us : List ClassUnit) (m : Memory) (b : ℕ) (x : Appended) (u : Use) (class array s : ℕ) (rs : List ℕ) : Type 0 where
  pub comes : ComesTo (going (longer_memory us m b x class array s) rs (u.value (b ∷ []))) (going m (array ∷ s ∷ rs) (appends us b x u))
  pub text : builder_text us (longer_memory us m b x class array s) b ≡ longer us m b x

abbrev pub AppendsAdd : Type 0
AppendsAdd = (us : List ClassUnit) (m : Memory) (b : ℕ) (x : Appended) (u : Use) (class array s : ℕ) (rs : List ℕ) → primitive_array_number (program_names us) Char ≡ Some class → AreNew array s b → IsText (longer us m b x)
    → Adds us m b x u class array s rs

-- ---- one append after another

-- what is appended, and the array and the String that append makes
pub record Piece : Type 0 where
  pub value : Appended
  pub array : ℕ
  pub string : ℕ

abbrev pub memory_after : List ClassUnit → Memory → ℕ → ℕ → List Piece → Memory
memory_after us m b class [] = m
memory_after us m b class (p ∷ ps) = memory_after us (longer_memory us m b p.value class p.array p.string) b class ps

-- the texts of what is appended, in order, each as it is then
abbrev pub joined_text : List ClassUnit → Memory → ℕ → ℕ → List Piece → List ℕ
joined_text us m b class [] = []
joined_text us m b class (p ∷ ps) = appended_text us m p.value ++ joined_text us (longer_memory us m b p.value class p.array p.string) b class ps

abbrev pub CanBeAppended : List ClassUnit → Memory → ℕ → ℕ → List Piece → Type 0
CanBeAppended us m b class [] = Unit {0}
CanBeAppended us m b class (p ∷ ps) = AreNew p.array p.string b × IsText (longer us m b p.value) × CanBeAppended us (longer_memory us m b p.value class p.array p.string) b class ps

-- the text of the builder is then the one at first and all of these
abbrev pub AppendsJoin : Type 0
AppendsJoin = (us : List ClassUnit) (m : Memory) (b class : ℕ) (ps : List Piece) → CanBeAppended us m b class ps → builder_text us (memory_after us m b class ps) b ≡ builder_text us m b ++ joined_text us m b class ps

-- toString comes to a new String whose text is that of the builder
pub record Tells (us : List ClassUnit) (m : Memory) (b : ℕ) (u : Use) (class array s : ℕ) (rs : List ℕ) : Type 0 where
  pub comes : ComesTo (going (made_memory m class array s (builder_text us m b)) rs (u.value (s ∷ []))) (going m (array ∷ s ∷ rs) (tells_text us b u))
  pub text : text_in us (made_memory m class array s (builder_text us m b)) s ≡ builder_text us m b

abbrev pub BuildersTell : Type 0
BuildersTell = (us : List ClassUnit) (m : Memory) (b : ℕ) (u : Use) (class array s : ℕ) (rs : List ℕ) → primitive_array_number (program_names us) Char ≡ Some class → AreNew array s b → IsText (builder_text us m b)
    → Tells us m b u class array s rs
