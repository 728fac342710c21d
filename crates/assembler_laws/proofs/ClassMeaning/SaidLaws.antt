-- What the lines of a text say, where they say something.
use Rattle.std.proofs.Common.{◌≡◌, ℕ, ◌+◌, ◌^◌, ◌<◌, inl, inr, Bool, true, false, MatchBool, List, [], ◌∷◌, Option, Some, None, refl, sym, subst, arith}
use Rattle.std.specs.List.{AllByRecursion}
use Rattle.class_walk.specs.declared.class.Constant.{Constant}
use Rattle.assembler_lines.specs.declared.line.FieldValue.{FieldValue}
use Rattle.assembler_lines.specs.declared.line.Line.{Line}
use Rattle.assembler_lines.specs.declared.line.Line.TheVariants as kinds
use Rattle.assembler_lines.specs.declared.line.Room.{Room}
use Rattle.assembler_lines.specs.Lines.{IsShort, IsLine}
use Rattle.assembler_text.specs.declared.lines.Numbered.{Numbered}
use Rattle.assembler_text.specs.TextLines.{SaysAt, is_passed, IsNext, AreNumbered}
use Rattle.assembler_bodies.specs.Labels.{Marks, is_end}
use Rattle.assembler_bodies.specs.Body.{MadeBody, step_of}
use Rattle.assembler_laws.specs.BodyMeaning.Parts.{IsSaid}
use Rattle.assembler_laws.proofs.BodyMeaning.NumberLaws.{number_within}
use Rattle.assembler_laws.specs.ClassMeaning.Parts.{said_super, said_interface, said_field, said_method, super_named, interfaces_in, fields_in, methods_in}

-- some bytes say this line, or it says nothing
abbrev pub MayBeSaid : Option Line → Type 0
MayBeSaid None = Unit {0}
MayBeSaid (Some line) = (text : List ℕ) × IsLine text line

abbrev pub MayBeSaidAt : Numbered → Type 0
MayBeSaidAt numbered = MayBeSaid numbered.line

may_be : (end : ℕ) (text : List ℕ) (line : Option Line) → SaysAt end text line → MayBeSaid line
may_be end text None says = tt
may_be end text (Some line) says = (text, says.1)

next_said : (number end : ℕ) (text : List ℕ) (AreOthers : List Numbered → Type 0) (made : List Numbered) → ((others : List Numbered) → AreOthers others → AllByRecursion MayBeSaidAt others)
    → IsNext number end text AreOthers made → AllByRecursion MayBeSaidAt made
next_said number end text AreOthers [] behind is = absurd is
next_said number end text AreOthers (next ∷ others) behind is = (may_be end text next.line is.1, behind others is.2)

said_by : (b : Bool) (number end : ℕ) (text : List ℕ) (AreOthers : List Numbered → Type 0) (made : List Numbered) → ((others : List Numbered) → AreOthers others → AllByRecursion MayBeSaidAt others)
    → MatchBool b (AreOthers made) (IsNext number end text AreOthers made) → AllByRecursion MayBeSaidAt made
said_by true number end text AreOthers made behind is = behind made is
said_by false number end text AreOthers made behind is = next_said number end text AreOthers made behind is

-- each line of a text
pub all_said : (number at : ℕ) (pieces : List (List ℕ × ℕ)) (made : List Numbered) → AreNumbered number at pieces made → AllByRecursion MayBeSaidAt made
all_said number at [] made is = subst (AllByRecursion MayBeSaidAt) (sym is) tt
all_said number at ((text, size) ∷ pieces) made is =
    said_by (is_passed (at + size) text) number (at + size) text (AreNumbered (number + 1) (at + size) pieces) made (λ others. all_said (number + 1) (at + size) pieces others) is

-- ---- numbers

short_number : (bytes : List ℕ) (n : ℕ) → IsShort bytes n → n < 2 ^ 16
short_number bytes n is = omega (arith, number_within 65535 bytes n is)

-- flags and the words of a frame have two bytes
pub class_flags : (name : List ℕ) (flags : ℕ) → MayBeSaid (Some (kinds.Class name flags)) → flags < 2 ^ 16
class_flags name flags is =
    elim is.1.2 [
      | inl plain ↦ omega (arith, plain.1)
      | inr given ↦ short_number given.0 flags given.2
    ]

pub field_flags : (flags : ℕ) (name descriptor : List ℕ) (value : Option FieldValue) → MayBeSaid (Some (kinds.Field flags name descriptor value)) → flags < 2 ^ 16
field_flags flags name descriptor None is = let says = is.1.2 in short_number says.0 flags says.2
field_flags flags name descriptor (Some value) is = let says = is.1.2 in short_number says.0 flags says.3

pub method_flags : (flags : ℕ) (name descriptor : List ℕ) (room : Option Room) → MayBeSaid (Some (kinds.Method flags name descriptor room)) → flags < 2 ^ 16
method_flags flags name descriptor None is = let says = is.1.2 in short_number says.0 flags says.2
method_flags flags name descriptor (Some room) is = let says = is.1.2 in short_number says.0 flags says.4

pub method_room : (flags : ℕ) (name descriptor : List ℕ) (room : Room) → MayBeSaid (Some (kinds.Method flags name descriptor (Some room))) → (room.stack < 2 ^ 16) × (room.locals < 2 ^ 16)
method_room flags name descriptor room is = let says = is.1.2 in (short_number says.1 room.stack says.5, short_number says.2 room.locals says.6)

-- ---- lines that say no part of the class

pub record SaysNoPart (line : Option Line) : Type 0 where
  pub super : said_super line ≡ None
  pub interface : said_interface line ≡ None
  pub field : said_field line ≡ None
  pub method : (behind : List Numbered) → said_method line behind ≡ None

-- two lists of lines say the same parts
pub record SayTheSame (lines others : List Numbered) : Type 0 where
  pub super : super_named lines ≡ super_named others
  pub interfaces : interfaces_in lines ≡ interfaces_in others
  pub fields : fields_in lines ≡ fields_in others
  pub methods : methods_in lines ≡ methods_in others

pub same_behind : (n : Numbered) (lines : List Numbered) → SaysNoPart n.line → SayTheSame (n ∷ lines) lines
same_behind n lines none = record {
  super = rw none.super refl;
  interfaces = rw none.interface refl;
  fields = rw none.field refl;
  methods = rw (none.method lines) refl;
}

pub same_further : (lines mid others : List Numbered) → SayTheSame lines mid → SayTheSame mid others → SayTheSame lines others
same_further lines mid others first next = record {
  super = cc;
  interfaces = cc;
  fields = cc;
  methods = cc;
}

pub end_says : (line : Option Line) → is_end line ≡ true → SaysNoPart line
end_says (Some kinds.End) e = record { super = refl; interface = refl; field = refl; method = λ behind. refl }
end_says _ e = absurd cc

pub body_says : (marks : Marks) (number : ℕ) (line : Option Line) (old : MadeBody) (pool : List Constant) (x : List Constant × MadeBody) → step_of marks number line old pool ≡ Some x → SaysNoPart line
body_says marks number (Some (kinds.Label name)) old pool x e = record { super = refl; interface = refl; field = refl; method = λ behind. refl }
body_says marks number (Some (kinds.Instruction operation)) old pool x e = record { super = refl; interface = refl; field = refl; method = λ behind. refl }
body_says marks number (Some (kinds.Handler from to at class)) old pool x e = record { super = refl; interface = refl; field = refl; method = λ behind. refl }
body_says marks number (Some (kinds.Frame locals stack)) old pool x e = record { super = refl; interface = refl; field = refl; method = λ behind. refl }
body_says marks number _ old pool x e = absurd cc

-- a line of a body says something
pub body_said : (marks : Marks) (number : ℕ) (line : Option Line) (old : MadeBody) (pool : List Constant) (x : List Constant × MadeBody) → step_of marks number line old pool ≡ Some x → MayBeSaid line → IsSaid line
body_said marks number None old pool x e said = absurd cc
body_said marks number (Some line) old pool x e said = said
