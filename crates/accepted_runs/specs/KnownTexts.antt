-- What is known of texts in executions: the objects that there are, which char arrays are those of texts, and which Strings
-- have a text.
use Rattle.std.specs.Prelude.{◌≡◌, ◌≢◌, ◌⊎◌, ℕ, Bool, true, Option, None, Some, List}
use Rattle.builtin_world.specs.declared.number.TheConstants.{STRING}
use Rattle.builtin_world.specs.declared.word.TheConstants.{STRING_UNITS}
use Rattle.code_decode.specs.declared.code.ClassUnit.{ClassUnit}
use Rattle.link_types.specs.declared.types.ObjectType.{ObjectType}
use Rattle.link_types.specs.declared.types.ObjectType.TheVariants.{Class}
use Rattle.link_rules.specs.Names.{program_names, type_numbered}
use Rattle.op_core.specs.declared.Op.{Op}
use Rattle.op_core.specs.declared.Op.TheVariants.{Read, Write, New, Start, Print}
use Rattle.op_core.specs.declared.Reply.{Reply}
use Rattle.op_core.specs.declared.Reply.TheVariants.{Value, Made, Done}
use Rattle.op_core.specs.declared.Line.TheVariants as lines
use Rattle.op_core.specs.OrdinaryState.{Object}
use Rattle.java_rows.specs.Program.{is_subclass}
use Rattle.kept_states.specs.Kept.{Extends}
use Rattle.row_soundness.specs.Senses.{Sense, Making, filling, naming, PlainSteps, reference}
use Rattle.row_soundness.specs.Runs.{Known, HasObject, fixed_of, WordHolds, runs}
use Rattle.row_soundness.specs.Texts.{char_array}
use Rattle.program_soundness.specs.Seen.{IsTypeBelow}

abbrev pub IsString : List ClassUnit → ℕ → Bool
IsString us c = is_subclass us c STRING

-- the class is that of char arrays
abbrev pub IsCharArray : List ClassUnit → ℕ → Type 0
IsCharArray us c = type_numbered (program_names us) c ≡ char_array

-- The objects that there are, which of them are arrays of texts, be they made or in the making, and the first word of each
-- object, which is a String's array. No object from the start is the array of a text.
pub record Seen (us : List ClassUnit) : Type 0 where
  pub known : Known us
  pub texts : ℕ → Bool
  pub units : ℕ → ℕ
  pub begun : (r : ℕ) (o : Object) → fixed_of us r ≡ Some o → texts r ≡ true → ⊥

-- the array of a String that is there
pub record IsNamed (us : List ClassUnit) (h : Seen us) (r : ℕ) : Type 0 where
  pub string : ℕ
  pub object : Object
  pub there : h.known.objects string ≡ Some object
  pub class : IsString us object.class ≡ true
  pub array : h.units string ≡ r
  pub some : r ≢ 0

-- a String that was there from the start, or has an array
abbrev pub HasText : (us : List ClassUnit) → Seen us → ℕ → Object → Type 0
HasText us h r o = (fixed_of us r ≡ Some o) ⊎ (h.units r ≢ 0)

-- an object that isn't the array of a text; if it is a String, it has a text
pub record IsPlain (us : List ClassUnit) (h : Seen us) (r : ℕ) : Type 0 where
  pub object : Object
  pub there : h.known.objects r ≡ Some object
  pub clear : h.texts r ≡ true → ⊥
  pub text : IsString us object.class ≡ true → HasText us h r object

-- the place is neither in the array of a text nor that of a String's array
abbrev pub IsElsewhere : (us : List ClassUnit) → Seen us → ℕ → ℕ → Type 0
IsElsewhere us h r i = (h.texts r ≡ true → ⊥) × ((o : Object) → h.known.objects r ≡ Some o → IsString us o.class ≡ true → i ≢ STRING_UNITS)

-- where references are held, but in a String, the word is null or such an object
abbrev pub HoldsPlain : (us : List ClassUnit) → Seen us → ℕ → ℕ → ℕ → Type 0
HoldsPlain us h r i v = (o : Object) (t : ObjectType) → h.known.objects r ≡ Some o → WordHolds us r o i (reference t) → (IsString us o.class ≡ true → i ≢ STRING_UNITS) → (v ≡ 0) ⊎ IsPlain us h v

-- the word of a String is null or the array of a text
abbrev pub HoldsText : (us : List ClassUnit) → Seen us → ℕ → ℕ → ℕ → Type 0
HoldsText us h r i v = (o : Object) → h.known.objects r ≡ Some o → IsString us o.class ≡ true → i ≡ STRING_UNITS → (v ≡ 0) ⊎ (h.texts v ≡ true)

-- what is read, written, started and printed keeps this
abbrev pub KeepsTexts : (us : List ClassUnit) → Seen us → Op → Type 0
KeepsTexts us h (Read r i) = (o : Object) → h.known.objects r ≡ Some o → IsString us o.class ≡ true → i ≡ STRING_UNITS → HasText us h r o
KeepsTexts us h (Write r i v) = IsElsewhere us h r i × HoldsPlain us h r i v
KeepsTexts us h (Start r p) = IsPlain us h r
KeepsTexts us h (Print (lines.Made r)) = IsNamed us h r
KeepsTexts us h op = Unit {0}

-- what was read, and what was made for another purpose
abbrev pub TellsTexts : (us : List ClassUnit) → Seen us → Op → Reply → Type 0
TellsTexts us h (Read r i) (Value v) = HoldsPlain us h r i v × HoldsText us h r i v × (i ≡ STRING_UNITS → v ≡ h.units r)
TellsTexts us h (New c n) (Made r) = h.texts r ≡ true → ⊥
TellsTexts us h op reply = Unit {0}

-- objects stay, the arrays of texts among them stay the same, and a String that has an array keeps it
pub record GoesOn (us : List ClassUnit) (h h' : Seen us) : Type 0 where
  pub objects : Extends h.known.objects h'.known.objects
  pub texts : (r : ℕ) (o : Object) → h.known.objects r ≡ Some o → h.texts r ≡ true → h'.texts r ≡ true
  pub others : (r : ℕ) (o : Object) → h.known.objects r ≡ Some o → h'.texts r ≡ true → h.texts r ≡ true
  pub units : (r : ℕ) (o : Object) → h.known.objects r ≡ Some o → IsString us o.class ≡ true → h.units r ≢ 0 → h'.units r ≡ h.units r

abbrev pub Wants : (us : List ClassUnit) → Seen us → Op → Type 0
Wants us h op = (runs us).may_want h.known op × KeepsTexts us h op

abbrev pub Comes : (us : List ClassUnit) → Seen us → Op → Reply → Type 0
Comes us h op reply = (runs us).may_come h.known op reply × TellsTexts us h op reply

abbrev pub After : List ClassUnit → Type 1
After us = Option Making → Seen us → Reply → Type 0

-- A text is made: its array, which the thread alone writes, then its String, and at last the String's word.
abbrev pub BeginsText : (us : List ClassUnit) → Seen us → Op → After us → Type 0
BeginsText us h (New c n) next = IsCharArray us c × ((h' : Seen us) (r : ℕ) → GoesOn us h h' → next (Some (filling r)) h' (Made r))
BeginsText us h op next = ⊥

abbrev pub FillsText : (us : List ClassUnit) → ℕ → Seen us → Op → After us → Type 0
FillsText us r h (Write q i v) next = (q ≡ r) × ((h' : Seen us) → GoesOn us h h' → next (Some (filling r)) h' Done)
FillsText us r h (New c m) next = (c ≡ STRING)
    × ((h' : Seen us) (s : ℕ) → GoesOn us h h' → HasObject us h'.known.objects s (Class STRING) → (h'.texts s ≡ true → ⊥) → next (Some (naming r s)) h' (Made s))
FillsText us r h op next = ⊥

abbrev pub NamesText : (us : List ClassUnit) → ℕ → ℕ → Seen us → Op → After us → Type 0
NamesText us r s h (Write q i v) next = (q ≡ s) × (i ≡ STRING_UNITS) × (v ≡ r) × ((h' : Seen us) → GoesOn us h h' → h'.units s ≢ 0 → next None h' Done)
NamesText us r s h op next = ⊥

abbrev pub TextSteps : (us : List ClassUnit) → Option Making → Seen us → Op → After us → Type 0
TextSteps us None h op next = PlainSteps (GoesOn us) (Wants us) (Comes us) None h op next ⊎ BeginsText us h op next
TextSteps us (Some (filling r)) h op next = FillsText us r h op next
TextSteps us (Some (naming r s)) h op next = NamesText us r s h op next

abbrev pub text_sense : (us : List ClassUnit) → Sense (Seen us)
text_sense us = record {
  extends = GoesOn us;
  exact = Unit {0};
  is_priority = (runs us).is_priority;
  is_there = λ h r. (runs us).is_there h.known r;
  is_raw = λ h r t. (runs us).is_raw h.known r t × ((h.texts r ≡ true → ⊥) × (IsPlain us h r ⊎ IsTypeBelow us STRING t));
  is_of = λ h r t. (runs us).is_of h.known r t × IsPlain us h r;
  is_exactly = λ h r c n. (runs us).is_exactly h.known r c n;
  is_thrown = λ h r c. (runs us).is_thrown h.known r c × IsPlain us h r;
  has_word = λ h r i k. (runs us).has_word h.known r i k × IsElsewhere us h r i;
  is_text = λ h r. HasObject us h.known.objects r char_array × (h.texts r ≡ true) × IsNamed us h r;
  may_want = Wants us;
  may_come = Comes us;
  steps = TextSteps us;
}
