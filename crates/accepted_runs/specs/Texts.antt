-- Texts of Strings in executions.
use Rattle.std.specs.Prelude.{◌≡◌, ◌≢◌, ◌⊎◌, ◌<◌, ℕ, suc, true, Some, List, length}
use Rattle.builtin_world.specs.declared.word.TheConstants.{STRING_UNITS}
use Rattle.code_decode.specs.declared.code.ClassUnit.{ClassUnit}
use Rattle.link_rules.specs.FixedObjects.{string_object}
use Rattle.link_rules.specs.Names.{program_names}
use Rattle.op_core.specs.declared.Event.{Event}
use Rattle.op_core.specs.declared.Op.{Op}
use Rattle.op_core.specs.declared.Op.TheVariants.{ClassOf, Read, Print}
use Rattle.op_core.specs.declared.Reply.{Reply}
use Rattle.op_core.specs.OrdinaryStep.{MayAnswer}
use Rattle.java_rows.specs.Plan.{Plan, want}
use Rattle.java_rows.specs.Texts.{reads_text}
use Rattle.op_core.specs.declared.Line.TheVariants as lines
use Rattle.op_core.specs.declared.Next.TheVariants.{Want}
use Rattle.op_core.specs.Execution.{IsReached, Leads}
use Rattle.op_core.specs.ThreadCode.{quiet_steps}
use Rattle.op_core.specs.OrdinaryState.{Object, OrdinaryState, live}
use Rattle.java_rows.specs.Thread.{Local, java_code}
use Rattle.std.specs.Option.{option_map_or}
use Rattle.text_stages.specs.Reading.{Memory, followed_by, followed_op, steps_of_text, text_in}
use Rattle.accepted_runs.specs.KnownTexts.{IsString}

-- a String that is there
pub record IsStringAt (us : List ClassUnit) (s : OrdinaryState Local) (r : ℕ) : Type 0 where
  pub object : Object
  pub there : s.objects r ≡ Some object
  pub class : IsString us object.class ≡ true

-- the object of a string literal
abbrev pub IsLiteral : List ClassUnit → ℕ → Type 0
IsLiteral us r = (n : ℕ) × (n < length (program_names us).strings) × (r ≡ string_object (program_names us) n)

-- the char array of a String
abbrev pub array_in : OrdinaryState Local → ℕ → ℕ
array_in s r = s.words r STRING_UNITS

-- the array of a String that is there
pub record IsArrayOfOne (us : List ClassUnit) (s : OrdinaryState Local) (a : ℕ) : Type 0 where
  pub string : ℕ
  pub there : IsStringAt us s string
  pub array : array_in s string ≡ a
  pub some : a ≢ 0

-- a String has the same array in both states, with the same length and the same units
pub record HasSameText (s last : OrdinaryState Local) (r : ℕ) : Type 0 where
  pub array : array_in last r ≡ array_in s r
  pub header : (o : Object) → s.objects (array_in s r) ≡ Some o → last.objects (array_in s r) ≡ Some o
  pub units : (i : ℕ) → last.words (array_in s r) i ≡ s.words (array_in s r) i

-- the objects and words of a state, and the text of a String in it
abbrev pub memory_of : OrdinaryState Local → Memory
memory_of s = record {
  class = λ r. option_map_or (λ (o : Object). o.class) (s.objects r) 0;
  length = λ r. option_map_or (λ (o : Object). o.length) (s.objects r) 0;
  words = s.words;
}

abbrev pub text_of : List ClassUnit → OrdinaryState Local → ℕ → List ℕ
text_of us s r = text_in us (memory_of s) r

-- an operation with which a method reads the text of a String
abbrev pub ReadsText : OrdinaryState Local → ℕ → Op → Type 0
ReadsText s r (Read q i) = ((q ≡ r) × (i ≡ STRING_UNITS)) ⊎ ((q ≡ array_in s r) × (array_in s r ≢ 0))
ReadsText s r (ClassOf q) = (q ≡ r) ⊎ ((q ≡ array_in s r) × (array_in s r ≢ 0))
ReadsText s r op = ⊥

-- Once a String has an array, neither the array nor a word of it changes, and the text of such a String, and of a literal, is a
-- value. A String whose text is about to be read is a literal or has an array, and a line that is about to be printed of a
-- String that the program made names its array.
pub record TextsStay (us : List ClassUnit) (start : OrdinaryState Local) : Type 0 where
  pub stay : (s last : OrdinaryState Local) (es : List Event) (r : ℕ) → IsReached java_code start s → Leads java_code s es last → IsStringAt us s r → array_in s r ≢ 0 → HasSameText s last r
  pub values : (s last : OrdinaryState Local) (es : List Event) (r : ℕ) → IsReached java_code start s → Leads java_code s es last → IsStringAt us s r → IsLiteral us r ⊎ (array_in s r ≢ 0) → text_of us last r ≡ text_of us s r
  -- whenever a part of such a text is read, the reply is what the text was before
  pub replies : (s last : OrdinaryState Local) (es : List Event) (r t : ℕ) (op : Op) (reply : Reply) (k : Reply → Plan) (same : Plan) → IsReached java_code start s → Leads java_code s es last → IsStringAt us s r → IsLiteral us r ⊎ (array_in s r ≢ 0)
      → ReadsText s r op → MayAnswer last t op reply → followed_op (memory_of s) op k same ≡ k reply
  -- and a thread that reads such a text goes on, whatever others do, as in a memory that stays: there it comes to the text
  pub reading : (s last : OrdinaryState Local) (es : List Event) (r t n : ℕ) (op : Op) (reply : Reply) (k : List ℕ → Plan) (next : Reply → Plan) → IsReached java_code start s → Leads java_code s es last → IsStringAt us s r → IsLiteral us r ⊎ (array_in s r ≢ 0)
      → n < steps_of_text (memory_of s) r → followed_by (memory_of s) n (reads_text us r k) ≡ want op next → MayAnswer last t op reply → next reply ≡ followed_by (memory_of s) (suc n) (reads_text us r k)
  pub read : (s : OrdinaryState Local) (t n : ℕ) (from l : Local) (r : ℕ) → IsReached java_code start s → s.threads t ≡ live from → quiet_steps java_code n from ≡ Some l → java_code.next l ≡ Want (Read r STRING_UNITS) → IsStringAt us s r
      → IsLiteral us r ⊎ (array_in s r ≢ 0)
  pub printed : (s : OrdinaryState Local) (t n : ℕ) (from l : Local) (a : ℕ) → IsReached java_code start s → s.threads t ≡ live from → quiet_steps java_code n from ≡ Some l → java_code.next l ≡ Want (Print (lines.Made a)) → IsArrayOfOne us s a
  -- what is printed is what the array has then and later
  pub line : (s last : OrdinaryState Local) (es : List Event) (t n : ℕ) (from l : Local) (a : ℕ) → IsReached java_code start s → Leads java_code s es last → s.threads t ≡ live from → quiet_steps java_code n from ≡ Some l → java_code.next l ≡ Want (Print (lines.Made a))
      → (i : ℕ) → last.words a i ≡ s.words a i
