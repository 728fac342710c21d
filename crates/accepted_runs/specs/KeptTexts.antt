-- What each state of an execution keeps of texts.
use Rattle.std.specs.Prelude.{◌≡◌, ◌≢◌, ◌⊎◌, ℕ, Bool, true, Option, None, Some, List}
use Rattle.builtin_world.specs.declared.word.TheConstants.{STRING_UNITS}
use Rattle.code_decode.specs.declared.code.ClassUnit.{ClassUnit}
use Rattle.op_core.specs.OrdinaryState.{Object, OrdinaryState, live, unused}
use Rattle.java_rows.specs.Thread.{Local}
use Rattle.kept_states.specs.Kept.{Extends}
use Rattle.row_soundness.specs.Senses.{filling, naming}
use Rattle.row_soundness.specs.Fits.{Preceding, a_text, anything, LocalFits, IsTheEnd}
use Rattle.row_soundness.specs.Runs.{fixed_of}
use Rattle.accepted_runs.specs.KnownTexts.{HoldsPlain, IsCharArray, IsString, Seen, text_sense}

-- what is known in a state, where these are the arrays of texts
abbrev pub seen_in : (us : List ClassUnit) (s : OrdinaryState Local) (texts : ℕ → Bool) → Extends (fixed_of us) s.objects → ((r : ℕ) (o : Object) → fixed_of us r ≡ Some o → texts r ≡ true → ⊥) → Seen us
seen_in us s texts fixed begun = record { known = record { objects = s.objects; fixed = fixed }; texts = texts; units = λ r. s.words r STRING_UNITS; begun = begun }

-- the array of a text that is there
pub record IsArray (us : List ClassUnit) (s : OrdinaryState Local) (r : ℕ) : Type 0 where
  pub object : Object
  pub there : s.objects r ≡ Some object
  pub class : IsCharArray us object.class

-- an array that no String has
abbrev pub IsUnnamed : List ClassUnit → OrdinaryState Local → ℕ → Type 0
IsUnnamed us s r = (q : ℕ) (o : Object) → s.objects q ≡ Some o → IsString us o.class ≡ true → s.words q STRING_UNITS ≢ r

-- a new String, which has no array yet, and wasn't there from the start
pub record IsNew (us : List ClassUnit) (s : OrdinaryState Local) (r : ℕ) : Type 0 where
  pub object : Object
  pub there : s.objects r ≡ Some object
  pub class : IsString us object.class ≡ true
  pub empty : s.words r STRING_UNITS ≡ 0
  pub fresh : (o : Object) → fixed_of us r ≡ Some o → ⊥

-- what a thread has of a text that it makes
abbrev pub MakingFits : List ClassUnit → (s : OrdinaryState Local) → (ℕ → Bool) → Preceding → Type 0
MakingFits us s texts (a_text (filling r)) = (texts r ≡ true) × IsUnnamed us s r
MakingFits us s texts (a_text (naming r q)) = (texts r ≡ true) × (IsUnnamed us s r × IsNew us s q)
MakingFits us s texts b = Unit {0}

abbrev pub array_of : Preceding → Option ℕ
array_of (a_text (filling r)) = Some r
array_of (a_text (naming r q)) = Some r
array_of b = None

abbrev pub string_of : Preceding → Option ℕ
string_of (a_text (naming r q)) = Some q
string_of b = None

-- two threads don't make the same text
pub record AreApart (b c : Preceding) : Type 0 where
  pub arrays : (r : ℕ) → array_of b ≡ Some r → array_of c ≡ Some r → ⊥
  pub strings : (q : ℕ) → string_of b ≡ Some q → string_of c ≡ Some q → ⊥

-- a local state that fits what is known
pub record SeenLocal (us : List ClassUnit) (h : Seen us) (b : Preceding) (l : Local) : Type 0 where
  pub fits : LocalFits (text_sense us) us b h l
  pub goes : IsTheEnd b → ⊥

-- Some char arrays are those of texts. A String has none or one of these. They are in no frame and in no other word, but in
-- the hands of the one thread that makes the text and hasn't named it yet.
pub record IsSeen (us : List ClassUnit) (s : OrdinaryState Local) : Type 0 where
  pub fixed : Extends (fixed_of us) s.objects
  pub texts : ℕ → Bool
  pub begun : (r : ℕ) (o : Object) → fixed_of us r ≡ Some o → texts r ≡ true → ⊥
  pub arrays : (r : ℕ) → texts r ≡ true → IsArray us s r
  pub strings : (r : ℕ) (o : Object) → s.objects r ≡ Some o → IsString us o.class ≡ true → (s.words r STRING_UNITS ≡ 0) ⊎ (texts (s.words r STRING_UNITS) ≡ true)
  -- a literal has none
  pub literals : (r : ℕ) (o : Object) → fixed_of us r ≡ Some o → IsString us o.class ≡ true → s.words r STRING_UNITS ≡ 0
  pub words : (r i : ℕ) → HoldsPlain us (seen_in us s texts fixed begun) r i (s.words r i)
  -- what comes before the plan of each thread
  pub preceding : ℕ → Preceding
  pub idle : (t : ℕ) → s.threads t ≡ unused → preceding t ≡ anything
  pub threads : (t : ℕ) (l : Local) → s.threads t ≡ live l → SeenLocal us (seen_in us s texts fixed begun) (preceding t) l
  pub making : (t : ℕ) → MakingFits us s texts (preceding t)
  pub apart : (t u : ℕ) → t ≢ u → AreApart (preceding t) (preceding u)
