-- What a text is in a state of objects and words, and that the methods read and join these texts where no other thread writes.
use Rattle.std.specs.Prelude.{◌≡◌, ℕ, zero, suc, ◌+◌, ◌==◌, List, [], ◌∷◌, ◌++◌, length, if◌then◌else◌}
use Rattle.builtin_world.specs.declared.word.TheConstants.{STRING_UNITS}
use Rattle.code_decode.specs.declared.code.ClassUnit.{ClassUnit}
use Rattle.op_core.specs.declared.Op.{Op}
use Rattle.op_core.specs.declared.Op.TheVariants.{ClassOf, Read}
use Rattle.op_core.specs.declared.Reply.{Reply}
use Rattle.op_core.specs.declared.Reply.TheVariants.{Class, Value}
use Rattle.java_rows.specs.Numbers.{char_of}
use Rattle.java_rows.specs.Plan.{Plan, want, silently, calls, ready, over, stuck}
use Rattle.java_rows.specs.Units.{literal_units}
use Rattle.java_rows.specs.Texts.{reads_units, reads_text}

-- what is read of objects: classes, lengths and words
pub record Memory : Type 0 where
  pub class : ℕ → ℕ
  pub length : ℕ → ℕ
  pub words : ℕ → ℕ → ℕ

-- n units of an array from a place on
abbrev pub units_from : Memory → ℕ → ℕ → ℕ → List ℕ
units_from m array i zero = []
units_from m array i (suc n) = char_of (m.words array i) ∷ units_from m array (suc i) n

-- the text of a String: of a literal by its number, else the units of its array
abbrev pub text_in : List ClassUnit → Memory → ℕ → List ℕ
text_in us m s =
    if m.words s STRING_UNITS == 0 then literal_units us (m.length s)
    else units_from m (m.words s STRING_UNITS) 0 (m.length (m.words s STRING_UNITS))

-- one reply, or one silent step, in a memory that stays
abbrev pub followed_op : Memory → Op → (Reply → Plan) → Plan → Plan
followed_op m (Read r i) k same = k (Value (m.words r i))
followed_op m (ClassOf r) k same = k (Class (m.class r) (m.length r))
followed_op m _ k same = same

abbrev pub followed : Memory → Plan → Plan
followed m (want op k) = followed_op m op k (want op k)
followed m (silently plan) = plan
followed m plan = plan

abbrev pub followed_by : Memory → ℕ → Plan → Plan
followed_by m zero plan = plan
followed_by m (suc n) plan = followed_by m n (followed m plan)

-- how many replies and silent steps reading the text takes
abbrev pub steps_of_text : Memory → ℕ → ℕ
steps_of_text m s =
    if m.words s STRING_UNITS == 0 then 2 else suc (suc (suc (m.length (m.words s STRING_UNITS))))

abbrev pub TextsAreRead : Type 0
TextsAreRead = (us : List ClassUnit) (m : Memory) (s : ℕ) (k : List ℕ → Plan)
    → followed_by m (steps_of_text m s) (reads_text us s k) ≡ k (text_in us m s)
