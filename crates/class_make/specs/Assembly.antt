-- What a text stands for: the file of a class, or the number of the first line that is refused.
use Rattle.std.specs.Prelude.{◌≡◌, ℕ, List, [], ◌∷◌, Option, Some, None, Result, Ok, Err}
use Rattle.class_walk.specs.declared.class.Constant.{Constant}
use Rattle.class_walk.specs.declared.class.Constant.TheVariants.{Gap}
use Rattle.class_walk.specs.declared.class.RawClass.{RawClass}
use Rattle.class_walk.specs.Layout.{spelling}
use Rattle.assembler_text.specs.declared.lines.Numbered.{Numbered}
use Rattle.assembler_bodies.specs.declared.refusal.BodyRefusal.{BodyRefusal}
use Rattle.assembler_bodies.specs.declared.refusal.BodyRefusal.TheVariants as full
use Rattle.assembler_bodies.specs.declared.refusal.BodyRefusal.TheVariants.{Refused}
use Rattle.class_make.specs.declared.refusal.MakeRefusal.{MakeRefusal}
use Rattle.class_make.specs.declared.refusal.MakeRefusal.TheVariants.{Line, NoMemory}
use Rattle.class_make.specs.Class.{MadeClass, State, before_class, outside, superclass, step}

-- a class file of version 52 (JVMS 4.1)
abbrev pub class_of : MadeClass → List Constant → ℕ → RawClass
class_of class pool super_class = record {
  minor = 0;
  major = 52;
  pool = pool;
  flags = class.flags;
  this_class = class.this_class;
  super_class = super_class;
  interfaces = class.interfaces;
  fields = class.fields;
  methods = class.methods;
  attributes = [];
}

abbrev pub with_super : MadeClass → Option (List Constant × ℕ) → Option RawClass
with_super class None = None
with_super class (Some x) = Some (class_of class x.0 x.1)

-- the class at a text's end, where one was begun and no body is open
abbrev pub finished : State → List Constant → Option RawClass
finished (outside class) pool = with_super class (superclass class.super_class pool)
finished _ pool = None

abbrev pub spelled : ℕ → Option RawClass → Result (List ℕ) ℕ
spelled behind None = Err behind
spelled behind (Some class) = Ok (spelling class)

abbrev pub goes_on : ℕ → Option (List Constant × State) → (List Constant → State → Result (List ℕ) ℕ) → Result (List ℕ) ℕ
goes_on number None next = Err number
goes_on number (Some x) next = next x.0 x.1

-- the lines from a state on, with the number of the line after the last
abbrev pub assembled_from : ℕ → List Numbered → List Constant → State → Result (List ℕ) ℕ
assembled_from behind [] pool state = spelled behind (finished state pool)
assembled_from behind (numbered ∷ lines) pool state =
    goes_on numbered.number (step lines numbered state pool) (λ p s. assembled_from behind lines p s)

abbrev pub assembled : ℕ → List Numbered → Result (List ℕ) ℕ
assembled behind lines = assembled_from behind lines (Gap ∷ []) before_class

-- why a text is refused at a line
abbrev pub refusal_at : ℕ → BodyRefusal → MakeRefusal
refusal_at number Refused = Line number
refusal_at number full.NoMemory = NoMemory

-- What a function returned is that, unless memory ran out.
abbrev pub Answers : {Z : Type 0} → Result Z MakeRefusal → (Z → List ℕ) → Result (List ℕ) ℕ → Type 0
Answers (Ok bytes) items wanted = wanted ≡ Ok (items bytes)
Answers (Err (Line number)) items wanted = wanted ≡ Err number
Answers (Err NoMemory) items wanted = Unit {0}
