-- Stack map frames, as they are written (JVMS 4.7.4).
use Rattle.std.specs.Prelude.{◌≡◌, ◌≢◌, ℕ, ◌<◌, List, [], ◌∷◌, ◌++◌, length, codes}
use Rattle.assembler_lines.specs.declared.word.Word.{Word}
use Rattle.assembler_lines.specs.declared.word.Word.TheVariants.{Plain}
use Rattle.assembler_lines.specs.declared.frame.FrameItem.{FrameItem}
use Rattle.assembler_lines.specs.declared.frame.FrameItem.TheVariants.{Top, Int, Long, Null, This, New, Class}
use Rattle.assembler_lines.specs.Words.{word}

-- new:, and a label of one byte or more
abbrev pub IsNew : List ℕ → List ℕ → Type 0
IsNew written label = (written ≡ codes "new:" ++ label) × (0 < length label)

-- a word that is no other item, and doesn't part the locals from the stack
pub record IsClassItem (name : List ℕ) : Type 0 where
  pub not_top : name ≢ codes "top"
  pub not_int : name ≢ codes "int"
  pub not_long : name ≢ codes "long"
  pub not_null : name ≢ codes "null"
  pub not_this : name ≢ codes "this"
  pub not_new : (label : List ℕ) → ¬ IsNew name label
  pub not_slash : name ≢ codes "/"

abbrev pub IsItem : Word → FrameItem → Type 0
IsItem said Top = said ≡ word "top"
IsItem said Int = said ≡ word "int"
IsItem said Long = said ≡ word "long"
IsItem said Null = said ≡ word "null"
IsItem said This = said ≡ word "this"
IsItem said (New label) = (written : List ℕ) × (said ≡ Plain written) × IsNew written label
IsItem said (Class name) = (said ≡ Plain name) × IsClassItem name

abbrev pub AreItems : List Word → List FrameItem → Type 0
AreItems words [] = words ≡ []
AreItems words (item ∷ items) = (said : Word) × (others : List Word) × (words ≡ said ∷ others) × IsItem said item × AreItems others items

-- the locals, a slash, and the operands on the stack
pub record IsFrame (words : List Word) (locals stack : List FrameItem) : Type 0 where
  pub before : List Word
  pub behind : List Word
  pub spelled : words ≡ word "frame" ∷ (before ++ word "/" ∷ behind)
  pub locals_are : AreItems before locals
  pub stack_are : AreItems behind stack
