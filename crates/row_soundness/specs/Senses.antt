-- What is known of references and words while threads go on.
use Rattle.std.specs.Prelude.{◌≡◌, ◌⊎◌, ◌<◌, ◌^◌, ℕ, Option, None}
use Rattle.op_core.specs.declared.Op.{Op}
use Rattle.op_core.specs.declared.Reply.{Reply}
use Rattle.link_types.specs.declared.types.ObjectType.{ObjectType}

-- a word of an object holds a number, or null and references to objects of a type
pub data Content : Type 0 where
  number : Content
  reference : ObjectType → Content

-- what a thread has of a text that it makes: a char array, and then its String too
pub data Making : Type 0 where
  filling : ℕ → Making
  naming : ℕ → ℕ → Making

-- Something is known of references in each state of knowledge, and it only grows.
pub record Sense (P : Type 0) : Type 1 where
  pub extends : P → P → Type 0
  -- words are known to be numbers of 32 bits
  pub exact : Type 0
  -- an initialized Thread may have this priority
  pub is_priority : ℕ → Type 0
  pub is_there : P → ℕ → Type 0
  -- an object of the type, initialized or not
  pub is_raw : P → ℕ → ObjectType → Type 0
  -- an initialized object of the type
  pub is_of : P → ℕ → ObjectType → Type 0
  -- an object of exactly this class and length
  pub is_exactly : P → ℕ → ℕ → ℕ → Type 0
  -- an initialized object of this class, which is below Throwable
  pub is_thrown : P → ℕ → ℕ → Type 0
  -- the object has a word at a place, which holds this
  pub has_word : P → ℕ → ℕ → Content → Type 0
  -- an array with the units of a String
  pub is_text : P → ℕ → Type 0
  -- an operation may be wanted, and a reply may come
  pub may_want : P → Op → Type 0
  pub may_come : P → Op → Reply → Type 0
  -- An operation may be wanted by a thread that has this of a text, and whatever reply may come, however much more is known
  -- by then, it comes to the last argument, which is asked what the thread then has of a text.
  pub steps : Option Making → P → Op → (Option Making → P → Reply → Type 0) → Type 0

-- the steps of a thread that keeps nothing of the texts that it makes apart
abbrev pub PlainSteps : {P : Type 0} → (P → P → Type 0) → (P → Op → Type 0) → (P → Op → Reply → Type 0) → Option Making → P → Op → (Option Making → P → Reply → Type 0) → Type 0
PlainSteps {P} extends may_want may_come m h op next = may_want h op × ((h' : P) (reply : Reply) → extends h h' → may_come h' op reply → next None h' reply)

module _ {P : Type 0} (know : Sense P) where
  abbrev pub IsWord : ℕ → Type 0
  IsWord v = know.exact → v < 2 ^ 32

  abbrev pub IsReference : P → ℕ → ObjectType → Type 0
  IsReference h v t = (v ≡ 0) ⊎ know.is_of h v t

  abbrev pub WordFits : P → ℕ → Content → Type 0
  WordFits h v number = IsWord v
  WordFits h v (reference t) = IsReference h v t
