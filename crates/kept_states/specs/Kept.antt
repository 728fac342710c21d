-- What is kept along a list in which undoing is seen, of local states, of words and of objects, where it is
-- closed under the code's steps. Any thread code.
use Rattle.std.specs.Prelude.{◌≡◌, ◌<◌, ◌^◌, ℕ, Option, Some, List, length}
use Rattle.op_core.specs.declared.Op.{Op}
use Rattle.op_core.specs.declared.Op.TheVariants.{ClassOf, Read, Write, New, Start}
use Rattle.op_core.specs.declared.Reply.{Reply}
use Rattle.op_core.specs.declared.Reply.TheVariants.{Class, Value, Made}
use Rattle.op_core.specs.declared.Next.TheVariants.{Silent, Want}
use Rattle.op_core.specs.Replies.{Fits}
use Rattle.op_core.specs.ThreadCode.{Code}
use Rattle.op_core.specs.OrdinaryState.{Object, live, OrdinaryState, OnlyObjectsHaveWords}
use Rattle.op_core.specs.InPlaceList.{Entry, IsInPlaceList}
use Rattle.op_core.specs.Orderly.{IsEnd}

abbrev pub Objects : Type 0
Objects = ℕ → Option Object

abbrev pub Extends : Objects → Objects → Type 0
Extends h h' = (r : ℕ) (o : Object) → h r ≡ Some o → h' r ≡ Some o

-- an object of the class and length is at the reference, and is one that may be there (O)
pub record IsObject (O : ℕ → Object → Type 0) (h : Objects) (r c n : ℕ) : Type 0 where
  pub object : Object
  pub there : h r ≡ Some object
  pub class : object.class ≡ c
  pub length : object.length ≡ n
  pub stands : O r object

-- a reply says what is true; W says which word may be at a place of an object
abbrev pub IsTrueReply : (O : ℕ → Object → Type 0) (W : Objects → ℕ → ℕ → ℕ → Type 0) → Objects → Op → Reply → Type 0
IsTrueReply O W h (ClassOf r) (Class c n) = IsObject O h r c n
IsTrueReply O W h (Read r i) (Value v) = W h r i v
IsTrueReply O W h (New c n) (Made r) = IsObject O h r c n
IsTrueReply O W h op reply = Fits op reply

pub record Keeps {S : Type 0} (code : Code S) (P : Objects → S → Type 0) (W : Objects → ℕ → ℕ → ℕ → Type 0) (O : ℕ → Object → Type 0) : Type 0 where
  pub more : (h h' : Objects) (l : S) → Extends h h' → P h l → P h' l
  pub words_more : (h h' : Objects) (r i v : ℕ) (o : Object) → h r ≡ Some o → Extends h h' → W h r i v → W h' r i v
  pub zero_stands : (h : Objects) (r i : ℕ) → W h r i 0
  pub silent : (h : Objects) (l : S) → P h l → code.next l ≡ Silent → P h (code.silent l)
  pub reply : (h h' : Objects) (l : S) (op : Op) (reply : Reply) → P h l → code.next l ≡ Want op → (IsEnd op → ⊥) → Extends h h' → IsTrueReply O W h' op reply → P h' (code.reply l reply)
  pub child : (h : Objects) (l : S) (r p : ℕ) → P h l → code.next l ≡ Want (Start r p) → P h (code.child l r)
  pub writes : (h : Objects) (l : S) (r i v : ℕ) → P h l → code.next l ≡ Want (Write r i v) → W h r i v
  pub makes : (h : Objects) (l : S) (c n r : ℕ) → P h l → code.next l ≡ Want (New c n) → 0 < r → r < 2 ^ 32 → O r (record { class = c; length = n; words = code.words l c n })

pub record IsKeptState {S : Type 0} (P : Objects → S → Type 0) (W : Objects → ℕ → ℕ → ℕ → Type 0) (O : ℕ → Object → Type 0) (s : OrdinaryState S) : Type 0 where
  pub objects : (r : ℕ) (o : Object) → s.objects r ≡ Some o → O r o
  pub words : (r i : ℕ) → W s.objects r i (s.words r i)
  pub absent : OnlyObjectsHaveWords s
  pub threads : (t : ℕ) (l : S) → s.threads t ≡ live l → P s.objects l

-- then each state of such a list is kept
abbrev pub ListsKeep : {S : Type 0} → Code S → Type 1
ListsKeep {S} code = (P : Objects → S → Type 0) (W : Objects → ℕ → ℕ → ℕ → Type 0) (O : ℕ → Object → Type 0) → Keeps code P W O
    → (s : ℕ → OrdinaryState S) (es : List Entry) → IsKeptState P W O (s 0) → IsInPlaceList code s es → IsKeptState P W O (s (length es))
