-- What is read at the front of words is what is there.
use Rattle.std.proofs.Common.{◌≡◌, ℕ, cond, List, [], ◌∷◌, Option, Some, None, Result, Ok, Err, refl, sym, ap, ◌∙◌, inl, inr}
use Rattle.std.specs.Str.{bytes_eq}
use Rattle.std.proofs.lemmas.Option.{same_Some}
use Rattle.assembler_lines.specs.declared.word.LineRefusal.{LineRefusal}
use Rattle.assembler_lines.specs.declared.word.LineRefusal.TheVariants.{Malformed, NoMemory}
use Rattle.assembler_lines.specs.declared.word.Word.{Word}
use Rattle.assembler_lines.specs.declared.word.Word.TheVariants.{Plain, Quoted}
use Rattle.assembler_lines.specs.Front.{◌>>=◌, Fails, Gives, Answers, plain_at, only, only_plain, only_word, behind}
use Rattle.class_names.proofs.Cases.{chosen}
use Rattle.assembler_lines.proofs.TextLaws.{text_same}

pub bound : {A B : Type 0} (o : Option A) (f : A → Option B) (y : B) → (o >>= f) ≡ Some y → (x : A) × (o ≡ Some x) × (f x ≡ Some y)
bound None f y e = absurd cc
bound (Some x) f y e = (x, refl, e)

pub plain_takes : (words : List Word) (x : List ℕ × List Word) → plain_at words ≡ Some x → words ≡ Plain x.0 ∷ x.1
plain_takes [] x e = absurd cc
plain_takes (Plain name ∷ words) x e = ap (λ (p : List ℕ × List Word). Plain p.0 ∷ p.1) (same_Some (name, words) x e)
plain_takes (Quoted units ∷ words) x e = absurd cc

pub alone_takes : {A : Type 0} (a : A) (words : List Word) (b : A) → only (a, words) ≡ Some b → (words ≡ []) × (a ≡ b)
alone_takes a [] b e = (refl, same_Some a b e)
alone_takes a (w ∷ words) b e = absurd cc

pub only_takes : (words : List Word) (name : List ℕ) → only_plain words ≡ Some name → words ≡ Plain name ∷ []
only_takes words name e =
    let b = bound (plain_at words) only name e in
    let p = plain_takes words b.0 b.1 in
    let a = alone_takes b.0.0 b.0.1 name b.2 in
    p ∙ (ap (λ (ws : List Word). Plain b.0.0 ∷ ws) a.0 ∙ ap (λ (n : List ℕ). Plain n ∷ []) a.1)

pub word_takes : (words : List Word) (said : Word) → only_word words ≡ Some said → words ≡ said ∷ []
word_takes [] said e = absurd cc
word_takes (w ∷ words) said e =
    let a = alone_takes w words said e in
    ap (λ (ws : List Word). w ∷ ws) a.0 ∙ ap (λ (x : Word). x ∷ []) a.1

pub behind_takes : (text : List ℕ) (words rest : List Word) → behind text words ≡ Some rest → words ≡ Plain text ∷ rest
behind_takes text words rest e =
    let b = bound (plain_at words) (λ (first : List ℕ × List Word). cond (bytes_eq first.0 text) (Some first.1) None) rest e in
    let p = plain_takes words b.0 b.1 in
    elim (chosen (bytes_eq b.0.0 text) (Some b.0.1) None (Some rest) b.2) [
      | inl t ↦ p ∙ (ap (λ (n : List ℕ). Plain n ∷ b.0.1) (text_same b.0.0 text t.0) ∙ ap (λ (ws : List Word). Plain text ∷ ws) (same_Some b.0.1 rest t.1))
      | inr t ↦ absurd (let none = t.1 in cc)
    ]

-- ---- what a function answers

refusal_is : {Y : Type 0} (refusal : LineRefusal) (read : Option Y) (y : Y) → Fails refusal read → read ≡ Some y → refusal ≡ NoMemory
refusal_is NoMemory read y f e = refl
refusal_is Malformed read y f e = absurd (let none = sym f ∙ e in cc)

-- a function that gives what is read answers what is said, where both are the same
pub answers : {Y : Type 0} (Says : Y → Type 0) (read : Option Y) (result : Result Y LineRefusal)
    → ((y : Y) → read ≡ Some y → Says y) → ((y : Y) → Says y → read ≡ Some y) → Gives (λ x. x) result read → Answers Says result
answers Says read (Ok x) takes again g = record { found = takes x g; only = λ y says. same_Some x y (sym g ∙ again y says) }
answers Says read (Err refusal) takes again g = record { found = tt; only = λ y says. refusal_is refusal read y g (again y says) }

-- a refusal, where nothing is said that isn't read
pub refuses : {X Y : Type 0} (Says : Y → Type 0) (read : Option X) (refusal : LineRefusal)
    → Fails refusal read → ((y : Y) → Says y → (x : X) × (read ≡ Some x)) → Answers Says (Err refusal)
refuses Says read refusal f again = record { found = tt; only = λ y says. let a = again y says in refusal_is refusal read a.0 f a.1 }
