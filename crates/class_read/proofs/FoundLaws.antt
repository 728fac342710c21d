-- The rules of attributes that may have a given name at most once.
use Rattle.std.proofs.Common.{◌≡◌, ℕ, ◌+◌, ◌≤◌, Bool, List, length, take, slice_get, Option, None, Some, Bor, refl, sym, ◌∙◌, ap, subst, find, is_some, option_copied}
use Rattle.std.specs.Option.{option_and_then}
use Rattle.std.proofs.lemmas.List.{take_all}
use Rattle.rules.specs.Rules.{Rules, HoldBelow, each}
use Rattle.class_pool.specs.declared.refusal.ReadRefusal.{ReadRefusal}
use Rattle.class_pool.specs.Answers.{Refuses}
use Rattle.rules.proofs.RuleLaws.{one_more}
use Rattle.class_pool.proofs.RuleLaws.{refuses_at}

-- the rules of each item, where an earlier one has passed the test or hasn't
abbrev pub rules_once : {X : Type 0} → (Bool → X → Rules ReadRefusal) → (X → Bool) → List X → ℕ → X → Rules ReadRefusal
rules_once rules test xs = λ i x. rules (is_some (find test (take i xs))) x

is_some_copied : {X : Type 0} (o : Option (Bor X)) → is_some (option_copied o) ≡ is_some o
is_some_copied None = refl
is_some_copied (Some x) = refl

-- where an item was found before is what the state says
pub earlier_is : {X : Type 0} (o : Option (Bor X)) (found : Option X) (earlier : Bool) → earlier ≡ is_some o → option_copied o ≡ found → earlier ≡ is_some found
earlier_is {X} o found earlier e same = e ∙ sym (is_some_copied o) ∙ ap (λ (p : Option X). is_some p) same

pub holds_below : {X : Type 0} (rules : Bool → X → Rules ReadRefusal) (test : X → Bool) (xs : List X) (i : ℕ) (x : X) (earlier : Bool) → slice_get xs i ≡ Some x → earlier ≡ is_some (find test (take i xs)) → (rules earlier x).Hold → HoldBelow (rules_once rules test xs) xs i → HoldBelow (rules_once rules test xs) xs (i + 1)
holds_below rules test xs i x earlier at e here below =
    let P : Bool → Type 0 = λ b. (rules b x).Hold in
    one_more (rules_once rules test xs) xs i x at below (subst P e here)

pub refuses_once : {X : Type 0} (rules : Bool → X → Rules ReadRefusal) (test : X → Bool) (xs : List X) (i : ℕ) (x : X) (earlier : Bool) (e : ReadRefusal) → slice_get xs i ≡ Some x → earlier ≡ is_some (find test (take i xs)) → HoldBelow (rules_once rules test xs) xs i → Refuses e (rules earlier x) → Refuses e (each (rules_once rules test xs) xs)
refuses_once rules test xs i x earlier e at same below refused =
    let P : Bool → Type 0 = λ b. Refuses e (rules b x) in
    refuses_at (rules_once rules test xs) xs i x e at below (subst P same refused)

pub found_all : {X : Type 0} (test : X → Bool) (xs : List X) (i : ℕ) (found : Option X) → length xs ≤ i → found ≡ find test (take i xs) → found ≡ find test xs
found_all {X} test xs i found le e = e ∙ ap (λ (ys : List X). find test ys) (take_all i xs le)

pub code_all : {X Y : Type 0} (make : X → Option Y) (test : X → Bool) (xs : List X) (i : ℕ) (code : Option Y) → length xs ≤ i → code ≡ option_and_then make (find test (take i xs)) → code ≡ option_and_then make (find test xs)
code_all {X} make test xs i code le e = e ∙ ap (λ (ys : List X). option_and_then make (find test ys)) (take_all i xs le)

pub some_all : {X Y : Type 0} (test : X → Bool) (xs : List X) (i : ℕ) (code : Option Y) → length xs ≤ i → is_some code ≡ is_some (find test (take i xs)) → is_some code ≡ is_some (find test xs)
some_all {X} test xs i code le e = e ∙ ap (λ (ys : List X). is_some (find test ys)) (take_all i xs le)
