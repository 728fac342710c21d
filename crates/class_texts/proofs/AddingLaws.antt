-- Numbers that were given stay.
use Rattle.std.proofs.Common.{◌≡◌, ◌≢◌, ◌+◌, ◌<◌, ◌≤◌, ℕ, List, Option, None, Some, get_or, length, map, slice_get, refl, sym, ◌∙◌, subst}
use Rattle.std.specs.Option.{option_map}
use Rattle.std.proofs.lemmas.Option.{slice_get-get_or, slice_get-map, same_Some}
use Rattle.rules.specs.Rules.{must}
use Rattle.rules.proofs.RuleLaws.{one_more, all_hold}
use Rattle.builtin_world.specs.BuiltinClass.{ClassRow}
use Rattle.builtin_world.specs.Library.{Method}
use Rattle.text_numbers.specs.Numbers.{number_of}
use Rattle.class_texts.specs.Texts.{Extends, KnowsMethod, KnowsMethods, KnowsClasses}

pub some_stays : (old new : List (List ℕ)) (text : List ℕ) → Extends old new → number_of old text ≢ 0 → number_of new text ≢ 0
some_stays old new text kept some = λ z. some (sym (kept text some) ∙ z)

pub both_extend : (old mid new : List (List ℕ)) → Extends old mid → Extends mid new → Extends old new
both_extend old mid new first second = λ text some. second text (some_stays old mid text first some) ∙ first text some

pub method_stays : (old new : List (List ℕ)) (m : Method) → Extends old new → KnowsMethod old m → KnowsMethod new m
method_stays old new m kept known = record {
  name = some_stays old new m.name kept known.name;
  descriptor = some_stays old new m.descriptor kept known.descriptor;
}

pub methods_stay : (old new : List (List ℕ)) (ms : List Method) → Extends old new → KnowsMethods old ms → KnowsMethods new ms
methods_stay old new ms kept known = λ i m at. method_stays old new m kept (known i m at)

pub classes_stay : (old new : List (List ℕ)) (rs : List ClassRow) → Extends old new → KnowsClasses old rs → KnowsClasses new rs
classes_stay old new rs kept known = λ i r at. methods_stay old new r.methods kept (known i r at)

-- what holds of all that a list is made of
pub each_made : {X Y : Type 0} (P : Y → Type 0) (f : X → Y) (xs : List X) → ((i : ℕ) (x : X) → slice_get xs i ≡ Some x → P (f x)) → (i : ℕ) (y : Y) → slice_get (map f xs) i ≡ Some y → P y
each_made {X} {Y} P f xs holds i y at = go (slice_get xs i) refl (sym (slice_get-map f xs i) ∙ at)
  where
    go : (o : Option X) → slice_get xs i ≡ o → option_map f o ≡ Some y → P y
    go None is e = absurd cc
    go (Some x) is e = subst P (same_Some (f x) y e) (holds i x is)

-- what holds of the items of a list, one item after the other
pub one_more_holds : {X : Type 0} (P : X → Type 0) (xs : List X) (i : ℕ) (d : X) → i < length xs
    → ((k : ℕ) (x : X) → k < i → slice_get xs k ≡ Some x → P x) → P (get_or xs i d) → (k : ℕ) (x : X) → k < i + 1 → slice_get xs k ≡ Some x → P x
one_more_holds P xs i d lt below here = one_more {E = ℕ} (λ k x. must (P x) 0) xs i (get_or xs i d) (slice_get-get_or xs i d lt) below here

pub holds_of_all : {X : Type 0} (P : X → Type 0) (xs : List X) (end : ℕ) → length xs ≤ end
    → ((k : ℕ) (x : X) → k < end → slice_get xs k ≡ Some x → P x) → (k : ℕ) (x : X) → slice_get xs k ≡ Some x → P x
holds_of_all P xs end le below = all_hold {E = ℕ} (λ k x. must (P x) 0) xs end le below
