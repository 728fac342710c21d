-- More names after others.
use Rattle.std.proofs.Common.{◌≡◌, ℕ, List, [], ◌∷◌, ◌++◌, append_assoc, append-nil, subst, sym, refl, ap, ◌∙◌, Option, None, Some, filter_map, option_to_list}
use Rattle.std.specs.List.{cons_option}
use Rattle.class_names.specs.declared.kind.Kind.{Kind}
use Rattle.link_rules.specs.Descriptors.{class_of_kind}
use Rattle.named_types.specs.declared.others.ClassNames.{ClassNames}
use Rattle.named_types.specs.Others.{AreNames, HasMore}

pub none_more : (names : ClassNames) → HasMore names names []
none_more names known are = subst (AreNames names) (sym (append-nil known)) are

pub then_more : (old middle new : ClassNames) (some more : List (List ℕ)) → HasMore old middle some → HasMore middle new more → HasMore old new (some ++ more)
then_more old middle new some more first later names are =
    subst (AreNames new) (append_assoc names some more) (later (names ++ some) (first names are))

joined : {A : Type 0} (o : Option A) (xs : List A) → cons_option o xs ≡ option_to_list o ++ xs
joined None xs = refl
joined (Some x) xs = refl

-- those of one kind, and then those of the others
pub more_kinds : (old next last : ClassNames) (kind : Kind) (kinds rest : List Kind) → kinds ≡ kind ∷ rest → HasMore old next (option_to_list (class_of_kind kind)) → HasMore next last (filter_map class_of_kind rest) → HasMore old last (filter_map class_of_kind kinds)
more_kinds old next last kind kinds rest is first later =
    let both = then_more old next last (option_to_list (class_of_kind kind)) (filter_map class_of_kind rest) first later in
    subst (λ ks. HasMore old last (filter_map class_of_kind ks)) (sym is)
    (subst (HasMore old last) (sym (joined (class_of_kind kind) (filter_map class_of_kind rest))) both)

-- what a function gives of the first of some items, and then of the others
pub item_taken : {A B : Type 0} (f : A → Option B) (done : List B) (x : A) (xs rest : List A) (y : B) → xs ≡ x ∷ rest → f x ≡ Some y → done ++ filter_map f xs ≡ (done ++ y ∷ []) ++ filter_map f rest
item_taken f done x xs rest y is gives =
    ap (λ l. done ++ filter_map f l) is ∙ ap (λ o. done ++ cons_option o (filter_map f rest)) gives ∙ sym (append_assoc done (y ∷ []) (filter_map f rest))

pub item_passed : {A B : Type 0} (f : A → Option B) (done : List B) (x : A) (xs rest : List A) → xs ≡ x ∷ rest → f x ≡ None → done ++ filter_map f xs ≡ done ++ filter_map f rest
item_passed f done x xs rest is gives =
    ap (λ l. done ++ filter_map f l) is ∙ ap (λ o. done ++ cons_option o (filter_map f rest)) gives
