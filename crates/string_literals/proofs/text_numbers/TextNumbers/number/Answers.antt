use Rattle.std.proofs.Common.{◌≡◌, ◌∙◌, ◌++◌, ◌∷◌, [], ℕ, List, Option, Some, None, length, ap, sym, subst, bytes_eq, string_bytes, arith}
use Rattle.std.specs.List.{position_from}
use Rattle.std.specs.Map.{update}
use Rattle.std.specs.BTreeMap.{get_by_text}
use Rattle.std.proofs.lemmas.Map.Text.{btree_map_updates_text}
use Rattle.string_literals.specs.Texts.{HasNumber}
use Rattle.string_literals.proofs.TextLaws.{known_already, text_is_new, new_number, numbers_push}
use Rattle.string_literals.proofs.text_numbers.TextNumbers.number.Goals as goal

pub returns-in-Some-clause-texts : goal.returns-in-Some-clause-texts
returns-in-Some-clause-texts c =
    let has : HasNumber c.self.inside.texts.items c.as_str.result.now c.in-Some.number.now = sym (c.self.invariant c.as_str.result.now) ∙ sym c.in-Some.ensures.value in
    known_already c.args.self.now c.args.text c.in-Some.number.now
    (subst (λ xs. HasNumber xs c.args.text c.in-Some.number.now) c.self.view_is (subst (λ t. HasNumber c.self.inside.texts.items t c.in-Some.number.now) c.as_str.ensures has))

pub invariant_of-self-in_default-insert : goal.invariant_of-self-in_default-insert
invariant_of-self-in_default-insert c =
    let known = c.self.inside.texts.items in
    let none : position_from (bytes_eq c.as_str.result.now) 0 c.self.inside.texts.items ≡ None = sym (c.self.invariant c.as_str.result.now) ∙ sym c.in_default.ensures.value in
    let here : position_from (bytes_eq c.args.text) 0 c.self.inside.texts.items ≡ None = subst (λ t. position_from (bytes_eq t) 0 c.self.inside.texts.items ≡ None) c.as_str.ensures none in
    let key : string_bytes c.in_ok-key.key ≡ c.args.text = c.in_ok-key.ensures.ok ∙ c.as_str-2.ensures in
    let count : c.len-number.result ≡ length c.self.inside.texts.items = omega (arith, c.self.inside.texts.ok.0) in
    let old : List ℕ → Option ℕ = get_by_text c.self.inside.numbers in
    let new : List ℕ → Option ℕ = get_by_text c.insert.new.self in
    let changes = btree_map_updates_text (string_bytes c.in_ok-key.key) c.self.inside.numbers c.insert.new.self _ c.in_default-insert.ensures.updates in
    λ q.
    numbers_push (get_by_text c.self.inside.numbers) (get_by_text c.insert.new.self) c.self.inside.texts.items c.args.text c.len-number.result
    (λ r. changes r ∙ ap (λ t. update bytes_eq (get_by_text c.self.inside.numbers) t (Some c.len-number.result) r) key)
    c.self.invariant count here q
    ∙ ap (position_from (bytes_eq q) 0) (sym c.in_ok-push.ensures.items)

pub returns-clause-texts : goal.returns-clause-texts
returns-clause-texts c =
    let none : position_from (bytes_eq c.as_str.result.now) 0 c.self.inside.texts.items ≡ None = sym (c.self.invariant c.as_str.result.now) ∙ sym c.in_default.ensures.value in
    let none_there : position_from (bytes_eq c.args.text) 0 c.args.self.now ≡ None =
    subst (λ xs. position_from (bytes_eq c.args.text) 0 xs ≡ None) c.self.view_is (subst (λ t. position_from (bytes_eq t) 0 c.self.inside.texts.items ≡ None) c.as_str.ensures none) in
    c.in_ok-push.ensures.items ∙ ap (λ xs. xs ++ c.args.text ∷ []) c.self.view_is ∙ text_is_new c.args.self.now c.args.text none_there

pub returns-clause-number : goal.returns-clause-number
returns-clause-number c =
    let none : position_from (bytes_eq c.as_str.result.now) 0 c.self.inside.texts.items ≡ None = sym (c.self.invariant c.as_str.result.now) ∙ sym c.in_default.ensures.value in
    let here : position_from (bytes_eq c.args.text) 0 c.self.inside.texts.items ≡ None = subst (λ t. position_from (bytes_eq t) 0 c.self.inside.texts.items ≡ None) c.as_str.ensures none in
    let count : length c.self.inside.texts.items ≡ c.len-number.result = omega (arith, c.self.inside.texts.ok.0) in
    subst (λ n. HasNumber c.push.new.self.items c.args.text n) count
    (subst (λ xs. HasNumber xs c.args.text (length c.self.inside.texts.items)) (sym c.in_ok-push.ensures.items) (new_number c.self.inside.texts.items c.args.text here))
