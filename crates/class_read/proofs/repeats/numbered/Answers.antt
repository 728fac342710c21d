use Rattle.std.proofs.Common.{◌≡◌, ◌+◌, ℕ, List, Option, Some, None, sym, ◌∙◌, nat_cmp}
use Rattle.std.specs.BTreeMap.{get_by}
use Rattle.std.specs.Cmp.Lexicographic.{slice_cmp}
use Rattle.std.proofs.lemmas.Map.Text.{btree_map_updates_str}
use Rattle.class_read.proofs.NumberLaws.{known_before, known_now, number_here, told_now}
use Rattle.class_read.proofs.repeats.numbered.Goals as goal

pub returns-in-Some : goal.returns-in-Some
returns-in-Some c = λ pool at knows.
    let known : List ℕ → Option ℕ = λ text. get_by (λ k. slice_cmp nat_cmp text k.now) c.args.numbers.now in
    let here : known c.args.text.now ≡ Some c.in-Some.number = sym c.get.ensures.value ∙ sym c.copied.ensures ∙ c.in-Some.is in
    (known_before known pool c.args.index c.args.text.now c.in-Some.number at knows here, number_here known pool c.args.index c.args.text.now c.in-Some.number knows here)

pub returns-in_ok-insert-in-None : goal.returns-in_ok-insert-in-None
returns-in_ok-insert-in-None c = λ pool at knows.
    let known : List ℕ → Option ℕ = λ text. get_by (λ k. slice_cmp nat_cmp text k.now) c.args.numbers.now in
    let next : List ℕ → Option ℕ = λ text. get_by (λ k. slice_cmp nat_cmp text k.now) c.insert.new.self in
    let changes = btree_map_updates_str c.args.text.now c.args.numbers.now c.insert.new.self _ c.in_ok-insert-in-None.ensures.updates in
    let new : known c.args.text.now ≡ None = sym c.get.ensures.value ∙ sym c.copied.ensures ∙ c.in-None.is in
    let knows_more = known_now known next pool c.args.index c.args.text.now at knows new changes in
    (knows_more, number_here next pool (c.args.index + 1) c.args.text.now c.args.index knows_more (told_now known next c.args.text.now c.args.index changes))
