use Rattle.std.proofs.Common.{◌≡◌, ℕ, List, Option, unwrap_or, sym, ◌∙◌, nat_cmp, arith}
use Rattle.std.specs.BTreeMap.{get_by}
use Rattle.std.specs.Cmp.Lexicographic.{slice_cmp}
use Rattle.std.proofs.lemmas.Map.Text.{btree_map_updates_str}
use Rattle.class_supers.proofs.NumberLaws.{added}
use Rattle.class_supers.proofs.numbers.ClassNumbers.add.Goals as goal

pub returns-in_ok-insert-clause-ok : goal.returns-in_ok-insert-clause-ok
returns-in_ok-insert-clause-ok c = λ other.
    let old : List ℕ → Option ℕ = λ text. get_by (λ k. slice_cmp nat_cmp text k.now) c.args.self.now.numbers in
    let new : List ℕ → Option ℕ = λ text. get_by (λ k. slice_cmp nat_cmp text k.now) c.insert.new.self in
    let changes = btree_map_updates_str c.args.name.now c.args.self.now.numbers c.insert.new.self _ c.in_ok-insert.ensures.updates in
    let none : unwrap_or (old c.args.name.now) 0 ≡ 0 = sym c.number.ensures ∙ (omega arith) in
    added old new c.args.name.now c.args.number changes none other
