use Rattle.std.proofs.Common.{ℕ, List, Option, nat_cmp}
use Rattle.std.specs.BTreeMap.{get_by}
use Rattle.std.specs.Cmp.Lexicographic.{slice_cmp}
use Rattle.std.proofs.lemmas.Map.Text.{btree_map_updates_str}
use Rattle.text_numbers.proofs.NumberLaws.{added}
use Rattle.text_numbers.proofs.insert.Goals as goal

pub returns-clause-ok : goal.returns-clause-ok
returns-clause-ok c = λ other.
    let old : List ℕ → Option ℕ = λ text. get_by (λ k. slice_cmp nat_cmp text k.now) c.args.numbers.now in
    let new : List ℕ → Option ℕ = λ text. get_by (λ k. slice_cmp nat_cmp text k.now) c.insert.new.self in
    added old new c.args.text.now c.args.number (btree_map_updates_str c.args.text.now c.args.numbers.now c.insert.new.self _ c.in_ok-insert.ensures.updates) other
