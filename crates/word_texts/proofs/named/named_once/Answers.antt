use Rattle.std.proofs.Common.{sym, subst, eqb}
use Rattle.std.specs.List.Sorted.{IsStrictlyIncreasing}
use Rattle.std.proofs.lemmas.List.Filters.{dedup_is}
use Rattle.std.proofs.lemmas.List.Kept.{Contains-dedup_nat, Contains-from_dedup}
use Rattle.std.proofs.lemmas.List.Sorted.{Contains-permutation, IsPermutation-sym}
use Rattle.std.proofs.lemmas.Map.Keys.{IsStrictlyIncreasing-dedup}
use Rattle.word_texts.proofs.NamedLemmas.{AreNamed}
use Rattle.word_texts.proofs.named.named_once.Goals as goal

pub returns-clause-rising : goal.returns-clause-rising
returns-clause-rising c =
    let sorted = c.sort.new.self.items in
    let left = dedup_is eqb sorted c.dedup.new.self.items c.dedup.ensures.filtered in
    subst IsStrictlyIncreasing (sym left) (IsStrictlyIncreasing-dedup sorted c.in_ok-sort.ensures.sorted)

pub returns-clause-each : goal.returns-clause-each
returns-clause-each c =
    let arrays = c.in_ok-arrays.arrays.items in
    let sorted = c.sort.new.self.items in
    let left = dedup_is eqb sorted c.dedup.new.self.items c.dedup.ensures.filtered in
    let same = c.in_ok-sort.ensures.permutation in
    let are : AreNamed c.args.lines.now sorted = λ r. (
      λ there. (c.in_ok-arrays.ensures r).0 (Contains-permutation sorted arrays r (IsPermutation-sym arrays sorted same) there),
      λ there. Contains-permutation arrays sorted r same ((c.in_ok-arrays.ensures r).1 there),
    ) in
    subst (AreNamed c.args.lines.now) (sym left) (λ r.
    (λ there. (are r).0 (Contains-from_dedup eqb sorted r there), λ there. Contains-dedup_nat sorted r ((are r).1 there)))
