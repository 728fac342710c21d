use Rattle.std.proofs.Common.{◌≡◌, ◌≤◌, ◌+◌, ◌++◌, ◌∷◌, [], ℕ, List, Option, Some, length, slice_get, sym, ◌∙◌, ap, subst, arith}
use Rattle.std.proofs.lemmas.List.{length_push}
use Rattle.class_walk.specs.declared.class.Constant.{Constant}
use Rattle.link_rules.specs.Classes.{NamedClass, classes_of, reference_at}
use Rattle.use_rules.specs.declared.members.MemberFacts.{MemberFacts}
use Rattle.use_rules.specs.Facts.{AreFactsOf}
use Rattle.use_rules.proofs.MemberLaws.{pushed, table_is, within_min}
use Rattle.use_rules.proofs.members.member_table.Goals as goal

pub loop-index-preserved : goal.loop-index-preserved
loop-index-preserved c =
    let pool : List Constant = c.args.unit.now.file.pool in
    let cs : List NamedClass = classes_of c.args.lookup.now.units in
    let P : ℕ → Option MemberFacts → Type 0 = λ i x. AreFactsOf cs c.args.place (reference_at pool i) x in
    let items = c.loop-index.table.items in
    let here = subst (λ i. P i c.member_at.result) (sym c.loop-index.invariant.0) c.member_at.ensures in
    rw c.in_ok-push.ensures.items (length_push items c.member_at.result ∙ ap (λ n. n + 1) c.loop-index.invariant.0, pushed P items c.member_at.result c.loop-index.invariant.1 here)

pub returns : goal.returns
returns c =
    let pool : List Constant = c.args.unit.now.file.pool in
    let cs : List NamedClass = classes_of c.args.lookup.now.units in
    let end = c.min-index-end.ensures ∙ ap (λ (p : List Constant). Rattle.std.proofs.Common.min (length p) 65536) c.as_slice.ensures in
    table_is cs c.args.place pool c.loop-index.table.items c.requires.unnamed c.loop-index.invariant.1
    (λ i ge le. within_min (length pool) c.min-index-end.result i end (omega (arith, ge, c.loop-index.invariant.0, c.loop-index-test.false)) le)
