use Rattle.std.proofs.Common.{refl, length, sym, subst}
use Rattle.std.proofs.lemmas.Option.{slice_get_read}
use Rattle.link_rules.specs.Classes.{classes_of}
use Rattle.link_members.specs.Members.{AreCandidates, is_answered}
use Rattle.link_implementations.proofs.OpenLaws.{found_open, none_more}
use Rattle.link_implementations.proofs.implementations.any_open.Goals as goal

pub returns-then-not-is_kept-clause-answer : goal.returns-then-not-is_kept-clause-answer
returns-then-not-is_kept-clause-answer c = λ ms is.
    let p = c.args.lookup.now in
    let items = c.args.candidates.now in
    let i = c.loop-its.its-index in
    let answered = is_answered c.args.asked (classes_of c.args.lookup.now.units) c.args.class in
    let at = slice_get_read items (length items) c.loop-its.its-index c.its-item.result refl c.loop-its-test.true c.its-item.is in
    sym (found_open answered p ms items i c.its-item.result c.is_kept.result is at (λ m are. c.is_kept.ensures.answer m (subst (AreCandidates p m) (sym c.methods.ensures) are)) c.if-not-is_kept.true)

pub loop-its-preserved : goal.loop-its-preserved
loop-its-preserved c = (
  c.is_kept.ensures.memo,
  λ ms is.
      let p = c.args.lookup.now in
      let items = c.args.candidates.now in
      let i = c.loop-its.its-index in
      let answered = is_answered c.args.asked (classes_of c.args.lookup.now.units) c.args.class in
      let at = slice_get_read items (length items) c.loop-its.its-index c.its-item.result refl c.loop-its-test.true c.its-item.is in
      none_more answered p ms items i c.its-item.result c.is_kept.result is at (λ m are. c.is_kept.ensures.answer m (subst (AreCandidates p m) (sym c.methods.ensures) are)) c.if-not-is_kept.false
      (c.loop-its.invariant.1 ms is),
)
