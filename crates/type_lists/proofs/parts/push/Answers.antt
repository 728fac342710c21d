use Rattle.std.proofs.Common.{◌≡◌, take, length, sym, ap, subst, ◌∙◌, arith}
use Rattle.type_lists.specs.Marks.{AreMarked, Covers}
use Rattle.type_lists.proofs.PartLaws.{pushed_closed}
use Rattle.type_lists.proofs.MarkLaws.{cut_length, cut_marked, cut_covers, longer_marked, pushed_marked}
use Rattle.type_lists.proofs.parts.push.Goals as goal

pub returns-clause-closed : goal.returns-clause-closed
returns-clause-closed c = pushed_closed c.args.parts.now.items c.push-2.new.self.items c.args.part c.in_ok-push-2.ensures.items c.requires.closed c.requires.children

pub returns-in_err-push-clause-marked : goal.returns-in_err-push-clause-marked
returns-in_err-push-clause-marked c =
    let parts = c.args.parts.now.items in
    let marks = c.args.marks.now.items in
    let count : c.len-2.result ≡ length parts = omega (arith, c.len-2.ensures) in
    let cut = c.truncate.ensures.items ∙ ap (λ n. take n marks) count in
    cut_marked parts marks c.push.new.self.items (c.in_err-push.ensures.items ∙ cut) c.requires.closed c.requires.marked

pub returns-in_err-push-2-clause-marked : goal.returns-in_err-push-2-clause-marked
returns-in_err-push-2-clause-marked c =
    let parts = c.args.parts.now.items in
    let marks = c.args.marks.now.items in
    let count : c.len-2.result ≡ length parts = omega (arith, c.len-2.ensures) in
    let cut = c.truncate.ensures.items ∙ ap (λ n. take n marks) count in
    subst (λ ps. AreMarked ps c.push.new.self.items) (sym c.in_err-push-2.ensures.items)
    (longer_marked parts c.truncate.new.self.items c.push.new.self.items c.mark_for-mark.result c.in_ok-push.ensures.items c.requires.closed
    (cut_marked parts marks c.truncate.new.self.items cut c.requires.closed c.requires.marked))

pub returns-clause-marked : goal.returns-clause-marked
returns-clause-marked c =
    let parts = c.args.parts.now.items in
    let marks = c.args.marks.now.items in
    let count : c.len-2.result ≡ length parts = omega (arith, c.len-2.ensures) in
    let cut = c.truncate.ensures.items ∙ ap (λ n. take n marks) count in
    pushed_marked parts c.truncate.new.self.items c.push.new.self.items c.mark_for-mark.result c.in_ok-push.ensures.items c.requires.closed
    (cut_marked parts marks c.truncate.new.self.items cut c.requires.closed c.requires.marked)
    c.push-2.new.self.items c.args.part c.in_ok-push-2.ensures.items
    (cut_length parts marks c.truncate.new.self.items cut c.requires.marked) c.requires.children
    (cut_covers parts marks c.truncate.new.self.items c.mark_for-mark.result c.args.part cut c.requires.children
    (subst (λ ms. Covers ms c.mark_for-mark.result c.args.part) c.deref.ensures.value c.mark_for-mark.ensures))
