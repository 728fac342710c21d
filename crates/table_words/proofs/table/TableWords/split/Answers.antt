use Rattle.std.proofs.Common.{rules, ap, sym, subst, ◌∙◌}
use Rattle.table_words.specs.Views.{FirstIsInRun}
use Rattle.table_words.specs.Tables.{setup_in, parts_of_seat}
use Rattle.table_words.proofs.Splits.{split_allowed, parent_is, child_is, parent_in_run, child_in_run}
use Rattle.table_words.proofs.table.TableWords.split.Goals as goal

pub split_seat-child-requires : goal.split_seat-child-requires
split_seat-child-requires g c = (
  search rules,
  search rules,
  split_allowed g.C.ThreadCode.state g.C.ThreadCode.code (setup_in c.args.self.now) _ _ c.args.thread c.args.object c.args.priority c.requires.next,
)

pub returns-clause-grown : goal.returns-clause-grown
returns-clause-grown g c =
    ap (λ me. me.0) c.split_seat-child.ensures.2
    ∙ parent_is g.C.ThreadCode.state g.C.ThreadCode.code (setup_in c.args.self.now) _ c.args.thread c.args.object c.args.priority c.requires.next

pub returns-clause-child : goal.returns-clause-child
returns-clause-child g c =
    ap (λ me. me.0) c.split_seat-child.ensures.4
    ∙ child_is g.C.ThreadCode.state g.C.ThreadCode.code (setup_in c.args.self.now) _ c.args.thread c.args.object c.args.priority c.requires.next

pub returns-clause-in_run : goal.returns-clause-in_run
returns-clause-in_run g c =
    let k = setup_in c.args.self.now in
    let v = parts_of_seat c.args.seat.now in
    let is = ap (λ me. me.0) c.split_seat-child.ensures.2 ∙ parent_is g.C.ThreadCode.state g.C.ThreadCode.code k v c.args.thread c.args.object c.args.priority c.requires.next in
    subst (FirstIsInRun g.C.ThreadCode.state g.C.ThreadCode.code k) (sym is)
    (parent_in_run g.C.ThreadCode.state g.C.ThreadCode.code k v c.args.thread c.args.object c.args.priority c.requires.next)

pub returns-clause-child_in_run : goal.returns-clause-child_in_run
returns-clause-child_in_run g c =
    let k = setup_in c.args.self.now in
    let v = parts_of_seat c.args.seat.now in
    let is = ap (λ me. me.0) c.split_seat-child.ensures.4 ∙ child_is g.C.ThreadCode.state g.C.ThreadCode.code k v c.args.thread c.args.object c.args.priority c.requires.next in
    subst (FirstIsInRun g.C.ThreadCode.state g.C.ThreadCode.code k) (sym is)
    (child_in_run g.C.ThreadCode.state g.C.ThreadCode.code k v c.args.thread c.args.object c.args.priority c.requires.next)
