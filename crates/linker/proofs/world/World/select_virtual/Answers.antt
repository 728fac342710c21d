use Rattle.std.proofs.Common.{sym, subst, ◌≤◌, length}
use Rattle.link_rules.specs.Classes.{classes_of}
use Rattle.method_selection.specs.Selection.{IsSelectionOf}
use Rattle.linker.proofs.WorldLaws.{start_within}
use Rattle.linker.proofs.world.World.select_virtual.Goals as goal

pub returns : goal.returns
returns c = λ le.
    let us = c.args.self.now in
    let within = subst (λ n. n ≤ length (classes_of us)) (sym c.selection_start-start.ensures) (start_within us c.args.class le) in
    let are = subst (λ vs. IsSelectionOf vs c.self.inside.tables.members.selection) c.self.view_is c.self.invariant.are.members.selection in
    c.select.ensures us c.args.class are within (sym c.selection_start-start.ensures)
