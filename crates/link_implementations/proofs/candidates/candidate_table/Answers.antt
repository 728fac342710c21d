use Rattle.std.proofs.Common.{◌++◌, map, ◌∙◌, ap}
use Rattle.link_implementations.proofs.CandidateLaws.{of_unit, whole_table}
use Rattle.link_implementations.proofs.candidates.candidate_table.Goals as goal

pub returns : goal.returns
returns c =
    let p = c.args.lookup.now in
    c.in_ok-add_files.ensures ∙ ap (λ t. t ++ map (of_unit p) p.units) c.in_ok-table.ensures ∙ whole_table p
