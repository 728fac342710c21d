use Rattle.std.proofs.Common.{length, refl, sym, ◌∙◌, ap}
use Rattle.std.specs.Prelude.{option_and_then}
use Rattle.std.proofs.lemmas.Option.{slice_get_read}
use Rattle.program_accept.specs.Main.{main_of_file}
use Rattle.program_accept.proofs.MainLaws.{few_methods}
use Rattle.program_accept.proofs.main_method.main_at.Goals as goal

pub main_of_file-requires-clause-few : goal.main_of_file-requires-clause-few
main_of_file-requires-clause-few c =
    let us = c.args.units.now in
    let unit = c.in_ok-unit.unit.now in
    let lookup = c.in_ok-unit.ensures.lookup in
    few_methods us c.args.place unit c.requires.decoded (slice_get_read us (length us) c.args.place unit refl lookup.3.0 lookup.1)

pub returns : goal.returns
returns c =
    let us = c.args.units.now in
    let unit = c.in_ok-unit.unit.now in
    let lookup = c.in_ok-unit.ensures.lookup in
    c.main_of_file.ensures
    ∙ sym (ap (option_and_then (main_of_file c.args.place)) (slice_get_read us (length us) c.args.place unit refl lookup.3.0 lookup.1))
