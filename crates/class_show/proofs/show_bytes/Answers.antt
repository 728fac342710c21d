use Rattle.std.proofs.Common.{arith, rules}
use Rattle.class_show.proofs.Acceptance.{by_codes, no_file}
use Rattle.class_show.proofs.show_bytes.Goals as goal

pub show_decoded-requires : goal.show_decoded-requires
show_decoded-requires g c = (c.args.bytes.now, λ i. omega (arith, c.type_inv.bytes i), c.in-Ok.ensures.found)

pub returns-in_ok-show-in-Ok : goal.returns-in_ok-show-in-Ok
returns-in_ok-show-in-Ok g c = by_codes _ c.args.bytes.now c.in-Ok.file c.in-Ok.ensures.found c.in-Ok.ensures.only c.show_decoded.ensures

pub returns-in_ok-println-in-Err : goal.returns-in_ok-println-in-Err
returns-in_ok-println-in-Err g c = no_file c.args.bytes.now (λ file is. let e = c.in-Err.ensures.only file is in search rules)
