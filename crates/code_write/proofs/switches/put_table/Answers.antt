use Rattle.std.proofs.Common.{◌≡◌, ◌++◌, rules, arith}
use Rattle.std.specs.List.{flat_map}
use Rattle.std.proofs.lemmas.Int.{to_z-of_z}
use Rattle.code_write.specs.Instruction.{s4, far_bytes, padding_bytes, highest}
use Rattle.code_write.proofs.Kept.{put_parts}
use Rattle.code_write.proofs.switches.put_table.Goals as goal

pub returns-clause-ok : goal.returns-clause-ok
returns-clause-ok c =
    let padded : c.put_padding.new.out.items ≡ c.args.out.now.items ++ padding_bytes c.args.at = search rules in
    let default : c.put_far.new.out.items ≡ c.put_padding.new.out.items ++ far_bytes c.args.at c.args.default = search rules in
    let low : c.put_i32.new.out.items ≡ c.put_far.new.out.items ++ s4 c.args.low = search rules in
    let high : c.put_i32-2.new.out.items ≡ c.put_i32.new.out.items ++ s4 (highest c.args.low c.args.targets.now) = grind (arith, to_z-of_z) in
    let each : c.put_each_target.new.out.items ≡ c.put_i32-2.new.out.items ++ flat_map (far_bytes c.args.at) c.args.targets.now = search rules in
    put_parts _ _ _ _ _ _ _ _ _ _ _ padded default low high each
