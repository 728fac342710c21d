use Rattle.std.proofs.Common.{◌≡◌, take}
use Rattle.jr_ports.specs.Folder.{most_read, most_read-is}
use Rattle.jr_ports.proofs.Files.{take-lesser}
use Rattle.jr_ports.proofs.memory.dir.copy_of_front.Goals as goal

pub returns-clause-front : goal.returns-clause-front
returns-clause-front c =
    let front : take c.min-count.result c.args.bytes.now ≡ take most_read c.args.bytes.now = take-lesser most_read c.min-count.result 1048577 c.args.bytes.now most_read-is c.min-count.ensures
    in rw (← front) c.from_slice.ensures.items
