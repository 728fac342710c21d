use Rattle.std.proofs.Common.{take, flat_map}
use Rattle.link_rules.specs.Names.{class_names_of}
use Rattle.named_types.specs.Others.{HasMore}
use Rattle.named_types.proofs.pool_names.add_pool.Given as goal

abbrev pub invariant-loop-constant : goal.invariant-loop-constant
invariant-loop-constant l = HasMore l.fn.names l.names (flat_map class_names_of (take l.constant-index l.pool))
