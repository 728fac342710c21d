use Rattle.std.proofs.Common.{rules}
use Rattle.table_words.specs.Tables.{setup_in}
use Rattle.table_words.proofs.Splits.{join_allowed}
use Rattle.table_words.proofs.table.TableWords.join.Goals as goal

pub join_seat-requires : goal.join_seat-requires
join_seat-requires g c = (
  search rules,
  search rules,
  search rules,
  search rules,
  join_allowed g.C.ThreadCode.state g.C.ThreadCode.code (setup_in c.args.self.now) _ _ _ _,
)
