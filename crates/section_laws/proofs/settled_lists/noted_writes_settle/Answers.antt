use Rattle.std.proofs.Common.{◌≡◌, true}
use Rattle.section_laws.proofs.settled_lists.SettledLemmas.{noted_write}
use Rattle.section_laws.proofs.settled_lists.noted_writes_settle.Goals as goal

pub returns : goal.returns
returns g is_word heap settled back own least facts t p w word tags others alone =
    noted_write (λ p. is_word p ≡ true) heap settled back own least facts t p w word tags others alone
