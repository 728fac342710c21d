use Rattle.std.proofs.Common.{◌≡◌, true}
use Rattle.section_laws.proofs.settled_lists.SettledLemmas.{kept_write}
use Rattle.section_laws.proofs.settled_lists.kept_writes_settle.Goals as goal

pub returns : goal.returns
returns g is_word heap settled back own least facts p w none = kept_write (λ p. is_word p ≡ true) heap settled back own least facts p w none
