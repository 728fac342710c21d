use Rattle.std.proofs.Common.{◌≡◌, true}
use Rattle.section_laws.proofs.settled_lists.SettledLemmas.{undone_write}
use Rattle.section_laws.proofs.settled_lists.words_put_back_settle.Goals as goal

pub returns : goal.returns
returns g is_word heap settled back own least facts t x rest logs = undone_write (λ p. is_word p ≡ true) heap settled back own least facts t x rest logs
