use Rattle.fixed_objects.proofs.OpeningLemmas.{threads_begun}
use Rattle.fixed_objects.proofs.laws.started_threads_have_begun.Goals as goal

pub returns : goal.returns
returns g c = threads_begun {S = g.C.ThreadCode.State}
