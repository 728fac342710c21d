use Rattle.erasure_examples.proofs.ExampleLemmas.{a_run_is_erased}
use Rattle.erasure_examples.proofs.a_run_is_erased.Goals as goal

pub returns : goal.returns
returns c = a_run_is_erased
