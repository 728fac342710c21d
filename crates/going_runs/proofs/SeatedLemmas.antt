-- Threads on the seats of a table are after the steps of their parts.
use Rattle.std.proofs.Common.{◌≡◌, List, [], ◌∷◌, ◌++◌, map, sym, ap, subst}
use Rattle.std.proofs.lemmas.List.Elements.{All-nil, All-cons, All-head, All-tail}
use Rattle.op_core.specs.ThreadCode.{Code}
use Rattle.thread_moves.specs.declared.thread.JThread.{JThread}
use Rattle.table_words.specs.Setups.{setup_bounds}
use Rattle.table_words.specs.Tables.{setup_in}
use Rattle.table_hosts.specs.declared.seated.SeatedThread.{SeatedThread}
use Rattle.table_hosts.specs.Seated.{StandsOn, parts_of_threads}
use Rattle.going_runs.specs.Places.{AreAfterSteps}
use Rattle.going_runs.specs.HandedOver.{SeatedThreadsAreAfterSteps}

pub seated_threads_are_after_steps : {C S : Type 0} (state : C → S) (saved : C → List S) (code : Code S) → SeatedThreadsAreAfterSteps state saved code
seated_threads_are_after_steps {C} state saved code table [] all = (tt, All-nil (λ (x : JThread C). x.own.bounds ≡ setup_bounds (setup_in table)))
seated_threads_are_after_steps {C} state saved code table (x ∷ xs) all =
    let here = (All-head (StandsOn state saved code table) x xs all).1 in
    let others = seated_threads_are_after_steps state saved code table xs (All-tail (StandsOn state saved code table) x xs all) in
    let rest : List (JThread C) = map (λ (z : SeatedThread C). z.thread) xs in (
      subst (λ ps. AreAfterSteps state saved code (setup_in table) ps (x.thread ∷ rest)) (sym (ap (λ ps. ps ++ parts_of_threads xs) here.one)) (here.after, others.0),
      All-cons (λ (z : JThread C). z.own.bounds ≡ setup_bounds (setup_in table)) x.thread rest here.bounds others.1,
    )
