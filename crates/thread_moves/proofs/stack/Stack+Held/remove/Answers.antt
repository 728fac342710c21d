use Rattle.std.proofs.Common.{rules, ◌∙◌, reverse, ap, sym, not, nat_eq}
use Rattle.std.proofs.lemmas.Fn.{filter_same}
use Rattle.thread_automaton.specs.declared.Held.{Held}
use Rattle.thread_automaton.specs.Changes.{without}
use Rattle.thread_moves.proofs.StackLemmas.{filter-reverse}
use Rattle.thread_moves.proofs.stack.Stack+Held.remove.Goals as goal

pub returns : goal.returns
returns c =
    let kept = filter_same _ (λ (q : Held). not (nat_eq q.object c.args.object)) _ (λ x b f' k. search rules) _ _ c.retain.ensures.filtered in
    ap reverse kept ∙ sym (filter-reverse (λ (q : Held). not (nat_eq q.object c.args.object)) _) ∙ ap (λ held. without c.args.object held.newest_first) c.self.view_is
