use Rattle.std.proofs.Common.{inl, inr, refl, ◌∙◌, rules}
use Rattle.std.proofs.lemmas.Fn.{filter_same}
use Rattle.handler_frames.proofs.KnownLaws.{ended_forgotten, lasts}
use Rattle.handler_frames.proofs.covering.CoveringHandlers.forget_ended.Goals as goal
use Rattle.handler_frames.proofs.covering.CoveringHandlers.forget_ended.Goals.{then-all, else-all}

pub returns : goal.returns
returns c =
    let kept = filter_same _ (lasts c.args.step) _ (λ x b f' k. search rules) _ _ c.retain.ensures.filtered in
    record {
      goes = ended_forgotten c.args.self.now _ c.args.step refl kept refl refl refl
          (elim c.if-all.branch [
            | then-all w ↦ inr (w.if-all.true ∙ c.len.ensures ∙ search rules, w.self-is ∙ w.len-self.ensures ∙ search rules)
            | else-all w ↦ inl w.self-is
          ])
          refl;
    }
