use Rattle.std.proofs.Common.{◌≡◌, suc, take, drop, [], None, Some, sym, ap, ◌∙◌, add-one, arith}
use Rattle.std.proofs.lemmas.List.{take_all, drop_all}
use Rattle.trace_journal.specs.Parsing as spec
use Rattle.trace_journal.proofs.CutLemmas.{behind, moves, cut_at, word_at_end}
use Rattle.trace_journal.proofs.cut.cut_word.Goals as goal

at_space : (c : goal.After-rest-1) → spec.cut c.args.line.now ≡ record { word = take c.loop-place.place c.args.line.now; rest = Some (drop (suc c.loop-place.place) c.args.line.now) }
at_space c = c.loop-place.invariant.far ∙ cut_at c.args.line.now c.loop-place.place c.loop-place-test.true c.if-line-place-eq32.true

at_end : (c : goal.After-loop-place) → spec.cut c.args.line.now ≡ record { word = c.args.line.now; rest = None }
at_end c =
    let all : take c.loop-place.place c.args.line.now ≡ c.args.line.now = take_all c.loop-place.place c.args.line.now (omega (arith, c.loop-place-test.false)) in
    let none : drop c.loop-place.place c.args.line.now ≡ [] = drop_all c.loop-place.place c.args.line.now (omega (arith, c.loop-place-test.false)) in
    c.loop-place.invariant.far ∙ (λ i. behind (all i) (spec.cut (none i))) ∙ word_at_end c.args.line.now

pub returns-then-line-place-eq32-clause-word : goal.returns-then-line-place-eq32-clause-word
returns-then-line-place-eq32-clause-word c = c.split_at.ensures.front ∙ sym (ap (λ (x : spec.Cut). x.word) (at_space c))

pub returns-then-line-place-eq32-clause-rest : goal.returns-then-line-place-eq32-clause-rest
returns-then-line-place-eq32-clause-rest c = ap (λ (x : spec.Cut). x.rest) (at_space c) ∙ ap Some (ap (λ k. drop k c.args.line.now) (sym (add-one c.loop-place.place)) ∙ sym c.split_at-then-line-place-eq32.ensures.back)

pub loop-place-preserved : goal.loop-place-preserved
loop-place-preserved c =
    let next = sym (add-one c.loop-place.place) in
    record {
      far = c.loop-place.invariant.far ∙ moves c.args.line.now c.loop-place.place c.loop-place-test.true c.if-line-place-eq32.false
          ∙ (λ i. behind (take (next i) c.args.line.now) (spec.cut (drop (next i) c.args.line.now)));
    }

pub returns-clause-word : goal.returns-clause-word
returns-clause-word c = sym (ap (λ (x : spec.Cut). x.word) (at_end c))

pub returns-clause-rest : goal.returns-clause-rest
returns-clause-rest c = ap (λ (x : spec.Cut). x.rest) (at_end c)
