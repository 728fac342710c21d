use Rattle.std.proofs.Common.{◌≡◌, ◌++◌, ◌∷◌, [], ◌+◌, ◌<◌, length, take, get_or, sym, ap, ◌∙◌, subst, rules}
use Rattle.std.proofs.lemmas.List.{take_more, take_all}
use Rattle.op_core.specs.declared.Line.TheVariants.{Empty, Made}
use Rattle.word_texts.proofs.NamedLemmas.{AreNamed, one_more_named, none_more_named}
use Rattle.word_texts.proofs.named.named.Goals as goal
use Rattle.word_texts.proofs.named.named.Goals.{in-Made+in_ok-push, in_default}

pub loop-line-preserved : goal.loop-line-preserved
loop-line-preserved c =
    let lines = c.args.lines.now in
    let n = c.loop-line.line-index in
    let before = c.loop-line.arrays.items in
    let inside : n < length lines = search rules in
    elim c.match-line.branch [
      | in-Made+in_ok-push w ↦
          let more : take (n + 1) lines ≡ take n lines ++ Made w.in-Made.array ∷ [] =
          take_more lines n Empty inside ∙ ap (λ x. take n lines ++ x ∷ []) w.in-Made.is in
          let arrays : c.match-line.arrays.items ≡ before ++ w.in-Made.array ∷ [] = ap (λ v. v.items) w.arrays-is ∙ w.in_ok-push.ensures.items in
          subst (λ xs. AreNamed xs c.match-line.arrays.items) (sym more)
          (subst (AreNamed (take n lines ++ Made w.in-Made.array ∷ [])) (sym arrays) (one_more_named (take n lines) before w.in-Made.array c.loop-line.invariant))
      | in_default w ↦
          let more : take (n + 1) lines ≡ take n lines ++ get_or lines n Empty ∷ [] = take_more lines n Empty inside in
          subst (λ xs. AreNamed xs c.match-line.arrays.items) (sym more)
          (subst (AreNamed (take n lines ++ get_or lines n Empty ∷ [])) (sym (ap (λ v. v.items) w.arrays-is))
          (none_more_named (take n lines) before (get_or lines n Empty) c.loop-line.invariant w.in_default.not-Made))
    ]

pub returns : goal.returns
returns c =
    let lines = c.args.lines.now in
    let all : take c.loop-line.line-index lines ≡ c.args.lines.now =
    take_all c.loop-line.line-index lines c.loop-line-test.false in
    subst (λ xs. AreNamed xs c.loop-line.arrays.items) all c.loop-line.invariant
