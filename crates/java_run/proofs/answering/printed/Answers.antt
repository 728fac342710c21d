use Rattle.std.proofs.Common.{◌≡◌, ◌++◌, ◌∷◌, [], ◌<◌, IfOk, length, map, take, get_or, sym, ap, ◌∙◌, subst, rules}
use Rattle.std.proofs.lemmas.List.{map_more}
use Rattle.op_core.specs.declared.Line.TheVariants.{Empty}
use Rattle.java_machine.specs.Lines.{line_bytes}
use Rattle.java_run.proofs.answering.printed.Goals as goal

pub loop-line-preserved : goal.loop-line-preserved
loop-line-preserved c =
    let made = c.args.made.now in
    let lines = c.args.printed.now in
    let n = c.loop-line.line-index in
    let bytes_of = line_bytes c.args.world.now made in
    let inside : n < length lines = search rules in
    let bytes : c.in_ok-line_bytes.field-0 ≡ bytes_of (get_or lines n Empty) =
    subst (λ r. IfOk r (λ b. b ≡ bytes_of (get_or lines n Empty))) c.in_ok-line_bytes.was (c.line_bytes.ensures made c.in_ok-texts.ensures) in
    c.in_ok-push.ensures.ok
    ∙ ap (λ xs. xs ++ c.in_ok-line_bytes.field-0 ∷ []) c.loop-line.invariant
    ∙ ap (λ b. map bytes_of (take n lines) ++ b ∷ []) bytes
    ∙ sym (map_more bytes_of lines n Empty inside)
