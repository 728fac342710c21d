use Rattle.std.proofs.Common.{sym, ◌∙◌, ap, subst}
use Rattle.std.specs.Str.{IsUtf8}
use Rattle.command_words.specs.Grammar.{with_slashes}
use Rattle.command_words.proofs.Slashes.{slashes-utf8}
use Rattle.command_words.proofs.words.with_slashes.Goals as goal

pub returns : goal.returns
returns c =
    let same = c.as_slice.ensures.value ∙ c.in_ok-main.ensures ∙ ap with_slashes c.as_bytes.ensures.value in
    c.from_string.ensures ∙ c.in_ok-text.ensures.ok (subst IsUtf8 (sym same) (slashes-utf8 c.args.name.now c.utf8.name)) ∙ same
