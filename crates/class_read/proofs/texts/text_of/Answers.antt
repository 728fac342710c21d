use Rattle.std.proofs.Common.{List, ℕ, sym, subst}
use Rattle.class_names.specs.ModifiedUtf8.{IsTextOf}
use Rattle.class_read.proofs.TextLaws.{text_is_formed, same_bytes}
use Rattle.class_read.proofs.texts.text_of.Goals as goal

pub decode_text-requires : goal.decode_text-requires
decode_text-requires c =
    let at = rw (c.in-Some-Utf8.field-0-is, c.from.ensures) at c.in-Some-Utf8.ensures in
    let formed = text_is_formed c.requires.0 c.args.file.now c.args.index c.in-Some-Utf8.bytes c.requires.1 (sym at) in
    rw c.as_slice.ensures formed

pub returns-in_ok-decode_text-in-Some-Utf8-clause-only : goal.returns-in_ok-decode_text-in-Some-Utf8-clause-only
returns-in_ok-decode_text-in-Some-Utf8-clause-only c = λ bytes text there is.
    let at = rw (c.in-Some-Utf8.field-0-is, c.from.ensures) at c.in-Some-Utf8.ensures in
    let same = same_bytes c.args.file.now.pool c.args.index bytes c.in-Some-Utf8.bytes there (sym at) in
    let P : List ℕ → Type 0 = λ b. IsTextOf b text in
    let of_slice = rw c.as_slice.ensures at c.in_ok-decode_text-in-Some-Utf8.ensures.only in
    of_slice text (subst P same is)
