use Rattle.std.proofs.Common.{◌∙◌, ap, sym, List, ℕ, take, drop, rules}
use Rattle.assembler_lines.specs.declared.word.Word.TheVariants.{Plain}
use Rattle.class_names.specs.ShortestForms.{encoded}
use Rattle.assembler_lines.proofs.WordLaws.{plain_found, plain_only}
use Rattle.assembler_lines.proofs.words.plain_word.Goals as goal

pub returns-clause-found : goal.returns-clause-found
returns-clause-found c = plain_found c.args.bytes.now c.split_at.result.0.now c.in_ok-text.text c.split_at.result.1.now c.plain_len-len.result c.requires c.plain_len-len.ensures.value c.plain_len-len.ensures.bound (search rules) c.split_at.ensures.front c.split_at.ensures.back c.in_ok-text.ensures

pub returns-clause-only : goal.returns-clause-only
returns-clause-only c word rest is end =
    let p = plain_only c.args.bytes.now word rest c.requires is end in
    let len = c.plain_len-len.ensures.value ∙ p.len in (
      ap (λ (t : List ℕ). Plain t) (c.in_ok-text.ensures ∙ ap encoded (c.split_at.ensures.front ∙ (ap (λ (n : ℕ). take n c.args.bytes.now) len ∙ p.front))) ∙ sym p.is,
      c.split_at.ensures.back ∙ (ap (λ (n : ℕ). drop n c.args.bytes.now) len ∙ p.back),
    )
