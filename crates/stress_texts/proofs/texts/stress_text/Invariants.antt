use Rattle.std.proofs.Common.{◌≡◌, ◌++◌, string_bytes}
use Rattle.stress_texts.specs.Texts.{made}
use Rattle.stress_texts.proofs.TextLemmas.{front}
use Rattle.stress_texts.proofs.texts.stress_text.Given as goal

abbrev pub invariant-loop-place : goal.invariant-loop-place
invariant-loop-place l = string_bytes l.text ≡ front l.number ++ made l.number l.place
