-- What is appended to a list leaves it as it was.
use Rattle.std.proofs.Common.{◌≡◌, ℕ, List, [], ◌∷◌, ◌++◌, length, take, refl, ◌∙◌, arith, append_assoc}
use Rattle.std.proofs.lemmas.Grind.{common_steps}
use Rattle.code_write.specs.Instruction.{Keeps}

front_kept : (old more new : List ℕ) → take (length (old ++ more)) new ≡ old ++ more → take (length old) new ≡ old
front_kept [] more new e = refl
front_kept (x ∷ old) more [] e = cc
front_kept (x ∷ old) more (y ∷ new) e =
    let first : y ≡ x = cc in
    let others : take (length (old ++ more)) new ≡ old ++ more = cc in
    rw (first, front_kept old more new others) refl

pub kept_behind : (old more now new : List ℕ) → now ≡ old ++ more → Keeps now new → Keeps old new
kept_behind old more now new put keeps = record { front = front_kept old more new (rw put at keeps.front) }

pub kept_same : (old new : List ℕ) → new ≡ old → Keeps old new
kept_same old new same = record { front = grind (arith, common_steps) }

-- five parts, one put after another
pub put_parts : (old m n o p new a b c d e : List ℕ) → m ≡ old ++ a → n ≡ m ++ b → o ≡ n ++ c → p ≡ o ++ d → new ≡ p ++ e → new ≡ old ++ (a ++ (b ++ (c ++ (d ++ e))))
put_parts old m n o p new a b c d e first second third fourth fifth = rw (fifth, fourth, third, second, first) (
    append_assoc (old ++ a ++ b ++ c) d e
    ∙ append_assoc (old ++ a ++ b) c (d ++ e)
    ∙ append_assoc (old ++ a) b (c ++ (d ++ e))
    ∙ append_assoc old a (b ++ (c ++ (d ++ e)))
    )
