-- The worst of verdicts.
use Rattle.std.specs.Prelude.{List, [], ◌∷◌}
use Rattle.type_rules.specs.Wants.{Verdict, right, wrong, uninitialized}

abbrev pub worse : Verdict → Verdict → Verdict
worse right b = b
worse wrong b = wrong
worse uninitialized wrong = wrong
worse uninitialized _ = uninitialized

abbrev pub worst : List Verdict → Verdict
worst [] = right
worst (v ∷ vs) = worse v (worst vs)
