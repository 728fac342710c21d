-- What class files come to: as what they are accepted, or the first rule that they break.
use Rattle.std.specs.Prelude.{ℕ, List}
use Rattle.program_accept.specs.Accepted.{IsProgram, program_rules}
use Rattle.program_accept.specs.declared.refusal.AcceptRefusal.TheVariants as refusals
use Rattle.why_main.specs.declared.Verdict.{Verdict}
use Rattle.why_main.specs.declared.Verdict.TheVariants.{Accepted, Refused, NoMain}

-- class files with these bytes, where the program is to begin with the class of this name
abbrev pub IsVerdict : List (List ℕ) → List ℕ → Verdict → Type 0
IsVerdict files main (Accepted program) = IsProgram files main program
IsVerdict files main (Refused refusal) = (program_rules files main).Refuse (refusals.Refused refusal)
IsVerdict files main NoMain = (program_rules files main).Refuse refusals.NoMain
