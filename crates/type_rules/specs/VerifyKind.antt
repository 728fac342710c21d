-- The kinds by which a refusal of the type checker is reported.
use Rattle.std.specs.Prelude.{ℕ}
use Rattle.type_rules.specs.declared.refusal.VerifyKind.{VerifyKind}
use Rattle.type_rules.specs.declared.refusal.VerifyKind.TheVariants.{StackShape, TypeMismatch, FrameMissing, FrameMismatch, FallsOff, Limits, Uninit, InitCovered, ReturnType}

-- the number by which a kind is reported, from 1 in this order
abbrev pub verify_kind_number : VerifyKind → ℕ
verify_kind_number StackShape = 1
verify_kind_number TypeMismatch = 2
verify_kind_number FrameMissing = 3
verify_kind_number FrameMismatch = 4
verify_kind_number FallsOff = 5
verify_kind_number Limits = 6
verify_kind_number Uninit = 7
verify_kind_number InitCovered = 8
verify_kind_number ReturnType = 9
