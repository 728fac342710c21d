-- The number that identifies a refusal of code.
use Rattle.std.specs.Prelude.{ℕ}
use Rattle.code_decode.specs.declared.refusal.CodeRefusal.{CodeRefusal}
use Rattle.code_decode.specs.declared.refusal.CodeRefusal.TheVariants.{Opcode, Unsupported, Cut, Target, Handler, Frame, Length, Switch, Operand, NoMemory}

-- the number that identifies a refusal, from 1 in this order
abbrev pub number_of : CodeRefusal → ℕ
number_of (Opcode _) = 1
number_of (Unsupported _) = 2
number_of (Cut _) = 3
number_of (Target _) = 4
number_of (Handler _) = 5
number_of (Frame _) = 6
number_of Length = 7
number_of (Switch _) = 8
number_of (Operand _) = 9
number_of NoMemory = 10

-- the number that a refusal names, or 0 where it names none
abbrev pub place_of : CodeRefusal → ℕ
place_of (Opcode n) = n
place_of (Unsupported n) = n
place_of (Cut n) = n
place_of (Target n) = n
place_of (Handler n) = n
place_of (Frame n) = n
place_of Length = 0
place_of (Switch n) = n
place_of (Operand n) = n
place_of NoMemory = 0
