-- Calls of methods of objects.
use Rattle.std.specs.Prelude.{suc, List}
use Rattle.code_decode.specs.declared.code.ClassUnit.{ClassUnit}
use Rattle.frame_snapshot.specs.declared.stage.CallSite.{CallSite}
use Rattle.frame_snapshot.specs.declared.stage.Caller.TheVariants.{Instruction}
use Rattle.link_types.specs.declared.operands.MethodId.{MethodId}
use Rattle.java_rows.specs.Program.{argument_words}

-- an instruction that calls a method of an object: the receiver and the arguments are its operands
abbrev pub call_site : List ClassUnit → MethodId → CallSite
call_site us id = record { caller = Instruction; operands = suc (argument_words us id) }
