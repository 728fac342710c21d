-- What holds as a program begins.
use Rattle.std.specs.Prelude.{◌+◌, ◌≤◌, ◌^◌, List}
use Rattle.code_decode.specs.declared.code.ClassUnit.{ClassUnit}
use Rattle.op_core.specs.declared.Limits.{Limits}
use Rattle.fixed_objects.specs.Opening.{LiesBelowFirst, StartsMain}
use Rattle.plain_words.specs.Opening.{HasPlace}
use Rattle.java_rows.specs.Start.{opening_of}

-- the words of a program have their places, wherever the heap after the fixed objects ends below 2 ^ 32
abbrev pub OpeningsHavePlace : Type 0
OpeningsHavePlace = (us : List ClassUnit) (limits : Limits) → (opening_of us).first + limits.heap ≤ 2 ^ 32 → HasPlace (opening_of us) limits

-- new objects have references of their own
abbrev pub OpeningsLieBelowFirst : Type 0
OpeningsLieBelowFirst = (us : List ClassUnit) → LiesBelowFirst (opening_of us)

-- main's Thread is there, and it alone has started a thread, number 1
abbrev pub OpeningsStartMain : Type 0
OpeningsStartMain = (us : List ClassUnit) → StartsMain (opening_of us)
