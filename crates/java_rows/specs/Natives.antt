-- What the methods of the built-in classes do (the Java SE 8 API). They make no frame. Arguments are in the order of
-- locals, the receiver first, a long's low half before its high half.
use Rattle.std.specs.Prelude.{ℕ, zero, suc, ◌%◌, ◌^◌, ◌==◌, ◌&&◌, nat_le, List, [], ◌∷◌, if◌then◌else◌}
use Rattle.std.specs.Int.{w32, w64, cast_signed}
use Rattle.builtin_world.specs.declared.Native.{Native}
use Rattle.builtin_world.specs.declared.Native.TheVariants.{ObjectInit, ObjectWait, ObjectNotify, ObjectNotifyAll, ObjectEquals, PrintlnEmpty, PrintlnInt, PrintlnLong, PrintlnChar, PrintlnBoolean, PrintlnString, ThreadInit, ThreadInitTarget, ThreadStart, ThreadRun, ThreadJoin, ThreadSetPriority, ThreadGetPriority, ThreadCurrentThread, ThreadYield, ThrowableInit, ThrowableInitMessage, ThrowableGetMessage, StringLength, StringCharAt, StringEquals, StringConcat, BuilderInit, BuilderInitText, AppendInt, AppendLong, AppendChar, AppendBoolean, AppendString, BuilderLength, BuilderToString}
use Rattle.builtin_world.specs.declared.number.TheConstants.{ILLEGAL_MONITOR_STATE_EXCEPTION, ILLEGAL_ARGUMENT_EXCEPTION, ILLEGAL_THREAD_STATE_EXCEPTION}
use Rattle.builtin_world.specs.declared.word.TheConstants.{STRING_UNITS, THREAD_PRIORITY, THREAD_TARGET, THROWABLE_MESSAGE}
use Rattle.code_decode.specs.declared.code.ClassUnit.{ClassUnit}
use Rattle.op_core.specs.declared.Line.{Line}
use Rattle.op_core.specs.declared.Line.TheVariants as lines
use Rattle.op_core.specs.declared.Op.TheVariants.{Wait, Rewake, Notify, Print, Start, Join}
use Rattle.op_core.specs.declared.Reply.{Reply}
use Rattle.op_core.specs.declared.Reply.TheVariants.{Woken, NotOwner, Number, Already}
use Rattle.java_rows.specs.Numbers.{long_of, char_of}
use Rattle.java_rows.specs.Plan.{notifies, finds, Plan, want, silently, stuck, on_done, on_owner, asks_class, reads, writes, Use, raises}
use Rattle.java_rows.specs.Texts.{gets_length, gets_char, compares, joins, copies_text, appends, gets_builder_length, tells_text}
use Rattle.java_rows.specs.Units.{an_int, a_long, a_char, a_boolean, a_string}

-- a thread was notified, or none waited; or the monitor isn't owned
abbrev pub on_woken : Plan → Plan → Plan → Reply → Plan
on_woken none some other (Woken zero) = none
on_woken none some other (Woken (suc n)) = some
on_woken none some other NotOwner = other
on_woken none some other _ = stuck

abbrev pub on_started : Plan → Plan → Reply → Plan
on_started k other (Number n) = k
on_started k other Already = other
on_started k other _ = stuck

abbrev pub not_owner : Use → Plan
not_owner u = raises u ILLEGAL_MONITOR_STATE_EXCEPTION

-- Object.wait gives the monitor up, and has it again after a notification (JLS 17.2.1)
abbrev pub waits : ℕ → Use → Plan
waits r u = want (Wait r) (on_owner (want (Rewake r) (on_done (u.value []))) (not_owner u))

-- Object.notify (JLS 17.2.2)
abbrev pub notifies_one : ℕ → Use → Plan
notifies_one r u = want (Notify r) (on_woken (u.value []) (u.value []) (not_owner u))

-- Object.notifyAll notifies until no thread waits
abbrev pub notifies_all : ℕ → Use → Plan
notifies_all r u = want (Notify r) (on_woken (u.value []) (u.again (notifies r)) (not_owner u))

-- PrintStream.println
abbrev pub prints : Line → Use → Plan
prints line u = want (Print line) (on_done (u.value []))

-- a literal's length is the number of its text; a String that was made has the char array of its units
abbrev pub prints_string : ℕ → Use → Plan
prints_string s u =
    if s == 0 then prints lines.Null u
    else reads s STRING_UNITS (λ array.
    if array == 0 then asks_class s (λ c n. prints (lines.Text n) u) else prints (lines.Made array) u)

-- a new thread has the priority of the thread that makes it
abbrev pub inherits_priority : ℕ → ℕ → Plan → Plan
inherits_priority me t k = reads me THREAD_PRIORITY (λ p. writes t THREAD_PRIORITY p k)

abbrev pub starts : ℕ → Use → Plan
starts t u =
    reads t THREAD_PRIORITY (λ p.
    want (Start t (p % 2 ^ 8)) (on_started (u.value []) (raises u ILLEGAL_THREAD_STATE_EXCEPTION)))

-- Thread.run calls the run of the target; without one it is complete
abbrev pub runs_target : ℕ → Use → Plan
runs_target t u = reads t THREAD_TARGET (λ v. if v == 0 then u.value [] else u.again (finds v))

abbrev pub sets_priority : ℕ → ℕ → Use → Plan
sets_priority t p u =
    if nat_le 1 p && nat_le p 10 then writes t THREAD_PRIORITY p (u.value [])
    else raises u ILLEGAL_ARGUMENT_EXCEPTION

-- `me` is the object of the thread that calls
abbrev pub native : List ClassUnit → ℕ → Native → List ℕ → Use → Plan
native us me ObjectInit (r ∷ []) u = silently (u.value [])
native us me ObjectWait (r ∷ []) u = waits r u
native us me ObjectNotify (r ∷ []) u = notifies_one r u
native us me ObjectNotifyAll (r ∷ []) u = notifies_all r u
native us me ObjectEquals (r ∷ other ∷ []) u = silently (u.value ((if r == other then 1 else 0) ∷ []))
native us me PrintlnEmpty (r ∷ []) u = prints lines.Empty u
native us me PrintlnInt (r ∷ n ∷ []) u = prints (lines.Int (cast_signed w32 n)) u
native us me PrintlnLong (r ∷ low ∷ high ∷ []) u = prints (lines.Long (cast_signed w64 (long_of low high))) u
native us me PrintlnChar (r ∷ c ∷ []) u = prints (lines.Char (char_of c)) u
native us me PrintlnBoolean (r ∷ b ∷ []) u = prints (lines.Bool (b % 2 == 1)) u
native us me PrintlnString (r ∷ s ∷ []) u = prints_string s u
native us me ThreadInit (t ∷ []) u = inherits_priority me t (u.value [])
native us me ThreadInitTarget (t ∷ target ∷ []) u =
    inherits_priority me t (writes t THREAD_TARGET target (u.value []))
native us me ThreadStart (t ∷ []) u = starts t u
native us me ThreadRun (t ∷ []) u = runs_target t u
native us me ThreadJoin (t ∷ []) u = want (Join t) (on_done (u.value []))
native us me ThreadSetPriority (t ∷ p ∷ []) u = sets_priority t p u
native us me ThreadGetPriority (t ∷ []) u = reads t THREAD_PRIORITY (λ p. u.value (p ∷ []))
native us me ThreadCurrentThread [] u = silently (u.value (me ∷ []))
native us me ThreadYield [] u = silently (u.value [])
native us me ThrowableInit (t ∷ []) u = silently (u.value [])
native us me ThrowableInitMessage (t ∷ message ∷ []) u = writes t THROWABLE_MESSAGE message (u.value [])
native us me ThrowableGetMessage (t ∷ []) u = reads t THROWABLE_MESSAGE (λ message. u.value (message ∷ []))
native us me StringLength (s ∷ []) u = gets_length us s u
native us me StringCharAt (s ∷ i ∷ []) u = gets_char us s i u
native us me StringEquals (s ∷ other ∷ []) u = compares us s other u
native us me StringConcat (s ∷ other ∷ []) u = joins us s other u
native us me BuilderInit (b ∷ []) u = silently (u.value [])
native us me BuilderInitText (b ∷ s ∷ []) u = copies_text us b s u
native us me AppendInt (b ∷ n ∷ []) u = appends us b (an_int n) u
native us me AppendLong (b ∷ low ∷ high ∷ []) u = appends us b (a_long low high) u
native us me AppendChar (b ∷ c ∷ []) u = appends us b (a_char c) u
native us me AppendBoolean (b ∷ x ∷ []) u = appends us b (a_boolean x) u
native us me AppendString (b ∷ s ∷ []) u = appends us b (a_string s) u
native us me BuilderLength (b ∷ []) u = gets_builder_length us b u
native us me BuilderToString (b ∷ []) u = tells_text us b u
native us me _ _ u = stuck
