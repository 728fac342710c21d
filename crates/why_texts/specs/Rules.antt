-- The rules of each stage, by number from 1. `scripts/refusal_rules` makes this file from the tables of the pages
-- `docs/refusals.md`, `docs/linking.md` and `docs/verification.md`. Don't edit it.
use Prim.Native.String.{String}
use Rattle.std.specs.Prelude.{ℕ, List, [], ◌∷◌, codes}

-- the name of a kind of refusal, where a program breaks its rule, and what helps
pub record RuleTexts : Type 0 where
  pub kind : List ℕ
  pub comes_where : List ℕ
  pub to_do : List ℕ

abbrev pub rule : String → String → String → RuleTexts
rule kind comes_where to_do = record { kind = codes kind; comes_where = codes comes_where; to_do = codes to_do }

-- the rules of class files (JVMS 4.1 to 4.9)
unfoldable pub read_rules : List RuleTexts
read_rules =
    rule "Magic" "the file doesn't begin with the bytes CA FE BA BE" "compile the source with javac --release 8" ∷
    rule "Version" "the version is none of 50, 51 and 52" "compile with --release 8" ∷
    rule "Truncated" "a part of the file goes past its end" "copy or compile it again" ∷
    rule "PoolTag" "an entry of the constant pool has a tag that does not exist" "compile it again" ∷
    rule "PoolIndex" "an index isn't one of an entry of the kind that is wanted" "compile it again" ∷
    rule "BadUtf" "a text of the constant pool isn't modified UTF-8" "compile it again" ∷
    rule "BadDescriptor" "a text is used as a name or a descriptor, and isn't one" "a name has none of ., ;, [ and /" ∷
    rule "Trailing" "there are bytes after the class" "keep one file for each class" ∷
    rule "TooLong" "the file has more than 1,048,576 bytes" "split the class" ∷
    rule "Attribute" "a ConstantValue, Code or StackMapTable is malformed, comes after another one of its kind, or is a constant of the wrong kind" "compile it again" ∷
    rule "Flags" "flags contradict each other" "leave one out" ∷
    rule "Member" "a member repeats an earlier one; a method has code and is abstract or native, or has none and is neither" "leave one out, or write the body" ∷
    []

-- the rules of code (JVMS 4.9.1), and of what is executed here
unfoldable pub code_rules : List RuleTexts
code_rules =
    rule "Opcode" "a byte is no instruction's number" "compile it again" ∷
    rule "Unsupported" "the instruction isn't executed here: float and double, jsr and ret, invokedynamic, multianewarray, constants of other kinds" "an anonymous class for a lambda, int and long, one dimension at a time" ∷
    rule "Cut" "the operands of the last instruction go past the end" "compile it again" ∷
    rule "Target" "a branch leads where no instruction begins" "put the label before an instruction" ∷
    rule "Handler" "the range of a handler is malformed, or what it catches is no class" "exchange the labels" ∷
    rule "Frame" "a stack map frame is malformed" "put it before an instruction" ∷
    rule "Length" "the code has no bytes, or more than 65,535" "write at least its return" ∷
    rule "Switch" "the keys of a switch don't rise, or its lowest is above its highest" "sort the keys" ∷
    rule "Operand" "the instruction may not have this operand" "call a constructor by invokespecial; move the method into a class" ∷
    []

-- the rules of classes that fit together (JVMS 5.3 to 5.5)
unfoldable pub link_rules : List RuleTexts
link_rules =
    rule "Twice" "two files define a class of one name, or one defines a built-in class" "give one of them another name" ∷
    rule "Missing" "a superclass, an interface, or a class that an instruction or a handler names doesn't exist; for an array class, the class of its innermost elements" "add the file; use what the page of built-in classes lists" ∷
    rule "Cycle" "a class is its own superclass or superinterface, through others or directly" "compile all files together" ∷
    rule "FinalSuper" "a class extends a final class" "compile all files together" ∷
    rule "NotInterface" "what follows implements, or is called by invokeinterface, is a class" "compile all files together" ∷
    rule "NoField" "a field of this name and descriptor is neither in the class nor above it; or System.out is assigned" "compile all files together" ∷
    rule "NoMethod" "a method of this name and descriptor is neither in the class nor above it; a class that isn't abstract doesn't implement an abstract method; super.m() finds an abstract one" "use what the page of built-in classes lists, or add the method" ∷
    rule "StaticMismatch" "a static member where the instruction wants one of an object, or the other way round" "compile all files together" ∷
    rule "Private" "a private member of another class is named; or what implements a method of an interface isn't public" "compile all files together" ∷
    rule "VolatileLong" "a field is a volatile long" "guard a plain long with a monitor" ∷
    rule "Native" "a method is native" "there are no native methods but the built-in ones" ∷
    rule "DefaultMethod" "a method of an interface has code" "move it into a class" ∷
    rule "TooMany" "there are more than 1,024 class files" "leave out the classes that the program doesn't use" ∷
    rule "FloatUse" "the descriptor of a field or a method has a float or a double" "use int or long" ∷
    rule "FinalMethod" "a method overrides a final one" "give it another name; compile all files together" ∷
    rule "NotClass" "a class extends an interface, or an interface another class than Object; new of an interface, an abstract class or an array class; a call of a method of an interface that isn't made by invokeinterface" "compile all files together" ∷
    []

-- the rules of type safe methods (JVMS 4.10.1)
unfoldable pub verify_rules : List RuleTexts
verify_rules =
    rule "StackShape" "the stack has fewer words than the instruction takes" "push the operands; javap -c shows the code" ∷
    rule "TypeMismatch" "a word on the stack or in a local is of another type, or half of a long; an <init> is called on what is initialized, or is of the wrong class; a handler catches a class that is no Throwable" "use the instruction of the type: areturn, pop2; compile all files together where a class has changed its superclass" ∷
    rule "FrameMissing" "there is no stack map frame where a branch or a handler leads, or after an instruction that doesn't go on to the next one" "write the frame; a compiler before version 50 writes none: compile again" ∷
    rule "FrameMismatch" "what comes to a stack map frame isn't assignable to it; at the first instruction it isn't the entry frame" "set the local on each way, or leave it out of the frame" ∷
    rule "FallsOff" "the last instruction would be followed by another one" "end it with a return, an athrow or a goto" ∷
    rule "Limits" "the parameters, a map frame, a local or the stack take more words than the method says" "raise stack or locals; a long takes two" ∷
    rule "Uninit" "an initialized object is wanted, and the one there isn't initialized; new finds on the stack what it made before; a constructor returns before it has called another one" "call <init> first, on a copy: new A; dup; invokespecial A <init> ()V" ∷
    rule "InitCovered" "a handler covers an instruction of a constructor at which its object isn't initialized" "begin it after the call of the superclass's <init>" ∷
    rule "ReturnType" "a return doesn't fit the method's result" "return what the descriptor says" ∷
    []
