-- What is known where an instruction breaks no rule by itself.
use Rattle.std.proofs.Common.{◌≡◌, ℕ, ◌≤◌, Bool, true, false, ◌&&◌, not, Option, None, length, nat_le, refl, sym, arith}
use Rattle.std.specs.List.{list_any}
use Rattle.std.proofs.lemmas.Bool.{and_parts, leb-true}
use Rattle.std.proofs.lemmas.Option.{none-some}
use Rattle.instructions.specs.declared.what.Instr.{Instr}
use Rattle.instructions.specs.declared.what.Target.{Target}
use Rattle.type_rules.specs.declared.refusal.VerifyKind.{VerifyKind}
use Rattle.type_rules.specs.declared.refusal.VerifyKind.TheVariants.{StackShape, TypeMismatch, Uninit, Limits, ReturnType}
use Rattle.type_rules.specs.Environment.{Environment, TypeFrame}
use Rattle.type_rules.specs.Wants.{wants, words_wanted, verdicts, is_wrong, is_uninitialized}
use Rattle.type_rules.specs.FrameAfter.{frame_after, stack_with}
use Rattle.type_rules.specs.TypeFaults.{◌or_else◌, unless, is_local_right, is_initialization_right, are_locals_there, returns_rightly, own_fault}
use Rattle.step_faults.proofs.Puts.{after_length}
use Rattle.type_lists.specs.Store.{word_at}
use Rattle.type_lists.proofs.ListLaws.{stack_depth}
use Rattle.typing_frames.specs.declared.stores.FrameStores.{FrameStores}
use Rattle.typing_frames.specs.declared.stores.CurrentFrame.{CurrentFrame}
use Rattle.typing_frames.specs.Frames.{shown}

abbrev chain : Bool → Bool → Bool → Bool → Bool → Option VerifyKind
chain shape types set limits returned =
    unless shape StackShape or_else unless types TypeMismatch or_else unless set Uninit or_else unless limits Limits or_else unless returned ReturnType

chain_none : (a b c d e : Bool) → chain a b c d e ≡ None → (a ≡ true) × (d ≡ true)
chain_none false b c d e h = absurd (none-some StackShape (sym h))
chain_none true false c d e h = absurd (none-some TypeMismatch (sym h))
chain_none true true false d e h = absurd (none-some Uninit (sym h))
chain_none true true true false e h = absurd (none-some Limits (sym h))
chain_none true true true true e h = (refl, refl)

pub record Ready (env : Environment) (i : Instr Target) (f : TypeFrame) : Type 0 where
  pub wanted : words_wanted (wants env i.what) ≤ length f.stack
  pub locals : are_locals_there env i.what ≡ true
  pub room : length (stack_with env i.at i.what f) ≤ env.max_stack

pub ready : (env : Environment) (i : Instr Target) (f : TypeFrame) → own_fault env i f ≡ None → Ready env i f
ready env i f h =
    let told = chain_none (nat_le (words_wanted (wants env i.what)) (length f.stack))
    (not (list_any is_wrong (verdicts env (wants env i.what) f.stack)) && is_local_right env i.what f)
    (not (list_any is_uninitialized (verdicts env (wants env i.what) f.stack)) && is_initialization_right i i.what f)
    (are_locals_there env i.what && nat_le (length (frame_after env i f).stack) env.max_stack) (returns_rightly env i.what f) h in
    let limits = and_parts (are_locals_there env i.what) (nat_le (length (frame_after env i f).stack) env.max_stack) told.1 in
    let room : length (frame_after env i f).stack ≤ env.max_stack = leb-true (length (frame_after env i f).stack) env.max_stack limits.1 in
    let same : length (frame_after env i f).stack ≡ length (stack_with env i.at i.what f) = after_length env i.at i.what f in
    record {
      wanted = leb-true (words_wanted (wants env i.what)) (length f.stack) told.0;
      locals = limits.0;
      room = omega (arith, same, room);
    }

pub depth_of : (stores : FrameStores) (frame : CurrentFrame) (n : ℕ) → n ≤ length (shown stores frame).stack → n ≤ frame.depth
depth_of stores frame n h = omega (arith, h, stack_depth (word_at stores.stacks frame.stack) frame.depth)
