-- What the frames of a type safe method are.
use Rattle.std.specs.Prelude.{◌≡◌, ℕ, suc, ◌<◌, ◌≤◌, ◌⊎◌, false, true, Some, length, slice_get}
use Rattle.std.specs.List.{AllByRecursion}
use Rattle.instructions.specs.declared.what.Instr.{Instr}
use Rattle.instructions.specs.declared.what.Target.{Target}
use Rattle.instructions.specs.What.{targets_of, falls_through}
use Rattle.type_rules.specs.Assignable.{is_object_assignable}
use Rattle.type_rules.specs.Environment.{Environment, TypeFrame, TypedHandler}
use Rattle.type_rules.specs.Wants.{Verdict, right, wants, words_wanted, verdicts, throwable_type}
use Rattle.type_rules.specs.FrameAfter.{frame_after}
use Rattle.type_rules.specs.TypeFaults.{is_frame_assignable, is_covered, thrown_frame, is_local_right, are_locals_there, is_initialization_right, returns_rightly}

-- something holds of each instruction and its frame
abbrev pub OfEach : Environment → (ℕ → TypeFrame) → (ℕ → Instr Target → TypeFrame → Type 0) → Type 0
OfEach env frames Holds = (k : ℕ) (i : Instr Target) → slice_get env.steps k ≡ Some i → Holds k i (frames k)

-- a frame has as many locals as the method, and no more words on the stack than it may have
pub record HasRoom (env : Environment) (f : TypeFrame) : Type 0 where
  pub locals : length f.locals ≡ env.max_locals
  pub stack : length f.stack ≤ env.max_stack

abbrev pub IsRight : Verdict → Type 0
IsRight v = v ≡ right

-- the stack has what an instruction wants
pub record HasWanted (env : Environment) (i : Instr Target) (f : TypeFrame) : Type 0 where
  pub enough : words_wanted (wants env i.what) ≤ length f.stack
  pub right : AllByRecursion IsRight (verdicts env (wants env i.what) f.stack)

-- the local that an instruction reads has the right type, the method has the locals that it names, what it makes and
-- whence it returns are right, and so is what it returns
pub record UsesRightTypes (env : Environment) (i : Instr Target) (f : TypeFrame) : Type 0 where
  pub local : is_local_right env i.what f ≡ true
  pub there : are_locals_there env i.what ≡ true
  pub initialization : is_initialization_right i i.what f ≡ true
  pub result : returns_rightly env i.what f ≡ true

-- the frame of an instruction takes this one, if there is such an instruction
abbrev pub Enters : Environment → (ℕ → TypeFrame) → TypeFrame → ℕ → Type 0
Enters env frames f step = step < length env.steps → is_frame_assignable env f (frames step) ≡ true

-- where an instruction leads, its frame there is what it leaves, or takes that
pub record GoesOn (env : Environment) (frames : ℕ → TypeFrame) (k : ℕ) (i : Instr Target) (f : TypeFrame) : Type 0 where
  pub inside : falls_through i.what ≡ true → suc k < length env.steps
  pub next : falls_through i.what ≡ true → (frames (suc k) ≡ frame_after env i f) ⊎ Enters env frames (frame_after env i f) (suc k)
  pub targets : AllByRecursion (λ t. Enters env frames (frame_after env i f) t.step) (targets_of i.what)

-- a handler that covers an instruction catches Throwables, and begins with the locals there and what it catches; the
-- object of a constructor is initialized there
pub record IsEntered (env : Environment) (frames : ℕ → TypeFrame) (f : TypeFrame) (h : TypedHandler) : Type 0 where
  pub initialized : f.flag_this_uninit ≡ false
  pub entry : Enters env frames (thrown_frame f h) h.entry
  pub caught : is_object_assignable env.hierarchy h.caught throwable_type ≡ true

abbrev pub HandlersAreEntered : Environment → (ℕ → TypeFrame) → ℕ → TypeFrame → Type 0
HandlersAreEntered env frames k f = AllByRecursion (λ h. is_covered h k ≡ true → IsEntered env frames f h) env.handlers
