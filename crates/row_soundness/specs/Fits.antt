-- When a local state fits: its operands, locals and waiting frames have the types that verification gives them.
use Rattle.std.specs.Prelude.{◌≡◌, ◌⊎◌, ◌<◌, ◌≤◌, ℕ, true, false, Option, None, Some, List, [], ◌∷◌, length, drop, slice_get, if◌then◌else◌}
use Rattle.builtin_world.specs.declared.number.TheConstants.{THREAD, RUNNABLE}
use Rattle.code_decode.specs.declared.code.ClassUnit.{ClassUnit}
use Rattle.code_decode.specs.declared.code.Code.{Code as MethodCode}
use Rattle.instructions.specs.declared.what.Instr.{Instr}
use Rattle.instructions.specs.declared.what.Target.{Target}
use Rattle.instructions.specs.What.{falls_through}
use Rattle.link_types.specs.declared.operands.MethodId.{MethodId}
use Rattle.link_types.specs.declared.types.ObjectType.TheVariants.{Class}
use Rattle.link_types.specs.declared.types.ValueType.{ValueType}
use Rattle.link_rules.specs.Classes.{NamedMember, classes_of}
use Rattle.link_rules.specs.Methods.{method_named, method_code}
use Rattle.link_rules.specs.Names.{program_names}
use Rattle.link_rules.specs.Operands.{operand}
use Rattle.type_rules.specs.declared.types.VerificationType.{VerificationType}
use Rattle.type_rules.specs.declared.types.VerificationType.TheVariants.{Top, Int, Float, Long, Double, Second, Null, UninitThis, Uninit, Object}
use Rattle.type_rules.specs.Environment.{Environment, TypeFrame}
use Rattle.type_rules.specs.Environments.{environment}
use Rattle.type_rules.specs.FrameAfter.{frame_after}
use Rattle.type_rules.specs.TypeSafe.{IsAssignment}
use Rattle.op_core.specs.declared.Op.{Op}
use Rattle.op_core.specs.declared.Op.TheVariants.{Wait, Rewake, End}
use Rattle.op_core.specs.declared.Reply.{Reply}
use Rattle.op_core.specs.declared.Reply.TheVariants.{Done}
use Rattle.java_rows.specs.Plan.{Task, at_step, notifies, finds, Frame, FrameEnd, returned, threw, broke, Ending, goes, throws, ends, launches, Plan, want, silently, calls, ready, over, stuck, Use}
use Rattle.java_rows.specs.Thread.{Local, first_frame}
use Rattle.row_soundness.specs.Senses.{Sense, Making, IsWord, IsReference}
use Rattle.link_types.specs.declared.types.ValueType.TheVariants as values

-- the objects of a frame that may not be initialized yet: the one with which a constructor began, and what the `new` at each
-- offset made last
pub record Unset : Type 0 where
  pub this : ℕ
  pub made : ℕ → ℕ

-- what the end of a frame returns to the one below it: the type of its value, and of a constructor its object and class
pub record Returns : Type 0 where
  pub value : Option ValueType
  pub made : Option (ℕ × ℕ)

-- a method with code, and its environment
pub record CodeOf (us : List ClassUnit) (id : MethodId) : Type 0 where
  pub member : NamedMember
  pub code : MethodCode
  pub named : method_named (classes_of us) id ≡ Some member
  pub coded : method_code us id ≡ Some code

abbrev pub env_of : (us : List ClassUnit) (id : MethodId) → CodeOf us id → Environment
env_of us id c = environment (program_names us) (operand us id.class) id.class c.member c.code

-- what came right before a plan, which says what may be wanted first: the second half of a wait comes right after its
-- first half and nowhere else, and nothing comes after the end of a thread
pub data Preceding : Type 0 where
  anything : Preceding
  a_wait : ℕ → Preceding
  the_end : Preceding
  -- a text is made meanwhile
  a_text : Making → Preceding

abbrev pub Follows : Preceding → Op → Type 0
Follows anything (Rewake r) = ⊥
Follows anything _ = Unit {0}
Follows (a_wait r) (Rewake q) = q ≡ r
Follows (a_wait r) _ = ⊥
Follows the_end _ = ⊥
Follows (a_text m) (Rewake r) = ⊥
Follows (a_text m) _ = Unit {0}

abbrev pub after_reply : Op → Reply → Preceding
after_reply (Wait r) Done = a_wait r
after_reply (End x) Done = the_end
after_reply _ _ = anything

-- what the thread has of a text
abbrev pub making_of : Preceding → Option Making
making_of (a_text m) = Some m
making_of _ = None

abbrev pub following : Op → Reply → Option Making → Preceding
following op reply (Some m) = a_text m
following op reply None = after_reply op reply

abbrev pub IsAnywhere : Preceding → Type 0
IsAnywhere anything = Unit {0}
IsAnywhere _ = ⊥

-- the plan isn't complete: no local state has one that is
abbrev pub IsBegun : Plan → Type 0
IsBegun (ready ending) = ⊥
IsBegun _ = Unit {0}

abbrev pub IsTheEnd : Preceding → Type 0
IsTheEnd the_end = Unit {0}
IsTheEnd _ = ⊥

module _ {P : Type 0} (know : Sense P) where
  -- ---- words

  abbrev pub Holds : Environment → Unset → P → ℕ → VerificationType → Type 0
  Holds env u h v Top = IsWord know v
  Holds env u h v Int = IsWord know v
  Holds env u h v Long = IsWord know v
  Holds env u h v Second = IsWord know v
  Holds env u h v Null = v ≡ 0
  Holds env u h v UninitThis = (v ≡ u.this) × know.is_raw h v (Class env.class)
  Holds env u h v (Uninit p) = (v ≡ u.made p) × know.is_raw h v (env.made_at p)
  Holds env u h v (Object t) = IsReference know h v t
  Holds env u h v Float = ⊥
  Holds env u h v Double = ⊥

  abbrev pub HaveTypes : Environment → Unset → P → List ℕ → List VerificationType → Type 0
  HaveTypes env u h [] [] = Unit {0}
  HaveTypes env u h (v ∷ vs) (t ∷ ts) = Holds env u h v t × HaveTypes env u h vs ts
  HaveTypes env u h _ _ = ⊥

  -- the words of a value, the top first
  abbrev pub ValueFits : P → ValueType → List ℕ → Type 0
  ValueFits h values.Long (high ∷ low ∷ []) = IsWord know high × IsWord know low
  ValueFits h (values.Object t) (v ∷ []) = IsReference know h v t
  ValueFits h values.Boolean (v ∷ []) = IsWord know v
  ValueFits h values.Byte (v ∷ []) = IsWord know v
  ValueFits h values.Char (v ∷ []) = IsWord know v
  ValueFits h values.Short (v ∷ []) = IsWord know v
  ValueFits h values.Int (v ∷ []) = IsWord know v
  ValueFits h _ _ = ⊥

  abbrev pub ResultFits : P → Option ValueType → List ℕ → Type 0
  ResultFits h None [] = Unit {0}
  ResultFits h None (v ∷ vs) = ⊥
  ResultFits h (Some t) words = ValueFits h t words

  abbrev pub IsMade : P → Option (ℕ × ℕ) → Type 0
  IsMade h None = Unit {0}
  IsMade h (Some made) = know.is_of h made.0 (Class made.1)

  -- ---- ends of frames; the launch of a thread has none

  abbrev pub EndFits : P → Option Returns → FrameEnd → Type 0
  EndFits h None end = ⊥
  EndFits h (Some r) (returned words) = ResultFits h r.value words × IsMade h r.made
  EndFits h (Some r) (threw q c) = know.is_thrown h q c
  EndFits h (Some r) broke = Unit {0}

module _ {P : Type 0} (know : Sense P) (us : List ClassUnit) where
  -- ---- frames

  -- a frame at an instruction of its method, whose locals have the types that verification gives them there
  pub record StandsIn (h : P) (f : Frame) : Type 0 where
    pub of : CodeOf us f.method
    pub frames : ℕ → TypeFrame
    pub typed : IsAssignment (env_of us f.method of) frames
    pub unset : Unset
    pub within : f.step < length of.code.steps
    pub room : f.room ≡ of.code.max_stack
    pub monitor : (f.monitor ≡ 0) ⊎ know.is_there h f.monitor
    pub locals : HaveTypes know (env_of us f.method of) unset h f.locals (frames f.step).locals
    pub set : (env_of us f.method of).constructs ≡ true → (frames f.step).flag_this_uninit ≡ false → know.is_of h unset.this (Class f.method.class)

  abbrev pub returns_of : (h : P) (f : Frame) → StandsIn h f → Returns
  returns_of h f s = record {
    value = (env_of us f.method s.of).return_type;
    made = if (env_of us f.method s.of).constructs then Some (s.unset.this, f.method.class) else None;
  }

  -- a frame at a call that begins again, and gives no value: under its one operand is the stack that comes after the call
  pub record BetweenCalls (h : P) (f : Frame) (s : StandsIn h f) : Type 0 where
    pub step : Instr Target
    pub there : slice_get s.of.code.steps f.step ≡ Some step
    pub falls : falls_through step.what ≡ true
    pub same : frame_after (env_of us f.method s.of) step (s.frames f.step) ≡ record (s.frames f.step) { stack = (frame_after (env_of us f.method s.of) step (s.frames f.step)).stack }
    pub stack : HaveTypes know (env_of us f.method s.of) s.unset h (drop 1 f.stack) (frame_after (env_of us f.method s.of) step (s.frames f.step)).stack
    pub fits : length f.stack ≤ f.room
    pub some : 1 ≤ f.room

  -- the operand of a call that begins again, of an instruction or the launch of a thread
  abbrev pub OperandFits : P → Task → Type 0
  OperandFits h at_step = ⊥
  OperandFits h (notifies r) = know.is_there h r
  OperandFits h (finds v) = know.is_of h v (Class RUNNABLE)

  abbrev pub TaskFits : (h : P) (f : Frame) → StandsIn h f → Task → Type 0
  TaskFits h f s at_step = HaveTypes know (env_of us f.method s.of) s.unset h f.stack (s.frames f.step).stack
  TaskFits h f s task = OperandFits h task × BetweenCalls h f s

  pub record FrameFits (h : P) (f : Frame) : Type 0 where
    pub stands : StandsIn h f
    pub task : TaskFits h f stands f.task

  -- ---- plans

  abbrev pub EndingFits : P → Option Returns → Ending → Type 0
  EndingFits h res (goes f) = (fits : FrameFits h f) × (Some (returns_of h f fits.stands) ≡ res)
  EndingFits h res (throws f r c) = (stands : StandsIn h f) × (Some (returns_of h f stands) ≡ res) × know.is_thrown h r c
  EndingFits h res (ends end) = EndFits know h res end
  EndingFits h res (launches task) = (res ≡ None) × OperandFits h task

  -- the first frame of a method
  pub record CallFits (h : P) (id : MethodId) (args : List ℕ) (monitor : ℕ) : Type 0 where
    pub frame : Frame
    pub first : first_frame us id args monitor ≡ Some frame
    pub fits : FrameFits h frame

  -- What is left of an instruction fits: each operation may be wanted, and whatever reply may come, however much more is
  -- known by then, what follows fits. Without a row is only a text that may be too long.
  abbrev pub PlanFits : Option Returns → Preceding → Plan → P → Type 0
  PlanFits res b (want op k) h = Follows b op × know.steps (making_of b) h op (λ m h' reply. PlanFits res (following op reply m) (k reply) h')
  PlanFits res b (silently plan) h = IsAnywhere b × PlanFits res anything plan h
  PlanFits res b (calls id args monitor k) h =
      IsAnywhere b × (call : CallFits h id args monitor)
      × ((h' : P) (end : FrameEnd) → know.extends h h' → EndFits know h' (Some (returns_of h call.frame call.fits.stands)) end → PlanFits res anything (k end) h')
  PlanFits res b (ready ending) h = IsAnywhere b × EndingFits h res ending
  PlanFits res b over h = IsTheEnd b
  PlanFits res b stuck h = ⊥

  -- what follows in the frames that wait, when the one above them ends
  abbrev pub BelowFits : P → Option Returns → List (FrameEnd → Plan) → Type 0
  BelowFits h res [] = res ≡ None
  BelowFits h res (k ∷ below) =
      (own : Option Returns)
      × ((h' : P) (end : FrameEnd) → know.extends h h' → EndFits know h' res end → PlanFits own anything (k end) h')
      × BelowFits h own below

  pub record LocalFits (b : Preceding) (h : P) (l : Local) : Type 0 where
    pub program : l.program ≡ us
    pub begun : IsBegun l.plan
    pub thread : know.is_of h l.thread (Class THREAD)
    pub res : Option Returns
    pub plan : PlanFits res b l.plan h
    pub below : BelowFits h res l.below

  -- how a call goes on, when the called frame returns this at its end
  pub record EndsFit (h : P) (res : Option Returns) (tells : Returns) (u : Use) : Type 0 where
    pub value : (h' : P) (words : List ℕ) → know.extends h h' → ResultFits know h' tells.value words → IsMade know h' tells.made → PlanFits res anything (u.value words) h'
    pub thrown : (h' : P) (r c : ℕ) → know.extends h h' → know.is_thrown h' r c → PlanFits res anything (u.thrown r c) h'

  -- so, and the call may begin again at a task, since it has taken a word off the stack
  pub record UseFits (h : P) (res : Option Returns) (tells : Returns) (u : Use) : Type 0 where
    pub ends : EndsFit h res tells u
    pub again : (h' : P) (task : Task) → know.extends h h' → tells.value ≡ None → tells.made ≡ None → OperandFits h' task → PlanFits res anything (u.again task) h'

-- the words of arguments in the order of locals, the low half of a long first
abbrev pub ValuesFit : {P : Type 0} → Sense P → P → List ValueType → List ℕ → Type 0
ValuesFit know h [] [] = Unit {0}
ValuesFit know h (values.Long ∷ ts) (low ∷ high ∷ vs) = IsWord know low × IsWord know high × ValuesFit know h ts vs
ValuesFit know h (values.Object t ∷ ts) (v ∷ vs) = IsReference know h v t × ValuesFit know h ts vs
ValuesFit know h (values.Boolean ∷ ts) (v ∷ vs) = IsWord know v × ValuesFit know h ts vs
ValuesFit know h (values.Byte ∷ ts) (v ∷ vs) = IsWord know v × ValuesFit know h ts vs
ValuesFit know h (values.Char ∷ ts) (v ∷ vs) = IsWord know v × ValuesFit know h ts vs
ValuesFit know h (values.Short ∷ ts) (v ∷ vs) = IsWord know v × ValuesFit know h ts vs
ValuesFit know h (values.Int ∷ ts) (v ∷ vs) = IsWord know v × ValuesFit know h ts vs
ValuesFit know h _ _ = ⊥
