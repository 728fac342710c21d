-- What is known in executions: the objects that there are, and which Threads have a priority.
use Rattle.std.specs.Prelude.{◌≡◌, ◌≢◌, ◌⊎◌, ◌≤◌, ℕ, true, Some, List, Contains}
use Rattle.builtin_world.specs.declared.number.TheConstants.{THREAD}
use Rattle.builtin_world.specs.declared.word.TheConstants.{THREAD_PRIORITY}
use Rattle.code_decode.specs.declared.code.ClassUnit.{ClassUnit}
use Rattle.link_types.specs.declared.types.ObjectType.{ObjectType}
use Rattle.link_types.specs.declared.types.ObjectType.TheVariants.{Class}
use Rattle.link_rules.specs.Classes.{classes_of}
use Rattle.link_rules.specs.Supers.{superclasses}
use Rattle.op_core.specs.declared.Op.{Op}
use Rattle.op_core.specs.declared.Op.TheVariants.{Read, Write, Start}
use Rattle.op_core.specs.declared.Reply.{Reply}
use Rattle.op_core.specs.declared.Reply.TheVariants.{Value, Done}
use Rattle.op_core.specs.OrdinaryState.{Object, OrdinaryState, live}
use Rattle.java_rows.specs.Thread.{Local}
use Rattle.kept_states.specs.Kept.{Extends}
use Rattle.row_soundness.specs.Senses.{Sense, PlainSteps, reference}
use Rattle.row_soundness.specs.Fits.{Preceding, LocalFits, IsTheEnd}
use Rattle.row_soundness.specs.Runs.{Known, fixed_of, IsThread, WordHolds, runs}

-- the priority of a Thread (the Java SE 8 API, Thread.MIN_PRIORITY and MAX_PRIORITY)
abbrev pub IsPriority : ℕ → Type 0
IsPriority p = (1 ≤ p) × (p ≤ 10)

-- The objects that there are, and the first word of each, which is a Thread's priority. The Threads that are there from the
-- start have one.
pub record Seen (us : List ClassUnit) : Type 0 where
  pub known : Known us
  pub priorities : ℕ → ℕ
  pub begun : (r : ℕ) (o : Object) → fixed_of us r ≡ Some o → IsThread us o.class ≡ true → IsPriority (priorities r)

-- an object that is no Thread, or a Thread that has a priority
pub record IsSet (us : List ClassUnit) (h : Seen us) (r : ℕ) : Type 0 where
  pub object : Object
  pub there : h.known.objects r ≡ Some object
  pub set : IsThread us object.class ≡ true → IsPriority (h.priorities r)

-- the class k is that of the type, or above it
abbrev pub IsTypeBelow : List ClassUnit → ℕ → ObjectType → Type 0
IsTypeBelow us k (Class c) = Contains (superclasses (classes_of us) c) k
IsTypeBelow us k _ = ⊥

-- the place isn't that of a Thread's priority
abbrev pub IsElsewhere : (us : List ClassUnit) → Seen us → ℕ → ℕ → Type 0
IsElsewhere us h r i = (o : Object) → h.known.objects r ≡ Some o → IsThread us o.class ≡ true → i ≢ THREAD_PRIORITY

-- where references are held, the word is null or an object that is set
abbrev pub HoldsSet : (us : List ClassUnit) → Seen us → ℕ → ℕ → ℕ → Type 0
HoldsSet us h r i v = (o : Object) (t : ObjectType) → h.known.objects r ≡ Some o → WordHolds us r o i (reference t) → (v ≡ 0) ⊎ IsSet us h v

-- what is written and started keeps this
abbrev pub KeepsPriorities : (us : List ClassUnit) → Seen us → Op → Type 0
KeepsPriorities us h (Write r i v) = ((o : Object) → h.known.objects r ≡ Some o → IsThread us o.class ≡ true → i ≡ THREAD_PRIORITY → IsPriority v) × HoldsSet us h r i v
KeepsPriorities us h (Start r p) = IsPriority p × IsSet us h r
KeepsPriorities us h op = Unit {0}

-- what is read, or was just written
abbrev pub TellsPriorities : (us : List ClassUnit) → Seen us → Op → Reply → Type 0
TellsPriorities us h (Read r i) (Value v) = (i ≡ THREAD_PRIORITY → v ≡ h.priorities r) × HoldsSet us h r i v
TellsPriorities us h (Write r i v) Done = i ≡ THREAD_PRIORITY → v ≡ h.priorities r
TellsPriorities us h op reply = Unit {0}

-- objects stay, and so do the priorities that Threads have
pub record GoesOn (us : List ClassUnit) (h h' : Seen us) : Type 0 where
  pub objects : Extends h.known.objects h'.known.objects
  pub priorities : (r : ℕ) (o : Object) → h.known.objects r ≡ Some o → IsThread us o.class ≡ true → IsPriority (h.priorities r) → IsPriority (h'.priorities r)

abbrev pub executions : (us : List ClassUnit) → Sense (Seen us)
executions us = record {
  extends = GoesOn us;
  exact = Unit {0};
  is_priority = IsPriority;
  is_there = λ h r. (runs us).is_there h.known r;
  is_raw = λ h r t. (runs us).is_raw h.known r t × (IsSet us h r ⊎ IsTypeBelow us THREAD t);
  is_of = λ h r t. (runs us).is_of h.known r t × IsSet us h r;
  is_exactly = λ h r c n. (runs us).is_exactly h.known r c n;
  is_thrown = λ h r c. (runs us).is_thrown h.known r c × IsSet us h r;
  has_word = λ h r i k. (runs us).has_word h.known r i k × IsElsewhere us h r i;
  is_text = λ h r. (runs us).is_text h.known r;
  may_want = λ h op. (runs us).may_want h.known op × KeepsPriorities us h op;
  may_come = λ h op reply. (runs us).may_come h.known op reply × TellsPriorities us h op reply;
  steps = PlainSteps (GoesOn us) (λ h op. (runs us).may_want h.known op × KeepsPriorities us h op) (λ h op reply. (runs us).may_come h.known op reply × TellsPriorities us h op reply);
}

-- a local state that fits what is known in executions
pub record SeenLocal (us : List ClassUnit) (h : Seen us) (l : Local) : Type 0 where
  pub preceding : Preceding
  pub fits : LocalFits (executions us) us preceding h l
  pub goes : IsTheEnd preceding → ⊥

-- what is known in a state
abbrev pub seen_in : (us : List ClassUnit) (s : OrdinaryState Local) → Extends (fixed_of us) s.objects → ((r : ℕ) (o : Object) → fixed_of us r ≡ Some o → IsThread us o.class ≡ true → IsPriority (s.words r THREAD_PRIORITY)) → Seen us
seen_in us s fixed begun = record { known = record { objects = s.objects; fixed = fixed }; priorities = λ r. s.words r THREAD_PRIORITY; begun = begun }

-- each Thread from the start has a priority, each reference is null or an object that is set, and each live thread fits
pub record IsSeen (us : List ClassUnit) (s : OrdinaryState Local) : Type 0 where
  pub fixed : Extends (fixed_of us) s.objects
  pub begun : (r : ℕ) (o : Object) → fixed_of us r ≡ Some o → IsThread us o.class ≡ true → IsPriority (s.words r THREAD_PRIORITY)
  pub words : (r i : ℕ) → HoldsSet us (seen_in us s fixed begun) r i (s.words r i)
  pub threads : (t : ℕ) (l : Local) → s.threads t ≡ live l → SeenLocal us (seen_in us s fixed begun) l
