-- The words on the stack that an instruction wants.
use Rattle.std.specs.Prelude.{◌≡◌, ◌⊎◌, ℕ, suc, true, false, Some, List, [], ◌∷◌, drop, slice_get, slice_index_or}
use Rattle.builtin_world.specs.declared.number.TheConstants.{OBJECT}
use Rattle.code_decode.specs.declared.code.ClassUnit.{ClassUnit}
use Rattle.instructions.specs.declared.what.Instr.{Instr}
use Rattle.instructions.specs.declared.what.Target.{Target}
use Rattle.instructions.specs.declared.what.What.{What}
use Rattle.link_types.specs.declared.types.ObjectType.{ObjectType}
use Rattle.link_types.specs.declared.types.ObjectType.TheVariants.{Class}
use Rattle.type_rules.specs.declared.types.VerificationType.{VerificationType}
use Rattle.type_rules.specs.declared.types.VerificationType.TheVariants.{Top, Object}
use Rattle.type_rules.specs.Environment.{Environment, TypeFrame}
use Rattle.type_rules.specs.Wants.{Want, an_int, a_long, a_reference, a_reference_to, an_array_of, an_array, an_array_of_references, a_receiver_to_set, a_receiver_here, to_initialize, is_array_of_one, is_array_type, is_array_of_references, initializes}
use Rattle.java_rows.specs.Plan.{Frame}
use Rattle.row_soundness.specs.Senses.{Sense, IsWord, IsReference}
use Rattle.row_soundness.specs.Fits.{Unset, Holds, HaveTypes, StandsIn, env_of}

-- how many words are wanted
abbrev pub words_of_wants : List Want → ℕ
words_of_wants [] = 0
words_of_wants (a_long ∷ ws) = suc (suc (words_of_wants ws))
words_of_wants (w ∷ ws) = suc (words_of_wants ws)

module _ {P : Type 0} (know : Sense P) (env : Environment) (u : Unset) (h : P) where
  -- null, or an object of the type, and the type passes a test
  abbrev pub IsTested : (ObjectType → Type 0) → ℕ → VerificationType → Type 0
  IsTested test v t = (v ≡ 0) ⊎ ((s : ObjectType) × (t ≡ Object s) × know.is_of h v s × test s)

  abbrev pub WantFits : Want → ℕ → VerificationType → Type 0
  WantFits an_int v t = IsWord know v
  WantFits a_reference v t = IsReference know h v (Class OBJECT)
  WantFits (a_reference_to named) v t = IsReference know h v named
  WantFits (an_array_of xs) v t = IsTested (λ s. is_array_of_one xs s ≡ true) v t
  WantFits an_array v t = IsTested (λ s. is_array_type s ≡ true) v t
  WantFits an_array_of_references v t = IsTested (λ s. is_array_of_references s ≡ true) v t
  WantFits (a_receiver_to_set named) v t = IsReference know h v named ⊎ know.is_raw h v (Class env.class)
  WantFits (a_receiver_here named) v t = (v ≡ 0) ⊎ (know.is_of h v named × know.is_of h v (Class env.class))
  WantFits (to_initialize named) v t = Holds know env u h v t × (initializes env named t ≡ true)
  WantFits _ v t = Holds know env u h v t

  -- The words on a stack that an instruction wants, and the rest of it; `types` are those of the frame, of which n are
  -- taken already.
  abbrev pub Operands : List VerificationType → ℕ → List Want → List ℕ → Type 0
  Operands types n [] vs = HaveTypes know env u h vs (drop n types)
  Operands types n (a_long ∷ ws) vs =
      (high low : ℕ) × (rest : List ℕ) × (vs ≡ high ∷ low ∷ rest) × IsWord know high × IsWord know low × Operands types (suc (suc n)) ws rest
  Operands types n (w ∷ ws) vs =
      (v : ℕ) × (rest : List ℕ) × (vs ≡ v ∷ rest) × WantFits w v (slice_index_or types n Top) × Operands types (suc n) ws rest

  -- locals, a stack and what is known of the constructor's object fit a frame
  pub record FitsIn (locals stack : List ℕ) (t : TypeFrame) : Type 0 where
    pub locals_fit : HaveTypes know env u h locals t.locals
    pub stack_fits : HaveTypes know env u h stack t.stack
    pub set : env.constructs ≡ true → t.flag_this_uninit ≡ false → know.is_of h u.this (Class env.class)

-- a frame begins an instruction
pub record Begins {P : Type 0} (know : Sense P) (us : List ClassUnit) (h : P) (f : Frame) (i : Instr Target) : Type 0 where
  pub stands : StandsIn know us h f
  pub at : slice_get stands.of.code.steps f.step ≡ Some i
  pub stack : HaveTypes know (env_of us f.method stands.of) stands.unset h f.stack (stands.frames f.step).stack

-- an instruction at an offset
abbrev pub at_offset : ℕ → ℕ → What Target → Instr Target
at_offset at next what = record { at = at; what = what; next = next }
