-- What a thread wants that reads a text is a part of the text.
use Rattle.std.proofs.Common.{◌≡◌, inl, inr, ◌<◌, ◌==◌, ℕ, zero, suc, Bool, true, false, List, [], ◌∷◌, ◌++◌, refl, subst, arith, if◌then◌else◌}
use Rattle.std.proofs.lemmas.Bool.{eqb-false}
use Rattle.builtin_world.specs.declared.word.TheConstants.{STRING_UNITS}
use Rattle.code_decode.specs.declared.code.ClassUnit.{ClassUnit}
use Rattle.op_core.specs.declared.Op.{Op}
use Rattle.op_core.specs.declared.Op.TheVariants.{ClassOf, Read}
use Rattle.op_core.specs.declared.Reply.{Reply}
use Rattle.op_core.specs.OrdinaryState.{OrdinaryState}
use Rattle.java_rows.specs.Numbers.{char_of}
use Rattle.java_rows.specs.Plan.{Plan, asks_class, want, silently}
use Rattle.java_rows.specs.Texts.{reads_array, reads_text, reads_units}
use Rattle.java_rows.specs.Thread.{Local}
use Rattle.java_rows.specs.Units.{literal_units}
use Rattle.text_stages.specs.Reading.{Memory, followed, followed_by, steps_of_text}
use Rattle.accepted_runs.specs.Texts.{ReadsText, array_in, memory_of}

same_op : (q op : Op) (k next : Reply → Plan) → want q k ≡ want op next → q ≡ op
same_op q op k next e = cc

not_silent : (plan : Plan) (op : Op) (next : Reply → Plan) → silently plan ≡ want op next → ⊥
not_silent plan op next e = cc

pub followed_next : (m : Memory) (n : ℕ) (plan : Plan) → followed_by m (suc n) plan ≡ followed m (followed_by m n plan)
followed_next m zero plan = refl
followed_next m (suc n) plan = followed_next m n (followed m plan)

units_wanted : (m : Memory) (array i c j : ℕ) (before : List ℕ) (k : List ℕ → Plan) (op : Op) (next : Reply → Plan) → j < c → followed_by m j (reads_units array i c before k) ≡ want op next → (x : ℕ) × (Read array x ≡ op)
units_wanted m array i zero j before k op next within e = absurd (omega (arith, within))
units_wanted m array i (suc c) zero before k op next within e = (i, same_op (Read array i) op _ next e)
units_wanted m array i (suc c) (suc j) before k op next within e = units_wanted m array (suc i) c j (before ++ char_of (m.words array i) ∷ []) k op next (omega (arith, within)) e

steps_left : (c : Bool) (n x : ℕ) → suc n < (if c then 2 else suc x) → n < (if c then 1 else x)
steps_left true n x within = omega (arith, within)
steps_left false n x within = omega (arith, within)

module _ (us : List ClassUnit) (s : OrdinaryState Local) (r : ℕ) (k : List ℕ → Plan) (op : Op) (next : Reply → Plan) where
  abbrev m : Memory
  m = memory_of s

  abbrev array : ℕ
  array = array_in s r

  is_read : (q : Op) → q ≡ op → ReadsText s r q → ReadsText s r op
  is_read q same is = subst (λ x. ReadsText s r x) same is

  after_word : (n : ℕ) (c : Bool) → (array == 0) ≡ c → n < (if c then 1 else suc (suc (m.length array))) → followed_by m n (if c then asks_class r (λ d x. k (literal_units us x)) else reads_array array k) ≡ want op next → ReadsText s r op
  after_word zero true e within is = is_read (ClassOf r) (same_op (ClassOf r) op _ next is) (inl refl)
  after_word (suc n) true e within is = absurd (omega (arith, within))
  after_word zero false e within is = is_read (ClassOf array) (same_op (ClassOf array) op _ next is) (inr (refl, eqb-false array 0 e))
  after_word (suc zero) false e within is = absurd (not_silent (reads_units array 0 (m.length array) [] k) op next is)
  after_word (suc (suc n)) false e within is =
      let (x, same) = units_wanted m array 0 (m.length array) n [] k op next (omega (arith, within)) is in
      is_read (Read array x) same (inr (refl, eqb-false array 0 e))

  pub part_wanted : (n : ℕ) → n < steps_of_text m r → followed_by m n (reads_text us r k) ≡ want op next → ReadsText s r op
  part_wanted zero within is = is_read (Read r STRING_UNITS) (same_op (Read r STRING_UNITS) op _ next is) (inl (refl, refl))
  part_wanted (suc n) within is = after_word n (array == 0) refl (steps_left (array == 0) n (suc (suc (m.length array))) within) is
