-- Words that have types.
use Rattle.std.proofs.Common.{◌≡◌, ◌<◌, ℕ, zero, suc, true, inl, inr, Some, List, [], ◌∷◌, ◌++◌, length, refl, ap, subst, arith, slice_get, slice_set, slice_index_or, replicate}
use Rattle.std.proofs.lemmas.Bool.{and_parts, leb-true, ltb-true, eqb-true}
use Rattle.std.proofs.lemmas.Option.{same_Some, none-some}
use Rattle.builtin_world.specs.Laws.{is_throwable}
use Rattle.code_decode.specs.declared.code.ClassUnit.{ClassUnit}
use Rattle.link_types.specs.declared.types.ObjectType.{ObjectType}
use Rattle.link_types.specs.declared.types.ObjectType.TheVariants.{Class}
use Rattle.link_rules.specs.Classes.{classes_of}
use Rattle.link_rules.specs.Names.{program_names, is_class_number}
use Rattle.type_rules.specs.declared.types.VerificationType.{VerificationType}
use Rattle.type_rules.specs.declared.types.VerificationType.TheVariants.{Top, Int, Float, Long, Double, Second, Null, UninitThis, Uninit, Object}
use Rattle.type_rules.specs.Assignable.{is_assignable, are_assignable, are_locals_assignable, is_object_assignable}
use Rattle.type_rules.specs.Environment.{Environment}
use Rattle.type_rules.specs.Environments.{hierarchy_of}
use Rattle.row_soundness.specs.Senses.{Sense, IsWord, IsReference}
use Rattle.row_soundness.specs.Fits.{Unset, Holds, HaveTypes}
use Rattle.row_soundness.specs.Knowledge.{Knows}
use Rattle.row_soundness.specs.Accepted.{Accepted}

-- a class of exceptions is a class of the program
pub thrown_number : (us : List ClassUnit) → Accepted us → (c : ℕ) → is_throwable c ≡ true → is_class_number (program_names us) c ≡ true
thrown_number us accepted c is =
    let parts = and_parts _ _ is in
    accepted.built_in c (omega (arith, leb-true 8 c parts.0)) (omega (arith, ltb-true c 28 parts.1))

module _ {P : Type 0} (know : Sense P) (us : List ClassUnit) (knows : Knows know us) where
  pub reference_more : (h h' : P) (v : ℕ) (t : ObjectType) → know.extends h h' → IsReference know h v t → IsReference know h' v t
  reference_more h h' v t more is = elim is [ inl null ↦ inl null | inr there ↦ inr (knows.of_more h h' v t more there) ]

  pub holds_more : (env : Environment) (u : Unset) (h h' : P) (v : ℕ) (t : VerificationType) → know.extends h h' → Holds know env u h v t → Holds know env u h' v t
  holds_more env u h h' v Top more is = is
  holds_more env u h h' v Int more is = is
  holds_more env u h h' v Long more is = is
  holds_more env u h h' v Second more is = is
  holds_more env u h h' v Null more is = is
  holds_more env u h h' v UninitThis more is = (is.0, knows.raw_more h h' v (Class env.class) more is.1)
  holds_more env u h h' v (Uninit p) more is = (is.0, knows.raw_more h h' v (env.made_at p) more is.1)
  holds_more env u h h' v (Object t) more is = reference_more h h' v t more is
  holds_more env u h h' v Float more is = is
  holds_more env u h h' v Double more is = is

  pub types_more : (env : Environment) (u : Unset) (h h' : P) (vs : List ℕ) (ts : List VerificationType) → know.extends h h' → HaveTypes know env u h vs ts → HaveTypes know env u h' vs ts
  types_more env u h h' [] [] more is = tt
  types_more env u h h' [] (t ∷ ts) more is = is
  types_more env u h h' (v ∷ vs) [] more is = is
  types_more env u h h' (v ∷ vs) (t ∷ ts) more is = (holds_more env u h h' v t more is.0, types_more env u h h' vs ts more is.1)

  -- each word in a frame is a word
  object_word : (h : P) (v : ℕ) (t : ObjectType) → know.is_raw h v t → IsWord know v
  object_word h v t raw = λ exact. knows.small h v (knows.there_of h v t raw) exact

  pub holds_word : (env : Environment) (u : Unset) (h : P) (v : ℕ) (t : VerificationType) → Holds know env u h v t → IsWord know v
  holds_word env u h v Top is = is
  holds_word env u h v Int is = is
  holds_word env u h v Long is = is
  holds_word env u h v Second is = is
  holds_word env u h v Null is = λ exact. omega (arith, is)
  holds_word env u h v UninitThis is = object_word h v (Class env.class) is.1
  holds_word env u h v (Uninit p) is = object_word h v (env.made_at p) is.1
  holds_word env u h v (Object t) is = elim is [ inl null ↦ λ exact. omega (arith, null) | inr of ↦ object_word h v t (knows.raw_of h v t of) ]
  holds_word env u h v Float is = absurd is
  holds_word env u h v Double is = absurd is

  -- what has a type has each one to which that is assignable
  module _ (env : Environment) (is_ours : env.hierarchy ≡ hierarchy_of (classes_of us)) (u : Unset) (h : P) where
    goes_up : (v : ℕ) (s t : ObjectType) → is_object_assignable env.hierarchy s t ≡ true → IsReference know h v s → IsReference know h v t
    goes_up v s t e is = elim is [
      | inl null ↦ inl null
      | inr there ↦ inr (knows.up h v s t there (subst (λ x. is_object_assignable x s t ≡ true) is_ours e))
    ]

    pub holds_assigned : (v : ℕ) (a b : VerificationType) → is_assignable env.hierarchy a b ≡ true → Holds know env u h v a → Holds know env u h v b
    holds_assigned v a Top e is = holds_word env u h v a is
    holds_assigned v Int Int e is = is
    holds_assigned v Long Long e is = is
    holds_assigned v Second Second e is = is
    holds_assigned v Null Null e is = is
    holds_assigned v UninitThis UninitThis e is = is
    holds_assigned v (Uninit p) (Uninit q) e is = subst (λ x. Holds know env u h v (Uninit x)) (eqb-true p q e) is
    holds_assigned v Null (Object t) e is = inl is
    holds_assigned v (Object s) (Object t) e is = goes_up v s t e is
    holds_assigned v Float b e is = absurd is
    holds_assigned v Double b e is = absurd is
    holds_assigned v a b e is = cc

    pub types_assigned : (vs : List ℕ) (as' bs : List VerificationType) → are_assignable env.hierarchy as' bs ≡ true → HaveTypes know env u h vs as' → HaveTypes know env u h vs bs
    types_assigned vs [] [] e is = is
    types_assigned vs [] (b ∷ bs) e is = cc
    types_assigned vs (a ∷ as') [] e is = cc
    types_assigned [] (a ∷ as') (b ∷ bs) e is = is
    types_assigned (v ∷ vs) (a ∷ as') (b ∷ bs) e is =
        let parts = and_parts (is_assignable env.hierarchy a b) _ e in
        (holds_assigned v a b parts.0 is.0, types_assigned vs as' bs parts.1 is.1)

    pub locals_assigned : (vs : List ℕ) (as' bs : List VerificationType) → length as' ≡ length bs → are_locals_assignable env.hierarchy as' bs ≡ true → HaveTypes know env u h vs as' → HaveTypes know env u h vs bs
    locals_assigned vs [] [] l e is = is
    locals_assigned vs [] (b ∷ bs) l e is = cc
    locals_assigned vs (a ∷ as') [] l e is = cc
    locals_assigned [] (a ∷ as') (b ∷ bs) l e is = is
    locals_assigned (v ∷ vs) (a ∷ as') (b ∷ bs) l e is =
        let parts = and_parts (is_assignable env.hierarchy a b) _ e in
        (holds_assigned v a b parts.0 is.0, locals_assigned vs as' bs (omega (arith, l)) parts.1 is.1)

-- ---- lists of words

module _ {P : Type 0} (know : Sense P) (env : Environment) (u : Unset) (h : P) where
  pub length_typed : (vs : List ℕ) (ts : List VerificationType) → HaveTypes know env u h vs ts → length vs ≡ length ts
  length_typed [] [] is = refl
  length_typed [] (t ∷ ts) is = absurd is
  length_typed (v ∷ vs) [] is = absurd is
  length_typed (v ∷ vs) (t ∷ ts) is = ap suc (length_typed vs ts is.1)

  pub append_typed : (vs ws : List ℕ) (ts ss : List VerificationType) → HaveTypes know env u h vs ts → HaveTypes know env u h ws ss → HaveTypes know env u h (vs ++ ws) (ts ++ ss)
  append_typed [] ws [] ss a b = b
  append_typed [] ws (t ∷ ts) ss a b = absurd a
  append_typed (v ∷ vs) ws [] ss a b = absurd a
  append_typed (v ∷ vs) ws (t ∷ ts) ss a b = (a.0, append_typed vs ws ts ss a.1 b)

  pub zeros_typed : (n : ℕ) → HaveTypes know env u h (replicate n 0) (replicate n Top)
  zeros_typed zero = tt
  zeros_typed (suc n) = ((λ exact. omega arith), zeros_typed n)

  pub word_typed : (vs : List ℕ) (ts : List VerificationType) (n : ℕ) (t : VerificationType) → HaveTypes know env u h vs ts → slice_get ts n ≡ Some t → (v : ℕ) × (slice_get vs n ≡ Some v) × Holds know env u h v t
  word_typed [] [] n t is e = absurd (none-some t e)
  word_typed [] (x ∷ ts) n t is e = absurd is
  word_typed (v ∷ vs) [] n t is e = absurd is
  word_typed (v ∷ vs) (x ∷ ts) zero t is e = (v, refl, subst (λ y. Holds know env u h v y) (same_Some x t e) is.0)
  word_typed (v ∷ vs) (x ∷ ts) (suc n) t is e = word_typed vs ts n t is.1 e

  pub set_typed : (vs : List ℕ) (ts : List VerificationType) (n v : ℕ) (t : VerificationType) → HaveTypes know env u h vs ts → Holds know env u h v t → HaveTypes know env u h (slice_set vs n v) (slice_set ts n t)
  set_typed [] [] n v t is a = tt
  set_typed [] (x ∷ ts) n v t is a = absurd is
  set_typed (w ∷ vs) [] n v t is a = absurd is
  set_typed (w ∷ vs) (x ∷ ts) zero v t is a = (a, is.1)
  set_typed (w ∷ vs) (x ∷ ts) (suc n) v t is a = (is.0, set_typed vs ts n v t is.1 a)

  -- a word whose type isn't Top is there
  pub local_typed : (vs : List ℕ) (ts : List VerificationType) (n : ℕ) → HaveTypes know env u h vs ts → (slice_index_or ts n Top ≡ Top → ⊥) → (v : ℕ) × (slice_get vs n ≡ Some v) × Holds know env u h v (slice_index_or ts n Top)
  local_typed [] [] n is other = absurd (other refl)
  local_typed [] (x ∷ ts) n is other = absurd is
  local_typed (v ∷ vs) [] n is other = absurd is
  local_typed (v ∷ vs) (x ∷ ts) zero is other = (v, refl, is.0)
  local_typed (v ∷ vs) (x ∷ ts) (suc n) is other = local_typed vs ts n is.1 other

module _ {P : Type 0} (know : Sense P) (us : List ClassUnit) (knows : Knows know us) (env : Environment) (u : Unset) (h : P) where
  -- one more local is Top
  pub top_typed : (vs : List ℕ) (ts : List VerificationType) (n : ℕ) → HaveTypes know env u h vs ts → HaveTypes know env u h vs (slice_set ts n Top)
  top_typed [] [] n is = tt
  top_typed [] (x ∷ ts) n is = absurd is
  top_typed (w ∷ vs) [] n is = absurd is
  top_typed (w ∷ vs) (x ∷ ts) zero is = (holds_word know us knows env u h w x is.0, is.1)
  top_typed (w ∷ vs) (x ∷ ts) (suc n) is = (is.0, top_typed vs ts n is.1)

  -- a local, whatever its type
  pub any_typed : (vs : List ℕ) (ts : List VerificationType) (n : ℕ) → HaveTypes know env u h vs ts → n < length ts → (v : ℕ) × (slice_get vs n ≡ Some v) × IsWord know v
  any_typed [] [] n is within = absurd (omega (arith, within))
  any_typed [] (x ∷ ts) n is within = absurd is
  any_typed (v ∷ vs) [] n is within = absurd is
  any_typed (v ∷ vs) (x ∷ ts) zero is within = (v, refl, holds_word know us knows env u h v x is.0)
  any_typed (v ∷ vs) (x ∷ ts) (suc n) is within = any_typed vs ts n is.1 (omega (arith, within))
