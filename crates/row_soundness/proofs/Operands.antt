-- What an instruction wants is there.
use Rattle.std.proofs.Common.{◌≡◌, ◌≤◌, ℕ, zero, suc, Bool, true, false, ◌⊎◌, inl, inr, List, [], ◌∷◌, length, drop, slice_index_or, refl, sym, subst, arith}
use Rattle.std.specs.List.{AllByRecursion}
use Rattle.std.proofs.lemmas.Bool.{and_parts}
use Rattle.std.proofs.lemmas.List.Sums.{sum_by-cons}
use Rattle.builtin_world.specs.declared.number.TheConstants.{OBJECT}
use Rattle.code_decode.specs.declared.code.ClassUnit.{ClassUnit}
use Rattle.link_types.specs.declared.types.ObjectType.{ObjectType}
use Rattle.link_types.specs.declared.types.ObjectType.TheVariants.{Class, Other, Array}
use Rattle.link_rules.specs.Classes.{classes_of}
use Rattle.type_rules.specs.declared.types.VerificationType.{VerificationType}
use Rattle.type_rules.specs.declared.types.VerificationType.TheVariants.{Top, Int, Long, Second, Null, UninitThis, Object}
use Rattle.type_rules.specs.Assignable.{is_object_assignable}
use Rattle.type_rules.specs.Environment.{Environment}
use Rattle.type_rules.specs.Environments.{hierarchy_of}
use Rattle.type_rules.specs.Wants.{Want, a_word, a_whole, an_int, a_long, a_stored_reference, a_reference, a_reference_to, an_array_of, an_array, an_array_of_references, a_receiver_to_set, a_receiver_here, to_initialize, words_wanted, want_size, right, wrong, right_if, verdict, verdicts, reference_verdict, setter_verdict, initializes, is_array_of_one, is_array_type, is_array_of_references}
use Rattle.type_laws.specs.Frames.{IsRight}
use Rattle.row_soundness.specs.Senses.{Sense, IsWord, IsReference}
use Rattle.row_soundness.specs.Fits.{Unset, Holds, HaveTypes}
use Rattle.row_soundness.specs.Operands.{words_of_wants, IsTested, WantFits, Operands}
use Rattle.row_soundness.specs.Knowledge.{Knows}

right_true : (b : Bool) → right_if b ≡ right → b ≡ true
right_true true e = refl
right_true false e = cc

is_wrong_right : wrong ≡ right → ⊥
is_wrong_right e = cc

-- after n types comes the next one
pub drop_next : (n : ℕ) (types : List VerificationType) (t : VerificationType) (tail : List VerificationType) → drop n types ≡ t ∷ tail → (drop (suc n) types ≡ tail) × (slice_index_or types n Top ≡ t)
drop_next zero [] t tail e = cc
drop_next zero (x ∷ types) t tail e = (cc, cc)
drop_next (suc n) [] t tail e = cc
drop_next (suc n) (x ∷ types) t tail e = drop_next n types t tail e

pub words_are : (ws : List Want) → words_wanted ws ≡ words_of_wants ws
words_are [] = refl
words_are (a_long ∷ ws) = omega (arith, sum_by-cons want_size a_long ws, words_are ws)
words_are (w ∷ ws) = omega (arith, sum_by-cons want_size w ws, words_are ws)

module _ {P : Type 0} (know : Sense P) (us : List ClassUnit) (knows : Knows know us) (env : Environment) (is_ours : env.hierarchy ≡ hierarchy_of (classes_of us)) (u : Unset) (h : P) where
  object_goes : (s : ObjectType) → is_object_assignable (hierarchy_of (classes_of us)) s (Class OBJECT) ≡ true
  object_goes (Class c) = refl
  object_goes (Other m) = refl
  object_goes (Array n x) = refl

  tested : (test : ObjectType → Bool) (v : ℕ) (t : VerificationType) → reference_verdict test t ≡ right → Holds know env u h v t → IsTested know env u h (λ s. test s ≡ true) v t
  tested test v Null e is = inl is
  tested test v (Object t) e is = elim is [ inl null ↦ inl null | inr there ↦ inr (t, refl, there, right_true (test t) e) ]
  tested test v t e is = cc

  goes : (v : ℕ) (t : VerificationType) (named : ObjectType) → IsTested know env u h (λ s. is_object_assignable env.hierarchy s named ≡ true) v t → IsReference know h v named
  goes v t named is = elim is [ inl null ↦ inl null | inr (s, same, there, e) ↦ inr (knows.up h v s named there (subst (λ x. is_object_assignable x s named ≡ true) is_ours e)) ]

  int_fits : (v : ℕ) (t : VerificationType) → verdict env an_int t ≡ right → Holds know env u h v t → IsWord know v
  int_fits v Int e is = is
  int_fits v t e is = cc

  setter_fits : (named : ObjectType) (v : ℕ) (t : VerificationType) → setter_verdict env named t ≡ right → Holds know env u h v t → IsReference know h v named ⊎ know.is_raw h v (Class env.class)
  setter_fits named v UninitThis e is = inr is.1
  setter_fits named v Null e is = inl (inl is)
  setter_fits named v (Object t) e is = inl (goes v (Object t) named (tested (λ s. is_object_assignable env.hierarchy s named) v (Object t) e is))
  setter_fits named v t e is = cc

  pub want_fits : (w : Want) (v : ℕ) (t : VerificationType) → verdict env w t ≡ right → Holds know env u h v t → WantFits know env u h w v t
  want_fits an_int v t e is = int_fits v t e is
  want_fits a_reference v t e is = elim (tested (λ s. true) v t e is) [ inl null ↦ inl null | inr (s, same, there, x) ↦ inr (knows.up h v s (Class OBJECT) there (object_goes s)) ]
  want_fits (a_reference_to named) v t e is = goes v t named (tested (λ s. is_object_assignable env.hierarchy s named) v t e is)
  want_fits (an_array_of xs) v t e is = tested (is_array_of_one xs) v t e is
  want_fits an_array v t e is = tested is_array_type v t e is
  want_fits an_array_of_references v t e is = tested is_array_of_references v t e is
  want_fits (a_receiver_to_set named) v t e is = setter_fits named v t e is
  want_fits (a_receiver_here named) v t e is = elim (tested _ v t e is) [
    | inl null ↦ inl null
    | inr (s, same, there, x) ↦
        let parts = and_parts (is_object_assignable env.hierarchy s named) _ x in
        let up = λ (d : ObjectType) (y : is_object_assignable env.hierarchy s d ≡ true). knows.up h v s d there (subst (λ z. is_object_assignable z s d ≡ true) is_ours y) in
        inr (up named parts.0, up (Class env.class) parts.1)
  ]
  want_fits (to_initialize named) v t e is = (is, right_true (initializes env named t) e)
  want_fits a_long v t e is = cc
  want_fits a_word v t e is = is
  want_fits a_whole v t e is = is
  want_fits a_stored_reference v t e is = is

  module _ (types : List VerificationType) where
    one_more : (n : ℕ) (w : Want) (ws : List Want) (v : ℕ) (vs : List ℕ) (t : VerificationType) → slice_index_or types n Top ≡ t → WantFits know env u h w v t → (w ≡ a_long → ⊥)
        → Operands know env u h types (suc n) ws vs → Operands know env u h types n (w ∷ ws) (v ∷ vs)
    one_more n a_long ws v vs t e fit other more = absurd (other refl)
    one_more n w ws v vs t e fit other more = (v, vs, refl, subst (λ x. WantFits know env u h w v x) (sym e) fit, more)

    by_wants : (n : ℕ) (ws : List Want) (vs : List ℕ) (tail : List VerificationType) → drop n types ≡ tail → words_of_wants ws ≤ length tail → AllByRecursion IsRight (verdicts env ws tail)
        → HaveTypes know env u h vs tail → Operands know env u h types n ws vs
    by_wants n [] vs tail e enough all is = subst (λ ts. HaveTypes know env u h vs ts) (sym e) is
    by_wants n (a_long ∷ ws) (high ∷ low ∷ vs) (Second ∷ Long ∷ tail) e enough all is =
        let first = drop_next n types Second (Long ∷ tail) e in
        let second = drop_next (suc n) types Long tail first.0 in
        (high, low, vs, refl, is.0, is.1.0, by_wants (suc (suc n)) ws vs tail second.0 (omega (arith, enough)) all.1 is.1.1)
    by_wants n (a_long ∷ ws) [] (x ∷ y ∷ ts) e enough all is = absurd is
    by_wants n (a_long ∷ ws) (v ∷ []) (x ∷ y ∷ ts) e enough all is = absurd is.1
    by_wants n (a_long ∷ ws) vs [] e enough all is = absurd (omega (arith, enough))
    by_wants n (a_long ∷ ws) vs (x ∷ []) e enough all is = absurd (omega (arith, enough))
    by_wants n (a_long ∷ ws) (v ∷ w ∷ vs) (x ∷ y ∷ ts) e enough all is = absurd (is_wrong_right all.0)
    by_wants n (w ∷ ws) [] (t ∷ ts) e enough all is = absurd is
    by_wants n (w ∷ ws) vs [] e enough all is = absurd (omega (arith, enough))
    by_wants n (w ∷ ws) (v ∷ vs) (t ∷ tail) e enough all is =
        let first = drop_next n types t tail e in
        one_more n w ws v vs t first.1 (want_fits w v t all.0 is.0) (λ x. cc) (by_wants (suc n) ws vs tail first.0 (omega (arith, enough)) all.1 is.1)

    pub operands : (ws : List Want) (vs : List ℕ) → words_wanted ws ≤ length types → AllByRecursion IsRight (verdicts env ws types) → HaveTypes know env u h vs types → Operands know env u h types 0 ws vs
    operands ws vs enough all is = by_wants 0 ws vs types refl (subst (λ n. n ≤ length types) (words_are ws) enough) all is

  -- a wanted word that isn't a long
  pub one_operand : (types : List VerificationType) (n : ℕ) (w : Want) (ws : List Want) (vs : List ℕ) → (w ≡ a_long → ⊥) → Operands know env u h types n (w ∷ ws) vs
      → (v : ℕ) × (rest : List ℕ) × (vs ≡ v ∷ rest) × WantFits know env u h w v (slice_index_or types n Top) × Operands know env u h types (suc n) ws rest
  one_operand types n a_long ws vs other is = absurd (other refl)
  one_operand types n w ws vs other is = is

-- the two counts of the words that are wanted are one number
pub word_count : (w : Want) (ws : List Want) → (w ≡ a_long → ⊥) → words_of_wants (w ∷ ws) ≡ suc (words_of_wants ws)
word_count a_long ws other = absurd (other refl)
word_count w ws other = refl
