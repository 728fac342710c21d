-- The text of a String is the same in two states where its words are.
use Rattle.std.proofs.Common.{◌≡◌, ◌≢◌, inl, inr, ◌==◌, ℕ, zero, suc, Some, List, ◌∷◌, refl, sym, ap, subst, ◌∙◌, if◌then◌else◌}
use Rattle.std.specs.Option.{option_map_or}
use Rattle.std.proofs.lemmas.Bool.{ne_eqb}
use Rattle.code_decode.specs.declared.code.ClassUnit.{ClassUnit}
use Rattle.std.specs.Prelude.{IsSomeAnd}
use Rattle.op_core.specs.declared.Op.{Op}
use Rattle.op_core.specs.declared.Op.TheVariants.{ClassOf, Read}
use Rattle.op_core.specs.declared.Reply.{Reply}
use Rattle.op_core.specs.declared.Reply.TheVariants.{Class, Value}
use Rattle.op_core.specs.OrdinaryState.{IsOfClass, Object, OrdinaryState}
use Rattle.op_core.specs.OrdinaryStep.{MayAnswer}
use Rattle.java_rows.specs.Plan.{Plan}
use Rattle.java_rows.specs.Numbers.{char_of}
use Rattle.java_rows.specs.Thread.{Local}
use Rattle.java_rows.specs.Units.{literal_units}
use Rattle.text_stages.specs.Reading.{Memory, followed_op, units_from}
use Rattle.accepted_runs.specs.Texts.{HasSameText, ReadsText, array_in, memory_of, text_of}

pub both_same : (s m last : OrdinaryState Local) (r : ℕ) → HasSameText s m r → HasSameText m last r → HasSameText s last r
both_same s m last r first second = record {
  array = second.array ∙ first.array;
  header = λ o e. subst (λ a. last.objects a ≡ Some o) first.array (second.header o (subst (λ a. m.objects a ≡ Some o) (sym first.array) (first.header o e)));
  units = λ i. subst (λ a. last.words a i ≡ m.words a i) first.array (second.units i) ∙ first.units i;
}

units_same : (m n : Memory) (array i count : ℕ) → ((j : ℕ) → m.words array j ≡ n.words array j) → units_from m array i count ≡ units_from n array i count
units_same m n array i zero same = refl
units_same m n array i (suc count) same = ap (λ v. char_of v ∷ units_from m array (suc i) count) (same i) ∙ ap (λ xs. char_of (n.words array i) ∷ xs) (units_same m n array (suc i) count same)

length_of : (s : OrdinaryState Local) (r : ℕ) (o : Object) → s.objects r ≡ Some o → (memory_of s).length r ≡ o.length
length_of s r o e = ap (λ x. option_map_or (λ (y : Object). y.length) x 0) e

-- what is answered of the class of an object that is there
same_header : (s last : OrdinaryState Local) (q c n : ℕ) (k : Reply → Plan) (o : Object) → s.objects q ≡ Some o → last.objects q ≡ Some o → IsOfClass last.objects q c n → k (Class ((memory_of s).class q) ((memory_of s).length q)) ≡ k (Class c n)
same_header s last q c n k o there later answered =
    let is : (o.class ≡ c) × (o.length ≡ n) = subst (λ x. IsSomeAnd x (λ y. (y.class ≡ c) × (y.length ≡ n))) later answered in
    ap (λ x. k (Class x ((memory_of s).length q))) (ap (λ x. option_map_or (λ (y : Object). y.class) x 0) there ∙ is.0) ∙ ap (λ x. k (Class c x)) (length_of s q o there ∙ is.1)

module _ (us : List ClassUnit) (s last : OrdinaryState Local) (r : ℕ) where
  -- what the text is, by the word of the String
  abbrev text_at : OrdinaryState Local → ℕ → List ℕ
  text_at m word = if word == 0 then literal_units us ((memory_of m).length r) else units_from (memory_of m) word 0 ((memory_of m).length word)

  pub made_text_same : array_in s r ≢ 0 → HasSameText s last r → (o : Object) → s.objects (array_in s r) ≡ Some o → text_of us last r ≡ text_of us s r
  made_text_same some same o there =
      ap (text_at last) same.array
      ∙ (ap (λ b. if b then literal_units us ((memory_of last).length r) else units_from (memory_of last) (array_in s r) 0 ((memory_of last).length (array_in s r))) (ne_eqb (array_in s r) 0 some)
      ∙ (ap (units_from (memory_of last) (array_in s r) 0) (length_of last (array_in s r) o (same.header o there) ∙ sym (length_of s (array_in s r) o there))
      ∙ (units_same (memory_of last) (memory_of s) (array_in s r) 0 ((memory_of s).length (array_in s r)) same.units
      ∙ sym (ap (λ b. if b then literal_units us ((memory_of s).length r) else units_from (memory_of s) (array_in s r) 0 ((memory_of s).length (array_in s r))) (ne_eqb (array_in s r) 0 some)))))

  -- what is read of the String or of its array
  pub replies_same : (t : ℕ) (op : Op) (reply : Reply) (k : Reply → Plan) (same : Plan) (o : Object) → s.objects r ≡ Some o → last.objects r ≡ Some o → array_in last r ≡ array_in s r
      → (array_in s r ≢ 0 → HasSameText s last r × ((x : Object) × (s.objects (array_in s r) ≡ Some x))) → ReadsText s r op → MayAnswer last t op reply → followed_op (memory_of s) op k same ≡ k reply
  replies_same t (Read q i) (Value v) k same o there later word array (inl (at, place)) answered =
      ap (λ x. k (Value x)) (sym (answered ∙ subst (λ x. last.words x i ≡ s.words x i) (sym at) (subst (λ y. last.words r y ≡ s.words r y) (sym place) word)))
  replies_same t (Read q i) (Value v) k same o there later word array (inr (at, some)) answered = ap (λ x. k (Value x)) (sym (answered ∙ subst (λ x. last.words x i ≡ s.words x i) (sym at) ((array some).0.units i)))
  replies_same t (ClassOf q) (Class c n) k same o there later word array (inl at) answered =
      same_header s last q c n k o (subst (λ x. s.objects x ≡ Some o) (sym at) there) (subst (λ x. last.objects x ≡ Some o) (sym at) later) answered
  replies_same t (ClassOf q) (Class c n) k same o there later word array (inr (at, some)) answered =
      let (x, here) = (array some).1 in
      same_header s last q c n k x (subst (λ z. s.objects z ≡ Some x) (sym at) here) (subst (λ z. last.objects z ≡ Some x) (sym at) ((array some).0.header x here)) answered
  replies_same t (Read q i) reply k same o there later word array reads answered = absurd answered
  replies_same t (ClassOf q) reply k same o there later word array reads answered = absurd answered
  replies_same t op reply k same o there later word array reads answered = absurd reads

  pub literal_text_same : (o : Object) → s.objects r ≡ Some o → last.objects r ≡ Some o → array_in s r ≡ 0 → array_in last r ≡ 0 → text_of us last r ≡ text_of us s r
  literal_text_same o there later none nothing =
      ap (text_at last) nothing ∙ (ap (literal_units us) (length_of last r o later ∙ sym (length_of s r o there)) ∙ sym (ap (text_at s) none))
