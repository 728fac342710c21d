-- Values that are read, and checks for null.
use Rattle.std.proofs.Common.{◌≡◌, ◌≢◌, ◌==◌, ℕ, suc, Bool, true, false, inl, inr, Option, Some, List, [], ◌∷◌, refl, sym, ◌∙◌, if◌then◌else◌}
use Rattle.std.proofs.lemmas.Bool.{eq-eqb}
use Rattle.builtin_world.specs.declared.number.TheConstants.{NULL_POINTER_EXCEPTION}
use Rattle.code_decode.specs.declared.code.ClassUnit.{ClassUnit}
use Rattle.link_types.specs.declared.types.ObjectType.{ObjectType}
use Rattle.link_types.specs.declared.types.ValueType.{ValueType}
use Rattle.type_rules.specs.Environment.{Environment, on_stack, type_of_value}
use Rattle.java_rows.specs.Objects.{reads_value}
use Rattle.java_rows.specs.Plan.{Frame, Plan, fails, unless_null}
use Rattle.row_soundness.specs.Senses.{Sense, Content, number, reference, IsReference, WordFits}
use Rattle.row_soundness.specs.Fits.{Unset, HaveTypes, ValueFits, Returns, StandsIn, returns_of, PlanFits, anything}
use Rattle.row_soundness.specs.Knowledge.{Knows, HasWords, contents_of}
use Rattle.row_soundness.specs.Accepted.{Accepted}
use Rattle.row_soundness.proofs.Plans.{reads_fit}
use Rattle.row_soundness.proofs.RowBasics.{fails_fit}
use Rattle.link_types.specs.declared.types.ValueType.TheVariants as values

module _ {P : Type 0} (know : Sense P) (us : List ClassUnit) (knows : Knows know us) (accepted : Accepted us) (me : ℕ) where
  -- ---- words of a value

  pub words_more : (h h' : P) (r i : ℕ) (ks : List Content) → know.extends h h' → HasWords know h r i ks → HasWords know h' r i ks
  words_more h h' r i [] more has = tt
  words_more h h' r i (k ∷ ks) more has = (knows.word_more h h' r i k more has.0, words_more h h' r (suc i) ks more has.1)

  pub one_read : (h : P) (res : Option Returns) (t : ValueType) (r i : ℕ) (k : List ℕ → Plan) (content : Content) → know.has_word h r i content
      → ((h' : P) (v : ℕ) → WordFits know h' v content → ValueFits know h' t (v ∷ []))
      → ((h' : P) (words : List ℕ) → know.extends h h' → ValueFits know h' t words → PlanFits know us res anything (k words) h')
      → PlanFits know us res anything (Rattle.java_rows.specs.Objects.reads_word r i k) h
  one_read h res t r i k content has is next = reads_fit know us knows res h r i content (λ v. k (v ∷ [])) has (λ h' v more fits. next h' (v ∷ []) more (is h' v fits))

  pub value_read : (h : P) (res : Option Returns) (t : ValueType) (r i : ℕ) (k : List ℕ → Plan) → HasWords know h r i (contents_of t)
      → ((h' : P) (words : List ℕ) → know.extends h h' → ValueFits know h' t words → PlanFits know us res anything (k words) h')
      → PlanFits know us res anything (reads_value t r i k) h
  value_read h res values.Long r i k has next =
      reads_fit know us knows res h r i number (λ low. Rattle.java_rows.specs.Plan.reads r (suc i) (λ high. k (high ∷ low ∷ []))) has.0 (λ h' low more low_fits.
      reads_fit know us knows res h' r (suc i) number (λ high. k (high ∷ low ∷ [])) (knows.word_more h h' r (suc i) number more has.1.0) (λ h'' high more' high_fits.
      next h'' (high ∷ low ∷ []) (knows.both h h' h'' more more') (high_fits, low_fits)))
  value_read h res (values.Object t) r i k has next = one_read h res (values.Object t) r i k (reference t) has.0 (λ h' v fits. fits) next
  value_read h res values.Boolean r i k has next = one_read h res values.Boolean r i k number has.0 (λ h' v fits. fits) next
  value_read h res values.Byte r i k has next = one_read h res values.Byte r i k number has.0 (λ h' v fits. fits) next
  value_read h res values.Char r i k has next = one_read h res values.Char r i k number has.0 (λ h' v fits. fits) next
  value_read h res values.Short r i k has next = one_read h res values.Short r i k number has.0 (λ h' v fits. fits) next
  value_read h res values.Int r i k has next = one_read h res values.Int r i k number has.0 (λ h' v fits. fits) next

  pub value_typed : (env : Environment) (u : Unset) (h : P) (t : ValueType) (words : List ℕ) → ValueFits know h t words → HaveTypes know env u h words (on_stack (type_of_value t))
  value_typed env u h values.Long (high ∷ low ∷ []) fits = (fits.0, (fits.1, tt))
  value_typed env u h (values.Object t) (v ∷ []) fits = (fits, tt)
  value_typed env u h values.Boolean (v ∷ []) fits = (fits, tt)
  value_typed env u h values.Byte (v ∷ []) fits = (fits, tt)
  value_typed env u h values.Char (v ∷ []) fits = (fits, tt)
  value_typed env u h values.Short (v ∷ []) fits = (fits, tt)
  value_typed env u h values.Int (v ∷ []) fits = (fits, tt)
  value_typed env u h t words fits = absurd fits

  -- ---- null

  -- a reference that isn't null
  pub there : (h : P) (r : ℕ) (t : ObjectType) → r ≢ 0 → IsReference know h r t → know.is_of h r t
  there h r t other is = elim is [ inl null ↦ absurd (other null) | inr of ↦ of ]

  pub unless_null_fits : (h : P) (f : Frame) (s : StandsIn know us h f) (r : ℕ) (k : Plan) → (r ≢ 0 → PlanFits know us (Some (returns_of know us h f s)) anything k h)
      → PlanFits know us (Some (returns_of know us h f s)) anything (unless_null f r k) h
  unless_null_fits h f s r k next = by_test (r == 0) (λ other. next (λ e. let bad : (r == 0) ≡ true = eq-eqb r 0 e in let worse : true ≡ false = sym bad ∙ other in cc))
    where
      by_test : (b : Bool) → (b ≡ false → PlanFits know us (Some (returns_of know us h f s)) anything k h) → PlanFits know us (Some (returns_of know us h f s)) anything (if b then fails f NULL_POINTER_EXCEPTION else k) h
      by_test true next = fails_fit know us knows accepted me h f s NULL_POINTER_EXCEPTION refl
      by_test false next = next refl
