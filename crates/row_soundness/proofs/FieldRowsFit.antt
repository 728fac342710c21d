-- The rows of fields of objects (JVMS 6.5 getfield, putfield).
use Rattle.std.proofs.Common.{◌≡◌, ◌≢◌, ◌==◌, ℕ, suc, Bool, true, false, inl, inr, Some, List, [], ◌∷◌, ◌++◌, drop, refl, sym, ap, subst, ◌∙◌, if◌then◌else◌}
use Rattle.std.proofs.lemmas.Bool.{eqb-true}
use Rattle.code_decode.specs.declared.code.ClassUnit.{ClassUnit}
use Rattle.instructions.specs.declared.what.Instr.{Instr}
use Rattle.instructions.specs.declared.what.Target.{Target}
use Rattle.link_types.specs.declared.operands.FieldOperand.{FieldOperand}
use Rattle.link_types.specs.declared.operands.Operand.{Operand}
use Rattle.link_types.specs.declared.types.ObjectType.TheVariants.{Class}
use Rattle.link_types.specs.declared.types.ValueType.{ValueType}
use Rattle.link_rules.specs.Names.{program_names}
use Rattle.link_rules.specs.Operands.{operand}
use Rattle.link_rules.specs.Uses.{IsFieldOperand}
use Rattle.type_rules.specs.declared.types.VerificationType.{VerificationType}
use Rattle.type_rules.specs.Environment.{on_stack, type_of_value}
use Rattle.type_rules.specs.FrameAfter.{field_pushes}
use Rattle.type_rules.specs.Wants.{Want, field_wants, words_wanted, a_long, type_wanted, setter_wanted, a_reference_to, a_receiver_to_set}
use Rattle.java_rows.specs.Numbers.{kept}
use Rattle.java_rows.specs.Objects.{reads_value, writes_long, gets_field, puts_field, puts_value, puts_word, puts_long}
use Rattle.java_rows.specs.Plan.{Frame, completes, writes}
use Rattle.java_rows.specs.Program.{field_of}
use Rattle.row_soundness.specs.Senses.{Sense, Content, number, reference, IsWord, IsReference, WordFits}
use Rattle.row_soundness.specs.Fits.{HaveTypes, ValueFits, returns_of, env_of}
use Rattle.row_soundness.specs.Operands.{Begins, Operands, WantFits, words_of_wants, at_offset}
use Rattle.row_soundness.specs.Knowledge.{Knows, HasWords, contents_of}
use Rattle.row_soundness.specs.Accepted.{Accepted}
use Rattle.row_soundness.proofs.Basics.{append_typed, types_more}
use Rattle.row_soundness.proofs.Flow.{next_fits, begins_more}
use Rattle.row_soundness.proofs.Operands.{one_operand, word_count, words_are}
use Rattle.row_soundness.proofs.Plans.{writes_fit}
use Rattle.row_soundness.proofs.RowBasics.{RowFits, takes, Fit, completes_fit}
use Rattle.instructions.specs.declared.operation.FieldAccess.TheVariants as fields
use Rattle.instructions.specs.declared.what.What.TheVariants as whats
use Rattle.link_types.specs.declared.operands.Operand.TheVariants as operands
use Rattle.link_types.specs.declared.types.ValueType.TheVariants as values
use Rattle.row_soundness.proofs.ReadValues.{value_read, value_typed, unless_null_fits, there}

module _ {P : Type 0} (know : Sense P) (us : List ClassUnit) (knows : Knows know us) (accepted : Accepted us) (me : ℕ) where
  -- ---- fields

  module _ (index at next : ℕ) where
    abbrev getfield : Instr Target
    getfield = at_offset at next (whats.Field fields.GetField index)

    -- it goes on at the next instruction with the words that were read
    got : (h : P) (f : Frame) (b : Begins know us h f getfield) (field : FieldOperand) → operand us f.method.class index ≡ operands.Field field → (words rest : List ℕ) → ValueFits know h field.kind words
        → HaveTypes know (env_of us f.method b.stands.of) b.stands.unset h rest (drop 1 (b.stands.frames f.step).stack) → Fit know us knows accepted me h f getfield b (completes f (words ++ rest))
    got h f b field e words rest fits left =
        let stack : HaveTypes know (env_of us f.method b.stands.of) b.stands.unset h (words ++ rest) (on_stack (type_of_value field.kind) ++ drop 1 (b.stands.frames f.step).stack) =
        append_typed know (env_of us f.method b.stands.of) b.stands.unset h words rest _ _ (value_typed know us knows accepted me (env_of us f.method b.stands.of) b.stands.unset h field.kind words fits) left in (
          tt,
          (next_fits know us knows accepted h f getfield b b.stands.unset.made f.locals (words ++ rest) refl (record {
            locals_fit = b.stands.locals;
            stack_fits = subst (λ o. HaveTypes know (env_of us f.method b.stands.of) b.stands.unset h (words ++ rest) (field_pushes fields.GetField o ++ drop (words_wanted (field_wants (env_of us f.method b.stands.of) fields.GetField o)) (b.stands.frames f.step).stack)) (sym e) stack;
            set = b.stands.set;
          })).0,
        )

    by_field : (h : P) (f : Frame) (b : Begins know us h f getfield) (o : Operand) → operand us f.method.class index ≡ o → IsFieldOperand (program_names us) f.method.class fields.GetField o
        → Operands know (env_of us f.method b.stands.of) b.stands.unset h (b.stands.frames f.step).stack 0 (field_wants (env_of us f.method b.stands.of) fields.GetField o) f.stack
        → Fit know us knows accepted me h f getfield b (gets_field f (field_of o) f.stack)
    by_field h f b (operands.Field field) e fits (r, rest, are, r_fits, left) =
        subst (λ s. Fit know us knows accepted me h f getfield b (gets_field f (Some field) s)) (sym are)
        (unless_null_fits know us knows accepted me h f b.stands r (reads_value field.kind r field.place (λ words. completes f (words ++ rest))) (λ other.
        let owner : know.is_of h r (Class field.owner) = knows.up h r field.named (Class field.owner) (there know us knows accepted me h r field.named other r_fits) (accepted.inherits f.method.class index field e fits.static) in
        value_read know us knows accepted me h (Some (returns_of know us h f b.stands)) field.kind r field.place (λ words. completes f (words ++ rest))
        (knows.fields h r field (record { this = f.method.class; index = index; stands = e; kind = fits.static }) (knows.raw_of h r (Class field.owner) owner))
        (λ h' words more words_fit. got h' f (begins_more know us knows accepted h h' more f getfield b) field e words rest words_fit
        (types_more know us knows (env_of us f.method b.stands.of) b.stands.unset h h' rest _ more left))))
    by_field h f b operands.Out e same taken = cc
    by_field h f b o e fits taken = absurd fits

    pub getfield_fits : (h : P) (f : Frame) (b : Begins know us h f getfield) → RowFits know us knows accepted me h f getfield b
    getfield_fits h f b =
        by_field h f b (operand us f.method.class index) refl (accepted.fields f.method b.stands.of f.step at next index fields.GetField b.at) (takes know us knows accepted me h f getfield b)

  module _ (index at next : ℕ) where
    abbrev putfield : Instr Target
    putfield = at_offset at next (whats.Field fields.PutField index)

    put : (h : P) (f : Frame) (b : Begins know us h f putfield) (field : FieldOperand) → operand us f.method.class index ≡ operands.Field field → (rest : List ℕ)
        → HaveTypes know (env_of us f.method b.stands.of) b.stands.unset h rest (drop (words_wanted (field_wants (env_of us f.method b.stands.of) fields.PutField (operands.Field field))) (b.stands.frames f.step).stack)
        → Fit know us knows accepted me h f putfield b (completes f rest)
    put h f b field e rest left =
        completes_fit know us knows accepted me h f putfield b rest refl (record {
          locals_fit = b.stands.locals;
          stack_fits = subst (λ o. HaveTypes know (env_of us f.method b.stands.of) b.stands.unset h rest (drop (words_wanted (field_wants (env_of us f.method b.stands.of) fields.PutField o)) (b.stands.frames f.step).stack)) (sym e) left;
          set = b.stands.set;
        })

    -- the object whose field is set, where it isn't null
    setter_raw : (h : P) (f : Frame) (b : Begins know us h f putfield) (field : FieldOperand) → operand us f.method.class index ≡ operands.Field field → field.is_static ≡ false
        → (r : ℕ) (t : VerificationType) → r ≢ 0 → WantFits know (env_of us f.method b.stands.of) b.stands.unset h (setter_wanted (env_of us f.method b.stands.of) field) r t → know.is_raw h r (Class field.owner)
    setter_raw h f b field e static r t other fits = by_owner (field.owner == f.method.class) refl fits
      where
        of_named : IsReference know h r field.named → know.is_raw h r (Class field.owner)
        of_named is = knows.raw_of h r (Class field.owner) (knows.up h r field.named (Class field.owner) (there know us knows accepted me h r field.named other is) (accepted.inherits f.method.class index field e static))

        by_owner : (own : Bool) → (field.owner == f.method.class) ≡ own → WantFits know (env_of us f.method b.stands.of) b.stands.unset h (if own then a_receiver_to_set field.named else a_reference_to field.named) r t → know.is_raw h r (Class field.owner)
        by_owner true same fits = elim fits [ inl is ↦ of_named is | inr raw ↦ subst (λ c. know.is_raw h r (Class c)) (sym (eqb-true field.owner f.method.class same)) raw ]
        by_owner false same fits = of_named fits

    module _ (h : P) (f : Frame) (b : Begins know us h f putfield) (field : FieldOperand) (e : operand us f.method.class index ≡ operands.Field field) (static : field.is_static ≡ false) where
      abbrev IsLeft : ℕ → List ℕ → Type 0
      IsLeft n rest = HaveTypes know (env_of us f.method b.stands.of) b.stands.unset h rest (drop n (b.stands.frames f.step).stack)

      has_words : (r : ℕ) (t : VerificationType) → r ≢ 0 → WantFits know (env_of us f.method b.stands.of) b.stands.unset h (setter_wanted (env_of us f.method b.stands.of) field) r t → HasWords know h r field.place (contents_of field.kind)
      has_words r t other fits = knows.fields h r field (record { this = f.method.class; index = index; stands = e; kind = static }) (setter_raw h f b field e static r t other fits)

      -- of one word
      put_word : (content : Content) (v r : ℕ) (rest : List ℕ) (t : VerificationType) (kind : ValueType) → field.kind ≡ kind → contents_of kind ≡ content ∷ [] → words_wanted (field_wants (env_of us f.method b.stands.of) fields.PutField (operands.Field field)) ≡ 2
          → WordFits know h (kept kind v) content → WantFits know (env_of us f.method b.stands.of) b.stands.unset h (setter_wanted (env_of us f.method b.stands.of) field) r t → IsLeft 2 rest
          → Fit know us knows accepted me h f putfield b (puts_word f kind field.place (v ∷ r ∷ rest))
      put_word content v r rest t kind same one two v_fits r_fits left =
          unless_null_fits know us knows accepted me h f b.stands r (writes r field.place (kept kind v) (completes f rest)) (λ other.
          writes_fit know us knows (Some (returns_of know us h f b.stands)) h r field.place (kept kind v) content (completes f rest)
          (subst (λ ks. HasWords know h r field.place ks) (ap contents_of same ∙ one) (has_words r t other r_fits)).0 v_fits
          (λ h' more. put h' f (begins_more know us knows accepted h h' more f putfield b) field e rest
          (types_more know us knows (env_of us f.method b.stands.of) b.stands.unset h h' rest _ more (subst (λ n. IsLeft n rest) (sym two) left))))

      put_long : (high low r : ℕ) (rest : List ℕ) (t : VerificationType) → field.kind ≡ values.Long → words_wanted (field_wants (env_of us f.method b.stands.of) fields.PutField (operands.Field field)) ≡ 3
          → IsWord know high → IsWord know low → WantFits know (env_of us f.method b.stands.of) b.stands.unset h (setter_wanted (env_of us f.method b.stands.of) field) r t → IsLeft 3 rest
          → Fit know us knows accepted me h f putfield b (puts_long f field.place (high ∷ low ∷ r ∷ rest))
      put_long high low r rest t same three high_fits low_fits r_fits left =
          unless_null_fits know us knows accepted me h f b.stands r (writes_long r field.place low high (completes f rest)) (λ other.
          let has : HasWords know h r field.place (number ∷ number ∷ []) = subst (λ ks. HasWords know h r field.place ks) (ap contents_of same) (has_words r t other r_fits) in
          writes_fit know us knows (Some (returns_of know us h f b.stands)) h r field.place low number (writes r (suc field.place) high (completes f rest)) has.0 low_fits (λ h' more.
          writes_fit know us knows (Some (returns_of know us h f b.stands)) h' r (suc field.place) high number (completes f rest) (knows.word_more h h' r (suc field.place) number more has.1.0) high_fits (λ h'' more'.
          let both = knows.both h h' h'' more more' in
          put h'' f (begins_more know us knows accepted h h'' both f putfield b) field e rest
          (types_more know us knows (env_of us f.method b.stands.of) b.stands.unset h h'' rest _ both (subst (λ n. IsLeft n rest) (sym three) left)))))

      setter_short : setter_wanted (env_of us f.method b.stands.of) field ≡ a_long → ⊥
      setter_short = by_owner (field.owner == f.method.class)
        where
          by_owner : (own : Bool) → (if own then a_receiver_to_set field.named else a_reference_to field.named) ≡ a_long → ⊥
          by_owner true x = cc
          by_owner false x = cc

      count : (n : ℕ) → words_of_wants (field_wants (env_of us f.method b.stands.of) fields.PutField (operands.Field field)) ≡ n → words_wanted (field_wants (env_of us f.method b.stands.of) fields.PutField (operands.Field field)) ≡ n
      count n is = words_are (field_wants (env_of us f.method b.stands.of) fields.PutField (operands.Field field)) ∙ is

      abbrev Wanted : Want → Type 0
      Wanted w = Operands know (env_of us f.method b.stands.of) b.stands.unset h (b.stands.frames f.step).stack 0 (w ∷ setter_wanted (env_of us f.method b.stands.of) field ∷ []) f.stack

      -- of a value that is one word
      put_one : (kind : ValueType) (content : Content) → field.kind ≡ kind → contents_of kind ≡ content ∷ [] → (type_wanted kind ≡ a_long → ⊥)
          → ((v : ℕ) (t : VerificationType) → WantFits know (env_of us f.method b.stands.of) b.stands.unset h (type_wanted kind) v t → WordFits know h (kept kind v) content)
          → Wanted (type_wanted kind) → (v r : ℕ) × (rest : List ℕ) × (f.stack ≡ v ∷ r ∷ rest) × Fit know us knows accepted me h f putfield b (puts_word f kind field.place (v ∷ r ∷ rest))
      put_one kind content same one short fits taken =
          let (v, rs, are, v_fits, more) = one_operand know us knows (env_of us f.method b.stands.of) refl b.stands.unset h (b.stands.frames f.step).stack 0 (type_wanted kind) (setter_wanted (env_of us f.method b.stands.of) field ∷ []) f.stack short taken in
          let (r, rest, are', r_fits, left) = one_operand know us knows (env_of us f.method b.stands.of) refl b.stands.unset h (b.stands.frames f.step).stack 1 (setter_wanted (env_of us f.method b.stands.of) field) [] rs setter_short more in
          let two = count 2 (subst (λ k. words_of_wants (type_wanted k ∷ setter_wanted (env_of us f.method b.stands.of) field ∷ []) ≡ 2) (sym same) (word_count (type_wanted kind) _ short ∙ ap suc (word_count _ [] setter_short))) in
          (v, r, rest, are ∙ ap (λ s. v ∷ s) are', put_word content v r rest _ kind same one two (fits v _ v_fits) r_fits left)

      put_value : (kind : ValueType) → field.kind ≡ kind → Wanted (type_wanted kind) → Fit know us knows accepted me h f putfield b (puts_value f kind field.place f.stack)
      put_value values.Long same (high, low, rs, are, high_fits, low_fits, more) =
          let (r, rest, are', r_fits, left) = one_operand know us knows (env_of us f.method b.stands.of) refl b.stands.unset h (b.stands.frames f.step).stack 2 (setter_wanted (env_of us f.method b.stands.of) field) [] rs setter_short more in
          let three = count 3 (subst (λ k. words_of_wants (type_wanted k ∷ setter_wanted (env_of us f.method b.stands.of) field ∷ []) ≡ 3) (sym same) (ap (λ n. suc (suc n)) (word_count _ [] setter_short))) in
          subst (λ s. Fit know us knows accepted me h f putfield b (puts_long f field.place s)) (sym (are ∙ ap (λ s. high ∷ low ∷ s) are'))
          (put_long high low r rest _ same three high_fits low_fits r_fits left)
      put_value (values.Object t) same taken = let (v, r, rest, are, fit) = put_one (values.Object t) (reference t) same refl (λ x. cc) (λ v t fits. fits) taken in subst (λ s. Fit know us knows accepted me h f putfield b (puts_word f (values.Object t) field.place s)) (sym are) fit
      put_value values.Boolean same taken = let (v, r, rest, are, fit) = put_one values.Boolean number same refl (λ x. cc) (λ v t fits exact. accepted.numbers.kept values.Boolean v (fits exact)) taken in subst (λ s. Fit know us knows accepted me h f putfield b (puts_word f values.Boolean field.place s)) (sym are) fit
      put_value values.Byte same taken = let (v, r, rest, are, fit) = put_one values.Byte number same refl (λ x. cc) (λ v t fits exact. accepted.numbers.kept values.Byte v (fits exact)) taken in subst (λ s. Fit know us knows accepted me h f putfield b (puts_word f values.Byte field.place s)) (sym are) fit
      put_value values.Char same taken = let (v, r, rest, are, fit) = put_one values.Char number same refl (λ x. cc) (λ v t fits exact. accepted.numbers.kept values.Char v (fits exact)) taken in subst (λ s. Fit know us knows accepted me h f putfield b (puts_word f values.Char field.place s)) (sym are) fit
      put_value values.Short same taken = let (v, r, rest, are, fit) = put_one values.Short number same refl (λ x. cc) (λ v t fits exact. accepted.numbers.kept values.Short v (fits exact)) taken in subst (λ s. Fit know us knows accepted me h f putfield b (puts_word f values.Short field.place s)) (sym are) fit
      put_value values.Int same taken = let (v, r, rest, are, fit) = put_one values.Int number same refl (λ x. cc) (λ v t fits exact. accepted.numbers.kept values.Int v (fits exact)) taken in subst (λ s. Fit know us knows accepted me h f putfield b (puts_word f values.Int field.place s)) (sym are) fit

    by_put_field : (h : P) (f : Frame) (b : Begins know us h f putfield) (o : Operand) → operand us f.method.class index ≡ o → IsFieldOperand (program_names us) f.method.class fields.PutField o
        → Operands know (env_of us f.method b.stands.of) b.stands.unset h (b.stands.frames f.step).stack 0 (field_wants (env_of us f.method b.stands.of) fields.PutField o) f.stack
        → Fit know us knows accepted me h f putfield b (puts_field f (field_of o) f.stack)
    by_put_field h f b (operands.Field field) e fits taken = put_value h f b field e fits.static field.kind refl taken
    by_put_field h f b operands.Out e same taken = cc
    by_put_field h f b o e fits taken = absurd fits

    pub putfield_fits : (h : P) (f : Frame) (b : Begins know us h f putfield) → RowFits know us knows accepted me h f putfield b
    putfield_fits h f b =
        by_put_field h f b (operand us f.method.class index) refl (accepted.fields f.method b.stands.of f.step at next index fields.PutField b.at) (takes know us knows accepted me h f putfield b)
