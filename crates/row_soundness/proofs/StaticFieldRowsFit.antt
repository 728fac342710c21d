-- The rows of static fields (JVMS 6.5 getstatic, putstatic).
use Rattle.std.proofs.Common.{◌≡◌, ℕ, suc, true, inr, Some, List, [], ◌∷◌, ◌++◌, drop, refl, sym, ap, subst, ◌∙◌}
use Rattle.code_decode.specs.declared.code.ClassUnit.{ClassUnit}
use Rattle.instructions.specs.declared.what.Instr.{Instr}
use Rattle.instructions.specs.declared.what.Target.{Target}
use Rattle.link_types.specs.declared.operands.FieldOperand.{FieldOperand}
use Rattle.link_types.specs.declared.operands.Operand.{Operand}
use Rattle.link_rules.specs.FixedObjects.{system_out_object}
use Rattle.link_rules.specs.Names.{program_names}
use Rattle.link_rules.specs.Operands.{operand}
use Rattle.link_rules.specs.Uses.{IsFieldOperand}
use Rattle.type_rules.specs.declared.types.VerificationType.{VerificationType}
use Rattle.type_rules.specs.FrameAfter.{field_pushes}
use Rattle.type_rules.specs.Wants.{field_wants, words_wanted, a_long, type_wanted}
use Rattle.java_rows.specs.Initialization.{behind_class, gets_static, statics_of, puts_static, puts_static_value, puts_static_word, puts_static_long}
use Rattle.java_rows.specs.Objects.{reads_value, writes_long}
use Rattle.java_rows.specs.Plan.{Frame, completes, writes}
use Rattle.java_rows.specs.Program.{field_of}
use Rattle.row_soundness.specs.Senses.{Sense, Content, number, reference, WordFits}
use Rattle.row_soundness.specs.Fits.{HaveTypes, env_of, returns_of}
use Rattle.row_soundness.specs.Operands.{Begins, at_offset, Operands, WantFits}
use Rattle.row_soundness.specs.Knowledge.{Knows, HasWords, contents_of}
use Rattle.row_soundness.specs.Accepted.{Accepted}
use Rattle.row_soundness.proofs.Basics.{append_typed, types_more, reference_more}
use Rattle.row_soundness.proofs.Flow.{begins_more}
use Rattle.row_soundness.proofs.Plans.{writes_fit}
use Rattle.row_soundness.proofs.RowBasics.{RowFits, Fit, completes_fit, takes}
use Rattle.row_soundness.proofs.ReadValues.{value_read, value_typed}
use Rattle.link_types.specs.declared.types.ValueType.{ValueType}
use Rattle.java_rows.specs.Numbers.{kept}
use Rattle.row_soundness.proofs.Operands.{one_operand}
use Rattle.row_soundness.proofs.InitializationFits.{after_class_fits}
use Rattle.instructions.specs.declared.operation.FieldAccess.TheVariants as fields
use Rattle.instructions.specs.declared.what.What.TheVariants as whats
use Rattle.link_types.specs.declared.operands.Operand.TheVariants as operands
use Rattle.link_types.specs.declared.types.ValueType.TheVariants as values

module _ {P : Type 0} (know : Sense P) (us : List ClassUnit) (knows : Knows know us) (accepted : Accepted us) (me : ℕ) where
  module _ (index at next : ℕ) where
    abbrev getstatic : Instr Target
    getstatic = at_offset at next (whats.Field fields.GetStatic index)

    got : (h : P) (f : Frame) (b : Begins know us h f getstatic) (o : Operand) → operand us f.method.class index ≡ o → (words : List ℕ) → field_wants (env_of us f.method b.stands.of) fields.GetStatic o ≡ []
        → HaveTypes know (env_of us f.method b.stands.of) b.stands.unset h words (field_pushes fields.GetStatic o) → Fit know us knows accepted me h f getstatic b (completes f (words ++ f.stack))
    got h f b o e words none typed =
        let env = env_of us f.method b.stands.of in
        completes_fit know us knows accepted me h f getstatic b (words ++ f.stack) refl (record {
          locals_fit = b.stands.locals;
          stack_fits = subst (λ x. HaveTypes know env b.stands.unset h (words ++ f.stack) (field_pushes fields.GetStatic x ++ drop (words_wanted (field_wants env fields.GetStatic x)) (b.stands.frames f.step).stack)) (sym e)
              (subst (λ ws. HaveTypes know env b.stands.unset h (words ++ f.stack) (field_pushes fields.GetStatic o ++ drop (words_wanted ws) (b.stands.frames f.step).stack)) (sym none)
              (append_typed know env b.stands.unset h words f.stack _ _ typed b.stack));
          set = b.stands.set;
        })

    by_static : (h : P) (f : Frame) (b : Begins know us h f getstatic) (o : Operand) → operand us f.method.class index ≡ o → IsFieldOperand (program_names us) f.method.class fields.GetStatic o
        → Fit know us knows accepted me h f getstatic b (gets_static us f o)
    by_static h f b (operands.Field field) e fits =
        after_class_fits know us knows accepted me h f b.stands field.owner (reads_value field.kind (statics_of us field) field.place (λ words. completes f (words ++ f.stack))) (λ h' more.
        value_read know us knows accepted me h' (Some (returns_of know us h f b.stands)) field.kind (statics_of us field) field.place (λ words. completes f (words ++ f.stack))
        (knows.statics h' field (record { this = f.method.class; index = index; stands = e; kind = fits.static })) (λ h'' words more' words_fit.
        got h'' f (begins_more know us knows accepted h h'' (knows.both h h' h'' more more') f getstatic b) (operands.Field field) e words refl
        (value_typed know us knows accepted me (env_of us f.method b.stands.of) b.stands.unset h'' field.kind words words_fit)))
    by_static h f b operands.Out e same = (tt, got h f b operands.Out e (system_out_object (program_names us) ∷ []) refl (inr (knows.out h), tt))
    by_static h f b o e fits = absurd fits

    pub getstatic_fits : (h : P) (f : Frame) (b : Begins know us h f getstatic) → RowFits know us knows accepted me h f getstatic b
    getstatic_fits h f b = by_static h f b (operand us f.method.class index) refl (accepted.fields f.method b.stands.of f.step at next index fields.GetStatic b.at)

  -- ---- putstatic

  module _ (index at next : ℕ) where
    abbrev putstatic : Instr Target
    putstatic = at_offset at next (whats.Field fields.PutStatic index)

    put : (h : P) (f : Frame) (b : Begins know us h f putstatic) (field : FieldOperand) → operand us f.method.class index ≡ operands.Field field → (n : ℕ) (rest : List ℕ) → words_wanted (type_wanted field.kind ∷ []) ≡ n
        → HaveTypes know (env_of us f.method b.stands.of) b.stands.unset h rest (drop n (b.stands.frames f.step).stack) → Fit know us knows accepted me h f putstatic b (completes f rest)
    put h f b field e n rest count left = completes_fit know us knows accepted me h f putstatic b rest refl (record {
      locals_fit = b.stands.locals;
      stack_fits = subst (λ o. HaveTypes know (env_of us f.method b.stands.of) b.stands.unset h rest (drop (words_wanted (field_wants (env_of us f.method b.stands.of) fields.PutStatic o)) (b.stands.frames f.step).stack)) (sym e)
          (subst (λ k. HaveTypes know (env_of us f.method b.stands.of) b.stands.unset h rest (drop k (b.stands.frames f.step).stack)) (sym count) left);
      set = b.stands.set;
    })

    module _ (h : P) (f : Frame) (b : Begins know us h f putstatic) (field : FieldOperand) (e : operand us f.method.class index ≡ operands.Field field) (static : field.is_static ≡ true) where
      words_at : (h' : P) → HasWords know h' (statics_of us field) field.place (contents_of field.kind)
      words_at h' = knows.statics h' field (record { this = f.method.class; index = index; stands = e; kind = static })

      put_one : (kind : ValueType) (content : Content) → field.kind ≡ kind → contents_of kind ≡ content ∷ [] → words_wanted (type_wanted kind ∷ []) ≡ 1 → (type_wanted kind ≡ a_long → ⊥)
          → ((h' : P) (v : ℕ) (t : VerificationType) → know.extends h h' → WantFits know (env_of us f.method b.stands.of) b.stands.unset h (type_wanted kind) v t → WordFits know h' (kept kind v) content)
          → Operands know (env_of us f.method b.stands.of) b.stands.unset h (b.stands.frames f.step).stack 0 (type_wanted kind ∷ []) f.stack
          → (v : ℕ) × (rest : List ℕ) × (f.stack ≡ v ∷ rest) × Fit know us knows accepted me h f putstatic b (behind_class us f field.owner (writes (statics_of us field) field.place (kept kind v) (completes f rest)))
      put_one kind content same one count short fits taken =
          let (v, rest, are, v_fits, left) = one_operand know us knows (env_of us f.method b.stands.of) refl b.stands.unset h (b.stands.frames f.step).stack 0 (type_wanted kind) [] f.stack short taken in (
            v,
            rest,
            are,
            after_class_fits know us knows accepted me h f b.stands field.owner (writes (statics_of us field) field.place (kept kind v) (completes f rest)) (λ h' more.
                writes_fit know us knows (Some (returns_of know us h f b.stands)) h' (statics_of us field) field.place (kept kind v) content (completes f rest)
                (subst (λ ks. HasWords know h' (statics_of us field) field.place ks) (ap contents_of same ∙ one) (words_at h')).0 (fits h' v _ more v_fits) (λ h'' more'.
                let both = knows.both h h' h'' more more' in
                put h'' f (begins_more know us knows accepted h h'' both f putstatic b) field e 1 rest (ap (λ k. words_wanted (type_wanted k ∷ [])) same ∙ count) (types_more know us knows (env_of us f.method b.stands.of) b.stands.unset h h'' rest _ both left))),
          )

      put_value : (kind : ValueType) → field.kind ≡ kind → Operands know (env_of us f.method b.stands.of) b.stands.unset h (b.stands.frames f.step).stack 0 (type_wanted kind ∷ []) f.stack
          → Fit know us knows accepted me h f putstatic b (puts_static_value us f field kind f.stack)
      put_value values.Long same (high, low, rest, are, high_fits, low_fits, left) =
          subst (λ s. Fit know us knows accepted me h f putstatic b (puts_static_long us f field s)) (sym are)
          (after_class_fits know us knows accepted me h f b.stands field.owner (writes_long (statics_of us field) field.place low high (completes f rest)) (λ h' more.
          let has : HasWords know h' (statics_of us field) field.place (number ∷ number ∷ []) = subst (λ ks. HasWords know h' (statics_of us field) field.place ks) (ap contents_of same) (words_at h') in
          writes_fit know us knows (Some (returns_of know us h f b.stands)) h' (statics_of us field) field.place low number (writes (statics_of us field) (suc field.place) high (completes f rest)) has.0 low_fits (λ h'' more'.
          writes_fit know us knows (Some (returns_of know us h f b.stands)) h'' (statics_of us field) (suc field.place) high number (completes f rest) (knows.word_more h' h'' _ _ number more' has.1.0) high_fits (λ h3 more3.
          let all = knows.both h h'' h3 (knows.both h h' h'' more more') more3 in
          put h3 f (begins_more know us knows accepted h h3 all f putstatic b) field e 2 rest (ap (λ k. words_wanted (type_wanted k ∷ [])) same) (types_more know us knows (env_of us f.method b.stands.of) b.stands.unset h h3 rest _ all left)))))
      put_value (values.Object t) same taken = let (v, rest, are, fit) = put_one (values.Object t) (reference t) same refl refl (λ x. cc) (λ h' v t more fits. reference_more know us knows h h' v _ more fits) taken in subst (λ s. Fit know us knows accepted me h f putstatic b (puts_static_word us f field s)) (sym are) (subst (λ k. Fit know us knows accepted me h f putstatic b (behind_class us f field.owner (writes (statics_of us field) field.place (kept k v) (completes f rest)))) (sym same) fit)
      put_value values.Boolean same taken = let (v, rest, are, fit) = put_one values.Boolean number same refl refl (λ x. cc) (λ h' v t more fits exact. accepted.numbers.kept values.Boolean v (fits exact)) taken in subst (λ s. Fit know us knows accepted me h f putstatic b (puts_static_word us f field s)) (sym are) (subst (λ k. Fit know us knows accepted me h f putstatic b (behind_class us f field.owner (writes (statics_of us field) field.place (kept k v) (completes f rest)))) (sym same) fit)
      put_value values.Byte same taken = let (v, rest, are, fit) = put_one values.Byte number same refl refl (λ x. cc) (λ h' v t more fits exact. accepted.numbers.kept values.Byte v (fits exact)) taken in subst (λ s. Fit know us knows accepted me h f putstatic b (puts_static_word us f field s)) (sym are) (subst (λ k. Fit know us knows accepted me h f putstatic b (behind_class us f field.owner (writes (statics_of us field) field.place (kept k v) (completes f rest)))) (sym same) fit)
      put_value values.Char same taken = let (v, rest, are, fit) = put_one values.Char number same refl refl (λ x. cc) (λ h' v t more fits exact. accepted.numbers.kept values.Char v (fits exact)) taken in subst (λ s. Fit know us knows accepted me h f putstatic b (puts_static_word us f field s)) (sym are) (subst (λ k. Fit know us knows accepted me h f putstatic b (behind_class us f field.owner (writes (statics_of us field) field.place (kept k v) (completes f rest)))) (sym same) fit)
      put_value values.Short same taken = let (v, rest, are, fit) = put_one values.Short number same refl refl (λ x. cc) (λ h' v t more fits exact. accepted.numbers.kept values.Short v (fits exact)) taken in subst (λ s. Fit know us knows accepted me h f putstatic b (puts_static_word us f field s)) (sym are) (subst (λ k. Fit know us knows accepted me h f putstatic b (behind_class us f field.owner (writes (statics_of us field) field.place (kept k v) (completes f rest)))) (sym same) fit)
      put_value values.Int same taken = let (v, rest, are, fit) = put_one values.Int number same refl refl (λ x. cc) (λ h' v t more fits exact. accepted.numbers.kept values.Int v (fits exact)) taken in subst (λ s. Fit know us knows accepted me h f putstatic b (puts_static_word us f field s)) (sym are) (subst (λ k. Fit know us knows accepted me h f putstatic b (behind_class us f field.owner (writes (statics_of us field) field.place (kept k v) (completes f rest)))) (sym same) fit)

    by_put_static : (h : P) (f : Frame) (b : Begins know us h f putstatic) (o : Operand) → operand us f.method.class index ≡ o → IsFieldOperand (program_names us) f.method.class fields.PutStatic o
        → Operands know (env_of us f.method b.stands.of) b.stands.unset h (b.stands.frames f.step).stack 0 (field_wants (env_of us f.method b.stands.of) fields.PutStatic o) f.stack
        → Fit know us knows accepted me h f putstatic b (puts_static us f (field_of o) f.stack)
    by_put_static h f b (operands.Field field) e fits taken = put_value h f b field e fits.static field.kind refl taken
    by_put_static h f b operands.Out e same taken = cc
    by_put_static h f b o e fits taken = absurd fits

    pub putstatic_fits : (h : P) (f : Frame) (b : Begins know us h f putstatic) → RowFits know us knows accepted me h f putstatic b
    putstatic_fits h f b = by_put_static h f b (operand us f.method.class index) refl (accepted.fields f.method b.stands.of f.step at next index fields.PutStatic b.at) (takes know us knows accepted me h f putstatic b)
