-- The first local state of a program.
use Rattle.std.proofs.Common.{◌≡◌, ◌⊎◌, inl, inr, ℕ, Option, None, Some, List, [], ◌∷◌, refl, sym, ap, subst, ◌∙◌, Bool, true, false, if◌then◌else◌}
use Rattle.std.proofs.lemmas.Option.{same_Some}
use Rattle.builtin_world.specs.declared.number.TheConstants.{CLASS, STRING}
use Rattle.code_decode.specs.declared.code.ClassUnit.{ClassUnit}
use Rattle.access_flags.specs.declared.TheConstants.{STATIC, SYNCHRONIZED}
use Rattle.builtin_world.specs.declared.Native.{Native}
use Rattle.link_types.specs.declared.methods.MethodBody.{MethodBody}
use Rattle.link_types.specs.declared.types.ObjectType.{ObjectType}
use Rattle.type_rules.specs.declared.types.VerificationType.TheVariants.{Object}
use Rattle.link_types.specs.declared.operands.MethodId.{MethodId}
use Rattle.link_types.specs.declared.types.ObjectType.TheVariants.{Class, Array}
use Rattle.link_rules.specs.Classes.{NamedMember, classes_of}
use Rattle.link_rules.specs.FixedObjects.{class_object, arguments_object, main_thread_object}
use Rattle.link_rules.specs.Names.{program_names}
use Rattle.type_rules.specs.Environments.{words_of_values, entry_values}
use Rattle.java_rows.specs.Program.{is_of_file, initialized_with, method_has}
use Rattle.java_rows.specs.Thread.{launch, calls_main, first_state}
use Rattle.row_soundness.specs.Senses.{Sense}
use Rattle.row_soundness.specs.Fits.{HaveTypes, PlanFits, anything, LocalFits, env_of}
use Rattle.row_soundness.specs.Knowledge.{Knows}
use Rattle.row_soundness.specs.Accepted.{Accepted, IsMain}
use Rattle.row_soundness.proofs.Plans.{ends_fit}
use Rattle.row_soundness.proofs.EntersFit.{promised}
use Rattle.row_soundness.proofs.CallsFit.{calls_fit, invokes_fit}
use Rattle.row_soundness.proofs.InitializationFits.{initializes_fit, all_filtered}
use Rattle.row_soundness.specs.Rows.{RowsFit}
use Rattle.row_soundness.proofs.Settled.{settled_fits}
use Rattle.link_types.specs.declared.methods.MethodBody.TheVariants as bodies
use Rattle.link_types.specs.declared.types.ElementType.TheVariants as elements
use Rattle.row_soundness.proofs.LaunchFit.{launch_fits}

module _ {P : Type 0} (know : Sense P) (us : List ClassUnit) (knows : Knows know us) (accepted : Accepted us) where
  -- thread 1 as the program begins
  pub first_fits : (rows : (me : ℕ) → RowsFit know us) (main : MethodId) (is : IsMain us main) (h : P) → LocalFits know us anything h (first_state us main)
  first_fits rows main is h =
      let me : ℕ = main_thread_object (program_names us) in
      settled_fits know us knows accepted (rows me) me anything h None [] _ (knows.main_thread h)
      (initializes_fit know us knows accepted me None h (initialized_with us main.class) (calls_main us me main) launch.thrown (all_filtered (is_of_file us) (Rattle.link_rules.specs.Supers.superclasses (classes_of us) main.class))
      (λ h' more. called h') (λ h' r d more thrown. ends_fit know us knows None h' (Some d)) h (knows.itself h)) refl
    where
      called : (h' : P) → PlanFits know us None anything (calls_main us (main_thread_object (program_names us)) main) h'
      called h' =
          invokes_fit know us knows accepted (main_thread_object (program_names us)) h' None main (arguments_object (program_names us) ∷ []) launch (inr (is.code, is.body)) (λ n native. absurd (no_native n (sym is.body ∙ native)))
          (λ c.
          let same : is.code.member ≡ c.member = same_Some is.code.member c.member (sym is.code.named ∙ c.named) in
          let entry : (env_of us main c).entry ≡ Object (Array 1 (elements.Class STRING)) ∷ [] =
          ap (λ (m : NamedMember). words_of_values (entry_values (program_names us) main.class m)) (sym same) ∙ is.entry in
          calls_fit know us knows accepted (main_thread_object (program_names us)) h' None main c (arguments_object (program_names us) ∷ []) 0 launch (lock (method_has us main SYNCHRONIZED) (method_has us main STATIC))
          (subst (λ ts. HaveTypes know (env_of us main c) (record { this = 0; made = λ p. 0 }) h' (arguments_object (program_names us) ∷ []) ts) (sym entry) (inr (knows.arguments h'), tt))
          (launch_fits know us knows accepted h' (promised know us knows accepted main c 0)).ends)
        where
          no_native : (n : Native) → ◌≡◌ {A = Option MethodBody} (Some bodies.Code) (Some (bodies.Native n)) → ⊥
          no_native n e = cc

          there : (r : ℕ) (t : ObjectType) → know.is_of h' r t → know.is_there h' r
          there r t of = knows.there_of h' r t (knows.raw_of h' r t of)

          lock : (sync static : Bool) → ((if sync then (if static then class_object (program_names us) main.class else arguments_object (program_names us)) else 0) ≡ 0)
              ⊎ know.is_there h' (if sync then (if static then class_object (program_names us) main.class else arguments_object (program_names us)) else 0)
          lock false static = inl refl
          lock true true = inr (there (class_object (program_names us) main.class) (Class CLASS) (knows.class_objects h' main.class is.class))
          lock true false = inr (there (arguments_object (program_names us)) (Array 1 (elements.Class STRING)) (knows.arguments h'))
