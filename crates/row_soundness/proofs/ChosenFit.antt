-- What calls share: operands that are taken off, how the frame goes on, and a method that is chosen by the class.
use Rattle.std.proofs.Common.{◌≡◌, ◌≤◌, ℕ, suc, Bool, true, false, ◌⊎◌, inl, inr, Option, None, Some, List, [], ◌∷◌, ◌++◌, length, take, drop, map, reverse, refl, sym, ap, subst, ◌∙◌, arith, nat_le, if◌then◌else◌}
use Rattle.std.specs.Option.{option_and_then, option_map_or}
use Rattle.std.specs.List.{sum_by}
use Rattle.std.proofs.lemmas.Bool.{le-leb}
use Rattle.std.proofs.lemmas.Option.{same_Some}
use Rattle.std.proofs.lemmas.List.{reverse-append}
use Rattle.std.proofs.lemmas.List.Sums.{sum_by-cons}
use Rattle.access_flags.specs.declared.TheConstants.{STATIC, SYNCHRONIZED}
use Rattle.access_flags.specs.Flags.{has}
use Rattle.builtin_world.specs.declared.Native.{Native}
use Rattle.builtin_world.specs.declared.number.TheConstants.{THREAD}
use Rattle.code_decode.specs.declared.code.ClassUnit.{ClassUnit}
use Rattle.instructions.specs.declared.what.Instr.{Instr}
use Rattle.instructions.specs.declared.what.Target.{Target}
use Rattle.instructions.specs.What.{falls_through}
use Rattle.link_types.specs.declared.operands.MethodId.{MethodId}
use Rattle.link_types.specs.declared.types.ObjectType.TheVariants.{Class}
use Rattle.link_types.specs.declared.types.ValueType.{ValueType}
use Rattle.link_types.specs.Types.{words_of_value}
use Rattle.link_rules.specs.Classes.{NamedMember, classes_of}
use Rattle.link_rules.specs.Methods.{method_named, parameter_types, parameter_words, result_type}
use Rattle.link_rules.specs.Names.{ProgramNames, program_names}
use Rattle.link_rules.specs.Operands.{operand}
use Rattle.type_rules.specs.declared.types.VerificationType.TheVariants.{UninitThis, Object}
use Rattle.type_rules.specs.Environment.{Environment, TypeFrame, type_of_value}
use Rattle.type_rules.specs.Environments.{words_of_values, parameters_of_method, result_of_method}
use Rattle.type_rules.specs.FrameAfter.{frame_after, result_pushes}
use Rattle.java_rows.specs.Calls.{with_receiver, by_receiver, invokes, monitor_for}
use Rattle.java_rows.specs.Natives.{native}
use Rattle.java_rows.specs.Plan.{Task, at_step, operand_of_task, Frame, Plan, stuck, use_in, Use}
use Rattle.java_rows.specs.Program.{argument_words, body_of, method_has}
use Rattle.row_soundness.specs.Senses.{Sense}
use Rattle.row_soundness.specs.Fits.{Unset, Returns, HaveTypes, ValuesFit, ResultFits, CodeOf, OperandFits, TaskFits, PlanFits, anything, EndsFit, UseFits, env_of, returns_of}
use Rattle.row_soundness.specs.Operands.{FitsIn, Begins}
use Rattle.row_soundness.specs.Knowledge.{Knows}
use Rattle.row_soundness.specs.Accepted.{Accepted, IsChosen}
use Rattle.row_soundness.proofs.Basics.{append_typed, types_more, reference_more}
use Rattle.row_soundness.proofs.Flow.{stands_more, begins_more, task_stands}
use Rattle.row_soundness.proofs.RowBasics.{bare_stands, completes_fit}
use Rattle.row_soundness.proofs.ReadValues.{value_typed}
use Rattle.row_soundness.proofs.EntersFit.{promised}
use Rattle.row_soundness.proofs.CallsFit.{calls_fit, invokes_fit, values_typed}
use Rattle.link_types.specs.declared.methods.MethodBody.TheVariants as bodies
use Rattle.link_types.specs.declared.types.ValueType.TheVariants as values

-- ---- the operands of a call are taken off

take_here : (taken : List ℕ) (r : ℕ) (rest : List ℕ) → take (suc (length taken)) (taken ++ r ∷ rest) ≡ taken ++ r ∷ []
take_here [] r rest = refl
take_here (v ∷ taken) r rest = ap (λ xs. v ∷ xs) (take_here taken r rest)

drop_here : (taken : List ℕ) (r : ℕ) (rest : List ℕ) → drop (suc (length taken)) (taken ++ r ∷ rest) ≡ rest
drop_here [] r rest = refl
drop_here (v ∷ taken) r rest = drop_here taken r rest

enough_here : (taken : List ℕ) (r : ℕ) (rest : List ℕ) → suc (length taken) ≤ length (taken ++ r ∷ rest)
enough_here [] r rest = omega arith
enough_here (v ∷ taken) r rest = omega (arith, enough_here taken r rest)

pub room_here : (taken : List ℕ) (r : ℕ) (rest : List ℕ) → suc (length rest) ≤ length (taken ++ r ∷ rest)
room_here [] r rest = omega arith
room_here (v ∷ taken) r rest = omega (arith, room_here taken r rest)

pub with_receiver_is : (f : Frame) (words : ℕ) (k : ℕ → List ℕ → List ℕ → Plan) (taken : List ℕ) (r : ℕ) (rest : List ℕ) → f.stack ≡ taken ++ r ∷ rest → length taken ≡ words
    → with_receiver f words k ≡ by_receiver f (λ r args. k r args rest) (r ∷ reverse taken)
with_receiver_is f words k taken r rest are long =
    ap (λ n. with_receiver f n k) (sym long)
    ∙ (ap (λ s. if nat_le (suc (length taken)) (length s) then by_receiver f (λ q args. k q args (drop (suc (length taken)) s)) (reverse (take (suc (length taken)) s)) else stuck) are
    ∙ (ap (λ b. if b then by_receiver f (λ q args. k q args (drop (suc (length taken)) (taken ++ r ∷ rest))) (reverse (take (suc (length taken)) (taken ++ r ∷ rest))) else stuck) (le-leb _ _ (enough_here taken r rest))
    ∙ (ap (λ s. by_receiver f (λ q args. k q args s) (reverse (take (suc (length taken)) (taken ++ r ∷ rest)))) (drop_here taken r rest)
    ∙ ap (λ s. by_receiver f (λ q args. k q args rest) s) (ap (λ (s : List ℕ). reverse s) (take_here taken r rest) ∙ reverse-append taken (r ∷ [])))))

words_of_method : (p : ProgramNames) (o : Option NamedMember) → option_map_or (λ (m : NamedMember). parameter_words p m.descriptor) o 0 ≡ sum_by words_of_value (option_map_or (λ (m : NamedMember). parameter_types p m.descriptor) o [])
words_of_method p None = refl
words_of_method p (Some m) = refl

module _ {P : Type 0} (know : Sense P) (us : List ClassUnit) (knows : Knows know us) (accepted : Accepted us) (me : ℕ) where
  pub values_long : (h : P) (ts : List ValueType) (vs : List ℕ) → ValuesFit know h ts vs → length vs ≡ sum_by words_of_value ts
  values_long h [] [] fits = refl
  values_long h (values.Long ∷ ts) (low ∷ high ∷ vs) fits = omega (arith, sum_by-cons words_of_value values.Long ts, values_long h ts vs fits.2)
  values_long h (values.Object t ∷ ts) (v ∷ vs) fits = omega (arith, sum_by-cons words_of_value (values.Object t) ts, values_long h ts vs fits.1)
  values_long h (values.Boolean ∷ ts) (v ∷ vs) fits = omega (arith, sum_by-cons words_of_value values.Boolean ts, values_long h ts vs fits.1)
  values_long h (values.Byte ∷ ts) (v ∷ vs) fits = omega (arith, sum_by-cons words_of_value values.Byte ts, values_long h ts vs fits.1)
  values_long h (values.Char ∷ ts) (v ∷ vs) fits = omega (arith, sum_by-cons words_of_value values.Char ts, values_long h ts vs fits.1)
  values_long h (values.Short ∷ ts) (v ∷ vs) fits = omega (arith, sum_by-cons words_of_value values.Short ts, values_long h ts vs fits.1)
  values_long h (values.Int ∷ ts) (v ∷ vs) fits = omega (arith, sum_by-cons words_of_value values.Int ts, values_long h ts vs fits.1)
  values_long h ts vs fits = absurd fits

  pub argument_count : (id : MethodId) → argument_words us id ≡ sum_by words_of_value (parameters_of_method (program_names us) id)
  argument_count id = words_of_method (program_names us) (method_named (classes_of us) id)

  -- ---- how the frame goes on after a call

  pub result_typed : (env : Environment) (u : Unset) (h : P) (t : Option ValueType) (words : List ℕ) → ResultFits know h t words → HaveTypes know env u h words (result_pushes t)
  result_typed env u h None [] fits = tt
  result_typed env u h None (v ∷ vs) fits = absurd fits
  result_typed env u h (Some t) words fits = value_typed know us knows accepted me env u h t words fits

  module _ (h : P) (f : Frame) (i : Instr Target) (b : Begins know us h f i) (t : Option ValueType) (n : ℕ) (rest : List ℕ) where
    -- after the call, and where it throws
    pub call_ends_fit : (tells : Returns) → tells.value ≡ t → falls_through i.what ≡ true
        → frame_after (env_of us f.method b.stands.of) i (b.stands.frames f.step) ≡ record (b.stands.frames f.step) { stack = result_pushes t ++ drop n (b.stands.frames f.step).stack }
        → HaveTypes know (env_of us f.method b.stands.of) b.stands.unset h rest (drop n (b.stands.frames f.step).stack)
        → EndsFit know us h (Some (returns_of know us h f b.stands)) tells (use_in f rest)
    call_ends_fit tells same falls after left = record {
      value = λ h' words more words_fit made.
          let b' = begins_more know us knows accepted h h' more f i b in
          let env = env_of us f.method b.stands.of in
          completes_fit know us knows accepted me h' f i b' (words ++ rest) falls (subst (λ x. FitsIn know env b.stands.unset h' f.locals (words ++ rest) x) (sym after) (record {
            locals_fit = b'.stands.locals;
            stack_fits = append_typed know env b.stands.unset h' words rest _ _ (result_typed env b.stands.unset h' t words (subst (λ x. ResultFits know h' x words) same words_fit)) (types_more know us knows env b.stands.unset h h' rest _ more left);
            set = b'.stands.set;
          }));
      thrown = λ h' r c more thrown. (tt, (bare_stands know us knows accepted me h' f (stands_more know us knows accepted h h' more f b.stands), refl, thrown));
    }

    pub use_fits : (tells : Returns) → tells.value ≡ t → falls_through i.what ≡ true
        → frame_after (env_of us f.method b.stands.of) i (b.stands.frames f.step) ≡ record (b.stands.frames f.step) { stack = result_pushes t ++ drop n (b.stands.frames f.step).stack }
        → HaveTypes know (env_of us f.method b.stands.of) b.stands.unset h rest (drop n (b.stands.frames f.step).stack) → suc (length rest) ≤ f.room
        → UseFits know us h (Some (returns_of know us h f b.stands)) tells (use_in f rest)
    use_fits tells same falls after left fits = record {
      ends = call_ends_fit tells same falls after left;
      again = λ h' task more none unmade operand. again h' task more (sym same ∙ none) operand;
    }
      where
        at_task : (h' : P) (task : Task) (v : ℕ) → (more : know.extends h h') → t ≡ None → OperandFits know us h' task → TaskFits know us h' (record f { task = task; stack = v ∷ rest }) (task_stands know us knows accepted h h' more f b.stands task (v ∷ rest)) task
        at_task h' at_step v more none operand = absurd operand
        at_task h' task v more none operand = (
          operand,
          record {
            step = i;
            there = b.at;
            falls = falls;
            same = after ∙ sym (ap (λ (x : TypeFrame). record (b.stands.frames f.step) { stack = x.stack }) after);
            stack = subst (λ (x : TypeFrame). HaveTypes know (env_of us f.method b.stands.of) b.stands.unset h' rest x.stack) (sym after)
                (subst (λ o. HaveTypes know (env_of us f.method b.stands.of) b.stands.unset h' rest (result_pushes o ++ drop n (b.stands.frames f.step).stack)) (sym none) (types_more know us knows (env_of us f.method b.stands.of) b.stands.unset h h' rest _ more left));
            fits = fits;
            some = omega (arith, fits);
          },
        )

        again : (h' : P) (task : Task) → know.extends h h' → t ≡ None → OperandFits know us h' task → PlanFits know us (Some (returns_of know us h f b.stands)) anything ((use_in f rest).again task) h'
        again h' task more none operand = (
          tt,
          (
            record {
              stands = task_stands know us knows accepted h h' more f b.stands task (operand_of_task task ∷ rest);
              task = at_task h' task (operand_of_task task) more none operand;
            },
            refl,
          ),
        )

  -- ---- the method that is called

  -- it is entered with its receiver and its arguments
  pub entry_typed : (h : P) (id : MethodId) (c : CodeOf us id) (r : ℕ) (args : List ℕ) → has c.member.flags STATIC ≡ false → know.is_of h r (Class id.class)
      → ValuesFit know h (parameters_of_method (program_names us) id) args → HaveTypes know (env_of us id c) (record { this = r; made = λ p. 0 }) h (r ∷ args) (env_of us id c).entry
  entry_typed h id c r args instance of fits =
      by_flags (has c.member.flags STATIC) (Rattle.type_rules.specs.Environments.is_constructor c.member) instance
      (values_typed know us knows accepted me (env_of us id c) (record { this = r; made = λ p. 0 }) h (parameter_types (program_names us) c.member.descriptor) args (subst (λ (o : Option NamedMember). ValuesFit know h (option_map_or (λ (m : NamedMember). parameter_types (program_names us) m.descriptor) o []) args) c.named fits))
    where
      by_flags : (static constructs : Bool) → static ≡ false → HaveTypes know (env_of us id c) (record { this = r; made = λ p. 0 }) h args (words_of_values (map type_of_value (parameter_types (program_names us) c.member.descriptor)))
          → HaveTypes know (env_of us id c) (record { this = r; made = λ p. 0 }) h (r ∷ args)
          (words_of_values ((if static then [] else if constructs then UninitThis ∷ [] else Object (Class id.class) ∷ []) ++ map type_of_value (parameter_types (program_names us) c.member.descriptor)))
      by_flags true constructs e typed = cc
      by_flags false true e typed = ((refl, knows.raw_of h r (Class id.class) of), typed)
      by_flags false false e typed = (inr of, typed)

  -- the object whose monitor it enters is there
  pub lock_there : (h : P) (id : MethodId) (r : ℕ) (args : List ℕ) → method_has us id STATIC ≡ false → know.is_there h r → (monitor_for us id (r ∷ args) ≡ 0) ⊎ know.is_there h (monitor_for us id (r ∷ args))
  lock_there h id r args instance is = by_flags (method_has us id SYNCHRONIZED) (method_has us id STATIC) instance
    where
      by_flags : (sync static : Bool) → static ≡ false → ((if sync then (if static then Rattle.link_rules.specs.FixedObjects.class_object (program_names us) id.class else r) else 0) ≡ 0) ⊎ know.is_there h (if sync then (if static then Rattle.link_rules.specs.FixedObjects.class_object (program_names us) id.class else r) else 0)
      by_flags false static e = inl refl
      by_flags true false e = inr is
      by_flags true true e = cc

  pub fits_more : (h h' : P) → know.extends h h' → (ts : List ValueType) (vs : List ℕ) → ValuesFit know h ts vs → ValuesFit know h' ts vs
  fits_more h h' more [] [] fits = tt
  fits_more h h' more (values.Long ∷ ts) (low ∷ high ∷ vs) fits = (fits.0, fits.1, fits_more h h' more ts vs fits.2)
  fits_more h h' more (values.Object t ∷ ts) (v ∷ vs) fits = (reference_more know us knows h h' v t more fits.0, fits_more h h' more ts vs fits.1)
  fits_more h h' more (values.Boolean ∷ ts) (v ∷ vs) fits = (fits.0, fits_more h h' more ts vs fits.1)
  fits_more h h' more (values.Byte ∷ ts) (v ∷ vs) fits = (fits.0, fits_more h h' more ts vs fits.1)
  fits_more h h' more (values.Char ∷ ts) (v ∷ vs) fits = (fits.0, fits_more h h' more ts vs fits.1)
  fits_more h h' more (values.Short ∷ ts) (v ∷ vs) fits = (fits.0, fits_more h h' more ts vs fits.1)
  fits_more h h' more (values.Int ∷ ts) (v ∷ vs) fits = (fits.0, fits_more h h' more ts vs fits.1)
  fits_more h h' more ts vs fits = absurd fits

  -- what methods of the built-in classes do is shown one by one
  abbrev pub NativesFit : Type 0
  NativesFit = (h : P) (res : Option Returns) (id : MethodId) (n : Native) (r : ℕ) (args : List ℕ) (u : Use) (tells : Returns) → body_of us id ≡ Some (bodies.Native n) → know.is_of h me (Class THREAD) → know.is_of h r (Class id.class)
      → ValuesFit know h (parameters_of_method (program_names us) id) args → method_has us id STATIC ≡ false → tells.value ≡ result_of_method (program_names us) id → tells.made ≡ None → UseFits know us h res tells u → PlanFits know us res anything (native us me n (r ∷ args) u) h

  module _ (natives : NativesFit) where
    -- a chosen method is called
    pub chosen_fits : (h : P) (res : Option Returns) (id found : MethodId) (r : ℕ) (args : List ℕ) (u : Use) → IsChosen us id found → know.is_of h me (Class THREAD) → know.is_of h r (Class found.class)
        → ValuesFit know h (parameters_of_method (program_names us) id) args → ((tells : Returns) → tells.value ≡ result_of_method (program_names us) id → UseFits know us h res tells u)
        → PlanFits know us res anything (invokes us me found (r ∷ args) u) h
    chosen_fits h res id found r args u chosen mine of fits on =
        let own : ValuesFit know h (parameters_of_method (program_names us) found) args = subst (λ ts. ValuesFit know h ts args) (sym chosen.parameters) fits in
        invokes_fit know us knows accepted me h res found (r ∷ args) u (accepted.bodies found chosen.member chosen.named chosen.concrete)
        (λ n is. natives h res found n r args u (record { value = result_of_method (program_names us) found; made = None }) is mine of own (ap (λ (o : Option NamedMember). option_map_or (λ (m : NamedMember). has m.flags STATIC) o false) chosen.named ∙ chosen.instance) refl refl (on (record { value = result_of_method (program_names us) found; made = None }) chosen.result))
        (λ c.
        let same : chosen.member ≡ c.member = same_Some chosen.member c.member (sym chosen.named ∙ c.named) in
        let instance : has c.member.flags STATIC ≡ false = subst (λ (m : NamedMember). has m.flags STATIC ≡ false) same chosen.instance in
        calls_fit know us knows accepted me h res found c (r ∷ args) r u (lock_there h found r args (ap (λ (o : Option NamedMember). option_map_or (λ (m : NamedMember). has m.flags STATIC) o false) c.named ∙ instance) (knows.there_of h r (Class found.class) (knows.raw_of h r (Class found.class) of)))
        (entry_typed h found c r args instance of own) (on (promised know us knows accepted found c r) (promised_value found c ∙ chosen.result)).ends)
      where
        promised_value : (found : MethodId) (c : CodeOf us found) → (promised know us knows accepted found c r).value ≡ result_of_method (program_names us) found
        promised_value found c = ap (λ (o : Option NamedMember). option_and_then (λ (m : NamedMember). result_type (program_names us) m.descriptor) o) (sym c.named)
