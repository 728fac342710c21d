-- Calls of methods.
use Rattle.std.proofs.Common.{◌≡◌, ◌+◌, ◌==◌, ℕ, suc, Bool, true, false, ◌⊎◌, inl, inr, Option, Some, List, [], ◌∷◌, ◌++◌, length, map, refl, sym, ap, subst, ◌∙◌, arith, if◌then◌else◌}
use Rattle.std.specs.Option.{option_map_or}
use mathlib.Core.List.{reverse_aux}
use Rattle.builtin_world.specs.declared.Native.{Native}
use Rattle.builtin_world.specs.declared.number.TheConstants.{ILLEGAL_MONITOR_STATE_EXCEPTION}
use Rattle.builtin_world.specs.Laws.{is_throwable}
use Rattle.code_decode.specs.declared.code.ClassUnit.{ClassUnit}
use Rattle.code_decode.specs.declared.code.Code.{Code as MethodCode}
use Rattle.link_types.specs.declared.operands.MethodId.{MethodId}
use Rattle.link_types.specs.declared.types.ValueType.{ValueType}
use Rattle.type_rules.specs.declared.types.VerificationType.{VerificationType}
use Rattle.type_rules.specs.Environment.{Environment, type_of_value}
use Rattle.type_rules.specs.Environments.{words_of_values}
use Rattle.type_rules.specs.Wants.{Want, a_long, type_wanted}
use Rattle.java_rows.specs.Calls.{after_call, monitor_for, calls_method, invokes_body, invokes}
use Rattle.java_rows.specs.Natives.{native}
use Rattle.java_rows.specs.Plan.{FrameEnd, returned, threw, broke, calls, stuck, enters, raises, Use}
use Rattle.java_rows.specs.Program.{body_of}
use Rattle.row_soundness.specs.Senses.{Sense}
use Rattle.row_soundness.specs.Fits.{Unset, Returns, HaveTypes, ValuesFit, EndFits, CodeOf, PlanFits, anything, EndsFit, env_of}
use Rattle.row_soundness.specs.Operands.{Operands, words_of_wants}
use Rattle.row_soundness.proofs.Operands.{word_count}
use Rattle.row_soundness.specs.Knowledge.{Knows}
use Rattle.row_soundness.specs.Accepted.{Accepted}
use Rattle.row_soundness.proofs.Basics.{thrown_number, types_more}
use Rattle.row_soundness.proofs.EntersFit.{promised, Entered, entered_fits}
use Rattle.row_soundness.proofs.Plans.{makes_fit, enters_fit}
use Rattle.link_types.specs.declared.methods.MethodBody.TheVariants as bodies
use Rattle.link_types.specs.declared.types.ValueType.TheVariants as values

module _ {P : Type 0} (know : Sense P) (us : List ClassUnit) (knows : Knows know us) (accepted : Accepted us) (me : ℕ) where
  -- an exception of the machine
  pub raises_fit : (h : P) (res : Option Returns) (u : Use) (c : ℕ) → is_throwable c ≡ true
      → ((h' : P) (r d : ℕ) → know.extends h h' → know.is_thrown h' r d → PlanFits know us res anything (u.thrown r d) h') → PlanFits know us res anything (raises u c) h
  raises_fit h res u c throwable thrown =
      makes_fit know us knows res h c 0 (λ r. u.thrown r c) (knows.makes h c 0 (record { class = thrown_number us accepted c throwable; length = omega arith }))
      (λ h' r more come. thrown h' r c more (knows.made_thrown h' c r throwable come))

  ended_fits : (h h' : P) (res : Option Returns) (tells : Returns) (u : Use) (end : FrameEnd) → know.extends h h' → EndsFit know us h res tells u → EndFits know h' (Some tells) end → PlanFits know us res anything (after_call u end) h'
  ended_fits h h' res tells u (returned words) more on fits = on.value h' words more fits.0 fits.1
  ended_fits h h' res tells u (threw r c) more on fits = on.thrown h' r c more fits
  ended_fits h h' res tells u broke more on fits = raises_fit h' res u ILLEGAL_MONITOR_STATE_EXCEPTION refl (λ h'' r d more' thrown. on.thrown h'' r d (knows.both h h' h'' more more') thrown)

  pub calls_fit : (h : P) (res : Option Returns) (id : MethodId) (c : CodeOf us id) (args : List ℕ) (this : ℕ) (u : Use) → (monitor_for us id args ≡ 0) ⊎ know.is_there h (monitor_for us id args)
      → HaveTypes know (env_of us id c) (record { this = this; made = λ p. 0 }) h args (env_of us id c).entry → EndsFit know us h res (promised know us knows accepted id c this) u
      → PlanFits know us res anything (calls_method us id args u) h
  calls_fit h res id c args this u lock typed on = by_monitor (monitor_for us id args == 0) refl
    where
      made : (h' : P) → know.extends h h' → PlanFits know us res anything (calls id args (monitor_for us id args) (after_call u)) h'
      made h' more =
          let lock' : (monitor_for us id args ≡ 0) ⊎ know.is_there h' (monitor_for us id args) = elim lock [ inl none ↦ inl none | inr there ↦ inr (knows.there_more h h' (monitor_for us id args) more there) ] in
          let frame : Entered know us knows accepted h' id c args (monitor_for us id args) this = entered_fits know us knows accepted h' id c args (monitor_for us id args) this lock' (types_more know us knows (env_of us id c) (record { this = this; made = λ p. 0 }) h h' args (env_of us id c).entry more typed) in
          (tt, frame.call, (λ h'' end more' fits. ended_fits h h'' res (promised know us knows accepted id c this) u end (knows.both h h' h'' more more') on (subst (λ r. EndFits know h'' (Some r) end) frame.tells fits)))

      by_monitor : (b : Bool) → (monitor_for us id args == 0) ≡ b → PlanFits know us res anything (if b then calls id args (monitor_for us id args) (after_call u) else enters (monitor_for us id args) (calls id args (monitor_for us id args) (after_call u))) h
      by_monitor true e = made h (knows.itself h)
      by_monitor false e = elim lock [
        | inl none ↦ let bad : (monitor_for us id args == 0) ≡ true = ap (λ n. n == 0) none in let worse : true ≡ false = sym bad ∙ e in cc
        | inr there ↦ enters_fit know us knows res h (monitor_for us id args) (calls id args (monitor_for us id args) (after_call u)) there made
      ]

  pub invokes_fit : (h : P) (res : Option Returns) (id : MethodId) (args : List ℕ) (u : Use) → ((n : Native) × (body_of us id ≡ Some (bodies.Native n))) ⊎ (CodeOf us id × (body_of us id ≡ Some bodies.Code))
      → ((n : Native) → body_of us id ≡ Some (bodies.Native n) → PlanFits know us res anything (native us me n args u) h) → ((c : CodeOf us id) → PlanFits know us res anything (calls_method us id args u) h)
      → PlanFits know us res anything (invokes us me id args u) h
  invokes_fit h res id args u (inl (n, is)) natives codes = subst (λ b. PlanFits know us res anything (invokes_body us me id args u b) h) (sym is) (natives n is)
  invokes_fit h res id args u (inr (c, is)) natives codes =
      subst (λ b. PlanFits know us res anything (invokes_body us me id args u b) h) (sym is)
      (subst (λ (o : Option MethodCode). PlanFits know us res anything (option_map_or (λ _. calls_method us id args u) o stuck) h) (sym c.coded) (codes c))

  -- ---- arguments

  pub values_typed : (env : Environment) (u : Unset) (h : P) (ts : List ValueType) (vs : List ℕ) → ValuesFit know h ts vs → HaveTypes know env u h vs (words_of_values (map type_of_value ts))
  values_typed env u h [] [] fits = tt
  values_typed env u h (values.Long ∷ ts) (low ∷ high ∷ vs) fits = (fits.0, (fits.1, values_typed env u h ts vs fits.2))
  values_typed env u h (values.Object t ∷ ts) (v ∷ vs) fits = (fits.0, values_typed env u h ts vs fits.1)
  values_typed env u h (values.Boolean ∷ ts) (v ∷ vs) fits = (fits.0, values_typed env u h ts vs fits.1)
  values_typed env u h (values.Byte ∷ ts) (v ∷ vs) fits = (fits.0, values_typed env u h ts vs fits.1)
  values_typed env u h (values.Char ∷ ts) (v ∷ vs) fits = (fits.0, values_typed env u h ts vs fits.1)
  values_typed env u h (values.Short ∷ ts) (v ∷ vs) fits = (fits.0, values_typed env u h ts vs fits.1)
  values_typed env u h (values.Int ∷ ts) (v ∷ vs) fits = (fits.0, values_typed env u h ts vs fits.1)
  values_typed env u h ts vs fits = absurd fits

  module _ (env : Environment) (u : Unset) (h : P) (types : List VerificationType) where
    -- arguments that are taken off a stack, in the order of locals, before some words
    pub record Arguments (qs ts : List ValueType) (acc : List ℕ) (n : ℕ) (ws : List Want) (vs : List ℕ) : Type 0 where
      pub taken : List ℕ
      pub rest : List ℕ
      pub are : vs ≡ taken ++ rest
      pub fit : ValuesFit know h ts (reverse_aux taken acc)
      pub left : Operands know env u h types (n + length taken) ws rest
      pub size : words_of_wants (map type_wanted qs ++ ws) ≡ length taken + words_of_wants ws

    one_word : (t : ValueType) (qs : List ValueType) (acc_ts : List ValueType) (acc : List ℕ) (n v : ℕ) (ws : List Want) (vs rest : List ℕ) → vs ≡ v ∷ rest
        → (type_wanted t ≡ a_long → ⊥) → Arguments qs (reverse_aux qs (t ∷ acc_ts)) (v ∷ acc) (suc n) ws rest → Arguments (t ∷ qs) (reverse_aux (t ∷ qs) acc_ts) acc n ws vs
    one_word t qs acc_ts acc n v ws vs rest are short more = record {
      taken = v ∷ more.taken;
      rest = more.rest;
      are = are ∙ ap (λ xs. v ∷ xs) more.are;
      fit = more.fit;
      left = subst (λ k. Operands know env u h types k ws more.rest) (more_by_one n (length more.taken)) more.left;
      size = omega (arith, word_count (type_wanted t) (map type_wanted qs ++ ws) short, more.size);
    }
      where
        more_by_one : (n m : ℕ) → suc n + m ≡ n + suc m
        more_by_one n m = omega arith

    pub arguments : (qs acc_ts : List ValueType) (acc : List ℕ) (n : ℕ) (ws : List Want) (vs : List ℕ) → ValuesFit know h acc_ts acc → Operands know env u h types n (map type_wanted qs ++ ws) vs
        → Arguments qs (reverse_aux qs acc_ts) acc n ws vs
    arguments [] acc_ts acc n ws vs fits is = record { taken = []; rest = vs; are = refl; fit = fits; left = subst (λ k. Operands know env u h types k ws vs) (no_more n) is; size = omega arith }
      where
        no_more : (n : ℕ) → n ≡ n + length {A = ℕ} []
        no_more n = omega arith
    arguments (values.Long ∷ qs) acc_ts acc n ws vs fits (high, low, rest, are, high_fits, low_fits, is) =
        let more : Arguments qs (reverse_aux qs (values.Long ∷ acc_ts)) (low ∷ high ∷ acc) (suc (suc n)) ws rest = arguments qs (values.Long ∷ acc_ts) (low ∷ high ∷ acc) (suc (suc n)) ws rest (low_fits, high_fits, fits) is in
        record {
          taken = high ∷ low ∷ more.taken;
          rest = more.rest;
          are = are ∙ ap (λ xs. high ∷ low ∷ xs) more.are;
          fit = more.fit;
          left = subst (λ k. Operands know env u h types k ws more.rest) (more_by_two n (length more.taken)) more.left;
          size = omega (arith, more.size);
        }
      where
        more_by_two : (n m : ℕ) → suc (suc n) + m ≡ n + suc (suc m)
        more_by_two n m = omega arith
    arguments (values.Object t ∷ qs) acc_ts acc n ws vs fits (v, rest, are, v_fits, is) = one_word (values.Object t) qs acc_ts acc n v ws vs rest are (λ x. cc) (arguments qs (values.Object t ∷ acc_ts) (v ∷ acc) (suc n) ws rest (v_fits, fits) is)
    arguments (values.Boolean ∷ qs) acc_ts acc n ws vs fits (v, rest, are, v_fits, is) = one_word values.Boolean qs acc_ts acc n v ws vs rest are (λ x. cc) (arguments qs (values.Boolean ∷ acc_ts) (v ∷ acc) (suc n) ws rest (v_fits, fits) is)
    arguments (values.Byte ∷ qs) acc_ts acc n ws vs fits (v, rest, are, v_fits, is) = one_word values.Byte qs acc_ts acc n v ws vs rest are (λ x. cc) (arguments qs (values.Byte ∷ acc_ts) (v ∷ acc) (suc n) ws rest (v_fits, fits) is)
    arguments (values.Char ∷ qs) acc_ts acc n ws vs fits (v, rest, are, v_fits, is) = one_word values.Char qs acc_ts acc n v ws vs rest are (λ x. cc) (arguments qs (values.Char ∷ acc_ts) (v ∷ acc) (suc n) ws rest (v_fits, fits) is)
    arguments (values.Short ∷ qs) acc_ts acc n ws vs fits (v, rest, are, v_fits, is) = one_word values.Short qs acc_ts acc n v ws vs rest are (λ x. cc) (arguments qs (values.Short ∷ acc_ts) (v ∷ acc) (suc n) ws rest (v_fits, fits) is)
    arguments (values.Int ∷ qs) acc_ts acc n ws vs fits (v, rest, are, v_fits, is) = one_word values.Int qs acc_ts acc n v ws vs rest are (λ x. cc) (arguments qs (values.Int ∷ acc_ts) (v ∷ acc) (suc n) ws rest (v_fits, fits) is)
