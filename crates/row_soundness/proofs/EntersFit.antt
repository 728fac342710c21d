-- The first frame of a method fits.
use Rattle.std.proofs.Common.{◌≡◌, ◌≤◌, ◌+◌, ◌-◌, ℕ, zero, suc, Bool, true, false, ◌⊎◌, None, Some, List, [], ◌∷◌, ◌++◌, length, take, replicate, refl, sym, ap, subst, ◌∙◌, arith, nat_le, if◌then◌else◌}
use Rattle.std.specs.Option.{option_and_then}
use Rattle.std.proofs.lemmas.Bool.{le-leb, leb-true}
use Rattle.code_decode.specs.declared.code.ClassUnit.{ClassUnit}
use Rattle.link_types.specs.declared.operands.MethodId.{MethodId}
use Rattle.type_rules.specs.declared.types.VerificationType.{VerificationType}
use Rattle.type_rules.specs.declared.types.VerificationType.TheVariants.{Top}
use Rattle.type_rules.specs.Environment.{Environment, TypeFrame, entry_frame}
use Rattle.type_rules.specs.TypeFaults.{entry_fault}
use Rattle.type_rules.specs.TypeSafe.{falling}
use Rattle.type_rules.proofs.Falling.{step_there}
use Rattle.type_laws.proofs.Chains.{none_of, holds}
use Rattle.type_laws.proofs.Rooms.{first_is_entry}
use Rattle.type_laws.proofs.Walked.{no_frame_fault}
use Rattle.java_rows.specs.Plan.{Frame, at_step}
use Rattle.java_rows.specs.Thread.{frame_of_code}
use Rattle.row_soundness.specs.Senses.{Sense}
use Rattle.row_soundness.specs.Fits.{Unset, Returns, HaveTypes, CodeOf, CallFits, returns_of, env_of}
use Rattle.row_soundness.specs.Knowledge.{Knows}
use Rattle.row_soundness.specs.Accepted.{Accepted}
use Rattle.row_soundness.proofs.Basics.{length_typed}

module _ {P : Type 0} (know : Sense P) (env : Environment) (u : Unset) (h : P) where
  tops_typed : (n k : ℕ) → n ≤ k → HaveTypes know env u h (replicate n 0) (take n (replicate k Top))
  tops_typed zero k le = tt
  tops_typed (suc n) zero le = absurd (omega (arith, le))
  tops_typed (suc n) (suc k) le = ((λ exact. omega arith), tops_typed n k (omega (arith, le)))

  -- the arguments, and zeros after them
  padded_typed : (vs : List ℕ) (ts : List VerificationType) (m n k : ℕ) → m ≡ length vs + n → n ≤ k → HaveTypes know env u h vs ts → HaveTypes know env u h (vs ++ replicate n 0) (take m (ts ++ replicate k Top))
  padded_typed [] [] m n k e le is = subst (λ x. HaveTypes know env u h (replicate n 0) (take x (replicate k Top))) (same m n e) (tops_typed n k le)
    where
      same : (m n : ℕ) → m ≡ length {A = ℕ} [] + n → n ≡ m
      same m n e = omega (arith, e)
  padded_typed [] (t ∷ ts) m n k e le is = absurd is
  padded_typed (v ∷ vs) [] m n k e le is = absurd is
  padded_typed (v ∷ vs) (t ∷ ts) zero n k e le is = absurd (omega (arith, e))
  padded_typed (v ∷ vs) (t ∷ ts) (suc m) n k e le is = (is.0, padded_typed vs ts m n k (omega (arith, e)) le is.1)

module _ {P : Type 0} (know : Sense P) (us : List ClassUnit) (knows : Knows know us) (accepted : Accepted us) where
  -- what a call of a method with code promises
  abbrev pub promised : (id : MethodId) → CodeOf us id → ℕ → Returns
  promised id c this = record {
    value = (env_of us id c).return_type;
    made = if (env_of us id c).constructs then Some (this, id.class) else None;
  }

  -- the first frame of the method fits, and returns at its end what the call promises
  pub record Entered (h : P) (id : MethodId) (c : CodeOf us id) (args : List ℕ) (monitor this : ℕ) : Type 0 where
    pub call : CallFits know us h id args monitor
    pub tells : returns_of know us h call.frame call.fits.stands ≡ promised id c this

  pub entered_fits : (h : P) (id : MethodId) (c : CodeOf us id) (args : List ℕ) (monitor this : ℕ) → (monitor ≡ 0) ⊎ know.is_there h monitor
      → HaveTypes know (env_of us id c) (record { this = this; made = λ p. 0 }) h args (env_of us id c).entry → Entered h id c args monitor this
  entered_fits h id c args monitor this lock typed =
      let env = env_of us id c in
      let safe = accepted.safe id c in
      let begins = (accepted.inside id c).begins in
      let i = step_there c.code.steps 0 begins in
      let here = safe.1 0 i.0 begins i.1 in
      let limit : length env.entry ≤ c.code.max_locals = leb-true _ _ (holds _ _ (none_of (entry_fault env 0) _ (no_frame_fault env 0 i.0 (falling env safe.0 0) here.none)).0) in
      let first : safe.0 0 ≡ entry_frame env = first_is_entry env safe.0 safe.1 begins in
      let long : length args ≡ length env.entry = length_typed know env (record { this = this; made = λ p. 0 }) h args env.entry typed in
      let room : length args ≤ c.code.max_locals = omega (arith, limit, long) in
      let locals = padded_typed know env (record { this = this; made = λ p. 0 }) h args env.entry c.code.max_locals (c.code.max_locals - length args) c.code.max_locals (omega (arith, room)) (omega arith) typed in
      record {
        call = record {
          frame = record {
            method = id;
            step = 0;
            task = at_step;
            locals = args ++ replicate (c.code.max_locals - length args) 0;
            stack = [];
            room = c.code.max_stack;
            monitor = monitor;
          };
          first = ap (λ o. option_and_then (frame_of_code id args monitor) o) c.coded ∙ with_room (nat_le (length args) c.code.max_locals) _ (le-leb _ _ room);
          fits = record {
            stands = record {
              of = c;
              frames = safe.0;
              typed = safe.1;
              unset = record { this = this; made = λ p. 0 };
              within = begins;
              room = refl;
              monitor = lock;
              locals = subst (λ (t : TypeFrame). HaveTypes know env (record { this = this; made = λ p. 0 }) h (args ++ replicate (c.code.max_locals - length args) 0) t.locals) (sym first) locals;
              set = λ constructs unset. let bad : true ≡ false = sym constructs ∙ (sym (ap (λ (t : TypeFrame). t.flag_this_uninit) first) ∙ unset) in cc;
            };
            task = subst (λ (t : TypeFrame). HaveTypes know env (record { this = this; made = λ p. 0 }) h [] t.stack) (sym first) tt;
          };
        };
        tells = refl;
      }
    where
      with_room : (b : Bool) (g : Frame) → b ≡ true → (if b then Some g else None) ≡ Some g
      with_room true g e = refl
      with_room false g e = cc
