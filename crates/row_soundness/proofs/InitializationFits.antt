-- The initialization of classes (JVMS 5.5).
use Rattle.std.proofs.Common.{◌≡◌, ℕ, Bool, true, false, inl, Option, None, Some, List, [], ◌∷◌, length, refl, sym, subst, arith, if◌then◌else◌}
use Rattle.std.specs.Prelude.{filter}
use Rattle.std.specs.List.{AllByRecursion}
use Rattle.builtin_world.specs.declared.number.TheConstants.{ERROR, NO_CLASS_DEF_FOUND_ERROR, EXCEPTION_IN_INITIALIZER_ERROR, ILLEGAL_MONITOR_STATE_EXCEPTION}
use Rattle.builtin_world.specs.Laws.{is_throwable}
use Rattle.code_decode.specs.declared.code.ClassUnit.{ClassUnit}
use Rattle.link_types.specs.declared.operands.MethodId.{MethodId}
use Rattle.link_rules.specs.Classes.{classes_of}
use Rattle.link_rules.specs.Methods.{initializer}
use Rattle.java_rows.specs.Calls.{after_call}
use Rattle.java_rows.specs.Initialization.{breaks, runs_initializer, initializes, behind_class}
use Rattle.java_rows.specs.Plan.{Frame, FrameEnd, returned, threw, broke, Plan, makes, settles, thrown_in, stuck}
use Rattle.java_rows.specs.Program.{is_subclass, is_of_file, initialized_with}
use Rattle.row_soundness.specs.Senses.{Sense}
use Rattle.row_soundness.specs.Fits.{Returns, HaveTypes, EndFits, StandsIn, PlanFits, anything, env_of, returns_of}
use Rattle.row_soundness.specs.Knowledge.{Knows}
use Rattle.row_soundness.specs.Accepted.{Accepted}
use Rattle.row_soundness.proofs.Basics.{thrown_number}
use Rattle.row_soundness.proofs.Flow.{stands_more}
use Rattle.row_soundness.proofs.Plans.{makes_fit, inits_fit, settles_fit}
use Rattle.row_soundness.proofs.RowBasics.{bare_stands}
use Rattle.row_soundness.proofs.EntersFit.{Entered, entered_fits, promised}

pub all_filtered : (test : ℕ → Bool) (xs : List ℕ) → AllByRecursion (λ x. test x ≡ true) (filter test xs)
all_filtered test [] = record {}
all_filtered test (x ∷ xs) = by_test (test x) refl (all_filtered test xs)
  where
    by_test : (b : Bool) → test x ≡ b → AllByRecursion (λ y. test y ≡ true) (filter test xs) → AllByRecursion (λ y. test y ≡ true) (Rattle.std.proofs.Common.cond b (x ∷ filter test xs) (filter test xs))
    by_test true e rest = (e, rest)
    by_test false e rest = rest

module _ {P : Type 0} (know : Sense P) (us : List ClassUnit) (knows : Knows know us) (accepted : Accepted us) (me : ℕ) (res : Option Returns) where
  -- a plan that fits whatever more is known, and what follows a thrown object
  abbrev Later : P → Plan → Type 0
  Later h k = (h' : P) → know.extends h h' → PlanFits know us res anything k h'

  abbrev LaterThrown : P → (ℕ → ℕ → Plan) → Type 0
  LaterThrown h bad = (h' : P) (r d : ℕ) → know.extends h h' → know.is_thrown h' r d → PlanFits know us res anything (bad r d) h'

  later_more : (h h' : P) (k : Plan) → know.extends h h' → Later h k → Later h' k
  later_more h h' k more later h'' more' = later h'' (knows.both h h' h'' more more')

  thrown_more : (h h' : P) (bad : ℕ → ℕ → Plan) → know.extends h h' → LaterThrown h bad → LaterThrown h' bad
  thrown_more h h' bad more later h'' r d more' thrown = later h'' r d (knows.both h h' h'' more more') thrown

  makes_thrown : (h : P) (c : ℕ) (bad : ℕ → ℕ → Plan) → is_throwable c ≡ true → LaterThrown h bad → PlanFits know us res anything (makes c 0 (λ r. bad r c)) h
  makes_thrown h c bad throwable later =
      makes_fit know us knows res h c 0 (λ r. bad r c) (knows.makes h c 0 (record { class = thrown_number us accepted c throwable; length = omega arith }))
      (λ h' r more come. later h' r c more (knows.made_thrown h' c r throwable come))

  breaks_fit : (h : P) (c : ℕ) (bad : ℕ → ℕ → Plan) → is_of_file us c ≡ true → LaterThrown h bad → LaterThrown h (breaks us c bad)
  breaks_fit h c bad file later h' r d more thrown =
      settles_fit know us knows res h' c false (if is_subclass us d ERROR then bad r d else makes EXCEPTION_IN_INITIALIZER_ERROR 0 (λ q. bad q EXCEPTION_IN_INITIALIZER_ERROR)) (knows.settles h' c false file)
      (λ h'' more'. by_error h'' (knows.both h h' h'' more more') (is_subclass us d ERROR) (knows.thrown_more h' h'' r d more' thrown))
    where
      by_error : (h'' : P) → know.extends h h'' → (b : Bool) → know.is_thrown h'' r d → PlanFits know us res anything (if b then bad r d else makes EXCEPTION_IN_INITIALIZER_ERROR 0 (λ q. bad q EXCEPTION_IN_INITIALIZER_ERROR)) h''
      by_error h'' all true is = later h'' r d all is
      by_error h'' all false is = makes_thrown h'' EXCEPTION_IN_INITIALIZER_ERROR bad refl (thrown_more h h'' bad all later)

  settled_fits : (h : P) (c : ℕ) (k : Plan) → is_of_file us c ≡ true → Later h k → PlanFits know us res anything (settles c true k) h
  settled_fits h c k file later = settles_fit know us knows res h c true k (knows.settles h c true file) later

  runs_fit : (h : P) (c : ℕ) (k : Plan) (bad : ℕ → ℕ → Plan) (o : Option MethodId) → initializer (classes_of us) c ≡ o → is_of_file us c ≡ true → Later h k → LaterThrown h bad → Later h (runs_initializer us c k bad o)
  runs_fit h c k bad None e file later broken h' more = settled_fits h' c k file (later_more h h' k more later)
  runs_fit h c k bad (Some id) e file later broken h' more =
      let (code, entry) = accepted.initializers c id e in
      let frame : Entered know us knows accepted h' id code [] 0 0 = entered_fits know us knows accepted h' id code [] 0 0 (inl refl) (subst (λ ts. HaveTypes know (env_of us id code) (record { this = 0; made = λ p. 0 }) h' [] ts) (sym entry) tt) in
      (tt, frame.call, λ h'' end more' fits. ended h'' (knows.both h h' h'' more more') (promised know us knows accepted id code 0) end (subst (λ r. EndFits know h'' (Some r) end) frame.tells fits))
    where
      ended : (h'' : P) → know.extends h h'' → (tells : Returns) (end : FrameEnd) → EndFits know h'' (Some tells) end
          → PlanFits know us res anything (after_call (record { value = λ words. settles c true k; thrown = breaks us c bad; again = λ task. stuck }) end) h''
      ended h'' all tells (returned words) fits = settled_fits h'' c k file (later_more h h'' k all later)
      ended h'' all tells (threw r d) fits = breaks_fit h c bad file broken h'' r d all fits
      ended h'' all tells broke fits = makes_thrown h'' ILLEGAL_MONITOR_STATE_EXCEPTION (breaks us c bad) refl (thrown_more h h'' (breaks us c bad) all (breaks_fit h c bad file broken))

  pub initializes_fit : (h : P) (chain : List ℕ) (k : Plan) (bad : ℕ → ℕ → Plan) → AllByRecursion (λ c. is_of_file us c ≡ true) chain → Later h k → LaterThrown h bad → Later h (initializes us chain k bad)
  initializes_fit h [] k bad files later broken h' more = later h' more
  initializes_fit h (c ∷ above) k bad files later broken h' more =
      inits_fit know us knows res h' c k (makes NO_CLASS_DEF_FOUND_ERROR 0 (λ r. bad r NO_CLASS_DEF_FOUND_ERROR)) (initializes us above (runs_initializer us c k bad (initializer (classes_of us) c)) (breaks us c bad)) (knows.inits h' c files.0)
      (later_more h h' k more later)
      (λ h'' more'. makes_thrown h'' NO_CLASS_DEF_FOUND_ERROR bad refl (thrown_more h h'' bad (knows.both h h' h'' more more') broken))
      (λ h'' more'. initializes_fit h above (runs_initializer us c k bad (initializer (classes_of us) c)) (breaks us c bad) files.1 (runs_fit h c k bad (initializer (classes_of us) c) refl files.0 later broken) (breaks_fit h c bad files.0 broken) h'' (knows.both h h' h'' more more'))

module _ {P : Type 0} (know : Sense P) (us : List ClassUnit) (knows : Knows know us) (accepted : Accepted us) (me : ℕ) where
  -- what an instruction does after a class is initialized
  pub after_class_fits : (h : P) (f : Frame) (s : StandsIn know us h f) (c : ℕ) (k : Plan) → ((h' : P) → know.extends h h' → PlanFits know us (Some (returns_of know us h f s)) anything k h')
      → PlanFits know us (Some (returns_of know us h f s)) anything (behind_class us f c k) h
  after_class_fits h f s c k later =
      initializes_fit know us knows accepted me (Some (returns_of know us h f s)) h (initialized_with us c) k (thrown_in f) (all_filtered (is_of_file us) (Rattle.link_rules.specs.Supers.superclasses (classes_of us) c)) later
      (λ h' r d more thrown. (tt, (bare_stands know us knows accepted me h' f (stands_more know us knows accepted h h' more f s), refl, thrown))) h (knows.itself h)
