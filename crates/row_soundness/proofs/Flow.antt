-- Where an instruction leads, the words of the frame have the types that verification gives them there.
use Rattle.std.proofs.Common.{◌≡◌, ◌<◌, ◌≤◌, ℕ, suc, Bool, true, false, not, ◌||◌, inl, inr, Some, List, length, refl, sym, subst, ◌∙◌, arith, slice_get}
use Rattle.std.specs.List.{AllByRecursion}
use Rattle.std.proofs.lemmas.Bool.{and_parts}
use Rattle.code_decode.specs.declared.code.ClassUnit.{ClassUnit}
use Rattle.instructions.specs.declared.what.Instr.{Instr}
use Rattle.instructions.specs.declared.what.Target.{Target}
use Rattle.instructions.specs.What.{falls_through, targets_of}
use Rattle.link_types.specs.declared.types.ObjectType.TheVariants.{Class}
use Rattle.link_rules.specs.Classes.{classes_of}
use Rattle.type_rules.specs.Assignable.{are_assignable, are_locals_assignable}
use Rattle.type_rules.specs.Environment.{Environment, TypeFrame}
use Rattle.type_rules.specs.Environments.{hierarchy_of}
use Rattle.type_rules.specs.FrameAfter.{frame_after}
use Rattle.type_rules.specs.TypeFaults.{is_frame_assignable}
use Rattle.type_rules.specs.Wants.{wants}
use Rattle.type_rules.proofs.Falling.{step_there}
use Rattle.type_laws.specs.Frames.{HasWanted, UsesRightTypes, HasRoom, GoesOn, Enters}
use Rattle.type_laws.proofs.Kept.{wanted_there, right_types}
use Rattle.type_laws.proofs.Rooms.{have_room}
use Rattle.type_laws.proofs.Sizes.{locals_kept}
use Rattle.type_laws.proofs.Flows.{go_on}
use Rattle.java_rows.specs.Plan.{Task, at_step, Frame, goes}
use Rattle.row_soundness.specs.Senses.{Sense}
use Rattle.row_soundness.specs.Fits.{Unset, HaveTypes, StandsIn, returns_of, FrameFits, EndingFits, env_of}
use Rattle.row_soundness.specs.Operands.{FitsIn, Begins, Operands}
use Rattle.row_soundness.specs.Knowledge.{Knows}
use Rattle.row_soundness.specs.Accepted.{Accepted}
use Rattle.row_soundness.proofs.Basics.{types_assigned, locals_assigned, length_typed, types_more}
use Rattle.row_soundness.proofs.Operands.{operands}

or_not : (a b : Bool) → (not a || b) ≡ true → b ≡ false → a ≡ false
or_not true b e f = let bad : false ≡ true = sym f ∙ e in cc
or_not false b e f = refl

module _ {P : Type 0} (know : Sense P) (us : List ClassUnit) (knows : Knows know us) (accepted : Accepted us) where
  -- what fits a frame fits one to which that is assignable
  module _ (env : Environment) (is_ours : env.hierarchy ≡ hierarchy_of (classes_of us)) (u : Unset) (h : P) where
    pub fits_assigned : (locals stack : List ℕ) (f g : TypeFrame) → length f.locals ≡ length g.locals → is_frame_assignable env f g ≡ true → FitsIn know env u h locals stack f → FitsIn know env u h locals stack g
    fits_assigned locals stack f g long e fits =
        let first = and_parts (are_assignable env.hierarchy f.stack g.stack) _ e in
        let second = and_parts (are_locals_assignable env.hierarchy f.locals g.locals) _ first.1 in
        record {
          locals_fit = locals_assigned know us knows env is_ours u h locals f.locals g.locals long second.0 fits.locals_fit;
          stack_fits = types_assigned know us knows env is_ours u h stack f.stack g.stack first.0 fits.stack_fits;
          set = λ constructs is. fits.set constructs (or_not f.flag_this_uninit g.flag_this_uninit second.1 is);
        }

  -- ---- frames at other instructions of the method

  module _ (h : P) (f : Frame) (s : StandsIn know us h f) where
    abbrev env : Environment
    env = env_of us f.method s.of

    -- the frame at an instruction; `made` says what each `new` made last
    abbrev frame_at : (made : ℕ → ℕ) (step : ℕ) (locals stack : List ℕ) → step < length s.of.code.steps
        → FitsIn know env (record { this = s.unset.this; made = made }) h locals stack (s.frames step)
        → FrameFits know us h (record f { step = step; task = at_step; locals = locals; stack = stack })
    frame_at made step locals stack within fits = record {
      stands = record {
        of = s.of;
        frames = s.frames;
        typed = s.typed;
        unset = record { this = s.unset.this; made = made };
        within = within;
        room = s.room;
        monitor = s.monitor;
        locals = fits.locals_fit;
        set = fits.set;
      };
      task = fits.stack_fits;
    }

    pub room_at : (step : ℕ) (stack : List ℕ) (u : Unset) → step < length s.of.code.steps → HaveTypes know env u h stack (s.frames step).stack → length stack ≤ f.room
    room_at step stack u within typed =
        let i = step_there s.of.code.steps step within in
        let room : HasRoom env (s.frames step) = have_room env s.frames s.typed step i.0 i.1 in
        omega (arith, s.room, room.stack, length_typed know env u h stack (s.frames step).stack typed)

    pub locals_long : (step : ℕ) → step < length s.of.code.steps → length (s.frames step).locals ≡ s.of.code.max_locals
    locals_long step within =
        let i = step_there s.of.code.steps step within in
        (have_room env s.frames s.typed step i.0 i.1).locals

    -- to an instruction whose frame takes what fits
    pub enters_at : (made : ℕ → ℕ) (step : ℕ) (locals stack : List ℕ) (t : TypeFrame) → step < length s.of.code.steps → length t.locals ≡ s.of.code.max_locals → Enters env s.frames t step
        → FitsIn know env (record { this = s.unset.this; made = made }) h locals stack t
        → EndingFits know us h (Some (returns_of know us h f s)) (goes (record f { step = step; task = at_step; locals = locals; stack = stack }))
    enters_at made step locals stack t within long enters fits =
        (frame_at made step locals stack within (fits_assigned env refl (record { this = s.unset.this; made = made }) h locals stack t (s.frames step) (long ∙ sym (locals_long step within)) (enters within) fits), refl)

  -- ---- to the next instruction, also of a frame that has the stack after a call already

  module _ (h : P) (f : Frame) (i : Instr Target) (stand : StandsIn know us h f) (there : slice_get stand.of.code.steps f.step ≡ Some i) where
    abbrev behind : TypeFrame
    behind = frame_after (env_of us f.method stand.of) i (stand.frames f.step)

    behind_long : length behind.locals ≡ stand.of.code.max_locals
    behind_long = locals_kept (env_of us f.method stand.of) i.at i.what (stand.frames f.step) ∙ locals_long h f stand f.step stand.within

    goes_to : GoesOn (env_of us f.method stand.of) stand.frames f.step i (stand.frames f.step)
    goes_to = go_on (env_of us f.method stand.of) stand.frames stand.typed f.step i there

    pub next_from : (made : ℕ → ℕ) (locals stack : List ℕ) → falls_through i.what ≡ true → FitsIn know (env_of us f.method stand.of) (record { this = stand.unset.this; made = made }) h locals stack behind
        → EndingFits know us h (Some (returns_of know us h f stand)) (goes (record f { step = suc f.step; task = at_step; locals = locals; stack = stack })) × (length stack ≤ f.room)
    next_from made locals stack falls fits = elim (goes_to.next falls) [
      | inl same ↦
          let u : Unset = record { this = stand.unset.this; made = made } in
          let fit : FitsIn know (env_of us f.method stand.of) u h locals stack (stand.frames (suc f.step)) = subst (λ x. FitsIn know (env_of us f.method stand.of) u h locals stack x) (sym same) fits in
          ((frame_at h f stand made (suc f.step) locals stack (goes_to.inside falls) fit, refl), room_at h f stand (suc f.step) stack u (goes_to.inside falls) fit.stack_fits)
      | inr enters ↦
          let u : Unset = record { this = stand.unset.this; made = made } in
          let fit : FitsIn know (env_of us f.method stand.of) u h locals stack (stand.frames (suc f.step)) =
          fits_assigned (env_of us f.method stand.of) refl u h locals stack behind (stand.frames (suc f.step)) (behind_long ∙ sym (locals_long h f stand (suc f.step) (goes_to.inside falls))) (enters (goes_to.inside falls)) fits in
          ((frame_at h f stand made (suc f.step) locals stack (goes_to.inside falls) fit, refl), room_at h f stand (suc f.step) stack u (goes_to.inside falls) fit.stack_fits)
    ]

  module _ (h : P) (f : Frame) (i : Instr Target) (b : Begins know us h f i) where
    abbrev s : StandsIn know us h f
    s = b.stands

    abbrev here : TypeFrame
    here = b.stands.frames f.step

    abbrev env_here : Environment
    env_here = env_of us f.method b.stands.of

    abbrev after : TypeFrame
    after = frame_after env_here i here

    after_long : length after.locals ≡ b.stands.of.code.max_locals
    after_long = locals_kept env_here i.at i.what here ∙ locals_long h f s f.step s.within

    leads : GoesOn env_here s.frames f.step i here
    leads = go_on env_here s.frames s.typed f.step i b.at

    -- to the next instruction, where there is room for the stack
    pub next_fits : (made : ℕ → ℕ) (locals stack : List ℕ) → falls_through i.what ≡ true → FitsIn know env_here (record { this = s.unset.this; made = made }) h locals stack after
        → EndingFits know us h (Some (returns_of know us h f s)) (goes (record f { step = suc f.step; task = at_step; locals = locals; stack = stack })) × (length stack ≤ f.room)
    next_fits made locals stack falls fits = next_from h f i b.stands b.at made locals stack falls fits

    -- to a target
    pub target_fits : (made : ℕ → ℕ) (locals stack : List ℕ) (t : Target) → t.step < length b.stands.of.code.steps → Enters env_here s.frames after t.step
        → FitsIn know env_here (record { this = s.unset.this; made = made }) h locals stack after
        → EndingFits know us h (Some (returns_of know us h f s)) (goes (record f { step = t.step; task = at_step; locals = locals; stack = stack }))
    target_fits made locals stack t within enters fits = enters_at h f s made t.step locals stack after within after_long enters fits

    pub targets_enter : AllByRecursion (λ (t : Target). Enters env_here s.frames after t.step) (targets_of i.what)
    targets_enter = leads.targets

    pub targets_inside : AllByRecursion (λ (t : Target). t.step < length b.stands.of.code.steps) (targets_of i.what)
    targets_inside = (accepted.inside f.method b.stands.of).targets f.step i b.at

    -- what the instruction wants
    pub wanted : HasWanted env_here i here
    wanted = wanted_there env_here s.frames s.typed f.step i b.at

    pub uses : UsesRightTypes env_here i here
    uses = right_types env_here s.frames s.typed f.step i b.at

    pub taken_off : Operands know env_here s.unset h here.stack 0 (wants env_here i.what) f.stack
    taken_off = operands know us knows env_here refl s.unset h here.stack (wants env_here i.what) f.stack wanted.enough wanted.right b.stack

  -- ---- when more is known

  module _ (h h' : P) (more : know.extends h h') where
    abbrev pub stands_more : (f : Frame) → StandsIn know us h f → StandsIn know us h' f
    stands_more f s = record {
      of = s.of;
      frames = s.frames;
      typed = s.typed;
      unset = s.unset;
      within = s.within;
      room = s.room;
      monitor = elim s.monitor [ inl none ↦ inl none | inr there ↦ inr (knows.there_more h h' f.monitor more there) ];
      locals = types_more know us knows (env_of us f.method s.of) s.unset h h' f.locals (s.frames f.step).locals more s.locals;
      set = λ constructs is. knows.of_more h h' s.unset.this (Class f.method.class) more (s.set constructs is);
    }

    -- the same frame at a call that begins again
    abbrev pub task_stands : (f : Frame) → StandsIn know us h f → (task : Task) (stack : List ℕ) → StandsIn know us h' (record f { task = task; stack = stack })
    task_stands f s task stack = record {
      of = s.of;
      frames = s.frames;
      typed = s.typed;
      unset = s.unset;
      within = s.within;
      room = s.room;
      monitor = (stands_more f s).monitor;
      locals = (stands_more f s).locals;
      set = (stands_more f s).set;
    }

    abbrev pub begins_more : (f : Frame) (i : Instr Target) → Begins know us h f i → Begins know us h' f i
    begins_more f i b = record {
      stands = stands_more f b.stands;
      at = b.at;
      stack = types_more know us knows (env_of us f.method b.stands.of) b.stands.unset h h' f.stack (b.stands.frames f.step).stack more b.stack;
    }
