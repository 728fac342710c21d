-- What the rows of all instructions share.
use Rattle.std.proofs.Common.{◌≡◌, ◌≤◌, ℕ, Bool, true, false, Option, Some, List, length, drop, refl, arith, nat_le, if◌then◌else◌}
use Rattle.std.proofs.lemmas.Bool.{le-leb}
use Rattle.builtin_world.specs.Laws.{is_throwable}
use Rattle.code_decode.specs.declared.code.ClassUnit.{ClassUnit}
use Rattle.instructions.specs.declared.what.Instr.{Instr}
use Rattle.instructions.specs.declared.what.Target.{Target}
use Rattle.instructions.specs.declared.what.What.{What}
use Rattle.type_rules.specs.Wants.{Want, wants}
use Rattle.instructions.specs.What.{falls_through}
use Rattle.type_rules.specs.FrameAfter.{frame_after}
use Rattle.java_rows.specs.LocalRows.{moves, no_row, leaving}
use Rattle.java_rows.specs.Plan.{Frame, goes, Plan, fails, after_step, bare, thrown_in}
use Rattle.java_rows.specs.Rows.{row, by_local}
use Rattle.row_soundness.specs.Senses.{Sense}
use Rattle.row_soundness.specs.Fits.{HaveTypes, Returns, StandsIn, returns_of, EndingFits, PlanFits, anything, env_of}
use Rattle.row_soundness.specs.Operands.{FitsIn, Begins, Operands}
use Rattle.row_soundness.specs.Knowledge.{Knows}
use Rattle.row_soundness.specs.Accepted.{Accepted}
use Rattle.row_soundness.proofs.Flow.{next_fits, taken_off, stands_more}
use Rattle.row_soundness.proofs.Basics.{thrown_number}
use Rattle.row_soundness.proofs.Plans.{makes_fit}

module _ {P : Type 0} (know : Sense P) (us : List ClassUnit) (knows : Knows know us) (accepted : Accepted us) (me : ℕ) where
  -- the row of a frame's instruction fits
  abbrev pub RowFits : (h : P) (f : Frame) (i : Instr Target) → Begins know us h f i → Type 0
  RowFits h f i b = PlanFits know us (Some (returns_of know us h f b.stands)) anything (row us me f i.what) h

  -- no handler looks at the stack
  abbrev pub bare_stands : (h : P) (f : Frame) → StandsIn know us h f → StandsIn know us h (bare f)
  bare_stands h f s = record {
    of = s.of;
    frames = s.frames;
    typed = s.typed;
    unset = s.unset;
    within = s.within;
    room = s.room;
    monitor = s.monitor;
    locals = s.locals;
    set = s.set;
  }

  -- an exception of the machine
  pub fails_fit : (h : P) (f : Frame) (s : StandsIn know us h f) (c : ℕ) → is_throwable c ≡ true
      → PlanFits know us (Some (returns_of know us h f s)) anything (fails f c) h
  fails_fit h f s c throwable =
      makes_fit know us knows (Some (returns_of know us h f s)) h c 0 (λ r. thrown_in f r c)
      (knows.makes h c 0 (record { class = thrown_number us accepted c throwable; length = omega arith }))
      (λ h' r more come. (tt, (bare_stands h' f (stands_more know us knows accepted h h' more f s), refl, knows.made_thrown h' c r throwable come)))

  by_room : (b : Bool) (h : P) (res : Option Returns) (f g : Frame) (what : What Target) (stack : List ℕ) → b ≡ true → EndingFits know us h res (goes (after_step g stack))
      → PlanFits know us res anything (by_local us me f what (if b then moves (after_step g stack) else no_row)) h
  by_room true h res f g what stack e fits = (tt, (tt, fits))
  by_room false h res f g what stack e fits = cc

  pub leaving_fits : (h : P) (res : Option Returns) (f g : Frame) (what : What Target) (stack : List ℕ) → length stack ≤ g.room → EndingFits know us h res (goes (after_step g stack))
      → PlanFits know us res anything (by_local us me f what (leaving g stack)) h
  leaving_fits h res f g what stack fits ending = by_room (nat_le (length stack) g.room) h res f g what stack (le-leb (length stack) g.room fits) ending

  module _ (h : P) (f : Frame) where
    -- the frame goes on with another stack, or what is known of locals
    pub goes_on : (i : Instr Target) (b : Begins know us h f i) (stack : List ℕ) → falls_through i.what ≡ true
        → FitsIn know (env_of us f.method b.stands.of) b.stands.unset h f.locals stack (frame_after (env_of us f.method b.stands.of) i (b.stands.frames f.step))
        → PlanFits know us (Some (returns_of know us h f b.stands)) anything (by_local us me f i.what (leaving f stack)) h
    goes_on i b stack falls fits =
        let next = next_fits know us knows accepted h f i b b.stands.unset.made f.locals stack falls fits in
        leaving_fits h (Some (returns_of know us h f b.stands)) f f i.what stack next.1 next.0

    -- the words that an instruction takes
    abbrev pub Takes : (i : Instr Target) → Begins know us h f i → List Want → Type 0
    Takes i b ws = Operands know (env_of us f.method b.stands.of) b.stands.unset h (b.stands.frames f.step).stack 0 ws f.stack

    pub takes : (i : Instr Target) (b : Begins know us h f i) → Takes i b (wants (env_of us f.method b.stands.of) i.what)
    takes i b = taken_off know us knows accepted h f i b

    -- what the rows of one instruction say of a part of it
    abbrev pub Fit : (i : Instr Target) → Begins know us h f i → Plan → Type 0
    Fit i b plan = PlanFits know us (Some (returns_of know us h f b.stands)) anything plan h

    abbrev pub Left : (i : Instr Target) → Begins know us h f i → ℕ → List ℕ → Type 0
    Left i b n rest = HaveTypes know (env_of us f.method b.stands.of) b.stands.unset h rest (drop n (b.stands.frames f.step).stack)

    -- the instruction is complete with this stack
    pub completes_fit : (i : Instr Target) (b : Begins know us h f i) (stack : List ℕ) → falls_through i.what ≡ true
        → FitsIn know (env_of us f.method b.stands.of) b.stands.unset h f.locals stack (frame_after (env_of us f.method b.stands.of) i (b.stands.frames f.step))
        → Fit i b (Rattle.java_rows.specs.Plan.completes f stack)
    completes_fit i b stack falls fits = (tt, (next_fits know us knows accepted h f i b b.stands.unset.made f.locals stack falls fits).0)
