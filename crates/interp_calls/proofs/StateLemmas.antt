-- The state of a thread.
use Rattle.std.specs.Prelude.{IsTrue, OnErr}
use Rattle.std.proofs.Math.Bool.{Bool-set}
use Rattle.std.proofs.Common.{◌≡◌, Result, Ok, Err, ℕ, Bool, true, subst, List, Option, None, Some, false, refl, ap, sym, ◌∙◌}
use Rattle.code_decode.specs.declared.code.ClassUnit.{ClassUnit}
use Rattle.frame_snapshot.specs.FrameStack.{FrameStack}
use Rattle.frame_snapshot.specs.declared.stage.CallSite.{CallSite}
use Rattle.op_core.specs.ThreadCode.{leaves_any}
use Rattle.java_rows.specs.Thread.{java_code}
use Rattle.interp_texts.specs.declared.run.TextRun.{TextRun}
use Rattle.interp_texts.specs.Told.{HasRoomNow, has_room-prop}
use Rattle.interp_calls.specs.Local.{saved_locals, stands_in, state_over}
use Rattle.interp_calls.specs.declared.java_code.JavaCode.{JavaCode}
use Rattle.interp_calls.proofs.TextLemmas.{text_stays}

pub program_is : (us : List ClassUnit) (me : ℕ) (s : FrameStack) (run : TextRun) (text : Option CallSite) → (state_over us me s run text).program ≡ us
program_is us me s run None = refl
program_is us me s run (Some site) = refl

-- inside a method that reads or makes texts no frame ends
pub inside_stays : (us : List ClassUnit) (me : ℕ) (s : FrameStack) (run : TextRun) (text : Option CallSite) (site : CallSite) → text ≡ Some site
    → false ≡ leaves_any java_code (saved_locals us me s) (state_over us me s run text)
inside_stays us me s run text site is =
    sym (ap (λ t. leaves_any java_code (saved_locals us me s) (state_over us me s run t)) is ∙ text_stays us me s run site)

-- ---- the same thread

one_way : (b : Bool) → IsProp (b ≡ true)
one_way b = Bool-set b true

-- with the same frames in place of its own
pub same_thread : {P : Type 0} (code : JavaCode P) (frames : FrameStack) (stands : IsTrue (stands_in code.text frames.here.stage)) (room : HasRoomNow code.texts) → frames ≡ code.frames
    → record { alloc = code.alloc; program = code.program; thread = code.thread; frames = frames; texts = code.texts; text = code.text; stands = stands; room = room } ≡ code
same_thread {P} code frames stands room is =
    subst (λ (fs : FrameStack). (p : IsTrue (stands_in code.text fs.here.stage)) → over fs p room ≡ code) (sym is)
    (λ p. ap (λ q. over code.frames q room) (one_way (stands_in code.text code.frames.here.stage) p code.stands)
    ∙ ap (over code.frames code.stands) (has_room-prop code.texts room code.room))
    stands
  where
    over : (fs : FrameStack) → IsTrue (stands_in code.text fs.here.stage) → HasRoomNow code.texts → JavaCode P
    over fs p r = record { alloc = code.alloc; program = code.program; thread = code.thread; frames = fs; texts = code.texts; text = code.text; stands = p; room = r }

-- and with the same texts
pub same_inside : {P : Type 0} (code : JavaCode P) (frames : FrameStack) (texts : TextRun) (stands : IsTrue (stands_in code.text frames.here.stage)) (room : HasRoomNow texts)
    → frames ≡ code.frames → texts ≡ code.texts
    → record { alloc = code.alloc; program = code.program; thread = code.thread; frames = frames; texts = texts; text = code.text; stands = stands; room = room } ≡ code
same_inside {P} code frames texts stands room is same =
    subst (λ (t : TextRun). (r : HasRoomNow t) → over t r ≡ code) (sym same) (λ r. same_thread code frames stands r is) room
  where
    over : (t : TextRun) → HasRoomNow t → JavaCode P
    over t r = record { alloc = code.alloc; program = code.program; thread = code.thread; frames = frames; texts = t; text = code.text; stands = stands; room = r }

pub on_err : {T E A : Type 0} (result : Result T E) → A → OnErr result A
on_err (Ok x) a = tt
on_err (Err e) a = a
