-- What an answer makes of a thread.
use Rattle.std.specs.Prelude.{ℕ, suc, ◌-◌, true, not, List, [], ◌∷◌, length, drop, filter, nat_eq, if◌then◌else◌}
use Rattle.op_core.specs.declared.Line.{Line}
use Rattle.op_core.specs.declared.Reply.{Reply}
use Rattle.op_core.specs.ThreadCode.{Code}
use Rattle.write_log.specs.declared.Noted.{Noted}
use Rattle.monitor_core.specs.declared.Why.{Why}
use Rattle.thread_automaton.specs.declared.Attempt.{Attempt}
use Rattle.thread_automaton.specs.declared.Attempt.TheVariants.{Begin, Checked}
use Rattle.thread_automaton.specs.declared.Held.{Held}
use Rattle.thread_automaton.specs.ThreadState.{ThreadState, is_open, inside, nth_or, mark_of, held_as, with_depth_of}

pub data Change : Type 0 where
  -- the attempt goes on so
  goes : Attempt → Change
  -- it ends without a reply, since the thread has to wait
  has_to_wait : Why → Change
  -- the operation has this reply, and nothing else is changed
  replies : Reply → Change
  -- the own section is seen pinned to this depth
  sees_pinned : ℕ → Attempt → Change
  -- the section that had written a word is committed, or pinned to this depth
  knows : ℕ → ℕ → Change
  -- a word was written, and the log is then this
  writes : List Noted → Change
  -- a section was opened, with its first level
  opens : ℕ → Attempt → Change
  -- the next level was opened
  opens_level : Attempt → Change
  -- the levels above this depth were closed: what was done in them is part of the level that is then the innermost
  closes_to : ℕ → Attempt → Change
  -- a monitor was taken
  takes : Held → Change
  -- a monitor that was held already has this depth
  deepens : ℕ → ℕ → Change
  -- a monitor was left, and these are held still
  drops : List Held → Change
  -- the last monitor was left, and the section has ended
  closes : Change
  -- a wait has given up the monitor of this object
  waits : ℕ → Change
  -- a line was printed, with this ticket
  prints : ℕ → Line → Change
  -- undoing has put back the word that was logged last
  puts_back : Change
  -- undoing has given a monitor its depth of before
  sets_back : ℕ → ℕ → Change
  -- undoing has released the monitor of this object
  gives_back : ℕ → Change
  -- the section is undone to this level: the thread is again as it was when it was to enter
  goes_back : ℕ → Change
  -- the thread has ended
  ends : Change

-- its operation has this reply
abbrev pub answered : {S : Type 0} → Code S → ThreadState S → Reply → ThreadState S
answered code th reply = record th { local = code.reply th.local reply; attempt = Begin }

-- where no level is open that the thread hasn't seen pinned, nothing that was logged or saved is needed any more
abbrev pub forgotten : {S : Type 0} → ThreadState S → ThreadState S
forgotten th = if is_open th then th else record th { log = []; saved = []; marks = [] }

-- the levels inside of the outermost n are no longer open
abbrev pub with_levels : {S : Type 0} → ThreadState S → ℕ → ThreadState S
with_levels th n = record th { levels = n; saved = drop (inside th n) th.saved; marks = drop (inside th n) th.marks }

-- level n is no longer open, nor any inside of it
abbrev pub without_level : {S : Type 0} → ThreadState S → ℕ → ThreadState S
without_level th n = record th { levels = n - 1; saved = drop (suc (inside th n)) th.saved; marks = drop (suc (inside th n)) th.marks }

-- the next level is open: its save and its mark say how it was before
abbrev pub with_level : {S : Type 0} → ThreadState S → ThreadState S
with_level th = record th {
  levels = suc th.levels;
  saved = th.local ∷ th.saved;
  marks = record { silents = th.silents; noted = length th.log; held = th.held } ∷ th.marks;
}

-- it is as it was when level n opened
abbrev pub stood_at : {S : Type 0} → ThreadState S → ℕ → ThreadState S
stood_at th n = record th {
  local = nth_or th.local (inside th n) th.saved;
  silents = (mark_of th n).silents;
}

-- without an open level there is no section
abbrev pub section_at : ℕ → ℕ → ℕ
section_at n section = if nat_eq n 0 then 0 else section

-- what is held without the monitor of r
abbrev pub without : ℕ → List Held → List Held
without r held = filter (λ h. not (nat_eq h.object r)) held

-- an answer that such a step of such a thread never has: the attempt would begin anew
abbrev pub never_comes : Change
never_comes = goes Begin

abbrev pub changed : {S : Type 0} → Code S → ThreadState S → Change → ThreadState S
changed code th (goes attempt) = record th { attempt = attempt }
changed code th (has_to_wait why) = record th { attempt = Begin }
changed code th (replies reply) = answered code th reply
changed code th (sees_pinned depth attempt) = forgotten (record th { pinned = depth; attempt = attempt })
changed code th (knows s depth) = record th { known = s; known_depth = depth; attempt = Checked }
changed code th (writes log) = record (answered code th Reply.Done) { log = log }
changed code th (opens s attempt) = with_level (record th { section = s; levels = 0; pinned = 0; attempt = attempt })
changed code th (opens_level attempt) = forgotten (with_level (record th { attempt = attempt }))
changed code th (closes_to n attempt) = forgotten (with_levels (record th { attempt = attempt }) n)
changed code th (takes h) = record (answered code th Reply.Done) { held = h ∷ th.held; depth = 0 }
changed code th (deepens r depth) = record (answered code th Reply.Done) { held = with_depth_of r depth th.held }
changed code th (drops held) = record (answered code th Reply.Done) { held = held }
changed code th closes = forgotten (with_levels (record (answered code th Reply.Done) { held = []; section = 0 }) 0)
changed code th (waits r) = record (answered code th Reply.Done) { held = without r th.held; depth = (held_as r th.held).depth; level = (held_as r th.held).level }
changed code th (prints ticket line) = record (answered code th Reply.Done) { lines = record { ticket = ticket; line = line } ∷ th.lines }
changed code th puts_back = record th { log = drop 1 th.log }
changed code th (sets_back r depth) = record th { held = with_depth_of r depth th.held }
changed code th (gives_back r) = record th { held = without r th.held }
changed code th (goes_back n) = forgotten (without_level (record (stood_at th n) { section = section_at (n - 1) th.section; attempt = Begin }) n)
changed code th ends = record th { over = true; attempt = Begin }
