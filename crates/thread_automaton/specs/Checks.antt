-- What a thread makes of the words of objects and sections that it has loaded.
use Rattle.std.specs.Prelude.{ℕ, Bool, ◌&&◌, ◌||◌, List, ◌∷◌, nat_eq, nat_le, if◌then◌else◌}
use Rattle.op_core.specs.declared.Op.{Op}
use Rattle.op_core.specs.declared.Op.TheVariants.{ClassOf, Write, Enter, Exit, Wait, Rewake, Start, Init}
use Rattle.op_core.specs.declared.Reply.TheVariants.{Class, Value}
use Rattle.op_core.specs.declared.Next.{Next}
use Rattle.op_core.specs.declared.Next.TheVariants.{Want}
use Rattle.heap_words.specs.declared.words.WaitWord.TheVariants.{Waiting}
use Rattle.heap_words.specs.Words.{pack_tag, tag_section, tag_level, pack, value_of, tag_of, header_class, header_length, wait_word_of}
use Rattle.section_state.specs.declared.State.TheVariants.{Live, Revoking, Undone, Committed}
use Rattle.section_state.specs.SectionWord.{pinned_of}
use Rattle.write_log.specs.declared.Noted.{Noted}
use Rattle.monitor_core.specs.declared.Why.TheVariants.{WordRevoking}
use Rattle.monitor_core.specs.declared.Contend.{Contend}
use Rattle.monitor_core.specs.declared.Contend.TheVariants.{Free, Own, Busy}
use Rattle.monitor_core.specs.Contention.{is_in, contend_with}
use Rattle.step_port.specs.declared.step.Step.TheVariants.{SwapWord, Pin, Revoke, Release, DrawThread, SetWait, LoadWait, ClaimClass}
use Rattle.thread_automaton.specs.declared.Attempt.{Attempt}
use Rattle.thread_automaton.specs.declared.Attempt.TheVariants.{Begin, Checked, Fixed, Meets, Undoing}
use Rattle.thread_automaton.specs.ThreadState.{ThreadState, is_open}
use Rattle.thread_automaton.specs.NextMove.{own_pin}
use Rattle.thread_automaton.specs.Changes.{Change, goes, never_comes, has_to_wait, replies, sees_pinned, knows}

-- Where the attempt at an operation goes on once the own section is pinned in its midst: with the step that
-- can't be taken back. An operation that begins with that step is begun anew, and so is a silent step.
abbrev pub behind_pin : {S : Type 0} → ThreadState S → Next → Attempt
behind_pin th (Want (Exit r)) = Fixed (Release r)
behind_pin th (Want (Wait r)) = Fixed (SetWait th.number (wait_word_of (Waiting r)))
behind_pin th (Want (Op.Notify r)) = Fixed (LoadWait 1)
behind_pin th (Want (Start r p)) = Fixed DrawThread
behind_pin th (Want (Init c)) = Fixed (ClaimClass c th.number)
behind_pin th next = Checked

-- first the pin of the own section, where a level is open that wasn't seen pinned
abbrev pub to_pin : {S : Type 0} → ThreadState S → Next → Attempt
to_pin th next = if is_open th then Fixed (own_pin th) else behind_pin th next

-- A word is safe where no section wrote it, or the own one did, or the one that is known to be pinned or committed, no
-- deeper than that is known.
abbrev pub is_safe_tag : {S : Type 0} → ThreadState S → ℕ → Bool
is_safe_tag th tag = nat_eq tag 0 || nat_eq (tag_section tag) th.section
    || (nat_eq (tag_section tag) th.known && nat_le (tag_level tag) th.known_depth)

abbrev pub is_safe : {S : Type 0} → ThreadState S → ℕ → Bool
is_safe th w = is_safe_tag th (tag_of w)

-- of a word that isn't safe the section that wrote it is looked at
abbrev pub meets_writer : ℕ → Change
meets_writer tag = goes (Meets (tag_section tag) (tag_level tag))

abbrev pub if_safe : {S : Type 0} → ThreadState S → ℕ → Change → Change
if_safe th w change = if is_safe th w then change else meets_writer (tag_of w)

-- the word that is written: its tag is the own section with its open depth
abbrev pub written_word : {S : Type 0} → ThreadState S → ℕ → ℕ
written_word th v = pack v (pack_tag th.section th.levels)

-- the word w at a place of the objects, which is a header where the class of an object is wanted
abbrev pub word_loaded : {S : Type 0} → ThreadState S → Next → ℕ → ℕ → Change
word_loaded th (Want (ClassOf r)) at w = replies (Class (header_class w) (header_length w))
word_loaded th (Want (Write r i v)) at w = if_safe th w (goes (Fixed (SwapWord at w (written_word th v))))
word_loaded th next at w = if_safe th w (replies (Value (value_of w)))

-- the log once a word was overwritten: the word is logged where the innermost level can still be undone
abbrev pub noted : {S : Type 0} → ThreadState S → ℕ → ℕ → List Noted
noted th at old = if is_open th then record { at = at; old = old } ∷ th.log else th.log

-- the word of the own section: it is undone where it was revoked, and else the pinned depth is seen
abbrev pub own_seen : ℕ → Change
own_seen w = if is_in Revoking w then goes (Undoing w) else sees_pinned (pinned_of w) Checked

-- the word of the section s, which holds the wanted monitor: it is revoked to a level, or has to be waited for, and is
-- neither free nor the own one
abbrev pub met : ℕ → ℕ → Contend → Change
met s w (Contend.Revoke level) = goes (Fixed (Revoke s w level))
met s w (Busy why) = has_to_wait why
met s w Free = never_comes
met s w Own = never_comes

-- it has held the monitor since this level of it opened
abbrev pub holder_seen : {S : Type 0} → ThreadState S → ℕ → ℕ → ℕ → Change
holder_seen th s level w = met s w (contend_with w level th.priority)

-- the word of a live section s, which had written a word at this level: it is pinned so deep, unless it is already
abbrev pub writer_seen : ℕ → ℕ → ℕ → Change
writer_seen s level w = if nat_le level (pinned_of w) then knows s (pinned_of w) else goes (Fixed (Pin s w level))

-- the word of any section s that had written a word at this level which isn't safe: one that is being revoked has to be
-- waited for, and where it is undone the word is loaded again
abbrev pub tag_seen : ℕ → ℕ → ℕ → Change
tag_seen s level w =
    if is_in Committed w then knows s 255
    else if is_in Undone w then goes Checked
    else if is_in Live w then writer_seen s level w
    else has_to_wait (WordRevoking s)

-- The word of the section s: of the one that is met as the holder of the wanted monitor, or as the writer of a word, or
-- of the own one.
abbrev pub section_loaded : {S : Type 0} → ThreadState S → Next → Attempt → ℕ → ℕ → Change
section_loaded th (Want (Enter r)) (Meets q level) s w = holder_seen th s level w
section_loaded th (Want (Rewake r)) (Meets q level) s w = holder_seen th s level w
section_loaded th next (Meets q level) s w = tag_seen s level w
section_loaded th next attempt s w = own_seen w
