-- The turns of an attempt at a word of an object, one by one.
use Rattle.std.proofs.Common.{◌≡◌, ◌⊎◌, inl, inr, ℕ, suc, ◌+◌, ◌-◌, ◌<◌, ◌≤◌, ◌&&◌, not, Bool, true, false, Some, List, [], nat_eq, refl, sym, ◌∙◌, ap, subst, arith}
use Rattle.std.specs.Prelude.{nat_le, if◌then◌else◌}
use Rattle.std.proofs.lemmas.Bool.Decides.{nat_tests}
use Rattle.std.proofs.lemmas.Grind.{common_steps}
use Rattle.op_core.specs.declared.Limit.TheVariants.{Turns}
use Rattle.op_core.specs.declared.Op.{Op}
use Rattle.op_core.specs.declared.Op.TheVariants.{ClassOf, Read, Write, Enter, Rewake, Init}
use Rattle.op_core.specs.declared.Reply.{Reply}
use Rattle.op_core.specs.declared.Reply.TheVariants.{Class, Value, Ready, Bad}
use Rattle.op_core.specs.declared.Next.{Next}
use Rattle.op_core.specs.declared.Next.TheVariants.{Want}
use Rattle.op_core.specs.ThreadCode.{Code}
use Rattle.heap_words.specs.declared.areas.Area.TheVariants.{Section, Object}
use Rattle.heap_words.specs.declared.areas.Area.{Area}
use Rattle.heap_words.specs.Words.{tag_of, tag_section, tag_level, value_of, header_class, header_length, class_thread}
use Rattle.section_state.specs.declared.State.TheVariants.{Revoking}
use Rattle.section_state.specs.SectionWord.{pinned_of}
use Rattle.monitor_core.specs.Contention.{is_in}
use Rattle.monitor_core.specs.declared.Why.TheVariants.{ClassBusy}
use Rattle.step_port.specs.declared.answer.StepAnswer.{StepAnswer}
use Rattle.step_port.specs.declared.answer.StepAnswer.TheVariants.{Found}
use Rattle.step_port.specs.declared.step.Step.{Step}
use Rattle.step_port.specs.declared.step.Step.TheVariants.{LoadWord, SwapWord, LoadSection, LoadClass}
use Rattle.step_port.specs.Steps.{effect_of, kind_of}
use Rattle.step_port.specs.Words.{Words, CanAnswer, IsStepOnWords}
use Rattle.thread_automaton.specs.declared.Attempt.{Attempt}
use Rattle.thread_automaton.specs.declared.Attempt.TheVariants.{Begin, Checked, Fixed, Meets, Undoing}
use Rattle.thread_automaton.specs.declared.Bounds.{Bounds}
use Rattle.thread_automaton.specs.declared.Move.TheVariants.{Over, Stop, Make}
use Rattle.thread_automaton.specs.ThreadState.{ThreadState}
use Rattle.thread_automaton.specs.NextMove.{word_place, first_step, move_of, next_move}
use Rattle.thread_automaton.specs.Changes.{Change, goes, has_to_wait, replies, sees_pinned, knows, writes, changed}
use Rattle.thread_automaton.specs.Checks.{is_safe, meets_writer, written_word, word_loaded, noted, own_seen, tag_seen, section_loaded, to_pin}
use Rattle.thread_automaton.specs.Answers.{class_loaded, change_of}
use Rattle.thread_automaton.specs.Told.{Told, probed, advanced, shown, told_of, told, counted_for, after_answer}
use Rattle.word_runs.specs.Enabled.{is_being_undone, is_of_another, has_to_wait_for}
use Rattle.thread_moves.specs.declared.thread.Own.{Own}
use Rattle.quick_turns.specs.Usual.{goes_through, is_awaited_by_none, is_usual_step, UsualTurns}
use Rattle.turn_runs.proofs.HostLemmas.{told_is, after_is, moves_so}
use Rattle.turn_runs.specs.Own.{thread_at}
use Rattle.turn_runs.specs.HostPlaces.{HostPlace}
use Rattle.quick_turns.specs.Place.{HostKeeps, HostLeads}
use Rattle.turn_runs.specs.Own.{is_safe_for, written_by, has_unseen_level, own_counted}
use Rattle.quick_turns.specs.Paths.{IsAsSeen, IsOfWord, IsInitialized, looked, probed_at, own_knowing, HasWritten}
use Rattle.quick_turns.proofs.UsualLemmas.{enabled_by, one_made}
use Rattle.quick_turns.proofs.LeadLemmas.{goes_on}

-- ---- which step comes next

pub first_moves : {S : Type 0} (code : Code S) (own : Own) (l : S) (saves : List S) (op : Op) (c : Attempt) (step : Step) → first_step code (thread_at own c l saves) op ≡ step
    → (c ≡ looked own) ⊎ (c ≡ Checked) → move_of code (thread_at own c l saves) (Want op) c ≡ Make step
first_moves code own l saves op c step first (inr is) = ap (move_of code (thread_at own c l saves) (Want op)) is ∙ ap Make first
first_moves {S} code own l saves op c step first (inl is) = ap (move_of code (thread_at own c l saves) (Want op)) is ∙ by_test (has_unseen_level own) refl ∙ ap Make first
  where
    by_test : (t : Bool) → has_unseen_level own ≡ t → move_of code (thread_at own c l saves) (Want op) (if has_unseen_level own then Checked else Begin) ≡ Make (first_step code (thread_at own c l saves) op)
    by_test true some = ap (λ t. move_of code (thread_at own c l saves) (Want op) (if t then Checked else Begin)) some
    by_test false none =
        ap (λ t. move_of code (thread_at own c l saves) (Want op) (if t then Checked else Begin)) none
        ∙ ap (λ t. if t then Make (LoadSection own.section) else Make (first_step code (thread_at own c l saves) op)) none

pub word_first : {S : Type 0} (code : Code S) (th : ThreadState S) (op : Op) (at : ℕ) → IsOfWord op at → first_step code th op ≡ LoadWord at
word_first code th (Read r i) at is = ap LoadWord (sym is)
word_first code th (Write r i v) at is = ap LoadWord (sym is)
word_first code th op at is = absurd is

-- ---- what is made of answers

begin_sees : {S : Type 0} (th : ThreadState S) (op : Op) (s w : ℕ) → section_loaded th (Want op) Begin s w ≡ own_seen w
begin_sees th (Enter r) s w = refl
begin_sees th (Rewake r) s w = refl
begin_sees th op s w = refl

unsafe_met : {S : Type 0} (th : ThreadState S) (op : Op) (at w : ℕ) → IsOfWord op at → is_safe th w ≡ false → word_loaded th (Want op) at w ≡ meets_writer (tag_of w)
unsafe_met th (Read r i) at w is unsafe = ap (λ t. if t then replies (Value (value_of w)) else meets_writer (tag_of w)) unsafe
unsafe_met th (Write r i v) at w is unsafe = ap (λ t. if t then goes (Fixed (SwapWord at w (written_word th v))) else meets_writer (tag_of w)) unsafe
unsafe_met th op at w is unsafe = absurd is

writer_met : {S : Type 0} (th : ThreadState S) (op : Op) (at s level u : ℕ) → IsOfWord op at → section_loaded th (Want op) (Meets s level) s u ≡ tag_seen s level u
writer_met th (Read r i) at s level u is = refl
writer_met th (Write r i v) at s level u is = refl
writer_met th op at s level u is = absurd is

-- ---- whether the thread has to wait

both_false : (t u : Bool) → u ≡ false → (t && u) ≡ false
both_false true u is = is
both_false false u is = refl

-- the word at a place doesn't let the thread wait
abbrev pub NoneWaits : Words → Own → ℕ → Type 0
NoneWaits w own at = (is_safe_for own (w (Object at)) ≡ true) ⊎ (is_in Revoking (w (Section (tag_section (tag_of (w (Object at)))))) ≡ false)

goes_at : {S : Type 0} (w : Words) (own : Own) (l : S) (saves : List S) (a : Attempt) (at : ℕ) → NoneWaits w own at → is_being_undone w (thread_at own a l saves) at ≡ false
goes_at w own l saves a at (inl safe) = ap (λ t. not t && is_in Revoking (w (Section (tag_section (tag_of (w (Object at))))))) safe
goes_at w own l saves a at (inr stays) = both_false (not (is_safe_for own (w (Object at)))) _ stays

pub none_waits : {S : Type 0} (w : Words) (own : Own) (l : S) (saves : List S) (a : Attempt) (op : Op) (at : ℕ) → IsOfWord op at → NoneWaits w own at
    → has_to_wait_for w (thread_at own a l saves) (Want op) ≡ false
none_waits w own l saves a (Read r i) at is none = ap (is_being_undone w (thread_at own a l saves)) (sym is) ∙ goes_at w own l saves a at none
none_waits w own l saves a (Write r i v) at is none = ap (is_being_undone w (thread_at own a l saves)) (sym is) ∙ goes_at w own l saves a at none
none_waits w own l saves a op at is none = absurd is

-- ---- classes

same_is : (m n : ℕ) → m ≡ n → nat_eq m n ≡ true
same_is m n is = grind (arith, common_steps, nat_tests)

init_seen : {S : Type 0} (own : Own) (l : S) (saves : List S) (a : Attempt) (next : Next) (w : ℕ) → IsInitialized own w → class_loaded (thread_at own a l saves) next w ≡ replies Ready
init_seen own l saves a next w (inl ready) =
    ap (λ s. if nat_eq s 2 then replies Ready else if nat_eq s 3 then replies Bad else if nat_eq s 0 then goes (to_pin (thread_at own a l saves) next)
    else if nat_eq (class_thread w) own.number then replies Ready else has_to_wait (ClassBusy (class_thread w))) ready
init_seen own l saves a next w (inr (claimed, mine)) =
    ap (λ s. if nat_eq s 2 then replies Ready else if nat_eq s 3 then replies Bad else if nat_eq s 0 then goes (to_pin (thread_at own a l saves) next)
    else if nat_eq (class_thread w) own.number then replies Ready else has_to_wait (ClassBusy (class_thread w))) claimed
    ∙ ap (λ t. if t then replies Ready else has_to_wait (ClassBusy (class_thread w))) (same_is (class_thread w) own.number mine)

pub init_waits : (own : Own) (w : ℕ) → IsInitialized own w → is_of_another own.number w ≡ false
init_waits own w (inl ready) = ap (λ s. nat_eq s 1 && not (nat_eq (class_thread w) own.number)) ready
init_waits own w (inr (claimed, mine)) =
    ap (λ s. nat_eq s 1 && not (nat_eq (class_thread w) own.number)) claimed ∙ ap not (same_is (class_thread w) own.number mine)

-- ---- one turn, between places

module _ {S P : Type 0} (code : Code S) (stepped : P → Step → StepAnswer → P → Type 0) (words : P → Words)
    (on_words : (x : P) (step : Step) (a : StepAnswer) (y : P) → stepped x step a y → IsStepOnWords (words x) step a (words y)) where
  pub word_found : (x y : P) (at w : ℕ) → stepped x (LoadWord at) (Found w) y → w ≡ words x (Object at)
  word_found x y at w made = let answers = (on_words x (LoadWord at) (Found w) y made).answers in cc

  pub section_found : (x y : P) (s w : ℕ) → stepped x (LoadSection s) (Found w) y → w ≡ words x (Section s)
  section_found x y s w made = let answers = (on_words x (LoadSection s) (Found w) y made).answers in cc

  pub class_found : (x y : P) (d w : ℕ) → stepped x (LoadClass d) (Found w) y → w ≡ words x (Area.Class d)
  class_found x y d w made = let answers = (on_words x (LoadClass d) (Found w) y made).answers in cc

  module _ (saves : List S) (op : Op) where
    one_goes : (a c : Attempt) (l m : S) (h k : HostPlace P) (step : Step) (answer : StepAnswer) (change : Change) (tells : Told) → code.next l ≡ Want op → h.own.over ≡ false
        → h.own.counted < h.own.bounds.limits.turns → move_of code (thread_at h.own a l saves) (Want op) a ≡ Make step → stepped h.port step answer k.port
        → CanAnswer (effect_of step) answer → change_of code h.own.bounds (thread_at h.own a l saves) (Want op) step answer ≡ change
        → told_of (Want op) step answer change (shown change) ≡ tells → counted_for tells (changed code (thread_at h.own a l saves) change) ≡ thread_at k.own c m saves
        → has_to_wait_for (words h.port) (thread_at h.own a l saves) (Want op) ≡ false → (is_usual_step (words h.port) step && goes_through tells) ≡ true
        → HostKeeps h.own k.own → h.left ≡ k.left + 1 → kind_of step ≡ k.own.last_kind → HostLeads code stepped words saves a l h c m k
    one_goes a c l m h k step answer change tells wants lives below moves made can change_is tells_is after waits usual keeps left kind = record {
      number = 1;
      left = left;
      keeps = keeps;
      turns = subst (UsualTurns code h.own.bounds stepped words (thread_at h.own a l saves) h.port h.own.last_kind 1 (thread_at k.own c m saves) k.port) kind
          (one_made code h.own.bounds stepped words (thread_at h.own a l saves) (thread_at k.own c m saves) h.port k.port h.own.last_kind (Want op) step answer tells wants
          (moves_so code h.own.bounds h.own l saves op a step wants lives below moves) made can
          (told_is code h.own.bounds (thread_at h.own a l saves) op wants step answer change tells change_is tells_is)
          (enabled_by code (words h.port) (thread_at h.own a l saves) (Want op) lives wants waits) usual
          (after_is code h.own.bounds (thread_at h.own a l saves) op wants step answer change tells change_is tells_is (thread_at k.own c m saves) after));
    }

    one_left : (left : ℕ) → 1 ≤ left → left ≡ (left - 1) + 1
    one_left left some = omega (arith, some)

    -- a step that doesn't count
    probe_goes : (a c : Attempt) (l : S) (h : HostPlace P) (y : P) (step : Step) (w : ℕ) (change : Change) → code.next l ≡ Want op → h.own.over ≡ false
        → h.own.counted < h.own.bounds.limits.turns → 1 ≤ h.left → move_of code (thread_at h.own a l saves) (Want op) a ≡ Make step → stepped h.port step (Found w) y
        → CanAnswer (effect_of step) (Found w) → change_of code h.own.bounds (thread_at h.own a l saves) (Want op) step (Found w) ≡ change
        → told_of (Want op) step (Found w) change (shown change) ≡ probed → changed code (thread_at h.own a l saves) change ≡ thread_at h.own c l saves
        → has_to_wait_for (words h.port) (thread_at h.own a l saves) (Want op) ≡ false → (is_usual_step (words h.port) step && true) ≡ true
        → HostLeads code stepped words saves a l h c l (probed_at h (kind_of step) y)
    probe_goes a c l h y step w change wants lives below some moves made can change_is tells_is after waits usual =
        one_goes a c l l h (probed_at h (kind_of step) y) step (Found w) change probed wants lives below moves made can change_is tells_is after waits usual
        (record { bounds = refl; opening = refl; attempt = refl; lives = refl }) (one_left h.left some) refl

    -- the look at the own section
    pub own_goes : (l : S) (h : HostPlace P) (w : ℕ) (y : P) → code.next l ≡ Want op → h.own.over ≡ false → h.own.counted < h.own.bounds.limits.turns → 1 ≤ h.left → has_unseen_level h.own ≡ true
        → IsAsSeen (words h.port) h.own → stepped h.port (LoadSection h.own.section) (Found w) y → has_to_wait_for (words h.port) (thread_at h.own Begin l saves) (Want op) ≡ false
        → HostLeads code stepped words saves Begin l h Checked l (probed_at h 6 y)
    own_goes l h w y wants lives below some opened seen made waits =
        let found : words h.port (Section h.own.section) ≡ w = sym (section_found h.port y h.own.section w made) in
        let state : is_in Revoking w ≡ false = subst (λ w. is_in Revoking w ≡ false) found (seen.state opened) in
        let pinned : pinned_of w ≡ h.own.pinned = subst (λ w. pinned_of w ≡ h.own.pinned) found (seen.pinned opened) in
        probe_goes Begin Checked l h y (LoadSection h.own.section) w (sees_pinned h.own.pinned Checked) wants lives below some
        (ap (λ t. if t then Make (LoadSection h.own.section) else Make (first_step code (thread_at h.own Begin l saves) op)) opened) made tt
        (begin_sees (thread_at h.own Begin l saves) op h.own.section w
        ∙ ap (λ t. if t then goes (Undoing w) else sees_pinned (pinned_of w) Checked) state
        ∙ ap (λ pinned. sees_pinned pinned Checked) pinned)
        refl (ap (λ t. if t then thread_at h.own Checked l saves else record (thread_at h.own Checked l saves) { log = []; saved = []; marks = [] }) opened) waits refl

    -- the load of an unsafe word
    pub unsafe_goes : (l : S) (h : HostPlace P) (c : Attempt) (at w : ℕ) (y : P) → IsOfWord op at → code.next l ≡ Want op → h.own.over ≡ false
        → h.own.counted < h.own.bounds.limits.turns → 1 ≤ h.left → (c ≡ looked h.own) ⊎ (c ≡ Checked) → is_safe_for h.own w ≡ false
        → is_in Revoking (words h.port (Section (tag_section (tag_of w)))) ≡ false → stepped h.port (LoadWord at) (Found w) y
        → HostLeads code stepped words saves c l h (Meets (tag_section (tag_of w)) (tag_level (tag_of w))) l (probed_at h 1 y)
    unsafe_goes l h c at w y of wants lives below some can unsafe stays loaded =
        let found : words h.port (Object at) ≡ w = sym (word_found h.port y at w loaded) in
        let none : NoneWaits (words h.port) h.own at = inr (subst (λ w. is_in Revoking (words h.port (Section (tag_section (tag_of w)))) ≡ false) (sym found) stays) in
        probe_goes c (Meets (tag_section (tag_of w)) (tag_level (tag_of w))) l h y (LoadWord at) w (meets_writer (tag_of w)) wants lives below some
        (first_moves code h.own l saves op c (LoadWord at) (word_first code (thread_at h.own c l saves) op at of) can) loaded tt
        (unsafe_met (thread_at h.own c l saves) op at w of unsafe) refl refl (none_waits (words h.port) h.own l saves c op at of none) refl

    -- .. and the look at the section that wrote it
    pub writer_goes : (l : S) (h : HostPlace P) (c : Attempt) (at depth w u : ℕ) (y z : P) → IsOfWord op at → code.next l ≡ Want op → h.own.over ≡ false
        → h.own.counted < h.own.bounds.limits.turns → 2 ≤ h.left → (c ≡ looked h.own) ⊎ (c ≡ Checked) → is_safe_for h.own w ≡ false
        → is_in Revoking (words h.port (Section (tag_section (tag_of w)))) ≡ false
        → tag_seen (tag_section (tag_of w)) (tag_level (tag_of w)) (words h.port (Section (tag_section (tag_of w)))) ≡ knows (tag_section (tag_of w)) depth
        → stepped h.port (LoadWord at) (Found w) y → stepped y (LoadSection (tag_section (tag_of w))) (Found u) z
        → HostLeads code stepped words saves c l h Checked l (record { own = own_knowing h.own (tag_section (tag_of w)) depth; port = z; left = h.left - 2 })
    writer_goes l h c at depth w u y z of wants lives below some can unsafe stays known loaded seen =
        let s : ℕ = tag_section (tag_of w) in
        let level : ℕ = tag_level (tag_of w) in
        let same : words y ≡ words h.port = (on_words h.port (LoadWord at) (Found w) y loaded).leaves in
        let found : words h.port (Object at) ≡ w = sym (word_found h.port y at w loaded) in
        let u_is : u ≡ words h.port (Section s) = section_found y z s u seen ∙ ap (λ (words : Words). words (Section s)) same in
        let none : NoneWaits (words h.port) h.own at = inr (subst (λ w. is_in Revoking (words h.port (Section (tag_section (tag_of w)))) ≡ false) (sym found) stays) in
        goes_on code stepped words on_words saves c (Meets s level) Checked l l l h (probed_at h 1 y) (record { own = own_knowing h.own s depth; port = z; left = h.left - 2 })
        (unsafe_goes l h c at w y of wants lives below (fewer h.left some) can unsafe stays loaded)
        (one_goes (Meets s level) Checked l l (probed_at h 1 y) (record { own = own_knowing h.own s depth; port = z; left = h.left - 2 }) (LoadSection s) (Found u) (knows s depth) probed
        wants lives below refl seen tt
        (writer_met (thread_at h.own (Meets s level) l saves) op at s level u of ∙ ap (tag_seen s level) u_is ∙ known) refl refl
        (subst (λ w. has_to_wait_for w (thread_at h.own (Meets s level) l saves) (Want op) ≡ false) (sym same)
        (none_waits (words h.port) h.own l saves (Meets s level) op at of none)) refl
        (record { bounds = refl; opening = refl; attempt = refl; lives = refl }) (two_left h.left some) refl)
      where
        fewer : (left : ℕ) → 2 ≤ left → 1 ≤ left
        fewer left some = omega (arith, some)

        two_left : (left : ℕ) → 2 ≤ left → left - 1 ≡ (left - 2) + 1
        two_left left some = omega (arith, some)

    -- the load of a safe word
    pub read_goes : (l : S) (h : HostPlace P) (c : Attempt) (r i w : ℕ) (y : P) → op ≡ Read r i → code.next l ≡ Want op → h.own.over ≡ false
        → h.own.counted < h.own.bounds.limits.turns → 1 ≤ h.left → (c ≡ looked h.own) ⊎ (c ≡ Checked) → is_safe_for h.own w ≡ true
        → stepped h.port (LoadWord (word_place r i)) (Found w) y
        → HostLeads code stepped words saves c l h Begin (code.reply l (Value (value_of w))) (record { own = own_counted h.own 1; port = y; left = h.left - 1 })
    read_goes l h c r i w y of wants lives below some can safe loaded =
        let found : words h.port (Object (word_place r i)) ≡ w = sym (word_found h.port y (word_place r i) w loaded) in
        let wanted : IsOfWord op (word_place r i) = subst (λ op. IsOfWord op (word_place r i)) (sym of) refl in
        one_goes c Begin l (code.reply l (Value (value_of w))) h (record { own = own_counted h.own 1; port = y; left = h.left - 1 }) (LoadWord (word_place r i)) (Found w)
        (replies (Value (value_of w))) (advanced (Some (Value (value_of w)))) wants lives below
        (first_moves code h.own l saves op c (LoadWord (word_place r i)) (word_first code (thread_at h.own c l saves) op (word_place r i) wanted) can) loaded tt
        (ap (λ op. word_loaded (thread_at h.own c l saves) (Want op) (word_place r i) w) of
        ∙ ap (λ t. if t then replies (Value (value_of w)) else meets_writer (tag_of w)) safe)
        refl refl (none_waits (words h.port) h.own l saves c op (word_place r i) wanted (inl (subst (λ w. is_safe_for h.own w ≡ true) (sym found) safe))) refl
        (record { bounds = refl; opening = refl; attempt = refl; lives = refl }) (one_left h.left some) refl

    -- the load of a safe word that is to be written
    pub safe_goes : (l : S) (h : HostPlace P) (c : Attempt) (r i v w : ℕ) (y : P) → op ≡ Write r i v → code.next l ≡ Want op → h.own.over ≡ false
        → h.own.counted < h.own.bounds.limits.turns → 1 ≤ h.left → (c ≡ looked h.own) ⊎ (c ≡ Checked) → is_safe_for h.own w ≡ true
        → stepped h.port (LoadWord (word_place r i)) (Found w) y
        → HostLeads code stepped words saves c l h (Fixed (SwapWord (word_place r i) w (written_by h.own v))) l (probed_at h 1 y)
    safe_goes l h c r i v w y of wants lives below some can safe loaded =
        let at : ℕ = word_place r i in
        let found : words h.port (Object at) ≡ w = sym (word_found h.port y at w loaded) in
        let wanted : IsOfWord op at = subst (λ op. IsOfWord op at) (sym of) refl in
        let swap : Step = SwapWord at w (written_by h.own v) in
        probe_goes c (Fixed swap) l h y (LoadWord at) w (goes (Fixed swap)) wants lives below some
        (first_moves code h.own l saves op c (LoadWord at) (word_first code (thread_at h.own c l saves) op at wanted) can) loaded tt
        (ap (λ op. word_loaded (thread_at h.own c l saves) (Want op) at w) of
        ∙ ap (λ t. if t then goes (Fixed swap) else meets_writer (tag_of w)) safe)
        refl refl (none_waits (words h.port) h.own l saves c op at wanted (inl (subst (λ w. is_safe_for h.own w ≡ true) (sym found) safe))) refl

    -- .. and its exchange
    pub write_goes : (l : S) (h k : HostPlace P) (c : Attempt) (r i v w : ℕ) (y : P) → op ≡ Write r i v → code.next l ≡ Want op → h.own.over ≡ false
        → h.own.counted < h.own.bounds.limits.turns → 2 ≤ h.left → (c ≡ looked h.own) ⊎ (c ≡ Checked) → is_safe_for h.own w ≡ true → is_awaited_by_none (words h.port) w ≡ true
        → stepped h.port (LoadWord (word_place r i)) (Found w) y → stepped y (SwapWord (word_place r i) w (written_by h.own v)) StepAnswer.Done k.port
        → HasWritten (word_place r i) w h.own k.own → h.left ≡ k.left + 2 → HostLeads code stepped words saves c l h Begin (code.reply l Reply.Done) k
    write_goes l h k c r i v w y of wants lives below some can safe free loaded swapped written left =
        let at : ℕ = word_place r i in
        let same : words y ≡ words h.port = (on_words h.port (LoadWord at) (Found w) y loaded).leaves in
        let found : words h.port (Object at) ≡ w = sym (word_found h.port y at w loaded) in
        let wanted : IsOfWord op at = subst (λ op. IsOfWord op at) (sym of) refl in
        let swap : Step = SwapWord at w (written_by h.own v) in
        let none : NoneWaits (words h.port) h.own at = inl (subst (λ w. is_safe_for h.own w ≡ true) (sym found) safe) in
        goes_on code stepped words on_words saves c (Fixed swap) Begin l l (code.reply l Reply.Done) h (probed_at h 1 y) k
        (safe_goes l h c r i v w y of wants lives below (fewer h.left some) can safe loaded)
        (one_goes (Fixed swap) Begin l (code.reply l Reply.Done) (probed_at h 1 y) k swap StepAnswer.Done
        (writes (noted (thread_at h.own (Fixed swap) l saves) at w)) (advanced (Some Reply.Done)) wants lives below refl swapped tt refl refl (after k.own written)
        (subst (λ w. has_to_wait_for w (thread_at h.own (Fixed swap) l saves) (Want op) ≡ false) (sym same)
        (none_waits (words h.port) h.own l saves (Fixed swap) op at wanted none))
        (ap (λ t. t && true) (ap (λ words. is_awaited_by_none words w) same ∙ free)) (keeps k.own written) (two_left h.left k.left left)
        (ap (λ (own : Own). own.last_kind) (sym written.own)))
      where
        fewer : (left : ℕ) → 2 ≤ left → 1 ≤ left
        fewer left some = omega (arith, some)

        two_left : (left rest : ℕ) → left ≡ rest + 2 → left - 1 ≡ rest + 1
        two_left left rest is = omega (arith, is)

        keeps : (own : Own) → HasWritten (word_place r i) w h.own own → HostKeeps (record h.own { last_kind = 1 }) own
        keeps own written = subst (HostKeeps (record h.own { last_kind = 1 })) (sym written.own) (record { bounds = refl; opening = refl; attempt = refl; lives = refl })

        after : (own : Own) → HasWritten (word_place r i) w h.own own
            → record (thread_at h.own Begin (code.reply l Reply.Done) saves) { log = noted (thread_at h.own Begin l saves) (word_place r i) w; counted = suc h.own.counted; silents = 0 }
            ≡ thread_at own Begin (code.reply l Reply.Done) saves
        after own written =
            ap (λ log. record (thread_at h.own Begin (code.reply l Reply.Done) saves) { log = log; counted = suc h.own.counted; silents = 0 }) (sym written.log)
            ∙ ap (λ (own : Own). thread_at own Begin (code.reply l Reply.Done) saves) (sym written.own)

    -- the load of a header
    pub header_goes : (l : S) (h : HostPlace P) (c : Attempt) (r w : ℕ) (y : P) → op ≡ ClassOf r → code.next l ≡ Want op → h.own.over ≡ false
        → h.own.counted < h.own.bounds.limits.turns → 1 ≤ h.left → (c ≡ looked h.own) ⊎ (c ≡ Checked) → stepped h.port (LoadWord r) (Found w) y
        → HostLeads code stepped words saves c l h Begin (code.reply l (Class (header_class w) (header_length w))) (record { own = own_counted h.own 1; port = y; left = h.left - 1 })
    header_goes l h c r w y of wants lives below some can loaded =
        one_goes c Begin l (code.reply l (Class (header_class w) (header_length w))) h (record { own = own_counted h.own 1; port = y; left = h.left - 1 }) (LoadWord r) (Found w)
        (replies (Class (header_class w) (header_length w))) (advanced (Some (Class (header_class w) (header_length w)))) wants lives below
        (first_moves code h.own l saves op c (LoadWord r) (ap (first_step code (thread_at h.own c l saves)) of) can) loaded tt
        (ap (λ op. word_loaded (thread_at h.own c l saves) (Want op) r w) of)
        refl refl (ap (λ op. has_to_wait_for (words h.port) (thread_at h.own c l saves) (Want op)) of) refl
        (record { bounds = refl; opening = refl; attempt = refl; lives = refl }) (one_left h.left some) refl

    -- the load of the word of a class that is initialized, or that the thread itself initializes
    pub init_goes : (l : S) (h : HostPlace P) (c : Attempt) (d w : ℕ) (y : P) → op ≡ Init d → code.next l ≡ Want op → h.own.over ≡ false
        → h.own.counted < h.own.bounds.limits.turns → 1 ≤ h.left → (c ≡ looked h.own) ⊎ (c ≡ Checked) → IsInitialized h.own w → stepped h.port (LoadClass d) (Found w) y
        → HostLeads code stepped words saves c l h Begin (code.reply l Ready) (record { own = own_counted h.own 25; port = y; left = h.left - 1 })
    init_goes l h c d w y of wants lives below some can ready loaded =
        let found : words h.port (Area.Class d) ≡ w = sym (class_found h.port y d w loaded) in
        one_goes c Begin l (code.reply l Ready) h (record { own = own_counted h.own 25; port = y; left = h.left - 1 }) (LoadClass d) (Found w)
        (replies Ready) (advanced (Some Ready)) wants lives below
        (first_moves code h.own l saves op c (LoadClass d) (ap (first_step code (thread_at h.own c l saves)) of) can) loaded tt
        (init_seen h.own l saves c (Want op) w ready)
        refl refl (ap (λ op. has_to_wait_for (words h.port) (thread_at h.own c l saves) (Want op)) of ∙ init_waits h.own (words h.port (Area.Class d)) (subst (IsInitialized h.own) (sym found) ready)) refl
        (record { bounds = refl; opening = refl; attempt = refl; lives = refl }) (one_left h.left some) refl
