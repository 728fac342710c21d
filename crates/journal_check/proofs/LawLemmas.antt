-- A text is checked in one way, and it is accepted where it is the journal of an execution.
use Rattle.std.proofs.Common.{◌≡◌, ◌≢◌, inl, inr, ℕ, ◌+◌, ◌<◌, ◌≤◌, ◌^◌, List, [], ◌∷◌, length, map, Result, Ok, Err, refl, sym, ap, ◌∙◌, subst, arith}
use Rattle.std.specs.List.{AllByRecursion}
use Rattle.op_core.specs.declared.Event.{Event}
use Rattle.op_core.specs.declared.Op.{Op}
use Rattle.op_core.specs.declared.Op.TheVariants.{Print}
use Rattle.op_core.specs.ThreadCode.{Code}
use Rattle.op_core.specs.OrdinaryState.{OrdinaryState}
use Rattle.op_core.specs.Execution.{Leads}
use Rattle.ordinary_machine.specs.Machine.{Machine}
use Rattle.ordinary_machine.specs.Step.{without_line, event_without_line, IsNext, IsStepTo, Replays}
use Rattle.ordinary_machine.proofs.OutcomeLemmas.{one_outcome}
use Rattle.ordinary_machine.proofs.ReplayLemmas.{replayed, executions_replayed}
use Rattle.trace_journal.specs.declared.item.JournalFault.{JournalFault}
use Rattle.trace_journal.specs.declared.item.JournalItem.{JournalItem}
use Rattle.trace_journal.specs.declared.item.JournalItem.TheVariants.{Event as event_item, Undone}
use Rattle.trace_journal.specs.declared.item.TheConstants.{LARGEST}
use Rattle.trace_journal.specs.Spelling.{IsItem}
use Rattle.trace_journal.specs.Text.{events_in, text_of}
use Rattle.trace_journal.specs.Reading.{Read, IsRead, line_of}
use Rattle.trace_journal.proofs.LawLemmas.{texts_have_one_reading, journals_read_back}
use Rattle.trace_journal.proofs.LengthLemmas.{journals_fit}
use Rattle.journal_check.specs.Checked.{IsNoStep, AreChecked, IsCheckedAs, IsChecked}
use Rattle.journal_check.specs.Laws.{ChecksHaveOneOutcome, IsAccepted, AcceptedTextsAreExecutions, ExecutionsAreAccepted}

module _ {S : Type 0} (code : Code S) where
  -- an event that is a step isn't one that is none
  step_or_none : (m next : Machine S) (e : Event) → IsStepTo code m e next → IsNoStep code m e → ⊥
  step_or_none m next e step none = none.real ((one_outcome code m e).no_refusal next none.why step none.refuses)

  one_of_items : (m : Machine S) (n : ℕ) (items : List JournalItem) (found other : Result (Machine S) ℕ) → AreChecked code m n items found → AreChecked code m n items other → other ≡ found
  one_of_items m n [] found other a b = b ∙ sym a
  one_of_items m n (Undone t l k ∷ items) found other a b = one_of_items m (n + 1) items found other a b
  one_of_items m n (event_item e ∷ items) found other (inl a) (inl b) =
      let same : b.0 ≡ a.0 = (one_outcome code m e).one_machine a.0 b.0 a.1 b.1 in
      one_of_items a.0 (n + 1) items found other a.2 (subst (λ next. AreChecked code next (n + 1) items other) same b.2)
  one_of_items m n (event_item e ∷ items) found other (inl a) (inr b) = absurd (step_or_none m a.0 e a.1 b.0)
  one_of_items m n (event_item e ∷ items) found other (inr a) (inl b) = absurd (step_or_none m b.0 e b.1 a.0)
  one_of_items m n (event_item e ∷ items) found other (inr a) (inr b) = b.1 ∙ sym a.1

  one_as : (m : Machine S) (read : Result Read JournalFault) (found other : Result (Machine S) ℕ) → IsCheckedAs code m read found → IsCheckedAs code m read other → other ≡ found
  one_as m (Ok read) found other a b = one_of_items m 2 read.items found other a b
  one_as m (Err fault) found other a b = b ∙ sym a

  pub one_check : ChecksHaveOneOutcome code
  one_check m text found other a b =
      let same : b.read ≡ a.read = texts_have_one_reading LARGEST text a.read b.read a.is_read b.is_read in
      one_as m a.read found other a.checked (subst (λ read. IsCheckedAs code m read other) same b.checked)

  -- ---- what is accepted

  steps_of : (m last : Machine S) (n : ℕ) (items : List JournalItem) → AreChecked code m n items (Ok last) → Replays code m (events_in items) last
  steps_of m last n [] is = let same : Ok last ≡ Ok m = is in cc
  steps_of m last n (Undone t l k ∷ items) is = steps_of m last (n + 1) items is
  steps_of m last n (event_item e ∷ items) (inl a) = (a.0, a.1, steps_of a.0 last (n + 1) items a.2)
  steps_of m last n (event_item e ∷ items) (inr a) = absurd (let no : Ok last ≡ Err n = a.1 in cc)

  accepted_as : (m last : Machine S) (text : List ℕ) (read : Result Read JournalFault) → IsRead LARGEST text read → IsCheckedAs code m read (Ok last) → IsAccepted code m text last
  accepted_as m last text (Err fault) is_read checked = absurd (let no : Ok last ≡ Err (line_of fault) = checked in cc)
  accepted_as m last text (Ok read) is_read checked =
      let steps = steps_of m last 2 read.items checked in
      record { journal = read; is_read = is_read; steps = steps; execution = replayed code m last (events_in read.items) steps }

  pub accepted : AcceptedTextsAreExecutions code
  accepted m last text is = accepted_as m last text is.read is.is_read is.checked

  -- ---- the journal of an execution

  without_twice : (op : Op) → without_line (without_line op) ≡ without_line op
  without_twice (Print line) = refl
  without_twice op = refl

  step_without : (m next : Machine S) (e : Event) → IsStepTo code m e next → IsStepTo code m (event_without_line e) next
  step_without m next e step = record {
    place = step.place;
    op = step.op;
    next = record { from = step.next.from; begun = step.next.begun; quiet = step.next.quiet; wanted = step.next.wanted; same = step.next.same ∙ sym (without_twice e.op) };
    can = step.can;
    answered = step.answered;
    leads = step.leads;
  }

  replays_without : (m last : Machine S) (events : List Event) → Replays code m events last → Replays code m (map event_without_line events) last
  replays_without m last [] same = same
  replays_without m last (e ∷ events) (next, step, later) = (next, step_without m next e step, replays_without next last events later)

  checked_of : (m last : Machine S) (n : ℕ) (items : List JournalItem) → Replays code m (events_in items) last → AreChecked code m n items (Ok last)
  checked_of m last n [] same = ap Ok same
  checked_of m last n (Undone t l k ∷ items) replays = checked_of m last (n + 1) items replays
  checked_of m last n (event_item e ∷ items) (next, step, later) = inl (next, step, checked_of next last (n + 1) items later)

  pub executions_accepted : ExecutionsAreAccepted code
  executions_accepted m events items last leads same all few =
      let (new, replays, there) = executions_replayed code m events last leads in
      let own = subst (λ es. Replays code m es new) (sym same) (replays_without m new events replays) in (
        new,
        record {
          read = Ok (record { version = 2; items = items });
          is_read = journals_read_back LARGEST (record { version = 2; items = items }) (omega arith) (inr refl) all few (journals_fit 2 items (inr refl) all few);
          checked = checked_of m new 2 items own;
        },
        there,
      )
