-- What a check makes of the rest of a text.
use Rattle.std.proofs.Common.{◌≡◌, ℕ, ◌+◌, List, [], ◌∷◌, ◌++◌, length, Result, Ok, Err, refl, sym, ap, ◌∙◌, subst, arith}
use Rattle.op_core.specs.ThreadCode.{Code}
use Rattle.ordinary_machine.specs.declared.ordinary.Ordinary.{Ordinary}
use Rattle.ordinary_machine.specs.Machine.{Machine, machine_of}
use Rattle.trace_journal.specs.declared.item.JournalFault.{JournalFault}
use Rattle.trace_journal.specs.declared.item.JournalItem.{JournalItem}
use Rattle.trace_journal.specs.declared.item.TheConstants.{LARGEST}
use Rattle.trace_journal.specs.declared.state.JournalReader.{JournalReader}
use Rattle.trace_journal.specs.Reading.{Read, IsRead, line_of}
use Rattle.trace_journal.specs.Reader.{with_items, ReadsOn, Feeds}
use Rattle.journal_check.specs.declared.checking.Checking.{Checking}
use Rattle.journal_check.specs.declared.progress.Progress.{Progress}
use Rattle.journal_check.specs.declared.progress.Progress.TheVariants.{Going, Refused}
use Rattle.journal_check.specs.Checked.{IsCheckedAs, IsChecked}
use Rattle.journal_check.specs.Checking.{GoesOn, Judges, ChecksOn}

module _ {C S : Type 0} (code : Code S) (state : C → S) where
  -- before the first byte
  pub begins : (checking : Checking C) (machine : Ordinary C) → checking.progress ≡ Going machine → checking.reader.count ≡ 0
      → ((text : List ℕ) (found : Result Read JournalFault) → ReadsOn checking.reader text found → IsRead LARGEST text found)
      → (text : List ℕ) (found : Result (Machine S) ℕ) → ChecksOn code state checking text found → IsChecked code (machine_of state machine) text found
  begins checking machine going none reads text found checks = record {
    read = checks.read;
    is_read = reads text checks.read checks.reads;
    checked = of checks.read (subst (λ p. GoesOn code state p 2 checks.read found) going (subst (λ n. GoesOn code state checking.progress n checks.read found) (ap (λ c. c + 2) none) checks.goes));
  }
    where
      of : (read : Result Read JournalFault) → GoesOn code state (Going machine) 2 read found → IsCheckedAs code (machine_of state machine) read found
      of (Ok read) goes = goes
      of (Err fault) goes = goes

  -- a piece more
  pub feeds : (old new : Checking C) (piece : List ℕ) (items : List JournalItem) → Feeds old.reader new.reader piece [] items → Judges code state old.progress new.progress (old.reader.count + 2) items
      → (more : List ℕ) (found : Result (Machine S) ℕ) → ChecksOn code state new more found → ChecksOn code state old (piece ++ more) found
  feeds old new piece items fed judged more found checks =
      let counts = fed.counts in
      let long = ap length fed.items in
      let line : new.reader.count + 2 ≡ old.reader.count + 2 + length items = omega (arith, counts, long) in
      record {
        read = with_items fed.added checks.read;
        reads = fed.reads more checks.read checks.reads;
        goes = subst (λ xs. GoesOn code state old.progress (old.reader.count + 2) (with_items xs checks.read) found) fed.items
            (judged.goes checks.read found (subst (λ n. GoesOn code state new.progress n checks.read found) line checks.goes));
      }

  -- the end of the text
  pub ends_in_fault : (checking : Checking C) (fault : JournalFault) → ReadsOn checking.reader [] (Err fault) → ChecksOn code state checking [] (Err (line_of fault))
  ends_in_fault checking fault reads = record { read = Err fault; reads = reads; goes = of checking.progress }
    where
      of : (progress : Progress C) → GoesOn code state progress (checking.reader.count + 2) (Err fault) (Err (line_of fault))
      of (Going machine) = refl
      of (Refused line) = refl

  pub ends_going : (checking : Checking C) (version : ℕ) (machine : Ordinary C) → ReadsOn checking.reader [] (Ok (record { version = version; items = [] })) → checking.progress ≡ Going machine
      → ChecksOn code state checking [] (Ok (machine_of state machine))
  ends_going checking version machine reads is = record {
    read = Ok (record { version = version; items = [] });
    reads = reads;
    goes = subst (λ p. GoesOn code state p (checking.reader.count + 2) (Ok (record { version = version; items = [] })) (Ok (machine_of state machine))) (sym is) refl;
  }

  pub ends_refused : (checking : Checking C) (version line : ℕ) → ReadsOn checking.reader [] (Ok (record { version = version; items = [] })) → checking.progress ≡ Refused line → ChecksOn code state checking [] (Err line)
  ends_refused checking version line reads is = record {
    read = Ok (record { version = version; items = [] });
    reads = reads;
    goes = subst (λ p. GoesOn code state p (checking.reader.count + 2) (Ok (record { version = version; items = [] })) (Err line)) (sym is) refl;
  }
