-- Items of a journal lead from one progress of its check to another.
use Rattle.std.proofs.Common.{◌≡◌, ◌≢◌, inl, inr, ℕ, ◌+◌, ◌<◌, ◌≤◌, List, [], ◌∷◌, ◌++◌, length, take, get_or, Result, Ok, Err, refl, sym, ap, ◌∙◌, subst, arith, append_assoc, length-append}
use Rattle.std.proofs.lemmas.List.{take_all, take_more, length-take-le}
use Rattle.op_core.specs.declared.Event.{Event}
use Rattle.op_core.specs.ThreadCode.{Code}
use Rattle.ordinary_machine.specs.declared.ordinary.Ordinary.{Ordinary}
use Rattle.ordinary_machine.specs.declared.step.StepRefusal.{StepRefusal}
use Rattle.ordinary_machine.specs.declared.step.StepRefusal.TheVariants.{NoMemory}
use Rattle.ordinary_machine.specs.Machine.{Machine, machine_of}
use Rattle.ordinary_machine.specs.Step.{IsStepTo, Refuses}
use Rattle.trace_journal.specs.declared.item.JournalFault.{JournalFault}
use Rattle.trace_journal.specs.declared.item.JournalItem.{JournalItem}
use Rattle.trace_journal.specs.declared.item.JournalItem.TheVariants.{Event as event_item, Undone}
use Rattle.trace_journal.specs.Reading.{Read}
use Rattle.trace_journal.specs.Reader.{with_items}
use Rattle.journal_check.specs.declared.progress.Progress.{Progress}
use Rattle.journal_check.specs.declared.progress.Progress.TheVariants.{Going, Refused}
use Rattle.journal_check.specs.Checking.{GoesOn, Judges}

module _ {C S : Type 0} (code : Code S) (state : C → S) where
  -- a step is made
  pub made : (old new : Ordinary C) (n : ℕ) (e : Event) → IsStepTo code (machine_of state old) e (machine_of state new) → Judges code state (Going old) (Going new) n (event_item e ∷ [])
  made old new n e step = record { goes = goes }
    where
      goes : (others : Result Read JournalFault) (found : Result (Machine S) ℕ) → GoesOn code state (Going new) (n + 1) others found → GoesOn code state (Going old) n (with_items (event_item e ∷ []) others) found
      goes (Ok read) found h = inl (machine_of state new, step, h)
      goes (Err fault) found h = h

  -- an event is refused
  pub refused : (old : Ordinary C) (n : ℕ) (e : Event) (why : StepRefusal) → why ≢ NoMemory → Refuses code (machine_of state old).now e why → Judges code state (Going old) (Refused n) n (event_item e ∷ [])
  refused old n e why real refuses = record { goes = goes }
    where
      goes : (others : Result Read JournalFault) (found : Result (Machine S) ℕ) → GoesOn code state (Refused n) (n + 1) others found → GoesOn code state (Going old) n (with_items (event_item e ∷ []) others) found
      goes (Ok read) found h = inr (record { why = why; real = real; refuses = refuses }, h)
      goes (Err fault) found h = h

  -- after an event that was refused the others say nothing
  pub stays : (line n : ℕ) (items : List JournalItem) → Judges code state (Refused line) (Refused line) n items
  stays line n items = record { goes = goes }
    where
      goes : (others : Result Read JournalFault) (found : Result (Machine S) ℕ) → GoesOn code state (Refused line) (n + length items) others found → GoesOn code state (Refused line) n (with_items items others) found
      goes (Ok read) found h = h
      goes (Err fault) found h = h

  -- an undo is no step
  pub undone : (progress : Progress C) (n t l k : ℕ) → Judges code state progress progress n (Undone t l k ∷ [])
  undone progress n t l k = record { goes = goes progress }
    where
      goes : (p : Progress C) (others : Result Read JournalFault) (found : Result (Machine S) ℕ) → GoesOn code state p (n + 1) others found → GoesOn code state p n (with_items (Undone t l k ∷ []) others) found
      goes (Going machine) (Ok read) found h = h
      goes (Refused line) (Ok read) found h = h
      goes (Going machine) (Err fault) found h = h
      goes (Refused line) (Err fault) found h = h

  pub no_items : (progress : Progress C) (n : ℕ) → Judges code state progress progress n []
  no_items progress n = record { goes = goes progress }
    where
      goes : (p : Progress C) (others : Result Read JournalFault) (found : Result (Machine S) ℕ) → GoesOn code state p (n + 0) others found → GoesOn code state p n (with_items [] others) found
      goes p (Ok read) found h = let same : n + 0 ≡ n = omega arith in subst (λ k. GoesOn code state p k (Ok read) found) same h
      goes (Going machine) (Err fault) found h = h
      goes (Refused line) (Err fault) found h = h

  twice : (xs ys : List JournalItem) (others : Result Read JournalFault) → with_items xs (with_items ys others) ≡ with_items (xs ++ ys) others
  twice xs ys (Ok read) = ap (λ items. Ok (record { version = read.version; items = items })) (sym (append_assoc xs ys read.items))
  twice xs ys (Err fault) = refl

  joined : (a b c : Progress C) (n : ℕ) (xs ys : List JournalItem) → Judges code state a b n xs → Judges code state b c (n + length xs) ys → Judges code state a c n (xs ++ ys)
  joined a b c n xs ys first later = record {
    goes = λ others found goes.
        let long : n + length (xs ++ ys) ≡ n + length xs + length ys = let both = length-append xs ys in omega (arith, both) in
        subst (λ x. GoesOn code state a n x found) (twice xs ys others)
        (first.goes (with_items ys others) found (later.goes others found (subst (λ k. GoesOn code state c k others found) long goes)));
  }

  pub one_more : (a b c : Progress C) (n i : ℕ) (items : List JournalItem) (d : JournalItem) → i < length items → Judges code state a b n (take i items) → Judges code state b c (n + i) (get_or items i d ∷ [])
      → Judges code state a c n (take (i + 1) items)
  one_more a b c n i items d within first later =
      let long : length (take i items) ≡ i = length-take-le i items (omega (arith, within)) in
      subst (Judges code state a c n) (sym (take_more items i d within))
      (joined a b c n (take i items) (get_or items i d ∷ []) first (subst (λ k. Judges code state b c k (get_or items i d ∷ [])) (let same = long in omega (arith, same)) later))

  pub all_items : (a b : Progress C) (n i : ℕ) (items : List JournalItem) → length items ≤ i → Judges code state a b n (take i items) → Judges code state a b n items
  all_items a b n i items over judges = subst (Judges code state a b n) (take_all i items over) judges
