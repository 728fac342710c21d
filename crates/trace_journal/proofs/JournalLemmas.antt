-- A text that is read as a whole.
use Rattle.std.proofs.Common.{◌≡◌, List, [], ℕ, Result, Ok, Err, sym, ap, subst, append-nil}
use Rattle.trace_journal.specs.declared.item.JournalFault.{JournalFault}
use Rattle.trace_journal.specs.declared.item.JournalItem.{JournalItem}
use Rattle.trace_journal.specs.declared.item.TheConstants.{LARGEST}
use Rattle.trace_journal.specs.declared.state.JournalReader.{JournalReader}
use Rattle.trace_journal.specs.Reading.{Read, IsRead}
use Rattle.trace_journal.specs.Reader.{with_items, ReadsOn, Feeds}

abbrev BeginsText : JournalReader → Type 0
BeginsText reader = (text : List ℕ) (found : Result Read JournalFault) → ReadsOn reader text found → IsRead LARGEST text found

fed : (old new : JournalReader) (text : List ℕ) (items : List JournalItem) (found : Result Read JournalFault) → BeginsText old → Feeds old new text [] items → ReadsOn new [] found → IsRead LARGEST text (with_items items found)
fed old new text items found begins feeds reads =
    let all : with_items feeds.added found ≡ with_items items found = ap (λ xs. with_items xs found) (sym feeds.items) in
    begins text (with_items items found) (subst (ReadsOn old text) all (subst (λ t. ReadsOn old t (with_items feeds.added found)) (append-nil text) (feeds.reads [] found reads)))

pub whole_is_read : (old new : JournalReader) (text : List ℕ) (items : List JournalItem) (version : ℕ) → BeginsText old → Feeds old new text [] items
    → ReadsOn new [] (Ok (record { version = version; items = [] })) → IsRead LARGEST text (Ok (record { version = version; items = items }))
whole_is_read old new text items version begins feeds reads =
    subst (λ xs. IsRead LARGEST text (Ok (record { version = version; items = xs }))) (append-nil items) (fed old new text items (Ok (record { version = version; items = [] })) begins feeds reads)

pub whole_fails : (old new : JournalReader) (text : List ℕ) (items : List JournalItem) (fault : JournalFault) → BeginsText old → Feeds old new text [] items → ReadsOn new [] (Err fault) → IsRead LARGEST text (Err fault)
whole_fails old new text items fault begins feeds reads = fed old new text items (Err fault) begins feeds reads
