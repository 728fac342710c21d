use Rattle.std.proofs.Common.{take}
use Rattle.trace_journal.specs.Reader.{Feeds}
use Rattle.trace_journal.proofs.state.JournalReader.feed.Given as goal

abbrev pub invariant-loop-byte : goal.invariant-loop-byte
invariant-loop-byte l = record {
  fed : Feeds l.fn.self l.self (take l.byte-index l.piece) l.fn.items.items l.items.items;
}
