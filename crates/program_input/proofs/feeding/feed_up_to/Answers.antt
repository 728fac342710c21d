use Rattle.std.proofs.Common.{◌≡◌, ◌+◌, ◌-◌, ◌<◌, ◌++◌, length, min, ap, sym, refl, ◌∙◌, arith, List, ℕ, length-append, subst}
use Rattle.std.proofs.Math.Nat.{min-le_left}
use Rattle.std.proofs.lemmas.Bool.{eqb-true}
use Rattle.program_input.specs.Feeding.{IsFed}
use Rattle.program_input.proofs.Inputs.{more_read, all_read}
use Rattle.program_input.proofs.Takes.{called, called_last, called_more, missing_after, some_came}
use Rattle.program_input.proofs.Feeds.{fed_more, none_came}
use Rattle.program_input.proofs.feeding.feed_up_to.Goals as goal

pub pieces-preserved : goal.pieces-preserved
pieces-preserved g c =
    let so_far = c.pieces.invariant in
    let bytes = so_far.bytes in
    let size = so_far.size in
    let piece = c.in_ok-piece.piece.items in
    let came = c.in_ok-piece.piece.ok in
    let longer : length (bytes ++ piece) ≡ length bytes + length piece = length-append bytes piece in
    let test = c.pieces-test.true in
    let inside = c.len-count.ensures in
    let missing : 0 < c.args.most - length bytes = omega (arith, test, size) in
    let asked : c.min-asked.result ≡ min (c.args.most - length bytes) 65536 = c.min-asked.ensures ∙ ap (λ n. min (c.args.most - n) 65536) (sym size) in
    let some = λ (none : length piece ≡ 0). some_came _ c.if-is_empty.ensures (omega (arith, none, came)) in
    record {
      bytes = bytes ++ piece;
      size = omega (arith, longer, size, inside, came);
      reads = record {
        so_far = more_read _ _ _ bytes piece so_far.reads.so_far c.in_ok-piece.ensures.next;
        called = missing_after _ _ c.args.most (length bytes) (length piece) _ longer (called_more _ _ _ c.args.most (c.args.most - length bytes) _ (length piece) so_far.reads.called missing asked some c.in_ok-piece.ensures.taken);
        few = let fewer = c.min-asked.ensures in let least = min-le_left (c.args.most - c.pieces.count) 65536 in let most = c.in_ok-piece.ensures.most in omega (arith, fewer, least, most, longer, size, test);
        faults = c.in_ok-piece.ensures.ok_faults ∙ so_far.reads.faults;
      };
      fed = fed_more g.F.Feed.rest c.args.reader.now c.pieces.reader c.give.new.reader bytes piece so_far.fed (subst (IsFed g.F.Feed.rest c.pieces.reader c.give.new.reader) c.deref.ensures.value c.in_ok-give.ensures.fed);
    }

pub returns-in_err-piece-clause-calls : goal.returns-in_err-piece-clause-calls
returns-in_err-piece-clause-calls g c =
    called _ _ _ c.args.most (c.args.most - length c.pieces.invariant.bytes) c.pieces.invariant.reads.called c.in_err-piece.ensures.err.1

pub returns-then-is_empty-clause-told : goal.returns-then-is_empty-clause-told
returns-then-is_empty-clause-told g c =
    let so_far = c.pieces.invariant in
    (so_far.bytes, all_read _ _ _ so_far.bytes c.in_ok-piece.piece.items c.args.most so_far.reads.so_far c.in_ok-piece.ensures.next (none_came c.in_ok-piece.piece.items (let same = eqb-true c.in_ok-piece.piece.len 0 (sym c.if-is_empty.ensures) in let known = c.in_ok-piece.piece.ok in omega (arith, same, known))) so_far.reads.few, so_far.fed)

pub returns-then-is_empty-clause-calls : goal.returns-then-is_empty-clause-calls
returns-then-is_empty-clause-calls g c =
    let so_far = c.pieces.invariant in
    let missing : 0 < c.args.most - length so_far.bytes = let test = c.pieces-test.true in let size = so_far.size in omega (arith, test, size) in
    called_last _ _ _ c.args.most (c.args.most - length so_far.bytes) _ _ so_far.reads.called missing (c.min-asked.ensures ∙ ap (λ n. min (c.args.most - n) 65536) (sym so_far.size)) c.in_ok-piece.ensures.taken

pub returns-in_err-give-clause-calls : goal.returns-in_err-give-clause-calls
returns-in_err-give-clause-calls g c =
    let so_far = c.pieces.invariant in
    let missing : 0 < c.args.most - length so_far.bytes = let test = c.pieces-test.true in let size = so_far.size in omega (arith, test, size) in
    called_last _ _ _ c.args.most (c.args.most - length so_far.bytes) _ _ so_far.reads.called missing (c.min-asked.ensures ∙ ap (λ n. min (c.args.most - n) 65536) (sym so_far.size)) c.in_ok-piece.ensures.taken

pub returns-clause-calls : goal.returns-clause-calls
returns-clause-calls g c = called _ _ _ c.args.most (c.args.most - length c.pieces.invariant.bytes) c.pieces.invariant.reads.called refl
