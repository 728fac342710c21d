use Rattle.std.proofs.Common.{◌≡◌, ◌+◌, ◌-◌, ◌<◌, ◌++◌, length, min, ap, refl, ◌∙◌, arith, List, ℕ, length-append}
use Rattle.std.proofs.Math.Nat.{min-le_left}
use Rattle.program_input.proofs.Inputs.{more_read}
use Rattle.program_input.proofs.Takes.{called, called_last, called_more, missing_after, some_came}
use Rattle.program_input.proofs.input.read_up_to.Goals as goal

pub pieces-preserved : goal.pieces-preserved
pieces-preserved g c =
    let bytes = c.pieces.bytes.items in
    let piece = c.in_ok-piece.piece.items in
    let grown : c.extend_from_slice.new.self.items ≡ bytes ++ piece =
    c.in_ok-extend_from_slice.ensures.items ∙ ap (λ (b : List ℕ). bytes ++ b) c.deref.ensures.value in
    let size : length c.extend_from_slice.new.self.items ≡ length bytes + length piece = ap length grown ∙ length-append bytes piece in
    let test = c.pieces-test.true in
    let before = c.len.ensures in
    let inside = c.len-in-pieces.ensures in
    let known = c.pieces.bytes.ok in
    let came = c.in_ok-piece.piece.ok in
    let at : c.len-in-pieces.result ≡ length bytes = omega (arith, inside, known) in
    let missing : 0 < c.args.most - length bytes = omega (arith, test, before, known) in
    let asked : c.min-asked.result ≡ min (c.args.most - length bytes) 65536 = c.min-asked.ensures ∙ ap (λ n. min (c.args.most - n) 65536) at in
    let some = λ (none : length piece ≡ 0). some_came _ c.if-is_empty.ensures (omega (arith, none, came)) in
    record {
      so_far = rw grown (more_read _ _ _ bytes piece c.pieces.invariant.so_far c.in_ok-piece.ensures.next);
      called = missing_after _ _ c.args.most (length bytes) (length piece) _ size (called_more _ _ _ c.args.most (c.args.most - length bytes) _ (length piece) c.pieces.invariant.called missing asked some c.in_ok-piece.ensures.taken);
      few = let fewer = c.min-asked.ensures in let least = min-le_left (c.args.most - c.len-in-pieces.result) 65536 in let most = c.in_ok-piece.ensures.most in omega arith;
      faults = c.in_ok-piece.ensures.ok_faults ∙ c.pieces.invariant.faults;
    }

pub returns-in_err-piece-clause-calls : goal.returns-in_err-piece-clause-calls
returns-in_err-piece-clause-calls g c =
    called _ _ _ c.args.most (c.args.most - length c.pieces.bytes.items) c.pieces.invariant.called c.in_err-piece.ensures.err.1

pub returns-then-is_empty-clause-calls : goal.returns-then-is_empty-clause-calls
returns-then-is_empty-clause-calls g c =
    let bytes = c.pieces.bytes.items in
    let known = c.pieces.bytes.ok in
    let inside = c.len-in-pieces.ensures in
    let at : c.len-in-pieces.result ≡ length bytes = omega (arith, inside, known) in
    let missing : 0 < c.args.most - length bytes = let test = c.pieces-test.true in let before = c.len.ensures in omega (arith, test, before, known) in
    called_last _ _ _ c.args.most (c.args.most - length bytes) _ _ c.pieces.invariant.called missing (c.min-asked.ensures ∙ ap (λ n. min (c.args.most - n) 65536) at) c.in_ok-piece.ensures.taken

pub returns-in_err-extend_from_slice-clause-calls : goal.returns-in_err-extend_from_slice-clause-calls
returns-in_err-extend_from_slice-clause-calls g c =
    let bytes = c.pieces.bytes.items in
    let known = c.pieces.bytes.ok in
    let inside = c.len-in-pieces.ensures in
    let at : c.len-in-pieces.result ≡ length bytes = omega (arith, inside, known) in
    let missing : 0 < c.args.most - length bytes = let test = c.pieces-test.true in let before = c.len.ensures in omega (arith, test, before, known) in
    called_last _ _ _ c.args.most (c.args.most - length bytes) _ _ c.pieces.invariant.called missing (c.min-asked.ensures ∙ ap (λ n. min (c.args.most - n) 65536) at) c.in_ok-piece.ensures.taken

pub returns-clause-calls : goal.returns-clause-calls
returns-clause-calls g c = called _ _ _ c.args.most (c.args.most - length c.pieces.bytes.items) c.pieces.invariant.called refl
