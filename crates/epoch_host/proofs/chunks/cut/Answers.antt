use Rattle.std.proofs.Common.{◌++◌, [], ◌∷◌, ap, ◌∙◌, arith, append_assoc, length, length-append, take-append-drop, take}
use Rattle.epoch_host.specs.declared.chunks.Chunk.{Chunk}
use Rattle.epoch_host.specs.Work.{threads_of_chunks}
use Rattle.epoch_host.proofs.Chunking.{chunks-snoc}
use Rattle.epoch_host.proofs.chunks.cut.Goals as goal

pub loop-worker-preserved : goal.loop-worker-preserved
loop-worker-preserved g c =
    let was = c.loop-worker.invariant in
    let chunks = c.loop-worker.chunks.items in
    let rest = c.loop-worker.rest.items in
    let size = c.div_ceil-size.result in
    let chunk : Chunk g.row.C.Denot = record { worker = c.loop-worker.worker; threads = c.split_off.new.self } in
    let behind = c.in_ok-behind.behind.items in
    let both = ap (λ xs. xs ++ behind) c.in_ok-behind.ensures.items ∙ ap (λ xs. take size rest ++ xs) c.in_ok-behind.ensures.tail ∙ take-append-drop size rest in
    let one = length-append chunks (chunk ∷ []) in
    let many = ap (λ xs. length xs) c.in_ok-push.ensures in
    let count = was.count in
    let test = c.loop-worker-test.true in
    record {
      threads = ap (λ xs. threads_of_chunks xs ++ behind) c.in_ok-push.ensures ∙ ap (λ xs. xs ++ behind) (chunks-snoc chunks chunk) ∙ append_assoc (threads_of_chunks chunks) c.split_off.new.self.items behind
          ∙ ap (λ xs. threads_of_chunks chunks ++ xs) both ∙ was.threads;
      count = omega (arith, one, many, count);
      within = omega (arith, test);
      last = omega arith;
    }

pub returns-clause-threads : goal.returns-clause-threads
returns-clause-threads g c =
    let chunk : Chunk g.row.C.Denot = record { worker = c.loop-worker.last; threads = c.loop-worker.rest } in
    ap (λ xs. threads_of_chunks xs) c.in_ok-push-2.ensures ∙ chunks-snoc c.loop-worker.chunks.items chunk ∙ c.loop-worker.invariant.threads

pub returns-clause-most : goal.returns-clause-most
returns-clause-most g c =
    let chunk : Chunk g.row.C.Denot = record { worker = c.loop-worker.last; threads = c.loop-worker.rest } in
    let one = length-append c.loop-worker.chunks.items (chunk ∷ []) in
    let many = ap (λ xs. length xs) c.in_ok-push-2.ensures in
    let count = c.loop-worker.invariant.count in
    let within = c.loop-worker.invariant.within in
    omega (arith, one, many, count, within)
