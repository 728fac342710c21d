use Rattle.std.proofs.Common.{◌+◌, ◌∙◌, sym}
use Rattle.std.proofs.lemmas.List.{map-append}
use Rattle.jr_ports.proofs.Gained.{Gains-then}
use Rattle.program_input.proofs.Names.{AreRead-more, Gains-front, Gains-same, names-more, read-same}
use Rattle.program_input.proofs.folder.read_files.Goals as goal

pub read-requires : goal.read-requires
read-requires g c =
    let listed = c.requires c.loop-name.name-index c.name-item.result c.loop-name-test.true in
    rw (c.loop-name.invariant.asked, c.as_str.ensures.value) (rw (← c.name-item.is) at listed)

pub returns-in_err-read-clause-front : goal.returns-in_err-read-clause-front
returns-in_err-read-clause-front g c =
    Gains-front c.args.names.now c.loop-name.name-index _ _ (Gains-same _ _ _ _ c.in_err-read.ensures.refused c.loop-name.invariant.front)

pub returns-in_err-push-clause-front : goal.returns-in_err-push-clause-front
returns-in_err-push-clause-front g c =
    let more = names-more c.args.names.now c.loop-name.name-index c.name-item.result c.loop-name-test.true (sym c.name-item.is) in
    let gained = Gains-then _ _ _ _ _ c.loop-name.invariant.front c.in_ok-read.ensures.read in
    Gains-front c.args.names.now (c.loop-name.name-index + 1) _ _ (rw (more, sym c.as_str.ensures.value) gained)

pub loop-name-preserved : goal.loop-name-preserved
loop-name-preserved g c =
    let more = names-more c.args.names.now c.loop-name.name-index c.name-item.result c.loop-name-test.true (sym c.name-item.is) in
    let told = read-same _ _ _ _ c.loop-name.invariant.contents c.in_ok-read.ensures.told in
    record {
      read = rw (more, c.in_ok-push.ensures.items, map-append, sym c.as_str.ensures.value) (AreRead-more _ _ _ _ _ c.loop-name.invariant.read told);
      asked = c.in_ok-read.ensures.asked ∙ c.loop-name.invariant.asked;
      contents = c.in_ok-read.ensures.contents ∙ c.loop-name.invariant.contents;
      faults = c.in_ok-read.ensures.ok_faults ∙ c.loop-name.invariant.faults;
      front = rw (more, sym c.as_str.ensures.value) (Gains-then _ _ _ _ _ c.loop-name.invariant.front c.in_ok-read.ensures.read);
    }
