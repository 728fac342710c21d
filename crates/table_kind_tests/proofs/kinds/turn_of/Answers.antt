use Rattle.table_kind_tests.proofs.KindLemmas.{main_later, other_later}
use Rattle.table_kind_tests.proofs.kinds.turn_of.Goals as goal

pub returns-in_ok-follow-in-Main : goal.returns-in_ok-follow-in-Main
returns-in_ok-follow-in-Main g c =
    let turned = c.in_ok-main-in-Main in
    main_later g.C.ThreadCode.state g.C.ThreadCode.saved g.C.ThreadCode.code c.args.table.now c.args.both.main turned.main c.args.both.other c.requires.all turned.ensures.stands turned.ensures.begot

pub returns-in_ok-follow-in-Other : goal.returns-in_ok-follow-in-Other
returns-in_ok-follow-in-Other g c =
    let turned = c.in_ok-other-in-Other in
    other_later g.C.ThreadCode.state g.C.ThreadCode.saved g.C.ThreadCode.code c.args.table.now c.args.both.main c.args.both.other turned.other c.requires.all turned.ensures.stands turned.ensures.begot
