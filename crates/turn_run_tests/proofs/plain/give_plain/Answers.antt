use Rattle.turn_run_tests.proofs.plain.give_plain.Goals as goal

pub run_plain-turns-requires : goal.run_plain-turns-requires
run_plain-turns-requires g c = λ moves last y turns going. c.requires moves last y turns
