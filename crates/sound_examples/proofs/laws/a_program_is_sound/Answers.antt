use Rattle.std.specs.List.{range_with_len}
use Rattle.sound_examples.proofs.Whole.{idle_main_is, idle_room, idle_runs, idle_sound}
use Rattle.sound_examples.proofs.laws.a_program_is_sound.Goals as goal

pub returns : goal.returns
returns c = record { sound = (range_with_len 1 29, idle_sound); main = idle_main_is; room = idle_room; runs = idle_runs }
