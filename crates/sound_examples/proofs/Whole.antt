-- A sound program.
use Rattle.std.proofs.Common.{◌≡◌, ◌≤◌, ◌^◌, Some, refl, arith}
use Rattle.std.specs.List.{range_with_len}
use Rattle.builtin_world.specs.Library.{library}
use Rattle.link_rules.specs.Classes.{classes_of, member_of_file}
use Rattle.link_rules.specs.FixedObjects.{first_free}
use Rattle.link_rules.specs.Methods.{method_named}
use Rattle.link_rules.specs.Names.{program_names}
use Rattle.program_soundness.specs.SoundPrograms.{IsSound}
use Rattle.java_rows.specs.Start.{start_of_program}
use Rattle.program_soundness.specs.Programs.{IsMainMethod}
use Rattle.program_soundness.specs.Starts.{RunsFit}
use Rattle.program_soundness.proofs.StartLaws.{runs_fit}
use Rattle.sound_examples.specs.Program.{idle_main, idle_method, idle_pool, idle_program}
use Rattle.sound_examples.proofs.Decoded.{decoded}
use Rattle.sound_examples.proofs.Linked.{linked}
use Rattle.sound_examples.proofs.Verified.{verified}

pub idle_sound : IsSound idle_program (range_with_len 1 29)
idle_sound = record { units = decoded; linked = linked; verified = verified }

main_named : method_named (classes_of idle_program) idle_method ≡ Some (member_of_file idle_pool idle_main)
unfolding library
main_named = refl

pub idle_main_is : IsMainMethod idle_program idle_method
idle_main_is = record { member = member_of_file idle_pool idle_main; named = main_named; read = omega arith; static = refl; descriptor = refl }

places : first_free (program_names idle_program) ≡ 72
unfolding library
places = refl

pub idle_room : first_free (program_names idle_program) ≤ 2 ^ 32
idle_room = omega (arith, places)

pub idle_runs : RunsFit idle_program (start_of_program idle_program idle_method)
idle_runs = runs_fit idle_program (range_with_len 1 29) idle_method idle_sound idle_room idle_main_is
