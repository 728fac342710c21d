use Rattle.std.proofs.Common.{◌≡◌, take, map, string_bytes}
use Rattle.jr_ports.specs.Stream.{Gains}
use Rattle.program_input.specs.Folder.{AreRead}
use Rattle.program_input.proofs.folder.read_files.Given as goal

abbrev pub invariant-loop-name : goal.invariant-loop-name
invariant-loop-name g l = record {
  read : AreRead (g.D.ClassDir.contents l.fn.classes) (map string_bytes (take l.name-index l.names)) (map (λ f. f.items) l.files.items);
  asked : g.D.ClassDir.asked l.classes ≡ g.D.ClassDir.asked l.fn.classes;
  contents : g.D.ClassDir.contents l.classes ≡ g.D.ClassDir.contents l.fn.classes;
  faults : g.D.ClassDir.faults l.classes ≡ g.D.ClassDir.faults l.fn.classes;
  front : Gains (g.D.ClassDir.read_names l.fn.classes) (g.D.ClassDir.read_names l.classes) (map string_bytes (take l.name-index l.names));
}
