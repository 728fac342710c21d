-- The environment of the rules, as the frame of an instruction is found.
use Rattle.std.specs.Prelude.{◌≡◌, Option, option_map}
use Rattle.type_rules.specs.Environment.{Environment, TypeFrame}
use Rattle.typing_frames.specs.declared.stores.FrameStores.{FrameStores}
use Rattle.typing_frames.specs.declared.stores.CurrentFrame.{CurrentFrame}
use Rattle.typing_frames.specs.Frames.{shown}
use Rattle.map_frames.specs.declared.entry.MethodEntry.{MethodEntry}

-- a method begins and has room as the environment says
pub record IsEntryOf (env : Environment) (entry : MethodEntry) : Type 0 where
  pub words : env.entry ≡ entry.words.items
  pub max_locals : env.max_locals ≡ entry.max_locals
  pub max_stack : env.max_stack ≡ entry.max_stack

abbrev pub shown_if : FrameStores → Option CurrentFrame → Option TypeFrame
shown_if stores frame = option_map (shown stores) frame
