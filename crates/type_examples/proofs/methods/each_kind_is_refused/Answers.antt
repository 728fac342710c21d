use Rattle.type_examples.proofs.Computed.{no_words, wrong_type, no_frame, other_frame, no_end, no_room, not_initialized, covered, no_value}
use Rattle.type_examples.proofs.methods.each_kind_is_refused.Goals as goal

pub returns : goal.returns
returns c = record {
  stack_shape = no_words;
  type_mismatch = wrong_type;
  frame_missing = no_frame;
  frame_mismatch = other_frame;
  falls_off = no_end;
  limits = no_room;
  uninit = not_initialized;
  init_covered = covered;
  return_type = no_value;
}
