-- The run in which an enabled thread comes to wait, computed.
use Rattle.std.proofs.Common.{refl}
use Rattle.heap_words.specs.Words.{pack_tag, tag_section, tag_level, pack, value_of, tag_of}
use Rattle.section_state.specs.SectionWord.{section_word, state_of, owner_of, priority_of, pinned_of, depth_of, revoke_of, with_state, with_pinned, with_depth, with_revoke}
use Rattle.monitor_core.specs.Monitors.{monitor_word, monitor_section, monitor_depth, monitor_level}
use Rattle.enabled_law.specs.Forgetting.{EnabledThreadsCanComeToWait}

pub can_come_to_wait : EnabledThreadsCanComeToWait
unfolding pack_tag tag_section tag_level pack value_of tag_of section_word state_of owner_of priority_of pinned_of depth_of revoke_of with_state with_pinned with_depth with_revoke monitor_word monitor_section monitor_depth monitor_level
can_come_to_wait = record { enabled = refl; waits = refl }
