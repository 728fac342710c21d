-- What is so of all monitors.
use Rattle.std.specs.Prelude.{◌≡◌, ℕ, ◌<◌, ◌≤◌, ◌^◌, ◌↔◌, false, nat_eq}
use Rattle.section_state.specs.declared.State.TheVariants.{Live}
use Rattle.section_state.specs.SectionWord.{number_of, state_of, priority_of, pinned_of, depth_of}
use Rattle.monitor_core.specs.declared.Contend.TheVariants.{Revoke}
use Rattle.monitor_core.specs.Monitors.{monitor_word, monitor_section, monitor_depth, monitor_level, is_own}
use Rattle.monitor_core.specs.Contention.{contend_with, contend_for}

-- the parts of a packed word are what was packed
abbrev pub MonitorWordsArePacked : Type 0
MonitorWordsArePacked = (section depth level : ℕ) → section < 2 ^ 32 → depth < 2 ^ 16 → level < 2 ^ 8
    → (monitor_section (monitor_word section depth level) ≡ section) × (monitor_depth (monitor_word section depth level) ≡ depth)
    × (monitor_level (monitor_word section depth level) ≡ level)

-- a word below 2 ^ 56 is packed of its parts
abbrev pub MonitorWordsAreTheirParts : Type 0
MonitorWordsAreTheirParts = (word : ℕ) → word < 2 ^ 56
    → monitor_word (monitor_section word) (monitor_depth word) (monitor_level word) ≡ word

-- the section is live, the level is open and not pinned, and the section has a lower priority
pub record CanBeRevoked (section level priority : ℕ) : Type 0 where
  pub is_live : state_of section ≡ number_of Live
  pub is_there : level ≤ depth_of section
  pub is_free : pinned_of section < level
  pub is_lower : priority_of section < priority

abbrev pub RevokesWhatCanBe : Type 0
RevokesWhatCanBe = (section level priority k : ℕ)
    → (contend_with section level priority ≡ Revoke k) ↔ ((k ≡ level) × CanBeRevoked section level priority)

-- a thread that wants a monitor revokes exactly the level of another section that holds it, where that can be revoked
abbrev pub RevokesTheHolder : Type 0
RevokesTheHolder = (monitor section own priority k : ℕ)
    → (contend_for monitor section own priority ≡ Revoke k) ↔ ((nat_eq monitor 0 ≡ false) × (is_own monitor own ≡ false)
    × (contend_with section (monitor_level monitor) priority ≡ Revoke k))
