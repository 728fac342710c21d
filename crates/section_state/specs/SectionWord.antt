-- The word of a section, and how it may change.
use Rattle.std.specs.Prelude.{◌≡◌, ℕ, ◌+◌, ◌-◌, ◌*◌, ◌/◌, ◌%◌, ◌^◌, ◌<◌, ◌≤◌, ◌⊎◌, nat_le, if◌then◌else◌}
use Rattle.section_state.specs.declared.State.{State}
use Rattle.section_state.specs.declared.State.TheVariants.{Live, Revoking, Undone, Committed}
use Rattle.section_state.specs.declared.SectionParts.{SectionParts}

-- the number of each state. The word of a section that was never opened is 0
abbrev pub number_of : State → ℕ
number_of Live = 1
number_of Revoking = 3
number_of Undone = 4
number_of Committed = 5

-- A section word has the number of the state in its bits 0 to 7, the owner in 8 to 15, the owner's priority in 16 to 23,
-- the pinned depth in 24 to 31, the open depth in 32 to 39, and the level to which it is revoked in 40 to 47, which is 0
-- unless it is being revoked.
unfoldable pub section_word : ℕ → ℕ → ℕ → ℕ → ℕ → ℕ → ℕ
section_word state owner priority pinned depth revoke =
    state + owner * 2 ^ 8 + priority * 2 ^ 16 + pinned * 2 ^ 24 + depth * 2 ^ 32 + revoke * 2 ^ 40

unfoldable pub state_of : ℕ → ℕ
state_of word = word % 2 ^ 8

unfoldable pub owner_of : ℕ → ℕ
owner_of word = word / 2 ^ 8 % 2 ^ 8

unfoldable pub priority_of : ℕ → ℕ
priority_of word = word / 2 ^ 16 % 2 ^ 8

unfoldable pub pinned_of : ℕ → ℕ
pinned_of word = word / 2 ^ 24 % 2 ^ 8

unfoldable pub depth_of : ℕ → ℕ
depth_of word = word / 2 ^ 32 % 2 ^ 8

unfoldable pub revoke_of : ℕ → ℕ
revoke_of word = word / 2 ^ 40 % 2 ^ 8

-- the word with another part, all else as it is
unfoldable pub with_state : ℕ → ℕ → ℕ
with_state word state = word / 2 ^ 8 * 2 ^ 8 + state

unfoldable pub with_pinned : ℕ → ℕ → ℕ
with_pinned word pinned = word / 2 ^ 32 * 2 ^ 32 + pinned * 2 ^ 24 + word % 2 ^ 24

unfoldable pub with_depth : ℕ → ℕ → ℕ
with_depth word depth = word / 2 ^ 40 * 2 ^ 40 + depth * 2 ^ 32 + word % 2 ^ 32

unfoldable pub with_revoke : ℕ → ℕ → ℕ
with_revoke word revoke = word / 2 ^ 48 * 2 ^ 48 + revoke * 2 ^ 40 + word % 2 ^ 40

-- one level more is open. There are never more than 255
abbrev pub opened_of : ℕ → ℕ
opened_of word = with_depth word ((depth_of word + 1) % 2 ^ 8)

-- revoked to a level
abbrev pub revoked_of : ℕ → ℕ → ℕ
revoked_of word level = with_revoke (with_state word (number_of Revoking)) level

-- committed
abbrev pub committed_of : ℕ → ℕ
committed_of word = with_state word (number_of Committed)

-- undone to the level to which it was revoked: the section goes on with the levels below, or is undone as a whole
abbrev pub undone_of : ℕ → ℕ
undone_of word =
    with_revoke (if nat_le (revoke_of word) 1 then with_state word (number_of Undone)
    else with_depth (with_state word (number_of Live)) (revoke_of word - 1)) 0

-- the number is that of the state, and that of none
abbrev pub HasState : ℕ → State → Type 0
HasState number state = number_of state ≡ number

abbrev pub IsInNoState : ℕ → Type 0
IsInNoState number = (number ≡ 0) ⊎ (number ≡ 2) ⊎ (5 < number)

-- the word says this of its section
pub record HasParts (word : ℕ) (parts : SectionParts) : Type 0 where
  pub state : HasState (state_of word) parts.state
  pub owner : parts.owner ≡ owner_of word
  pub priority : parts.priority ≡ priority_of word
  pub pinned : parts.pinned ≡ pinned_of word
  pub depth : parts.depth ≡ depth_of word
  pub revoke : parts.revoke ≡ revoke_of word

-- the same levels are open, or are pinned
abbrev pub SameDepth : SectionParts → SectionParts → Type 0
SameDepth old new = new.depth ≡ old.depth

abbrev pub SamePinned : SectionParts → SectionParts → Type 0
SamePinned old new = new.pinned ≡ old.pinned

-- A live section is pinned deeper; or its next level is opened; or inner levels are closed.
abbrev pub MayGoOn : SectionParts → SectionParts → Type 0
MayGoOn old new =
    ((old.pinned < new.pinned) × SameDepth old new)
    ⊎ (SamePinned old new × (new.depth ≡ old.depth + 1))
    ⊎ (SamePinned old new × (1 ≤ new.depth) × (new.depth < old.depth))

-- By the states before and after: a live section stays so, or is revoked to a level that is open and not pinned, or is
-- committed; a revoked one goes on with the levels below, or is undone where there are none. Nothing else may follow.
abbrev pub MayComeTo : State → State → SectionParts → SectionParts → Type 0
MayComeTo Live Live old new = MayGoOn old new × (new.revoke ≡ old.revoke)
MayComeTo Live Revoking old new = SamePinned old new × SameDepth old new × (old.pinned < new.revoke) × (new.revoke ≤ old.depth)
MayComeTo Live Committed old new = SamePinned old new × SameDepth old new × (new.revoke ≡ old.revoke)
MayComeTo Revoking Live old new = SamePinned old new × (new.depth + 1 ≡ old.revoke) × (0 < new.depth) × (new.revoke ≡ 0)
MayComeTo Revoking Undone old new = SamePinned old new × SameDepth old new × (old.revoke ≡ 1) × (new.revoke ≡ 0)
MayComeTo _ _ old new = ⊥

-- owner and priority stay
pub record MayFollow (old new : SectionParts) : Type 0 where
  pub owner : new.owner ≡ old.owner
  pub priority : new.priority ≡ old.priority
  pub comes : MayComeTo old.state new.state old new
