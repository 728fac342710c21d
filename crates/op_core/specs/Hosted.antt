-- How a thread goes on while a host answers what it asks.
use Rattle.std.specs.Prelude.{◌≡◌, ◌⊎◌, ℕ, List, [], ◌∷◌, Some}
use Rattle.op_core.specs.declared.Op.{Op}
use Rattle.op_core.specs.declared.Reply.{Reply}
use Rattle.op_core.specs.declared.Next.TheVariants.{Want}
use Rattle.op_core.specs.Replies.{Fits}
use Rattle.op_core.specs.ThreadCode.{Code, quiet_steps, LeavesNoSave}

-- a stretch of silent steps, or an operation that was answered
pub data HostedMove : Type 0 where
  quiet : ℕ → HostedMove
  asked : Op → Reply → HostedMove

-- The moves lead a thread, of which these states are saved, from the local state l at the host h to the local state m at
-- the host k.
abbrev pub Lead : {S H : Type 0} → Code S → List S → (H → ℕ → H → Type 0) → (H → Op → Reply → H → Type 0) → S → H → List HostedMove → S → H → Type 0
Lead code saves passes answers l h [] m k = (l ≡ m) × (h ≡ k)
Lead {S} {H} code saves passes answers l h (quiet n ∷ moves) m k =
    (next : S) × (host : H) × (quiet_steps code n l ≡ Some next) × LeavesNoSave code saves n l × passes h n host
    × Lead code saves passes answers next host moves m k
Lead {S} {H} code saves passes answers l h (asked op reply ∷ moves) m k =
    (host : H) × (code.next l ≡ Want op) × Fits op reply × answers h op reply host
    × Lead code saves passes answers (code.reply l reply) host moves m k

-- Each operation to which such moves lead is one that the host there may be asked.
abbrev pub MayBeAsked : {S H : Type 0} → Code S → List S → (H → ℕ → H → Type 0) → (H → Op → Reply → H → Type 0) → (H → Op → Type 0) → S → H → Type 0
MayBeAsked {S} {H} code saves passes answers may l h =
    (moves : List HostedMove) (m : S) (k : H) → Lead code saves passes answers l h moves m k
    → (op : Op) → code.next m ≡ Want op → may k op

-- Some moves lead the thread to the local state m, and the host to `last`, or to one that then declined what the thread
-- wants there and is `last` afterwards.
abbrev pub IsLedTo : {S H : Type 0} → Code S → List S → (H → ℕ → H → Type 0) → (H → Op → Reply → H → Type 0) → (H → Op → H → Type 0) → S → H → S → H → Type 0
IsLedTo {S} {H} code saves passes answers declines l h m last =
    (moves : List HostedMove) × (k : H) × Lead code saves passes answers l h moves m k
    × ((k ≡ last) ⊎ ((op : Op) × (code.next m ≡ Want op) × declines k op last))
