-- Moves of a hosted thread, joined.
use Rattle.std.proofs.Common.{◌≡◌, ℕ, List, [], ◌∷◌, ◌++◌, Some, refl, sym, subst}
use Rattle.op_core.specs.declared.Op.{Op}
use Rattle.op_core.specs.declared.Reply.{Reply}
use Rattle.op_core.specs.declared.Next.TheVariants.{Want}
use Rattle.op_core.specs.Replies.{Fits}
use Rattle.op_core.specs.ThreadCode.{Code, quiet_steps, LeavesNoSave}
use Rattle.op_core.specs.Hosted.{HostedMove, quiet, asked, Lead}

-- one stretch, or one answer, is a way
pub one_stretch : {S H : Type 0} (code : Code S) (saves : List S) (passes : H → ℕ → H → Type 0) (answers : H → Op → Reply → H → Type 0)
    (l : S) (h : H) (n : ℕ) (m : S) (k : H) → quiet_steps code n l ≡ Some m → LeavesNoSave code saves n l → passes h n k
    → Lead code saves passes answers l h (quiet n ∷ []) m k
one_stretch code saves passes answers l h n m k steps stays passed = (m, k, steps, stays, passed, (refl, refl))

pub one_answer : {S H : Type 0} (code : Code S) (saves : List S) (passes : H → ℕ → H → Type 0) (answers : H → Op → Reply → H → Type 0)
    (l : S) (h : H) (op : Op) (reply : Reply) (k : H) → code.next l ≡ Want op → Fits op reply → answers h op reply k
    → Lead code saves passes answers l h (asked op reply ∷ []) (code.reply l reply) k
one_answer code saves passes answers l h op reply k wants fits answered = (k, wants, fits, answered, (refl, refl))

-- ways join
pub joined : {S H : Type 0} (code : Code S) (saves : List S) (passes : H → ℕ → H → Type 0) (answers : H → Op → Reply → H → Type 0)
    (l : S) (h : H) (moves : List HostedMove) (m : S) (k : H) (others : List HostedMove) (n : S) (g : H)
    → Lead code saves passes answers l h moves m k → Lead code saves passes answers m k others n g
    → Lead code saves passes answers l h (moves ++ others) n g
joined code saves passes answers l h [] m k others n g (same, host) further =
    subst (λ x. Lead code saves passes answers x h others n g) (sym same) (subst (λ x. Lead code saves passes answers m x others n g) (sym host) further)
joined code saves passes answers l h (quiet count ∷ moves) m k others n g (next, host, steps, stays, passed, rest) further =
    (next, host, steps, stays, passed, joined code saves passes answers next host moves m k others n g rest further)
joined code saves passes answers l h (asked op reply ∷ moves) m k others n g (host, wants, fits, answered, rest) further =
    (host, wants, fits, answered, joined code saves passes answers (code.reply l reply) host moves m k others n g rest further)

-- a way, and one stretch more
pub and_stretch : {S H : Type 0} (code : Code S) (saves others : List S) (passes : H → ℕ → H → Type 0) (answers : H → Op → Reply → H → Type 0)
    (l : S) (h : H) (m : S) (k : H) (n : ℕ) (next : S) (host : H) → others ≡ saves
    → ((moves : List HostedMove) × Lead code saves passes answers l h moves m k)
    → quiet_steps code n m ≡ Some next → LeavesNoSave code others n m → passes k n host
    → (moves : List HostedMove) × Lead code saves passes answers l h moves next host
and_stretch code saves others passes answers l h m k n next host same (moves, led) steps stays passed = (
  moves ++ quiet n ∷ [],
  joined code saves passes answers l h moves m k (quiet n ∷ []) next host led
      (one_stretch code saves passes answers m k n next host steps (subst (λ x. LeavesNoSave code x n m) same stays) passed),
)

pub and_answer : {S H : Type 0} (code : Code S) (saves : List S) (passes : H → ℕ → H → Type 0) (answers : H → Op → Reply → H → Type 0)
    (l : S) (h : H) (m : S) (k : H) (op : Op) (reply : Reply) (host : H)
    → ((moves : List HostedMove) × Lead code saves passes answers l h moves m k)
    → code.next m ≡ Want op → Fits op reply → answers k op reply host
    → (moves : List HostedMove) × Lead code saves passes answers l h moves (code.reply m reply) host
and_answer code saves passes answers l h m k op reply host (moves, led) wants fits answered = (
  moves ++ asked op reply ∷ [],
  joined code saves passes answers l h moves m k (asked op reply ∷ []) (code.reply m reply) host led
      (one_answer code saves passes answers m k op reply host wants fits answered),
)
