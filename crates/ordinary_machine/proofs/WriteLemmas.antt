-- A Write, made with one look at its object.
use Rattle.std.proofs.Common.{◌≡◌, ℕ, refl}
use Rattle.op_core.specs.declared.Op.TheVariants.{Write}
use Rattle.op_core.specs.declared.Reply.TheVariants.{Done}
use Rattle.op_core.specs.declared.Limits.{Limits}
use Rattle.op_core.specs.ThreadCode.{Code}
use Rattle.op_core.specs.OrdinaryState.{HasWord, live}
use Rattle.ordinary_machine.specs.Machine.{Machine, with_word_at, with_thread_at, Wants, Awaits}
use Rattle.ordinary_machine.specs.Advance.{IsAnswered}
use Rattle.ordinary_machine.proofs.MakeLemmas.{shared_awaits, shared_moved}

-- the word is written first, and then the thread goes on
pub written_awaits : {S : Type 0} (code : Code S) (m middle : Machine S) (t r i v : ℕ) → Wants code m t (Write r i v) → middle ≡ with_word_at m r i v → Awaits code middle t Done
written_awaits code m middle t r i v wants written = shared_awaits code m middle t (Write r i v) Done wants tt (λ l begun. written)

pub written_answered : {S : Type 0} (code : Code S) (m middle last : Machine S) (t r i v : ℕ) (limits : Limits) → Wants code m t (Write r i v) → HasWord m.now.objects r i → middle ≡ with_word_at m r i v
    → ((l : S) → middle.now.threads t ≡ live l → last ≡ with_thread_at middle t (live (code.reply l Done)) 0)
    → IsAnswered code m t limits (record { thread = t; silent = m.silents t; op = Write r i v; reply = Done }) last
written_answered {S} code m middle last t r i v limits wants has written replies = record {
  place = wants.place;
  begun = wants.begun;
  mine = refl;
  silent = refl;
  step = record { wanted = wants.wanted; can = has; answered = tt };
  chosen = tt;
  within = λ limit meets. meets;
  leads = shared_moved code m middle last t (Write r i v) Done (λ q p n is number. cc) (λ x is. cc) (λ l begun. written) replies wants.place wants.begun;
}
