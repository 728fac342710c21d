-- What each operation changes of all that threads share, by its reply.
use Rattle.std.proofs.Common.{◌≡◌, ℕ, zero, suc, ◌<◌, true, false, refl, sym, ◌∙◌, ap, subst, Option, arith}
use Rattle.op_core.specs.declared.Op.{Op}
use Rattle.op_core.specs.declared.Op.TheVariants.{Write, New, Enter, Exit, Wait, Rewake, Notify, Print, Start, Init, InitDone, End}
use Rattle.op_core.specs.declared.Reply.{Reply}
use Rattle.op_core.specs.declared.Reply.TheVariants.{Made, Done, NotOwner, Woken, Number, Claimed}
use Rattle.op_core.specs.declared.Line.{Line}
use Rattle.op_core.specs.ThreadCode.{Code}
use Rattle.op_core.specs.OrdinaryState.{Monitor, free, held, Waiting, awake, waits, ClassState, unready, claimed, ready, bad, live, ended, IsOwner, IsWaitingFor, count_of, entered, exited, saved_count, notified_of}
use Rattle.op_core.specs.OrdinaryStep.{AnswersInit, MayAnswer}
use Rattle.ordinary_machine.specs.Machine.{Machine, shared_after, moved, with_word_at, with_monitor_at, with_waiting_at, with_class_at, with_line, with_thread_at, woken_of}

pub write_shared : {S : Type 0} (code : Code S) (m : Machine S) (l : S) (t r i v : ℕ) (reply : Reply) → MayAnswer m.now t (Write r i v) reply → with_word_at m r i v ≡ shared_after code m t l (Write r i v) reply
write_shared code m l t r i v Done answered = refl
write_shared code m l t r i v _ answered = absurd answered

pub new_kept : {S : Type 0} (code : Code S) (m : Machine S) (l : S) (t c n : ℕ) (reply : Reply) → ((r : ℕ) → reply ≡ Made r → ⊥) → m ≡ shared_after code m t l (New c n) reply
new_kept code m l t c n (Made r) other = absurd (other r refl)
new_kept code m l t c n _ other = refl

pub enter_shared : {S : Type 0} (code : Code S) (m : Machine S) (l : S) (t r : ℕ) (reply : Reply) (monitor : Monitor) → MayAnswer m.now t (Enter r) reply → monitor ≡ entered t (m.now.monitors r)
    → with_monitor_at m r monitor ≡ shared_after code m t l (Enter r) reply
enter_shared code m l t r Done monitor answered is = ap (with_monitor_at m r) is
enter_shared code m l t r _ monitor answered is = absurd answered

pub exit_shared : {S : Type 0} (code : Code S) (m : Machine S) (l : S) (t r : ℕ) (reply : Reply) (monitor : Monitor) → MayAnswer m.now t (Exit r) reply → IsOwner t (m.now.monitors r) → monitor ≡ exited (m.now.monitors r)
    → with_monitor_at m r monitor ≡ shared_after code m t l (Exit r) reply
exit_shared code m l t r Done monitor answered owner is = ap (with_monitor_at m r) is
exit_shared code m l t r NotOwner monitor answered owner is = absurd (answered owner)
exit_shared code m l t r _ monitor answered owner is = absurd answered

pub exit_kept : {S : Type 0} (code : Code S) (m : Machine S) (l : S) (t r : ℕ) (reply : Reply) → MayAnswer m.now t (Exit r) reply → (IsOwner t (m.now.monitors r) → ⊥) → m ≡ shared_after code m t l (Exit r) reply
exit_kept code m l t r Done answered other = absurd (other answered)
exit_kept code m l t r _ answered other = refl

pub wait_shared : {S : Type 0} (code : Code S) (m : Machine S) (l : S) (t r : ℕ) (reply : Reply) (count : ℕ) → MayAnswer m.now t (Wait r) reply → IsOwner t (m.now.monitors r) → count ≡ count_of (m.now.monitors r)
    → with_monitor_at (with_waiting_at m t (waits r count)) r free ≡ shared_after code m t l (Wait r) reply
wait_shared code m l t r Done count answered owner is = ap (λ n. with_monitor_at (with_waiting_at m t (waits r n)) r free) is
wait_shared code m l t r NotOwner count answered owner is = absurd (answered owner)
wait_shared code m l t r _ count answered owner is = absurd answered

pub wait_kept : {S : Type 0} (code : Code S) (m : Machine S) (l : S) (t r : ℕ) (reply : Reply) → MayAnswer m.now t (Wait r) reply → (IsOwner t (m.now.monitors r) → ⊥) → m ≡ shared_after code m t l (Wait r) reply
wait_kept code m l t r Done answered other = absurd (other answered)
wait_kept code m l t r _ answered other = refl

pub rewake_shared : {S : Type 0} (code : Code S) (m : Machine S) (l : S) (t r : ℕ) (reply : Reply) (count : ℕ) → MayAnswer m.now t (Rewake r) reply → count ≡ saved_count (m.now.waiting t)
    → with_monitor_at (with_waiting_at m t awake) r (held t count) ≡ shared_after code m t l (Rewake r) reply
rewake_shared code m l t r Done count answered is = ap (λ n. with_monitor_at (with_waiting_at m t awake) r (held t n)) is
rewake_shared code m l t r _ count answered is = absurd answered

pub notify_shared : {S : Type 0} (code : Code S) (m : Machine S) (l : S) (t r : ℕ) (reply : Reply) (woken : ℕ) (w : Waiting) → woken ≡ woken_of reply → 0 < woken → w ≡ notified_of (m.now.waiting woken)
    → with_waiting_at m woken w ≡ shared_after code m t l (Notify r) reply
notify_shared {S} code m l t r (Woken zero) woken w is some waiting = absurd (omega (arith, is, some))
notify_shared {S} code m l t r (Woken (suc n)) woken w is some waiting =
    ap (with_waiting_at m woken) waiting ∙ ap (λ k. with_waiting_at m k (notified_of (m.now.waiting k))) is
notify_shared code m l t r _ woken w is some waiting = absurd (omega (arith, is, some))

pub notify_kept : {S : Type 0} (code : Code S) (m : Machine S) (l : S) (t r : ℕ) (reply : Reply) → woken_of reply ≡ 0 → m ≡ shared_after code m t l (Notify r) reply
notify_kept code m l t r (Woken zero) none = refl
notify_kept code m l t r (Woken (suc n)) none = absurd (omega (arith, none))
notify_kept code m l t r _ none = refl

pub notify_woken : {S : Type 0} (m : Machine S) (t r : ℕ) (reply : Reply) (woken : ℕ) → MayAnswer m.now t (Notify r) reply → woken ≡ woken_of reply → 0 < woken → IsWaitingFor r (m.now.waiting woken)
notify_woken m t r (Woken zero) woken answered is some = absurd (omega (arith, is, some))
notify_woken m t r (Woken (suc n)) woken answered is some = subst (λ k. IsWaitingFor r (m.now.waiting k)) (sym is) answered.1.0
notify_woken m t r _ woken answered is some = absurd (omega (arith, is, some))

pub print_shared : {S : Type 0} (code : Code S) (m : Machine S) (l : S) (t : ℕ) (line : Line) (reply : Reply) → MayAnswer m.now t (Print line) reply → with_line m line ≡ shared_after code m t l (Print line) reply
print_shared code m l t line Done answered = refl
print_shared code m l t line _ answered = absurd answered

init_unready : (t : ℕ) (reply : Reply) → AnswersInit t unready reply → reply ≡ Claimed
init_unready t Claimed answered = refl
init_unready t _ answered = absurd answered

init_claims : (t : ℕ) (x : ClassState) → AnswersInit t x Claimed → x ≡ unready
init_claims t unready answered = refl
init_claims t (claimed owner) answered = absurd answered
init_claims t ready answered = absurd answered
init_claims t bad answered = absurd answered

pub init_shared : {S : Type 0} (code : Code S) (m : Machine S) (l : S) (t c : ℕ) (reply : Reply) → MayAnswer m.now t (Init c) reply → m.now.classes c ≡ unready
    → with_class_at m c (claimed t) ≡ shared_after code m t l (Init c) reply
init_shared code m l t c reply answered is = ap (shared_after code m t l (Init c)) (sym (init_unready t reply (subst (λ x. AnswersInit t x reply) is answered)))

pub init_kept : {S : Type 0} (code : Code S) (m : Machine S) (l : S) (t c : ℕ) (reply : Reply) → MayAnswer m.now t (Init c) reply → (m.now.classes c ≡ unready → ⊥) → m ≡ shared_after code m t l (Init c) reply
init_kept code m l t c Claimed answered other = absurd (other (init_claims t (m.now.classes c) answered))
init_kept code m l t c _ answered other = refl

pub init_done_shared : {S : Type 0} (code : Code S) (m : Machine S) (l : S) (t c : ℕ) (reply : Reply) → MayAnswer m.now t (InitDone c true) reply → with_class_at m c ready ≡ shared_after code m t l (InitDone c true) reply
init_done_shared code m l t c Done answered = refl
init_done_shared code m l t c _ answered = absurd answered

pub init_failed_shared : {S : Type 0} (code : Code S) (m : Machine S) (l : S) (t c : ℕ) (reply : Reply) → MayAnswer m.now t (InitDone c false) reply → with_class_at m c bad ≡ shared_after code m t l (InitDone c false) reply
init_failed_shared code m l t c Done answered = refl
init_failed_shared code m l t c _ answered = absurd answered

pub end_moved : {S : Type 0} (code : Code S) (m : Machine S) (t : ℕ) (l : S) (x : Option ℕ) (reply : Reply) → MayAnswer m.now t (End x) reply → with_thread_at m t (ended x) 0 ≡ moved code m t l (End x) reply
end_moved code m t l x Done answered = refl
end_moved code m t l x _ answered = absurd answered

pub start_moved : {S : Type 0} (code : Code S) (m : Machine S) (t : ℕ) (l : S) (r p : ℕ) (reply : Reply) → ((n : ℕ) → reply ≡ Number n → ⊥)
    → with_thread_at m t (live (code.reply l reply)) 0 ≡ moved code m t l (Start r p) reply
start_moved code m t l r p (Number n) other = absurd (other n refl)
start_moved code m t l r p _ other = refl

-- an operation that neither ends the thread nor starts one
pub plain_moved : {S : Type 0} (code : Code S) (m : Machine S) (t : ℕ) (l : S) (op : Op) (reply : Reply) → ((r p : ℕ) → op ≡ Start r p → ⊥) → ((x : Option ℕ) → op ≡ End x → ⊥)
    → with_thread_at (shared_after code m t l op reply) t (live (code.reply l reply)) 0 ≡ moved code m t l op reply
plain_moved code m t l (Start r p) reply start end = absurd (start r p refl)
plain_moved code m t l (End x) reply start end = absurd (end x refl)
plain_moved code m t l _ reply start end = refl
