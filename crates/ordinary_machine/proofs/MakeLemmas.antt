-- Steps that are made from where their thread is.
use Rattle.std.proofs.Common.{◌≡◌, ℕ, Option, refl, sym, ◌∙◌, ap, subst}
use Rattle.op_core.specs.declared.Op.{Op}
use Rattle.op_core.specs.declared.Op.TheVariants.{Start, End}
use Rattle.op_core.specs.declared.Reply.{Reply}
use Rattle.op_core.specs.declared.Reply.TheVariants.{Number}
use Rattle.op_core.specs.declared.Next.TheVariants.{Want}
use Rattle.op_core.specs.ThreadCode.{Code}
use Rattle.op_core.specs.Replies.{FitsNext}
use Rattle.op_core.specs.OrdinaryState.{set_at, Thread, unused, live}
use Rattle.op_core.specs.OrdinaryStep.{CanStep, MayAnswer}
use Rattle.op_core.proofs.ExecutionLemmas.{answers_fit}
use Rattle.op_core.proofs.GroundedLemmas.{CanStep-with, MayAnswer-with, after-with}
use Rattle.op_core.proofs.PointwiseLemmas.{set_at-hit, set_at-other, set_at-twice, set_at-back}
use Rattle.ordinary_machine.specs.Machine.{Machine, silents_after, taken_after, shared_after, moved, with_thread_at, with_started_at, HasBegun, Wants, Awaits}
use Rattle.ordinary_machine.specs.Step.{IsLive}

-- a thread awaits the reply to what it wants
awaits : {S : Type 0} (code : Code S) (m new : Machine S) (t : ℕ) (op : Op) (reply : Reply) (wants : Wants code m t op) → MayAnswer m.now t op reply
    → new.now.threads t ≡ live wants.place → Awaits code new t reply
awaits {S} code m new t op reply wants answered stands = record {
  place = wants.place;
  begun = stands;
  fits = subst (λ next. FitsNext next reply) (sym wants.wanted) (answers_fit S m.now t op reply answered);
}

-- What threads share is changed first, and then the thread goes on.
pub shared_awaits : {S : Type 0} (code : Code S) (m new : Machine S) (t : ℕ) (op : Op) (reply : Reply) (wants : Wants code m t op) → MayAnswer m.now t op reply
    → ((l : S) → m.now.threads t ≡ live l → new ≡ shared_after code m t l op reply) → Awaits code new t reply
shared_awaits {S} code m new t op reply wants answered shared =
    awaits code m new t op reply wants answered (ap (λ (x : Machine S). x.now.threads t) (shared wants.place wants.begun) ∙ wants.begun)

go_moved : {S : Type 0} (code : Code S) (m : Machine S) (t : ℕ) (l : S) (op : Op) (reply : Reply) → ((r p n : ℕ) → op ≡ Start r p → reply ≡ Number n → ⊥) → ((x : Option ℕ) → op ≡ End x → ⊥)
    → with_thread_at (shared_after code m t l op reply) t (live (code.reply l reply)) 0 ≡ moved code m t l op reply
go_moved code m t l (Start r p) (Number n) no_number no_end = absurd (no_number r p n refl refl)
go_moved code m t l (Start r p) _ no_number no_end = refl
go_moved code m t l (End x) reply no_number no_end = absurd (no_end x refl)
go_moved code m t l _ reply no_number no_end = refl

pub shared_moved : {S : Type 0} (code : Code S) (m new last : Machine S) (t : ℕ) (op : Op) (reply : Reply)
    → ((r p n : ℕ) → op ≡ Start r p → reply ≡ Number n → ⊥) → ((x : Option ℕ) → op ≡ End x → ⊥)
    → ((l : S) → m.now.threads t ≡ live l → new ≡ shared_after code m t l op reply)
    → ((l : S) → new.now.threads t ≡ live l → last ≡ with_thread_at new t (live (code.reply l reply)) 0)
    → (l : S) → m.now.threads t ≡ live l → last ≡ moved code m t l op reply
shared_moved {S} code m new last t op reply no_number no_end shared replies l stands =
    let led : new ≡ shared_after code m t l op reply = shared l stands in
    replies l (ap (λ (x : Machine S). x.now.threads t) led ∙ stands)
    ∙ ap (λ x. with_thread_at x t (live (code.reply l reply)) 0) led ∙ go_moved code m t l op reply no_number no_end

-- The new thread begins first.
still_live : {S : Type 0} (f : ℕ → Thread S) (t n : ℕ) (l k : S) → f t ≡ live l → f n ≡ unused → set_at f n (live k) t ≡ live l
still_live f t n l k stands free = set_at-other f n (live k) t (λ e. let both : live l ≡ unused = sym stands ∙ ap f e ∙ free in cc) ∙ stands

pub begun_awaits : {S : Type 0} (code : Code S) (m new : Machine S) (t r p n : ℕ) (k : S) (wants : Wants code m t (Start r p)) → MayAnswer m.now t (Start r p) (Number n)
    → new ≡ with_started_at (with_thread_at m n (live k) 0) r n → Awaits code new t (Number n)
begun_awaits {S} code m new t r p n k wants answered is =
    awaits code m new t (Start r p) (Number n) wants answered
    (ap (λ (x : Machine S). x.now.threads t) is ∙ still_live m.now.threads t n wants.place k wants.begun answered.1.2)

pub begun_moved : {S : Type 0} (code : Code S) (m new last : Machine S) (t r p n : ℕ) (k : S) → MayAnswer m.now t (Start r p) (Number n)
    → ((l : S) → m.now.threads t ≡ live l → k ≡ code.child l r) → new ≡ with_started_at (with_thread_at m n (live k) 0) r n
    → ((l : S) → new.now.threads t ≡ live l → last ≡ with_thread_at new t (live (code.reply l (Number n))) 0)
    → (l : S) → m.now.threads t ≡ live l → last ≡ moved code m t l (Start r p) (Number n)
begun_moved {S} code m new last t r p n k answered child is replies l stands =
    replies l (ap (λ (x : Machine S). x.now.threads t) is ∙ still_live m.now.threads t n l k stands answered.1.2)
    ∙ ap (λ x. with_thread_at x t (live (code.reply l (Number n))) 0) is
    ∙ ap (λ j. with_thread_at (with_started_at (with_thread_at m n (live j) 0) r n) t (live (code.reply l (Number n))) 0) (child l stands)

-- A thread that was put where its silent steps lead.
pub there_wants : {S : Type 0} (code : Code S) (m new : Machine S) (t : ℕ) (l : S) (op : Op) → new ≡ with_thread_at m t (live l) (m.silents t) → code.next l ≡ Want op → Wants code new t op
there_wants {S} code m new t l op is wanted = record { place = l; begun = ap (λ (x : Machine S). x.now.threads t) is ∙ set_at-hit m.now.threads t (live l); wanted = wanted }

pub there_can : {S : Type 0} (m new : Machine S) (t : ℕ) (l : S) (op : Op) → new ≡ with_thread_at m t (live l) (m.silents t) → IsLive m.now t → CanStep m.now t op → CanStep new.now t op
there_can {S} m new t l op is (from, begun) can = subst (λ (x : Machine S). CanStep x.now t op) (sym is) (CanStep-with m.now t from l op begun can)

pub there_answers : {S : Type 0} (m new : Machine S) (t : ℕ) (l : S) (op : Op) (reply : Reply) → new ≡ with_thread_at m t (live l) (m.silents t) → IsLive m.now t → MayAnswer m.now t op reply → MayAnswer new.now t op reply
there_answers {S} m new t l op reply is (from, begun) answered = subst (λ (x : Machine S). MayAnswer x.now t op reply) (sym is) (MayAnswer-with m.now t from l op reply begun answered)

pub there_moved : {S : Type 0} (code : Code S) (m new last : Machine S) (t : ℕ) (l : S) (op : Op) (reply : Reply) → new ≡ with_thread_at m t (live l) (m.silents t) → IsLive m.now t → MayAnswer m.now t op reply
    → ((k : S) → new.now.threads t ≡ live k → last ≡ moved code new t k op reply) → last ≡ moved code m t l op reply
there_moved {S} code m new last t l op reply is (from, begun) answered made =
    made l (ap (λ (x : Machine S). x.now.threads t) is ∙ set_at-hit m.now.threads t (live l)) ∙ ap (λ x. moved code x t l op reply) is ∙ (λ i. record {
      now = after-with code m.now t from l op reply begun answered i;
      silents = silents_after t op reply (set_at-back m.silents t i);
      first = m.first;
      taken = taken_after code l op reply m.taken;
    })

pub there_begun : {S : Type 0} (m new last : Machine S) (t : ℕ) (l : S) → new ≡ with_thread_at m t (live l) (m.silents t) → last ≡ new → HasBegun (last.now.threads t)
there_begun {S} m new last t l is same = subst HasBegun (sym (ap (λ (x : Machine S). x.now.threads t) (same ∙ is) ∙ set_at-hit m.now.threads t (live l))) tt

-- and back
pub there_back : {S : Type 0} (m new same last : Machine S) (t : ℕ) (l : S) (before : Thread S) (silent : ℕ) → new ≡ with_thread_at m t (live l) (m.silents t) → same ≡ new
    → last ≡ with_thread_at same t before silent → before ≡ m.now.threads t → silent ≡ m.silents t → last ≡ m
there_back {S} m new same last t l before silent is kept back stood count =
    back ∙ ap (λ x. with_thread_at x t before silent) (kept ∙ is) ∙ ap (λ x. with_thread_at (with_thread_at m t (live l) (m.silents t)) t x silent) stood
    ∙ ap (with_thread_at (with_thread_at m t (live l) (m.silents t)) t (m.now.threads t)) count ∙ (λ i. record m {
      now = record m.now { threads = (set_at-twice m.now.threads t (live l) (m.now.threads t) ∙ set_at-back m.now.threads t) i };
      silents = (set_at-twice m.silents t (m.silents t) (m.silents t) ∙ set_at-back m.silents t) i;
    })
