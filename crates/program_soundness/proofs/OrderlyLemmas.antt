-- The code of an accepted program goes in order.
use Rattle.std.proofs.Common.{◌≡◌, ◌≢◌, ℕ, ◌<◌, ◌≤◌, ◌^◌, true, List, length, Option, refl, sym, ap, subst, ◌∙◌, arith}
use Rattle.std.proofs.lemmas.Bool.{and_parts, leb-true}
use Rattle.code_decode.specs.declared.code.ClassUnit.{ClassUnit}
use Rattle.link_rules.specs.Classes.{classes_of}
use Rattle.link_rules.specs.Layout.{object_words}
use Rattle.link_rules.specs.Names.{program_names}
use Rattle.op_core.specs.declared.Op.{Op}
use Rattle.op_core.specs.declared.Op.TheVariants.{New, Wait, Rewake, Init, InitDone, End}
use Rattle.op_core.specs.declared.Reply.{Reply}
use Rattle.op_core.specs.declared.Reply.TheVariants.{Done}
use Rattle.op_core.specs.declared.Next.{Next}
use Rattle.op_core.specs.declared.Next.TheVariants.{Silent, Want, Ended}
use Rattle.op_core.specs.Replies.{Fits}
use Rattle.op_core.specs.Orderly.{IsWait, IsRewake, CanStand, at_first, by_silent, by_reply, by_start, IsOrderly}
use Rattle.java_rows.specs.Plan.{Plan, want, silently, calls, ready, over, stuck}
use Rattle.java_rows.specs.Program.{is_of_file}
use Rattle.java_rows.specs.Thread.{Local, java_code, next_of, silent_of, reply_of, child_of}
use Rattle.row_soundness.specs.Fits.{Returns, Preceding, anything, a_wait, the_end, a_text, Follows, after_reply, IsAnywhere, IsTheEnd, IsBegun, PlanFits}
use Rattle.row_soundness.specs.Accepted.{Accepted}
use Rattle.row_soundness.specs.Kinds.{kinds, KindsWant, KindsLocal}
use Rattle.row_soundness.specs.Knowledge.{CanBeMade}
use Rattle.row_soundness.proofs.KindsKnow.{kinds_know}
use Rattle.row_soundness.specs.Rows.{RowsFit}
use Rattle.row_soundness.proofs.Settled.{goes_on_after, silent_fits, reply_fits, wants_fit, child_fits}

module _ (us : List ClassUnit) (accepted : Accepted us) (rows : RowsFit (kinds us) us) (few : (c n : ℕ) → CanBeMade us c n → object_words (program_names us) c n ≤ 2 ^ 32) where
  -- what comes next, by what came before
  abbrev IsNextOf : Preceding → Next → Type 0
  IsNextOf anything next = (IsRewake next → ⊥) × (next ≢ Ended)
  IsNextOf (a_wait r) next = next ≡ Want (Rewake r)
  IsNextOf the_end next = next ≡ Ended
  IsNextOf (a_text m) next = (IsRewake next → ⊥) × (next ≢ Ended)

  next_wanted : (b : Preceding) (op : Op) → Follows b op → IsNextOf b (Want op)
  next_wanted anything (Rewake r) is = absurd is
  next_wanted anything op is = ((λ x. x), λ e. cc)
  next_wanted (a_wait r) (Rewake q) is = ap (λ x. Want (Rewake x)) is
  next_wanted (a_wait r) op is = absurd is
  next_wanted the_end op is = absurd is
  next_wanted (a_text m) (Rewake r) is = absurd is
  next_wanted (a_text m) op is = ((λ x. x), λ e. cc)

  next_silent : (b : Preceding) → IsAnywhere b → IsNextOf b Silent
  next_silent anything is = ((λ x. x), λ e. cc)
  next_silent b is = absurd is

  next_over : (b : Preceding) → IsTheEnd b → IsNextOf b Ended
  next_over the_end is = refl
  next_over b is = absurd is

  next_fits : (b : Preceding) (res : Option Returns) (plan : Plan) → IsBegun plan → PlanFits (kinds us) us res b plan tt → IsNextOf b (next_of plan)
  next_fits b res (want op k) begun fits = next_wanted b op fits.0
  next_fits b res (silently plan) begun fits = next_silent b fits.0
  next_fits b res (calls id args monitor k) begun fits = next_silent b fits.0
  next_fits b res over begun fits = next_over b fits
  next_fits b res stuck begun fits = absurd fits
  next_fits b res (ready ending) begun fits = absurd begun

  abbrev Stands : Local → Type 0
  Stands l = (b : Preceding) × KindsLocal us b l × (IsTheEnd b → ⊥)

  next_of_local : (b : Preceding) (l : Local) → KindsLocal us b l → IsNextOf b (next_of l.plan)
  next_of_local b l fits = next_fits b fits.res l.plan fits.begun fits.plan

  silent_local : (b : Preceding) (l : Local) → KindsLocal us b l → next_of l.plan ≡ Silent → KindsLocal us anything (silent_of l.program l.thread l.plan l.below)
  silent_local b l fits e =
      subst (λ p. KindsLocal us anything (silent_of p l.thread l.plan l.below)) (sym fits.program)
      (silent_fits (kinds us) us (kinds_know us) accepted rows l.thread b tt fits.res l.below l.plan tt e fits.plan fits.below)

  reply_local : (b : Preceding) (l : Local) (op : Op) (reply : Reply) → KindsLocal us b l → next_of l.plan ≡ Want op → Fits op reply → KindsLocal us (after_reply op reply) (reply_of l.program l.thread l.plan reply l.below)
  reply_local b l op reply fits e come =
      subst (λ p. KindsLocal us (after_reply op reply) (reply_of p l.thread l.plan reply l.below)) (sym fits.program)
      (reply_fits (kinds us) us (kinds_know us) accepted rows l.thread (λ m h op next steps. steps) b tt tt fits.res l.below l.plan op reply tt e tt come fits.plan fits.below)

  child_local : (l : Local) (r : ℕ) → l.program ≡ us → KindsLocal us anything (child_of l.program r)
  child_local l r program = subst (λ p. KindsLocal us anything (child_of p r)) (sym program) (child_fits (kinds us) us (kinds_know us) accepted rows r tt tt)

  stand : (first : Local) → KindsLocal us anything first → (l : Local) → CanStand java_code first l → Stands l
  stand first fits l at_first = (anything, fits, λ x. x)
  stand first fits l (by_silent from can e) = let s = stand first fits from can in (anything, silent_local s.0 from s.1 e, λ x. x)
  stand first fits l (by_reply from op reply can e goes come) = let s = stand first fits from can in (after_reply op reply, reply_local s.0 from op reply s.1 e come, goes_on_after op reply goes)
  stand first fits l (by_start from r p can e) = let s = stand first fits from can in (anything, child_local from r s.1.program, λ x. x)

  not_ended : (b : Preceding) (next : Next) → IsNextOf b next → (IsTheEnd b → ⊥) → next ≢ Ended
  not_ended anything next is goes = is.1
  not_ended (a_wait r) next is goes = λ e. let bad : ◌≡◌ {A = Next} (Want (Rewake r)) Ended = sym is ∙ e in cc
  not_ended the_end next is goes = absurd (goes tt)
  not_ended (a_text m) next is goes = is.1

  rewakes_after : (op : Op) (reply : Reply) (next : Next) → IsNextOf (after_reply op reply) next → IsRewake next → IsWait op × (reply ≡ Done)
  rewakes_after (Wait r) Done next is rewakes = (tt, refl)
  rewakes_after (End x) Done next is rewakes = absurd (subst IsRewake is rewakes)
  rewakes_after op reply next is rewakes = absurd (is.0 rewakes)

  pub orderly : (first : Local) (classes : ℕ) → KindsLocal us anything first → length (classes_of us) < classes → IsOrderly java_code first classes
  orderly first classes fits below = record {
    waits = λ l r can e. let s = stand first fits l can in next_of_local (a_wait r) (reply_of l.program l.thread l.plan Done l.below) (reply_local s.0 l (Wait r) Done s.1 e tt);
    first_goes = (next_of_local anything first fits).0;
    silent_goes = λ l can e. let s = stand first fits l can in (next_of_local anything (silent_of l.program l.thread l.plan l.below) (silent_local s.0 l s.1 e)).0;
    reply_goes = λ l op reply can e come rewakes.
        let s = stand first fits l can in
        rewakes_after op reply (next_of (reply_of l.program l.thread l.plan reply l.below).plan) (next_of_local (after_reply op reply) (reply_of l.program l.thread l.plan reply l.below) (reply_local s.0 l op reply s.1 e come)) rewakes;
    child_goes = λ l r p can e. let s = stand first fits l can in (next_of_local anything (child_of l.program r) (child_local l r s.1.program)).0;
    ends = λ l can. let s = stand first fits l can in not_ended s.0 (next_of l.plan) (next_of_local s.0 l s.1) s.2;
    inits = λ l c can e. let s = stand first fits l can in file_below c (may l (Init c) s e);
    settles = λ l c ok can e. let s = stand first fits l can in file_below c (may l (InitDone c ok) s e);
    small = λ l c n can e within. let s = stand first fits l can in omega (arith, subst (λ p. object_words (program_names p) c n ≤ 2 ^ 32) (sym s.1.program) (few c n (may l (New c n) s e)));
    children = λ l r can. let s = stand first fits l can in ap (λ p. child_of p r) (s.1.program ∙ sym fits.program);
  }
    where
      may : (l : Local) (op : Op) → Stands l → next_of l.plan ≡ Want op → KindsWant us op
      may l op s e = (wants_fit (kinds us) us (kinds_know us) accepted rows l.thread (λ m h op next steps. steps) s.0 tt s.1.res l.plan op e s.1.plan).1

      file_below : (c : ℕ) → is_of_file us c ≡ true → c < classes
      file_below c file = omega (arith, below, leb-true c (length (classes_of us)) (and_parts _ _ file).1)
