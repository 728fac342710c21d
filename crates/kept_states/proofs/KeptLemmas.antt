-- What is closed under the steps of a code is kept along a list in which undoing is seen.
use Rattle.std.proofs.Common.{◌≡◌, inl, inr, ℕ, zero, suc, ◌+◌, ◌<◌, ◌≤◌, true, false, List, [], ◌∷◌, length, Option, Some, None, refl, sym, ap, subst, arith}
use Rattle.std.specs.Prelude.{IsNone, is_some}
use Rattle.std.proofs.lemmas.Bool.Decides.{leb_tells}
use Rattle.std.proofs.lemmas.Option.{same_Some}
use Rattle.std.specs.Option.{option_and_then}
use Rattle.op_core.specs.declared.Op.{Op}
use Rattle.op_core.specs.declared.Op.TheVariants.{ClassOf, Read, Write, New, Start, End}
use Rattle.op_core.specs.declared.Reply.{Reply}
use Rattle.op_core.specs.declared.Reply.TheVariants.{Class, Value, Made, Done, Number}
use Rattle.op_core.specs.declared.Next.{Next}
use Rattle.op_core.specs.declared.Next.TheVariants.{Silent, Want, Ended}
use Rattle.op_core.specs.ThreadCode.{Code, quiet_to, quiet_step, quiet_steps}
use Rattle.op_core.specs.OrdinaryState.{set_at, Object, Thread, live, ended, OrdinaryState, OnlyObjectsHaveWords}
use Rattle.op_core.specs.OrdinaryStep.{MayAnswer, IsStep, after, objects_after, words_after, threads_after}
use Rattle.op_core.specs.InPlaceList.{Entry, silent, event, put_back, give_back, go_back, unseen, FitsAt, FitFrom, IsInPlaceList}
use Rattle.op_core.proofs.PointwiseLemmas.{set_at-at, set_at-hit, set_at-both}
use Rattle.op_core.proofs.QuietLemmas.{quiet_step-silent}
use Rattle.op_core.specs.declared.Event.{Event}
use Rattle.op_core.specs.Execution.{Leads}
use Rattle.op_core.proofs.ExecutionLemmas.{answers_fit}
use Rattle.kept_states.specs.Kept.{Objects, Extends, IsObject, IsTrueReply, Keeps, IsKeptState}

-- what objects there are only grows along a list
objects_after-grow : {S : Type 0} (code : Code S) (s : OrdinaryState S) (t : ℕ) (l : S) (op : Op) (reply : Reply) → MayAnswer s t op reply → (r : ℕ) (o : Object) → s.objects r ≡ Some o → objects_after code l op reply s r ≡ Some o
objects_after-grow code s t l (New c n) (Made q) answered r o h =
    let made : Option Object = Some (record { class = c; length = n; words = code.words l c n }) in
    set_at-at (λ x. x ≡ Some o) s.objects q made r
    (λ e. let gone : is_some (s.objects r) ≡ false = subst (λ x. IsNone (s.objects x)) (sym e) answered.2 in
    let there : is_some (s.objects r) ≡ true = ap is_some h in cc)
    (λ _. h)
objects_after-grow code s t l _ _ answered r o h = h

-- a state that makes a silent step is silent
quiet_step-next : {S : Type 0} (code : Code S) (l m : S) → quiet_step code l ≡ Some m → code.next l ≡ Silent
quiet_step-next {S} code l m h = behind (code.next l) h
  where
    behind : (next : Next) → quiet_to code (code.silent l) next ≡ Some m → next ≡ Silent
    behind Silent is = refl
    behind (Want op) is = cc
    behind Ended is = cc

module _ (S : Type 0) (code : Code S) (P : Objects → S → Type 0) (W : Objects → ℕ → ℕ → ℕ → Type 0) (O : ℕ → Object → Type 0) (keeps : Keeps code P W O) where
  -- ---- words

  -- a word of an object that is there by now
  stands_later : (s : OrdinaryState S) (h : Objects) (r i : ℕ) → IsKeptState P W O s → Extends s.objects h → W h r i (s.words r i)
  stands_later s h r i kept more = by_object (s.objects r) refl
    where
      by_object : (o : Option Object) → s.objects r ≡ o → W h r i (s.words r i)
      by_object (Some o) e = keeps.words_more s.objects h r i (s.words r i) o e more (kept.words r i)
      by_object None e = subst (λ v. W h r i v) (sym (kept.absent r i (ap is_some e))) (keeps.zero_stands h r i)

  word_set : (h : Objects) (f : ℕ → ℕ → ℕ) (r i v : ℕ) → ((q j : ℕ) → W h q j (f q j)) → W h r i v → (q j : ℕ) → W h q j (set_at f r (set_at (f r) i v) q j)
  word_set h f r i v all fits q j =
      set_at-at (λ (g : ℕ → ℕ). W h q j (g j)) f r (set_at (f r) i v) q
      (λ e. set_at-at (λ x. W h q j x) (f r) i v j (λ d. subst (λ y. W h y j v) (sym e) (subst (λ y. W h r y v) (sym d) fits)) (λ d. subst (λ y. W h q j (f y j)) e (all q j)))
      (λ e. all q j)

  true_reply : (s : OrdinaryState S) (t : ℕ) (l : S) (op : Op) (reply : Reply) → IsKeptState P W O s → P s.objects l → code.next l ≡ Want op → MayAnswer s t op reply → IsTrueReply O W (objects_after code l op reply s) op reply
  true_reply s t l (ClassOf r) (Class c n) kept own wanted answered = by_object (s.objects r) refl answered
    where
      by_object : (o : Option Object) → s.objects r ≡ o → Rattle.std.specs.Prelude.IsSomeAnd o (λ x. (x.class ≡ c) × (x.length ≡ n)) → IsObject O s.objects r c n
      by_object (Some o) e is = record { object = o; there = e; class = is.0; length = is.1; stands = kept.objects r o e }
      by_object None e is = absurd is
  true_reply s t l (Read r i) (Value v) kept own wanted answered = subst (λ x. W s.objects r i x) (sym answered) (kept.words r i)
  true_reply s t l (New c n) (Made r) kept own wanted answered = record {
    object = record { class = c; length = n; words = code.words l c n };
    there = set_at-hit s.objects r (Some (record { class = c; length = n; words = code.words l c n }));
    class = refl;
    length = refl;
    stands = keeps.makes s.objects l c n r own wanted answered.0 answered.1;
  }
  true_reply s t l op reply kept own wanted answered = answers_fit S s t op reply answered

  -- ---- threads

  abbrev AllStand : Objects → (ℕ → Thread S) → Type 0
  AllStand h threads = (t : ℕ) (l : S) → threads t ≡ live l → P h l

  set_stands : (h : Objects) (f : ℕ → Thread S) (t : ℕ) (m : S) → AllStand h f → P h m → AllStand h (set_at f t (live m))
  set_stands h f t m stand own u l = set_at-at (λ x. x ≡ live l → P h l) f t (live m) u (λ _ e. let same : m ≡ l = cc in subst (P h) same own) (λ _ e. stand u l e)

  after_stand : (s : OrdinaryState S) (h : Objects) (t : ℕ) (l : S) (op : Op) (reply : Reply) → AllStand h s.threads → P s.objects l → code.next l ≡ Want op → Extends s.objects h → MayAnswer s t op reply → IsTrueReply O W h op reply
      → AllStand h (threads_after code t l op reply s)
  after_stand s h t l (End x) Done stand own wanted more answered is u m = set_at-at (λ y. y ≡ live m → P h m) s.threads t (ended x) u (λ _ e. cc) (λ _ e. stand u m e)
  after_stand s h t l (End x) reply stand own wanted more answered is u m = absurd answered
  after_stand s h t l (Start r p) (Number n) stand own wanted more answered is u m =
      set_stands h (set_at s.threads n (live (code.child l r))) t (code.reply l (Number n))
      (set_stands h s.threads n (code.child l r) stand (keeps.child h l r p (keeps.more s.objects h l more own) wanted))
      (keeps.reply s.objects h l (Start r p) (Number n) own wanted (λ x. x) more is) u m
  after_stand s h t l op reply stand own wanted more answered is u m =
      set_stands h s.threads t (code.reply l reply) stand (keeps.reply s.objects h l op reply own wanted (λ x. x) more is) u m

  -- ---- states

  objects_kept : (s : OrdinaryState S) (t : ℕ) (l : S) (op : Op) (reply : Reply) → IsKeptState P W O s → P s.objects l → code.next l ≡ Want op → MayAnswer s t op reply → (r : ℕ) (o : Object) → objects_after code l op reply s r ≡ Some o → O r o
  objects_kept s t l (New c n) (Made q) kept own wanted answered r o is =
      set_at-at (λ x. x ≡ Some o → O r o) s.objects q (Some (record { class = c; length = n; words = code.words l c n })) r
      (λ e same. subst (λ x. O r x) (same_Some _ o same) (subst (λ x. O x (record { class = c; length = n; words = code.words l c n })) (sym e) (keeps.makes s.objects l c n q own wanted answered.0 answered.1)))
      (λ e same. kept.objects r o same) is
  objects_kept s t l op reply kept own wanted answered r o e = kept.objects r o e

  words_kept : (s : OrdinaryState S) (t : ℕ) (l : S) (op : Op) (reply : Reply) → IsKeptState P W O s → P s.objects l → code.next l ≡ Want op → MayAnswer s t op reply → (r i : ℕ) → W (objects_after code l op reply s) r i (words_after op reply s r i)
  words_kept s t l (New c n) (Made q) kept own wanted answered r i =
      let h : Objects = objects_after code l (New c n) (Made q) s in
      set_at-at (λ (g : ℕ → ℕ). W h r i (g i)) s.words q (λ _. 0) r (λ e. keeps.zero_stands h r i) (λ e. stands_later s h r i kept (objects_after-grow code s t l (New c n) (Made q) answered))
  words_kept s t l (Write q j v) Done kept own wanted answered r i = word_set s.objects s.words q j v kept.words (keeps.writes s.objects l q j v own wanted) r i
  words_kept s t l op reply kept own wanted answered r i = kept.words r i

  absent_kept : (s : OrdinaryState S) (t : ℕ) (l : S) (op : Op) (reply : Reply) → Rattle.op_core.specs.OrdinaryStep.CanStep s t op → OnlyObjectsHaveWords s → MayAnswer s t op reply → (r i : ℕ) → IsNone (objects_after code l op reply s r) → words_after op reply s r i ≡ 0
  absent_kept s t l (New c n) (Made q) can absent answered r i none =
      set_at-both (λ (x : Option Object) (g : ℕ → ℕ). IsNone x → g i ≡ 0) s.objects s.words q (Some (record { class = c; length = n; words = code.words l c n })) (λ _. 0) r (λ e gone. refl) (λ e gone. absent r i gone) none
  absent_kept s t l (Write q j v) Done can absent answered r i none =
      set_at-at (λ (g : ℕ → ℕ). g i ≡ 0) s.words q (set_at (s.words q) j v) r
      (λ e. absurd (not_there (s.objects q) can (subst (λ x. IsNone (s.objects x)) e none)))
      (λ e. absent r i none)
    where
      not_there : (x : Option Object) → Rattle.std.specs.Prelude.IsSomeAnd x (λ o. j < o.words) → IsNone x → ⊥
      not_there None there none = there
      not_there (Some o) there none = cc
  absent_kept s t l op reply can absent answered r i none = absent r i none

  event_from : (s : OrdinaryState S) (t : ℕ) (l : S) (op : Op) (reply : Reply) → IsKeptState P W O s → P s.objects l → IsStep code s t l op reply → IsKeptState P W O (after code s t l op reply)
  event_from s t l op reply kept own step =
      let h : Objects = objects_after code l op reply s in
      let more : Extends s.objects h = objects_after-grow code s t l op reply step.answered in
      record {
        objects = objects_kept s t l op reply kept own step.wanted step.answered;
        words = words_kept s t l op reply kept own step.wanted step.answered;
        absent = absent_kept s t l op reply step.can kept.absent step.answered;
        threads = after_stand s h t l op reply (λ u m e. keeps.more s.objects h m more (kept.threads u m e)) own step.wanted more step.answered (true_reply s t l op reply kept own step.wanted step.answered);
      }

  event_kept : (s : OrdinaryState S) (t : ℕ) (l : S) (op : Op) (reply : Reply) → IsKeptState P W O s → s.threads t ≡ live l → IsStep code s t l op reply → IsKeptState P W O (after code s t l op reply)
  event_kept s t l op reply kept stands step = event_from s t l op reply kept (kept.threads t l stands) step

  -- ---- executions

  pub quiet_kept : (h : Objects) (n : ℕ) (l m : S) → P h l → quiet_steps code n l ≡ Some m → P h m
  quiet_kept h zero l m own e = subst (P h) (same_Some l m e) own
  quiet_kept h (suc n) l m own e = by_last (λ k same. quiet_kept h n l k own same) (quiet_steps code n l) refl e
    where
      by_last : ((k : S) → quiet_steps code n l ≡ Some k → P h k) → (o : Option S) → quiet_steps code n l ≡ o → option_and_then (quiet_step code) o ≡ Some m → P h m
      by_last before (Some k) same e = subst (P h) (quiet_step-silent code k m e) (keeps.silent h k (before k same) (quiet_step-next code k m e))
      by_last before None same e = cc

  pub executions_keep : (s : OrdinaryState S) (es : List Event) (last : OrdinaryState S) → IsKeptState P W O s → Leads code s es last → IsKeptState P W O last
  executions_keep s [] last kept e = subst (λ x. IsKeptState P W O x) e kept
  executions_keep s (e ∷ es) last kept (l, comes, leads) =
      executions_keep (after code s e.thread l e.op e.reply) es last (event_from s e.thread l e.op e.reply kept (quiet_kept s.objects e.silent comes.from l (kept.threads e.thread comes.from comes.begun) comes.quiet) comes.step) leads

  -- ---- entries

  -- the states so far are kept, and objects grow from each to the last one
  record Before (s : ℕ → OrdinaryState S) (k : ℕ) : Type 0 where
    all : (p : ℕ) → p ≤ k → IsKeptState P W O (s p)
    grow : (p : ℕ) → p ≤ k → Extends (s p).objects (s k).objects

  put_kept : (s past : OrdinaryState S) (r i : ℕ) → IsKeptState P W O s → IsKeptState P W O past → Extends past.objects s.objects → IsKeptState P W O (Rattle.op_core.specs.InPlaceList.with_word s r i (past.words r i))
  put_kept s past r i kept was more = record {
    objects = kept.objects;
    words = word_set s.objects s.words r i (past.words r i) kept.words (stands_later past s.objects r i was more);
    absent = λ q j none. set_at-at (λ (g : ℕ → ℕ). g j ≡ 0) s.words r (set_at (s.words r) i (past.words r i)) q
        (λ e. set_at-at (λ x. x ≡ 0) (s.words r) i (past.words r i) j (λ d. was.absent r i (none_before (subst (λ x. IsNone (s.objects x)) e none))) (λ d. kept.absent r j (subst (λ x. IsNone (s.objects x)) e none)))
        (λ e. kept.absent q j none);
    threads = kept.threads;
  }
    where
      none_before : IsNone (s.objects r) → IsNone (past.objects r)
      none_before none = by_object (past.objects r) refl
        where
          by_object : (o : Option Object) → past.objects r ≡ o → IsNone o
          by_object None e = refl
          by_object (Some o) e = let there : is_some (s.objects r) ≡ true = ap is_some (more r o e) in cc

  entry_kept : (s : ℕ → OrdinaryState S) (k : ℕ) (e : Entry) → Before s k → FitsAt code s k e → IsKeptState P W O (s (suc k)) × Extends (s k).objects (s (suc k)).objects
  entry_kept s k (silent t) before fits =
      let now : IsKeptState P W O (s k) = before.all k (omega arith) in
      let own : P (s k).objects fits.next = subst (P (s k).objects) (quiet_step-silent code fits.from fits.next fits.quiet) (keeps.silent (s k).objects fits.from (now.threads t fits.from fits.stands) (quiet_step-next code fits.from fits.next fits.quiet)) in
      subst (λ x. IsKeptState P W O x × Extends (s k).objects x.objects) (sym fits.leads)
      (record { objects = now.objects; words = now.words; absent = now.absent; threads = set_stands (s k).objects (s k).threads t fits.next now.threads own }, λ r o e. e)
  entry_kept s k (event t op reply) before fits =
      let now : IsKeptState P W O (s k) = before.all k (omega arith) in
      subst (λ x. IsKeptState P W O x × Extends (s k).objects x.objects) (sym fits.leads)
      (event_kept (s k) t fits.at_op op reply now fits.stands fits.step, objects_after-grow code (s k) t fits.at_op op reply fits.step.answered)
  entry_kept s k (put_back r i v) before fits =
      let now : IsKeptState P W O (s k) = before.all k (omega arith) in
      subst (λ x. IsKeptState P W O x × Extends (s k).objects x.objects) (sym fits.leads)
      (subst (λ w. IsKeptState P W O (Rattle.op_core.specs.InPlaceList.with_word (s k) r i w)) fits.was (put_kept (s k) (s fits.place) r i now (before.all fits.place fits.earlier) (before.grow fits.place fits.earlier)), λ q o e. e)
  entry_kept s k (give_back t r count) before fits =
      let now : IsKeptState P W O (s k) = before.all k (omega arith) in
      subst (λ x. IsKeptState P W O x × Extends (s k).objects x.objects) (sym fits) (record { objects = now.objects; words = now.words; absent = now.absent; threads = now.threads }, λ q o e. e)
  entry_kept s k (go_back t p) before fits =
      let now : IsKeptState P W O (s k) = before.all k (omega arith) in
      let own : P (s k).objects fits.past = keeps.more (s p).objects (s k).objects fits.past (before.grow p fits.earlier) ((before.all p fits.earlier).threads t fits.past fits.was) in
      subst (λ x. IsKeptState P W O x × Extends (s k).objects x.objects) (sym fits.leads)
      (record { objects = now.objects; words = now.words; absent = now.absent; threads = set_stands (s k).objects (s k).threads t fits.past now.threads own }, λ q o e. e)
  entry_kept s k unseen before fits = subst (λ x. IsKeptState P W O x × Extends (s k).objects x.objects) (sym fits) (before.all k (omega arith), λ q o e. e)

  along : (s : ℕ → OrdinaryState S) (k n : ℕ) (es : List Entry) → k + length es ≡ n → Before s k → FitFrom code s k es → IsKeptState P W O (s n)
  along s k n [] here before fit = before.all n (omega (arith, here))
  along s k n (e ∷ es) here before (first, fit) =
      let next = entry_kept s k e before first in
      along s (suc k) n es (omega (arith, here)) (record {
        all = λ p within. elim (leb_tells p k) [ inl h ↦ before.all p h.1 | inr h ↦ let is : suc k ≡ p = omega (arith, within, h.1) in subst (λ x. IsKeptState P W O (s x)) is next.0 ];
        grow = λ p within. elim (leb_tells p k) [
          | inl h ↦ λ r o x. next.1 r o (before.grow p h.1 r o x)
          | inr h ↦ let is : suc k ≡ p = omega (arith, within, h.1) in subst (λ x. Extends (s x).objects (s (suc k)).objects) is (λ r o x. x)
        ];
      }) fit

  pub lists_keep : (s : ℕ → OrdinaryState S) (es : List Entry) → IsKeptState P W O (s 0) → IsInPlaceList code s es → IsKeptState P W O (s (length es))
  lists_keep s es start fit =
      along s 0 (length es) es (omega arith) (record {
        all = λ p within. let is : 0 ≡ p = omega (arith, within) in subst (λ x. IsKeptState P W O (s x)) is start;
        grow = λ p within. let is : 0 ≡ p = omega (arith, within) in subst (λ x. Extends (s x).objects (s 0).objects) is (λ r o x. x);
      }) fit
