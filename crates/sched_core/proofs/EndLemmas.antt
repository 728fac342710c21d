-- How threads have ended, listed one number after another.
use Rattle.std.proofs.Common.{◌≡◌, inl, inr, ℕ, ◌+◌, ◌<◌, ◌≤◌, Bool, true, Option, None, Some, List, [], ◌∷◌, ◌++◌, map, is_some, All, refl, sym, ◌∙◌, ap, subst}
use Rattle.std.proofs.lemmas.Bool.{cases_lt}
use Rattle.std.proofs.lemmas.List.{map-append}
use Rattle.std.proofs.lemmas.List.Elements.{All-append, All-cons, All-nil}
use Rattle.op_core.specs.declared.Next.{Next}
use Rattle.op_core.specs.declared.Next.TheVariants.{Want}
use Rattle.op_core.specs.declared.Op.TheVariants.{End}
use Rattle.op_core.specs.declared.ThreadEnd.{ThreadEnd}
use Rattle.op_core.specs.ThreadCode.{Code}
use Rattle.schedules.specs.Laws.{AreThoseBelow}
use Rattle.thread_automaton.specs.ThreadState.{ThreadState}
use Rattle.core_runs.specs.Cores.{Core}
use Rattle.word_runs.specs.WordTurns.{EndedBy}
use Rattle.sched_core.specs.Ends.{end_by, end_at}
use Rattle.sched_core.specs.Outcome.{AreEnds}
use Rattle.sched_core.proofs.ListLemmas.{none_listed, one_more_listed, no_more_listed, all_listed}

-- what is said of the end of a thread is how it ended
pub record EndsSo {S : Type 0} (code : Code S) (th : Option (ThreadState S)) (t : ℕ) (said : ThreadEnd) : Type 0 where
  pub thread : said.thread ≡ t
  pub ended : EndedBy code said.class th

end_said : {S : Type 0} (code : Code S) (t : ℕ) (th : ThreadState S) (next : Next) (over : Bool) (said : ThreadEnd) → code.next th.local ≡ next → th.over ≡ over → end_by t next over ≡ Some said → EndsSo code (Some th) t said
end_said code t th (Want (End x)) true said wants is says =
    let same : said ≡ record { thread = t; class = x } = cc in
    record { thread = ap (λ (e : ThreadEnd). e.thread) same; ended = (is, wants ∙ ap (λ c. Want (End c)) (sym (ap (λ (e : ThreadEnd). e.class) same))) }
end_said code t th next over said wants is says = absurd (cc)

pub ends_so : {S : Type 0} (code : Code S) (t : ℕ) (th : Option (ThreadState S)) (said : ThreadEnd) → end_at code t th ≡ Some said → EndsSo code th t said
ends_so code t None said says = absurd (cc)
ends_so code t (Some th) said says = end_said code t th (code.next th.local) th.over said refl refl says

pub unsaid : {S : Type 0} (code : Code S) (t : ℕ) (th : Option (ThreadState S)) (x : Option ℕ) → end_at code t th ≡ None → EndedBy code x th → ⊥
unsaid code t None x says ended = ended
unsaid code t (Some th) x says ended =
    let said : end_by t (code.next th.local) th.over ≡ Some (record { thread = t; class = x }) = ap (λ next. end_by t next th.over) ended.1 ∙ ap (end_by t (Want (End x))) ended.0 in
    absurd (cc)

abbrev numbers_of : List ThreadEnd → List ℕ
numbers_of ends = map (λ end. end.thread) ends

module _ {S : Type 0} (code : Code S) (threads : ℕ → Option (ThreadState S)) where
  abbrev pub HasEnded : ℕ → Type 0
  HasEnded t = (x : Option ℕ) × EndedBy code x (threads t)

  abbrev pub IsEnd : ThreadEnd → Type 0
  IsEnd said = EndedBy code said.class (threads said.thread)

  -- the ends of the threads below a number
  pub record AreEndsBelow (n : ℕ) (ends : List ThreadEnd) : Type 0 where
    pub numbers : AreThoseBelow HasEnded n (numbers_of ends)
    pub classes : All IsEnd ends

  pub no_ends : AreEndsBelow 0 []
  no_ends = record { numbers = none_listed HasEnded; classes = All-nil IsEnd }

  pub one_more_end : (n : ℕ) (ends : List ThreadEnd) (said : ThreadEnd) → AreEndsBelow n ends → EndsSo code (threads n) n said → AreEndsBelow (n + 1) (ends ++ said ∷ [])
  one_more_end n ends said those so = record {
    numbers = subst (AreThoseBelow HasEnded (n + 1)) (ap (λ k. numbers_of ends ++ k ∷ []) (sym so.thread) ∙ sym (map-append (λ e. e.thread) ends (said ∷ [])))
        (one_more_listed HasEnded n (numbers_of ends) those.numbers (said.class, so.ended));
    classes = All-append IsEnd ends (said ∷ []) those.classes (All-cons IsEnd said [] (subst (λ t. EndedBy code said.class (threads t)) (sym so.thread) so.ended) (All-nil IsEnd));
  }

  pub no_more_ends : (n : ℕ) (ends : List ThreadEnd) → AreEndsBelow n ends → (HasEnded n → ⊥) → AreEndsBelow (n + 1) ends
  no_more_ends n ends those never = record { numbers = no_more_listed HasEnded n (numbers_of ends) those.numbers never; classes = those.classes }

  -- no thread has ended of a number from which on there is none
  pub ended_within : (n : ℕ) → ((k : ℕ) → n ≤ k → threads k ≡ None) → (t : ℕ) → HasEnded t → t < n
  ended_within n above t over = elim (cases_lt t n) [
    | inl below ↦ below
    | inr past ↦ absurd (subst (EndedBy code over.0) (above t past) over.1)
  ]

  pub all_ended : (n : ℕ) (ends : List ThreadEnd) → AreEndsBelow n ends → ((k : ℕ) → n ≤ k → threads k ≡ None) → (c : Core S) → c.threads ≡ threads → AreEnds code c ends
  all_ended n ends those above c same = subst (λ f. AreEnds code (record c { threads = f }) ends) (sym same)
      (record { threads = all_listed HasEnded n (numbers_of ends) those.numbers (ended_within n above); classes = those.classes })

pub has_class : (class : Option ℕ) → is_some class ≡ true → (x : ℕ) × (class ≡ Some x)
has_class None is = absurd (cc)
has_class (Some x) is = (x, refl)

pub none_left : {A : Type 0} (o : Option A) → ((x : A) → o ≡ Some x → ⊥) → o ≡ None
none_left None none = refl
none_left (Some x) none = absurd (none x refl)
