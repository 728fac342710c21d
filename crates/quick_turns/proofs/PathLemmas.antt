-- The attempts of a host, from their beginning to the answer.
use Rattle.std.proofs.Common.{◌≡◌, inl, inr, ℕ, ◌+◌, ◌-◌, ◌<◌, ◌≤◌, ◌^◌, ◌&&◌, ◌||◌, Bool, true, false, List, [], refl, sym, ◌∙◌, ap, subst, arith}
use Rattle.std.specs.Prelude.{nat_eq, nat_le, if◌then◌else◌, MatchBool}
use Rattle.std.proofs.lemmas.Bool.Decides.{nat_tests}
use Rattle.std.proofs.lemmas.Grind.{common_steps}
use Rattle.op_core.specs.declared.Op.{Op}
use Rattle.op_core.specs.declared.Op.TheVariants.{ClassOf, Read, Write, Init}
use Rattle.op_core.specs.declared.Reply.{Reply}
use Rattle.op_core.specs.declared.Reply.TheVariants.{Class, Value, Ready}
use Rattle.op_core.specs.declared.Next.TheVariants.{Want}
use Rattle.op_core.specs.ThreadCode.{Code}
use Rattle.heap_words.specs.declared.areas.Area.{Area}
use Rattle.heap_words.specs.declared.areas.Area.TheVariants.{Section, Object}
use Rattle.heap_words.specs.Words.{tag_of, tag_section, tag_level, value_of, header_class, header_length}
use Rattle.section_state.specs.declared.State.TheVariants.{Revoking}
use Rattle.monitor_core.specs.Contention.{is_in}
use Rattle.step_port.specs.declared.answer.StepAnswer.{StepAnswer}
use Rattle.step_port.specs.declared.answer.StepAnswer.TheVariants.{Found}
use Rattle.step_port.specs.declared.step.Step.{Step}
use Rattle.step_port.specs.declared.step.Step.TheVariants.{LoadWord, SwapWord, LoadSection, LoadClass}
use Rattle.step_port.specs.declared.step.Effect.TheVariants.{Exchange}
use Rattle.step_port.specs.Words.{Words, IsStepOnWords, answer_to}
use Rattle.thread_automaton.specs.declared.Attempt.{Attempt}
use Rattle.thread_automaton.specs.declared.Attempt.TheVariants.{Begin, Checked, Fixed, Meets}
use Rattle.thread_automaton.specs.declared.Move.TheVariants.{Make}
use Rattle.thread_automaton.specs.NextMove.{word_place, first_step, move_of}
use Rattle.thread_automaton.specs.Changes as changes
use Rattle.thread_automaton.specs.Checks.{tag_seen}
use Rattle.word_runs.specs.Enabled.{has_to_wait_for}
use Rattle.thread_moves.specs.declared.thread.Own.{Own}
use Rattle.thread_moves.specs.Thread.{CanBeAsked}
use Rattle.turn_runs.specs.Turns.{StaysReady}
use Rattle.quick_turns.specs.Usual.{is_awaited_by_none, UsualTurns}
use Rattle.turn_runs.specs.Own.{thread_at}
use Rattle.turn_runs.specs.HostPlaces.{HostPlace, IsBetween}
use Rattle.quick_turns.specs.Place.{HostKeeps, HostLeads, HostLeadsAmid, HostAnswers, HostDeclines, HostMayAsk}
use Rattle.turn_runs.specs.Own.{is_safe_for, written_by, has_unseen_level, own_counted}
use Rattle.quick_turns.specs.Paths.{IsAsSeen, HasTurns, IsOfWord, IsInitialized, looked, probed_at, LooksAtOwnSection, KnowsWriter, own_knowing, LooksAtWriter, ReachesWord, HasWritten}
use Rattle.quick_turns.proofs.LeadLemmas.{keeps_on, goes_on, stays_here}
use Rattle.turn_runs.proofs.HostLemmas.{moves_so}
use Rattle.quick_turns.proofs.StepLemmas.{NoneWaits, first_moves, word_first, none_waits, word_found, own_goes, unsafe_goes, writer_goes, read_goes, safe_goes, write_goes, header_goes, class_found, init_goes, init_waits}

module _ {S P : Type 0} (code : Code S) (stepped : P → Step → StepAnswer → P → Type 0) (words : P → Words)
    (on_words : (x : P) (step : Step) (a : StepAnswer) (y : P) → stepped x step a y → IsStepOnWords (words x) step a (words y)) where
  -- ---- the look at the own section

  pub look_goes : (saves : List S) (op : Op) (l : S) (h k : HostPlace P) → LooksAtOwnSection stepped h k → code.next l ≡ Want op → IsBetween h.own
      → h.own.counted < h.own.bounds.limits.turns → 1 ≤ h.left → IsAsSeen (words h.port) h.own → has_to_wait_for (words h.port) (thread_at h.own Begin l saves) (Want op) ≡ false
      → HostLeads code stepped words saves Begin l h (looked k.own) l k
  look_goes saves op l h k looks wants is below some seen waits = by_test (has_unseen_level h.own) refl looks
    where
      by_test : (t : Bool) → has_unseen_level h.own ≡ t
          → MatchBool t ((w : ℕ) × (y : P) × stepped h.port (LoadSection h.own.section) (Found w) y × (k ≡ probed_at h 6 y)) (k ≡ h)
          → HostLeads code stepped words saves Begin l h (looked k.own) l k
      by_test true opened (w, y, made, to) =
          subst (λ k. HostLeads code stepped words saves Begin l h (looked k.own) l k) (sym to)
          (subst (λ c. HostLeads code stepped words saves Begin l h c l (probed_at h 6 y)) (sym (ap (λ t. if t then Checked else Begin) opened))
          (own_goes code stepped words on_words saves op l h w y wants is.lives below some opened seen made waits))
      by_test false none to =
          subst (λ k. HostLeads code stepped words saves Begin l h (looked k.own) l k) (sym to)
          (subst (λ c. HostLeads code stepped words saves Begin l h c l h) (sym (ap (λ t. if t then Checked else Begin) none)) (stays_here code stepped words on_words saves Begin l h))

  pub record Looked (h k : HostPlace P) : Type 0 where
    pub same_words : words k.port ≡ words h.port
    pub own : k.own ≡ record h.own { last_kind = k.own.last_kind }
    pub left : h.left ≤ k.left + 1

  pub look_keeps : (h k : HostPlace P) → LooksAtOwnSection stepped h k → Looked h k
  look_keeps h k looks = by_test (has_unseen_level h.own) looks
    where
      more : (left : ℕ) → left ≤ (left - 1) + 1
      more left = omega arith

      none_less : (left : ℕ) → left ≤ left + 1
      none_less left = omega arith

      by_test : (t : Bool) → MatchBool t ((w : ℕ) × (y : P) × stepped h.port (LoadSection h.own.section) (Found w) y × (k ≡ probed_at h 6 y)) (k ≡ h) → Looked h k
      by_test true (w, y, made, to) = subst (Looked h) (sym to) (record {
        same_words = (on_words h.port (LoadSection h.own.section) (Found w) y made).leaves;
        own = refl;
        left = more h.left;
      })
      by_test false to = subst (Looked h) (sym to) (record { same_words = refl; own = refl; left = none_less h.left })

  -- ---- what the port allows

  module _ (allows : P → Step → Type 0) where
    pub allowed_after : (h k : HostPlace P) (op : Op) (c : Attempt) (step : Step) (may : HostMayAsk code allows stepped h op) → HostLeads code stepped words may.saves Begin may.local h c may.local k
        → k.own.counted < k.own.bounds.limits.turns → move_of code (thread_at k.own c may.local may.saves) (Want op) c ≡ Make step → allows k.port step
    allowed_after h k op c step may goes below moves =
        (may.ready goes.turns.moves (thread_at k.own c may.local may.saves) k.port goes.turns.turns).allowed step
        (moves_so code h.own.bounds k.own may.local may.saves op c step may.wants (goes.keeps.lives ∙ may.between.lives)
        (subst (λ b. k.own.counted < b.limits.turns) goes.keeps.bounds below) moves)

    pub allowed_look : (h : HostPlace P) (op : Op) → HostMayAsk code allows stepped h op → HasTurns h → has_unseen_level h.own ≡ true → allows h.port (LoadSection h.own.section)
    allowed_look h op may turns opened =
        allowed_after h h op Begin (LoadSection h.own.section) may (stays_here code stepped words on_words may.saves Begin may.local h) turns.counted
        (ap (λ t. if t then Make (LoadSection h.own.section) else Make (first_step code (thread_at h.own Begin may.local may.saves) op)) opened)

    pub in_range : (h : HostPlace P) (op : Op) → HostMayAsk code allows stepped h op → (l : S) × CanBeAsked code l (Want op)
    in_range h op may = (
      may.local,
      subst (CanBeAsked code may.local) may.wants (may.ready [] (thread_at h.own Begin may.local may.saves) h.port (refl, refl)).range,
    )

    pub read_range : (h : HostPlace P) (r i : ℕ) → HostMayAsk code allows stepped h (Read r i) → r + 2 + i < 2 ^ 32
    read_range h r i may = (in_range h (Read r i) may).1

    pub write_range : (h : HostPlace P) (r i v : ℕ) → HostMayAsk code allows stepped h (Write r i v) → r + 2 + i < 2 ^ 32
    write_range h r i v may = (in_range h (Write r i v) may).1

  -- ---- up to the load of a safe word

  counted_on : (x y : Own) (kind : ℕ) → y ≡ record x { last_kind = kind } → x.counted < x.bounds.limits.turns → y.counted < y.bounds.limits.turns
  counted_on x y kind is below = subst (λ (own : Own). own.counted < own.bounds.limits.turns) (sym is) below

  more_left : (left rest n : ℕ) → 5 ≤ left → left ≤ rest + 1 → n ≤ 4 → n ≤ rest
  more_left left rest n some less few = omega (arith, some, less, few)

  word_goes : (at : ℕ) (h k : HostPlace P) → HasTurns h → IsBetween h.own → IsAsSeen (words h.port) h.own → NoneWaits (words h.port) h.own at → LooksAtOwnSection stepped h k
      → (op : Op) → IsOfWord op at → HostLeadsAmid code stepped words op Begin h (looked k.own) k
  word_goes at h k turns is seen none looks op of = λ l saves wants.
      look_goes saves op l h k looks wants is turns.counted (let left = turns.left in omega (arith, left)) seen (none_waits (words h.port) h.own l saves Begin op at of none)

  pub reaches_safe : (at : ℕ) (h k : HostPlace P) → HasTurns h → IsBetween h.own → IsAsSeen (words h.port) h.own → is_safe_for h.own (words h.port (Object at)) ≡ true
      → LooksAtOwnSection stepped h k → ReachesWord code stepped words at h k
  reaches_safe at h k turns is seen safe looks =
      let kept = look_keeps h k looks in
      record {
        attempt = looked k.own;
        loads = inl refl;
        goes = λ op of. word_goes at h k turns is seen (inl safe) looks op of;
        safe = subst (λ (own : Own). is_safe_for own (words k.port (Object at)) ≡ true) (sym kept.own)
            (subst (λ (words : Words). is_safe_for h.own (words (Object at)) ≡ true) (sym kept.same_words) safe);
        same_words = kept.same_words;
        own = subst (λ (own : Own). own ≡ record h.own { known = own.known; known_depth = own.known_depth; last_kind = own.last_kind }) (sym kept.own) refl;
        left = more_left h.left k.left 2 turns.left kept.left (omega arith);
        counted = counted_on h.own k.own k.own.last_kind kept.own turns.counted;
      }

  knows_safe : (tag section level s depth : ℕ) (t u : Bool) → level ≤ depth → (t || u || (nat_eq s s && nat_le level depth)) ≡ true
  knows_safe tag section level s depth t u deep = grind (arith, common_steps, nat_tests)

  pub reaches_known : (at depth : ℕ) (h g k : HostPlace P) → HasTurns h → IsBetween h.own → IsAsSeen (words h.port) h.own → is_safe_for h.own (words h.port (Object at)) ≡ false
      → KnowsWriter (words h.port) (words h.port (Object at)) depth → LooksAtOwnSection stepped h g
      → LooksAtWriter stepped at (tag_section (tag_of (words h.port (Object at)))) depth g k → ReachesWord code stepped words at h k
  reaches_known at depth h g k turns is seen unsafe knows looks (w, u, y, z, loaded, looked_at, to) =
      subst (ReachesWord code stepped words at h) (sym to) (record {
        attempt = Checked;
        loads = inr refl;
        goes = λ op of l saves wants.
            goes_on code stepped words on_words saves Begin (looked g.own) Checked l l l h g reached
            (word_goes at h g turns is seen (inr knows.stays) looks op of l saves wants)
            (subst (λ s. HostLeads code stepped words saves (looked g.own) l g Checked l (record { own = own_knowing g.own s depth; port = z; left = g.left - 2 })) (ap (λ w. tag_section (tag_of w)) found)
            (writer_goes code stepped words on_words saves op l g (looked g.own) at depth w u y z of wants (ap (λ (own : Own). own.over) kept.own ∙ is.lives) below
            (more_left h.left g.left 2 turns.left kept.left (omega arith)) (inl refl)
            (subst (λ (own : Own). is_safe_for own w ≡ false) (sym kept.own) (subst (λ w. is_safe_for h.own w ≡ false) (sym found) unsafe))
            (at_words (λ (words : Words) w. is_in Revoking (words (Section (tag_section (tag_of w)))) ≡ false) knows.stays)
            (at_words (λ (words : Words) w. tag_seen (tag_section (tag_of w)) (tag_level (tag_of w)) (words (Section (tag_section (tag_of w)))) ≡ changes.knows (tag_section (tag_of w)) depth) knows.seen)
            loaded (subst (λ w. stepped y (LoadSection (tag_section (tag_of w))) (Found u) z) (sym found) looked_at)));
        safe = subst (λ (words : Words). is_safe_for reached.own (words (Object at)) ≡ true) (sym all_words)
            (knows_safe (tag_of v) g.own.section (tag_level (tag_of v)) (tag_section (tag_of v)) depth
            (nat_eq (tag_of v) 0) (nat_eq (tag_section (tag_of v)) g.own.section) knows.deep);
        same_words = all_words;
        own = subst (λ (own : Own). own_knowing own (tag_section (tag_of v)) depth ≡ record h.own { known = tag_section (tag_of v); known_depth = depth; last_kind = 6 }) (sym kept.own) refl;
        left = two_more h.left g.left turns.left kept.left;
        counted = below;
      })
    where
      v : ℕ
      v = words h.port (Object at)

      reached : HostPlace P
      reached = record { own = own_knowing g.own (tag_section (tag_of v)) depth; port = z; left = g.left - 2 }

      kept : Looked h g
      kept = look_keeps h g looks

      below : g.own.counted < g.own.bounds.limits.turns
      below = counted_on h.own g.own g.own.last_kind kept.own turns.counted

      found : w ≡ v
      found = word_found code stepped words on_words g.port y at w loaded ∙ ap (λ (words : Words). words (Object at)) kept.same_words

      all_words : words z ≡ words h.port
      all_words = (on_words y (LoadSection (tag_section (tag_of v))) (Found u) z looked_at).leaves ∙ (on_words g.port (LoadWord at) (Found w) y loaded).leaves ∙ kept.same_words

      at_words : (Q : Words → ℕ → Type 0) → Q (words h.port) v → Q (words g.port) w
      at_words Q has = subst (λ w. Q (words g.port) w) (sym found) (subst (λ words. Q words v) (sym kept.same_words) has)

      two_more : (left rest : ℕ) → 5 ≤ left → left ≤ rest + 1 → 2 ≤ rest - 2
      two_more left rest some less = omega (arith, some, less)

  -- ---- answers

  still_between : (at : ℕ) (h k : HostPlace P) → IsBetween h.own → ReachesWord code stepped words at h k → IsBetween k.own
  still_between at h k is reaches = record {
    begins = ap (λ (own : Own). own.attempt) reaches.own ∙ is.begins;
    lives = ap (λ (own : Own). own.over) reaches.own ∙ is.lives;
    counts = subst (λ (own : Own). own.silents ≤ own.counted) (sym reaches.own) is.counts;
  }

  counted_between : (own : Own) (kind : ℕ) → IsBetween own → IsBetween (own_counted own kind)
  counted_between own kind is = record { begins = is.begins; lives = is.lives; counts = omega arith }

  pub read_answers : (r i w : ℕ) (h k : HostPlace P) (y : P) → IsBetween h.own → ReachesWord code stepped words (word_place r i) h k → stepped k.port (LoadWord (word_place r i)) (Found w) y
      → HostAnswers code stepped words h (Read r i) (Value (value_of w)) (record { own = own_counted k.own 1; port = y; left = k.left - 1 })
  read_answers r i w h k y is reaches loaded =
      let still = still_between (word_place r i) h k is reaches in
      let found : words k.port (Object (word_place r i)) ≡ w = sym (word_found code stepped words on_words k.port y (word_place r i) w loaded) in
      record {
        between = counted_between k.own 1 still;
        goes = λ l saves wants.
            goes_on code stepped words on_words saves Begin reaches.attempt Begin l l (code.reply l (Value (value_of w))) h k (record { own = own_counted k.own 1; port = y; left = k.left - 1 })
            (reaches.goes (Read r i) refl l saves wants)
            (read_goes code stepped words on_words saves (Read r i) l k reaches.attempt r i w y refl wants still.lives reaches.counted (let left = reaches.left in omega (arith, left)) reaches.loads
            (subst (λ w. is_safe_for k.own w ≡ true) found reaches.safe) loaded);
      }

  pub write_answers : (r i v w : ℕ) (h k g : HostPlace P) (y : P) → IsBetween h.own → ReachesWord code stepped words (word_place r i) h k
      → is_awaited_by_none (words h.port) (words h.port (Object (word_place r i))) ≡ true → stepped k.port (LoadWord (word_place r i)) (Found w) y
      → stepped y (SwapWord (word_place r i) w (written_by k.own v)) StepAnswer.Done g.port → HasWritten (word_place r i) w k.own g.own → k.left ≡ g.left + 2
      → HostAnswers code stepped words h (Write r i v) Reply.Done g
  write_answers r i v w h k g y is reaches free loaded swapped written left =
      let still = still_between (word_place r i) h k is reaches in
      let found : words k.port (Object (word_place r i)) ≡ w = sym (word_found code stepped words on_words k.port y (word_place r i) w loaded) in
      record {
        between = subst IsBetween (sym written.own) (record { begins = still.begins; lives = still.lives; counts = omega arith });
        goes = λ l saves wants.
            goes_on code stepped words on_words saves Begin reaches.attempt Begin l l (code.reply l Reply.Done) h k g
            (reaches.goes (Write r i v) refl l saves wants)
            (write_goes code stepped words on_words saves (Write r i v) l k g reaches.attempt r i v w y refl wants still.lives reaches.counted reaches.left reaches.loads
            (subst (λ w. is_safe_for k.own w ≡ true) found reaches.safe)
            (subst (λ w. is_awaited_by_none (words k.port) w ≡ true) found (subst (λ (words : Words). is_awaited_by_none words (words (Object (word_place r i))) ≡ true) (sym reaches.same_words) free))
            loaded swapped written left);
      }

  pub header_answers : (r w : ℕ) (h k : HostPlace P) (y : P) → HasTurns h → IsBetween h.own → IsAsSeen (words h.port) h.own → LooksAtOwnSection stepped h k → stepped k.port (LoadWord r) (Found w) y
      → HostAnswers code stepped words h (ClassOf r) (Class (header_class w) (header_length w)) (record { own = own_counted k.own 1; port = y; left = k.left - 1 })
  header_answers r w h k y turns is seen looks loaded =
      let kept = look_keeps h k looks in
      let still : IsBetween k.own = subst IsBetween (sym kept.own) (record { begins = is.begins; lives = is.lives; counts = is.counts }) in
      record {
        between = counted_between k.own 1 still;
        goes = λ l saves wants.
            goes_on code stepped words on_words saves Begin (looked k.own) Begin l l (code.reply l (Class (header_class w) (header_length w))) h k
            (record { own = own_counted k.own 1; port = y; left = k.left - 1 })
            (look_goes saves (ClassOf r) l h k looks wants is turns.counted (let left = turns.left in omega (arith, left)) seen refl)
            (header_goes code stepped words on_words saves (ClassOf r) l k (looked k.own) r w y refl wants still.lives (counted_on h.own k.own k.own.last_kind kept.own turns.counted)
            (more_left h.left k.left 1 turns.left kept.left (omega arith)) (inl refl) loaded);
      }

  seen_on : (x y : Own) (kind w : ℕ) → y ≡ record x { last_kind = kind } → IsInitialized x w → IsInitialized y w
  seen_on x y kind w is ready = subst (λ (own : Own). IsInitialized own w) (sym is) ready

  init_looks : (d : ℕ) (h k : HostPlace P) → HasTurns h → IsBetween h.own → IsAsSeen (words h.port) h.own → IsInitialized h.own (words h.port (Area.Class d)) → LooksAtOwnSection stepped h k
      → HostLeadsAmid code stepped words (Init d) Begin h (looked k.own) k
  init_looks d h k turns is seen ready looks = λ l saves wants.
      look_goes saves (Init d) l h k looks wants is turns.counted (let left = turns.left in omega (arith, left)) seen (init_waits h.own (words h.port (Area.Class d)) ready)

  pub init_answers : (d w : ℕ) (h k : HostPlace P) (y : P) → HasTurns h → IsBetween h.own → IsAsSeen (words h.port) h.own → IsInitialized h.own (words h.port (Area.Class d)) → LooksAtOwnSection stepped h k
      → stepped k.port (LoadClass d) (Found w) y → HostAnswers code stepped words h (Init d) Ready (record { own = own_counted k.own 25; port = y; left = k.left - 1 })
  init_answers d w h k y turns is seen ready looks loaded =
      let kept = look_keeps h k looks in
      let still : IsBetween k.own = subst IsBetween (sym kept.own) (record { begins = is.begins; lives = is.lives; counts = is.counts }) in
      let found : w ≡ words h.port (Area.Class d) = class_found code stepped words on_words k.port y d w loaded ∙ ap (λ (words : Words). words (Area.Class d)) kept.same_words in
      record {
        between = counted_between k.own 25 still;
        goes = λ l saves wants.
            goes_on code stepped words on_words saves Begin (looked k.own) Begin l l (code.reply l Ready) h k (record { own = own_counted k.own 25; port = y; left = k.left - 1 })
            (init_looks d h k turns is seen ready looks l saves wants)
            (init_goes code stepped words on_words saves (Init d) l k (looked k.own) d w y refl wants still.lives (counted_on h.own k.own k.own.last_kind kept.own turns.counted)
            (more_left h.left k.left 1 turns.left kept.left (omega arith)) (inl refl)
            (seen_on h.own k.own k.own.last_kind w kept.own (subst (IsInitialized h.own) (sym found) ready)) loaded);
      }

  -- ---- what the port allows on the way

  module _ (allows : P → Step → Type 0) where
    pub allowed_word : (h k : HostPlace P) (op : Op) (at : ℕ) → IsOfWord op at → HostMayAsk code allows stepped h op → HasTurns h → IsAsSeen (words h.port) h.own → NoneWaits (words h.port) h.own at
        → LooksAtOwnSection stepped h k → allows k.port (LoadWord at)
    allowed_word h k op at of may turns seen none looks =
        allowed_after allows h k op (looked k.own) (LoadWord at) may (word_goes at h k turns may.between seen none looks op of may.local may.saves may.wants)
        (counted_on h.own k.own k.own.last_kind (look_keeps h k looks).own turns.counted)
        (first_moves code k.own may.local may.saves op (looked k.own) (LoadWord at) (word_first code (thread_at k.own (looked k.own) may.local may.saves) op at of) (inl refl))

    pub allowed_header : (h k : HostPlace P) (r : ℕ) → HostMayAsk code allows stepped h (ClassOf r) → HasTurns h → IsAsSeen (words h.port) h.own → LooksAtOwnSection stepped h k → allows k.port (LoadWord r)
    allowed_header h k r may turns seen looks =
        allowed_after allows h k (ClassOf r) (looked k.own) (LoadWord r) may
        (look_goes may.saves (ClassOf r) may.local h k looks may.wants may.between turns.counted (let left = turns.left in omega (arith, left)) seen refl)
        (counted_on h.own k.own k.own.last_kind (look_keeps h k looks).own turns.counted)
        (first_moves code k.own may.local may.saves (ClassOf r) (looked k.own) (LoadWord r) refl (inl refl))

    pub allowed_class : (h k : HostPlace P) (d : ℕ) → HostMayAsk code allows stepped h (Init d) → HasTurns h → IsAsSeen (words h.port) h.own → IsInitialized h.own (words h.port (Area.Class d))
        → LooksAtOwnSection stepped h k → allows k.port (LoadClass d)
    allowed_class h k d may turns seen ready looks =
        allowed_after allows h k (Init d) (looked k.own) (LoadClass d) may (init_looks d h k turns may.between seen ready looks may.local may.saves may.wants)
        (counted_on h.own k.own k.own.last_kind (look_keeps h k looks).own turns.counted)
        (first_moves code k.own may.local may.saves (Init d) (looked k.own) (LoadClass d) refl (inl refl))

    pub allowed_reached : (h k : HostPlace P) (op : Op) (at : ℕ) → IsOfWord op at → HostMayAsk code allows stepped h op → ReachesWord code stepped words at h k → allows k.port (LoadWord at)
    allowed_reached h k op at of may reaches =
        allowed_after allows h k op reaches.attempt (LoadWord at) may (reaches.goes op of may.local may.saves may.wants) reaches.counted
        (first_moves code k.own may.local may.saves op reaches.attempt (LoadWord at) (word_first code (thread_at k.own reaches.attempt may.local may.saves) op at of) reaches.loads)

    pub allowed_writer : (h g : HostPlace P) (op : Op) (at depth w : ℕ) (y : P) → IsOfWord op at → HostMayAsk code allows stepped h op → HasTurns h → IsAsSeen (words h.port) h.own
        → is_safe_for h.own (words h.port (Object at)) ≡ false → KnowsWriter (words h.port) (words h.port (Object at)) depth → LooksAtOwnSection stepped h g → stepped g.port (LoadWord at) (Found w) y
        → allows y (LoadSection (tag_section (tag_of (words h.port (Object at)))))
    allowed_writer h g op at depth w y of may turns seen unsafe knows looks loaded =
        subst (λ w. allows y (LoadSection (tag_section (tag_of w)))) found
        (allowed_after allows h (probed_at g 1 y) op (Meets (tag_section (tag_of w)) (tag_level (tag_of w))) (LoadSection (tag_section (tag_of w))) may
        (goes_on code stepped words on_words may.saves Begin (looked g.own) (Meets (tag_section (tag_of w)) (tag_level (tag_of w))) may.local may.local may.local h g (probed_at g 1 y)
        (word_goes at h g turns may.between seen (inr knows.stays) looks op of may.local may.saves may.wants)
        (unsafe_goes code stepped words on_words may.saves op may.local g (looked g.own) at w y of may.wants (ap (λ (own : Own). own.over) kept.own ∙ may.between.lives) below
        (more_left h.left g.left 1 turns.left kept.left (omega arith)) (inl refl)
        (subst (λ (own : Own). is_safe_for own w ≡ false) (sym kept.own) (subst (λ w. is_safe_for h.own w ≡ false) (sym found) unsafe))
        (subst (λ w. is_in Revoking (words g.port (Section (tag_section (tag_of w)))) ≡ false) (sym found)
        (subst (λ (others : Words). is_in Revoking (others (Section (tag_section (tag_of (words h.port (Object at)))))) ≡ false) (sym kept.same_words) knows.stays)) loaded))
        below refl)
      where
        kept : Looked h g
        kept = look_keeps h g looks

        below : g.own.counted < g.own.bounds.limits.turns
        below = counted_on h.own g.own g.own.last_kind kept.own turns.counted

        found : w ≡ words h.port (Object at)
        found = word_found code stepped words on_words g.port y at w loaded ∙ ap (λ (words : Words). words (Object at)) kept.same_words

    pub allowed_swap : (h k : HostPlace P) (r i v w : ℕ) (y : P) → HostMayAsk code allows stepped h (Write r i v) → ReachesWord code stepped words (word_place r i) h k
        → stepped k.port (LoadWord (word_place r i)) (Found w) y → allows y (SwapWord (word_place r i) w (written_by k.own v))
    allowed_swap h k r i v w y may reaches loaded =
        allowed_after allows h (probed_at k 1 y) (Write r i v) (Fixed (SwapWord (word_place r i) w (written_by k.own v))) (SwapWord (word_place r i) w (written_by k.own v)) may
        (goes_on code stepped words on_words may.saves Begin reaches.attempt (Fixed (SwapWord (word_place r i) w (written_by k.own v))) may.local may.local may.local h k (probed_at k 1 y)
        (reaches.goes (Write r i v) refl may.local may.saves may.wants)
        (safe_goes code stepped words on_words may.saves (Write r i v) may.local k reaches.attempt r i v w y refl may.wants
        (still_between (word_place r i) h k may.between reaches).lives reaches.counted (let left = reaches.left in omega (arith, left)) reaches.loads
        (subst (λ w. is_safe_for k.own w ≡ true) (sym (word_found code stepped words on_words k.port y (word_place r i) w loaded)) reaches.safe) loaded))
        reaches.counted refl

    -- the exchange of the word that was loaded is made
    pub swap_made : (x y z : P) (at w new : ℕ) (a : StepAnswer) → stepped x (LoadWord at) (Found w) y → stepped y (SwapWord at w new) a z → a ≡ StepAnswer.Done
    swap_made x y z at w new a loaded swapped =
        (on_words y (SwapWord at w new) a z swapped).answers
        ∙ ap (λ found. answer_to (Exchange w new) found) (ap (λ (words : Words). words (Object at)) (on_words x (LoadWord at) (Found w) y loaded).leaves
        ∙ sym (word_found code stepped words on_words x y at w loaded))
        ∙ ap (λ t. if t then StepAnswer.Done else StepAnswer.Lost w) (same_is w)
      where
        same_is : (n : ℕ) → nat_eq n n ≡ true
        same_is n = grind (arith, common_steps, nat_tests)

  -- ---- room is made in the log before an attempt

  module _ (h g : HostPlace P) (same : HostDeclines h g) where
    same_thread : (a : Attempt) (l : S) (saves : List S) → thread_at g.own a l saves ≡ thread_at h.own a l saves
    same_thread a l saves =
        ap (λ own. thread_at own a l saves) same.own ∙ ap (λ noted. record (thread_at h.own a l saves) { log = noted }) same.log

    same_bounds : g.own.bounds ≡ h.own.bounds
    same_bounds = ap (λ (own : Own). own.bounds) same.own

    pub still_between_here : IsBetween h.own → IsBetween g.own
    still_between_here is = subst IsBetween (sym same.own) (record { begins = is.begins; lives = is.lives; counts = is.counts })

    pub may_still : (allows : P → Step → Type 0) (op : Op) → HostMayAsk code allows stepped h op → HostMayAsk code allows stepped g op
    may_still allows op may = record {
      local = may.local;
      saves = may.saves;
      wants = may.wants;
      between = still_between_here may.between;
      ready = subst (λ th. StaysReady code g.own.bounds allows stepped th g.port) (sym (same_thread Begin may.local may.saves))
          (subst (λ b. StaysReady code b allows stepped (thread_at h.own Begin may.local may.saves) g.port) (sym same_bounds)
          (subst (λ x. StaysReady code h.own.bounds allows stepped (thread_at h.own Begin may.local may.saves) x) (sym same.port) may.ready));
    }

    pub answers_still : (op : Op) (reply : Reply) (k : HostPlace P) → HostAnswers code stepped words g op reply k → HostAnswers code stepped words h op reply k
    answers_still op reply k answers = record { between = answers.between; goes = λ l saves wants. from_here l saves (answers.goes l saves wants) }
      where
        from_here : (l : S) (saves : List S) → HostLeads code stepped words saves Begin l g Begin (code.reply l reply) k → HostLeads code stepped words saves Begin l h Begin (code.reply l reply) k
        from_here l saves goes = record {
          number = goes.number;
          left = sym same.left ∙ goes.left;
          keeps = keeps_on h.own g.own k.own (subst (HostKeeps h.own) (sym same.own) (record { bounds = refl; opening = refl; attempt = refl; lives = refl })) goes.keeps;
          turns = subst (λ kind. UsualTurns code h.own.bounds stepped words (thread_at h.own Begin l saves) h.port kind goes.number (thread_at k.own Begin (code.reply l reply) saves) k.port k.own.last_kind)
              (ap (λ (own : Own). own.last_kind) same.own)
              (subst (λ x. UsualTurns code h.own.bounds stepped words (thread_at h.own Begin l saves) x g.own.last_kind goes.number (thread_at k.own Begin (code.reply l reply) saves) k.port k.own.last_kind)
              same.port
              (subst (λ th. UsualTurns code h.own.bounds stepped words th g.port g.own.last_kind goes.number (thread_at k.own Begin (code.reply l reply) saves) k.port k.own.last_kind)
              (same_thread Begin l saves)
              (subst (λ b. UsualTurns code b stepped words (thread_at g.own Begin l saves) g.port g.own.last_kind goes.number (thread_at k.own Begin (code.reply l reply) saves) k.port k.own.last_kind)
              same_bounds goes.turns)));
        }
