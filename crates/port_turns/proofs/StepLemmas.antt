-- The turns of an attempt at a word of an object, one by one.
use Rattle.std.proofs.Common.{◌≡◌, ℕ, suc, ◌+◌, ◌-◌, ◌<◌, ◌≤◌, ◌^◌, ◌&&◌, true, false, Some, Result, Ok, Err, List, [], ◌∷◌, refl, sym, ◌∙◌, ap, subst, arith}
use Rattle.std.specs.Prelude.{if◌then◌else◌}
use Rattle.std.specs.Result.{is_err}
use Rattle.std.proofs.lemmas.Bool.{true≢false}
use Rattle.op_core.specs.declared.Op.{Op}
use Rattle.op_core.specs.declared.Op.TheVariants.{ClassOf, Read, Write}
use Rattle.op_core.specs.declared.Reply.{Reply}
use Rattle.op_core.specs.declared.Reply.TheVariants.{Class, Value}
use Rattle.op_core.specs.declared.Next.TheVariants.{Want}
use Rattle.op_core.specs.ThreadCode.{Code}
use Rattle.heap_words.specs.Words.{tag_of, value_of, header_class, header_length}
use Rattle.step_port.specs.declared.answer.StepAnswer.{StepAnswer}
use Rattle.step_port.specs.declared.answer.StepAnswer.TheVariants.{Found, Lost}
use Rattle.step_port.specs.declared.step.Step.{Step}
use Rattle.step_port.specs.declared.step.Step.TheVariants.{LoadWord, SwapWord, LoadSection}
use Rattle.step_port.specs.Steps.{effect_of, kind_of}
use Rattle.step_port.specs.Words.{exchanged, CanAnswer}
use Rattle.thread_automaton.specs.declared.Attempt.{Attempt}
use Rattle.thread_automaton.specs.declared.Attempt.TheVariants.{Begin, Fixed}
use Rattle.thread_automaton.specs.declared.Move.TheVariants.{Make}
use Rattle.thread_automaton.specs.NextMove.{word_place, first_step, move_of}
use Rattle.thread_automaton.specs.Changes.{Change, goes, replies, writes, changed}
use Rattle.thread_automaton.specs.Checks.{meets_writer, word_loaded, noted}
use Rattle.thread_automaton.specs.Answers.{change_of}
use Rattle.thread_automaton.specs.Told.{Told, probed, advanced, lost, shown, told_of, counted_for}
use Rattle.thread_moves.specs.declared.thread.Own.{Own}
use Rattle.thread_moves.specs.Thread.{CanBeAsked}
use Rattle.port_turns.specs.Plain.{is_word_step, leaves_free, PlainTurns}
use Rattle.turn_runs.proofs.HostLemmas.{told_is, after_is, moves_so}
use Rattle.turn_runs.specs.Own.{thread_at}
use Rattle.turn_runs.specs.HostPlaces.{HostPlace, IsBetween}
use Rattle.port_turns.specs.Place.{HostKeeps, HostLeads, HostAnswers, HostStops, HostMayAsk}
use Rattle.turn_runs.specs.Own.{is_safe_for, written_by, has_unseen_level, own_counted}
use Rattle.port_turns.specs.Words.{CanTry, meeting, own_at}
use Rattle.port_turns.proofs.PlainLemmas.{one_made}
use Rattle.port_turns.proofs.LeadLemmas.{stays_here, goes_on}

-- what an exchange answered that its result says
pub is_done : (r : Result (Unit {0}) ℕ) → false ≡ is_err r → exchanged r ≡ StepAnswer.Done
is_done (Ok u) is = refl
is_done (Err v) is = absurd (true≢false (sym is))

pub is_lost : (r : Result (Unit {0}) ℕ) → true ≡ is_err r → (u : ℕ) × (exchanged r ≡ Lost u)
is_lost (Ok u) is = absurd (true≢false is)
is_lost (Err v) is = (v, refl)

-- where no level is open that wasn't seen pinned, an attempt begins with the operation's own step
begins_so : {S : Type 0} (code : Code S) (own : Own) (l : S) (saves : List S) (op : Op) (step : Step) → has_unseen_level own ≡ false
    → first_step code (thread_at own Begin l saves) op ≡ step → move_of code (thread_at own Begin l saves) (Want op) Begin ≡ Make step
begins_so code own l saves op step seen first =
    ap (λ t. if t then Make (LoadSection own.section) else Make (first_step code (thread_at own Begin l saves) op)) seen ∙ ap Make first

one_left : (left : ℕ) → 1 ≤ left → left ≡ (left - 1) + 1
one_left left some = omega (arith, some)

less_left : (left : ℕ) → 2 ≤ left → 1 ≤ left
less_left left some = omega (arith, some)

module _ {S P : Type 0} (code : Code S) (stepped : P → Step → StepAnswer → P → Type 0) (saves : List S) (op : Op) where
  -- ---- one turn, between places

  one_goes : (a c : Attempt) (l m : S) (h k : HostPlace P) (step : Step) (answer : StepAnswer) (change : Change) (tells : Told) → code.next l ≡ Want op → h.own.over ≡ false
      → h.own.counted < h.own.bounds.limits.turns → move_of code (thread_at h.own a l saves) (Want op) a ≡ Make step → stepped h.port step answer k.port
      → CanAnswer (effect_of step) answer → change_of code h.own.bounds (thread_at h.own a l saves) (Want op) step answer ≡ change
      → told_of (Want op) step answer change (shown change) ≡ tells → counted_for tells (changed code (thread_at h.own a l saves) change) ≡ thread_at k.own c m saves
      → (is_word_step step && leaves_free tells) ≡ true → HostKeeps h.own k.own → h.left ≡ k.left + 1 → kind_of step ≡ k.own.last_kind → HostLeads code stepped saves a l h c m k
  one_goes a c l m h k step answer change tells wants lives below moves made can change_is tells_is after plain keeps left kind = record {
    number = 1;
    left = left;
    keeps = keeps;
    turns = subst (PlainTurns code h.own.bounds stepped (thread_at h.own a l saves) h.port h.own.last_kind 1 (thread_at k.own c m saves) k.port) kind
        (one_made code h.own.bounds stepped (thread_at h.own a l saves) (thread_at k.own c m saves) h.port k.port h.own.last_kind (Want op) step answer tells wants
        (moves_so code h.own.bounds h.own l saves op a step wants lives below moves) made can
        (told_is code h.own.bounds (thread_at h.own a l saves) op wants step answer change tells change_is tells_is) plain
        (after_is code h.own.bounds (thread_at h.own a l saves) op wants step answer change tells change_is tells_is (thread_at k.own c m saves) after));
  }

  -- the load of a word, after which the attempt goes on
  load_goes : (l : S) (h : HostPlace P) (at w : ℕ) (y : P) (c : Attempt) → code.next l ≡ Want op → IsBetween h.own → CanTry h → first_step code (thread_at h.own Begin l saves) op ≡ LoadWord at
      → stepped h.port (LoadWord at) (Found w) y → word_loaded (thread_at h.own Begin l saves) (Want op) at w ≡ goes c
      → told_of (Want op) (LoadWord at) (Found w) (goes c) (shown (goes c)) ≡ probed → HostLeads code stepped saves Begin l h c l (record { own = own_at h.own c 1; port = y; left = h.left - 1 })
  load_goes l h at w y c wants is can first loaded goes_is tells_is =
      one_goes Begin c l l h (record { own = own_at h.own c 1; port = y; left = h.left - 1 }) (LoadWord at) (Found w) (goes c) probed wants is.lives can.counted
      (begins_so code h.own l saves op (LoadWord at) can.seen first) loaded tt goes_is tells_is refl refl (record { bounds = refl; opening = refl; lives = refl })
      (one_left h.left (less_left h.left can.left)) refl

  -- .. and one with which the operation is answered
  answer_goes : (l : S) (h : HostPlace P) (at w : ℕ) (y : P) (reply : Reply) → code.next l ≡ Want op → IsBetween h.own → CanTry h
      → first_step code (thread_at h.own Begin l saves) op ≡ LoadWord at → stepped h.port (LoadWord at) (Found w) y → word_loaded (thread_at h.own Begin l saves) (Want op) at w ≡ replies reply
      → HostLeads code stepped saves Begin l h Begin (code.reply l reply) (record { own = own_counted h.own 1; port = y; left = h.left - 1 })
  answer_goes l h at w y reply wants is can first loaded replies_is =
      one_goes Begin Begin l (code.reply l reply) h (record { own = own_counted h.own 1; port = y; left = h.left - 1 }) (LoadWord at) (Found w) (replies reply) (advanced (Some reply)) wants is.lives can.counted
      (begins_so code h.own l saves op (LoadWord at) can.seen first) loaded tt replies_is refl refl refl (record { bounds = refl; opening = refl; lives = refl })
      (one_left h.left (less_left h.left can.left)) refl

module _ {S P : Type 0} (code : Code S) (stepped : P → Step → StepAnswer → P → Type 0) where
  counted_between : (own : Own) (kind : ℕ) → IsBetween own → IsBetween (own_counted own kind)
  counted_between own kind is = record { begins = is.begins; lives = is.lives; counts = omega arith }

  -- ---- answers

  pub read_answers : (h : HostPlace P) (r i w : ℕ) (y : P) → IsBetween h.own → CanTry h → is_safe_for h.own w ≡ true → stepped h.port (LoadWord (word_place r i)) (Found w) y
      → HostAnswers code stepped h (Read r i) (Value (value_of w)) (record { own = own_counted h.own 1; port = y; left = h.left - 1 })
  read_answers h r i w y is can safe loaded = record {
    between = counted_between h.own 1 is;
    goes = λ l saves wants. answer_goes code stepped saves (Read r i) l h (word_place r i) w y (Value (value_of w)) wants is can refl loaded
        (ap (λ t. if t then replies (Value (value_of w)) else meets_writer (tag_of w)) safe);
  }

  pub header_answers : (h : HostPlace P) (r w : ℕ) (y : P) → IsBetween h.own → CanTry h → stepped h.port (LoadWord r) (Found w) y
      → HostAnswers code stepped h (ClassOf r) (Class (header_class w) (header_length w)) (record { own = own_counted h.own 1; port = y; left = h.left - 1 })
  header_answers h r w y is can loaded = record {
    between = counted_between h.own 1 is;
    goes = λ l saves wants. answer_goes code stepped saves (ClassOf r) l h r w y (Class (header_class w) (header_length w)) wants is can refl loaded refl;
  }

  -- ---- stops

  pub no_attempt : (h : HostPlace P) (op : Op) → IsBetween h.own → HostStops code stepped h op h
  no_attempt h op is = λ l saves wants. subst (λ a. HostLeads code stepped saves Begin l h a l h) (sym is.begins) (stays_here code stepped saves Begin l h)

  pub read_stops : (h : HostPlace P) (r i w : ℕ) (y : P) → IsBetween h.own → CanTry h → is_safe_for h.own w ≡ false → stepped h.port (LoadWord (word_place r i)) (Found w) y
      → HostStops code stepped h (Read r i) (record { own = own_at h.own (meeting w) 1; port = y; left = h.left - 1 })
  read_stops h r i w y is can unsafe loaded = λ l saves wants.
      load_goes code stepped saves (Read r i) l h (word_place r i) w y (meeting w) wants is can refl loaded
      (ap (λ t. if t then replies (Value (value_of w)) else meets_writer (tag_of w)) unsafe) refl

  pub write_stops : (h : HostPlace P) (r i v w : ℕ) (y : P) → IsBetween h.own → CanTry h → is_safe_for h.own w ≡ false → stepped h.port (LoadWord (word_place r i)) (Found w) y
      → HostStops code stepped h (Write r i v) (record { own = own_at h.own (meeting w) 1; port = y; left = h.left - 1 })
  write_stops h r i v w y is can unsafe loaded = λ l saves wants.
      load_goes code stepped saves (Write r i v) l h (word_place r i) w y (meeting w) wants is can refl loaded
      (ap (λ t. if t then goes (Fixed (SwapWord (word_place r i) w (written_by h.own v))) else meets_writer (tag_of w)) unsafe) refl

  -- ---- the exchange

  -- the step of the exchange comes next
  abbrev swap_of : HostPlace P → ℕ → ℕ → ℕ → ℕ → Step
  swap_of h r i v w = SwapWord (word_place r i) w (written_by h.own v)

  safe_goes : (h : HostPlace P) (r i v w : ℕ) (y : P) → IsBetween h.own → CanTry h → is_safe_for h.own w ≡ true → stepped h.port (LoadWord (word_place r i)) (Found w) y
      → (l : S) (saves : List S) → code.next l ≡ Want (Write r i v)
      → HostLeads code stepped saves Begin l h (Fixed (swap_of h r i v w)) l (record { own = own_at h.own (Fixed (swap_of h r i v w)) 1; port = y; left = h.left - 1 })
  safe_goes h r i v w y is can safe loaded l saves wants =
      load_goes code stepped saves (Write r i v) l h (word_place r i) w y (Fixed (swap_of h r i v w)) wants is can refl loaded
      (ap (λ t. if t then goes (Fixed (swap_of h r i v w)) else meets_writer (tag_of w)) safe) refl

  -- where no level is open that wasn't seen pinned, an overwritten word isn't logged
  log_stays : (own : Own) (a : Attempt) (l : S) (saves : List S) (at old : ℕ) → has_unseen_level own ≡ false → noted (thread_at own a l saves) at old ≡ own.log.noted
  log_stays own a l saves at old seen = ap (λ t. if t then record { at = at; old = old } ∷ own.log.noted else own.log.noted) seen

  pub write_answers : (h : HostPlace P) (r i v w : ℕ) (y z : P) → IsBetween h.own → CanTry h → is_safe_for h.own w ≡ true → stepped h.port (LoadWord (word_place r i)) (Found w) y
      → stepped y (swap_of h r i v w) StepAnswer.Done z → HostAnswers code stepped h (Write r i v) Reply.Done (record { own = own_counted h.own 2; port = z; left = h.left - 1 - 1 })
  write_answers h r i v w y z is can safe loaded swapped = record {
    between = counted_between h.own 2 is;
    goes = λ l saves wants.
        let swap : Step = swap_of h r i v w in
        let mid : HostPlace P = record { own = own_at h.own (Fixed swap) 1; port = y; left = h.left - 1 } in
        let last : HostPlace P = record { own = own_counted h.own 2; port = z; left = h.left - 1 - 1 } in
        goes_on code stepped saves Begin (Fixed swap) Begin l l (code.reply l Reply.Done) h mid last (safe_goes h r i v w y is can safe loaded l saves wants)
        (one_goes code stepped saves (Write r i v) (Fixed swap) Begin l (code.reply l Reply.Done) mid last swap StepAnswer.Done
        (writes (noted (thread_at h.own (Fixed swap) l saves) (word_place r i) w)) (advanced (Some Reply.Done)) wants is.lives can.counted refl swapped tt refl refl
        (ap (λ log. record (thread_at h.own Begin (code.reply l Reply.Done) saves) { log = log; counted = suc h.own.counted; silents = 0 })
        (log_stays h.own (Fixed swap) l saves (word_place r i) w can.seen)) refl (record { bounds = refl; opening = refl; lives = refl }) (two_left h.left can.left) refl);
  }
    where
      two_left : (left : ℕ) → 2 ≤ left → left - 1 ≡ (left - 1 - 1) + 1
      two_left left some = omega (arith, some)

  -- another thread wrote the word meanwhile, so the attempt begins anew
  pub write_lost : (h : HostPlace P) (r i v w u : ℕ) (y z : P) → IsBetween h.own → CanTry h → is_safe_for h.own w ≡ true → stepped h.port (LoadWord (word_place r i)) (Found w) y
      → stepped y (swap_of h r i v w) (Lost u) z → HostStops code stepped h (Write r i v) (record { own = record h.own { last_kind = 2 }; port = z; left = h.left - 1 - 1 })
  write_lost h r i v w u y z is can safe loaded swapped = λ l saves wants.
      let swap : Step = swap_of h r i v w in
      let mid : HostPlace P = record { own = own_at h.own (Fixed swap) 1; port = y; left = h.left - 1 } in
      let last : HostPlace P = record { own = record h.own { last_kind = 2 }; port = z; left = h.left - 1 - 1 } in
      subst (λ a. HostLeads code stepped saves Begin l h a l last) (sym is.begins)
      (goes_on code stepped saves Begin (Fixed swap) Begin l l l h mid last (safe_goes h r i v w y is can safe loaded l saves wants)
      (one_goes code stepped saves (Write r i v) (Fixed swap) Begin l l mid last swap (Lost u) (goes Begin) (lost u) wants is.lives can.counted refl swapped tt refl refl refl refl
      (record { bounds = refl; opening = refl; lives = refl }) (two_left h.left can.left) refl))
    where
      two_left : (left : ℕ) → 2 ≤ left → left - 1 ≡ (left - 1 - 1) + 1
      two_left left some = omega (arith, some)

  -- ---- what the port allows on the way

  module _ (allows : P → Step → Type 0) where
    allowed_after : (h k : HostPlace P) (op : Op) (c : Attempt) (step : Step) (may : HostMayAsk code allows stepped h op) → HostLeads code stepped may.saves Begin may.local h c may.local k
        → k.own.counted < k.own.bounds.limits.turns → move_of code (thread_at k.own c may.local may.saves) (Want op) c ≡ Make step → allows k.port step
    allowed_after h k op c step may leads below moves =
        let lives : k.own.over ≡ false = leads.keeps.lives ∙ may.between.lives in
        (may.ready leads.turns.moves (thread_at k.own c may.local may.saves) k.port leads.turns.turns lives).allowed step
        (moves_so code h.own.bounds k.own may.local may.saves op c step may.wants lives
        (subst (λ b. k.own.counted < b.limits.turns) leads.keeps.bounds below) moves)

    pub allowed_first : (h : HostPlace P) (op : Op) (at : ℕ) (may : HostMayAsk code allows stepped h op) → CanTry h → first_step code (thread_at h.own Begin may.local may.saves) op ≡ LoadWord at
        → allows h.port (LoadWord at)
    allowed_first h op at may can first =
        allowed_after h h op Begin (LoadWord at) may (stays_here code stepped may.saves Begin may.local h) can.counted
        (begins_so code h.own may.local may.saves op (LoadWord at) can.seen first)

    pub allowed_swap : (h : HostPlace P) (r i v w : ℕ) (y : P) → HostMayAsk code allows stepped h (Write r i v) → CanTry h → is_safe_for h.own w ≡ true
        → stepped h.port (LoadWord (word_place r i)) (Found w) y → allows y (swap_of h r i v w)
    allowed_swap h r i v w y may can safe loaded =
        allowed_after h (record { own = own_at h.own (Fixed (swap_of h r i v w)) 1; port = y; left = h.left - 1 }) (Write r i v) (Fixed (swap_of h r i v w)) (swap_of h r i v w) may
        (safe_goes h r i v w y may.between can safe loaded may.local may.saves may.wants) can.counted refl

    in_range : (h : HostPlace P) (op : Op) → HostMayAsk code allows stepped h op → (l : S) × CanBeAsked code l (Want op)
    in_range h op may = (
      may.local,
      subst (CanBeAsked code may.local) may.wants (may.ready [] (thread_at h.own Begin may.local may.saves) h.port (refl, refl) may.between.lives).range,
    )

    pub read_range : (h : HostPlace P) (r i : ℕ) → HostMayAsk code allows stepped h (Read r i) → r + 2 + i < 2 ^ 32
    read_range h r i may = (in_range h (Read r i) may).1

    pub write_range : (h : HostPlace P) (r i v : ℕ) → HostMayAsk code allows stepped h (Write r i v) → r + 2 + i < 2 ^ 32
    write_range h r i v may = (in_range h (Write r i v) may).1
