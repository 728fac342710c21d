-- Changes of the tables, part by part.
use Rattle.std.proofs.Common.{◌≡◌, ℕ, ◌<◌, Bool, true, false, cond, Option, None, Some, IsSome, IsNone, IsSomeAnd, get_or, subst, List, length, replicate, slice_get, slice_set, unwrap_or, nat_eq, refl, sym, ◌∙◌, ap, inl, inr}
use Rattle.std.proofs.Math.Path.{fun_ext}
use Rattle.std.proofs.lemmas.Bool.Decides.{leb_tells}
use Rattle.std.proofs.lemmas.Option.{unwrap_or-slice_get}
use Rattle.std.proofs.lemmas.List.{length-set, length-replicate, get_or_past, get_or-set_other, get_or-replicate}
use Rattle.std.proofs.lemmas.Grind.{get_or-set_at}
use Rattle.op_core.specs.declared.Reply.{Reply}
use Rattle.op_core.specs.ThreadCode.{Code}
use Rattle.op_core.specs.Replies.{FitsNext}
use Rattle.op_core.specs.OrdinaryState.{set_at, Object, HasWord, IsWaitingFor, Monitor, free, Waiting, Thread, live}
use Rattle.op_core.proofs.PointwiseLemmas.{set_at-at, set_at-same}
use Rattle.machine_tables.specs.declared.objects.MonitorState.{MonitorState}
use Rattle.machine_tables.specs.declared.objects.MonitorState.TheVariants.{Free}
use Rattle.machine_tables.specs.declared.threads.WaitState.TheVariants.{Awake}
use Rattle.machine_tables.specs.declared.threads.Standing.TheVariants.{Live, Ended}
use Rattle.machine_tables.specs.declared.objects.HeapObject.{HeapObject}
use Rattle.machine_tables.specs.declared.threads.WaitState.{WaitState}
use Rattle.machine_tables.specs.declared.threads.Standing.{Standing}
use Rattle.machine_tables.specs.declared.threads.Seat.{Seat}
use Rattle.machine_tables.specs.Tables.{header_of, monitor_of, monitor_in, started_in, word_in, objects_in, words_in, monitors_in, starts_in, waiting_of, standing_of, thread_in, waiting_state_in, silent_in, threads_in, waiting_in, silents_in, StandingReplies, SeatReplies, StandingAwaits, AwaitsReply}
use Rattle.machine_state.specs.Machine.{HasBegun}
use Rattle.std.specs.Option.{option_map}

cond-ap : {A B : Type 0} (P : A → B) (b : Bool) (x y : A) → P (cond b x y) ≡ cond b (P x) (P y)
cond-ap P true x y = refl
cond-ap P false x y = refl

-- a part of a changed table, and a part that the change leaves
part_set : {A B : Type 0} (P : A → B) (f : ℕ → A) (k : ℕ) (v : A) → (λ j. P (set_at f k v j)) ≡ set_at (λ j. P (f j)) k (P v)
part_set P f k v = fun_ext (λ j. cond-ap P (nat_eq j k) v (f j))

part_keep : {A B : Type 0} (P : A → B) (f : ℕ → A) (k : ℕ) (v : A) → P v ≡ P (f k) → ◌≡◌ {A = ℕ → B} (λ j. P (set_at f k v j)) (λ j. P (f j))
part_keep {A} {B} P f k v same = part_set P f k v ∙ set_at-same (λ j. P (f j)) k (P v) (sym same)

-- the same of a table that is known to be a changed one
pub is_set : {A B : Type 0} (P : A → B) (f g : ℕ → A) (k : ℕ) (v : A) (w : B) → g ≡ set_at f k v → P v ≡ w → (λ j. P (g j)) ≡ set_at (λ j. P (f j)) k w
is_set P f g k v w is value = ap (λ h j. P (h j)) is ∙ part_set P f k v ∙ ap (set_at (λ j. P (f j)) k) value

pub is_kept : {A B : Type 0} (P : A → B) (f g : ℕ → A) (k : ℕ) (v : A) → g ≡ set_at f k v → P v ≡ P (f k) → ◌≡◌ {A = ℕ → B} (λ j. P (g j)) (λ j. P (f j))
is_kept P f g k v is same = ap (λ h j. P (h j)) is ∙ part_keep P f k v same

written_words : (words : List ℕ) (i v : ℕ) → i < length words → (λ j. unwrap_or (slice_get (slice_set words i v) j) 0) ≡ set_at (λ j. unwrap_or (slice_get words j) 0) i v
written_words words i v inside = fun_ext (λ j. unwrap_or-slice_get (slice_set words i v) j 0
    ∙ set_at-at (λ x. get_or (slice_set words i v) j 0 ≡ x) (λ k. unwrap_or (slice_get words k) 0) i v j
    (λ here. get_or-set_at words i j v 0 here inside)
    (λ other. get_or-set_other words i j v 0 other ∙ sym (unwrap_or-slice_get words j 0)))

zero_words : (n : ℕ) → ◌≡◌ {A = ℕ → ℕ} (λ j. unwrap_or (slice_get (replicate n 0) j) 0) (λ _. 0)
zero_words n = fun_ext (λ j. unwrap_or-slice_get (replicate n 0) j 0 ∙ zero_at j)
  where
    zero_at : (j : ℕ) → ◌≡◌ {A = ℕ} (get_or (replicate n 0) j 0) 0
    zero_at j = elim (leb_tells n j) [
      | inl past ↦ get_or_past (replicate n 0) j 0 (rw (length-replicate {A = ℕ} n 0) past.1)
      | inr inside ↦ get_or-replicate n j 0 0 inside.1
    ]

pub there : {A B : Type 0} (P : A → B) (o : Option A) → IsSome (option_map P o) → (x : A) × (o ≡ Some x)
there P None h = cc
there P (Some x) h = (x, refl)

pub absent : {A B : Type 0} (P : A → B) (o : Option A) → IsNone (option_map P o) → o ≡ None
absent P None h = refl
absent P (Some x) h = cc

-- the four parts of the objects
pub record Parts (f : ℕ → Option HeapObject) (a : ℕ → Option Object) (b : ℕ → ℕ → ℕ) (c : ℕ → Monitor) (d : ℕ → ℕ) : Type 0 where
  pub objects : objects_in f ≡ a
  pub words : words_in f ≡ b
  pub monitors : monitors_in f ≡ c
  pub starts : starts_in f ≡ d

pub monitor_changed : (f g : ℕ → Option HeapObject) (r : ℕ) (m : MonitorState) → IsSome (objects_in f r)
    → ((x : HeapObject) → f r ≡ Some x → g ≡ set_at f r (Some (record x { monitor = m })))
    → Parts g (objects_in f) (words_in f) (set_at (monitors_in f) r (monitor_of m)) (starts_in f)
monitor_changed f g r m is_there changes =
    let (x, is) = there header_of (f r) is_there in
    let y : Option HeapObject = Some (record x { monitor = m }) in
    record {
      objects = is_kept (option_map header_of) f g r y (changes x is) (sym (ap (option_map header_of) is));
      words = is_kept word_in f g r y (changes x is) (sym (ap word_in is));
      monitors = is_set monitor_in f g r y (monitor_of m) (changes x is) refl;
      starts = is_kept started_in f g r y (changes x is) (sym (ap started_in is));
    }

pub started_changed : (f g : ℕ → Option HeapObject) (r n : ℕ) → IsSome (objects_in f r)
    → ((x : HeapObject) → f r ≡ Some x → g ≡ set_at f r (Some (record x { started = n })))
    → Parts g (objects_in f) (words_in f) (monitors_in f) (set_at (starts_in f) r n)
started_changed f g r n is_there changes =
    let (x, is) = there header_of (f r) is_there in
    let y : Option HeapObject = Some (record x { started = n }) in
    record {
      objects = is_kept (option_map header_of) f g r y (changes x is) (sym (ap (option_map header_of) is));
      words = is_kept word_in f g r y (changes x is) (sym (ap word_in is));
      monitors = is_kept monitor_in f g r y (changes x is) (sym (ap monitor_in is));
      starts = is_set started_in f g r y n (changes x is) refl;
    }

inside_word : (o : Option HeapObject) (x : HeapObject) (i : ℕ) → o ≡ Some x → IsSomeAnd (option_map header_of o) (λ h. i < h.words) → i < length x.words
inside_word None x i is h = absurd h
inside_word (Some z) x i is h = let same : z ≡ x = cc in subst (λ k. i < length k.words) same h

word_there : (o : Option Object) (i : ℕ) → IsSomeAnd o (λ h. i < h.words) → IsSome o
word_there None i h = absurd h
word_there (Some x) i h = refl

pub word_changed : (f g : ℕ → Option HeapObject) (r i v : ℕ) → HasWord (objects_in f) r i
    → ((x : HeapObject) → f r ≡ Some x → g ≡ set_at f r (Some (record x { words = slice_set x.words i v })))
    → Parts g (objects_in f) (set_at (words_in f) r (set_at (words_in f r) i v)) (monitors_in f) (starts_in f)
word_changed f g r i v has changes =
    let (x, is) = there header_of (f r) (word_there (objects_in f r) i has) in
    let y : HeapObject = record x { words = slice_set x.words i v } in
    let header : header_of y ≡ header_of x = ap (λ n. record { class = x.class; length = x.length; words = n }) (length-set x.words i v) in
    let inside : i < length x.words = inside_word (f r) x i is has in
    record {
      objects = is_kept (option_map header_of) f g r (Some y) (changes x is) (ap Some header ∙ sym (ap (option_map header_of) is));
      words = is_set word_in f g r (Some y) (set_at (words_in f r) i v) (changes x is)
          (written_words x.words i v inside ∙ ap (λ o. set_at (word_in o) i v) (sym is));
      monitors = is_kept monitor_in f g r (Some y) (changes x is) (sym (ap monitor_in is));
      starts = is_kept started_in f g r (Some y) (changes x is) (sym (ap started_in is));
    }

pub object_added : (f g : ℕ → Option HeapObject) (r class length n : ℕ) → IsNone (objects_in f r)
    → g ≡ set_at f r (Some (record { class = class; length = length; words = replicate n 0; monitor = Free; started = 0 }))
    → Parts g (set_at (objects_in f) r (Some (record { class = class; length = length; words = n }))) (set_at (words_in f) r (λ _. 0)) (set_at (monitors_in f) r free) (starts_in f)
object_added f g r class length n is_none is =
    let y : HeapObject = record { class = class; length = length; words = replicate n 0; monitor = Free; started = 0 } in
    let none = absent header_of (f r) is_none in
    record {
      objects = is_set (option_map header_of) f g r (Some y) (Some (record { class = class; length = length; words = n })) is (ap (λ k. Some (record { class = class; length = length; words = k })) (length-replicate {A = ℕ} n 0));
      words = is_set word_in f g r (Some y) (λ _. 0) is (zero_words n);
      monitors = is_set monitor_in f g r (Some y) free is refl;
      starts = is_kept started_in f g r (Some y) is (sym (ap started_in none));
    }

-- the three parts of the threads
pub record ThreadParts {C S : Type 0} (state : C → S) (f : ℕ → Option (Seat C)) (a : ℕ → Thread S) (b : ℕ → Waiting) (c : ℕ → ℕ) : Type 0 where
  pub threads : threads_in state f ≡ a
  pub waiting : waiting_in f ≡ b
  pub silents : silents_in f ≡ c

seat_there : {A : Type 0} (o : Option A) → IsSome o → (x : A) × (o ≡ Some x)
seat_there None h = cc
seat_there (Some x) h = (x, refl)

pub waiting_changed : {C S : Type 0} (state : C → S) (f g : ℕ → Option (Seat C)) (t : ℕ) (w : WaitState) → IsSome (f t)
    → ((x : Seat C) → f t ≡ Some x → g ≡ set_at f t (Some (record x { waiting = w })))
    → ThreadParts state g (threads_in state f) (set_at (waiting_in f) t (waiting_of w)) (silents_in f)
waiting_changed {C} {S} state f g t w begun changes =
    let (x, is) = seat_there (f t) begun in
    let y : Option (Seat C) = Some (record x { waiting = w }) in
    record {
      threads = is_kept (thread_in state) f g t y (changes x is) (sym (ap (thread_in state) is));
      waiting = is_set waiting_state_in f g t y (waiting_of w) (changes x is) refl;
      silents = is_kept silent_in f g t y (changes x is) (sym (ap silent_in is));
    }

pub thread_changed : {C S : Type 0} (state : C → S) (f g : ℕ → Option (Seat C)) (t silent : ℕ) (standing : Standing C) → IsSome (f t)
    → ((x : Seat C) → f t ≡ Some x → g ≡ set_at f t (Some (record x { standing = standing; silent = silent })))
    → ThreadParts state g (set_at (threads_in state f) t (standing_of state standing)) (waiting_in f) (set_at (silents_in f) t silent)
thread_changed {C} {S} state f g t silent standing begun changes =
    let (x, is) = seat_there (f t) begun in
    let y : Option (Seat C) = Some (record x { standing = standing; silent = silent }) in
    record {
      threads = is_set (thread_in state) f g t y (standing_of state standing) (changes x is) refl;
      waiting = is_kept waiting_state_in f g t y (changes x is) (sym (ap waiting_state_in is));
      silents = is_set silent_in f g t y silent (changes x is) refl;
    }

seat_absent : {A : Type 0} (o : Option A) → IsNone o → o ≡ None
seat_absent None h = refl
seat_absent (Some x) h = cc

pub thread_begun : {C S : Type 0} (state : C → S) (f g : ℕ → Option (Seat C)) (t : ℕ) (code : C) → IsNone (f t)
    → g ≡ set_at f t (Some (record { standing = Live code; waiting = Awake; silent = 0 }))
    → ThreadParts state g (set_at (threads_in state f) t (live (state code))) (waiting_in f) (set_at (silents_in f) t 0)
thread_begun {C} {S} state f g t code is_none is =
    let none = seat_absent (f t) is_none in
    let y : Option (Seat C) = Some (record { standing = Live code; waiting = Awake; silent = 0 }) in
    record {
      threads = is_set (thread_in state) f g t y (live (state code)) is refl;
      waiting = is_kept waiting_state_in f g t y is (sym (ap waiting_state_in none));
      silents = is_set silent_in f g t y 0 is refl;
    }

-- a thread that has begun has a seat
standing-begun : {C S : Type 0} (state : C → S) (x : Standing C) → HasBegun (standing_of state x)
standing-begun state (Live code) = tt
standing-begun state (Ended x) = tt

pub begun_seat : {C S : Type 0} (state : C → S) (o : Option (Seat C)) → HasBegun (thread_in state o) → IsSome o
begun_seat state None h = absurd h
begun_seat state (Some seat) h = refl

-- and so has one that waits
pub waiting_begun : {C S : Type 0} (state : C → S) (r : ℕ) (o : Option (Seat C)) → IsWaitingFor r (waiting_state_in o) → HasBegun (thread_in state o)
waiting_begun state r None h = absurd h
waiting_begun state r (Some seat) h = standing-begun state seat.standing

-- a thread that has begun stays so while another begins
pub begun_after : {S : Type 0} (f : ℕ → Thread S) (n : ℕ) (l : S) (t : ℕ) → HasBegun (f t) → HasBegun (set_at f n (live l) t)
begun_after f n l t begun = set_at-at HasBegun f n (live l) t (λ _. tt) (λ _. begun)

-- a thread is moved elsewhere, with the same number of silent steps after its last event
pub standing_changed : {C S : Type 0} (state : C → S) (f g : ℕ → Option (Seat C)) (t : ℕ) (standing : Standing C) (x : Seat C) → f t ≡ Some x
    → g ≡ set_at f t (Some (record x { standing = standing }))
    → ThreadParts state g (set_at (threads_in state f) t (standing_of state standing)) (waiting_in f) (set_at (silents_in f) t (silents_in f t))
standing_changed {C} {S} state f g t standing x is changed =
    let y : Option (Seat C) = Some (record x { standing = standing }) in
    record {
      threads = is_set (thread_in state) f g t y (standing_of state standing) changed refl;
      waiting = is_kept waiting_state_in f g t y changed (sym (ap waiting_state_in is));
      silents = is_set silent_in f g t y (silents_in f t) changed (sym (ap silent_in is));
    }

-- what a seat becomes where its thread goes on with a reply, or makes silent steps
pub record Becomes {C S : Type 0} (state : C → S) (x y : Option (Seat C)) (l : S) (silent : ℕ) : Type 0 where
  pub thread : thread_in state y ≡ live l
  pub waiting : waiting_state_in y ≡ waiting_state_in x
  pub silents : silent_in y ≡ silent

pub becomes_changed : {C S : Type 0} (state : C → S) (f g : ℕ → Option (Seat C)) (t : ℕ) (l : S) (silent : ℕ)
    → g ≡ set_at f t (g t) → Becomes state (f t) (g t) l silent
    → ThreadParts state g (set_at (threads_in state f) t (live l)) (waiting_in f) (set_at (silents_in f) t silent)
becomes_changed {C} {S} state f g t l silent changed becomes = record {
  threads = is_set (thread_in state) f g t (g t) (live l) changed becomes.thread;
  waiting = is_kept waiting_state_in f g t (g t) changed becomes.waiting;
  silents = is_set silent_in f g t (g t) silent changed becomes.silents;
}

replied_standing : {C S : Type 0} (code : Code S) (state : C → S) (reply : Reply) (a b : Standing C) (l : S) → StandingReplies code state reply a b → standing_of state a ≡ live l
    → standing_of state b ≡ live (code.reply l reply)
replied_standing {C} {S} code state reply (Live from) (Live behind) l h is = let same : state from ≡ l = cc in ap live (h ∙ ap (λ m. code.reply m reply) same)
replied_standing code state reply (Live from) (Ended x) l h is = absurd h
replied_standing code state reply (Ended x) b l h is = cc

replied_seat : {C S : Type 0} (code : Code S) (state : C → S) (reply : Reply) (x y : Option (Seat C)) (l : S) → SeatReplies code state reply x y → thread_in state x ≡ live l
    → Becomes state x y (code.reply l reply) 0
replied_seat code state reply (Some x) (Some y) l h is = record {
  thread = replied_standing code state reply x.standing y.standing l h.standing is;
  waiting = ap waiting_of h.waiting;
  silents = h.silent;
}
replied_seat code state reply (Some x) None l h is = absurd h
replied_seat code state reply None y l h is = absurd h

pub replied : {C S : Type 0} (code : Code S) (state : C → S) (reply : Reply) (f g : ℕ → Option (Seat C)) (t : ℕ) (l : S)
    → SeatReplies code state reply (f t) (g t) → g ≡ set_at f t (g t) → threads_in state f t ≡ live l
    → ThreadParts state g (set_at (threads_in state f) t (live (code.reply l reply))) (waiting_in f) (set_at (silents_in f) t 0)
replied code state reply f g t l replies changed is = becomes_changed state f g t (code.reply l reply) 0 changed (replied_seat code state reply (f t) (g t) l replies is)

-- a thread awaits a reply in its seat
awaits_standing : {C S : Type 0} (code : Code S) (state : C → S) (reply : Reply) (a : Standing C) (l : S) → standing_of state a ≡ live l → FitsNext (code.next l) reply → StandingAwaits code state a reply
awaits_standing {C} {S} code state reply (Live from) l is fits = let same : l ≡ state from = cc in subst (λ m. FitsNext (code.next m) reply) same fits
awaits_standing code state reply (Ended x) l is fits = cc

pub awaits_seat : {C S : Type 0} (code : Code S) (state : C → S) (reply : Reply) (x : Option (Seat C)) (l : S) → thread_in state x ≡ live l → FitsNext (code.next l) reply → AwaitsReply code state x reply
awaits_seat code state reply None l is fits = cc
awaits_seat code state reply (Some x) l is fits = awaits_standing code state reply x.standing l is fits
