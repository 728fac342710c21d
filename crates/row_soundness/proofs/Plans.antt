-- One rule for each operation that a plan wants.
use Rattle.std.proofs.Common.{◌≡◌, ◌⊎◌, ◌<◌, ℕ, zero, suc, Bool, Option, List, refl}
use Rattle.builtin_world.specs.declared.number.TheConstants.{STRING, THREAD}
use Rattle.builtin_world.specs.declared.word.TheConstants.{STRING_UNITS, THREAD_PRIORITY}
use Rattle.code_decode.specs.declared.code.ClassUnit.{ClassUnit}
use Rattle.link_types.specs.declared.types.ObjectType.TheVariants as types
use Rattle.op_core.specs.declared.Line.{Line}
use Rattle.op_core.specs.declared.Op.TheVariants.{ClassOf, Read, Write, New as Make, Enter, Exit, Wait, Rewake, Notify, Print, Start, Join, Init, InitDone, End}
use Rattle.op_core.specs.declared.Reply.{Reply}
use Rattle.op_core.specs.declared.Reply.TheVariants.{Class, Value, Made, Done, NotOwner, Woken, Number, Already, Ready, Bad, Claimed}
use Rattle.java_rows.specs.Natives.{on_woken, on_started}
use Rattle.java_rows.specs.Plan.{Plan, want, over, ends_thread, on_class, on_value, on_made, on_done, on_owner, on_init, asks_class, reads, writes, makes, enters, exits, settles}
use Rattle.row_soundness.specs.Senses.{Sense, Content, WordFits}
use Rattle.row_soundness.specs.Fits.{Returns, anything, a_wait, after_reply, PlanFits}
use Rattle.row_soundness.specs.Knowledge.{Knows, LineFits}

module _ {P : Type 0} (know : Sense P) (us : List ClassUnit) (knows : Knows know us) (res : Option Returns) (h : P) where
  -- a plan that fits, however much more is known
  abbrev pub Later : Plan → Type 0
  Later plan = (h' : P) → know.extends h h' → PlanFits know us res anything plan h'

  pub makes_fit : (c n : ℕ) (k : ℕ → Plan) → know.may_want h (Make c n) → ((h' : P) (r : ℕ) → know.extends h h' → know.may_come h' (Make c n) (Made r) → PlanFits know us res anything (k r) h') → PlanFits know us res anything (makes c n k) h
  makes_fit c n k may next = knows.asks res anything h (Make c n) (on_made k) tt refl may go
    where
      go : (h' : P) (reply : Reply) → know.extends h h' → know.may_come h' (Make c n) reply → PlanFits know us res (after_reply (Make c n) reply) (on_made k reply) h'
      go h' (Made r) more come = next h' r more come
      go h' reply more come = absurd (knows.fits h' (Make c n) reply come)

  pub asks_class_fit : (r : ℕ) (k : ℕ → ℕ → Plan) → know.may_want h (ClassOf r) → ((h' : P) (c n : ℕ) → know.extends h h' → know.is_exactly h' r c n → PlanFits know us res anything (k c n) h') → PlanFits know us res anything (asks_class r k) h
  asks_class_fit r k may next = knows.asks res anything h (ClassOf r) (on_class k) tt refl may go
    where
      go : (h' : P) (reply : Reply) → know.extends h h' → know.may_come h' (ClassOf r) reply → PlanFits know us res (after_reply (ClassOf r) reply) (on_class k reply) h'
      go h' (Class c n) more come = next h' c n more (knows.exactly h' r c n come)
      go h' reply more come = absurd (knows.fits h' (ClassOf r) reply come)

  -- the word that is read fits what is held there
  pub reads_fit : (r i : ℕ) (content : Content) (k : ℕ → Plan) → know.has_word h r i content → ((h' : P) (v : ℕ) → know.extends h h' → WordFits know h' v content → PlanFits know us res anything (k v) h') → PlanFits know us res anything (reads r i k) h
  reads_fit r i content k has next = knows.asks res anything h (Read r i) (on_value k) tt refl (knows.reads h r i content has) go
    where
      go : (h' : P) (reply : Reply) → know.extends h h' → know.may_come h' (Read r i) reply → PlanFits know us res (after_reply (Read r i) reply) (on_value k reply) h'
      go h' (Value v) more come = next h' v more (knows.read h' r i v content (knows.word_more h h' r i content more has) come)
      go h' reply more come = absurd (knows.fits h' (Read r i) reply come)

  pub writes_fit : (r i v : ℕ) (content : Content) (k : Plan) → know.has_word h r i content → WordFits know h v content → Later k → PlanFits know us res anything (writes r i v k) h
  writes_fit r i v content k has fits next = knows.asks res anything h (Write r i v) (on_done k) tt refl (knows.writes h r i v content has fits) go
    where
      go : (h' : P) (reply : Reply) → know.extends h h' → know.may_come h' (Write r i v) reply → PlanFits know us res (after_reply (Write r i v) reply) (on_done k reply) h'
      go h' Done more come = next h' more
      go h' reply more come = absurd (knows.fits h' (Write r i v) reply come)

  -- the array of a String is read, and a unit of it
  pub reads_array_fit : (r : ℕ) (k : ℕ → Plan) → know.is_of h r (types.Class STRING) → ((h' : P) (v : ℕ) → know.extends h h' → (v ≡ 0) ⊎ know.is_text h' v → PlanFits know us res anything (k v) h') → PlanFits know us res anything (reads r STRING_UNITS k) h
  reads_array_fit r k of next = knows.asks res anything h (Read r STRING_UNITS) (on_value k) tt refl (knows.asks_text h r of) go
    where
      go : (h' : P) (reply : Reply) → know.extends h h' → know.may_come h' (Read r STRING_UNITS) reply → PlanFits know us res (after_reply (Read r STRING_UNITS) reply) (on_value k reply) h'
      go h' (Value v) more come = next h' v more (knows.units h' r v (knows.of_more h h' r (types.Class STRING) more of) come)
      go h' reply more come = absurd (knows.fits h' (Read r STRING_UNITS) reply come)

  pub reads_unit_fit : (r c n i : ℕ) (k : ℕ → Plan) → know.is_text h r → know.is_exactly h r c n → i < n → ((h' : P) (v : ℕ) → know.extends h h' → PlanFits know us res anything (k v) h') → PlanFits know us res anything (reads r i k) h
  reads_unit_fit r c n i k text exactly within next = knows.asks res anything h (Read r i) (on_value k) tt refl (knows.asks_unit h r c n i text exactly within) go
    where
      go : (h' : P) (reply : Reply) → know.extends h h' → know.may_come h' (Read r i) reply → PlanFits know us res (after_reply (Read r i) reply) (on_value k reply) h'
      go h' (Value v) more come = next h' v more
      go h' reply more come = absurd (knows.fits h' (Read r i) reply come)

  -- the priority of an initialized Thread is read
  pub reads_priority_fit : (r : ℕ) (k : ℕ → Plan) → know.is_of h r (types.Class THREAD) → ((h' : P) (p : ℕ) → know.extends h h' → know.is_priority p → PlanFits know us res anything (k p) h') → PlanFits know us res anything (reads r THREAD_PRIORITY k) h
  reads_priority_fit r k of next = knows.asks res anything h (Read r THREAD_PRIORITY) (on_value k) tt refl (knows.asks_priority h r of) go
    where
      go : (h' : P) (reply : Reply) → know.extends h h' → know.may_come h' (Read r THREAD_PRIORITY) reply → PlanFits know us res (after_reply (Read r THREAD_PRIORITY) reply) (on_value k reply) h'
      go h' (Value p) more come = next h' p more (knows.priority h' r p (knows.of_more h h' r (types.Class THREAD) more of) come)
      go h' reply more come = absurd (knows.fits h' (Read r THREAD_PRIORITY) reply come)

  -- after a Thread's priority was written it is initialized
  pub writes_priority_fit : (r p : ℕ) (k : Plan) → know.is_raw h r (types.Class THREAD) → know.is_priority p → ((h' : P) → know.extends h h' → know.is_of h' r (types.Class THREAD) → PlanFits know us res anything k h')
      → PlanFits know us res anything (writes r THREAD_PRIORITY p k) h
  writes_priority_fit r p k raw may next = knows.asks res anything h (Write r THREAD_PRIORITY p) (on_done k) tt refl (knows.sets_priority h r p raw may) go
    where
      go : (h' : P) (reply : Reply) → know.extends h h' → know.may_come h' (Write r THREAD_PRIORITY p) reply → PlanFits know us res (after_reply (Write r THREAD_PRIORITY p) reply) (on_done k reply) h'
      go h' Done more come = next h' more (knows.made_thread h' r p (knows.raw_more h h' r (types.Class THREAD) more raw) may come)
      go h' reply more come = absurd (knows.fits h' (Write r THREAD_PRIORITY p) reply come)

  pub enters_fit : (r : ℕ) (k : Plan) → know.is_there h r → Later k → PlanFits know us res anything (enters r k) h
  enters_fit r k there next = knows.asks res anything h (Enter r) (on_done k) tt refl (knows.enters h r there) go
    where
      go : (h' : P) (reply : Reply) → know.extends h h' → know.may_come h' (Enter r) reply → PlanFits know us res (after_reply (Enter r) reply) (on_done k reply) h'
      go h' Done more come = next h' more
      go h' reply more come = absurd (knows.fits h' (Enter r) reply come)

  pub exits_fit : (r : ℕ) (k other : Plan) → know.is_there h r → Later k → Later other → PlanFits know us res anything (exits r k other) h
  exits_fit r k other there next refused = knows.asks res anything h (Exit r) (on_owner k other) tt refl (knows.exits h r there) go
    where
      go : (h' : P) (reply : Reply) → know.extends h h' → know.may_come h' (Exit r) reply → PlanFits know us res (after_reply (Exit r) reply) (on_owner k other reply) h'
      go h' Done more come = next h' more
      go h' NotOwner more come = refused h' more
      go h' reply more come = absurd (knows.fits h' (Exit r) reply come)

  pub settles_fit : (c : ℕ) (well : Bool) (k : Plan) → know.may_want h (InitDone c well) → Later k → PlanFits know us res anything (settles c well k) h
  settles_fit c well k may next = knows.asks res anything h (InitDone c well) (on_done k) tt refl may go
    where
      go : (h' : P) (reply : Reply) → know.extends h h' → know.may_come h' (InitDone c well) reply → PlanFits know us res (after_reply (InitDone c well) reply) (on_done k reply) h'
      go h' Done more come = next h' more
      go h' reply more come = absurd (knows.fits h' (InitDone c well) reply come)

  pub inits_fit : (c : ℕ) (k bad mine : Plan) → know.may_want h (Init c) → Later k → Later bad → Later mine → PlanFits know us res anything (want (Init c) (on_init k bad mine)) h
  inits_fit c k bad mine may next failed claimed = knows.asks res anything h (Init c) (on_init k bad mine) tt refl may go
    where
      go : (h' : P) (reply : Reply) → know.extends h h' → know.may_come h' (Init c) reply → PlanFits know us res (after_reply (Init c) reply) (on_init k bad mine reply) h'
      go h' Ready more come = next h' more
      go h' Bad more come = failed h' more
      go h' Claimed more come = claimed h' more
      go h' reply more come = absurd (knows.fits h' (Init c) reply come)

  pub notifies_fit : (r : ℕ) (none some other : Plan) → know.is_there h r → Later none → Later some → Later other → PlanFits know us res anything (want (Notify r) (on_woken none some other)) h
  notifies_fit r none some other there nobody somebody refused = knows.asks res anything h (Notify r) (on_woken none some other) tt refl (knows.notifies h r there) go
    where
      go : (h' : P) (reply : Reply) → know.extends h h' → know.may_come h' (Notify r) reply → PlanFits know us res (after_reply (Notify r) reply) (on_woken none some other reply) h'
      go h' (Woken zero) more come = nobody h' more
      go h' (Woken (suc n)) more come = somebody h' more
      go h' NotOwner more come = refused h' more
      go h' reply more come = absurd (knows.fits h' (Notify r) reply come)

  pub starts_fit : (t p : ℕ) (k other : Plan) → know.may_want h (Start t p) → Later k → Later other → PlanFits know us res anything (want (Start t p) (on_started k other)) h
  starts_fit t p k other may next refused = knows.asks res anything h (Start t p) (on_started k other) tt refl may go
    where
      go : (h' : P) (reply : Reply) → know.extends h h' → know.may_come h' (Start t p) reply → PlanFits know us res (after_reply (Start t p) reply) (on_started k other reply) h'
      go h' (Number n) more come = next h' more
      go h' Already more come = refused h' more
      go h' reply more come = absurd (knows.fits h' (Start t p) reply come)

  pub prints_fit : (line : Line) (k : Plan) → LineFits know h line → Later k → PlanFits know us res anything (want (Print line) (on_done k)) h
  prints_fit line k fits next = knows.asks res anything h (Print line) (on_done k) tt refl (knows.prints h line fits) go
    where
      go : (h' : P) (reply : Reply) → know.extends h h' → know.may_come h' (Print line) reply → PlanFits know us res (after_reply (Print line) reply) (on_done k reply) h'
      go h' Done more come = next h' more
      go h' reply more come = absurd (knows.fits h' (Print line) reply come)

  pub joins_fit : (t : ℕ) (k : Plan) → know.may_want h (Join t) → Later k → PlanFits know us res anything (want (Join t) (on_done k)) h
  joins_fit t k may next = knows.asks res anything h (Join t) (on_done k) tt refl may go
    where
      go : (h' : P) (reply : Reply) → know.extends h h' → know.may_come h' (Join t) reply → PlanFits know us res (after_reply (Join t) reply) (on_done k reply) h'
      go h' Done more come = next h' more
      go h' reply more come = absurd (knows.fits h' (Join t) reply come)

  pub ends_fit : (x : Option ℕ) → PlanFits know us res anything (ends_thread x) h
  ends_fit x = knows.asks res anything h (End x) (on_done over) tt refl (knows.ends h x) go
    where
      go : (h' : P) (reply : Reply) → know.extends h h' → know.may_come h' (End x) reply → PlanFits know us res (after_reply (End x) reply) (on_done over reply) h'
      go h' Done more come = tt
      go h' reply more come = absurd (knows.fits h' (End x) reply come)

  -- the second half of a wait, right after the first one
  pub rewakes_fit : (r : ℕ) (k : Plan) → know.is_there h r → Later k → PlanFits know us res (a_wait r) (want (Rewake r) (on_done k)) h
  rewakes_fit r k there next = knows.asks res (a_wait r) h (Rewake r) (on_done k) refl refl (knows.rewakes h r there) go
    where
      go : (h' : P) (reply : Reply) → know.extends h h' → know.may_come h' (Rewake r) reply → PlanFits know us res (after_reply (Rewake r) reply) (on_done k reply) h'
      go h' Done more come = next h' more
      go h' reply more come = absurd (knows.fits h' (Rewake r) reply come)

  pub waits_fit : (r : ℕ) (k other : Plan) → know.is_there h r → ((h' : P) → know.extends h h' → PlanFits know us res (a_wait r) k h') → Later other
      → PlanFits know us res anything (want (Wait r) (on_owner k other)) h
  waits_fit r k other there next refused = knows.asks res anything h (Wait r) (on_owner k other) tt refl (knows.waits h r there) go
    where
      go : (h' : P) (reply : Reply) → know.extends h h' → know.may_come h' (Wait r) reply → PlanFits know us res (after_reply (Wait r) reply) (on_owner k other reply) h'
      go h' Done more come = next h' more
      go h' NotOwner more come = refused h' more
      go h' reply more come = absurd (knows.fits h' (Wait r) reply come)
