-- The handlers of a table, entry by entry.
use Rattle.std.proofs.Common.{◌≡◌, ◌+◌, ◌<◌, ℕ, zero, suc, List, [], ◌∷◌, ◌++◌, length, refl, sym, ap, subst, ◌∙◌, arith, inl, inr, length-append}
use Rattle.std.specs.Prelude.{Some, slice_get, ◌⊎◌}
use Rattle.std.proofs.lemmas.Bool.{cases_lt}
use Rattle.std.proofs.lemmas.Option.{same_Some, slice_get_within}
use Rattle.class_walk.specs.declared.class.Constant.{Constant}
use Rattle.class_walk.specs.declared.class.RawHandler.{RawHandler}
use Rattle.class_pool.proofs.Lists.{slice_get-push}
use Rattle.instructions.specs.declared.what.Instr.{Instr}
use Rattle.instructions.specs.declared.what.Target.{Target}
use Rattle.code_decode.specs.declared.code.Handler.{Handler}
use Rattle.code_decode.specs.declared.refusal.CodeRefusal.{CodeRefusal}
use Rattle.code_decode.specs.declared.refusal.CodeRefusal.TheVariants as refusals
use Rattle.code_decode.specs.Answer.{IsOnly, IsRefusal}
use Rattle.code_decode.specs.Handlers.{IsHandler, AreHandlers, StandsFor, IsFirstBadHandler, HandlersRefuse}

abbrev pub no_entry : RawHandler
no_entry = record { from = 0; to = 0; at = 0; kind = 0 }

-- the handlers of the entries before one
pub record AreHandlersTo (pool : List Constant) (steps : List (Instr Target)) (size : ℕ) (table : List RawHandler) (n : ℕ) (handlers : List Handler) : Type 0 where
  pub count : length handlers ≡ n
  pub each : (k : ℕ) (raw : RawHandler) (h : Handler) → slice_get table k ≡ Some raw → slice_get handlers k ≡ Some h → IsHandler pool steps size raw h

pub none_yet : (pool : List Constant) (steps : List (Instr Target)) (size : ℕ) (table : List RawHandler) → AreHandlersTo pool steps size table 0 []
none_yet pool steps size table = record { count = refl; each = λ k raw h at there. cc }

pub one_more : (pool : List Constant) (steps : List (Instr Target)) (size : ℕ) (table : List RawHandler) (n : ℕ) (handlers : List Handler) (raw : RawHandler) (h : Handler) → AreHandlersTo pool steps size table n handlers → slice_get table n ≡ Some raw → IsHandler pool steps size raw h → AreHandlersTo pool steps size table (n + 1) (handlers ++ h ∷ [])
one_more pool steps size table n handlers raw h before at is = record {
  count = length-append handlers (h ∷ []) ∙ omega (arith, before.count);
  each = λ k other g there last.
      elim (slice_get-push handlers h g k last) [
        | inl earlier ↦ before.each k other g there earlier
        | inr here ↦
            let P : ℕ → Type 0 = λ j. slice_get table j ≡ Some other in
            let same_raw : raw ≡ other = same_Some raw other (sym at ∙ subst P (here.0 ∙ before.count) there) in
            let Q : RawHandler → Type 0 = λ r. IsHandler pool steps size r g in
            let R : Handler → Type 0 = λ x. IsHandler pool steps size raw x in
            subst Q same_raw (subst R here.1 is)
      ];
}

abbrev made : ℕ → ℕ → ℕ → ℕ → ℕ → ℕ → ℕ → Handler
made from to at kind first end entry =
    record { from = from; to = to; at = at; kind = kind; first = first; end = end; entry = entry }

-- an entry stands for one handler
one_handler : (pool : List Constant) (steps : List (Instr Target)) (size : ℕ) (raw : RawHandler) (g h : Handler) → IsHandler pool steps size raw g → IsHandler pool steps size raw h → g ≡ h
one_handler pool steps size raw g h x y =
    let from : g.from ≡ h.from = x.places.0 ∙ sym y.places.0 in
    let to : g.to ≡ h.to = x.places.1 ∙ sym y.places.1 in
    let at : g.at ≡ h.at = x.places.2 ∙ sym y.places.2 in
    let kind : g.kind ≡ h.kind = x.places.3 ∙ sym y.places.3 in
    let first : g.first ≡ h.first = same_Some g.first h.first (sym x.first ∙ y.first) in
    let end : g.end ≡ h.end = same_Some g.end h.end (sym x.end ∙ y.end) in
    let entry : g.entry ≡ h.entry = same_Some g.entry h.entry (sym x.entry ∙ y.entry) in
    let same : made g.from g.to g.at g.kind g.first g.end g.entry ≡ made h.from h.to h.at h.kind h.first h.end h.entry = cc in
    same

-- lists of one length with the same items are one
pub same_items : {X : Type 0} (xs ys : List X) → length xs ≡ length ys → ((k : ℕ) (x y : X) → slice_get xs k ≡ Some x → slice_get ys k ≡ Some y → x ≡ y) → xs ≡ ys
same_items [] [] size same = refl
same_items [] (y ∷ ys) size same = absurd (omega arith)
same_items (x ∷ xs) [] size same = absurd (omega arith)
same_items (x ∷ xs) (y ∷ ys) size same =
    let head : x ≡ y = same 0 x y refl refl in
    let tail : xs ≡ ys = same_items xs ys (omega arith) (λ k. same (suc k)) in
    cc

-- what is at an index below the length
pub item_at : {X : Type 0} (xs : List X) (k : ℕ) → k < length xs → (x : X) × (slice_get xs k ≡ Some x)
item_at [] k within = absurd (omega arith)
item_at (x ∷ xs) zero within = (x, refl)
item_at (x ∷ xs) (suc k) within = item_at xs k (omega arith)

one_table : (pool : List Constant) (steps : List (Instr Target)) (size : ℕ) (table : List RawHandler) (gs hs : List Handler) → AreHandlers pool steps size table gs → AreHandlers pool steps size table hs → gs ≡ hs
one_table pool steps size table gs hs x y =
    same_items gs hs (x.count ∙ sym y.count)
    (λ k g h at there.
    let within : k < length table = omega (arith, slice_get_within gs k g at, x.count) in
    let raw = item_at table k within in
    one_handler pool steps size raw.0 g h (x.each k raw.0 g raw.1 at) (y.each k raw.0 h raw.1 there))

-- each entry of a table with handlers stands for one
stands : (pool : List Constant) (steps : List (Instr Target)) (size : ℕ) (table : List RawHandler) (n : ℕ) (handlers : List Handler) → AreHandlersTo pool steps size table n handlers → (k : ℕ) → k < n → StandsFor pool steps size table k
stands pool steps size table n handlers are k before raw at =
    let h = item_at handlers k (omega (arith, are.count)) in
    (h.0, are.each k raw h.0 at h.1)

all_to : (pool : List Constant) (steps : List (Instr Target)) (size : ℕ) (table : List RawHandler) (handlers : List Handler) → AreHandlers pool steps size table handlers → AreHandlersTo pool steps size table (length table) handlers
all_to pool steps size table handlers are = record { count = are.count; each = are.each }

-- where the table stands for handlers, nothing is refused
pub none_refused : (pool : List Constant) (steps : List (Instr Target)) (size : ℕ) (table : List RawHandler) (handlers : List Handler) → AreHandlers pool steps size table handlers → (e : CodeRefusal) → HandlersRefuse pool steps size table e → ⊥
none_refused pool steps size table handlers are e refused =
    let bad = refused.1 in
    let within : refused.0 < length table = slice_get_within table refused.0 bad.raw bad.there in
    let h = stands pool steps size table (length table) handlers (all_to pool steps size table handlers are) refused.0 within bad.raw bad.there in
    bad.bad h.0 h.1

-- all entries have been read
pub all_read : (pool : List Constant) (steps : List (Instr Target)) (size : ℕ) (table : List RawHandler) (n : ℕ) (handlers : List Handler) → AreHandlersTo pool steps size table n handlers → n ≡ length table → IsOnly (AreHandlers pool steps size table) (HandlersRefuse pool steps size table) handlers
all_read pool steps size table n handlers are all =
    let right : AreHandlers pool steps size table handlers = record { count = are.count ∙ all; each = are.each } in
    record {
      right = right;
      only = λ others x. one_table pool steps size table handlers others right x;
      accepted = none_refused pool steps size table handlers right;
    }

pub sides : (j k : ℕ) → (j < k) ⊎ ((k < j) ⊎ (j ≡ k))
sides j k = elim (cases_lt j k) [
  | inl before ↦ inl before
  | inr le ↦ elim (cases_lt k j) [
    | inl behind ↦ inr (inl behind)
    | inr ge ↦ inr (inr (omega arith))
  ]
]

-- the first bad entry is one
one_bad : (pool : List Constant) (steps : List (Instr Target)) (size : ℕ) (table : List RawHandler) (j k : ℕ) → IsFirstBadHandler pool steps size table j → IsFirstBadHandler pool steps size table k → (j < k) ⊎ ((k < j) ⊎ (j ≡ k)) → j ≡ k
one_bad pool steps size table j k x y side =
    elim side [
      | inl before ↦ let h = y.before j before x.raw x.there in absurd (x.bad h.0 h.1)
      | inr other ↦ elim other [
        | inl behind ↦ let h = x.before k behind y.raw y.there in absurd (y.bad h.0 h.1)
        | inr same ↦ same
      ]
    ]

-- an entry stands for no handler
pub bad_entry : (pool : List Constant) (steps : List (Instr Target)) (size : ℕ) (table : List RawHandler) (n : ℕ) (handlers : List Handler) (raw : RawHandler) → AreHandlersTo pool steps size table n handlers → slice_get table n ≡ Some raw → ((h : Handler) → IsHandler pool steps size raw h → ⊥) → IsRefusal (AreHandlers pool steps size table) (HandlersRefuse pool steps size table) (refusals.Handler n)
bad_entry pool steps size table n handlers raw are at bad =
    let first : IsFirstBadHandler pool steps size table n = record { raw = raw; there = at; bad = bad; before = stands pool steps size table n handlers are } in
    record {
      right = (n, first, refl);
      only = λ other refused. ap refusals.Handler (one_bad pool steps size table n refused.0 first refused.1 (sides n refused.0)) ∙ sym refused.2;
      none = λ others x. none_refused pool steps size table others x (refusals.Handler n) (n, first, refl);
    }
