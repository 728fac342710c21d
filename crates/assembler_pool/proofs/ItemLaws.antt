-- Items in a pool.
use Rattle.std.proofs.Common.{◌≡◌, ℕ, List, Some, slice_get, false, refl}
use Rattle.class_walk.specs.declared.class.Constant.{Constant}
use Rattle.class_walk.specs.declared.class.Constant.TheVariants.{Utf8, Integer, Long, Class, Str, Field, Method, IfaceMethod, Pair}
use Rattle.class_walk.specs.Layout.{is_gap}
use Rattle.class_pool.specs.Pool.{IsUtf8At, IsClassAt, IsPairAt}
use Rattle.class_names.specs.ShortestForms.{encoded}
use Rattle.assembler_pool.specs.Uses.{◌>>=◌, entry, class_entry, string_entry, pair_entry, member_entry, Extends}
use Rattle.assembler_pool.specs.Items.{Item, text, integer, long, class_named, string, field, method, interface_method, use_of, IsItemAt}
use Rattle.assembler_pool.proofs.EntryLaws.{get-append}
use Rattle.assembler_pool.proofs.UseLaws.{entry_is_at, IsKept, entry_kept, then_kept}

-- each use keeps what is there
pub class_kept : (name : List ℕ) → IsKept (class_entry name)
unfolding class_entry
class_kept name = then_kept (entry (Utf8 name)) (λ n. entry (Class n)) (entry_kept (Utf8 name) refl) (λ n. entry_kept (Class n) refl)

pub string_kept : (units : List ℕ) → IsKept (string_entry units)
unfolding string_entry
string_kept units = then_kept (entry (Utf8 (encoded units))) (λ t. entry (Str t)) (entry_kept (Utf8 (encoded units)) refl) (λ t. entry_kept (Str t) refl)

pub pair_kept : (name descriptor : List ℕ) → IsKept (pair_entry name descriptor)
unfolding pair_entry
pair_kept name descriptor =
    then_kept (entry (Utf8 name)) (λ n. entry (Utf8 descriptor) >>= λ d. entry (Pair n d)) (entry_kept (Utf8 name) refl)
    (λ n. then_kept (entry (Utf8 descriptor)) (λ d. entry (Pair n d)) (entry_kept (Utf8 descriptor) refl) (λ d. entry_kept (Pair n d) refl))

pub member_kept : (member : ℕ → ℕ → Constant) (class name descriptor : List ℕ) → ((c p : ℕ) → is_gap (member c p) ≡ false) → IsKept (member_entry member class name descriptor)
unfolding member_entry
member_kept member class name descriptor no_gap =
    then_kept (class_entry class) (λ c. pair_entry name descriptor >>= λ p. entry (member c p)) (class_kept class)
    (λ c. then_kept (pair_entry name descriptor) (λ p. entry (member c p)) (pair_kept name descriptor) (λ p. entry_kept (member c p) (no_gap c p)))

pub item_kept : (item : Item) → IsKept (use_of item)
item_kept (text bytes) = entry_kept (Utf8 bytes) refl
item_kept (integer value) = entry_kept (Integer value) refl
item_kept (long value) = entry_kept (Long value) refl
item_kept (class_named name) = class_kept name
item_kept (string units) = string_kept units
item_kept (field class name descriptor) = member_kept (λ c p. Field c p) class name descriptor (λ c p. refl)
item_kept (method class name descriptor) = member_kept (λ c p. Method c p) class name descriptor (λ c p. refl)
item_kept (interface_method class name descriptor) = member_kept (λ c p. IfaceMethod c p) class name descriptor (λ c p. refl)

-- entries keep their indices
get_stays : (old new : List Constant) (index : ℕ) (c : Constant) → Extends old new → slice_get old index ≡ Some c → slice_get new index ≡ Some c
get_stays old new index c more at = rw more.1 (get-append old more.0 index c at)

class_stays : (old new : List Constant) (index : ℕ) (name : List ℕ) → Extends old new → IsClassAt old index name → IsClassAt new index name
class_stays old new index name more at = (at.0, get_stays old new index (Class at.0) more at.1, get_stays old new at.0 (Utf8 name) more at.2)

pair_stays : (old new : List Constant) (index : ℕ) (name descriptor : List ℕ) → Extends old new → IsPairAt old index name descriptor → IsPairAt new index name descriptor
pair_stays old new index name descriptor more at =
    (at.0, at.1, get_stays old new index (Pair at.0 at.1) more at.2, get_stays old new at.0 (Utf8 name) more at.3, get_stays old new at.1 (Utf8 descriptor) more at.4)

-- a member at an index
abbrev IsMemberAt : (ℕ → ℕ → Constant) → List Constant → ℕ → List ℕ → List ℕ → List ℕ → Type 0
IsMemberAt member pool index class name descriptor =
    (c p : ℕ) × (slice_get pool index ≡ Some (member c p)) × IsClassAt pool c class × IsPairAt pool p name descriptor

member_stays : (member : ℕ → ℕ → Constant) (old new : List Constant) (index : ℕ) (class name descriptor : List ℕ) → Extends old new
    → IsMemberAt member old index class name descriptor → IsMemberAt member new index class name descriptor
member_stays member old new index class name descriptor more at =
    (at.0, at.1, get_stays old new index (member at.0 at.1) more at.2, class_stays old new at.0 class more at.3, pair_stays old new at.1 name descriptor more at.4)

pub item_stays : (item : Item) (old new : List Constant) (index : ℕ) → Extends old new → IsItemAt old index item → IsItemAt new index item
item_stays (text bytes) old new index more at = get_stays old new index (Utf8 bytes) more at
item_stays (integer value) old new index more at = get_stays old new index (Integer value) more at
item_stays (long value) old new index more at = get_stays old new index (Long value) more at
item_stays (class_named name) old new index more at = class_stays old new index name more at
item_stays (string units) old new index more at = (at.0, get_stays old new index (Str at.0) more at.1, get_stays old new at.0 (Utf8 (encoded units)) more at.2)
item_stays (field class name descriptor) old new index more at = member_stays (λ c p. Field c p) old new index class name descriptor more at
item_stays (method class name descriptor) old new index more at = member_stays (λ c p. Method c p) old new index class name descriptor more at
item_stays (interface_method class name descriptor) old new index more at = member_stays (λ c p. IfaceMethod c p) old new index class name descriptor more at

-- an entry of one part, at its index
one_part : (whole : ℕ → Constant) (part : List ℕ) (pool : List Constant) → ((n : ℕ) → is_gap (whole n) ≡ false)
    → (n : ℕ) × (slice_get ((entry (Utf8 part) >>= λ m. entry (whole m)) pool).0 ((entry (Utf8 part) >>= λ m. entry (whole m)) pool).1 ≡ Some (whole n)) × IsUtf8At ((entry (Utf8 part) >>= λ m. entry (whole m)) pool).0 n part
unfolding ◌>>=◌
one_part whole part pool no_gap =
    let first = entry (Utf8 part) pool in (
      first.1,
      entry_is_at (whole first.1) first.0,
      get_stays first.0 (entry (whole first.1) first.0).0 first.1 (Utf8 part) ((entry_kept (whole first.1) (no_gap first.1)).grows first.0) (entry_is_at (Utf8 part) pool),
    )

class_is_at : (name : List ℕ) (pool : List Constant) → IsClassAt (class_entry name pool).0 (class_entry name pool).1 name
unfolding class_entry
class_is_at name pool = one_part (λ n. Class n) name pool (λ n. refl)

string_is_at : (units : List ℕ) (pool : List Constant) → IsItemAt (string_entry units pool).0 (string_entry units pool).1 (string units)
unfolding string_entry
string_is_at units pool = one_part (λ t. Str t) (encoded units) pool (λ t. refl)

pair_is_at : (name descriptor : List ℕ) (pool : List Constant) → IsPairAt (pair_entry name descriptor pool).0 (pair_entry name descriptor pool).1 name descriptor
unfolding pair_entry ◌>>=◌
pair_is_at name descriptor pool =
    let first = entry (Utf8 name) pool in
    let second = entry (Utf8 descriptor) first.0 in
    let whole = Pair first.1 second.1 in
    let last = entry whole second.0 in
    let grown = (entry_kept whole refl).grows second.0 in
    let there : slice_get second.0 first.1 ≡ Some (Utf8 name) =
    get_stays first.0 second.0 first.1 (Utf8 name) ((entry_kept (Utf8 descriptor) refl).grows first.0) (entry_is_at (Utf8 name) pool) in (
      first.1,
      second.1,
      entry_is_at whole second.0,
      get_stays second.0 last.0 first.1 (Utf8 name) grown there,
      get_stays second.0 last.0 second.1 (Utf8 descriptor) grown (entry_is_at (Utf8 descriptor) first.0),
    )

member_is_at : (member : ℕ → ℕ → Constant) (class name descriptor : List ℕ) (pool : List Constant) → ((c p : ℕ) → is_gap (member c p) ≡ false)
    → IsMemberAt member (member_entry member class name descriptor pool).0 (member_entry member class name descriptor pool).1 class name descriptor
unfolding member_entry ◌>>=◌
member_is_at member class name descriptor pool no_gap =
    let first = class_entry class pool in
    let second = pair_entry name descriptor first.0 in
    let whole = member first.1 second.1 in
    let last = entry whole second.0 in
    let grown = (entry_kept whole (no_gap first.1 second.1)).grows second.0 in
    let there = class_stays first.0 second.0 first.1 class ((pair_kept name descriptor).grows first.0) (class_is_at class pool) in (
      first.1,
      second.1,
      entry_is_at whole second.0,
      class_stays second.0 last.0 first.1 class grown there,
      pair_stays second.0 last.0 second.1 name descriptor grown (pair_is_at name descriptor first.0),
    )

pub item_is_at : (item : Item) (pool : List Constant) → IsItemAt (use_of item pool).0 (use_of item pool).1 item
item_is_at (text bytes) pool = entry_is_at (Utf8 bytes) pool
item_is_at (integer value) pool = entry_is_at (Integer value) pool
item_is_at (long value) pool = entry_is_at (Long value) pool
item_is_at (class_named name) pool = class_is_at name pool
item_is_at (string units) pool = string_is_at units pool
item_is_at (field class name descriptor) pool = member_is_at (λ c p. Field c p) class name descriptor pool (λ c p. refl)
item_is_at (method class name descriptor) pool = member_is_at (λ c p. Method c p) class name descriptor pool (λ c p. refl)
item_is_at (interface_method class name descriptor) pool = member_is_at (λ c p. IfaceMethod c p) class name descriptor pool (λ c p. refl)
