-- The two laws of items: what is read is what the layout puts there, and what the layout puts there is read.
use Rattle.std.proofs.Common.{◌≡◌, ℕ, zero, suc, ◌<◌, true, List, [], ◌∷◌, ◌++◌, length, Option, Some, None, refl, sym, ap, subst, ◌∙◌, arith}
use Rattle.std.specs.Prelude.{slice_get, ◌==◌}
use Rattle.std.specs.List.{flat_map, AllByRecursion}
use Rattle.std.specs.Option.{option_and_then}
use Rattle.std.proofs.lemmas.Bool.{eqb-true}
use Rattle.std.proofs.lemmas.List.Concat.{flat_map-cons}
use Rattle.class_walk.specs.declared.class.Constant.{Constant}
use Rattle.class_walk.specs.declared.class.Constant.TheVariants as constants
use Rattle.class_walk.specs.Layout.{u1, u2, table, IsCounted}
use Rattle.class_walk.proofs.Fields.{wide1, wide2}
use Rattle.instructions.specs.declared.what.Instr.{Instr}
use Rattle.instructions.specs.declared.what.Target.{Target}
use Rattle.instructions.specs.declared.what.What.{What}
use Rattle.instructions.specs.declared.what.What.TheVariants as instructions
use Rattle.instructions.specs.declared.operation.ClassUse.TheVariants.{New}
use Rattle.instructions.specs.Steps.{number_at}
use Rattle.code_frames.specs.declared.types.VType.{VType}
use Rattle.code_frames.specs.declared.types.VType.TheVariants.{Top, Int, Float, Double, Long, Null, UninitThis, Object, Uninit, Entry}
use Rattle.code_frames.specs.StackMap.{item, IsNewAt, IsItem}
use Rattle.class_walk.specs.Layout.{IsBytes}
use Rattle.class_pool.specs.PoolTest.{is_class_entry}
use Rattle.code_frames.specs.Reading.{unsigned_at, is_new, makes_object, is_new_at, object_at, uninit_at, tagged_item_at, item_at, items_at, items_table_at}
use Rattle.code_frames.proofs.ByteLaws.{Takes, Takes-nothing, Takes-then, split_then, bind_then, found, some_is, chosen, unsigned_takes, unsigned_again}

-- ---- Class entries and instructions `new`

is_class_then : (o : Option Constant) → is_class_entry o ≡ true → (name : ℕ) × (o ≡ Some (constants.Class name))
is_class_then (Some (constants.Class name)) e = (name, refl)
is_class_then _ e = absurd cc

then_is_class : (o : Option Constant) → ((name : ℕ) × (o ≡ Some (constants.Class name))) → is_class_entry o ≡ true
then_is_class o found = rw found.1 refl

is_new_then : (what : What Target) → is_new what ≡ true → (class : ℕ) × (what ≡ instructions.Class New class)
is_new_then (instructions.Class New class) e = (class, refl)
is_new_then _ e = absurd cc

makes_object_then : (o : Option (Instr Target)) → makes_object o ≡ true → (i : Instr Target) × (class : ℕ) × (o ≡ Some i) × (i.what ≡ instructions.Class New class)
makes_object_then (Some i) e = let found = is_new_then i.what e in (i, found.0, refl, found.1)
makes_object_then None e = absurd cc

is_new_at_then : (steps : List (Instr Target)) (at : ℕ) (n : Option ℕ) → number_at steps at ≡ n → makes_object (option_and_then (slice_get steps) n) ≡ true → IsNewAt steps at
is_new_at_then steps at (Some number) there e =
    let found = makes_object_then (slice_get steps number) e in
    (number, found.1, found.0, there, found.2, found.3)
is_new_at_then steps at None there e = absurd cc

then_is_new_at : (steps : List (Instr Target)) (at : ℕ) → IsNewAt steps at → is_new_at steps at ≡ true
then_is_new_at steps at found = rw (found.3, found.4, found.5) refl

-- ---- one item

-- what an item of a tag is
record Tagged (pool : List Constant) (steps : List (Instr Target)) (tag : ℕ) (bytes : List ℕ) (x : VType) (others : List ℕ) : Type 0 where
  pub text : List ℕ
  pub whole : item x ≡ u1 tag ++ text
  pub taken : Takes bytes text others
  pub right : IsItem pool steps x

plain : (pool : List Constant) (steps : List (Instr Target)) (x : VType) (tag : ℕ) (bytes : List ℕ) (y : VType) (others : List ℕ) → IsBytes bytes
    → item x ≡ u1 tag → IsItem pool steps x → found x bytes ≡ found y others → Tagged pool steps tag bytes y others
plain pool steps x tag bytes y others fits whole right e =
    subst (λ (z : VType × List ℕ). Tagged pool steps tag bytes z.0 z.1) {x = (x, bytes)} (some_is (x, bytes) (y, others) e)
    (record { text = []; whole = whole; taken = Takes-nothing bytes fits; right = right })

object_takes : (pool : List Constant) (steps : List (Instr Target)) (bytes : List ℕ) (x : VType) (others : List ℕ) → IsBytes bytes
    → object_at pool bytes ≡ Some (x, others) → Tagged pool steps 7 bytes x others
unfolding object_at
object_takes pool steps bytes x others fits e =
    bind_then (unsigned_at 2 bytes) _ _ _ e (λ index read e.
    chosen (is_class_entry (slice_get pool index.0)) (Some (Object index.0, index.1)) None (Some (x, others)) _ e
    (λ is same.
    let taken = unsigned_takes 2 wide2 bytes index.0 index.1 fits read in
    subst (λ (z : VType × List ℕ). Tagged pool steps 7 bytes z.0 z.1) {x = (Object index.0, index.1)} (some_is _ (x, others) same)
    (record { text = u2 index.0; whole = refl; taken = taken.0; right = (taken.1, is_class_then _ is) }))
    (λ not none. absurd cc))

uninit_takes : (pool : List Constant) (steps : List (Instr Target)) (bytes : List ℕ) (x : VType) (others : List ℕ) → IsBytes bytes
    → uninit_at steps bytes ≡ Some (x, others) → Tagged pool steps 8 bytes x others
unfolding uninit_at
uninit_takes pool steps bytes x others fits e =
    bind_then (unsigned_at 2 bytes) _ _ _ e (λ at read e.
    chosen (is_new_at steps at.0) (Some (Uninit at.0, at.1)) None (Some (x, others)) _ e
    (λ is same.
    let taken = unsigned_takes 2 wide2 bytes at.0 at.1 fits read in
    subst (λ (z : VType × List ℕ). Tagged pool steps 8 bytes z.0 z.1) {x = (Uninit at.0, at.1)} (some_is _ (x, others) same)
    (record { text = u2 at.0; whole = refl; taken = taken.0; right = (taken.1, is_new_at_then steps at.0 _ refl is) }))
    (λ not none. absurd cc))

of_tag : (pool : List Constant) (steps : List (Instr Target)) (tag : ℕ) (wanted : ℕ) (bytes : List ℕ) (x : VType) (others : List ℕ) → (tag == wanted) ≡ true
    → Tagged pool steps wanted bytes x others → Tagged pool steps tag bytes x others
of_tag pool steps tag wanted bytes x others same tagged =
    subst (λ (n : ℕ). Tagged pool steps n bytes x others) (sym (eqb-true tag wanted same)) tagged

tagged_takes : (pool : List Constant) (steps : List (Instr Target)) (tag : ℕ) (bytes : List ℕ) (x : VType) (others : List ℕ) → IsBytes bytes
    → tagged_item_at pool steps tag bytes ≡ Some (x, others) → Tagged pool steps tag bytes x others
unfolding tagged_item_at
tagged_takes pool steps tag bytes x others fits e =
    chosen (tag == 0) _ _ _ _ e (λ is e. of_tag pool steps tag 0 bytes x others is (plain pool steps Top 0 bytes x others fits refl tt e)) (λ not e.
    chosen (tag == 1) _ _ _ _ e (λ is e. of_tag pool steps tag 1 bytes x others is (plain pool steps Int 1 bytes x others fits refl tt e)) (λ not e.
    chosen (tag == 2) _ _ _ _ e (λ is e. of_tag pool steps tag 2 bytes x others is (plain pool steps Float 2 bytes x others fits refl tt e)) (λ not e.
    chosen (tag == 3) _ _ _ _ e (λ is e. of_tag pool steps tag 3 bytes x others is (plain pool steps Double 3 bytes x others fits refl tt e)) (λ not e.
    chosen (tag == 4) _ _ _ _ e (λ is e. of_tag pool steps tag 4 bytes x others is (plain pool steps Long 4 bytes x others fits refl tt e)) (λ not e.
    chosen (tag == 5) _ _ _ _ e (λ is e. of_tag pool steps tag 5 bytes x others is (plain pool steps Null 5 bytes x others fits refl tt e)) (λ not e.
    chosen (tag == 6) _ _ _ _ e (λ is e. of_tag pool steps tag 6 bytes x others is (plain pool steps UninitThis 6 bytes x others fits refl tt e)) (λ not e.
    chosen (tag == 7) _ _ _ _ e (λ is e. of_tag pool steps tag 7 bytes x others is (object_takes pool steps bytes x others fits e)) (λ not e.
    chosen (tag == 8) _ _ _ _ e (λ is e. of_tag pool steps tag 8 bytes x others is (uninit_takes pool steps bytes x others fits e)) (λ not e. absurd cc)))))))))

pub item_takes : (pool : List Constant) (steps : List (Instr Target)) (bytes : List ℕ) (x : VType) (others : List ℕ) → IsBytes bytes
    → item_at pool steps bytes ≡ Some (x, others) → Takes bytes (item x) others × IsItem pool steps x
unfolding item_at
item_takes pool steps bytes x others fits e =
    bind_then (unsigned_at 1 bytes) _ _ _ e (λ tag read e.
    let taken = unsigned_takes 1 wide1 bytes tag.0 tag.1 fits read in
    let tagged = tagged_takes pool steps tag.0 tag.1 x others taken.0.fits e in
    (rw tagged.whole (Takes-then taken.0 tagged.taken), tagged.right))

-- the item of a tag alone
tag_again : (pool : List Constant) (steps : List (Instr Target)) (tag : ℕ) (x : VType) (bytes others : List ℕ) → tag < 256 → bytes ≡ u1 tag ++ others
    → tagged_item_at pool steps tag others ≡ Some (x, others) → item_at pool steps bytes ≡ Some (x, others)
unfolding item_at
tag_again pool steps tag x bytes others lt parts e = rw (unsigned_again 1 bytes tag others lt parts) e

pub item_again : (pool : List Constant) (steps : List (Instr Target)) (x : VType) (bytes others : List ℕ) → IsItem pool steps x → bytes ≡ item x ++ others
    → item_at pool steps bytes ≡ Some (x, others)
unfolding item_at tagged_item_at object_at uninit_at
item_again pool steps Top bytes others right parts = tag_again pool steps 0 Top bytes others (omega arith) parts refl
item_again pool steps Int bytes others right parts = tag_again pool steps 1 Int bytes others (omega arith) parts refl
item_again pool steps Float bytes others right parts = tag_again pool steps 2 Float bytes others (omega arith) parts refl
item_again pool steps Double bytes others right parts = tag_again pool steps 3 Double bytes others (omega arith) parts refl
item_again pool steps Long bytes others right parts = tag_again pool steps 4 Long bytes others (omega arith) parts refl
item_again pool steps Null bytes others right parts = tag_again pool steps 5 Null bytes others (omega arith) parts refl
item_again pool steps UninitThis bytes others right parts = tag_again pool steps 6 UninitThis bytes others (omega arith) parts refl
item_again pool steps (Object index) bytes others right parts =
    split_then bytes (u1 7) (u2 index) others _ parts (λ rest tag number.
    rw (unsigned_again 1 bytes 7 rest (omega arith) tag, unsigned_again 2 rest index others right.0 number, then_is_class (slice_get pool index) right.1) refl)
item_again pool steps (Uninit at) bytes others right parts =
    split_then bytes (u1 8) (u2 at) others _ parts (λ rest tag number.
    rw (unsigned_again 1 bytes 8 rest (omega arith) tag, unsigned_again 2 rest at others right.0 number, then_is_new_at steps at right.1) refl)
item_again pool steps (Entry local) bytes others right parts = absurd right

-- ---- items

pub items_take : (pool : List Constant) (steps : List (Instr Target)) (n : ℕ) (bytes : List ℕ) (xs : List VType) (others : List ℕ) → IsBytes bytes
    → items_at pool steps n bytes ≡ Some (xs, others) → Takes bytes (flat_map item xs) others × (length xs ≡ n) × AllByRecursion (IsItem pool steps) xs
unfolding items_at
items_take pool steps zero bytes xs others fits e =
    subst (λ (y : List VType × List ℕ). Takes bytes (flat_map item y.0) y.1 × (length y.0 ≡ 0) × AllByRecursion (IsItem pool steps) y.0) {x = ([], bytes)} (some_is ([], bytes) (xs, others) e)
    (Takes-nothing bytes fits, refl, tt)
items_take pool steps (suc n) bytes xs others fits e =
    bind_then (item_at pool steps bytes) _ _ _ e (λ first read e.
    bind_then (items_at pool steps n first.1) _ _ _ e (λ more reads e.
    let t = item_takes pool steps bytes first.0 first.1 fits read in
    let u = items_take pool steps n first.1 more.0 more.1 t.0.fits reads in
    subst (λ (y : List VType × List ℕ). Takes bytes (flat_map item y.0) y.1 × (length y.0 ≡ suc n) × AllByRecursion (IsItem pool steps) y.0) {x = (first.0 ∷ more.0, more.1)} (some_is _ (xs, others) e)
    (rw flat_map-cons (Takes-then t.0 u.0), ap suc u.1, (t.1, u.2))))

pub items_again : (pool : List Constant) (steps : List (Instr Target)) (xs : List VType) (bytes others : List ℕ) → AllByRecursion (IsItem pool steps) xs → bytes ≡ flat_map item xs ++ others
    → items_at pool steps (length xs) bytes ≡ Some (xs, others)
unfolding items_at
items_again pool steps [] bytes others right parts = ap (λ (rest : List ℕ). Some ([], rest)) parts
items_again pool steps (x ∷ xs) bytes others right parts =
    let whole : bytes ≡ (item x ++ flat_map item xs) ++ others = parts ∙ ap (λ (text : List ℕ). text ++ others) (flat_map-cons item x xs) in
    split_then bytes (item x) (flat_map item xs) others _ whole (λ rest first more.
    rw (item_again pool steps x bytes rest right.0 first, items_again pool steps xs rest others right.1 more) refl)

pub table_takes : (pool : List Constant) (steps : List (Instr Target)) (bytes : List ℕ) (xs : List VType) (others : List ℕ) → IsBytes bytes
    → items_table_at pool steps bytes ≡ Some (xs, others) → Takes bytes (table item xs) others × IsCounted (IsItem pool steps) xs
unfolding items_table_at
table_takes pool steps bytes xs others fits e =
    bind_then (unsigned_at 2 bytes) _ _ _ e (λ count read e.
    let t = unsigned_takes 2 wide2 bytes count.0 count.1 fits read in
    let u = items_take pool steps count.0 count.1 xs others t.0.fits e in
    (subst (λ (n : ℕ). Takes bytes (u2 n ++ flat_map item xs) others) (sym u.1) (Takes-then t.0 u.0), (omega (arith, t.1, u.1), u.2)))

pub table_again : (pool : List Constant) (steps : List (Instr Target)) (xs : List VType) (bytes others : List ℕ) → IsCounted (IsItem pool steps) xs → bytes ≡ table item xs ++ others
    → items_table_at pool steps bytes ≡ Some (xs, others)
unfolding items_table_at
table_again pool steps xs bytes others right parts =
    split_then bytes (u2 (length xs)) (flat_map item xs) others _ parts (λ rest count items.
    rw (unsigned_again 2 bytes (length xs) rest right.0 count) (items_again pool steps xs rest others right.1 items))
