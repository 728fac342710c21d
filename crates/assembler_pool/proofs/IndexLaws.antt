-- Indices that are known, when an entry is put at the end.
use Rattle.std.proofs.Common.{◌≡◌, ℕ, ◌+◌, ◌<◌, ◌≤◌, ◌^◌, Bool, true, false, cond, List, ◌++◌, length, Option, Some, None, ◌⊎◌, inl, inr, refl, sym, ap, subst, ◌∙◌, bytes_eq, arith, Result, Ok, Err, IfOk, OnErr}
use Rattle.std.specs.BTreeMap as tree
use Rattle.std.specs.BTreeMap.{BTreeMap}
use Rattle.std.specs.Cmp.Lexicographic.{slice_cmp}
use Rattle.std.specs.Map.{update, lookup, KeepsOthers}
use Rattle.std.specs.Ordering.{nat_cmp, is_eq, eq_by_cmp}
use Rattle.std.specs.declared.cmp.Ordering.{Ordering}
use Rattle.std.proofs.lemmas.Bool.{cases_Bool, cond-true, cond-false}
use Rattle.std.proofs.lemmas.Cmp.{eq_by_cmp_equiv, nat_list_cmp_total, nat_list_eq_equiv}
use Rattle.std.proofs.lemmas.Map.Text.{is_eq-slice_cmp}
use Rattle.std.proofs.lemmas.Slice.Eq.{bytes_eq-Decides}
use Rattle.class_walk.specs.declared.class.Constant.{Constant}
use Rattle.class_walk.specs.declared.class.Constant.TheVariants.{Utf8}
use Rattle.class_walk.specs.Layout.{Fits}
use Rattle.assembler_pool.specs.declared.key.Key.{Key}
use Rattle.assembler_pool.specs.declared.refusal.PoolRefusal.{PoolRefusal}
use Rattle.assembler_pool.specs.declared.refusal.PoolRefusal.TheVariants.{Full}
use Rattle.assembler_pool.specs.Key.{constant_of}
use Rattle.assembler_pool.specs.Uses.{is_same, index_of, slots}
use Rattle.assembler_pool.specs.Indexed.{IsIndexed}
use Rattle.assembler_pool.proofs.SameLaws.{same_are_equal, gap_is_other, text_is_other, key_is_other, key_is_no_gap}
use Rattle.assembler_pool.proofs.EntryLaws.{found_or, found_or-none, position-pushed, made-pushed}

index-pushed : (pool : List Constant) (c d : Constant) → index_of d (pool ++ slots c) ≡ found_or (index_of d pool) (cond (is_same c d) (Some (0 + length pool)) None)
index-pushed pool c d = position-pushed (λ e. is_same e d) 0 pool c (gap_is_other d)

-- entries of a kind to which the new one doesn't belong
known_still : {Q : Type 0} (entry_of : Q → Constant) (known : Q → Option ℕ) (pool : List Constant) (c : Constant) → ((q : Q) → is_same c (entry_of q) ≡ false)
    → ((q : Q) → known q ≡ index_of (entry_of q) pool) → (q : Q) → known q ≡ index_of (entry_of q) (pool ++ slots c)
known_still entry_of known pool c other agree q =
    let pushed : index_of (entry_of q) (pool ++ slots c) ≡ found_or (index_of (entry_of q) pool) None = rw (other q) at (index-pushed pool c (entry_of q)) in
    agree q ∙ sym (found_or-none (index_of (entry_of q) pool)) ∙ sym pushed

-- entries of the kind of the new one
known_now : {Q : Type 0} (entry_of : Q → Constant) (equal : Q → Q → Bool) (known next : Q → Option ℕ) (pool : List Constant) (k : Q)
    → ((q : Q) → equal k q ≡ is_same (entry_of k) (entry_of q)) → ((q : Q) → next q ≡ update equal known k (Some (length pool)) q) → known k ≡ None
    → ((q : Q) → known q ≡ index_of (entry_of q) pool) → (q : Q) → next q ≡ index_of (entry_of q) (pool ++ slots (entry_of k))
known_now {Q} entry_of equal known next pool k is changes new agree q = by_cases (cases_Bool (is_same (entry_of k) (entry_of q)))
  where
    by_cases : (is_same (entry_of k) (entry_of q) ≡ true) ⊎ (is_same (entry_of k) (entry_of q) ≡ false) → next q ≡ index_of (entry_of q) (pool ++ slots (entry_of k))
    by_cases (inl same) =
        let equals : entry_of k ≡ entry_of q = same_are_equal (entry_of k) (entry_of q) same in
        let none : index_of (entry_of q) pool ≡ None = ap (λ (c : Constant). index_of c pool) (sym equals) ∙ sym (agree k) ∙ new in
        let pushed : index_of (entry_of q) (pool ++ slots (entry_of k)) ≡ found_or (index_of (entry_of q) pool) (Some (0 + length pool)) = rw same at (index-pushed pool (entry_of k) (entry_of q)) in
        let here : index_of (entry_of q) (pool ++ slots (entry_of k)) ≡ Some (0 + length pool) = pushed ∙ ap (λ (o : Option ℕ). found_or o (Some (0 + length pool))) none in
        let sum : length pool ≡ 0 + length pool = omega arith in
        changes q ∙ cond-true (equal k q) (Some (length pool)) (known q) (is q ∙ same) ∙ ap (λ (n : ℕ). some_of n) sum ∙ sym here
      where
        some_of : ℕ → Option ℕ
        some_of n = Some n
    by_cases (inr other) =
        let pushed : index_of (entry_of q) (pool ++ slots (entry_of k)) ≡ found_or (index_of (entry_of q) pool) None = rw other at (index-pushed pool (entry_of k) (entry_of q)) in
        changes q ∙ cond-false (equal k q) (Some (length pool)) (known q) (is q ∙ other) ∙ agree q ∙ sym (found_or-none (index_of (entry_of q) pool)) ∙ sym pushed

module _ (pool : List Constant) (text_at : List ℕ → Option ℕ) (entry_at : Key → Option ℕ) (indexed : IsIndexed pool text_at entry_at) where
  -- a new text
  pub text-indexed : (next : List ℕ → Option ℕ) (text : List ℕ) → length text < 2 ^ 16 → length (pool ++ slots (Utf8 text)) < 2 ^ 16 → text_at text ≡ None
      → ((q : List ℕ) → next q ≡ update bytes_eq text_at text (Some (length pool)) q) → IsIndexed (pool ++ slots (Utf8 text)) next entry_at
  text-indexed next text short count new changes = record {
    made = made-pushed pool (Utf8 text) refl short count (sym (indexed.texts text) ∙ new) indexed.made;
    texts = known_now (λ t. Utf8 t) bytes_eq text_at next pool text (λ q. refl) changes new indexed.texts;
    others = known_still constant_of entry_at pool (Utf8 text) (λ q. text_is_other text q) indexed.others;
  }

  -- a new entry of another kind
  pub key-indexed : (equal : Key → Key → Bool) (next : Key → Option ℕ) (key : Key) → ((a b : Key) → equal a b ≡ is_same (constant_of a) (constant_of b)) → Fits (constant_of key)
      → length (pool ++ slots (constant_of key)) < 2 ^ 16 → entry_at key ≡ None
      → ((q : Key) → next q ≡ update equal entry_at key (Some (length pool)) q) → IsIndexed (pool ++ slots (constant_of key)) text_at next
  key-indexed equal next key is fits count new changes = record {
    made = made-pushed pool (constant_of key) (key_is_no_gap key) fits count (sym (indexed.others key) ∙ new) indexed.made;
    texts = known_still (λ t. Utf8 t) text_at pool (constant_of key) (λ q. key_is_other key q) indexed.texts;
    others = known_now constant_of equal entry_at next pool key (λ q. is key q) changes new indexed.others;
  }

-- a map with byte keys, read by bytes, after a change at some bytes
module _ {K : Type 0} (items : K → List ℕ) (bs : List ℕ) where
  text_updates : (m n : BTreeMap K ℕ) (w : Option ℕ) → tree.UpdatesBy (λ x y. slice_cmp nat_cmp (items x) (items y)) (λ k. slice_cmp nat_cmp bs (items k)) m n w
      → (cs : List ℕ) → tree.get_by (λ k. slice_cmp nat_cmp cs (items k)) n ≡ update bytes_eq (λ ds. tree.get_by (λ k. slice_cmp nat_cmp ds (items k)) m) bs w cs
  unfolding KeepsOthers
  text_updates m n w changes cs = by_cases (cases_Bool (bytes_eq bs cs))
    where
      by_cases : (bytes_eq bs cs ≡ true) ⊎ (bytes_eq bs cs ≡ false) → tree.get_by (λ k. slice_cmp nat_cmp cs (items k)) n ≡ cond (bytes_eq bs cs) w (tree.get_by (λ k. slice_cmp nat_cmp cs (items k)) m)
      by_cases (inl same) =
          let P : List ℕ → Type 0 = λ ds. tree.get_by (λ k. slice_cmp nat_cmp ds (items k)) n ≡ w in
          subst P ((bytes_eq-Decides bs cs).0 same) changes.1 ∙ sym (cond-true (bytes_eq bs cs) w (tree.get_by (λ k. slice_cmp nat_cmp cs (items k)) m) same)
      by_cases (inr other) =
          changes.3 (λ k. is_eq (slice_cmp nat_cmp cs (items k))) (λ x y. (eq_by_cmp_equiv nat_list_cmp_total).congr cs (items x) (items y)) apart
          ∙ sym (cond-false (bytes_eq bs cs) w (tree.get_by (λ k. slice_cmp nat_cmp cs (items k)) m) other)
        where
          apart : (k : K) → is_eq (slice_cmp nat_cmp bs (items k)) ≡ true → is_eq (slice_cmp nat_cmp cs (items k)) ≡ false
          apart k e =
              let same : bytes_eq bs (items k) ≡ true = sym (is_eq-slice_cmp bs (items k)) ∙ e in
              is_eq-slice_cmp cs (items k) ∙ nat_list_eq_equiv.symm cs (items k) ∙ sym (nat_list_eq_equiv.congr bs (items k) cs same) ∙ other

-- after an entry was put at the end, or wasn't
pub record Puts (K : Type 0) (cmp : K → K → Ordering) (r : Result ℕ PoolRefusal) (pool new : List Constant) (m n : BTreeMap K ℕ) (key : K) (c : Constant) : Type 0 where
  pub index : IfOk r (λ index. index ≡ length pool)
  pub pushed : IfOk r (λ _. new ≡ pool ++ slots c)
  pub room : IfOk r (λ _. length new < 2 ^ 16)
  pub known : IfOk r (λ index. tree.Updates cmp m n key (Some index))
  pub full : r ≡ Err Full → 2 ^ 16 ≤ length (pool ++ slots c)
  pub err : OnErr r (new ≡ pool)
  pub unknown : OnErr r (tree.IsUnchanged m n)

module _ (pool new : List Constant) (text_at : List ℕ → Option ℕ) (m n : BTreeMap Key ℕ) (cmp : Key → Key → Ordering) (key : Key) where
  pub key_put : (r : Result ℕ PoolRefusal) → ((a b : Key) → is_eq (cmp a b) ≡ is_same (constant_of a) (constant_of b)) → IsIndexed pool text_at (λ k. tree.get cmp m k) → tree.get cmp m key ≡ None
      → Fits (constant_of key) → Puts Key cmp r pool new m n key (constant_of key) → IsIndexed new text_at (λ k. tree.get cmp n k)
  key_put (Ok index) is indexed none fits puts =
      let P : List Constant → Type 0 = λ p. IsIndexed p text_at (λ k. tree.get cmp n k) in
      let count : length (pool ++ slots (constant_of key)) < 2 ^ 16 = subst (λ (p : List Constant). length p < 2 ^ 16) puts.pushed puts.room in
      let changes : (q : Key) → tree.get cmp n q ≡ update (eq_by_cmp cmp) (λ k. tree.get cmp m k) key (Some (length pool)) q =
      λ q. puts.known.0 q ∙ ap (λ (i : ℕ). update (eq_by_cmp cmp) (λ k. tree.get cmp m k) key (Some i) q) puts.index in
      subst P (sym puts.pushed) (key-indexed pool text_at (λ k. tree.get cmp m k) indexed (eq_by_cmp cmp) (λ k. tree.get cmp n k) key is fits count none changes)
  key_put (Err e) is indexed none fits puts =
      let P : List Constant → Type 0 = λ p. IsIndexed p text_at (λ k. tree.get cmp n k) in
      let Q : List (Key × ℕ) → Type 0 = λ es. IsIndexed pool text_at (λ k. lookup (λ x. is_eq (cmp k x)) es) in
      subst P (sym puts.err) (subst Q (sym puts.unknown) indexed)

module _ {K : Type 0} (items : K → List ℕ) (pool new : List Constant) (entry_at : Key → Option ℕ) (m n : BTreeMap K ℕ) (key : K) where
  abbrev texts_in : BTreeMap K ℕ → List ℕ → Option ℕ
  texts_in known text = tree.get_by (λ k. slice_cmp nat_cmp text (items k)) known

  pub text_put : (r : Result ℕ PoolRefusal) → IsIndexed pool (texts_in m) entry_at → texts_in m (items key) ≡ None → length (items key) < 2 ^ 16
      → Puts K (λ x y. slice_cmp nat_cmp (items x) (items y)) r pool new m n key (Utf8 (items key)) → IsIndexed new (texts_in n) entry_at
  text_put (Ok index) indexed none short puts =
      let P : List Constant → Type 0 = λ p. IsIndexed p (texts_in n) entry_at in
      let count : length (pool ++ slots (Utf8 (items key))) < 2 ^ 16 = subst (λ (p : List Constant). length p < 2 ^ 16) puts.pushed puts.room in
      let changes : (q : List ℕ) → texts_in n q ≡ update bytes_eq (texts_in m) (items key) (Some (length pool)) q =
      λ q. text_updates items (items key) m n (Some index) puts.known q ∙ ap (λ (i : ℕ). update bytes_eq (texts_in m) (items key) (Some i) q) puts.index in
      subst P (sym puts.pushed) (text-indexed pool (texts_in m) entry_at indexed (texts_in n) (items key) short count none changes)
  text_put (Err e) indexed none short puts =
      let P : List Constant → Type 0 = λ p. IsIndexed p (texts_in n) entry_at in
      let Q : List (K × ℕ) → Type 0 = λ es. IsIndexed pool (λ text. lookup (λ k. is_eq (slice_cmp nat_cmp text (items k))) es) entry_at in
      subst P (sym puts.err) (subst Q (sym puts.unknown) indexed)
