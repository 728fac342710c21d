-- The first member in an order of classes, one member more.
use Rattle.std.proofs.Common.{◌≡◌, ◌≢◌, ℕ, zero, suc, ◌+◌, ◌<◌, ◌==◌, Bool, true, false, cond, List, [], ◌∷◌, ◌++◌, length, take, get_or, if◌then◌else◌, Option, None, Some, refl, sym, ◌∙◌, ap, arith, inl, inr, ◌||◌}
use Rattle.std.proofs.lemmas.List.{take_more}
use Rattle.std.proofs.lemmas.Bool.{cases_Bool, true≢false}
use borrow.Author.Tests.{eqb-true, eqb-false, eq-eqb, ne_eqb}
use Rattle.std.proofs.lemmas.Bool.Decides.{nat_tests}
use Rattle.search_orders.specs.Orders.{one_behind, rank, has_number, put, put_all, without_repeats}
use Rattle.member_table.specs.declared.table.MemberRow.{MemberRow}
use Rattle.member_table.specs.Search.{or_first, first_found, of_class, comes_before}

-- the rank of the class of a member, 0 where there is none
abbrev pub rank_of : List ℕ → Option MemberRow → ℕ
rank_of order None = 0
rank_of order (Some m) = rank order m.class

-- the member that comes first by its rank, where one was found and another one is looked at
abbrev pub chosen : List ℕ → Option MemberRow → MemberRow → Option MemberRow
chosen order found m = if comes_before (rank order m.class) (rank_of order found) then Some m else found

-- of_class with one member more
abbrev with_member : (ℕ → Option MemberRow) → MemberRow → ℕ → Option MemberRow
with_member f m c = or_first (f c) (cond (m.class == c) (Some m) None)

of_class_last : (ms : List MemberRow) (m : MemberRow) (c : ℕ) → of_class (ms ++ m ∷ []) c ≡ with_member (of_class ms) m c
of_class_last [] m c = refl
of_class_last (n ∷ ms) m c = elim (n.class == c) as (λ b. cond b (Some n) (of_class (ms ++ m ∷ []) c) ≡ or_first (cond b (Some n) (of_class ms c)) (cond (m.class == c) (Some m) None)) [
  | true ↦ refl
  | false ↦ of_class_last ms m c
]

pub first_same : {X : Type 0} (f g : ℕ → Option X) (cs : List ℕ) → ((c : ℕ) → f c ≡ g c) → first_found f cs ≡ first_found g cs
first_same f g [] same = refl
first_same f g (c ∷ cs) same = ap (λ o. or_first o (first_found f cs)) (same c) ∙ ap (or_first (g c)) (first_same f g cs same)

-- what a class has is its own
abbrev IsOwn : (ℕ → Option MemberRow) → Type 0
IsOwn f = (c : ℕ) (m : MemberRow) → f c ≡ Some m → (m.class ≡ c) × (f m.class ≡ Some m)

found_own : (ms : List MemberRow) (c : ℕ) (m : MemberRow) → of_class ms c ≡ Some m → m.class ≡ c
found_own [] c m e = absurd cc
found_own (n ∷ ms) c m e = go (n.class == c) refl (found_own ms c m) e
  where
    go : (b : Bool) → (n.class == c) ≡ b → (of_class ms c ≡ Some m → m.class ≡ c) → cond b (Some n) (of_class ms c) ≡ Some m → m.class ≡ c
    go true same later e = let is : n ≡ m = cc in ap (λ (x : MemberRow). x.class) (sym is) ∙ eqb-true n.class c same
    go false other later e = later e

pub is_own : (ms : List MemberRow) → IsOwn (of_class ms)
is_own ms c m e = let own : m.class ≡ c = found_own ms c m e in (own, ap (of_class ms) own ∙ e)

-- another class in front of the others moves their ranks together
rank_next : (x : ℕ) (xs : List ℕ) (c : ℕ) → x ≢ c → rank (x ∷ xs) c ≡ one_behind (rank xs c)
rank_next x xs c ne = let other : (x == c) ≡ false = ne_eqb x c ne in rw other refl

rank_here : (x : ℕ) (xs : List ℕ) (c : ℕ) → x ≡ c → rank (x ∷ xs) c ≡ 1
rank_here x xs c same = let here : (x == c) ≡ true = eq-eqb x c same in rw here refl

none_before_one : (r : ℕ) → comes_before r 1 ≡ false
none_before_one r = grind (arith, nat_tests)

one_before_none : comes_before 1 0 ≡ true
one_before_none = refl

one_before : (r : ℕ) → comes_before 1 (suc (suc r)) ≡ true
one_before r = grind (arith, nat_tests)

none_before : (r : ℕ) → comes_before 0 r ≡ false
none_before r = refl

any_before_none : (r : ℕ) → comes_before (suc r) 0 ≡ true
any_before_none r = grind (arith, nat_tests)

both_move : (r l : ℕ) → comes_before (suc (suc r)) (suc (suc l)) ≡ comes_before (suc r) (suc l)
both_move r l = grind (arith, nat_tests)

moves : (r l : ℕ) → comes_before (one_behind r) (one_behind l) ≡ comes_before r l
moves zero l = refl
moves (suc r) zero = any_before_none (suc r) ∙ sym (any_before_none r)
moves (suc r) (suc l) = both_move r l

one_first : (r : ℕ) → comes_before 1 (one_behind r) ≡ true
one_first zero = refl
one_first (suc r) = one_before r

first_own : (f : ℕ → Option MemberRow) → IsOwn f → (cs : List ℕ) (m : MemberRow) → first_found f cs ≡ Some m → f m.class ≡ Some m
first_own f own [] m e = absurd cc
first_own f own (c ∷ cs) m e = go (f c) refl (first_own f own cs m) e
  where
    go : (o : Option MemberRow) → f c ≡ o → (first_found f cs ≡ Some m → f m.class ≡ Some m) → or_first o (first_found f cs) ≡ Some m → f m.class ≡ Some m
    go None is later e = later e
    go (Some n) is later e = (own c m (is ∙ e)).1

-- the rank of what was found, where the class in front has nothing
rank_behind : (x : ℕ) (xs : List ℕ) (o : Option MemberRow) → ((m : MemberRow) → o ≡ Some m → x ≢ m.class) → rank_of (x ∷ xs) o ≡ one_behind (rank_of xs o)
rank_behind x xs None apart = refl
rank_behind x xs (Some m) apart = rank_next x xs m.class (apart m refl)

pub first_more : (f : ℕ → Option MemberRow) → IsOwn f → (m : MemberRow) (cs : List ℕ) → first_found (with_member f m) cs ≡ chosen cs (first_found f cs) m
first_more f own m [] = refl
first_more f own m (x ∷ xs) = go (f x) refl (m.class == x) refl (first_more f own m xs)
  where
    apart : f x ≡ None → (n : MemberRow) → first_found f xs ≡ Some n → x ≢ n.class
    apart none n e same = let its : f x ≡ Some n = ap f same ∙ first_own f own xs n e in absurd cc

    go : (o : Option MemberRow) → f x ≡ o → (b : Bool) → (m.class == x) ≡ b → first_found (with_member f m) xs ≡ chosen xs (first_found f xs) m
        → or_first (or_first o (cond b (Some m) None)) (first_found (with_member f m) xs) ≡ chosen (x ∷ xs) (or_first o (first_found f xs)) m
    go (Some y) is b is_b later =
        let mine : rank (x ∷ xs) y.class ≡ 1 = rank_here x xs y.class (sym (own x y is).0) in
        let no : comes_before (rank (x ∷ xs) m.class) (rank (x ∷ xs) y.class) ≡ false = ap (comes_before (rank (x ∷ xs) m.class)) mine ∙ none_before_one (rank (x ∷ xs) m.class) in
        sym (ap (λ b. cond b (Some m) (Some y)) no)
    go None is true is_b later =
        let mine : rank (x ∷ xs) m.class ≡ 1 = rank_here x xs m.class (sym (eqb-true m.class x is_b)) in
        let its : rank_of (x ∷ xs) (first_found f xs) ≡ one_behind (rank_of xs (first_found f xs)) = rank_behind x xs (first_found f xs) (apart is) in
        let yes : comes_before (rank (x ∷ xs) m.class) (rank_of (x ∷ xs) (first_found f xs)) ≡ true =
        ap (λ r. comes_before r (rank_of (x ∷ xs) (first_found f xs))) mine ∙ ap (comes_before 1) its ∙ one_first (rank_of xs (first_found f xs)) in
        sym (ap (λ b. cond b (Some m) (first_found f xs)) yes)
    go None is false is_b later =
        let other : x ≢ m.class = λ same. eqb-false m.class x is_b (sym same) in
        let mine : rank (x ∷ xs) m.class ≡ one_behind (rank xs m.class) = rank_next x xs m.class other in
        let its : rank_of (x ∷ xs) (first_found f xs) ≡ one_behind (rank_of xs (first_found f xs)) = rank_behind x xs (first_found f xs) (apart is) in
        let both : comes_before (rank (x ∷ xs) m.class) (rank_of (x ∷ xs) (first_found f xs)) ≡ comes_before (rank xs m.class) (rank_of xs (first_found f xs)) =
        ap (λ r. comes_before r (rank_of (x ∷ xs) (first_found f xs))) mine ∙ ap (comes_before (one_behind (rank xs m.class))) its ∙ moves (rank xs m.class) (rank_of xs (first_found f xs)) in
        later ∙ sym (ap (λ b. cond b (Some m) (first_found f xs)) both)

pub found_more : (ms : List MemberRow) (m : MemberRow) (order : List ℕ) → first_found (of_class (ms ++ m ∷ [])) order ≡ chosen order (first_found (of_class ms) order) m
found_more ms m order = first_same (of_class (ms ++ m ∷ [])) (with_member (of_class ms) m) order (of_class_last ms m) ∙ first_more (of_class ms) (is_own ms) m order

pub nothing_found : (order : List ℕ) → first_found (of_class []) order ≡ None
nothing_found [] = refl
nothing_found (c ∷ cs) = nothing_found cs

-- one member more in the loop: the next one is taken, or what was found stays
module _ (ms : List MemberRow) (i : ℕ) (d : MemberRow) (order : List ℕ) (found : Option MemberRow) (r least : ℕ) (inside : i < length ms)
    (is : found ≡ first_found (of_class (take i ms)) order) (ranked : r ≡ rank order (get_or ms i d).class) (so_far : least ≡ rank_of order found) where
  next : first_found (of_class (take (i + 1) ms)) order ≡ (if comes_before r least then Some (get_or ms i d) else found)
  next =
      ap (λ xs. first_found (of_class xs) order) (take_more ms i d inside)
      ∙ found_more (take i ms) (get_or ms i d) order
      ∙ ap (λ o. chosen order o (get_or ms i d)) (sym is)
      ∙ ap (λ n. cond (comes_before n (rank_of order found)) (Some (get_or ms i d)) found) (sym ranked)
      ∙ ap (λ n. cond (comes_before r n) (Some (get_or ms i d)) found) (sym so_far)

  pub takes : comes_before r least ≡ true → Some (get_or ms i d) ≡ first_found (of_class (take (i + 1) ms)) order
  takes before = sym (next ∙ ap (λ b. cond b (Some (get_or ms i d)) found) before)

  pub keeps : comes_before r least ≡ false → found ≡ first_found (of_class (take (i + 1) ms)) order
  keeps behind = sym (next ∙ ap (λ b. cond b (Some (get_or ms i d)) found) behind)

-- ---- a class that comes again changes nothing

or_again : {X : Type 0} (a b c : Option X) → or_first (or_first a b) c ≡ or_first a (or_first b c)
or_again None b c = refl
or_again (Some x) b c = refl

first_last : {X : Type 0} (f : ℕ → Option X) (cs : List ℕ) (c : ℕ) → first_found f (cs ++ c ∷ []) ≡ or_first (first_found f cs) (f c)
first_last f [] c = or_none (f c)
  where
    or_none : {X : Type 0} (a : Option X) → or_first a None ≡ a
    or_none None = refl
    or_none (Some x) = refl
first_last f (d ∷ cs) c = ap (or_first (f d)) (first_last f cs c) ∙ sym (or_again (f d) (first_found f cs) (f c))

-- what was looked through has been found, or has nothing
first_has : {X : Type 0} (f : ℕ → Option X) (cs : List ℕ) (c : ℕ) → has_number cs c ≡ true → or_first (first_found f cs) (f c) ≡ first_found f cs
first_has f [] c there = absurd (true≢false (sym there))
first_has {X} f (d ∷ cs) c there = go (f d) refl (d == c) refl (first_has f cs c) there
  where
    go : (o : Option X) → f d ≡ o → (b : Bool) → (d == c) ≡ b → (has_number cs c ≡ true → or_first (first_found f cs) (f c) ≡ first_found f cs)
        → (b || has_number cs c) ≡ true → or_first (or_first o (first_found f cs)) (f c) ≡ or_first o (first_found f cs)
    go (Some x) is b is_b later h = refl
    go None is true is_b later h =
        let nothing : f c ≡ None = ap f (sym (eqb-true d c is_b)) ∙ is in
        ap (or_first (first_found f cs)) nothing ∙ no_more (first_found f cs)
      where
        no_more : (o : Option X) → or_first o None ≡ o
        no_more None = refl
        no_more (Some x) = refl
    go None is false is_b later h = later h

first_put : {X : Type 0} (f : ℕ → Option X) (cs : List ℕ) (c : ℕ) → first_found f (put cs c) ≡ or_first (first_found f cs) (f c)
first_put f cs c = elim (cases_Bool (has_number cs c)) [
  | inl there ↦ (let stays : put cs c ≡ cs = rw there refl in ap (first_found f) stays ∙ sym (first_has f cs c there))
  | inr none ↦ (let new : put cs c ≡ cs ++ c ∷ [] = rw none refl in ap (first_found f) new ∙ first_last f cs c)
]

first_put_all : {X : Type 0} (f : ℕ → Option X) (cs ds : List ℕ) → first_found f (put_all cs ds) ≡ or_first (first_found f cs) (first_found f ds)
first_put_all {X} f cs [] = sym (no_more (first_found f cs))
  where
    no_more : (o : Option X) → or_first o None ≡ o
    no_more None = refl
    no_more (Some x) = refl
first_put_all f cs (d ∷ ds) =
    first_put_all f (put cs d) ds ∙ ap (λ o. or_first o (first_found f ds)) (first_put f cs d) ∙ or_again (first_found f cs) (f d) (first_found f ds)

pub first_once : {X : Type 0} (f : ℕ → Option X) (cs : List ℕ) → first_found f (without_repeats cs) ≡ first_found f cs
first_once f cs = first_put_all f [] cs
