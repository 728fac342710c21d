-- What is read of an operand is what is there, and what is there is read.
use Rattle.std.proofs.Common.{◌≡◌, ℕ, zero, suc, ◌^◌, ◌<◌, ◌≤◌, Bool, true, false, cond, ltb, List, [], ◌∷◌, ◌++◌, length, take, drop, Result, Ok, Err, refl, sym, ap, subst, ◌∙◌, append_assoc, arith}
use Rattle.std.proofs.lemmas.Bool.{ltb-false, le-ltb}
use Rattle.std.proofs.lemmas.List.{append-nil, take_at, drop_at, take-append-drop, length-append, length-take}
use Rattle.byteorder.specs.Endian.{big_number, big_bytes}
use Rattle.byteorder.specs.Numbers.{big_number-reads_back, length-bytes_high_first, big_from-lt}
use Rattle.class_walk.specs.Layout.{IsBytes}
use Rattle.class_walk.specs.Reading.{items_at}
use Rattle.class_walk.proofs.Fields.{bytes_front, bytes_behind, bind_ok, guard_ok, ok_is, IsWide}
use Rattle.code_steps.specs.declared.fault.StepFault.{StepFault}
use Rattle.code_steps.specs.declared.fault.StepFault.TheVariants.{Cut}
use Rattle.code_steps.specs.Operands.{AreItems}
use Rattle.code_steps.specs.Reading.{bytes_at, number_at}

-- the bytes after those that were read
pub bytes_after : (text bytes rest : List ℕ) → IsBytes bytes → bytes ≡ text ++ rest → IsBytes rest
bytes_after text bytes rest fits parts = bytes_behind text rest (subst IsBytes parts fits)

-- a test that held
pub passes_ok : {A : Type 0} (b : Bool) (d : StepFault) (r : Result A StepFault) (y : A) → cond b r (Err d) ≡ Ok y → (b ≡ true) × (r ≡ Ok y)
passes_ok false d r y e = absurd cc
passes_ok true d r y e = (refl, e)

abbrev pub failed : {A : Type 0} → StepFault → Result A StepFault
failed f = Err f

pub err_is : {A : Type 0} (f g : StepFault) → failed {A = A} f ≡ failed g → f ≡ g
err_is f g e = cc

-- ---- bytes

pub record Took (n : ℕ) (bytes text rest : List ℕ) : Type 0 where
  pub parts : bytes ≡ text ++ rest
  pub size : length text ≡ n

pub bytes_take : (at n : ℕ) (bytes text rest : List ℕ) → bytes_at at n bytes ≡ Ok (text, rest) → Took n bytes text rest
bytes_take at n bytes text rest e =
    let g = guard_ok (ltb (length bytes) n) (Cut at) (Ok (take n bytes, drop n bytes)) (text, rest) e in
    let long : n ≤ length bytes = ltb-false _ _ g.0 in
    let same = ok_is (take n bytes, drop n bytes) (text, rest) g.1 in
    subst (λ (x : List ℕ × List ℕ). Took n bytes x.0 x.1) same (record { parts = sym (take-append-drop n bytes); size = omega (arith, length-take n bytes) })

pub bytes_again : (at n : ℕ) (bytes text rest : List ℕ) → length text ≡ n → bytes ≡ text ++ rest → bytes_at at n bytes ≡ Ok (text, rest)
bytes_again at n bytes text rest size parts =
    let long : ltb (length bytes) n ≡ false = le-ltb _ _ (omega (arith, ap length parts, length-append text rest)) in
    let front : take n bytes ≡ text = ap (take n) parts ∙ take_at text rest n size in
    let back : drop n bytes ≡ rest = ap (drop n) parts ∙ drop_at text rest n size in
    rw (long, front, back) refl

-- ---- numbers

pub record Number (n : ℕ) (bytes : List ℕ) (x : ℕ) (rest : List ℕ) : Type 0 where
  pub parts : bytes ≡ big_bytes n x ++ rest
  pub small : x < 256 ^ n
  pub fits : IsBytes rest

pub number_takes : (n : ℕ) (wide : IsWide n) (at : ℕ) (bytes : List ℕ) (x : ℕ) (rest : List ℕ) → IsBytes bytes → number_at at n bytes ≡ Ok (x, rest) → Number n bytes x rest
number_takes n wide at bytes x rest fits e =
    let a = bind_ok (bytes_at at n bytes) _ _ e in
    let t = bytes_take at n bytes a.0.0 a.0.1 a.1 in
    let text_fits = bytes_front a.0.0 a.0.1 (subst IsBytes t.parts fits) in
    let same = ok_is (big_number n a.0.0, a.0.1) (x, rest) a.2 in
    subst (λ (y : ℕ × List ℕ). Number n bytes y.0 y.1) same
    (record { parts = rw (wide.back a.0.0 t.size text_fits) t.parts; small = big_from-lt 0 n a.0.0 text_fits; fits = bytes_after a.0.0 bytes a.0.1 fits t.parts })

pub number_again : (n at : ℕ) (bytes : List ℕ) (x : ℕ) (rest : List ℕ) → x < 256 ^ n → bytes ≡ big_bytes n x ++ rest → number_at at n bytes ≡ Ok (x, rest)
number_again n at bytes x rest small parts =
    let b : bytes_at at n bytes ≡ Ok (big_bytes n x, rest) = bytes_again at n bytes (big_bytes n x) rest (length-bytes_high_first n x) parts in
    let v : big_number n (big_bytes n x) ≡ x = rw append-nil at (big_number-reads_back n x [] small) in
    rw (b, v) refl

-- ---- items

-- a reader reads exactly what is there
pub record Law {X : Type 0} (read : List ℕ → Result (X × List ℕ) StepFault) (Is : X → List ℕ → Type 0) : Type 0 where
  pub takes : (bytes : List ℕ) (x : X) (rest : List ℕ) → IsBytes bytes → read bytes ≡ Ok (x, rest) → (text : List ℕ) × Is x text × (bytes ≡ text ++ rest)
  pub again : (bytes : List ℕ) (x : X) (rest text : List ℕ) → Is x text → bytes ≡ text ++ rest → read bytes ≡ Ok (x, rest)

pub record Items {X : Type 0} (Is : X → List ℕ → Type 0) (n : ℕ) (bytes : List ℕ) (xs : List X) (rest : List ℕ) : Type 0 where
  pub text : List ℕ
  pub are : AreItems Is xs text
  pub parts : bytes ≡ text ++ rest
  pub count : length xs ≡ n

pub items_take : {X : Type 0} (read : List ℕ → Result (X × List ℕ) StepFault) (Is : X → List ℕ → Type 0) → Law read Is
    → (n : ℕ) (bytes : List ℕ) (xs : List X) (rest : List ℕ) → IsBytes bytes → items_at read n bytes ≡ Ok (xs, rest) → Items Is n bytes xs rest
unfolding items_at
items_take {X = X} read Is law zero bytes xs rest fits e =
    subst (λ (y : List X × List ℕ). Items Is 0 bytes y.0 y.1) (ok_is ([], bytes) (xs, rest) e) (record { text = []; are = refl; parts = refl; count = refl })
items_take {X = X} read Is law (suc n) bytes xs rest fits e =
    let a = bind_ok (read bytes) _ _ e in
    let b = bind_ok (items_at read n a.0.1) _ _ a.2 in
    let t = law.takes bytes a.0.0 a.0.1 fits a.1 in
    let u = items_take read Is law n a.0.1 b.0.0 b.0.1 (bytes_after t.0 bytes a.0.1 fits t.2) b.1 in
    subst (λ (y : List X × List ℕ). Items Is (suc n) bytes y.0 y.1) (ok_is (a.0.0 ∷ b.0.0, b.0.1) (xs, rest) b.2)
    (record {
      text = t.0 ++ u.text;
      are = (t.0, u.text, t.1, u.are, refl);
      parts = t.2 ∙ ap (λ (s : List ℕ). t.0 ++ s) u.parts ∙ sym (append_assoc t.0 u.text b.0.1);
      count = ap suc u.count;
    })

pub items_again : {X : Type 0} (read : List ℕ → Result (X × List ℕ) StepFault) (Is : X → List ℕ → Type 0) → Law read Is
    → (bytes : List ℕ) (xs : List X) (rest text : List ℕ) → AreItems Is xs text → bytes ≡ text ++ rest → items_at read (length xs) bytes ≡ Ok (xs, rest)
unfolding items_at
items_again {X = X} read Is law bytes [] rest text are parts =
    let same : bytes ≡ rest = parts ∙ ap (λ (s : List ℕ). s ++ rest) are in
    ap (λ (s : List ℕ). Ok ([], s)) same
items_again {X = X} read Is law bytes (x ∷ xs) rest text are parts =
    let whole : bytes ≡ are.0 ++ (are.1 ++ rest) = parts ∙ ap (λ (s : List ℕ). s ++ rest) are.4 ∙ append_assoc are.0 are.1 rest in
    let first = law.again bytes x (are.1 ++ rest) are.0 are.2 whole in
    let others = items_again read Is law (are.1 ++ rest) xs rest are.1 are.3 refl in
    rw (first, others) refl
