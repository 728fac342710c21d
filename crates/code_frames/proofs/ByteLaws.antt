-- Numbers of a fixed width: what is read is what is there, and what is there is read.
use Rattle.std.proofs.Common.{◌≡◌, ℕ, ◌^◌, ◌<◌, ◌≤◌, Bool, true, false, cond, ltb, List, [], ◌++◌, length, take, drop, Some, None, Option, refl, sym, ap, subst, ◌∙◌, append_assoc, arith}
use Rattle.std.proofs.lemmas.Bool.{ltb-false, le-ltb}
use Rattle.std.proofs.lemmas.List.{append-nil, take_at, drop_at, take-append-drop, length-append, length-take}
use Rattle.byteorder.specs.Endian.{big_number, big_bytes}
use Rattle.byteorder.specs.Numbers.{big_number-reads_back, length-bytes_high_first, big_from-lt}
use Rattle.class_walk.specs.Layout.{IsBytes}
use Rattle.class_walk.proofs.Fields.{bytes_front, bytes_behind, IsWide}
use Rattle.code_frames.specs.Reading.{◌>>=◌, unsigned_at}

-- the text is at the front, and the others are bytes
pub record Takes (bytes text others : List ℕ) : Type 0 where
  pub parts : bytes ≡ text ++ others
  pub fits : IsBytes others

pub Takes-nothing : (bytes : List ℕ) → IsBytes bytes → Takes bytes [] bytes
Takes-nothing bytes fits = record { parts = refl; fits = fits }

pub Takes-then : {a x b y c : List ℕ} → Takes a x b → Takes b y c → Takes a (x ++ y) c
Takes-then {x = x} {y = y} {c = c} s t = record {
  parts = s.parts ∙ ap (λ (rest : List ℕ). x ++ rest) t.parts ∙ sym (append_assoc x y c);
  fits = t.fits;
}

-- the bytes between two texts, handed on
pub split_then : (bytes x y others : List ℕ) (C : Type 0) → bytes ≡ (x ++ y) ++ others → ((rest : List ℕ) → bytes ≡ x ++ rest → rest ≡ y ++ others → C) → C
split_then bytes x y others C parts next = next (y ++ others) (parts ∙ append_assoc x y others) refl

-- the value of a step that did not fail, handed on
pub bind_then : {A B : Type 0} (o : Option A) (f : A → Option B) (y : B) (C : Type 0) → (o >>= f) ≡ Some y → ((x : A) → o ≡ Some x → f x ≡ Some y → C) → C
bind_then (Some x) f y C e next = next x refl e
bind_then None f y C e next = absurd cc

abbrev some : {A : Type 0} → A → Option A
some x = Some x

-- what reading gives
abbrev pub found : {X : Type 0} → X → List ℕ → Option (X × List ℕ)
found x others = Some (x, others)

pub some_is : {A : Type 0} (x y : A) → some x ≡ some y → x ≡ y
some_is x y e = cc

-- which way a test went
pub chosen : {A : Type 0} (b : Bool) (x y z : A) (C : Type 0) → cond b x y ≡ z → (b ≡ true → x ≡ z → C) → (b ≡ false → y ≡ z → C) → C
chosen true x y z C e held failed = held refl e
chosen false x y z C e held failed = failed refl e

pub unsigned_takes : (n : ℕ) → IsWide n → (bytes : List ℕ) (x : ℕ) (others : List ℕ) → IsBytes bytes → unsigned_at n bytes ≡ Some (x, others)
    → Takes bytes (big_bytes n x) others × (x < 256 ^ n)
unsigned_takes n wide bytes x others fits e =
    chosen (ltb (length bytes) n) None (Some (big_number n (take n bytes), drop n bytes)) (Some (x, others)) _ e
    (λ short none. absurd cc)
    (λ long same.
    let enough : n ≤ length bytes = ltb-false _ _ long in
    let len : length (take n bytes) ≡ n = omega (arith, length-take n bytes) in
    let whole : IsBytes (take n bytes ++ drop n bytes) = rw (take-append-drop n bytes) fits in
    let front : IsBytes (take n bytes) = bytes_front (take n bytes) (drop n bytes) whole in
    let taken : Takes bytes (big_bytes n (big_number n (take n bytes))) (drop n bytes) =
    rw (wide.back (take n bytes) len front) (record { parts = sym (take-append-drop n bytes); fits = bytes_behind (take n bytes) (drop n bytes) whole }) in
    subst (λ (y : ℕ × List ℕ). Takes bytes (big_bytes n y.0) y.1 × (y.0 < 256 ^ n)) {x = (big_number n (take n bytes), drop n bytes)} (some_is _ (x, others) same)
    (taken, big_from-lt 0 n (take n bytes) front))

pub unsigned_again : (n : ℕ) (bytes : List ℕ) (x : ℕ) (others : List ℕ) → x < 256 ^ n → bytes ≡ big_bytes n x ++ others → unsigned_at n bytes ≡ Some (x, others)
unsigned_again n bytes x others lt parts =
    let text : List ℕ = big_bytes n x in
    let len : length text ≡ n = length-bytes_high_first n x in
    let long : ltb (length bytes) n ≡ false = le-ltb _ _ (omega (arith, ap length parts, length-append text others, len)) in
    let front : take n bytes ≡ text = ap (take n) parts ∙ take_at text others n len in
    let rest : drop n bytes ≡ others = ap (drop n) parts ∙ drop_at text others n len in
    let value : big_number n text ≡ x = rw append-nil at (big_number-reads_back n x [] lt) in
    rw (long, front, rest, value) refl

-- a number that is read once more is the same
pub unsigned_once : (n : ℕ) (bytes : List ℕ) (x y : ℕ) (a b : List ℕ) → x < 256 ^ n → y < 256 ^ n → bytes ≡ big_bytes n x ++ a → bytes ≡ big_bytes n y ++ b → (x ≡ y) × (a ≡ b)
unsigned_once n bytes x y a b ltx lty ex ey =
    let e : some (x, a) ≡ some (y, b) = sym (unsigned_again n bytes x a ltx ex) ∙ unsigned_again n bytes y b lty ey in
    let same : (x, a) ≡ (y, b) = some_is (x, a) (y, b) e in
    (ap (λ (p : ℕ × List ℕ). p.0) same, ap (λ (p : ℕ × List ℕ). p.1) same)
