-- What is read of a field is what the layout puts there, and what the layout puts there is read again.
use Rattle.std.proofs.Common.{◌≡◌, ℕ, ◌+◌, ◌^◌, ◌<◌, ◌≤◌, Bool, true, false, cond, ltb, List, [], ◌∷◌, ◌++◌, length, get_or, take, drop, Result, Ok, Err, refl, sym, ap, subst, ◌∙◌, append_assoc, arith, inl, inr}
use Rattle.std.proofs.lemmas.Bool.{cases_lt, ltb-false, le-ltb}
use Rattle.std.proofs.lemmas.List.{append-nil, take_at, drop_at, take-append-drop, length-append, length-take, get_or-append-add, get_or_append_left, get_or_past}
use Rattle.std.proofs.lemmas.Nat.{be_bytes_2, be_bytes_4, be_bytes_8}
use Rattle.byteorder.specs.Endian.{big_number, big_bytes}
use Rattle.byteorder.specs.Numbers.{big_number-reads_back, length-bytes_high_first, big_from-lt}
use Rattle.class_walk.specs.declared.refusal.WalkFault.TheVariants.{Truncated}
use Rattle.class_walk.specs.Place.{Place}
use Rattle.class_walk.specs.Layout.{IsBytes}
use Rattle.class_walk.specs.Reading.{◌>>=◌, bytes_at, number_at}

-- the front of bytes, and what comes after it
pub bytes_front : (text rest : List ℕ) → IsBytes (text ++ rest) → IsBytes text
bytes_front text rest fits i =
    elim (cases_lt i (length text)) [
      | inl lt ↦ rw (← get_or_append_left text rest 0 i lt) (fits i)
      | inr le ↦ rw (get_or_past text i 0 le) (omega arith)
    ]

pub bytes_behind : (text rest : List ℕ) → IsBytes (text ++ rest) → IsBytes rest
bytes_behind text rest fits i = rw (← get_or-append-add text rest i 0) (fits (length text + i))

-- the text reaches from the first place to the second
pub record Takes (p : Place) (text : List ℕ) (q : Place) : Type 0 where
  pub parts : p.left ≡ text ++ q.left
  pub at : q.at ≡ p.at + length text

pub Takes-nothing : (p : Place) → Takes p [] p
Takes-nothing p = record { parts = refl; at = omega arith }

pub Takes-then : {p : Place} {x : List ℕ} {q : Place} {y : List ℕ} {r : Place} → Takes p x q → Takes q y r → Takes p (x ++ y) r
Takes-then {x = x} {y = y} {r = r} a b = record {
  parts = a.parts ∙ ap (λ (t : List ℕ). x ++ t) b.parts ∙ sym (append_assoc x y r.left);
  at = omega (arith, a.at, b.at, length-append x y);
}

abbrev pub between : Place → List ℕ → List ℕ → Place → Place
between p x y r = record { at = p.at + length x; left = y ++ r.left }

pub Takes-first : (p : Place) (x y : List ℕ) (r : Place) → Takes p (x ++ y) r → Takes p x (between p x y r)
Takes-first p x y r a = record { parts = a.parts ∙ append_assoc x y r.left; at = refl }

pub Takes-second : (p : Place) (x y : List ℕ) (r : Place) → Takes p (x ++ y) r → Takes (between p x y r) y r
Takes-second p x y r a = record { parts = refl; at = omega (arith, a.at, length-append x y) }

-- the place between two texts, handed on
pub split_then : (p : Place) (x y : List ℕ) (r : Place) (C : Type 0) → Takes p (x ++ y) r → ((q : Place) → Takes p x q → Takes q y r → C) → C
split_then p x y r C t next = next (between p x y r) (Takes-first p x y r t) (Takes-second p x y r t)

pub bytes_after : {p : Place} {text : List ℕ} {q : Place} → IsBytes p.left → Takes p text q → IsBytes q.left
bytes_after {text = text} {q = q} fits t = bytes_behind text q.left (subst IsBytes t.parts fits)

pub bytes_before : (p : Place) (text : List ℕ) (q : Place) → IsBytes p.left → Takes p text q → IsBytes text
bytes_before p text q fits t = bytes_front text q.left (subst IsBytes t.parts fits)

-- the value of a step that did not fail
pub bind_ok : {E A B : Type 0} (r : Result A E) (f : A → Result B E) (y : B) → (r >>= f) ≡ Ok y → (x : A) × (r ≡ Ok x) × (f x ≡ Ok y)
bind_ok (Ok x) f y e = (x, refl, e)
bind_ok (Err d) f y e = absurd cc

-- the same, handed on
pub bind_then : {E A B : Type 0} (r : Result A E) (f : A → Result B E) (y : B) (C : Type 0) → (r >>= f) ≡ Ok y → ((x : A) → r ≡ Ok x → f x ≡ Ok y → C) → C
bind_then (Ok x) f y C e next = next x refl e
bind_then (Err d) f y C e next = absurd cc

-- a test that did not fail
pub guard_ok : {E A : Type 0} (b : Bool) (d : E) (r : Result A E) (y : A) → cond b (Err d) r ≡ Ok y → (b ≡ false) × (r ≡ Ok y)
guard_ok true d r y e = absurd cc
guard_ok false d r y e = (refl, e)

abbrev pub done : {E A : Type 0} → A → Result A E
done x = Ok x

pub ok_is : {E A : Type 0} (x y : A) → done {E = E} x ≡ done y → x ≡ y
ok_is x y e = cc

-- ---- bytes

pub bytes_take : (n : ℕ) (p : Place) (text : List ℕ) (q : Place) → bytes_at n p ≡ Ok (text, q) → Takes p text q × (length text ≡ n)
bytes_take n p text q e =
    let g = guard_ok (ltb (length p.left) n) (Truncated (p.at + length p.left)) (Ok (take n p.left, record { at = p.at + n; left = drop n p.left })) (text, q) e in
    let long : n ≤ length p.left = ltb-false _ _ g.0 in
    let same = ok_is (take n p.left, record { at = p.at + n; left = drop n p.left }) (text, q) g.1 in
    let len : length (take n p.left) ≡ n = omega (arith, length-take n p.left) in
    subst (λ (x : List ℕ × Place). Takes p x.0 x.1 × (length x.0 ≡ n)) same (record { parts = sym (take-append-drop n p.left); at = omega (arith, len) }, len)

pub bytes_again : (p : Place) (text : List ℕ) (q : Place) → Takes p text q → bytes_at (length text) p ≡ Ok (text, q)
bytes_again p text q t =
    let long : ltb (length p.left) (length text) ≡ false = le-ltb _ _ (omega (arith, ap length t.parts, length-append text q.left)) in
    let front : take (length text) p.left ≡ text = ap (take (length text)) t.parts ∙ take_at text q.left (length text) refl in
    let rest : drop (length text) p.left ≡ q.left = ap (drop (length text)) t.parts ∙ drop_at text q.left (length text) refl in
    rw (long, front, rest, ← t.at) refl

-- ---- numbers

pub record IsWide (n : ℕ) : Type 0 where
  pub back : (bytes : List ℕ) → length bytes ≡ n → IsBytes bytes → big_bytes n (big_number n bytes) ≡ bytes

pub wide1 : IsWide 1
wide1 = record { back = one }
  where
    one : (bytes : List ℕ) → length bytes ≡ 1 → IsBytes bytes → big_bytes 1 (big_number 1 bytes) ≡ bytes
    one [] len fits = absurd (omega arith)
    one (b ∷ []) len fits = ap (λ (n : ℕ). n ∷ []) (omega (arith, fits 0))
    one (b ∷ c ∷ bs) len fits = absurd (omega arith)

pub wide2 : IsWide 2
wide2 = record { back = λ bytes len fits. be_bytes_2 bytes _ len fits (omega arith) }

pub wide4 : IsWide 4
wide4 = record { back = λ bytes len fits. be_bytes_4 bytes _ len fits (omega arith) }

pub wide8 : IsWide 8
wide8 = record { back = λ bytes len fits. be_bytes_8 bytes _ len fits (omega arith) }

pub number_takes : (n : ℕ) (wide : IsWide n) (p : Place) (x : ℕ) (q : Place) → IsBytes p.left → number_at n p ≡ Ok (x, q) → Takes p (big_bytes n x) q × (x < 256 ^ n)
number_takes n wide p x q fits e =
    let a = bind_ok _ _ _ e in
    let t = bytes_take n p a.0.0 a.0.1 a.1 in
    let text_fits = bytes_before p a.0.0 a.0.1 fits t.0 in
    let same = ok_is (big_number n a.0.0, a.0.1) (x, q) a.2 in
    subst (λ (y : ℕ × Place). Takes p (big_bytes n y.0) y.1 × (y.0 < 256 ^ n)) same (rw (wide.back a.0.0 t.1 text_fits) t.0, big_from-lt 0 n a.0.0 text_fits)

pub number_again : (n : ℕ) (p : Place) (x : ℕ) (q : Place) → x < 256 ^ n → Takes p (big_bytes n x) q → number_at n p ≡ Ok (x, q)
number_again n p x q lt t =
    let b : bytes_at n p ≡ Ok (big_bytes n x, q) = rw (length-bytes_high_first n x) at (bytes_again p (big_bytes n x) q t) in
    let v : big_number n (big_bytes n x) ≡ x = rw append-nil at (big_number-reads_back n x [] lt) in
    rw (b, v) refl
