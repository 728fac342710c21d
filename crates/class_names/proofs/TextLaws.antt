-- Reading modified UTF-8 form by form gives the characters that the bytes stand for.
use Rattle.std.proofs.Common.{◌≡◌, ◌≢◌, ℕ, ◌<◌, ◌≤◌, Bool, true, false, cond, leb, eqb, List, [], ◌∷◌, ◌++◌, length, map, Option, Some, None, option_map, ◌&&◌, refl, sym, ap, ◌∙◌, subst, append_assoc, arith, inl, inr, length-append}
use Rattle.std.specs.Prelude.{encode_utf8, encode_utf8_all}
use Rattle.std.proofs.lemmas.Bool.{cases_Bool, and_parts, leb-true, lt-leb, and_right}
use Rattle.std.proofs.lemmas.List.{append-nil}
use Rattle.std.specs.List.{concat}
use Rattle.class_names.specs.ModifiedUtf8.{is_single, is_double, is_triple, is_continuation, IsForm, unit_of, AreForms, IsModifiedUtf8, is_high, is_low, pair_of, alone, characters, IsTextOf}
use Rattle.class_names.specs.ReadingText.{third_at, second_at, unit_at, character_with, character_at}
use Rattle.class_names.proofs.Cases.{chosen, mapped, first_same, second_same, empty_is, full_is}

double_no_single : (a : ℕ) → is_double a ≡ true → is_single a ≡ false
double_no_single a h =
    let p = and_parts (leb 192 a) (leb a 223) h in
    let lo = leb-true 192 a p.0 in
    and_right (leb 1 a) (leb a 127) (lt-leb a 127 (omega arith))

triple_no_single : (a : ℕ) → is_triple a ≡ true → is_single a ≡ false
triple_no_single a h =
    let p = and_parts (leb 224 a) (leb a 239) h in
    let lo = leb-true 224 a p.0 in
    and_right (leb 1 a) (leb a 127) (lt-leb a 127 (omega arith))

triple_no_double : (a : ℕ) → is_triple a ≡ true → is_double a ≡ false
triple_no_double a h =
    let p = and_parts (leb 224 a) (leb a 239) h in
    let lo = leb-true 224 a p.0 in
    and_right (leb 192 a) (leb a 223) (lt-leb a 223 (omega arith))

-- a form at the front is read
pub unit_again : (form rest : List ℕ) → IsForm form → unit_at (form ++ rest) ≡ Some (unit_of form, rest)
unit_again [] rest h = absurd h
unit_again (a ∷ []) rest h = rw h refl
unit_again (a ∷ b ∷ []) rest h =
    let one = double_no_single a h.0 in
    rw (one, h.1, h.0) refl
unit_again (a ∷ b ∷ c ∷ []) rest h =
    let one = triple_no_single a h.0 in
    let two = triple_no_double a h.0 in
    rw (one, h.1, two, h.0, h.2) refl
unit_again (a ∷ b ∷ c ∷ d ∷ bs) rest h = absurd h

-- what is read is a form
pub record TakesForm (bytes : List ℕ) (x : ℕ × List ℕ) : Type 0 where
  pub form : List ℕ
  pub good : IsForm form
  pub spelled : bytes ≡ form ++ x.1
  pub unit : x.0 ≡ unit_of form

third_takes : (a b : ℕ) (bs : List ℕ) (x : ℕ × List ℕ) → is_continuation b ≡ true → third_at a b bs ≡ Some x → TakesForm (a ∷ b ∷ bs) x
third_takes a b [] x h e = absurd cc
third_takes a b (c ∷ bs) x h e =
    elim (chosen (is_triple a && is_continuation c) (Some (unit_of (a ∷ b ∷ c ∷ []), bs)) None (Some x) e) [
      | inl t ↦
          let p = and_parts (is_triple a) (is_continuation c) t.0 in
          record { form = a ∷ b ∷ c ∷ []; good = (p.0, h, p.1); spelled = ap (λ (ys : List ℕ). a ∷ b ∷ c ∷ ys) (second_same _ _ t.1); unit = sym (first_same _ _ t.1) }
      | inr t ↦ absurd (let no = t.1 in cc)
    ]

second_takes : (a : ℕ) (bs : List ℕ) (x : ℕ × List ℕ) → second_at a bs ≡ Some x → TakesForm (a ∷ bs) x
second_takes a [] x e = absurd cc
second_takes a (b ∷ bs) x e =
    elim (chosen (is_continuation b) (cond (is_double a) (Some (unit_of (a ∷ b ∷ []), bs)) (third_at a b bs)) None (Some x) e) [
      | inl t ↦
          elim (chosen (is_double a) (Some (unit_of (a ∷ b ∷ []), bs)) (third_at a b bs) (Some x) t.1) [
            | inl u ↦ record { form = a ∷ b ∷ []; good = (u.0, t.0); spelled = ap (λ (ys : List ℕ). a ∷ b ∷ ys) (second_same _ _ u.1); unit = sym (first_same _ _ u.1) }
            | inr u ↦ third_takes a b bs x t.0 u.1
          ]
      | inr t ↦ absurd (let no = t.1 in cc)
    ]

pub unit_takes : (bs : List ℕ) (x : ℕ × List ℕ) → unit_at bs ≡ Some x → TakesForm bs x
unit_takes [] x e = absurd cc
unit_takes (a ∷ bs) x e =
    elim (chosen (is_single a) (Some (unit_of (a ∷ []), bs)) (second_at a bs) (Some x) e) [
      | inl t ↦ record { form = a ∷ []; good = t.0; spelled = ap (λ (ys : List ℕ). a ∷ ys) (second_same _ _ t.1); unit = sym (first_same _ _ t.1) }
      | inr t ↦ second_takes a bs x t.1
    ]

pub form_full : (form : List ℕ) → IsForm form → 0 < length form
form_full [] h = absurd h
form_full (a ∷ bs) h = omega arith

pub unit_shorter : (bs : List ℕ) (unit : ℕ) (rest : List ℕ) → unit_at bs ≡ Some (unit, rest) → length rest < length bs
unit_shorter bs unit rest e =
    let t = unit_takes bs (unit, rest) e in
    omega (arith, ap length t.spelled, length-append t.form rest, form_full t.form t.good)

-- ---- forms

-- the first of the forms, and the others
record FirstForm (forms : List (List ℕ)) (x : ℕ × List ℕ) : Type 0 where
  form : List ℕ
  more : List (List ℕ)
  whole : forms ≡ form ∷ more
  others : AreForms x.1 more
  unit : x.0 ≡ unit_of form

first_form : (bs : List ℕ) (forms : List (List ℕ)) (x : ℕ × List ℕ) → AreForms bs forms → unit_at bs ≡ Some x → FirstForm forms x
first_form bs [] x f e = absurd (let none : unit_at bs ≡ None = ap unit_at f.joined in cc)
first_form bs (form ∷ more) x f e =
    let same : Some (unit_of form, concat more) ≡ Some x = sym (unit_again form (concat more) f.each.0) ∙ (sym (ap unit_at f.joined) ∙ e) in
    record { form = form; more = more; whole = refl; others = record { each = f.each.1; joined = sym (second_same _ _ same) }; unit = sym (first_same _ _ same) }

no_form : (bs : List ℕ) (forms : List (List ℕ)) → AreForms bs forms → unit_at bs ≡ None → forms ≡ []
no_form bs [] f e = refl
no_form bs (form ∷ more) f e = absurd (let some = unit_again form (concat more) f.each.0 in let same = ap unit_at f.joined in cc)

-- ---- the test

pub record SameTest (bytes rest : List ℕ) : Type 0 where
  pub to : IsModifiedUtf8 bytes → IsModifiedUtf8 rest
  pub from : IsModifiedUtf8 rest → IsModifiedUtf8 bytes

pub test_none : (bytes : List ℕ) → SameTest bytes bytes
test_none bytes = record { to = λ h. h; from = λ h. h }

pub test_more : (bytes rest : List ℕ) (unit : ℕ) (after : List ℕ) → SameTest bytes rest → unit_at rest ≡ Some (unit, after) → SameTest bytes after
test_more bytes rest unit after so_far e =
    record {
      to = λ h. let r = so_far.to h in let f = first_form rest r.0 (unit, after) r.1 e in (f.more, f.others);
      from = λ h.
          let t = unit_takes rest (unit, after) e in
          so_far.from (t.form ∷ h.0, record { each = (t.good, h.1.each); joined = t.spelled ∙ ap (λ (ys : List ℕ). t.form ++ ys) h.1.joined });
    }

pub test_yes : (bytes rest : List ℕ) → SameTest bytes rest → rest ≡ [] → IsModifiedUtf8 bytes
test_yes bytes rest so_far empty = so_far.from ([], record { each = tt; joined = empty })

pub test_no : (bytes rest : List ℕ) → SameTest bytes rest → unit_at rest ≡ None → rest ≢ [] → IsModifiedUtf8 bytes → ⊥
test_no bytes rest so_far none full h =
    let r = so_far.to h in
    full (r.1.joined ∙ ap concat (no_form rest r.0 r.1 none))

pub test_answer : (bytes rest : List ℕ) (b : Bool) → SameTest bytes rest → unit_at rest ≡ None → b ≡ eqb (length rest) 0 → (b ≡ true → IsModifiedUtf8 bytes) × (IsModifiedUtf8 bytes → b ≡ true)
test_answer bytes rest b so_far none is = (
  λ empty. test_yes bytes rest so_far (empty_is rest b is empty),
  λ h. elim (cases_Bool b) [ inl empty ↦ empty | inr full ↦ absurd (test_no bytes rest so_far none (full_is rest b is full) h) ],
)

-- ---- characters

-- one character of the forms, and the forms of the others
record FirstCharacter (forms : List (List ℕ)) (x : ℕ × List ℕ) : Type 0 where
  more : List (List ℕ)
  others : AreForms x.1 more
  read : characters (map unit_of forms) ≡ x.0 ∷ characters (map unit_of more)

lone : (unit : ℕ) (more : List (List ℕ)) (rest : List ℕ) → AreForms rest more → unit_at rest ≡ None → characters (unit ∷ map unit_of more) ≡ alone unit ∷ characters (map unit_of more)
lone unit more rest f none = rw (no_form rest more f none) refl

unpaired : (unit v : ℕ) (us : List ℕ) → (is_high unit && is_low v) ≡ false → characters (unit ∷ v ∷ us) ≡ alone unit ∷ characters (v ∷ us)
unpaired unit v us two = rw two refl

a_pair : (unit v : ℕ) (us : List ℕ) → (is_high unit && is_low v) ≡ true → characters (unit ∷ v ∷ us) ≡ pair_of unit v ∷ characters us
a_pair unit v us is = rw is refl

behind : (first : ℕ × List ℕ) (more : List (List ℕ)) (next : Option (ℕ × List ℕ)) (x : ℕ × List ℕ) → AreForms first.1 more → unit_at first.1 ≡ next → character_with first next ≡ x
    → (after : List (List ℕ)) × AreForms x.1 after × (characters (first.0 ∷ map unit_of more) ≡ x.0 ∷ characters (map unit_of after))
behind first more None x f read e =
    subst (λ (y : ℕ × List ℕ). (after : List (List ℕ)) × AreForms y.1 after × (characters (first.0 ∷ map unit_of more) ≡ y.0 ∷ characters (map unit_of after))) e
    (more, f, lone first.0 more first.1 f read)
behind first more (Some second) x f read e =
    let n = first_form first.1 more second f read in
    let units : map unit_of more ≡ second.0 ∷ map unit_of n.more = ap (map unit_of) n.whole ∙ ap (λ (u : ℕ). u ∷ map unit_of n.more) (sym n.unit) in
    elim (chosen (is_high first.0 && is_low second.0) (pair_of first.0 second.0, second.1) (alone first.0, first.1) x e) [
      | inl t ↦
          subst (λ (y : ℕ × List ℕ). (after : List (List ℕ)) × AreForms y.1 after × (characters (first.0 ∷ map unit_of more) ≡ y.0 ∷ characters (map unit_of after))) t.1
          (n.more, n.others, ap (λ (us : List ℕ). characters (first.0 ∷ us)) units ∙ a_pair first.0 second.0 (map unit_of n.more) t.0)
      | inr t ↦
          subst (λ (y : ℕ × List ℕ). (after : List (List ℕ)) × AreForms y.1 after × (characters (first.0 ∷ map unit_of more) ≡ y.0 ∷ characters (map unit_of after))) t.1
          (more, f, ap (λ (us : List ℕ). characters (first.0 ∷ us)) units ∙ (unpaired first.0 second.0 (map unit_of n.more) t.0 ∙ ap (λ (us : List ℕ). alone first.0 ∷ characters us) (sym units)))
    ]

first_character : (bs : List ℕ) (forms : List (List ℕ)) (x : ℕ × List ℕ) → AreForms bs forms → character_at bs ≡ Some x → FirstCharacter forms x
unfolding character_at
first_character bs forms x f e =
    let m = mapped (λ (first : ℕ × List ℕ). character_with first (unit_at first.1)) (unit_at bs) x e in
    let n = first_form bs forms m.0 f m.1 in
    let b = behind m.0 n.more (unit_at m.0.1) x n.others refl m.2 in
    let units : map unit_of forms ≡ m.0.0 ∷ map unit_of n.more = ap (map unit_of) n.whole ∙ ap (λ (u : ℕ). u ∷ map unit_of n.more) (sym n.unit) in
    record { more = b.0; others = b.1; read = ap characters units ∙ b.2 }

with_shorter : (first : ℕ × List ℕ) (next : Option (ℕ × List ℕ)) (x : ℕ × List ℕ) → unit_at first.1 ≡ next → character_with first next ≡ x → length x.1 ≤ length first.1
with_shorter first None x read e = let same = ap (λ (y : ℕ × List ℕ). length y.1) e in omega arith
with_shorter first (Some second) x read e =
    elim (chosen (is_high first.0 && is_low second.0) (pair_of first.0 second.0, second.1) (alone first.0, first.1) x e) [
      | inl t ↦ let same = ap (λ (y : ℕ × List ℕ). length y.1) t.1 in let shorter = unit_shorter first.1 second.0 second.1 read in omega arith
      | inr t ↦ let same = ap (λ (y : ℕ × List ℕ). length y.1) t.1 in omega arith
    ]

pub character_shorter : (bs : List ℕ) (character : ℕ) (rest : List ℕ) → character_at bs ≡ Some (character, rest) → length rest < length bs
unfolding character_at
character_shorter bs character rest e =
    let m = mapped (λ (first : ℕ × List ℕ). character_with first (unit_at first.1)) (unit_at bs) (character, rest) e in
    let first = unit_shorter bs m.0.0 m.0.1 m.1 in
    let second = with_shorter m.0 (unit_at m.0.1) (character, rest) refl m.2 in
    omega arith

no_character : (bs : List ℕ) (forms : List (List ℕ)) → AreForms bs forms → character_at bs ≡ None → forms ≡ []
unfolding character_at
no_character bs forms f e = no_form bs forms f (unmapped (unit_at bs) e)
  where
    unmapped : (o : Option (ℕ × List ℕ)) → option_map (λ (first : ℕ × List ℕ). character_with first (unit_at first.1)) o ≡ None → o ≡ None
    unmapped None e = refl
    unmapped (Some x) e = absurd cc

-- the text so far, and what the rest of the forms give
pub record TextLeft (forms : List (List ℕ)) (rest text : List ℕ) : Type 0 where
  pub more : List (List ℕ)
  pub others : AreForms rest more
  pub whole : text ++ encode_utf8_all (characters (map unit_of more)) ≡ encode_utf8_all (characters (map unit_of forms))

pub record TextSoFar (bytes rest text : List ℕ) : Type 0 where
  pub left : (forms : List (List ℕ)) → AreForms bytes forms → TextLeft forms rest text

pub text_none : (bytes : List ℕ) → TextSoFar bytes bytes []
text_none bytes = record { left = λ forms f. record { more = forms; others = f; whole = refl } }

pub text_more : (bytes rest text : List ℕ) (character : ℕ) (after : List ℕ) → TextSoFar bytes rest text → character_at rest ≡ Some (character, after) → TextSoFar bytes after (text ++ encode_utf8 character)
text_more bytes rest text character after so_far e =
    record {
      left = λ forms f.
          let l = so_far.left forms f in
          let n = first_character rest l.more (character, after) l.others e in
          record {
            more = n.more;
            others = n.others;
            whole = append_assoc text (encode_utf8 character) (encode_utf8_all (characters (map unit_of n.more))) ∙ (ap (λ (cs : List ℕ). text ++ encode_utf8_all cs) (sym n.read) ∙ l.whole);
          };
    }

pub text_all : (bytes rest text : List ℕ) → TextSoFar bytes rest text → character_at rest ≡ None → (forms : List (List ℕ)) → AreForms bytes forms → text ≡ encode_utf8_all (characters (map unit_of forms))
text_all bytes rest text so_far none forms f =
    let l = so_far.left forms f in
    sym (ap (λ (fs : List (List ℕ)). text ++ encode_utf8_all (characters (map unit_of fs))) (no_character rest l.more l.others none) ∙ append-nil text) ∙ l.whole

pub text_found : (bytes rest text : List ℕ) → TextSoFar bytes rest text → character_at rest ≡ None → IsModifiedUtf8 bytes → IsTextOf bytes text
text_found bytes rest text so_far none h = record { forms = h.0; formed = h.1; spelled = text_all bytes rest text so_far none h.0 h.1 }

pub text_only : (bytes rest text other : List ℕ) → TextSoFar bytes rest text → character_at rest ≡ None → IsTextOf bytes other → text ≡ other
text_only bytes rest text other so_far none t = text_all bytes rest text so_far none t.forms t.formed ∙ sym t.spelled

-- ---- one text

same_units : (bytes : List ℕ) (forms others : List (List ℕ)) → AreForms bytes forms → AreForms bytes others → map unit_of forms ≡ map unit_of others
same_units bytes [] others f g = sym (ap (map unit_of) (no_form bytes others g (ap unit_at f.joined)))
same_units bytes (form ∷ forms) others f g =
    let read : unit_at bytes ≡ Some (unit_of form, concat forms) = ap unit_at f.joined ∙ unit_again form (concat forms) f.each.0 in
    let n = first_form bytes others (unit_of form, concat forms) g read in
    let rest = same_units (concat forms) forms n.more (record { each = f.each.1; joined = refl }) n.others in
    let units : map unit_of others ≡ unit_of n.form ∷ map unit_of n.more = ap (map unit_of) n.whole in
    ap (λ (u : ℕ). u ∷ map unit_of forms) n.unit ∙ (ap (λ (us : List ℕ). unit_of n.form ∷ us) rest ∙ sym units)

pub one_text : (bytes text other : List ℕ) → IsTextOf bytes text → IsTextOf bytes other → text ≡ other
one_text bytes text other t u = t.spelled ∙ (ap (λ (us : List ℕ). encode_utf8_all (characters us)) (same_units bytes t.forms u.forms t.formed u.formed) ∙ sym u.spelled)
