-- The two laws of the content of a Code attribute.
use Rattle.std.proofs.Common.{◌≡◌, ℕ, ◌+◌, ◌-◌, ◌^◌, ◌<◌, ◌≤◌, inl, inr, Some, None, List, [], ◌++◌, length, take, drop, Result, Ok, Err, refl, sym, ap, subst, ◌∙◌, arith, zero-add}
use Rattle.std.specs.Prelude.{◌==◌, IfOk}
use Rattle.std.specs.Result.{result_ok}
use Rattle.byteorder.specs.Endian.{big_number}
use Rattle.std.proofs.lemmas.Bool.{eqb-true, cases_lt, lt-ltb, le-ltb}
use Rattle.std.proofs.lemmas.List.{append-nil, nil_from_length, length-drop, drop-drop}
use Rattle.class_walk.specs.declared.class.RawAttribute.{RawAttribute}
use Rattle.class_walk.specs.declared.class.RawHandler.{RawHandler}
use Rattle.class_walk.specs.declared.class.RawCode.{RawCode}
use Rattle.class_walk.specs.declared.refusal.WalkFault.{WalkFault}
use Rattle.class_walk.specs.declared.refusal.WalkFault.TheVariants.{Truncated}
use Rattle.class_walk.specs.declared.refusal.WalkRefusal.{WalkRefusal}
use Rattle.class_walk.specs.declared.refusal.WalkRefusal.TheVariants as refusals
use Rattle.class_walk.specs.declared.refusal.ContentRefusal.{ContentRefusal}
use Rattle.class_walk.specs.declared.refusal.ContentRefusal.TheVariants as codes
use Rattle.class_walk.specs.Place.{Place}
use Rattle.class_walk.specs.Layout.{IsBytes, u2, u4, table, IsTable, attribute, IsAttribute, handler, IsRawHandler, code_front, code_spelling, IsCode, IsCodeContent, IsCut}
use Rattle.class_walk.specs.Reading.{Fails, bytes_at, number_at, table_at, attribute_at, handler_at, code_head_at, code_rest_at, code_at, start_of, end_at, ended, code_head_of, content_of, code_of, refused, Reads}
use Rattle.class_walk.proofs.Fields.{Takes, Takes-then, split_then, bytes_after, bind_ok, bind_then, ok_is, wide2, wide4, number_takes, number_again, bytes_take, bytes_again}
use Rattle.class_walk.proofs.Laws.{Law, counted, placed, table_law, handler_law}
use Rattle.class_walk.proofs.ClassLaws.{met_ok, attributes}

handlers : Law (table_at handler_at) (table handler) (IsTable handler (λ at h. IsRawHandler h))
handlers = table_law handler_at handler (λ at h. IsRawHandler h) handler_law

record IsCodeAtFront (bytes : List ℕ) (c : RawCode) (q : Place) : Type 0 where
  pub takes : Takes (start_of bytes) (code_spelling c) q
  pub holds : IsCode c

abbrev done_with : ℕ × Place → ℕ × Place → List ℕ × Place → List RawHandler × Place → List RawAttribute × Place → RawCode × Place
done_with a b f g h = (record { max_stack = a.0; max_locals = b.0; bytes = f.0; handlers = g.0; attributes = h.0 }, h.1)

parts_take : (bytes : List ℕ) (c : RawCode) (q : Place) → IsBytes bytes
    → (a b d : ℕ × Place) (f : List ℕ × Place) (g : List RawHandler × Place) (h : List RawAttribute × Place)
    → number_at 2 (start_of bytes) ≡ Ok a → number_at 2 a.1 ≡ Ok b → number_at 4 b.1 ≡ Ok d → bytes_at d.0 d.1 ≡ Ok f → table_at handler_at f.1 ≡ Ok g → table_at attribute_at g.1 ≡ Ok h
    → done_with a b f g h ≡ (c, q) → IsCodeAtFront bytes c q
parts_take bytes c q fits a b d f g h ea eb ed ef eg eh e =
    let ta = number_takes 2 wide2 (start_of bytes) a.0 a.1 fits ea in
    let tb = number_takes 2 wide2 a.1 b.0 b.1 (bytes_after fits ta.0) eb in
    let sb = Takes-then ta.0 tb.0 in
    let td = number_takes 4 wide4 b.1 d.0 d.1 (bytes_after fits sb) ed in
    let tf = bytes_take d.0 d.1 f.0 f.1 ef in
    let size : Takes b.1 (u4 (length f.0)) d.1 = subst (λ (n : ℕ). Takes b.1 (u4 n) d.1) (sym tf.1) td.0 in
    let sd = Takes-then sb size in
    let sf = Takes-then sd tf.0 in
    let tg = handlers.takes f.1 g.0 g.1 (bytes_after fits sf) eg in
    let sg = Takes-then sf tg.0 in
    let th = attributes.takes g.1 h.0 h.1 (bytes_after fits sg) eh in
    let x : RawCode = (done_with a b f g h).0 in
    subst (λ (y : RawCode × Place). IsCodeAtFront bytes y.0 y.1) {x = done_with a b f g h} e (record {
      takes = Takes-then sg th.0;
      holds = record {
        max_stack = ta.1;
        max_locals = tb.1;
        size = omega (arith, td.1, tf.1);
        handlers = counted handler IsRawHandler f.1.at g.0 tg.1;
        attributes = subst (λ (at : ℕ). IsTable attribute IsAttribute at h.0) (sg.at ∙ zero-add (length (code_front x))) th.1;
      };
    })

code_takes : (bytes : List ℕ) (c : RawCode) (q : Place) → IsBytes bytes → code_at (start_of bytes) ≡ Ok (c, q) → IsCodeAtFront bytes c q
unfolding code_at code_head_at code_rest_at
code_takes bytes c q fits e =
    bind_then (code_head_at (start_of bytes)) _ _ _ e (λ k ek e.
    bind_then (number_at 2 (start_of bytes)) _ _ _ ek (λ a ea ek.
    bind_then (number_at 2 a.1) _ _ _ ek (λ b eb ek.
    bind_then (number_at 4 b.1) _ _ _ ek (λ d ed ek.
    bind_then (bytes_at d.0 d.1) _ _ _ ek (λ f ef ek.
    let behind = subst (λ (y : (ℕ × ℕ × List ℕ) × Place). code_rest_at y.0 y.1 ≡ Ok (c, q)) (sym (ok_is ((a.0, b.0, f.0), f.1) k ek)) e in
    bind_then (table_at handler_at f.1) _ _ _ behind (λ g eg e.
    bind_then (table_at attribute_at g.1) _ _ _ e (λ h eh e.
    parts_take bytes c q fits a b d f g h ea eb ed ef eg eh (ok_is _ (c, q) e))))))))

abbrev to_locals : RawCode → List ℕ
to_locals c = u2 c.max_stack ++ u2 c.max_locals

abbrev to_size : RawCode → List ℕ
to_size c = to_locals c ++ u4 (length c.bytes)

abbrev to_bytes : RawCode → List ℕ
to_bytes c = to_size c ++ c.bytes

parts_again : (bytes : List ℕ) (c : RawCode) (a b d f g q : Place) → IsCode c
    → Takes (start_of bytes) (u2 c.max_stack) a → Takes a (u2 c.max_locals) b → Takes b (u4 (length c.bytes)) d → Takes d c.bytes f
    → Takes f (table handler c.handlers) g → Takes g (table attribute c.attributes) q → Takes (start_of bytes) (code_front c) g
    → code_at (start_of bytes) ≡ Ok (c, q)
unfolding code_at code_head_at code_rest_at
parts_again bytes c a b d f g q right ta tb td tf tg th sg =
    let table = handlers.again f c.handlers g (placed handler IsRawHandler f.at c.handlers right.handlers) tg in
    let last = attributes.again g c.attributes q (subst (λ (at : ℕ). IsTable attribute IsAttribute at c.attributes) (sym (sg.at ∙ zero-add (length (code_front c)))) right.attributes) th in
    rw (
      number_again 2 (start_of bytes) c.max_stack a right.max_stack ta,
      number_again 2 a c.max_locals b right.max_locals tb,
      number_again 4 b (length c.bytes) d right.size td,
      bytes_again d c.bytes f tf,
      table,
      last,
    ) refl

code_again : (bytes : List ℕ) (c : RawCode) (q : Place) → IsCode c → Takes (start_of bytes) (code_spelling c) q → code_at (start_of bytes) ≡ Ok (c, q)
code_again bytes c q right t =
    let p : Place = start_of bytes in
    split_then p (code_front c) (table attribute c.attributes) q _ t (λ g sg th.
    split_then p (to_bytes c) (table handler c.handlers) g _ sg (λ f sf tg.
    split_then p (to_size c) c.bytes f _ sf (λ d sd tf.
    split_then p (to_locals c) (u4 (length c.bytes)) d _ sd (λ b sb td.
    split_then p (u2 c.max_stack) (u2 c.max_locals) b _ sb (λ a ta tb.
    parts_again bytes c a b d f g q right ta tb td tf tg th sg)))))

-- ---- the content

content_takes : (bytes : List ℕ) (c : RawCode) → IsBytes bytes → length bytes < 2 ^ 32 → content_of bytes ≡ Ok c → IsCodeContent bytes c
unfolding content_of ended
content_takes bytes c fits size e =
    let a = bind_ok (code_at (start_of bytes)) _ _ e in
    let b = bind_ok (end_at a.0.1) _ _ a.2 in
    let m = met_ok (length a.0.1.left == 0) _ _ _ b.1 in
    let t = code_takes bytes a.0.0 a.0.1 fits a.1 in
    let nothing : a.0.1.left ≡ [] = nil_from_length a.0.1.left (eqb-true _ _ m.0) in
    let whole : bytes ≡ code_spelling a.0.0 = t.takes.parts ∙ ap (λ (r : List ℕ). code_spelling a.0.0 ++ r) nothing ∙ append-nil (code_spelling a.0.0) in
    subst (λ (y : RawCode). IsCodeContent bytes y) (ok_is a.0.0 c b.2) (record { holds = t.holds; spelled = whole; size = size })

content_again : (bytes : List ℕ) (c : RawCode) → IsCodeContent bytes c → content_of bytes ≡ Ok c
unfolding content_of ended
content_again bytes c is =
    let q : Place = record { at = length (code_spelling c); left = [] } in
    let t : Takes (start_of bytes) (code_spelling c) q = record { parts = is.spelled ∙ sym (append-nil (code_spelling c)); at = sym (zero-add (length (code_spelling c))) } in
    rw (code_again bytes c q is.holds t) refl

-- ---- what the answers say

pub long_is_none : (bytes : List ℕ) → 4294967295 < length bytes → code_of bytes ≡ None
unfolding code_of
long_is_none bytes long = rw (lt-ltb 4294967295 (length bytes) long) refl

pub short_is : (bytes : List ℕ) → length bytes ≤ 4294967295 → code_of bytes ≡ result_ok (content_of bytes)
unfolding code_of
short_is bytes short = rw (le-ltb 4294967295 (length bytes) short) refl

pub read_is_some : (bytes : List ℕ) (c : RawCode) → length bytes ≤ 4294967295 → content_of bytes ≡ Ok c → code_of bytes ≡ Some c
read_is_some bytes c short e = short_is bytes short ∙ ap result_ok e

pub refused_reads : (bytes : List ℕ) (e : WalkRefusal) → length bytes ≤ 4294967295 → Fails e (content_of bytes) → Reads (Err (refused e)) (code_of bytes)
refused_reads bytes refusals.NoMemory short fails = tt
refused_reads bytes (refusals.Fault f) short fails = short_is bytes short ∙ ap result_ok fails

-- ---- what is refused before memory is taken

abbrev end_of : Place → WalkFault
end_of p = Truncated (p.at + length p.left)

number_cut : (n : ℕ) (p : Place) → length p.left < n → number_at n p ≡ Err (end_of p)
number_cut n p cut = rw (lt-ltb (length p.left) n cut) refl

number_whole : (n : ℕ) (p : Place) → n ≤ length p.left → number_at n p ≡ Ok (big_number n (take n p.left), record { at = p.at + n; left = drop n p.left })
number_whole n p whole = rw (le-ltb (length p.left) n whole) refl

bytes_cut : (n : ℕ) (p : Place) → length p.left < n → bytes_at n p ≡ Err (end_of p)
bytes_cut n p cut = rw (lt-ltb (length p.left) n cut) refl

-- the head of a content of at least eight bytes
sizes_whole : (bytes : List ℕ) → 8 ≤ length bytes → length bytes < 8 + big_number 4 (take 4 (drop 4 bytes)) → (f : WalkFault) × (code_head_of bytes ≡ Err f)
unfolding code_head_of code_head_at
sizes_whole bytes whole cut =
    let twice : drop 2 (drop 2 bytes) ≡ drop 4 bytes = drop-drop 2 2 bytes in
    let p : Place = start_of bytes in
    let q : Place = record { at = 2; left = drop 2 bytes } in
    let r : Place = record { at = 4; left = drop 2 (drop 2 bytes) } in
    let s : Place = record { at = 8; left = drop 4 (drop 2 (drop 2 bytes)) } in
    let left : length s.left ≡ length bytes - 8 = omega (arith, length-drop 2 bytes, length-drop 2 q.left, length-drop 4 r.left) in
    let size : length s.left < big_number 4 (take 4 r.left) = omega (arith, left, cut, ap (λ (x : List ℕ). big_number 4 (take 4 x)) twice) in (
      end_of s,
      rw (
        number_whole 2 p (omega (arith, whole)),
        number_whole 2 q (omega (arith, whole, length-drop 2 bytes)),
        number_whole 4 r (omega (arith, whole, length-drop 2 bytes, length-drop 2 q.left)),
        bytes_cut (big_number 4 (take 4 r.left)) s size,
      ) refl,
    )

abbrev pub failed : WalkRefusal → Result RawCode WalkRefusal
failed e = Err e

pub cut_fault : (bytes : List ℕ) → IsCut bytes → (f : WalkFault) × (code_head_of bytes ≡ Err f)
unfolding code_head_of code_head_at
cut_fault bytes cut = elim (cases_lt (length bytes) 2) [
  | inl lt ↦ (end_of (start_of bytes), rw (number_cut 2 (start_of bytes) lt) refl)
  | inr two ↦
      let q : Place = record { at = 2; left = drop 2 bytes } in
      let first = number_whole 2 (start_of bytes) two in
      elim (cases_lt (length bytes) 4) [
        | inl lt ↦ (end_of q, rw (first, number_cut 2 q (omega (arith, lt, two, length-drop 2 bytes))) refl)
        | inr four ↦
            let second = number_whole 2 q (omega (arith, four, length-drop 2 bytes)) in
            let r : Place = record { at = 4; left = drop 2 (drop 2 bytes) } in
            elim (cases_lt (length bytes) 8) [
              | inl lt ↦ (end_of r, rw (first, second, number_cut 4 r (omega (arith, lt, four, length-drop 2 bytes, length-drop 2 q.left))) refl)
              | inr eight ↦ sizes_whole bytes eight cut
            ]
      ]
]

pub cut_refused : (bytes : List ℕ) (e : WalkRefusal) → IsCut bytes → ((f : WalkFault) → code_head_of bytes ≡ Err f → failed e ≡ failed (refusals.Fault f)) → refused e ≡ codes.Malformed
cut_refused bytes e cut head =
    let fault = cut_fault bytes cut in
    let is : e ≡ refusals.Fault fault.0 = failed_is e (refusals.Fault fault.0) (head fault.0 fault.1) in
    rw is refl
  where
    failed_is : (a b : WalkRefusal) → failed a ≡ failed b → a ≡ b
    failed_is a b e = cc

some_content : (bytes : List ℕ) (c : RawCode) → IsBytes bytes → code_of bytes ≡ Some c → IsCodeContent bytes c
unfolding code_of
some_content bytes c fits e = elim (cases_lt 4294967295 (length bytes)) [
  | inl long ↦ let none = long_is_none bytes long in absurd cc
  | inr short ↦ content_takes bytes c fits (omega (arith, short)) (ok_from (content_of bytes) c (sym (short_is bytes short) ∙ e))
]
  where
    ok_from : (r : Result RawCode WalkFault) (c : RawCode) → result_ok r ≡ Some c → r ≡ Ok c
    ok_from (Ok x) c e = cc
    ok_from (Err f) c e = absurd cc

pub content_some : (bytes : List ℕ) (c : RawCode) → IsCodeContent bytes c → code_of bytes ≡ Some c
content_some bytes c is = short_is bytes (omega (arith, is.size)) ∙ ap result_ok (content_again bytes c is)

pub code_found : (bytes : List ℕ) (r : Result RawCode ContentRefusal) → IsBytes bytes → Reads r (code_of bytes) → IfOk r (λ c. IsCodeContent bytes c)
code_found bytes (Ok c) fits given = some_content bytes c fits given
code_found bytes (Err e) fits given = tt
