-- What is read of a stack map frame is what it says.
use Rattle.std.proofs.Common.{◌≡◌, ℕ, ◌+◌, ◌<◌, ◌≤◌, true, false, List, [], ◌∷◌, ◌++◌, length, take, drop, get_or, Option, Some, None, option_map, refl, sym, ap, ◌∙◌, subst, inl, inr, arith, codes, append_assoc, add-one, drop-cons, length-drop}
use Rattle.std.specs.Prelude.{nat_lt, ◌&&◌}
use Rattle.std.specs.Str.{bytes_eq}
use Rattle.std.proofs.lemmas.Bool.{and_parts, ltb-true, lt-ltb}
use Rattle.std.proofs.lemmas.List.{take_more, append-nil, drop_all, take-append-drop}
use Rattle.std.proofs.lemmas.Option.{same_Some}
use Rattle.assembler_lines.specs.declared.word.Word.{Word}
use Rattle.assembler_lines.specs.declared.word.Word.TheVariants.{Plain, Quoted}
use Rattle.assembler_lines.specs.declared.frame.FrameItem.{FrameItem}
use Rattle.assembler_lines.specs.declared.frame.FrameItem.TheVariants.{Top, Int, Long, Null, This, New, Class}
use Rattle.assembler_lines.specs.declared.line.Line.{Line}
use Rattle.assembler_lines.specs.declared.line.Line.TheVariants.{Frame}
use Rattle.assembler_lines.specs.Words.{word}
use Rattle.assembler_lines.specs.Frames.{IsNew, IsClassItem, IsItem, AreItems}
use Rattle.assembler_lines.specs.Lines.{Says}
use Rattle.assembler_lines.specs.Front.{each}
use Rattle.assembler_lines.specs.ReadingFrames.{new_label, object_of, named_item, is_slash, item_of, split_at_slash, frame_at}
use Rattle.class_names.proofs.Cases.{chosen, mapped}
use Rattle.assembler_lines.proofs.TextLaws.{text_same, text_differs, text_isnt}
use Rattle.assembler_lines.proofs.FrontLaws.{bound}

-- ---- labels

new_takes : (written label : List ℕ) → new_label written ≡ Some label → IsNew written label
new_takes written label e =
    elim (chosen (nat_lt 4 (length written) && bytes_eq (take 4 written) (codes "new:")) (Some (drop 4 written)) None (Some label) e) [
      | inl t ↦
          let p = and_parts (nat_lt 4 (length written)) (bytes_eq (take 4 written) (codes "new:")) t.0 in
          let long : 4 < length written = ltb-true 4 (length written) p.0 in
          let same : drop 4 written ≡ label = same_Some (drop 4 written) label t.1 in (
            sym (take-append-drop 4 written) ∙ (ap (λ (ns : List ℕ). ns ++ drop 4 written) (text_same (take 4 written) (codes "new:") p.1) ∙ ap (λ (ns : List ℕ). codes "new:" ++ ns) same),
            omega (arith, ap length same, length-drop 4 written),
          )
      | inr t ↦ absurd (let none = t.1 in cc)
    ]

new_again : (written label : List ℕ) → IsNew written label → new_label written ≡ Some label
new_again written [] h = absurd (omega arith)
new_again written (b ∷ label) h =
    let long : nat_lt 4 (length (codes "new:" ++ b ∷ label)) ≡ true = lt-ltb 4 (length (codes "new:" ++ b ∷ label)) (omega arith) in
    ap new_label h.0 ∙ rw long refl

no_label : (written : List ℕ) → new_label written ≡ None → (label : List ℕ) → IsNew written label → ⊥
no_label written none label h = let some = new_again written label h in cc

is_no_label : (written : List ℕ) → ((label : List ℕ) → IsNew written label → ⊥) → new_label written ≡ None
is_no_label written differs = by_label (new_label written) refl
  where
    by_label : (o : Option (List ℕ)) → new_label written ≡ o → o ≡ None
    by_label None e = refl
    by_label (Some label) e = absurd (differs label (new_takes written label e))

-- ---- items

object_takes : (written : List ℕ) (item : FrameItem) → bytes_eq written (codes "/") ≡ false → bytes_eq written (codes "top") ≡ false → bytes_eq written (codes "int") ≡ false → bytes_eq written (codes "long") ≡ false
    → bytes_eq written (codes "null") ≡ false → bytes_eq written (codes "this") ≡ false → object_of written (new_label written) ≡ item → IsItem (Plain written) item
object_takes written item slash top int long null this e = subst (IsItem (Plain written)) e (by_label (new_label written) refl)
  where
    by_label : (o : Option (List ℕ)) → new_label written ≡ o → IsItem (Plain written) (object_of written o)
    by_label None none = (
      refl,
      record {
        not_top = text_differs written (codes "top") top;
        not_int = text_differs written (codes "int") int;
        not_long = text_differs written (codes "long") long;
        not_null = text_differs written (codes "null") null;
        not_this = text_differs written (codes "this") this;
        not_new = no_label written none;
        not_slash = text_differs written (codes "/") slash;
      },
    )
    by_label (Some label) some = (written, refl, new_takes written label some)

named_takes : (written : List ℕ) (item : FrameItem) → bytes_eq written (codes "/") ≡ false → named_item written ≡ item → IsItem (Plain written) item
named_takes written item slash e =
    elim (chosen (bytes_eq written (codes "top")) Top _ item e) [
      | inl t ↦ subst (IsItem (Plain written)) t.1 (ap (λ (n : List ℕ). Plain n) (text_same written (codes "top") t.0))
      | inr f1 ↦ elim (chosen (bytes_eq written (codes "int")) Int _ item f1.1) [
        | inl t ↦ subst (IsItem (Plain written)) t.1 (ap (λ (n : List ℕ). Plain n) (text_same written (codes "int") t.0))
        | inr f2 ↦ elim (chosen (bytes_eq written (codes "long")) Long _ item f2.1) [
          | inl t ↦ subst (IsItem (Plain written)) t.1 (ap (λ (n : List ℕ). Plain n) (text_same written (codes "long") t.0))
          | inr f3 ↦ elim (chosen (bytes_eq written (codes "null")) Null _ item f3.1) [
            | inl t ↦ subst (IsItem (Plain written)) t.1 (ap (λ (n : List ℕ). Plain n) (text_same written (codes "null") t.0))
            | inr f4 ↦ elim (chosen (bytes_eq written (codes "this")) This (object_of written (new_label written)) item f4.1) [
              | inl t ↦ subst (IsItem (Plain written)) t.1 (ap (λ (n : List ℕ). Plain n) (text_same written (codes "this") t.0))
              | inr f5 ↦ object_takes written item slash f1.0 f2.0 f3.0 f4.0 f5.0 f5.1
            ]
          ]
        ]
      ]
    ]

item_takes : (said : Word) (item : FrameItem) → item_of said ≡ Some item → IsItem said item
item_takes (Plain written) item e =
    elim (chosen (bytes_eq written (codes "/")) None (Some (named_item written)) (Some item) e) [
      | inl t ↦ absurd (let none = t.1 in cc)
      | inr t ↦ named_takes written item t.0 (same_Some (named_item written) item t.1)
    ]
item_takes (Quoted units) item e = absurd cc

new_item : (written label : List ℕ) → IsNew written label → item_of (Plain written) ≡ Some (New label)
new_item written label h =
    let some = new_again (codes "new:" ++ label) label (refl, h.1) in
    ap (λ (w : List ℕ). item_of (Plain w)) h.0 ∙ rw some refl

class_item : (name : List ℕ) → IsClassItem name → item_of (Plain name) ≡ Some (Class name)
class_item name h =
    let top = text_isnt name (codes "top") h.not_top in
    let int = text_isnt name (codes "int") h.not_int in
    let long = text_isnt name (codes "long") h.not_long in
    let null = text_isnt name (codes "null") h.not_null in
    let this = text_isnt name (codes "this") h.not_this in
    let none = is_no_label name h.not_new in
    let slash = text_isnt name (codes "/") h.not_slash in
    rw (slash, top, int, long, null, this, none) refl

item_again : (said : Word) (item : FrameItem) → IsItem said item → item_of said ≡ Some item
item_again said Top h = ap item_of h
item_again said Int h = ap item_of h
item_again said Long h = ap item_of h
item_again said Null h = ap item_of h
item_again said This h = ap item_of h
item_again said (New label) h = ap item_of h.1 ∙ new_item h.0 label h.2
item_again said (Class name) h = ap item_of h.0 ∙ class_item name h.1

items_take : (words : List Word) (items : List FrameItem) → each item_of words ≡ Some items → AreItems words items
items_take [] items e = subst (AreItems []) (same_Some [] items e) refl
items_take (w ∷ words) items e =
    let i = bound (item_of w) _ items e in
    let o = bound (each item_of words) (λ (others : List FrameItem). Some (i.0 ∷ others)) items i.2 in
    subst (AreItems (w ∷ words)) (same_Some (i.0 ∷ o.0) items o.2) (w, words, refl, item_takes w i.0 i.1, items_take words o.0 o.1)

items_again : (words : List Word) (items : List FrameItem) → AreItems words items → each item_of words ≡ Some items
items_again words [] h = ap (each item_of) h
items_again words (item ∷ items) h =
    let first = item_again h.0 item h.3 in
    let others = items_again h.1 items h.4 in
    ap (each item_of) h.2 ∙ rw (first, others) refl

-- ---- the slash

slash_is : (said : Word) → is_slash said ≡ true → said ≡ word "/"
slash_is (Plain written) e = ap (λ (n : List ℕ). Plain n) (text_same written (codes "/") e)
slash_is (Quoted units) e = absurd cc

item_no_slash : (said : Word) (item : FrameItem) → item_of said ≡ Some item → is_slash said ≡ false
item_no_slash (Plain written) item e =
    elim (chosen (bytes_eq written (codes "/")) None (Some (named_item written)) (Some item) e) [
      | inl t ↦ absurd (let none = t.1 in cc)
      | inr t ↦ t.0
    ]
item_no_slash (Quoted units) item e = refl

split_takes : (words : List Word) (x : List Word × List Word) → split_at_slash words ≡ Some x → words ≡ x.0 ++ word "/" ∷ x.1
unfolding split_at_slash
split_takes [] x e = absurd cc
split_takes (w ∷ words) x e =
    elim (chosen (is_slash w) (Some ([], words)) (option_map (λ (y : List Word × List Word). (w ∷ y.0, y.1)) (split_at_slash words)) (Some x) e) [
      | inl t ↦ subst (λ (y : List Word × List Word). w ∷ words ≡ y.0 ++ word "/" ∷ y.1) (same_Some ([], words) x t.1) (ap (λ (s : Word). s ∷ words) (slash_is w t.0))
      | inr t ↦
          let m = mapped (λ (y : List Word × List Word). (w ∷ y.0, y.1)) (split_at_slash words) x t.1 in
          subst (λ (y : List Word × List Word). w ∷ words ≡ y.0 ++ word "/" ∷ y.1) m.2 (ap (λ (ws : List Word). w ∷ ws) (split_takes words m.0 m.1))
    ]

split_again : (before : List Word) (items : List FrameItem) (behind : List Word) → AreItems before items → split_at_slash (before ++ word "/" ∷ behind) ≡ Some (before, behind)
unfolding split_at_slash
split_again before [] behind h = ap (λ (ws : List Word). split_at_slash (ws ++ word "/" ∷ behind)) h ∙ ap (λ (ws : List Word). Some (ws, behind)) (sym h)
split_again before (item ∷ items) behind h =
    let isnt = item_no_slash h.0 item (item_again h.0 item h.3) in
    let others = split_again h.1 items behind h.4 in
    let one : split_at_slash ((h.0 ∷ h.1) ++ word "/" ∷ behind) ≡ Some (h.0 ∷ h.1, behind) = rw (isnt, others) refl in
    subst (λ (ws : List Word). split_at_slash (ws ++ word "/" ∷ behind) ≡ Some (ws, behind)) (sym h.2) one

-- ---- frames

pub frame_takes : (words : List Word) (line : Line) → frame_at words ≡ Some line → Says (word "frame" ∷ words) line
unfolding frame_at
frame_takes words line e =
    let p = bound (split_at_slash words) _ line e in
    let l = bound (each item_of p.0.0) _ line p.2 in
    let s = bound (each item_of p.0.1) (λ (stack : List FrameItem). Some (Frame l.0 stack)) line l.2 in
    subst (Says (word "frame" ∷ words)) (same_Some (Frame l.0 s.0) line s.2) (record {
      before = p.0.0;
      behind = p.0.1;
      spelled = ap (λ (ws : List Word). word "frame" ∷ ws) (split_takes words p.0 p.1);
      locals_are = items_take p.0.0 l.0 l.1;
      stack_are = items_take p.0.1 s.0 s.1;
    })

pub frame_again : (before behind : List Word) (locals stack : List FrameItem) → AreItems before locals → AreItems behind stack → frame_at (before ++ word "/" ∷ behind) ≡ Some (Frame locals stack)
unfolding frame_at
frame_again before behind locals stack first second =
    let parts = split_again before locals behind first in
    let l = items_again before locals first in
    let s = items_again behind stack second in
    rw (parts, l, s) refl

-- ---- the loop that looks for the slash

-- what was gone over, before what a split of the rest gives
abbrev pub with_parts : List Word → Option (List Word × List Word) → Option (List Word × List Word)
with_parts front read = option_map (λ (x : List Word × List Word). (front ++ x.0, x.1)) read

regroup : (front : List Word) (w : Word) (read : Option (List Word × List Word)) → with_parts front (option_map (λ (x : List Word × List Word). (w ∷ x.0, x.1)) read) ≡ with_parts (front ++ w ∷ []) read
regroup front w None = refl
regroup front w (Some x) = ap (λ (ws : List Word). Some (ws, x.1)) (sym (append_assoc front (w ∷ []) x.0))

pub split_here : (words : List Word) (i : ℕ) (said : Word) → i < length words → said ≡ get_or words i said → is_slash said ≡ true → with_parts (take i words) (split_at_slash (drop i words)) ≡ Some (take i words, drop (i + 1) words)
unfolding split_at_slash
split_here words i said lt is slash = rw (drop-cons words i said lt, ← is, slash, append-nil, ← add-one) refl

pub split_on : (words : List Word) (i : ℕ) (said : Word) → i < length words → said ≡ get_or words i said → is_slash said ≡ false
    → with_parts (take i words) (split_at_slash (drop i words)) ≡ with_parts (take (i + 1) words) (split_at_slash (drop (i + 1) words))
unfolding split_at_slash
split_on words i said lt is isnt =
    let one : split_at_slash (drop i words) ≡ option_map (λ (x : List Word × List Word). (said ∷ x.0, x.1)) (split_at_slash (drop (i + 1) words)) = rw (add-one, drop-cons words i said lt, ← is, isnt) refl in
    let two : take (i + 1) words ≡ take i words ++ said ∷ [] = take_more words i said lt ∙ ap (λ (w : Word). take i words ++ w ∷ []) (sym is) in
    rw (one, two) (regroup (take i words) said (split_at_slash (drop (i + 1) words)))

pub split_end : (words : List Word) (i : ℕ) → length words ≤ i → with_parts (take i words) (split_at_slash (drop i words)) ≡ None
unfolding split_at_slash
split_end words i le = rw (drop_all i words le) refl
