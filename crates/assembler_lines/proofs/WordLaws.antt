-- Reading piece by piece and word by word gives the words of a line.
use Rattle.std.proofs.Common.{◌≡◌, ◌≢◌, ℕ, ◌<◌, ◌≤◌, ◌^◌, true, false, eqb, leb, List, [], ◌∷◌, ◌++◌, length, take, drop, Some, None, refl, sym, ap, ◌∙◌, subst, inl, inr, arith, append_assoc}
use Rattle.std.proofs.lemmas.Bool.{cases_Bool, and_parts, eqb-true, leb-true}
use Rattle.std.proofs.lemmas.List.{append-nil, take-append-drop, length-take-le}
use Rattle.std.proofs.Math.Numerals.{one-add}
use Rattle.std.proofs.Math.Seq.{take-append_seam, drop-append_seam}
use Rattle.std.specs.List.{AllByRecursion, prefix_len}
use Rattle.assembler_lines.specs.declared.word.Word.{Word}
use Rattle.assembler_lines.specs.declared.word.Word.TheVariants.{Plain, Quoted}
use Rattle.class_names.specs.ShortestForms.{encoded}
use Rattle.assembler_lines.specs.Words.{is_plain_byte, IsPlainByte, IsPlain, Spells, AreWords}
use Rattle.assembler_lines.specs.ReadingPiece.{piece_at}
use Rattle.assembler_lines.specs.ReadingWords.{IsQuotedBefore, StandsBefore, IsEnd}
use Rattle.class_names.proofs.Cases.{first_same, second_same}
use Rattle.assembler_lines.proofs.PieceLaws.{piece_again, piece_takes}

-- ---- quoted texts

-- the first piece of what is left
record FirstPiece (bytes : List ℕ) (unit : ℕ) (units rest : List ℕ) : Type 0 where
  after : List ℕ
  read : piece_at bytes ≡ Some (unit, after)
  others : IsQuotedBefore after units rest

first_piece : (bytes : List ℕ) (unit : ℕ) (units rest : List ℕ) → IsQuotedBefore bytes (unit ∷ units) rest → FirstPiece bytes unit units rest
first_piece bytes unit units rest h =
    let q = h.2 in
    let left = q.1 in
    let spelled : bytes ≡ q.0 ++ (left ++ 34 ∷ rest) = h.1 ∙ (ap (λ (ys : List ℕ). ys ++ 34 ∷ rest) q.2 ∙ append_assoc q.0 left (34 ∷ rest)) in
    record {
      after = left ++ 34 ∷ rest;
      read = ap piece_at spelled ∙ piece_again q.0 unit (left ++ 34 ∷ rest) q.3;
      others = (left, refl, q.4);
    }

no_units : (bytes rest : List ℕ) → IsQuotedBefore bytes [] rest → bytes ≡ 34 ∷ rest
no_units bytes rest h = h.1 ∙ ap (λ (ys : List ℕ). ys ++ 34 ∷ rest) h.2

quote_is_no_piece : (bytes rest : List ℕ) (x : ℕ × List ℕ) → bytes ≡ 34 ∷ rest → piece_at bytes ≡ Some x → ⊥
quote_is_no_piece bytes rest x is e = let none : piece_at bytes ≡ None = ap piece_at is in cc

pub record QuotedSoFar (bytes rest units : List ℕ) : Type 0 where
  pub back : (more tail : List ℕ) → IsQuotedBefore rest more tail → IsQuotedBefore bytes (units ++ more) tail
  pub on : (all tail : List ℕ) → IsQuotedBefore bytes all tail → (more : List ℕ) × (all ≡ units ++ more) × IsQuotedBefore rest more tail

pub quoted_none : (bytes : List ℕ) → QuotedSoFar bytes bytes []
quoted_none bytes = record { back = λ more tail h. h; on = λ all tail h. (all, refl, h) }

with_piece : (rest : List ℕ) (unit : ℕ) (after more tail : List ℕ) → piece_at rest ≡ Some (unit, after) → IsQuotedBefore after more tail → IsQuotedBefore rest (unit ∷ more) tail
with_piece rest unit after more tail e h =
    let t = piece_takes rest (unit, after) e in
    (t.piece ++ h.0, t.spelled ∙ (ap (λ (ys : List ℕ). t.piece ++ ys) h.1 ∙ sym (append_assoc t.piece h.0 (34 ∷ tail))), (t.piece, h.0, refl, t.good, h.2))

without_piece : (rest : List ℕ) (unit : ℕ) (after all tail : List ℕ) → piece_at rest ≡ Some (unit, after) → IsQuotedBefore rest all tail → (more : List ℕ) × (all ≡ unit ∷ more) × IsQuotedBefore after more tail
without_piece rest unit after [] tail e h = absurd (quote_is_no_piece rest tail (unit, after) (no_units rest tail h) e)
without_piece rest unit after (u ∷ us) tail e h =
    let f = first_piece rest u us tail h in
    let same : Some (u, f.after) ≡ Some (unit, after) = sym f.read ∙ e in
    (us, ap (λ (n : ℕ). n ∷ us) (first_same (u, f.after) (unit, after) same), subst (λ (ys : List ℕ). IsQuotedBefore ys us tail) (second_same (u, f.after) (unit, after) same) f.others)

pub quoted_more : (bytes rest units : List ℕ) (unit : ℕ) (after : List ℕ) → QuotedSoFar bytes rest units → piece_at rest ≡ Some (unit, after) → QuotedSoFar bytes after (units ++ unit ∷ [])
quoted_more bytes rest units unit after so_far e =
    record {
      back = λ more tail h. subst (λ (us : List ℕ). IsQuotedBefore bytes us tail) (sym (append_assoc units (unit ∷ []) more)) (so_far.back (unit ∷ more) tail (with_piece rest unit after more tail e h));
      on = λ all tail h.
          let o = so_far.on all tail h in
          let w = without_piece rest unit after o.0 tail e o.2 in
          (w.0, o.1 ∙ (ap (λ (us : List ℕ). units ++ us) w.1 ∙ sym (append_assoc units (unit ∷ []) w.0)), w.2);
    }

pub quoted_found : (bytes rest units after : List ℕ) → QuotedSoFar bytes rest units → rest ≡ 34 ∷ after → IsQuotedBefore bytes units after
quoted_found bytes rest units after so_far e =
    subst (λ (us : List ℕ). IsQuotedBefore bytes us after) (append-nil units) (so_far.back [] after ([], e, refl))

-- where no piece is left, the last quote is next
pub quoted_end : (bytes rest units all tail : List ℕ) → QuotedSoFar bytes rest units → piece_at rest ≡ None → IsQuotedBefore bytes all tail → (units ≡ all) × (rest ≡ 34 ∷ tail)
quoted_end bytes rest units all tail so_far none h =
    let o = so_far.on all tail h in
    ended o.0 o.1 o.2
  where
    ended : (more : List ℕ) → all ≡ units ++ more → IsQuotedBefore rest more tail → (units ≡ all) × (rest ≡ 34 ∷ tail)
    ended [] is q = (sym (is ∙ append-nil units), no_units rest tail q)
    ended (u ∷ us) is q = absurd (let f = first_piece rest u us tail q in let some = f.read in cc)

-- ---- plain words

all_plain : (bytes : List ℕ) → AllByRecursion IsPlainByte (take (prefix_len is_plain_byte bytes) bytes)
all_plain [] = tt
all_plain (b ∷ bytes) =
    elim (cases_Bool (is_plain_byte b)) [
      | inl t ↦ rw (t, one-add (prefix_len is_plain_byte bytes)) (t, all_plain bytes)
      | inr f ↦ rw f tt
    ]

plain_len_again : (name rest : List ℕ) → AllByRecursion IsPlainByte name → IsEnd rest → prefix_len is_plain_byte (name ++ rest) ≡ length name
plain_len_again [] [] all end = refl
plain_len_again [] (b ∷ rest) all end = rw end refl
plain_len_again (a ∷ name) rest all end = let same = plain_len_again name rest all.1 end in rw (all.0, same) (omega arith)

plain_parts : (name : List ℕ) → IsPlain name → AllByRecursion IsPlainByte name
plain_parts [] h = absurd h
plain_parts (b ∷ name) h = (h.1, h.2)

plain_full : (name : List ℕ) → IsPlain name → 0 < length name
plain_full [] h = absurd h
plain_full (b ∷ name) h = omega arith

plain_of : (bytes name rest : List ℕ) → ((r : List ℕ) → bytes ≢ 34 ∷ r) → bytes ≡ name ++ rest → AllByRecursion IsPlainByte name → length name ≢ 0 → IsPlain name
plain_of bytes [] rest unquoted e all full = full refl
plain_of bytes (b ∷ name) rest unquoted e all full =
    elim (cases_Bool (eqb b 34)) [
      | inl t ↦ absurd (unquoted (name ++ rest) (e ∙ ap (λ (n : ℕ). n ∷ (name ++ rest)) (eqb-true b 34 t)))
      | inr f ↦ (f, all.0, all.1)
    ]

pub plain_found : (bytes name text rest : List ℕ) (len : ℕ) → ((r : List ℕ) → bytes ≢ 34 ∷ r) → len ≡ prefix_len is_plain_byte bytes → len ≤ length bytes → len ≢ 0 → name ≡ take len bytes → rest ≡ drop len bytes → text ≡ encoded name → StandsBefore bytes (Plain text) rest
plain_found bytes name text rest len unquoted is fits full front back spelled =
    let joined : bytes ≡ name ++ rest = sym (take-append-drop len bytes) ∙ (ap (λ (xs : List ℕ). xs ++ drop len bytes) (sym front) ∙ ap (λ (xs : List ℕ). name ++ xs) (sym back)) in
    let all : AllByRecursion IsPlainByte name = subst (AllByRecursion IsPlainByte) (ap (λ (n : ℕ). take n bytes) (sym is) ∙ sym front) (all_plain bytes) in
    let long : length name ≢ 0 = λ e. full (omega (arith, ap length front, length-take-le len bytes fits)) in
    (name, joined, (spelled, plain_of bytes name rest unquoted joined all long))

quote_is_no_plain : (name r rest : List ℕ) → IsPlain name → 34 ∷ r ≡ name ++ rest → ⊥
quote_is_no_plain [] r rest h e = absurd h
quote_is_no_plain (b ∷ name) r rest h e =
    let same : b ≡ 34 = cc in
    let unquoted : true ≡ false = subst (λ (n : ℕ). eqb n 34 ≡ false) same h.0 in
    cc

-- what a plain word at the front is
pub record PlainStands (bytes : List ℕ) (word : Word) (rest : List ℕ) : Type 0 where
  pub name : List ℕ
  pub is : word ≡ Plain (encoded name)
  pub len : prefix_len is_plain_byte bytes ≡ length name
  pub full : 0 < length name
  pub front : take (length name) bytes ≡ name
  pub back : drop (length name) bytes ≡ rest

pub plain_only : (bytes : List ℕ) (word : Word) (rest : List ℕ) → ((r : List ℕ) → bytes ≢ 34 ∷ r) → StandsBefore bytes word rest → IsEnd rest → PlainStands bytes word rest
plain_only bytes (Plain text) rest unquoted h end =
    let name = h.0 in
    let joined : bytes ≡ name ++ rest = h.1 in
    record {
      name = name;
      is = ap (λ (t : List ℕ). Plain t) h.2.0;
      len = ap (prefix_len is_plain_byte) joined ∙ plain_len_again name rest (plain_parts name h.2.1) end;
      full = plain_full name h.2.1;
      front = ap (take (length name)) joined ∙ take-append_seam name rest;
      back = ap (drop (length name)) joined ∙ drop-append_seam name rest;
    }
plain_only bytes (Quoted units) rest unquoted h end =
    absurd (unquoted ((h.2.0 ++ 34 ∷ []) ++ rest) (h.1 ∙ ap (λ (xs : List ℕ). xs ++ rest) h.2.1))

pub quoted_only : (bytes : List ℕ) (word : Word) (rest : List ℕ) → StandsBefore (34 ∷ bytes) word rest → (units : List ℕ) × (word ≡ Quoted units) × IsQuotedBefore bytes units rest
quoted_only bytes (Plain text) rest h = absurd (quote_is_no_plain h.0 bytes rest h.2.1 h.1)
quoted_only bytes (Quoted units) rest h =
    let whole : 34 ∷ bytes ≡ 34 ∷ ((h.2.0 ++ 34 ∷ []) ++ rest) = h.1 ∙ ap (λ (xs : List ℕ). xs ++ rest) h.2.1 in
    let behind : bytes ≡ (h.2.0 ++ 34 ∷ []) ++ rest = cc in
    (units, refl, (h.2.0, behind ∙ append_assoc h.2.0 (34 ∷ []) rest, h.2.2))

pub quoted_stands : (bytes units rest : List ℕ) → IsQuotedBefore bytes units rest → StandsBefore (34 ∷ bytes) (Quoted units) rest
quoted_stands bytes units rest h =
    (34 ∷ (h.0 ++ 34 ∷ []), ap (λ (xs : List ℕ). 34 ∷ xs) (h.1 ∙ sym (append_assoc h.0 (34 ∷ []) rest)), (h.0, refl, h.2))

-- ---- words

pub record WordsSoFar (text rest : List ℕ) (words : List Word) : Type 0 where
  pub back : (more : List Word) → AreWords rest more → AreWords text (words ++ more)
  pub on : (all : List Word) → AreWords text all → (more : List Word) × (all ≡ words ++ more) × AreWords rest more

pub words_none : (text : List ℕ) → WordsSoFar text text []
words_none text = record { back = λ more h. h; on = λ all h. (all, refl, h) }

pub last_word : (rest : List ℕ) (word : Word) → StandsBefore rest word [] → AreWords rest (word ∷ [])
last_word rest word h = subst (λ (ys : List ℕ). Spells ys word) (sym (h.1 ∙ append-nil h.0)) h.2

pub with_word : (rest : List ℕ) (word : Word) (behind : List ℕ) (more : List Word) → StandsBefore rest word (32 ∷ behind) → AreWords behind more → AreWords rest (word ∷ more)
with_word rest word behind [] h m = absurd m
with_word rest word behind (next ∷ more) h m = (h.0, behind, h.1, h.2, m)

-- the first word of what is left
pub record FirstWord (rest : List ℕ) (all : List Word) : Type 0 where
  pub word : Word
  pub more : List Word
  pub whole : all ≡ word ∷ more
  pub after : List ℕ
  pub stands : StandsBefore rest word after
  pub end : IsEnd after
  pub left : (after ≡ []) → more ≡ []
  pub others : (behind : List ℕ) → after ≡ 32 ∷ behind → AreWords behind more

pub first_word : (rest : List ℕ) (all : List Word) → AreWords rest all → FirstWord rest all
first_word rest [] h = absurd h
first_word rest (word ∷ []) h =
    record { word = word; more = []; whole = refl; after = []; stands = (rest, sym (append-nil rest), h); end = tt; left = λ _. refl; others = λ behind e. absurd cc }
first_word rest (word ∷ next ∷ words) h =
    record { word = word; more = next ∷ words; whole = refl; after = 32 ∷ h.1; stands = (h.0, h.2, h.3); end = refl; left = λ e. absurd cc; others = λ behind e. subst (λ (ys : List ℕ). AreWords ys (next ∷ words)) (let s : 32 ∷ h.1 ≡ 32 ∷ behind = e in let t : h.1 ≡ behind = cc in t) h.4 }

-- what one word at the front says of each
abbrev pub IsOnlyWord : List ℕ → Word → List ℕ → Type 0
IsOnlyWord rest word after = (other : Word) (behind : List ℕ) → StandsBefore rest other behind → IsEnd behind → (word ≡ other) × (after ≡ behind)

pub words_end : (text rest : List ℕ) (words : List Word) (word : Word) (after : List ℕ) (all : List Word) → WordsSoFar text rest words → IsOnlyWord rest word after → after ≡ [] → AreWords text all → words ++ word ∷ [] ≡ all
words_end text rest words word after all so_far only empty h =
    let o = so_far.on all h in
    let f = first_word rest o.0 o.2 in
    let same = only f.word f.after f.stands f.end in
    let last : f.more ≡ [] = f.left (sym same.1 ∙ empty) in
    let left : o.0 ≡ word ∷ [] = f.whole ∙ (ap (λ (w : Word). w ∷ f.more) (sym same.0) ∙ ap (λ (ws : List Word). word ∷ ws) last) in
    sym (o.1 ∙ ap (λ (ws : List Word). words ++ ws) left)

pub words_more : (text rest : List ℕ) (words : List Word) (word : Word) (after behind : List ℕ) → WordsSoFar text rest words → StandsBefore rest word after → IsOnlyWord rest word after → after ≡ 32 ∷ behind → WordsSoFar text behind (words ++ word ∷ [])
words_more text rest words word after behind so_far stands only is =
    record {
      back = λ more m. subst (λ (ws : List Word). AreWords text ws) (sym (append_assoc words (word ∷ []) more)) (so_far.back (word ∷ more) (with_word rest word behind more (subst (λ (xs : List ℕ). StandsBefore rest word xs) is stands) m));
      on = λ all h.
          let o = so_far.on all h in
          let f = first_word rest o.0 o.2 in
          let same = only f.word f.after f.stands f.end in
          let left : o.0 ≡ word ∷ f.more = f.whole ∙ ap (λ (w : Word). w ∷ f.more) (sym same.0) in
          (f.more, o.1 ∙ (ap (λ (ws : List Word). words ++ ws) left ∙ sym (append_assoc words (word ∷ []) f.more)), f.others behind (sym same.1 ∙ is));
    }

pub words_bad : (text rest : List ℕ) (words : List Word) (word : Word) (after : List ℕ) (all : List Word) → WordsSoFar text rest words → IsOnlyWord rest word after → after ≢ [] → ((behind : List ℕ) → after ≢ 32 ∷ behind) → AreWords text all → ⊥
words_bad text rest words word after all so_far only full other h =
    let o = so_far.on all h in
    let f = first_word rest o.0 o.2 in
    let same = only f.word f.after f.stands f.end in
    ended f.after same.1 f.end
  where
    ended : (end : List ℕ) → after ≡ end → IsEnd end → ⊥
    ended [] is e = full is
    ended (b ∷ bytes) is e = other bytes (is ∙ ap (λ (n : ℕ). n ∷ bytes) e)

-- ---- one list of words

-- Spells in two ways at one place is one word.
pub one_word : (bytes : List ℕ) (word other : Word) (after behind : List ℕ) → StandsBefore bytes word after → IsEnd after → StandsBefore bytes other behind → IsEnd behind → (word ≡ other) × (after ≡ behind)
one_word bytes (Plain text) other after behind h end k finish =
    let unquoted : (r : List ℕ) → bytes ≢ 34 ∷ r = λ r e. quote_is_no_plain h.0 r after h.2.1 (sym e ∙ h.1) in
    let p = plain_only bytes (Plain text) after unquoted h end in
    let q = plain_only bytes other behind unquoted k finish in
    let long : length p.name ≡ length q.name = sym p.len ∙ q.len in
    let names : p.name ≡ q.name = sym p.front ∙ (ap (λ (n : ℕ). take n bytes) long ∙ q.front) in
    (p.is ∙ (ap (λ (n : List ℕ). Plain (encoded n)) names ∙ sym q.is), sym p.back ∙ (ap (λ (n : ℕ). drop n bytes) long ∙ q.back))
one_word bytes (Quoted units) other after behind h end k finish =
    let r = (h.2.0 ++ 34 ∷ []) ++ after in
    let joined : bytes ≡ 34 ∷ r = h.1 ∙ ap (λ (xs : List ℕ). xs ++ after) h.2.1 in
    let q = quoted_only r (Quoted units) after (subst (λ (xs : List ℕ). StandsBefore xs (Quoted units) after) joined h) in
    let s = quoted_only r other behind (subst (λ (xs : List ℕ). StandsBefore xs other behind) joined k) in
    let same = one_text r q.0 s.0 after behind q.2 s.2 in
    (q.1 ∙ (ap (λ (n : List ℕ). Quoted n) same.0 ∙ sym s.1), same.1)
  where
    one_text : (r units others after behind : List ℕ) → IsQuotedBefore r units after → IsQuotedBefore r others behind → (units ≡ others) × (after ≡ behind)
    one_text r [] [] after behind h k = (refl, let e : 34 ∷ after ≡ 34 ∷ behind = sym (no_units r after h) ∙ no_units r behind k in cc)
    one_text r [] (v ∷ vs) after behind h k = absurd (let f = first_piece r v vs behind k in quote_is_no_piece r after (v, f.after) (no_units r after h) f.read)
    one_text r (u ∷ us) others after behind h k =
        let f = first_piece r u us after h in
        let w = without_piece r u f.after others behind f.read k in
        let same = one_text f.after us w.0 after behind f.others w.2 in
        (ap (λ (xs : List ℕ). u ∷ xs) same.0 ∙ sym w.1, same.1)

one_and_more : (text : List ℕ) (word next : Word) (words : List Word) (other : Word) → AreWords text (word ∷ next ∷ words) → AreWords text (other ∷ []) → ⊥
one_and_more text word next words other h k =
    let same = one_word text word other (32 ∷ h.1) [] (h.0, h.2, h.3) refl (text, sym (append-nil text), k) tt in
    let bad = same.1 in
    cc

pub one_list : (text : List ℕ) (words others : List Word) → AreWords text words → AreWords text others → words ≡ others
one_list text words [] h k = absurd k
one_list text [] (other ∷ others) h k = absurd h
one_list text (word ∷ []) (other ∷ []) h k =
    let same = one_word text word other [] [] (text, sym (append-nil text), h) tt (text, sym (append-nil text), k) tt in
    ap (λ (w : Word). w ∷ []) same.0
one_list text (word ∷ []) (other ∷ next ∷ others) h k = absurd (one_and_more text other next others word k h)
one_list text (word ∷ next ∷ words) (other ∷ []) h k = absurd (one_and_more text word next words other h k)
one_list text (word ∷ next ∷ words) (other ∷ other2 ∷ others) h k =
    let same = one_word text word other (32 ∷ h.1) (32 ∷ k.1) (h.0, h.2, h.3) refl (k.0, k.2, k.3) refl in
    let behind : h.1 ≡ k.1 = let e = same.1 in cc in
    let left = one_list h.1 (next ∷ words) (other2 ∷ others) h.4 (subst (λ (xs : List ℕ). AreWords xs (other2 ∷ others)) (sym behind) k.4) in
    ap (λ (w : Word). w ∷ next ∷ words) same.0 ∙ ap (λ (ws : List Word). other ∷ ws) left

-- plain characters are code units
small_byte : (b : ℕ) → IsPlainByte b → b < 2 ^ 16
small_byte b plain = let small : b ≤ 127 = leb-true b 127 (and_parts (leb b 127) _ plain).0 in omega (arith, small)

small_bytes : (word : List ℕ) → AllByRecursion IsPlainByte word → AllByRecursion (λ u. u < 2 ^ 16) word
small_bytes [] all = tt
small_bytes (b ∷ word) all = (small_byte b all.0, small_bytes word all.1)

pub plain_units : (word : List ℕ) → IsPlain word → AllByRecursion (λ u. u < 2 ^ 16) word
plain_units [] plain = absurd plain
plain_units (b ∷ word) plain = (small_byte b plain.1, small_bytes word plain.2)
