-- The literals of a pool, one entry after the other, and of files.
use Rattle.std.proofs.Common.{◌≡◌, ◌≢◌, ℕ, zero, suc, ◌+◌, ◌*◌, ◌<◌, ◌≤◌, ◌^◌, List, [], ◌∷◌, ◌++◌, length, take, slice_get, Option, None, Some, inl, inr, refl, sym, ap, subst, ◌∙◌, fold, filter_map, flat_map, unwrap_or, replicate, arith}
use Rattle.std.specs.List.{position_from}
use Rattle.std.specs.Option.{option_map, option_and_then, option_flatten}
use Rattle.std.proofs.lemmas.Bool.{cases_eq}
use Rattle.std.proofs.lemmas.List.{append-nil, length_push, length-replicate}
use Rattle.std.proofs.lemmas.List.Elements.{filter_map-append}
use Rattle.std.proofs.lemmas.List.Sums.{fold-append}
use Rattle.std.proofs.lemmas.Grind.{flat_map-append}
use Rattle.std.proofs.lemmas.Option.{none-some, same_Some, slice_get_within, slice_get_cases}
use Rattle.class_names.specs.ModifiedUtf8.{IsModifiedUtf8}
use Rattle.class_pool.proofs.Lists.{slice_get-push}
use Rattle.class_read.proofs.FindLaws.{take_next}
use Rattle.class_walk.specs.declared.class.Constant.{Constant}
use Rattle.class_walk.specs.declared.class.Constant.TheVariants.{Str}
use Rattle.code_decode.specs.declared.code.ClassUnit.{ClassUnit}
use Rattle.code_laws.proofs.FileLaws.{entries, small}
use Rattle.link_rules.specs.Classes.{utf8_at}
use Rattle.link_rules.specs.Strings.{literal_text, literal_in, string_texts}
use Rattle.link_rules.specs.Units.{AreUnits}
use Rattle.link_rules.specs.Names.{program_names, string_number}
use Rattle.string_literals.specs.declared.literals.StringLiterals.{StringLiterals}
use Rattle.string_literals.specs.Literals.{literal_number, kept_number, IsLiteralsOf}
use Rattle.string_literals.specs.Texts.{with_text, with_literal, HasTexts, HasNumber, IsLiteralNumber, NumberLiterals, AreKept}
use Rattle.string_literals.proofs.TextLaws.{Grows, literal_grows, texts_grow, number_stays, few_more}

abbrev nothing : Option ℕ
nothing = None

pub nothing_kept : (known : List (List ℕ)) (pool : List Constant) (by_text : List (Option ℕ)) → by_text ≡ replicate (length pool) None → AreKept known pool by_text
nothing_kept known pool by_text is = subst (AreKept known pool) (sym is) (record {
  count = length-replicate (length pool) None;
  each = λ i n at. absurd (never (length pool) i n at);
})
  where
    never : (m i n : ℕ) → slice_get (replicate m nothing) i ≡ Some (Some n) → ⊥
    never zero i n e = none-some (Some n) e
    never (suc m) zero n e = absurd cc
    never (suc m) (suc i) n e = never m i n e

pub kept_stay : (old new : List (List ℕ)) (pool : List Constant) (by_text : List (Option ℕ)) → Grows old new → AreKept old pool by_text → AreKept new pool by_text
kept_stay old new pool by_text grows are = record {
  count = are.count;
  each = λ i n at. number_stays old new (literal_text (utf8_at pool i)) n grows (are.each i n at);
}

-- the number of one more text is kept
pub one_kept : (known : List (List ℕ)) (pool : List Constant) (old new : List (Option ℕ)) (index number : ℕ) → AreKept known pool old → length new ≡ length old
    → ((n : ℕ) → slice_get new index ≡ Some (Some n) → n ≡ number) → ((i : ℕ) → i ≢ index → slice_get new i ≡ slice_get old i)
    → HasNumber known (literal_text (utf8_at pool index)) number → AreKept known pool new
one_kept known pool old new index number are count here elsewhere has = record {
  count = count ∙ are.count;
  each = λ i n at. elim (cases_eq i index) [
    | inl same ↦
        let is : n ≡ number = here n (subst (λ j. slice_get new j ≡ Some (Some n)) same at) in
        subst (λ j. HasNumber known (literal_text (utf8_at pool j)) n) (sym same) (subst (HasNumber known (literal_text (utf8_at pool index))) (sym is) has)
    | inr other ↦ are.each i n (sym (elsewhere i other) ∙ at)
  ];
}

literal_stays : (old new : List (List ℕ)) (o : Option (List ℕ)) (n : Option ℕ) → Grows old new → IsLiteralNumber old o n → IsLiteralNumber new o n
literal_stays old new None n grows is = is
literal_stays old new (Some text) n grows is = (is.0, is.1, number_stays old new text is.0 grows is.2)

pub numbers_stay : (old new : List (List ℕ)) (pool : List Constant) (n : ℕ) (numbers : List (Option ℕ)) → Grows old new → NumberLiterals old pool n numbers → NumberLiterals new pool n numbers
numbers_stay old new pool n numbers grows are = record {
  count = are.count;
  each = λ i c o at there. literal_stays old new (literal_in pool c) o grows (are.each i c o at there);
}

pub no_literals : (known : List (List ℕ)) (pool : List Constant) → NumberLiterals known pool 0 []
no_literals known pool = record { count = refl; each = λ i c o at there. absurd (none-some o there) }

-- ---- one entry more

-- the literals of the first entries
pub record FirstNumbered (start known : List (List ℕ)) (pool : List Constant) (n : ℕ) (numbers by_text : List (Option ℕ)) : Type 0 where
  pub texts : known ≡ fold with_text start (filter_map (literal_in pool) (take n pool))
  pub numbered : NumberLiterals known pool n numbers
  pub kept : AreKept known pool by_text
  pub few : length known ≤ length start + n

texts_more : (known : List (List ℕ)) (pool : List Constant) (c : Constant) → with_literal known (literal_in pool c) ≡ fold with_text known (filter_map (literal_in pool) (c ∷ []))
texts_more known pool c = go (literal_in pool c)
  where
    go : (o : Option (List ℕ)) → with_literal known o ≡ fold with_text known (Rattle.std.specs.List.cons_option o [])
    go None = refl
    go (Some text) = refl

pub entries_more : (start old new : List (List ℕ)) (pool : List Constant) (n : ℕ) (c : Constant) (number : Option ℕ) (numbers more by_text by_new : List (Option ℕ))
    → slice_get pool n ≡ Some c → FirstNumbered start old pool n numbers by_text → new ≡ with_literal old (literal_in pool c) → AreKept new pool by_new
    → IsLiteralNumber new (literal_in pool c) number → more ≡ numbers ++ number ∷ [] → FirstNumbered start new pool (n + 1) more by_new
entries_more start old new pool n c number numbers more by_text by_new at first is kept has push = record {
  texts =
      is ∙ ap (λ k. with_literal k (literal_in pool c)) first.texts
      ∙ texts_more (fold with_text start (filter_map (literal_in pool) (take n pool))) pool c
      ∙ sym (fold-append with_text start (filter_map (literal_in pool) (take n pool)) (filter_map (literal_in pool) (c ∷ [])))
      ∙ ap (fold with_text start) (sym (filter_map-append (literal_in pool) (take n pool) (c ∷ [])) ∙ ap (filter_map (literal_in pool)) (sym (take_next pool n c at)));
  numbered = record {
    count = ap length push ∙ length_push numbers number ∙ ap (λ m. m + 1) first.numbered.count;
    each = λ i d o there stands. elim (slice_get-push numbers number o i (sym (ap (λ xs. slice_get xs i) push) ∙ stands)) [
      | inl before ↦ literal_stays old new (literal_in pool d) o grows (first.numbered.each i d o there before)
      | inr last ↦
          let here : i ≡ n = last.0 ∙ first.numbered.count in
          let same : c ≡ d = same_Some c d (sym at ∙ ap (slice_get pool) (sym here) ∙ there) in
          subst (λ k. IsLiteralNumber new (literal_in pool k) o) same (subst (IsLiteralNumber new (literal_in pool c)) last.1 has)
    ];
  };
  kept = kept;
  few = (let one = few_more old (literal_in pool c) in let count : length new ≡ length (with_literal old (literal_in pool c)) = ap length is in let few = first.few in omega arith);
}
  where
    grows : Grows old new
    grows = subst (Grows old) (sym is) (literal_grows old (literal_in pool c))

-- ---- one file more

pub texts_are_right : (us : List ClassUnit) (k : ℕ) (u : ClassUnit) → AreUnits us → slice_get us k ≡ Some u → HasTexts u.file.pool
texts_are_right us k u decoded at i text there =
    let right = entries u.file (decoded k u at).file i (Str text) there in
    subst IsModifiedUtf8 (sym (ap (λ o. unwrap_or (Rattle.class_pool.specs.Lookup.utf8_of o) []) right.1)) right.2

pub pool_is_small : (us : List ClassUnit) (k : ℕ) (u : ClassUnit) → AreUnits us → slice_get us k ≡ Some u → length u.file.pool < 2 ^ 16
pool_is_small us k u decoded at = (small u.file (decoded k u at).file).pool

literals_of : ClassUnit → List (List ℕ)
literals_of u = filter_map (literal_in u.file.pool) u.file.pool

-- the literals of the first files
pub record FilesNumbered (us : List ClassUnit) (n : ℕ) (known : List (List ℕ)) (numbers : List (List (Option ℕ))) : Type 0 where
  pub texts : known ≡ fold with_text [] (flat_map (λ (u : ClassUnit). filter_map (literal_in u.file.pool) u.file.pool) (take n us))
  pub count : length numbers ≡ n
  pub each : (k : ℕ) (u : ClassUnit) (its : List (Option ℕ)) → slice_get us k ≡ Some u → slice_get numbers k ≡ Some its → NumberLiterals known u.file.pool (length u.file.pool) its
  pub few : length known ≤ 65536 * n

pub no_files : (us : List ClassUnit) → FilesNumbered us 0 [] []
no_files us = record {
  texts = refl;
  count = refl;
  each = λ k u its at there. absurd (none-some its there);
  few = omega arith;
}

pub files_more : (us : List ClassUnit) (n : ℕ) (u : ClassUnit) (old new : List (List ℕ)) (its : List (Option ℕ)) (numbers more : List (List (Option ℕ)))
    → slice_get us n ≡ Some u → length u.file.pool < 2 ^ 16 → FilesNumbered us n old numbers → new ≡ fold with_text old (filter_map (literal_in u.file.pool) u.file.pool)
    → length new ≤ length old + length u.file.pool → NumberLiterals new u.file.pool (length u.file.pool) its → more ≡ numbers ++ its ∷ [] → FilesNumbered us (n + 1) new more
files_more us n u old new its numbers more at small_pool first is count numbered push = record {
  texts =
      is ∙ ap (λ k. fold with_text k (filter_map (literal_in u.file.pool) u.file.pool)) first.texts
      ∙ sym (fold-append with_text [] (flat_map (λ (x : ClassUnit). filter_map (literal_in x.file.pool) x.file.pool) (take n us)) (filter_map (literal_in u.file.pool) u.file.pool))
      ∙ ap (fold with_text []) (ap (λ xs. flat_map (λ (x : ClassUnit). filter_map (literal_in x.file.pool) x.file.pool) (take n us) ++ xs) (sym (append-nil (filter_map (literal_in u.file.pool) u.file.pool)))
      ∙ sym (flat_map-append (λ (x : ClassUnit). filter_map (literal_in x.file.pool) x.file.pool) (take n us) (u ∷ []))
      ∙ ap (flat_map (λ (x : ClassUnit). filter_map (literal_in x.file.pool) x.file.pool)) (sym (take_next us n u at)));
  count = ap length push ∙ length_push numbers its ∙ ap (λ m. m + 1) first.count;
  each = λ k x o there stands. elim (slice_get-push numbers its o k (sym (ap (λ xs. slice_get xs k) push) ∙ stands)) [
    | inl before ↦ numbers_stay old new x.file.pool (length x.file.pool) o grows (first.each k x o there before)
    | inr last ↦
        let here : k ≡ n = last.0 ∙ first.count in
        let same : u ≡ x = same_Some u x (sym at ∙ ap (slice_get us) (sym here) ∙ there) in
        subst (λ (y : ClassUnit). NumberLiterals new y.file.pool (length y.file.pool) o) same (subst (NumberLiterals new u.file.pool (length u.file.pool)) last.1 numbered)
  ];
  few = (let few = first.few in omega arith);
}
  where
    grows : Grows old new
    grows = subst (Grows old) (sym is) (texts_grow (filter_map (literal_in u.file.pool) u.file.pool) old)

-- the kept numbers are those of the literals
pub number_right : (us : List ClassUnit) (l : StringLiterals) → IsLiteralsOf us l → (k i : ℕ) → kept_number l.numbers.items k i ≡ literal_number us k i
number_right us l are k i = at_file (slice_get us k) (slice_get l.numbers.items k) refl refl
  where
    its_number : (o : Option (List ℕ)) (n : Option ℕ) → IsLiteralNumber (string_texts us) o n → n ≡ option_map (string_number (program_names us)) o
    its_number None n is = is
    its_number (Some text) n is = is.1 ∙ ap (λ m. Some m) (sym (ap (λ o. unwrap_or o 0) is.2))

    at_entry : (u : ClassUnit) (ns : List (Option ℕ)) → NumberLiterals (string_texts us) u.file.pool (length u.file.pool) ns → (c : Option Constant) (o : Option (Option ℕ)) → slice_get u.file.pool i ≡ c → slice_get ns i ≡ o
        → option_flatten o ≡ option_map (string_number (program_names us)) (option_and_then (literal_in u.file.pool) c)
    at_entry u ns numbered None None at there = refl
    at_entry u ns numbered None (Some o) at there = absurd (let lt = slice_get_within ns i o there in let count = numbered.count in past u at (omega arith))
      where
        past : (u : ClassUnit) → slice_get u.file.pool i ≡ None → i < length u.file.pool → ⊥
        past u none lt = elim (slice_get_cases u.file.pool i).1 [ inl h ↦ none-some h.0 (sym none ∙ h.2) | inr h ↦ (let le = h.0 in omega arith) ]
    at_entry u ns numbered (Some c) None at there = absurd (let lt = slice_get_within u.file.pool i c at in let count = numbered.count in past there (omega arith))
      where
        past : slice_get ns i ≡ None → i < length ns → ⊥
        past none lt = elim (slice_get_cases ns i).1 [ inl h ↦ none-some h.0 (sym none ∙ h.2) | inr h ↦ (let le = h.0 in omega arith) ]
    at_entry u ns numbered (Some c) (Some o) at there = its_number (literal_in u.file.pool c) o (numbered.each i c o at there)

    at_file : (u : Option ClassUnit) (ns : Option (List (Option ℕ))) → slice_get us k ≡ u → slice_get l.numbers.items k ≡ ns
        → option_and_then (λ (x : List (Option ℕ)). option_flatten (slice_get x i)) ns
        ≡ option_map (string_number (program_names us)) (option_and_then (λ (x : ClassUnit). option_and_then (literal_in x.file.pool) (slice_get x.file.pool i)) u)
    at_file None None at there = refl
    at_file None (Some ns) at there = absurd (let lt = slice_get_within l.numbers.items k ns there in let count = are.count in past at (omega arith))
      where
        past : slice_get us k ≡ None → k < length us → ⊥
        past none lt = elim (slice_get_cases us k).1 [ inl h ↦ none-some h.0 (sym none ∙ h.2) | inr h ↦ (let le = h.0 in omega arith) ]
    at_file (Some u) None at there = absurd (let lt = slice_get_within us k u at in let count = are.count in past there (omega arith))
      where
        past : slice_get l.numbers.items k ≡ None → k < length l.numbers.items → ⊥
        past none lt = elim (slice_get_cases l.numbers.items k).1 [ inl h ↦ none-some h.0 (sym none ∙ h.2) | inr h ↦ (let le = h.0 in omega arith) ]
    at_file (Some u) (Some ns) at there = at_entry u ns (are.numbers k u ns at there) (slice_get u.file.pool i) (slice_get ns i) refl refl
