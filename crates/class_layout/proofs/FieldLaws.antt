-- Fields placed one after the other.
use Rattle.std.proofs.Common.{◌≡◌, ◌⊎◌, ℕ, ◌+◌, ◌*◌, ◌<◌, ◌≤◌, Bool, true, false, cond, List, [], ◌∷◌, ◌++◌, length, take, filter, sum_by, slice_get, Option, None, Some, inl, inr, refl, sym, ap, subst, ◌∙◌, zero-add, arith}
use Rattle.std.specs.Option.{option_map}
use Rattle.std.proofs.lemmas.Bool.{cases_lt}
use Rattle.std.proofs.lemmas.List.{take_all, length_push}
use Rattle.std.proofs.lemmas.List.Elements.{filter-append}
use Rattle.std.proofs.lemmas.List.Sums.{sum_by-append, sum_by-cons}
use Rattle.std.proofs.lemmas.Option.{slice_get_past, slice_get_within, slice_get_cases, same_Some}
use Rattle.access_flags.specs.declared.TheConstants.{STATIC}
use Rattle.access_flags.specs.Flags.{has}
use Rattle.class_read.proofs.FindLaws.{take_next}
use Rattle.link_rules.specs.Classes.{NamedMember}
use Rattle.link_rules.specs.Layout.{is_stored, field_words, own_words}
use Rattle.link_rules.proofs.Lists.{before_at}
use Rattle.class_supers.proofs.AboveLaws.{last_at}
use Rattle.class_layout.specs.declared.row.ClassRow.{ClassRow}
use Rattle.class_layout.specs.Row.{IsJustPlaced, place_among, ArePlaced}

own_push : (kind : Bool) (fs : List NamedMember) (f : NamedMember) → own_words kind (fs ++ f ∷ []) ≡ own_words kind fs + cond (is_stored kind f) (field_words f) 0
own_push kind fs f =
    ap (sum_by field_words) (filter-append (is_stored kind) fs (f ∷ []))
    ∙ sum_by-append field_words (filter (is_stored kind) fs) (filter (is_stored kind) (f ∷ []))
    ∙ ap (λ n. own_words kind fs + n) (one (is_stored kind f))
  where
    one : (b : Bool) → sum_by field_words (cond b (f ∷ []) []) ≡ cond b (field_words f) 0
    one true = zero-add (field_words f)
    one false = refl

one_or_two : (b : Bool) → cond b 2 1 ≤ 2
one_or_two true = omega arith
one_or_two false = omega arith

-- a field takes at most two words
pub own_few : (kind : Bool) (fs : List NamedMember) → own_words kind fs ≤ 2 * length fs
own_few kind [] = omega arith
own_few kind (f ∷ fs) = go (is_stored kind f) (own_few kind fs)
  where
    go : (b : Bool) → own_words kind fs ≤ 2 * length fs → sum_by field_words (cond b (f ∷ filter (is_stored kind) fs) (filter (is_stored kind) fs)) ≤ 2 * length (f ∷ fs)
    go false later = omega arith
    go true later =
        let sum : sum_by field_words (f ∷ filter (is_stored kind) fs) ≡ field_words f + own_words kind fs = sum_by-cons field_words f (filter (is_stored kind) fs) in
        let small : field_words f ≤ 2 = one_or_two (Rattle.link_rules.specs.Layout.is_long f) in
        omega arith

-- the first fields are placed
pub record FirstArePlaced (fields : List NamedMember) (inherited n : ℕ) (placed : ClassRow) : Type 0 where
  pub within : n ≤ length fields
  pub count : length placed.places ≡ n
  pub places : (i : ℕ) (f : NamedMember) → i < n → slice_get fields i ≡ Some f → slice_get placed.places i ≡ Some (place_among fields inherited i f)
  pub statics : placed.static_words ≡ own_words true (take n fields)
  pub instances : placed.instance_words ≡ inherited + own_words false (take n fields)

-- the words stay few
pub placed_few : (fields : List NamedMember) (inherited n : ℕ) (placed : ClassRow) → FirstArePlaced fields inherited n placed → (placed.static_words ≤ 2 * n) × (placed.instance_words ≤ inherited + 2 * n)
placed_few fields inherited n placed are =
    let count : length (take n fields) ≡ n = Rattle.std.proofs.lemmas.List.length-take-le n fields are.within in
    let one : own_words true (take n fields) ≤ 2 * length (take n fields) = own_few true (take n fields) in
    let other : own_words false (take n fields) ≤ 2 * length (take n fields) = own_few false (take n fields) in
    (omega (arith, are.statics), omega (arith, are.instances))

pub placed_more : (fields : List NamedMember) (inherited n : ℕ) (f : NamedMember) (old new : ClassRow) → slice_get fields n ≡ Some f → FirstArePlaced fields inherited n old → IsJustPlaced old (has f.flags STATIC) (field_words f) new → FirstArePlaced fields inherited (n + 1) new
placed_more fields inherited n f old new at are just = record {
  within = (let lt = slice_get_within fields n f at in omega arith);
  count = ap length just.places ∙ length_push old.places _ ∙ ap (λ m. m + 1) are.count;
  places = λ i g lt there. elim (cases_lt i n) [
    | inl before ↦
        ap (λ xs. slice_get xs i) just.places
        ∙ before_at old.places (_ ∷ []) i (let count = are.count in omega arith)
        ∙ are.places i g before there
    | inr behind ↦
        let here : i ≡ n = omega arith in
        let same : f ≡ g = same_Some f g (sym at ∙ ap (slice_get fields) (sym here) ∙ there) in
        ap (λ xs. slice_get xs i) just.places
        ∙ last_at old.places (cond (has f.flags STATIC) old.static_words old.instance_words) i (here ∙ sym are.count)
        ∙ ap (λ x. Some x) (its (has f.flags STATIC) ∙ ap (λ m. place_among fields inherited m f) (sym here) ∙ ap (place_among fields inherited i) same)
  ];
  statics = just.statics ∙ ap (λ m. m + cond (has f.flags STATIC) (field_words f) 0) are.statics ∙ sym (own_push true (take n fields) f) ∙ ap (own_words true) (sym next);
  instances =
      just.instances
      ∙ ap (λ m. m + cond (has f.flags STATIC) 0 (field_words f)) are.instances
      ∙ (let push : own_words false (take n fields ++ f ∷ []) ≡ own_words false (take n fields) + cond (is_stored false f) (field_words f) 0 = own_push false (take n fields) f in
      let turned : cond (is_stored false f) (field_words f) 0 ≡ cond (has f.flags STATIC) 0 (field_words f) = other_words (has f.flags STATIC) in
      let more : own_words false (take (n + 1) fields) ≡ own_words false (take n fields ++ f ∷ []) = ap (own_words false) next in
      omega arith);
}
  where
    next : take (n + 1) fields ≡ take n fields ++ f ∷ []
    next = take_next fields n f at

    its : (b : Bool) → cond b old.static_words old.instance_words ≡ cond b (own_words true (take n fields)) (inherited + own_words false (take n fields))
    its true = are.statics
    its false = are.instances

    other_words : (b : Bool) → cond (Rattle.std.proofs.Common.not b) (field_words f) 0 ≡ cond b 0 (field_words f)
    other_words true = refl
    other_words false = refl

pub none_placed : (fields : List NamedMember) (inherited : ℕ) (placed : ClassRow) → placed ≡ record { places = []; static_words = 0; instance_words = inherited } → FirstArePlaced fields inherited 0 placed
none_placed fields inherited placed is =
    subst (FirstArePlaced fields inherited 0) (sym is) (record {
      within = omega arith;
      count = refl;
      places = λ i f lt at. absurd (omega arith);
      statics = refl;
      instances = omega arith;
    })

pub all_placed : (fields : List NamedMember) (inherited n : ℕ) (placed : ClassRow) → length fields ≤ n → FirstArePlaced fields inherited n placed → ArePlaced fields inherited placed
all_placed fields inherited n placed le are = record {
  places = λ i. elim (slice_get_cases fields i).1 [
    | inl h ↦ are.places i h.0 (let lt = h.1 in omega arith) h.2 ∙ ap (option_map (place_among fields inherited i)) (sym h.2)
    | inr h ↦ slice_get_past placed.places i (let past = h.0 in let count = are.count in let within = are.within in omega arith) ∙ ap (option_map (place_among fields inherited i)) (sym h.1)
  ];
  statics = are.statics ∙ ap (own_words true) (take_all n fields le);
  instances = are.instances ∙ ap (λ xs. inherited + own_words false xs) (take_all n fields le);
}
