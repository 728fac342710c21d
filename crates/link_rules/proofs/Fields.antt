-- The words of fields.
use Rattle.std.proofs.Common.{◌≡◌, ◌≢◌, ◌⊎◌, ℕ, zero, suc, ◌+◌, ◌<◌, ◌≤◌, Bool, true, false, cond, nat_le, List, [], ◌∷◌, length, map, take, filter, find, sum_by, Contains, Some, slice_get, inl, inr, refl, sym, ap, subst, ◌∙◌, zero-add, take_all, arith}
use Rattle.std.specs.List.{range_with_len}
use Rattle.std.specs.Option.{option_map_or}
use Rattle.std.proofs.lemmas.Bool.{cases_lt, cases_eq, cases_order, leb-true, le-leb, lt-leb, not-true}
use Rattle.std.proofs.lemmas.List.Sums.{sum_by-cons}
use Rattle.std.proofs.lemmas.Option.{same_Some, none-some, slice_get_within}
use Rattle.builtin_world.specs.Library.{library}
use Rattle.code_decode.specs.declared.code.ClassUnit.{ClassUnit}
use Rattle.access_flags.specs.declared.TheConstants.{STATIC}
use Rattle.access_flags.specs.Flags.{has}
use Rattle.link_rules.specs.Classes.{NamedClass, NamedMember, classes_of, superclass_of, fields_of}
use Rattle.link_rules.specs.Supers.{superclasses, PutsSupersFirst}
use Rattle.link_rules.specs.Layout.{is_stored, field_words, own_words, is_built_in, built_in_words, added_words, instance_words, static_words, field_place}
use Rattle.link_rules.specs.Linked.{IsLinked}
use Rattle.link_rules.specs.Laws.{IsFieldOf, LieApart, StaticFieldsLieApart, ObjectFieldsLieApart, ObjectsGrow}
use Rattle.link_rules.proofs.Lists.{contains_cases, contains_none}
use Rattle.link_rules.proofs.Numbers.{in_library, superclass_within}
use Rattle.link_rules.proofs.Upward.{up_none, superclasses_none, superclasses_step, of_all, above_super, comparable}

-- ---- fields of one class

share : Bool → NamedMember → ℕ
share kind f = cond (is_stored kind f) (field_words f) 0

own_cons : (kind : Bool) (f : NamedMember) (fs : List NamedMember) → own_words kind (f ∷ fs) ≡ share kind f + own_words kind fs
unfolding share
own_cons kind f fs =
    elim (is_stored kind f) as (λ b. sum_by field_words (cond b (f ∷ filter (is_stored kind) fs) (filter (is_stored kind) fs)) ≡ cond b (field_words f) 0 + own_words kind fs) [
      | true ↦ sum_by-cons field_words f (filter (is_stored kind) fs)
      | false ↦ sym (zero-add (own_words kind fs))
    ]

own_share : (kind : Bool) (f : NamedMember) → is_stored kind f ≡ true → share kind f ≡ field_words f
unfolding share
own_share kind f is = ap (λ b. cond b (field_words f) 0) is

-- a field of the kind ends before any later place
own_before : (kind : Bool) (fs : List NamedMember) (i : ℕ) (f : NamedMember) → slice_get fs i ≡ Some f → is_stored kind f ≡ true → (j : ℕ) → i < j → own_words kind (take i fs) + field_words f ≤ own_words kind (take j fs)
own_before kind [] i f at is j less = absurd (none-some f at)
own_before kind (g ∷ fs) zero f at is zero less = absurd (omega arith)
own_before kind (g ∷ fs) zero f at is (suc j) less =
    let same : g ≡ f = same_Some g f at in
    let mine : share kind g ≡ field_words f = subst (λ x. share kind x ≡ field_words f) (sym same) (own_share kind f is) in
    let first : own_words kind (g ∷ take j fs) ≡ share kind g + own_words kind (take j fs) = own_cons kind g (take j fs) in
    omega arith
own_before kind (g ∷ fs) (suc i) f at is zero less = absurd (omega arith)
own_before kind (g ∷ fs) (suc i) f at is (suc j) less =
    let here : own_words kind (g ∷ take i fs) ≡ share kind g + own_words kind (take i fs) = own_cons kind g (take i fs) in
    let there : own_words kind (g ∷ take j fs) ≡ share kind g + own_words kind (take j fs) = own_cons kind g (take j fs) in
    let later : own_words kind (take i fs) + field_words f ≤ own_words kind (take j fs) = own_before kind fs i f at is j (omega arith) in
    omega arith

own_inside : (kind : Bool) (fs : List NamedMember) (i : ℕ) (f : NamedMember) → slice_get fs i ≡ Some f → is_stored kind f ≡ true → own_words kind (take i fs) + field_words f ≤ own_words kind fs
own_inside kind fs i f at is =
    subst (λ xs. own_words kind (take i fs) + field_words f ≤ own_words kind xs) (take_all (length fs) fs (omega arith))
    (own_before kind fs i f at is (length fs) (slice_get_within fs i f at))

-- ---- static fields

static_place : (cs : List NamedClass) (c i : ℕ) (f : NamedMember) → is_stored true f ≡ true → field_place cs c i f ≡ own_words true (take i (fields_of cs c))
static_place cs c i f is = ap (λ b. cond b (own_words true (take i (fields_of cs c))) (instance_words cs (superclass_of cs c) + own_words false (take i (fields_of cs c)))) is

not_built_in : (c : ℕ) → 28 < c → is_built_in c ≡ false
not_built_in c read = lt-leb c 28 read

static_inside : (cs : List NamedClass) (c i : ℕ) (f : NamedMember) → IsFieldOf true cs c i f → field_place cs c i f + field_words f ≤ static_words cs c
static_inside cs c i f field =
    let place : field_place cs c i f ≡ own_words true (take i (fields_of cs c)) = static_place cs c i f field.kind in
    let all : static_words cs c ≡ own_words true (fields_of cs c) = ap (λ b. cond b 0 (own_words true (fields_of cs c))) (not_built_in c field.read) in
    let fits : own_words true (take i (fields_of cs c)) + field_words f ≤ own_words true (fields_of cs c) = own_inside true (fields_of cs c) i f field.there field.kind in
    omega arith

static_before : (cs : List NamedClass) (c i j : ℕ) (f g : NamedMember) → IsFieldOf true cs c i f → IsFieldOf true cs c j g → i < j → field_place cs c i f + field_words f ≤ field_place cs c j g
static_before cs c i j f g one other less =
    let here : field_place cs c i f ≡ own_words true (take i (fields_of cs c)) = static_place cs c i f one.kind in
    let there : field_place cs c j g ≡ own_words true (take j (fields_of cs c)) = static_place cs c j g other.kind in
    let fits : own_words true (take i (fields_of cs c)) + field_words f ≤ own_words true (take j (fields_of cs c)) = own_before true (fields_of cs c) i f one.there one.kind j less in
    omega arith

pub statics_apart : (cs : List NamedClass) → StaticFieldsLieApart cs
statics_apart cs = record {
  inside = static_inside cs;
  apart = λ c i j f g one other ne. elim (cases_order i j) [
    | inl same ↦ absurd (ne same)
    | inr h ↦ elim h [
      | inl less ↦ inl (static_before cs c i j f g one other less)
      | inr more ↦ inr (static_before cs c j i g f other one more)
    ]
  ];
}

-- ---- fields of objects

object_kind : (f : NamedMember) → is_stored false f ≡ true → has f.flags STATIC ≡ false
object_kind f is = not-true (has f.flags STATIC) is

object_place : (cs : List NamedClass) (c i : ℕ) (f : NamedMember) → is_stored false f ≡ true → field_place cs c i f ≡ instance_words cs (superclass_of cs c) + own_words false (take i (fields_of cs c))
object_place cs c i f is = ap (λ b. cond b (own_words true (take i (fields_of cs c))) (instance_words cs (superclass_of cs c) + own_words false (take i (fields_of cs c)))) (object_kind f is)

words_on : List NamedClass → List ℕ → ℕ
words_on cs xs = option_map_or built_in_words (find is_built_in xs) 0 + sum_by (added_words cs) xs

words_cons : (cs : List NamedClass) (c : ℕ) (xs : List ℕ) → is_built_in c ≡ false → words_on cs (c ∷ xs) ≡ words_on cs xs + own_words false (fields_of cs c)
unfolding words_on
words_cons cs c xs file =
    let found : find is_built_in (c ∷ xs) ≡ find is_built_in xs = ap (λ b. cond b (Some c) (find is_built_in xs)) file in
    let added : added_words cs c ≡ own_words false (fields_of cs c) = ap (λ b. cond b 0 (own_words false (fields_of cs c))) file in
    let built : option_map_or built_in_words (find is_built_in (c ∷ xs)) 0 ≡ option_map_or built_in_words (find is_built_in xs) 0 = ap (λ o. option_map_or built_in_words o 0) found in
    let sum : sum_by (added_words cs) (c ∷ xs) ≡ added_words cs c + sum_by (added_words cs) xs = sum_by-cons (added_words cs) c xs in
    omega arith

words_nothing : (cs : List NamedClass) → words_on cs [] ≡ 0
unfolding words_on
words_nothing cs = refl

words_are : (cs : List NamedClass) (c : ℕ) → instance_words cs c ≡ words_on cs (superclasses cs c)
unfolding words_on
words_are cs c = refl

module _ (cs : List NamedClass) (order : List ℕ) (first : PutsSupersFirst cs order) where
  -- a class of a file adds its own words to those of its superclass
  pub words_of_file : (c : ℕ) → 28 < c → c ≤ length cs → instance_words cs c ≡ instance_words cs (superclass_of cs c) + own_words false (fields_of cs c)
  words_of_file c read within =
      let ne : c ≢ 0 = λ e. omega arith in
      words_are cs c
      ∙ ap (words_on cs) (superclasses_step cs order first c ne within)
      ∙ words_cons cs c (superclasses cs (superclass_of cs c)) (not_built_in c read)
      ∙ ap (λ n. n + own_words false (fields_of cs c)) (sym (words_are cs (superclass_of cs c)))

  -- the superclasses of a class of the library are of the library, and add nothing
  module _ (stays : (c : ℕ) → c ≤ 28 → superclass_of cs c ≤ 28) where
    library_adds : (c : ℕ) → c ≢ 0 → c ≤ length cs → c ≤ 28 → sum_by (added_words cs) (superclasses cs c) ≡ 0
    library_adds = of_all cs order first (λ c. c ≤ 28 → sum_by (added_words cs) (superclasses cs c) ≡ 0) base step
      where
        none : (c : ℕ) → c ≤ 28 → added_words cs c ≡ 0
        none c low = ap (λ b. cond b 0 (own_words false (fields_of cs c))) (le-leb c 28 low)

        base : (c : ℕ) → c ≢ 0 → c ≤ length cs → superclass_of cs c ≡ 0 → c ≤ 28 → sum_by (added_words cs) (superclasses cs c) ≡ 0
        base c ne within e low =
            ap (sum_by (added_words cs)) (superclasses_none cs order first c e ne within)
            ∙ sum_by-cons (added_words cs) c []
            ∙ (let mine : added_words cs c ≡ 0 = none c low in omega arith)

        step : (c : ℕ) → c ≢ 0 → c ≤ length cs → superclass_of cs c ≢ 0 → (superclass_of cs c ≤ 28 → sum_by (added_words cs) (superclasses cs (superclass_of cs c)) ≡ 0) → c ≤ 28 → sum_by (added_words cs) (superclasses cs c) ≡ 0
        step c ne within some_super later low =
            ap (sum_by (added_words cs)) (superclasses_step cs order first c ne within)
            ∙ sum_by-cons (added_words cs) c (superclasses cs (superclass_of cs c))
            ∙ (let mine : added_words cs c ≡ 0 = none c low in
            let rest : sum_by (added_words cs) (superclasses cs (superclass_of cs c)) ≡ 0 = later (stays c low) in
            omega arith)

    -- an object of a class of the library has the words of its row
    pub library_words_are : (c : ℕ) → c ≢ 0 → c ≤ length cs → c ≤ 28 → instance_words cs c ≡ built_in_words c
    library_words_are c ne within low =
        let found : find is_built_in (superclasses cs c) ≡ Some c =
        ap (find is_built_in) (superclasses_step cs order first c ne within)
        ∙ ap (λ b. cond b (Some c) (find is_built_in (superclasses cs (superclass_of cs c)))) (le-leb c 28 low) in
        let built : option_map_or built_in_words (find is_built_in (superclasses cs c)) 0 ≡ built_in_words c = ap (λ o. option_map_or built_in_words o 0) found in
        let more : sum_by (added_words cs) (superclasses cs c) ≡ 0 = library_adds c ne within low in
        omega arith

    pub words_of_none : instance_words cs 0 ≡ 0
    words_of_none = words_are cs 0 ∙ ap (words_on cs) (up_none cs (length cs)) ∙ words_nothing cs

    pub library_grows_by : ((c : ℕ) → c ≢ 0 → c ≤ 28 → built_in_words (superclass_of cs c) ≤ built_in_words c) → (c : ℕ) → c ≢ 0 → c ≤ length cs → c ≤ 28 → instance_words cs (superclass_of cs c) ≤ instance_words cs c
    library_grows_by rows c ne within low = go (superclass_of cs c) refl
      where
        go : (s : ℕ) → superclass_of cs c ≡ s → instance_words cs s ≤ instance_words cs c
        go zero e = (let none : instance_words cs 0 ≡ 0 = words_of_none in omega arith)
        go (suc s) e =
            let room : suc s ≤ length cs = subst (λ x. x ≤ length cs) e (superclass_within cs c) in
            let below : suc s ≤ 28 = subst (λ x. x ≤ 28) e (stays c low) in
            let its : instance_words cs (suc s) ≡ built_in_words (suc s) = library_words_are (suc s) (λ z. omega (arith, z)) room below in
            let mine : instance_words cs c ≡ built_in_words c = library_words_are c ne within low in
            let row : built_in_words (suc s) ≤ built_in_words c = subst (λ x. built_in_words x ≤ built_in_words c) e (rows c ne low) in
            omega arith

  module _ (library_grows : (c : ℕ) → c ≢ 0 → c ≤ length cs → c ≤ 28 → instance_words cs (superclass_of cs c) ≤ instance_words cs c) where
    grows_once : (c : ℕ) → c ≢ 0 → c ≤ length cs → instance_words cs (superclass_of cs c) ≤ instance_words cs c
    grows_once c ne within =
        elim (cases_lt 28 c) [
          | inl read ↦ (let h : instance_words cs c ≡ instance_words cs (superclass_of cs c) + own_words false (fields_of cs c) = words_of_file c read within in omega arith)
          | inr built_in ↦ library_grows c ne within built_in
        ]

    pub grow : (c : ℕ) → c ≢ 0 → c ≤ length cs → (d : ℕ) → Contains (superclasses cs c) d → instance_words cs d ≤ instance_words cs c
    grow = of_all cs order first (λ c. (d : ℕ) → Contains (superclasses cs c) d → instance_words cs d ≤ instance_words cs c) base step
      where
        here : (c d : ℕ) → c ≡ d → instance_words cs d ≤ instance_words cs c
        here c d same = subst (λ x. instance_words cs x ≤ instance_words cs c) same (omega arith)

        base : (c : ℕ) → c ≢ 0 → c ≤ length cs → superclass_of cs c ≡ 0 → (d : ℕ) → Contains (superclasses cs c) d → instance_words cs d ≤ instance_words cs c
        base c ne within none d h =
            elim (contains_cases c [] d (subst (λ xs. Contains xs d) (superclasses_none cs order first c none ne within) h)) [
              | inl same ↦ here c d same
              | inr nothing ↦ absurd (contains_none d nothing)
            ]

        step : (c : ℕ) → c ≢ 0 → c ≤ length cs → superclass_of cs c ≢ 0 → ((d : ℕ) → Contains (superclasses cs (superclass_of cs c)) d → instance_words cs d ≤ instance_words cs (superclass_of cs c)) → (d : ℕ) → Contains (superclasses cs c) d → instance_words cs d ≤ instance_words cs c
        step c ne within some_super later d h =
            elim (cases_eq c d) [
              | inl same ↦ here c d same
              | inr other ↦
                  let below : instance_words cs d ≤ instance_words cs (superclass_of cs c) = later d (above_super cs order first c d ne within h other) in
                  let once : instance_words cs (superclass_of cs c) ≤ instance_words cs c = grows_once c ne within in
                  omega arith
            ]

    field_behind : (c i : ℕ) (f : NamedMember) → IsFieldOf false cs c i f → instance_words cs (superclass_of cs c) ≤ field_place cs c i f
    field_behind c i f field =
        let place : field_place cs c i f ≡ instance_words cs (superclass_of cs c) + own_words false (take i (fields_of cs c)) = object_place cs c i f field.kind in
        omega arith

    field_inside : (c i : ℕ) (f : NamedMember) → IsFieldOf false cs c i f → field_place cs c i f + field_words f ≤ instance_words cs c
    field_inside c i f field =
        let place : field_place cs c i f ≡ instance_words cs (superclass_of cs c) + own_words false (take i (fields_of cs c)) = object_place cs c i f field.kind in
        let all : instance_words cs c ≡ instance_words cs (superclass_of cs c) + own_words false (fields_of cs c) = words_of_file c field.read field.within in
        let fits : own_words false (take i (fields_of cs c)) + field_words f ≤ own_words false (fields_of cs c) = own_inside false (fields_of cs c) i f field.there field.kind in
        omega arith

    field_before : (c i j : ℕ) (f g : NamedMember) → IsFieldOf false cs c i f → IsFieldOf false cs c j g → i < j → field_place cs c i f + field_words f ≤ field_place cs c j g
    field_before c i j f g one other less =
        let here : field_place cs c i f ≡ instance_words cs (superclass_of cs c) + own_words false (take i (fields_of cs c)) = object_place cs c i f one.kind in
        let there : field_place cs c j g ≡ instance_words cs (superclass_of cs c) + own_words false (take j (fields_of cs c)) = object_place cs c j g other.kind in
        let fits : own_words false (take i (fields_of cs c)) + field_words f ≤ own_words false (take j (fields_of cs c)) = own_before false (fields_of cs c) i f one.there one.kind j less in
        omega arith

    -- a field of a class above another one ends before the fields of the other one begin
    inherited_before : (c d i j : ℕ) (f g : NamedMember) → IsFieldOf false cs c i f → IsFieldOf false cs d j g → Contains (superclasses cs d) c → d ≢ c → field_place cs c i f + field_words f ≤ field_place cs d j g
    inherited_before c d i j f g one other above ne =
        let some : d ≢ 0 = λ e. (let read : 28 < d = other.read in omega arith) in
        let up : Contains (superclasses cs (superclass_of cs d)) c = above_super cs order first d c some other.within above ne in
        let ends : field_place cs c i f + field_words f ≤ instance_words cs c = field_inside c i f one in
        let begins : instance_words cs (superclass_of cs d) ≤ field_place cs d j g = field_behind d j g other in
        let between : instance_words cs c ≤ instance_words cs (superclass_of cs d) = go (superclass_of cs d) refl up in
        omega arith
      where
        go : (s : ℕ) → superclass_of cs d ≡ s → Contains (superclasses cs s) c → instance_words cs c ≤ instance_words cs s
        go zero e h = absurd (contains_none c (subst (λ xs. Contains xs c) (up_none cs (length cs)) h))
        go (suc s) e h = grow (suc s) (λ z. omega arith) (subst (λ x. x ≤ length cs) e (superclass_within cs d)) c h

    apart_above : (c d i j : ℕ) (f g : NamedMember) → IsFieldOf false cs c i f → IsFieldOf false cs d j g → Contains (superclasses cs d) c → ((c ≢ d) ⊎ (i ≢ j)) → LieApart cs c i f d j g
    apart_above c d i j f g one other above differ =
        elim (cases_eq c d) [
          | inl same ↦ in_one same
          | inr ne ↦ inl (inherited_before c d i j f g one other above (λ e. ne (sym e)))
        ]
      where
        in_class : ((c ≢ d) ⊎ (i ≢ j)) → c ≡ d → IsFieldOf false cs c j g → LieApart cs c i f c j g
        in_class differ same there =
            elim (cases_order i j) [
              | inl equal ↦ absurd (elim differ [ inl ne ↦ ne same | inr ne ↦ ne equal ])
              | inr h ↦ elim h [
                | inl less ↦ inl (field_before c i j f g one there less)
                | inr more ↦ inr (field_before c j i g f there one more)
              ]
            ]

        in_one : c ≡ d → LieApart cs c i f d j g
        in_one same =
            subst (λ x. LieApart cs c i f x j g) same
            (in_class differ same (subst (λ x. IsFieldOf false cs x j g) (sym same) other))

    swap : (c d i j : ℕ) (f g : NamedMember) → LieApart cs d j g c i f → LieApart cs c i f d j g
    swap c d i j f g h = elim h [ inl a ↦ inr a | inr b ↦ inl b ]

    pub objects_apart : ObjectFieldsLieApart cs
    objects_apart = record {
      behind = field_behind;
      inside = λ e c i f ne within above field.
          let here : field_place cs c i f + field_words f ≤ instance_words cs c = field_inside c i f field in
          let more : instance_words cs c ≤ instance_words cs e = grow e ne within c above in
          omega arith;
      apart = λ e c d i j f g ne within h k one other differ.
          elim (comparable cs order first e ne within c d h k) [
            | inl up ↦ swap c d i j f g (apart_above d c j i g f other one up (turned differ))
            | inr down ↦ apart_above c d i j f g one other down differ
          ];
    }
      where
        turned : {c d i j : ℕ} → ((c ≢ d) ⊎ (i ≢ j)) → ((d ≢ c) ⊎ (j ≢ i))
        turned h = elim h [ inl ne ↦ inl (λ e. ne (sym e)) | inr ne ↦ inr (λ e. ne (sym e)) ]

-- ---- the library

library_supers : (us : List ClassUnit) → map (λ c. nat_le (superclass_of (classes_of us) c) 28) (range_with_len 0 29) ≡ map (λ _. true) (range_with_len 0 29)
unfolding library
library_supers us = refl

pub library_stays : (us : List ClassUnit) (c : ℕ) → c ≤ 28 → superclass_of (classes_of us) c ≤ 28
library_stays us c low =
    leb-true (superclass_of (classes_of us) c) 28
    (in_library 0 29 (λ c. nat_le (superclass_of (classes_of us) c) 28) (λ _. true) (library_supers us) c (omega arith) (omega arith))

library_rows : (us : List ClassUnit) → map (λ c. nat_le (built_in_words (superclass_of (classes_of us) c)) (built_in_words c)) (range_with_len 0 29) ≡ map (λ _. true) (range_with_len 0 29)
unfolding library
library_rows us = refl

library_rows_grow : (us : List ClassUnit) (c : ℕ) → c ≢ 0 → c ≤ 28 → built_in_words (superclass_of (classes_of us) c) ≤ built_in_words c
library_rows_grow us c ne low =
    leb-true (built_in_words (superclass_of (classes_of us) c)) (built_in_words c)
    (in_library 0 29 (λ c. nat_le (built_in_words (superclass_of (classes_of us) c)) (built_in_words c)) (λ _. true) (library_rows us) c (omega arith) (omega arith))

module _ (us : List ClassUnit) (order : List ℕ) (linked : IsLinked us order) where
  library_grows : (c : ℕ) → c ≢ 0 → c ≤ length (classes_of us) → c ≤ 28 → instance_words (classes_of us) (superclass_of (classes_of us) c) ≤ instance_words (classes_of us) c
  library_grows = library_grows_by (classes_of us) order linked.order (library_stays us) (library_rows_grow us)

  pub linked_objects_grow : ObjectsGrow (classes_of us)
  linked_objects_grow c d ne within h = grow (classes_of us) order linked.order library_grows c ne within d h

  pub linked_objects_apart : ObjectFieldsLieApart (classes_of us)
  linked_objects_apart = objects_apart (classes_of us) order linked.order library_grows
