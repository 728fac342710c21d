-- The methods that initialize classes.
use Rattle.std.proofs.Common.{◌≡◌, ◌≢◌, ℕ, suc, ◌+◌, ◌&&◌, Bool, true, false, cond, List, [], ◌∷◌, slice_get, bytes_eq, codes, Option, None, Some, inl, inr, refl, sym, ◌∙◌, ap}
use Rattle.std.specs.List.{find, position_from}
use Rattle.std.specs.Option.{option_map, option_and_then}
use Rattle.std.proofs.lemmas.Bool.{cases_Bool}
use Rattle.std.proofs.lemmas.Slice.Eq.{bytes_eq-Decides}
use Rattle.access_flags.specs.declared.TheConstants.{STATIC}
use Rattle.access_flags.specs.Flags.{has}
use Rattle.class_pool.specs.Pool.{Reference, reference_of}
use Rattle.class_texts.specs.Texts.{ProgramTexts}
use Rattle.text_numbers.specs.Numbers.{number_of}
use Rattle.link_rules.specs.Classes.{NamedMember, classes_of, methods_of}
use Rattle.link_rules.specs.Members.{Declared, declared, declared_at, method_id, signature_of}
use Rattle.link_rules.specs.Methods.{initializes_class, initializer}
use Rattle.member_lookup.specs.Found.{HaveNumbers}
use Rattle.member_lookup.specs.Rows.{row_of, class_rows, id_of_row}
use Rattle.member_lookup.proofs.RowLaws.{row_declared, declared_is, signature_is}
use Rattle.method_table.specs.Rows.{initializes}

initializing : Reference
initializing = reference_of [] (codes "<clinit>") (codes "()V")

same_ids : (ts : List (List ℕ)) (o : Option Declared) → option_map id_of_row (option_map (row_declared ts) o) ≡ option_map method_id o
same_ids ts None = refl
same_ids ts (Some d) = refl

none_passes : {X : Type 0} (test : X → Bool) (k : ℕ) (xs : List X) → ((i : ℕ) (x : X) → slice_get xs i ≡ Some x → test x ≡ false) → position_from test k xs ≡ None
none_passes test k [] fails = refl
none_passes test k (x ∷ xs) fails =
    ap (λ b. cond b (Some k) (position_from test (k + 1) xs)) (fails 0 x refl) ∙ none_passes test (k + 1) xs (λ i y at. fails (suc i) y at)

module _ (p : ProgramTexts) (c : ℕ)
    (numbered : (i : ℕ) (m : NamedMember) → slice_get (methods_of (classes_of p.units) c) i ≡ Some m → HaveNumbers p (number_of p.texts m.name) (number_of p.texts m.descriptor) (signature_of m)) where
  pub found_is : (name descriptor : ℕ) → name ≡ number_of p.texts (codes "<clinit>") → descriptor ≡ number_of p.texts (codes "()V") → name ≢ 0 → descriptor ≢ 0
      → option_map id_of_row (find (initializes name descriptor) (class_rows p.texts (methods_of (classes_of p.units)) c)) ≡ initializer (classes_of p.units) c
  unfolding initializing
  found_is name descriptor name_is descriptor_is some_name some_descriptor =
      ap (option_map id_of_row) (declared_is p.texts (methods_of (classes_of p.units)) (initializes name descriptor) initializes_class c (λ i m.
      ap (λ n. initializes n descriptor (row_of p.texts c i m)) name_is
      ∙ ap (λ n. initializes (number_of p.texts (codes "<clinit>")) n (row_of p.texts c i m)) descriptor_is
      ∙ ap (λ b. b && has m.flags STATIC) (signature_is p.texts initializing c i m (λ e. some_name (name_is ∙ e)) (λ e. some_descriptor (descriptor_is ∙ e)))))
      ∙ same_ids p.texts (declared (methods_of (classes_of p.units)) initializes_class c)

  none_is : ((i : ℕ) (m : NamedMember) → slice_get (methods_of (classes_of p.units) c) i ≡ Some m → initializes_class m ≡ false) → None ≡ initializer (classes_of p.units) c
  none_is fails =
      sym (ap (λ o. option_map method_id (option_and_then (declared_at (methods_of (classes_of p.units) c) c) o)) (none_passes initializes_class 0 (methods_of (classes_of p.units) c) fails))

  differs : (text own : List ℕ) → number_of p.texts text ≡ 0 → number_of p.texts own ≢ 0 → bytes_eq own text ≡ false
  differs text own none some = elim (cases_Bool (bytes_eq own text)) [
    | inl same ↦ absurd (some (ap (number_of p.texts) ((bytes_eq-Decides own text).0 same) ∙ none))
    | inr other ↦ other
  ]

  pub no_name : number_of p.texts (codes "<clinit>") ≡ 0 → None ≡ initializer (classes_of p.units) c
  no_name none = none_is (λ i m at.
      ap (λ b. (b && bytes_eq m.descriptor (codes "()V")) && has m.flags STATIC) (differs (codes "<clinit>") m.name none (numbered i m at).name_has))

  pub no_descriptor : number_of p.texts (codes "()V") ≡ 0 → None ≡ initializer (classes_of p.units) c
  no_descriptor none = none_is (λ i m at.
      ap (λ b. (bytes_eq m.name (codes "<clinit>") && b) && has m.flags STATIC) (differs (codes "()V") m.descriptor none (numbered i m at).descriptor_has)
      ∙ never (bytes_eq m.name (codes "<clinit>")) (has m.flags STATIC))
    where
      never : (a b : Bool) → ((a && false) && b) ≡ false
      never true b = refl
      never false b = refl
