-- A Write, made with one look at its object.
use Rattle.std.proofs.Common.{◌≡◌, inl, inr, ℕ, ◌<◌, Option, Some, None, IsSomeAnd, length, refl, sym, ◌∙◌, ap, subst}
use Rattle.std.specs.Prelude.{slice_set}
use Rattle.std.specs.Option.{option_map}
use Rattle.std.proofs.lemmas.Bool.{cases_lt}
use Rattle.std.proofs.lemmas.List.{set_past}
use Rattle.op_core.specs.OrdinaryState.{set_at, HasWord}
use Rattle.op_core.proofs.PointwiseLemmas.{set_at-same}
use Rattle.machine_tables.specs.declared.objects.HeapObject.{HeapObject}
use Rattle.machine_tables.specs.Tables.{header_of, objects_in, words_in, monitors_in, starts_in}
use Rattle.machine_state.proofs.ChangeLemmas.{Parts}

-- where no object has the word, the objects are as they were
none_written : (f g : ℕ → Option HeapObject) (r i v : ℕ) → (HasWord (objects_in f) r i → ⊥)
    → ((x : HeapObject) → f r ≡ Some x → g ≡ set_at f r (Some (record x { words = slice_set x.words i v }))) → (f r ≡ None → g ≡ f) → g ≡ f
none_written f g r i v never there absent = of (f r) refl
  where
    of : (o : Option HeapObject) → f r ≡ o → g ≡ f
    of None is = absent is
    of (Some x) is = elim (cases_lt i (length x.words)) [
      | inl inside ↦ absurd (never (subst (λ o. IsSomeAnd (option_map header_of o) (λ h. i < h.words)) (sym is) inside))
      | inr past ↦ there x is ∙ ap (λ words. set_at f r (Some (record x { words = words }))) (set_past x.words i v past) ∙ set_at-same f r (Some x) is
    ]

pub word_kept : (f g : ℕ → Option HeapObject) (r i v : ℕ) → (HasWord (objects_in f) r i → ⊥)
    → ((x : HeapObject) → f r ≡ Some x → g ≡ set_at f r (Some (record x { words = slice_set x.words i v }))) → (f r ≡ None → g ≡ f)
    → Parts g (objects_in f) (words_in f) (monitors_in f) (starts_in f)
word_kept f g r i v never there absent =
    let same = none_written f g r i v never there absent in
    record { objects = ap objects_in same; words = ap words_in same; monitors = ap monitors_in same; starts = ap starts_in same }
