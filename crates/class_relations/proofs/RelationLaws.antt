-- What is asked of a class that isn't there, and lists by number.
use Rattle.std.proofs.Common.{◌≡◌, ◌<◌, ◌≤◌, ℕ, false, List, length, get_or, slice_get, Some, inl, inr, sym, ◌∙◌, ap}
use Rattle.std.specs.Option.{option_map_or}
use Rattle.std.proofs.lemmas.Bool.{cases_lt}
use Rattle.std.proofs.lemmas.Option.{get_or_from_slice_get}
use Rattle.std.proofs.lemmas.List.{get_or_past}
use Rattle.access_flags.specs.Flags.{has}
use Rattle.link_rules.specs.Classes.{NamedClass, class_has}
use Rattle.link_rules.proofs.Numbers.{past_all}

pub no_flag : (cs : List NamedClass) (flag c : ℕ) → length cs < c → class_has cs c flag ≡ false
no_flag cs flag c lt = ap (λ o. option_map_or (λ (k : NamedClass). has k.flags flag) o false) (past_all cs c lt)

pub list_is : {A : Type 0} (f : ℕ → A) (d : A) (xs : List A) → ((c : ℕ) → c < length xs → slice_get xs c ≡ Some (f c)) → ((c : ℕ) → length xs ≤ c → f c ≡ d)
    → (c : ℕ) → get_or xs c d ≡ f c
list_is f d xs each past c = elim (cases_lt c (length xs)) [
  | inl lt ↦ get_or_from_slice_get xs c (f c) d (each c lt)
  | inr ge ↦ get_or_past xs c d ge ∙ sym (past c ge)
]
