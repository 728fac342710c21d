-- The names of classes.
use Rattle.std.proofs.Common.{◌≡◌, ℕ, ◌+◌, ◌<◌, true, false, List, ◌++◌, length, map, take, slice_get, Option, None, Some, inl, inr, cond, refl, sym, ◌∙◌, ap, arith}
use Rattle.std.specs.List.{position_from}
use Rattle.std.specs.Option.{option_map, option_map_or}
use Rattle.std.proofs.lemmas.Option.{slice_get-map, slice_get_cases}
use Rattle.builtin_world.specs.Library.{library, Class as LibraryClass}
use Rattle.builtin_world.specs.BuiltinClass.{ClassRow, rows, row_of, shown_class}
use Rattle.builtin_world.specs.declared.BuiltinClass.{BuiltinClass}
use Rattle.class_read.proofs.FindLaws.{take_next}
use Rattle.code_decode.specs.declared.code.ClassUnit.{ClassUnit}
use Rattle.link_rules.specs.Classes.{NamedClass, class_name_at, class_of_unit, classes_of, library_class}
use Rattle.linker.specs.Names.{has_name}
use Rattle.link_rules.proofs.Lists.{position_at, position_push, slice_get-behind, before_at}

-- ---- built-in classes

library_name : (o : Option LibraryClass) → option_map (λ (k : NamedClass). k.name) (option_map library_class o) ≡ option_map (λ (c : LibraryClass). c.name) o
library_name None = refl
library_name (Some c) = refl

pub builtin_name : (us : List ClassUnit) (i : ℕ) → i < 28 → option_map (λ (k : NamedClass). k.name) (slice_get (classes_of us) i) ≡ option_map (λ (c : LibraryClass). c.name) (slice_get library i)
unfolding library
builtin_name us i lt =
    ap (option_map (λ (k : NamedClass). k.name)) (before_at (map library_class library) (map class_of_unit us) i lt ∙ slice_get-map library_class library i)
    ∙ library_name (slice_get library i)

-- ---- classes of files

file_name_of : (o : Option ClassUnit) → option_map (λ (k : NamedClass). k.name) (option_map class_of_unit o) ≡ option_map (λ (u : ClassUnit). class_name_at u.file.pool u.file.this_class) o
file_name_of None = refl
file_name_of (Some u) = refl

pub file_name : (us : List ClassUnit) (k : ℕ) → option_map (λ (c : NamedClass). c.name) (slice_get (classes_of us) (28 + k)) ≡ option_map (λ (u : ClassUnit). class_name_at u.file.pool u.file.this_class) (slice_get us k)
unfolding library
file_name us k =
    let behind : slice_get (map library_class library ++ map class_of_unit us) (28 + k) ≡ slice_get (map class_of_unit us) k = slice_get-behind (map library_class library) (map class_of_unit us) k in
    ap (option_map (λ (c : NamedClass). c.name)) (behind ∙ slice_get-map class_of_unit us k) ∙ file_name_of (slice_get us k)

-- ---- the rows of the table

shown_name : (o : Option BuiltinClass) → option_map (λ (r : ClassRow). r.name) (option_map shown_class o) ≡ option_map (λ (b : BuiltinClass). b.name.now) o
shown_name None = refl
shown_name (Some b) = refl

row_name : (o : Option LibraryClass) → option_map (λ (r : ClassRow). r.name) (option_map row_of o) ≡ option_map (λ (c : LibraryClass). c.name) o
row_name None = refl
row_name (Some c) = refl

pub names_are : (bs : List BuiltinClass) (i : ℕ) → map shown_class bs ≡ rows → option_map (λ (b : BuiltinClass). b.name.now) (slice_get bs i) ≡ option_map (λ (c : LibraryClass). c.name) (slice_get library i)
unfolding rows
names_are bs i all =
    sym (shown_name (slice_get bs i)) ∙ ap (option_map (λ (r : ClassRow). r.name)) (sym (slice_get-map shown_class bs i) ∙ ap (λ rs. slice_get rs i) all ∙ slice_get-map row_of library i)
    ∙ row_name (slice_get library i)

-- ---- the first class of a name

module _ (cs : List NamedClass) (name : List ℕ) (i : ℕ) (before : position_from (has_name name) 0 (take i cs) ≡ None) (lt : i < length cs) where
  there : (x : NamedClass) × (slice_get cs i ≡ Some x)
  there = elim (slice_get_cases cs i).1 [
    | inl (x, within, at, same) ↦ (x, at)
    | inr (past, none) ↦ absurd (omega (arith, past))
  ]

  pub found_here : option_map_or (has_name name) (slice_get cs i) false ≡ true → position_from (has_name name) 0 cs ≡ Some i
  found_here passes =
      position_at (has_name name) cs i there.0 there.1
      (sym (ap (λ o. option_map_or (has_name name) o false) there.1) ∙ passes) before

  pub not_here : option_map_or (has_name name) (slice_get cs i) false ≡ false → position_from (has_name name) 0 (take (i + 1) cs) ≡ None
  not_here fails =
      ap (position_from (has_name name) 0) (take_next cs i there.0 there.1)
      ∙ position_push (has_name name) 0 (take i cs) there.0 before
      ∙ ap (λ b. cond b (Some (0 + length (take i cs))) None) (sym (ap (λ o. option_map_or (has_name name) o false) there.1) ∙ fails)
