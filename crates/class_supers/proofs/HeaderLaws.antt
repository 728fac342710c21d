-- The headers of classes, by the numbers of their names.
use Rattle.std.proofs.Common.{◌≡◌, ℕ, ◌+◌, ◌<◌, ◌≤◌, List, [], ◌∷◌, ◌++◌, get_or, arith, length, map, take, slice_get, refl, sym, ◌∙◌, ap}
use Rattle.std.proofs.lemmas.Grind.{common_steps}
use Rattle.std.proofs.Math.Path.{fun_ext}
use Rattle.std.specs.Option.{option_map_or}
use Rattle.std.proofs.lemmas.Simd.{map-map}
use Rattle.std.proofs.lemmas.List.{map-append, take_all}
use Rattle.builtin_world.specs.BuiltinClass.{shown_class}
use Rattle.builtin_world.specs.BuiltinClass.{rows}
use Rattle.builtin_world.specs.Library.{library}
use Rattle.builtin_world.specs.declared.BuiltinClass.{BuiltinClass}
use Rattle.class_pool.specs.Lookup.{class_name_of}
use Rattle.code_decode.specs.declared.code.ClassUnit.{ClassUnit}
use Rattle.link_rules.specs.Classes.{classes_of, class_of_unit, library_class, class_number, class_name_at}
use Rattle.class_supers.specs.Numbers.{AreNumbersOf}
use Rattle.class_supers.specs.Headers.{header_by, header_of_row}
use Rattle.class_supers.specs.declared.headers.ClassHeader.{ClassHeader}

abbrev header : ℕ → ℕ → List ℕ → ClassHeader
header flags superclass interfaces = record { flags = flags; superclass = superclass; interfaces = interfaces }

pub header_of_file : (f : List ℕ → ℕ) (u : ClassUnit) (s : ℕ) (numbers interfaces : List ℕ)
    → s ≡ option_map_or f (class_name_of u.file.pool (slice_get u.file.pool u.file.super_class)) 0
    → interfaces ≡ numbers → numbers ≡ map (λ at. f (class_name_at u.file.pool at)) u.file.interfaces
    → header u.file.flags s interfaces ≡ header_by f (class_of_unit u)
header_of_file f u s numbers interfaces super same named =
    ap (λ (x : ℕ). header u.file.flags x interfaces) super
    ∙ ap (header u.file.flags (option_map_or f (class_name_of u.file.pool (slice_get u.file.pool u.file.super_class)) 0)) (same ∙ named ∙ sym (map-map f (class_name_at u.file.pool) u.file.interfaces))

pub shown_headers : (bs : List BuiltinClass) (i : ℕ) → length bs ≤ i → map shown_class bs ≡ rows → map (λ b. header_of_row (shown_class b)) (take i bs) ≡ map header_of_row rows
shown_headers bs i le all =
    ap (map (λ b. header_of_row (shown_class b))) (take_all i bs le) ∙ sym (map-map header_of_row shown_class bs) ∙ ap (map header_of_row) all

library_headers : (us : List ClassUnit) → map header_of_row rows ≡ map (header_by (class_number (classes_of us))) (map library_class library)
unfolding library rows
library_headers us = refl

pub headers_of_all : (f : List ℕ → ℕ) (us : List ClassUnit) (i : ℕ) → length us ≤ i → AreNumbersOf f (classes_of us)
    → map header_of_row rows ++ map (λ u. header_by f (class_of_unit u)) (take i us) ≡ map (header_by (class_number (classes_of us))) (classes_of us)
headers_of_all f us i le known =
    let g : List ℕ → ℕ = class_number (classes_of us) in
    let same : f ≡ class_number (classes_of us) = fun_ext known in
    ap (λ xs. map header_of_row rows ++ map (λ u. header_by f (class_of_unit u)) xs) (take_all i us le)
    ∙ ap (λ (h : List ℕ → ℕ). map header_of_row rows ++ map (λ u. header_by h (class_of_unit u)) us) same
    ∙ ap (λ xs. xs ++ map (λ u. header_by (class_number (classes_of us)) (class_of_unit u)) us) (library_headers us)
    ∙ ap (λ xs. map (header_by (class_number (classes_of us))) (map library_class library) ++ xs) (sym (map-map (header_by (class_number (classes_of us))) class_of_unit us))
    ∙ sym (map-append (header_by (class_number (classes_of us))) (map library_class library) (map class_of_unit us))

pub map_next : (g : ℕ → ℕ) (xs : List ℕ) (i : ℕ) (numbers new : List ℕ) (x : ℕ) → i < length xs → numbers ≡ map g (take i xs) → new ≡ numbers ++ x ∷ [] → x ≡ g (get_or xs i 0) → new ≡ map g (take (i + 1) xs)
map_next g xs i numbers new x lt so more is = grind (arith, common_steps)
