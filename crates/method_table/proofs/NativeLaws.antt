-- The natives of built-in methods.
use Rattle.std.proofs.Common.{◌≡◌, ℕ, suc, List, map, slice_get, Option, None, Some, refl, sym, ◌∙◌, ap}
use Rattle.std.specs.Option.{option_map, option_and_then}
use Rattle.std.proofs.lemmas.Option.{slice_get-map, none-some}
use Rattle.builtin_world.specs.declared.Native.{Native}
use Rattle.builtin_world.specs.declared.BuiltinClass.{BuiltinClass}
use Rattle.builtin_world.specs.declared.BuiltinMethod.{BuiltinMethod}
use Rattle.builtin_world.specs.BuiltinClass.{ClassRow, rows, row_of, shown_class, shown_method}
use Rattle.builtin_world.specs.Library.{library}
use Rattle.builtin_world.specs.Library.{Class as LibraryClass, Method as LibraryMethod}
use Rattle.link_rules.specs.Methods.{native_of}
use Rattle.class_supers.proofs.ClassLaws.{Shows, shows}

natives_in : ℕ → Option LibraryClass → Option Native
natives_in place o = option_and_then (λ (c : LibraryClass). option_map (λ (m : LibraryMethod). m.native) (slice_get c.methods place)) o

shown_native : (o : Option BuiltinMethod) → option_map (λ (m : LibraryMethod). m.native) (option_map shown_method o) ≡ option_map (λ (m : BuiltinMethod). m.native) o
shown_native None = refl
shown_native (Some m) = refl

pub native_is : (bs : List BuiltinClass) (i place : ℕ) (b : BuiltinClass) → map shown_class bs ≡ rows → slice_get bs i ≡ Some b
    → option_map (λ (m : BuiltinMethod). m.native) (slice_get b.methods.now place) ≡ native_of (record { class = suc i; method = place })
unfolding natives_in
native_is bs i place b all at =
    let s : Shows i b = shows bs i b all at in
    let its : s.row.methods ≡ map shown_method b.methods.now = ap (λ (r : ClassRow). r.methods) s.shown in
    sym (ap (natives_in place) s.there
    ∙ ap (λ ms. option_map (λ (m : LibraryMethod). m.native) (slice_get ms place)) its
    ∙ ap (option_map (λ (m : LibraryMethod). m.native)) (slice_get-map shown_method b.methods.now place)
    ∙ shown_native (slice_get b.methods.now place))

none_shown : (o : Option LibraryClass) → option_map row_of o ≡ None → o ≡ None
none_shown None e = refl
none_shown (Some c) e = absurd (none-some (row_of c) (sym e))

pub no_native : (bs : List BuiltinClass) (i place : ℕ) → map shown_class bs ≡ rows → slice_get bs i ≡ None → None ≡ native_of (record { class = suc i; method = place })
unfolding natives_in rows
no_native bs i place all none =
    let shown : slice_get (map shown_class bs) i ≡ None = slice_get-map shown_class bs i ∙ ap (option_map shown_class) none in
    let row : option_map row_of (slice_get library i) ≡ None = sym (slice_get-map row_of library i) ∙ ap (λ rs. slice_get rs i) (sym all) ∙ shown in
    sym (ap (natives_in place) (none_shown (slice_get library i) row))
