-- Texts that may be used as a member's name or type.
use Rattle.std.proofs.Common.{◌≡◌, ◌+◌, ℕ, List, refl, ap, subst, arith, inr}
use Rattle.std.specs.Prelude.{Option, Some, None, ◌↔◌, IsTrue, Bool, true, false, not, nat_le}
use Rattle.std.proofs.lemmas.Bool.{leb-true, le-leb}
use Rattle.class_walk.specs.declared.class.Constant.{Constant}
use Rattle.class_names.specs.Descriptor.{size_of}
use Rattle.class_names.specs.declared.kind.ParameterSize.{ParameterSize}
use Rattle.class_pool.specs.declared.text_uses.TextUse.{TextUse}
use Rattle.class_pool.specs.declared.refusal.ReadRefusal.TheVariants as refusals
use Rattle.class_pool.specs.TextUses.{IsUseOf, IsUseAt}
use Rattle.class_pool.proofs.UseLaws.{of_same}
use Rattle.class_read.specs.MemberRules.{IsTypeOfMethod, text_rules, receiver_words, may_take}

-- a text that is such a one
pub right_text : (IsRight : List ℕ → Type 0) (pool : List Constant) (k : ℕ) (u : TextUse) → IsUseAt pool k u → ((text : List ℕ) → IsUseOf text u → IsRight text) → (text_rules IsRight pool k).Hold
right_text IsRight pool k u at right = ((at.0, at.1), (at.0, at.1, right at.0 at.2))

-- a text that is not
pub wrong_text : (IsRight : List ℕ → Type 0) (pool : List Constant) (k : ℕ) (u : TextUse) → IsUseAt pool k u → ((text : List ℕ) → IsUseOf text u → IsRight text → ⊥) → (text_rules IsRight pool k).Refuse (refusals.BadDescriptor k)
wrong_text IsRight pool k u at wrong = inr ((at.0, at.1), (λ t. wrong t.0 (of_same pool k u at t.0 t.1) t.2, refl))

pub is_so : {P : Type 0} (b : Bool) → not b ≡ false → (IsTrue b ↔ P) → P
is_so true e both = both.0 refl
is_so false e both = absurd cc

pub not_so : {P : Type 0} (b : Bool) → not b ≡ true → (IsTrue b ↔ P) → P → ⊥
not_so true e both p = absurd cc
not_so false e both p = let t = both.1 p in absurd cc

-- a descriptor whose parameters a method may have
pub taken : (flags : ℕ) (text : List ℕ) (u : TextUse) (o : Option ParameterSize) → u.parameters ≡ o → IsUseOf text u → may_take flags o ≡ true → IsTypeOfMethod flags text
taken flags text u None same is takes = absurd cc
taken flags text u (Some size) same is takes =
    let t = is.parameters size same in
    let within : nat_le (receiver_words flags + size.words) 255 ≡ true = takes in
    (t.0, t.1, t.2, omega (arith, leb-true (receiver_words flags + size.words) 255 within, ap (λ (s : ParameterSize). s.words) t.3))

pub not_taken : (flags : ℕ) (text : List ℕ) (u : TextUse) → IsUseOf text u → may_take flags u.parameters ≡ false → IsTypeOfMethod flags text → ⊥
not_taken flags text u is takes t =
    let size = size_of t.0 in
    let parameters : u.parameters ≡ Some size = is.only size (t.0, t.1, t.2, refl) in
    let P : Option ParameterSize → Type 0 = λ o. may_take flags o ≡ false in
    let beyond : nat_le (receiver_words flags + size.words) 255 ≡ false = subst P parameters takes in
    let within : nat_le (receiver_words flags + size.words) 255 ≡ true = le-leb (receiver_words flags + size.words) 255 t.3 in
    absurd cc
