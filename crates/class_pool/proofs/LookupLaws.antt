-- What is found at an index is what is there, and what is there is found.
use Rattle.std.proofs.Common.{◌≡◌, ◌↔◌, ℕ, List, Option, Some, None, slice_get, refl, subst}
use Rattle.std.proofs.lemmas.Option.{same_Some}
use Rattle.class_walk.specs.declared.class.Constant.{Constant}
use Rattle.class_walk.specs.declared.class.Constant.TheVariants as constants
use Rattle.class_pool.specs.Pool.{IsUtf8At, IsClassAt, IsPairAt}
use Rattle.class_pool.specs.Lookup.{utf8_of, class_name_of, both_texts, name_and_type_of}

pub text_is : (c : Option Constant) (text : List ℕ) → utf8_of c ≡ Some text → c ≡ Some (constants.Utf8 text)
text_is (Some (constants.Utf8 t)) text e = cc
text_is _ text e = absurd cc

both_are : (a b : Option (List ℕ)) (x : List ℕ × List ℕ) → both_texts a b ≡ Some x → (a ≡ Some x.0) × (b ≡ Some x.1)
both_are None b x e = absurd cc
both_are (Some a) None x e = absurd cc
both_are (Some a) (Some b) x e = subst (λ (y : List ℕ × List ℕ). (Some a ≡ Some y.0) × (Some b ≡ Some y.1)) (same_Some (a, b) x e) (refl, refl)

class_in_is : (pool : List Constant) (c : Option Constant) (name : List ℕ) → class_name_of pool c ≡ Some name → (n : ℕ) × (c ≡ Some (constants.Class n)) × (slice_get pool n ≡ Some (constants.Utf8 name))
class_in_is pool (Some (constants.Class n)) name e = (n, refl, text_is (slice_get pool n) name e)
class_in_is pool _ name e = absurd cc

pub class_is : (pool : List Constant) (index : ℕ) (name : List ℕ) → class_name_of pool (slice_get pool index) ≡ Some name → IsClassAt pool index name
class_is pool index name e = class_in_is pool (slice_get pool index) name e

pub class_again : (pool : List Constant) (index : ℕ) (name : List ℕ) → IsClassAt pool index name → class_name_of pool (slice_get pool index) ≡ Some name
class_again pool index name is = rw (is.1, is.2) refl

name_and_type_in_is : (pool : List Constant) (c : Option Constant) (x : List ℕ × List ℕ) → name_and_type_of pool c ≡ Some x
    → (n d : ℕ) × (c ≡ Some (constants.Pair n d)) × (slice_get pool n ≡ Some (constants.Utf8 x.0)) × (slice_get pool d ≡ Some (constants.Utf8 x.1))
name_and_type_in_is pool (Some (constants.Pair n d)) x e =
    let both = both_are (utf8_of (slice_get pool n)) (utf8_of (slice_get pool d)) x e in
    (n, d, refl, text_is (slice_get pool n) x.0 both.0, text_is (slice_get pool d) x.1 both.1)
name_and_type_in_is pool _ x e = absurd cc

pub name_and_type_is : (pool : List Constant) (pair : ℕ) (x : List ℕ × List ℕ) → name_and_type_of pool (slice_get pool pair) ≡ Some x → IsPairAt pool pair x.0 x.1
name_and_type_is pool pair x e = name_and_type_in_is pool (slice_get pool pair) x e

pub name_and_type_again : (pool : List Constant) (pair : ℕ) (name descriptor : List ℕ) → IsPairAt pool pair name descriptor → name_and_type_of pool (slice_get pool pair) ≡ Some (name, descriptor)
name_and_type_again pool pair name descriptor is = rw (is.2, is.3, is.4) refl

utf8_again : (pool : List Constant) (index : ℕ) (text : List ℕ) → IsUtf8At pool index text → utf8_of (slice_get pool index) ≡ Some text
utf8_again pool index text is = rw is refl

pub utf8_stands : (pool : List Constant) (index : ℕ) (text : List ℕ) → (utf8_of (slice_get pool index) ≡ Some text) ↔ IsUtf8At pool index text
utf8_stands pool index text = (text_is (slice_get pool index) text, utf8_again pool index text)

pub class_stands : (pool : List Constant) (index : ℕ) (name : List ℕ) → (class_name_of pool (slice_get pool index) ≡ Some name) ↔ IsClassAt pool index name
class_stands pool index name = (class_is pool index name, class_again pool index name)

pub name_and_type_stands : (pool : List Constant) (index : ℕ) (name descriptor : List ℕ) → (name_and_type_of pool (slice_get pool index) ≡ Some (name, descriptor)) ↔ IsPairAt pool index name descriptor
name_and_type_stands pool index name descriptor = (name_and_type_is pool index (name, descriptor), name_and_type_again pool index name descriptor)
