-- What is asked of array classes by number.
use Rattle.std.proofs.Common.{◌≡◌, ℕ, zero, suc, ◌-◌, ◌<◌, ◌≤◌, ◌==◌, ◌&&◌, true, false, cond, nat_eq, List, ◌∷◌, length, replicate, take, Contains, slice_get, Option, None, Some, bytes_eq, codes, refl, sym, ap, subst, ◌∙◌, true≢false, arith}
use Rattle.std.specs.Option.{option_map, option_and_then}
use Rattle.std.specs.Cmp.Lexicographic.{pointwise}
use Rattle.std.proofs.lemmas.Bool.{ne_eqb}
use Rattle.std.proofs.lemmas.Option.{slice_get-map}
use Rattle.class_names.specs.declared.kind.BaseKind.{BaseKind}
use Rattle.class_names.specs.declared.kind.BaseKind.TheVariants as bases
use Rattle.class_names.specs.declared.kind.Kind.TheVariants as kinds
use Rattle.class_names.specs.Descriptor.{base_text as kind_base_text, IsBaseKind}
use Rattle.class_names.specs.Kinds.{field_kind}
use Rattle.class_names.proofs.BytesLaws.{field_kind_again}
use Rattle.code_decode.specs.declared.code.ClassUnit.{ClassUnit}
use Rattle.code_steps.specs.Operands.{has_dimensions}
use Rattle.link_types.specs.declared.types.ElementType.{ElementType}
use Rattle.link_types.specs.declared.types.ElementType.TheVariants as elements
use Rattle.link_types.specs.declared.types.ObjectType.{ObjectType}
use Rattle.link_types.specs.declared.types.ObjectType.TheVariants.{Class, Other, Array}
use Rattle.link_rules.specs.Classes.{NamedClass, classes_of, class_number, is_array_name}
use Rattle.link_rules.specs.Descriptors.{base_class, class_of_kind}
use Rattle.link_rules.specs.Names.{ProgramNames, program_names, type_named, array_number, number_named, element_type_of, other_number}
use Rattle.link_rules.specs.Readers.{element_name}
use Rattle.link_rules.specs.Laws.{NamesHaveOneNumber}
use Rattle.link_rules.proofs.Lists.{contains_at}
use Rattle.array_order.specs.Order.{array_text}
use Rattle.base_order.specs.Bases.{name_of, base_text, IsBase}
use Rattle.array_kinds.specs.declared.kind.ArrayKind.{ArrayKind}
use Rattle.array_kinds.specs.Kinds.{array_kind, Spells}
use Rattle.array_kinds.proofs.Names.{array_begins, begins_with, class_no_array, spells_type}
use Rattle.array_kinds.proofs.Bases.{spelled_here}
use Rattle.array_uses.specs.Most.{IsArrayIn, base_texts}
use Rattle.array_uses.proofs.Places.{base_is_there, one_of_name}
use Rattle.array_classes.specs.declared.arrays.ArrayNumbers.{ArrayNumbers}
use Rattle.array_classes.specs.Numbers.{AreNamed, AreNumbersOf, IsKindOf}
use Rattle.array_classes.specs.ArrayClasses.{is_long, has_longs, class_in}
use Rattle.array_classes.proofs.Known.{names_known, no_number}

-- the kind of a type of innermost elements
abbrev kind_of : List NamedClass → ElementType → BaseKind
kind_of cs elements.Boolean = bases.Boolean
kind_of cs elements.Byte = bases.Byte
kind_of cs elements.Char = bases.Char
kind_of cs elements.Short = bases.Short
kind_of cs elements.Int = bases.Int
kind_of cs elements.Long = bases.Long
kind_of cs elements.Float = bases.Float
kind_of cs elements.Double = bases.Double
kind_of cs (elements.Class c) = bases.Class (name_of cs c)
kind_of cs (elements.Other n) = bases.Int

-- the type of the innermost elements of an array
abbrev base_in : ObjectType → ElementType
base_in (Array d base) = base
base_in (Class c) = elements.Other 0
base_in (Other c) = elements.Other 0

module _ (p : ProgramNames) (names : NamesHaveOneNumber p.classes) (named : AreNamed p.classes) where
  kind_text : (base : ElementType) → IsBase p.classes base → base_text p.classes base ≡ kind_base_text (kind_of p.classes base)
  kind_text elements.Boolean is = refl
  kind_text elements.Byte is = refl
  kind_text elements.Char is = refl
  kind_text elements.Short is = refl
  kind_text elements.Int is = refl
  kind_text elements.Long is = refl
  kind_text elements.Float is = refl
  kind_text elements.Double is = refl
  kind_text (elements.Class c) is = refl
  kind_text (elements.Other n) is = absurd is

  kind_good : (base : ElementType) → IsBase p.classes base → IsBaseKind (kind_of p.classes base)
  kind_good elements.Boolean is = tt
  kind_good elements.Byte is = tt
  kind_good elements.Char is = tt
  kind_good elements.Short is = tt
  kind_good elements.Int is = tt
  kind_good elements.Long is = tt
  kind_good elements.Float is = tt
  kind_good elements.Double is = tt
  kind_good (elements.Class c) is = named c is
  kind_good (elements.Other n) is = absurd is

  known_number : (c : ℕ) → IsBase p.classes (elements.Class c) → nat_eq (class_number p.classes (name_of p.classes c)) 0 ≡ false
  known_number c is = ap (λ n. nat_eq n 0) (one_of_name p.classes c names is) ∙ ne_eqb c 0 is.0

  kind_element : (base : ElementType) → IsBase p.classes base → base ≡ element_type_of p (kind_of p.classes base)
  kind_element elements.Boolean is = refl
  kind_element elements.Byte is = refl
  kind_element elements.Char is = refl
  kind_element elements.Short is = refl
  kind_element elements.Int is = refl
  kind_element elements.Long is = refl
  kind_element elements.Float is = refl
  kind_element elements.Double is = refl
  kind_element (elements.Class c) is =
      sym (ap (λ b. cond b (elements.Other (other_number p (name_of p.classes c))) (elements.Class (class_number p.classes (name_of p.classes c)))) (known_number c is)
      ∙ ap elements.Class (one_of_name p.classes c names is))
  kind_element (elements.Other n) is = absurd is

  -- the descriptor of an array type of the program spells it
  pub in_spells : (a : ArrayKind) (text : List ℕ) → IsArrayIn p.classes a text → Spells p a text
  in_spells a text is = record {
    base = kind_of p.classes a.base;
    good = kind_good a.base is.base;
    spelled = is.spelled ∙ ap (array_text a.dimensions) (kind_text a.base is.base);
    base_is = kind_element a.base is.base;
    some = is.some;
    few = is.few;
  }

  pub in_type : (a : ArrayKind) (text : List ℕ) → IsArrayIn p.classes a text → type_named p text ≡ Array a.dimensions a.base
  in_type a text is = spells_type p a text (in_spells a text is)

  -- ---- elements

  base_no_array : (base : ElementType) → IsBase p.classes base → is_array_name (base_text p.classes base) ≡ false
  base_no_array elements.Boolean is = refl
  base_no_array elements.Byte is = refl
  base_no_array elements.Char is = refl
  base_no_array elements.Short is = refl
  base_no_array elements.Int is = refl
  base_no_array elements.Long is = refl
  base_no_array elements.Float is = refl
  base_no_array elements.Double is = refl
  base_no_array (elements.Class c) is = refl
  base_no_array (elements.Other n) is = absurd is

  base_kind : (base : ElementType) → IsBase p.classes base → field_kind (base_text p.classes base) ≡ Some (kinds.Base (kind_of p.classes base))
  base_kind base is = field_kind_again (base_text p.classes base) (kinds.Base (kind_of p.classes base)) (record { good = kind_good base is; spelled = kind_text base is })

  innermost : (base : ElementType) → IsBase p.classes base → option_and_then (number_named p) (base_class (kind_of p.classes base)) ≡ class_in base
  innermost elements.Boolean is = refl
  innermost elements.Byte is = refl
  innermost elements.Char is = refl
  innermost elements.Short is = refl
  innermost elements.Int is = refl
  innermost elements.Long is = refl
  innermost elements.Float is = refl
  innermost elements.Double is = refl
  innermost (elements.Class c) is =
      let name : List ℕ = name_of p.classes c in
      ap (λ b. cond b (array_number p (name_of p.classes c)) (cond (nat_eq (class_number p.classes (name_of p.classes c)) 0) None (Some (class_number p.classes (name_of p.classes c))))) (class_no_array (name_of p.classes c) (named c is))
      ∙ ap (λ b. cond b None (Some (class_number p.classes (name_of p.classes c)))) (known_number c is)
      ∙ ap (λ n. Some n) (one_of_name p.classes c names is)
  innermost (elements.Other n) is = absurd is

  one_dimension : (base : ElementType) → IsBase p.classes base → option_and_then (number_named p) (element_name (array_text 1 (base_text p.classes base))) ≡ class_in base
  one_dimension base is =
      ap (λ b. option_and_then (number_named p) (cond b (Some (base_text p.classes base)) (option_and_then class_of_kind (field_kind (base_text p.classes base))))) (base_no_array base is)
      ∙ ap (λ o. option_and_then (number_named p) (option_and_then class_of_kind o)) (base_kind base is)
      ∙ innermost base is

  pub innermost_elements : (a : ArrayKind) (text : List ℕ) (o : Option (List ℕ)) → IsArrayIn p.classes a text → o ≡ Some text → a.dimensions ≤ 1 → option_and_then (number_named p) (option_and_then element_name o) ≡ class_in a.base
  innermost_elements a text o is at le =
      let one : a.dimensions ≡ 1 = omega (arith, is.some, le) in
      ap (λ x. option_and_then (number_named p) (option_and_then element_name x)) (at ∙ ap (λ t. Some t) (is.spelled ∙ ap (λ d. array_text d (base_text p.classes a.base)) one)) ∙ one_dimension a.base is.base

  more_dimensions : (d : ℕ) (base : ElementType) → 0 < d → option_and_then (number_named p) (element_name (array_text (suc d) (base_text p.classes base))) ≡ array_number p (array_text d (base_text p.classes base))
  more_dimensions d base some =
      let array : is_array_name (array_text d (base_text p.classes base)) ≡ true = array_begins d (base_text p.classes base) some in
      let text : List ℕ = array_text d (base_text p.classes base) in
      ap (λ b. option_and_then (number_named p) (cond b (Some (array_text d (base_text p.classes base))) (option_and_then class_of_kind (field_kind (array_text d (base_text p.classes base)))))) array
      ∙ ap (λ b. cond b (array_number p (array_text d (base_text p.classes base)))
      (cond (nat_eq (class_number p.classes (array_text d (base_text p.classes base))) 0) None (Some (class_number p.classes (array_text d (base_text p.classes base)))))) array

  -- the elements of an array of arrays
  pub record HasArrays (a : ArrayKind) (o : Option (List ℕ)) : Type 0 where
    pub text : List ℕ
    pub spells : Spells p (array_kind (a.dimensions - 1) a.base) text
    pub number : option_and_then (number_named p) (option_and_then element_name o) ≡ array_number p text

  pub array_elements : (a : ArrayKind) (text : List ℕ) (o : Option (List ℕ)) → IsArrayIn p.classes a text → o ≡ Some text → 1 < a.dimensions → HasArrays a o
  array_elements a text o is at more =
      let next : a.dimensions ≡ suc (a.dimensions - 1) = omega arith in
      record {
        text = array_text (a.dimensions - 1) (base_text p.classes a.base);
        spells = in_spells (array_kind (a.dimensions - 1) a.base) (array_text (a.dimensions - 1) (base_text p.classes a.base))
            (record { base = is.base; spelled = refl; some = omega arith; few = (let le = is.few in omega arith) });
        number = ap (λ x. option_and_then (number_named p) (option_and_then element_name x)) (at ∙ ap (λ t. Some t) (is.spelled ∙ ap (λ d. array_text d (base_text p.classes a.base)) next))
            ∙ more_dimensions (a.dimensions - 1) a.base (omega arith);
      }

-- ---- longs

longs_text : (cs : List NamedClass) (d : ℕ) (base : ElementType) → IsBase cs base → 0 < d → bytes_eq (array_text d (base_text cs base)) (codes "[J") ≡ (d == 1 && is_long base)
longs_text cs zero base is some = absurd (omega arith)
longs_text cs (suc zero) elements.Boolean is some = refl
longs_text cs (suc zero) elements.Byte is some = refl
longs_text cs (suc zero) elements.Char is some = refl
longs_text cs (suc zero) elements.Short is some = refl
longs_text cs (suc zero) elements.Int is some = refl
longs_text cs (suc zero) elements.Long is some = refl
longs_text cs (suc zero) elements.Float is some = refl
longs_text cs (suc zero) elements.Double is some = refl
longs_text cs (suc zero) (elements.Class c) is some = refl
longs_text cs (suc zero) (elements.Other n) is some = absurd is
longs_text cs (suc (suc d)) base is some = sym (ap (λ b. b && is_long base) (ne_eqb (suc (suc d)) 1 (λ e. omega (arith, e))))

pub longs_are : (cs : List NamedClass) (a : ArrayKind) (o : Option (List ℕ)) → IsKindOf cs (Some a) o → Some (has_longs a) ≡ option_map (λ name. bytes_eq name (codes "[J")) o
longs_are cs a o (text, at, is) =
    ap (λ b. Some b) (sym (longs_text cs a.dimensions a.base is.base is.some) ∙ ap (λ t. bytes_eq t (codes "[J")) (sym is.spelled)) ∙ ap (option_map (λ name. bytes_eq name (codes "[J"))) (sym at)

-- ---- numbers

module _ (us : List ClassUnit) (numbers : ArrayNumbers) (are : AreNumbersOf us numbers) where
  -- an array type whose base has no place has no number
  pub no_place : (a : ArrayKind) (text : List ℕ) → Spells (program_names us) a text → ((Contains numbers.order.bases.items a.base) → ⊥) → array_number (program_names us) text ≡ None
  no_place a text spells missing = no_number us text (λ h. of_known (names_known us numbers.order are.most are.order_is are.most_is text h))
    where
      of_known : (b : ArrayKind) × IsArrayIn (classes_of us) b text → ⊥
      of_known (b, is) =
          let same : b.base ≡ a.base = ap base_in (sym (in_type (program_names us) are.names are.named b text is) ∙ spells_type (program_names us) a text spells) in
          missing (base_is_there us numbers.order a.base are.order_is are.names (subst (IsBase (classes_of us)) same is.base))

  -- the place of the base of an array type
  pub has_place : (a : ArrayKind) (text : List ℕ) (place : ℕ) → Spells (program_names us) a text → slice_get numbers.order.bases.items place ≡ Some a.base
      → (base : List ℕ) × (slice_get (base_texts us numbers.order) place ≡ Some base) × (text ≡ array_text a.dimensions base)
  has_place a text place spells at =
      let is : IsBase (classes_of us) a.base = are.order_is.bases.only a.base (contains_at numbers.order.bases.items place a.base at) in (
        base_text (classes_of us) a.base,
        slice_get-map (base_text (classes_of us)) numbers.order.bases.items place ∙ ap (option_map (base_text (classes_of us))) at,
        spelled_here (program_names us) a text spells is,
      )

  -- ---- arrays of 256 dimensions

  fewer : (n d letter : ℕ) (rest : List ℕ) → d < n → letter < 91 → has_dimensions n (array_text d (letter ∷ rest)) ≡ false
  fewer zero d letter rest lt low = absurd (omega arith)
  fewer (suc n) zero letter rest lt low =
      ap (λ b. b && pointwise nat_eq (replicate {A = ℕ} n 91) (take (length {A = ℕ} (replicate {A = ℕ} n 91)) rest)) (ne_eqb 91 letter (λ e. omega (arith, e)))
  fewer (suc n) (suc d) letter rest lt low = fewer n d letter rest (omega arith) low

  pub too_long : (text : List ℕ) (base : List ℕ) → text ≡ array_text 256 base → array_number (program_names us) text ≡ None
  too_long text base is = no_number us text (λ h. of_known (names_known us numbers.order are.most are.order_is are.most_is text h))
    where
      of_known : (b : ArrayKind) × IsArrayIn (classes_of us) b text → ⊥
      of_known (b, known) =
          let begins = are.order_is.bases.order.letters (base_text (classes_of us) b.base) (are.order_is.bases.there b.base known.base) in
          true≢false (sym (ap (has_dimensions 256) is ∙ begins_with 256 base)
          ∙ ap (has_dimensions 256) (known.spelled ∙ ap (array_text b.dimensions) begins.2) ∙ fewer 256 b.dimensions begins.0 begins.1 (let le = known.few in omega arith) begins.3)
