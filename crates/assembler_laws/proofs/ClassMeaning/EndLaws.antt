-- The class at the end of a text has the parts that the lines say.
use Rattle.std.proofs.Common.{◌≡◌, ℕ, ◌^◌, ◌<◌, List, [], ◌∷◌, ◌++◌, length, Option, Some, None, Ok, refl, sym, subst, ◌∙◌, arith, length-append, append_assoc}
use Rattle.std.specs.Prelude.{codes}
use Rattle.std.specs.List.{AllZip}
use Rattle.std.proofs.lemmas.List.{append-nil}
use Rattle.class_walk.specs.declared.class.Constant.{Constant}
use Rattle.class_walk.specs.Layout.{spelling}
use Rattle.class_pool.specs.Pool.{IsClassAt}
use Rattle.assembler_lines.specs.declared.line.Line.{Line}
use Rattle.assembler_lines.specs.declared.line.Line.TheVariants as kinds
use Rattle.assembler_text.specs.declared.lines.Numbered.{Numbered}
use Rattle.assembler_pool.specs.Indexed.{IsMade}
use Rattle.assembler_pool.specs.Items.{class_named}
use Rattle.assembler_pool.specs.Uses.{Extends}
use Rattle.assembler_pool.proofs.UseLaws.{extends_further}
use Rattle.class_make.specs.Assembly.{class_of, with_super, finished, spelled}
use Rattle.class_make.specs.Class.{MadeClass, outside, superclass}
use Rattle.assembler_laws.specs.ClassMeaning.Class.{IsNamed}
use Rattle.assembler_laws.specs.ClassMeaning.Parts.{SaidField, said_super, super_named, name_or_object, or_else, super_in, interfaces_in, fields_in, methods_in}
use Rattle.assembler_bodies.proofs.GrowLaws.{Used, used_at}
use Rattle.assembler_laws.proofs.ClassMeaning.MemberLaws.{IsField, IsMethod}
use Rattle.assembler_laws.proofs.ClassMeaning.PartLaws.{IsSuperIndex, SuperMade, super_made, InterfaceMade, FieldMade, MethodMade, said_alone}

-- ---- lists

-- What is said is added after what was there, and all of it has a count of two bytes.
pub record Adds {A B : Type 0} (Is : A → B → Type 0) (old : List B) (said : List A) (new : List B) : Type 0 where
  pub more : List B
  pub new_is : new ≡ old ++ more
  pub are : AllZip Is said more
  pub counted : length old < 2 ^ 16 → length new < 2 ^ 16

pub adds_none : {A B : Type 0} (Is : A → B → Type 0) (old : List B) → Adds Is old [] old
adds_none Is old = record { more = []; new_is = sym (append-nil old); are = tt; counted = λ few. few }

pub adds_one : {A B : Type 0} (Is : A → B → Type 0) (old : List B) (said : List A) (new : List B) (a : A) (b : B) → Is a b → length old < 65535
    → Adds Is (old ++ b ∷ []) said new → Adds Is old (a ∷ said) new
adds_one Is old said new a b is few adds =
    let pushed : length (old ++ b ∷ []) < 2 ^ 16 = omega (arith, length-append old (b ∷ []), few) in
    let count : length new < 2 ^ 16 = adds.counted pushed in
    record {
      more = b ∷ adds.more;
      new_is = adds.new_is ∙ append_assoc old (b ∷ []) adds.more;
      are = (is, adds.are);
      counted = λ before. count;
    }

-- ---- the superclass

-- The superclass is what was named before, or what these lines name.
abbrev pub IsSuper : List Constant → Option ℕ → List Numbered → ℕ → Type 0
IsSuper pool None lines super = IsNamed pool (super_in lines) super
IsSuper pool (Some known) lines super = (super ≡ known) × (super_named lines ≡ None)

super_at_end : (known : Option ℕ) (pool : List Constant) (super : ℕ) → IsSuperIndex known pool super → IsSuper pool known [] super
super_at_end None pool super is = is
super_at_end (Some known) pool super is = (is, refl)

-- a line that names none, where one is known
pub super_passed : (known : Option ℕ) (index : ℕ) (pool : List Constant) (n : Numbered) (lines : List Numbered) (super : ℕ) → known ≡ Some index → said_super n.line ≡ None
    → IsSuper pool known lines super → IsSuper pool known (n ∷ lines) super
super_passed None index pool n lines super e none is = absurd cc
super_passed (Some known) index pool n lines super e none is = (is.0, rw none is.1)

-- where none was named, it is java/lang/Object
super_first : (known : Option ℕ) (index : ℕ) (pool : List Constant) (lines : List Numbered) (super : ℕ) → IsSuperIndex known pool index → IsSuper pool (Some index) lines super → IsSuper pool known lines super
super_first None index pool lines super at is =
    let P : ℕ → Type 0 = λ i. IsClassAt pool i (codes "java/lang/Object") in
    let Q : Option (List ℕ) → Type 0 = λ o. IsClassAt pool super (name_or_object o) in
    subst Q (sym is.1) (subst P (sym is.0) at)
super_first (Some known) index pool lines super at is = (is.0 ∙ at, is.1)

-- ---- classes

-- The bytes are a class, which comes of a class so far and of the lines that are left.
pub record Ends (class : MadeClass) (lines : List Numbered) (old : List Constant) (bytes : List ℕ) : Type 0 where
  pub last : MadeClass
  pub pool : List Constant
  pub super : ℕ
  pub spells : bytes ≡ spelling (class_of last pool super)
  pub extends : Extends old pool
  pub made : IsMade pool
  pub flags : last.flags ≡ class.flags
  pub this_class : last.this_class ≡ class.this_class
  pub super_is : IsSuper pool class.super_class lines super
  pub interfaces : Adds (IsNamed pool) class.interfaces (interfaces_in lines) last.interfaces
  pub fields : Adds (IsField pool) class.fields (fields_in lines) last.fields
  pub methods : Adds (IsMethod pool) class.methods (methods_in lines) last.methods

ends_by : (behind : ℕ) (class : MadeClass) (old : List Constant) (bytes : List ℕ) (o : Option (List Constant × ℕ)) → superclass class.super_class old ≡ o → IsMade old
    → spelled behind (with_super class o) ≡ Ok bytes → Ends class [] old bytes
ends_by behind class old bytes None is made e = absurd cc
ends_by behind class old bytes (Some x) is made e =
    let super = super_made class.super_class old x is in
    let same : spelling (class_of class x.0 x.1) ≡ bytes = cc in
    let here : Extends x.0 x.0 = ([], sym (append-nil x.0)) in
    record {
      last = class;
      pool = x.0;
      super = x.1;
      spells = sym same;
      extends = super.keeps.extends;
      made = super.keeps.made made;
      flags = refl;
      this_class = refl;
      super_is = super_at_end class.super_class x.0 x.1 (super.is x.0 here);
      interfaces = adds_none (IsNamed x.0) class.interfaces;
      fields = adds_none (IsField x.0) class.fields;
      methods = adds_none (IsMethod x.0) class.methods;
    }

-- after the last line
pub ends_last : (behind : ℕ) (class : MadeClass) (old : List Constant) (bytes : List ℕ) → IsMade old → spelled behind (finished (outside class) old) ≡ Ok bytes → Ends class [] old bytes
ends_last behind class old bytes made e = ends_by behind class old bytes (superclass class.super_class old) refl made e

-- with the superclass that is made before a part
pub ends_first : (class : MadeClass) (lines : List Numbered) (old : List Constant) (x : List Constant × ℕ) (bytes : List ℕ) → SuperMade class.super_class old x
    → Ends (record class { super_class = Some x.1 }) lines x.0 bytes → Ends class lines old bytes
ends_first class lines old x bytes super ih = record {
  last = ih.last;
  pool = ih.pool;
  super = ih.super;
  spells = ih.spells;
  extends = extends_further old x.0 ih.pool super.keeps.extends ih.extends;
  made = ih.made;
  flags = ih.flags;
  this_class = ih.this_class;
  super_is = super_first class.super_class x.1 ih.pool lines ih.super (super.is ih.pool ih.extends) ih.super_is;
  interfaces = ih.interfaces;
  fields = ih.fields;
  methods = ih.methods;
}

abbrev pub numbered : ℕ → Option Line → Numbered
numbered number line = record { number = number; line = line }

-- a line that names the superclass
named_here : (known : Option ℕ) (name : List ℕ) (index : ℕ) (pool : List Constant) (n : Numbered) (lines : List Numbered) (super : ℕ) → known ≡ None → n.line ≡ Some (kinds.Super name)
    → IsClassAt pool index name → IsSuper pool (Some index) lines super → IsSuper pool known (n ∷ lines) super
named_here None name index pool n lines super e line at is =
    let P : ℕ → Type 0 = λ i. IsClassAt pool i name in
    let Q : Option Line → Type 0 = λ o. IsClassAt pool super (name_or_object (or_else (said_super o) (super_named lines))) in
    subst Q (sym line) (subst P (sym is.0) at)
named_here (Some known) name index pool n lines super e line at is = absurd cc

module _ (number : ℕ) (lines : List Numbered) (class : MadeClass) (old : List Constant) (bytes : List ℕ) where
  pub super_ends : (name : List ℕ) (x : List Constant × ℕ) → class.super_class ≡ None → Used (class_named name) old x → Ends (record class { super_class = Some x.1 }) lines x.0 bytes
      → Ends class (numbered number (Some (kinds.Super name)) ∷ lines) old bytes
  super_ends name x none named ih = record {
    last = ih.last;
    pool = ih.pool;
    super = ih.super;
    spells = ih.spells;
    extends = extends_further old x.0 ih.pool named.keeps.extends ih.extends;
    made = ih.made;
    flags = ih.flags;
    this_class = ih.this_class;
    super_is =
        let at = used_at (class_named name) old ih.pool x named ih.extends in
        named_here class.super_class name x.1 ih.pool (numbered number (Some (kinds.Super name))) lines ih.super none refl at ih.super_is;
    interfaces = ih.interfaces;
    fields = ih.fields;
    methods = ih.methods;
  }

  pub interface_ends : (name : List ℕ) (index : ℕ) (x : List Constant × MadeClass) (made : InterfaceMade name class old x) → class.super_class ≡ Some index
      → Ends (record class { interfaces = class.interfaces ++ made.index ∷ [] }) lines x.0 bytes → Ends class (numbered number (Some (kinds.Implements name)) ∷ lines) old bytes
  interface_ends name index x made known ih = record {
    last = ih.last;
    pool = ih.pool;
    super = ih.super;
    spells = ih.spells;
    extends = extends_further old x.0 ih.pool made.keeps.extends ih.extends;
    made = ih.made;
    flags = ih.flags;
    this_class = ih.this_class;
    super_is = super_passed class.super_class index ih.pool (numbered number (Some (kinds.Implements name))) lines ih.super known refl ih.super_is;
    interfaces = adds_one (IsNamed ih.pool) class.interfaces (interfaces_in lines) ih.last.interfaces name made.index (made.at ih.pool ih.extends) made.few ih.interfaces;
    fields = ih.fields;
    methods = ih.methods;
  }

  pub field_ends : (said : SaidField) (index : ℕ) (x : List Constant × MadeClass) (made : FieldMade said class old x) → class.super_class ≡ Some index → said.flags < 2 ^ 16
      → Ends (record class { fields = class.fields ++ made.m ∷ [] }) lines x.0 bytes → Ends class (numbered number (Some (kinds.Field said.flags said.name said.descriptor said.value)) ∷ lines) old bytes
  field_ends said index x made known short ih = record {
    last = ih.last;
    pool = ih.pool;
    super = ih.super;
    spells = ih.spells;
    extends = extends_further old x.0 ih.pool made.keeps.extends ih.extends;
    made = ih.made;
    flags = ih.flags;
    this_class = ih.this_class;
    super_is = super_passed class.super_class index ih.pool (numbered number (Some (kinds.Field said.flags said.name said.descriptor said.value))) lines ih.super known refl ih.super_is;
    interfaces = ih.interfaces;
    fields = adds_one (IsField ih.pool) class.fields (fields_in lines) ih.last.fields said made.m (made.at ih.pool ih.extends short) made.few ih.fields;
    methods = ih.methods;
  }

  pub method_ends : (flags : ℕ) (name descriptor : List ℕ) (index : ℕ) (x : List Constant × MadeClass) (made : MethodMade (said_alone flags name descriptor) class old x) → class.super_class ≡ Some index → flags < 2 ^ 16
      → Ends (record class { methods = class.methods ++ made.m ∷ [] }) lines x.0 bytes → Ends class (numbered number (Some (kinds.Method flags name descriptor None)) ∷ lines) old bytes
  method_ends flags name descriptor index x made known short ih = record {
    last = ih.last;
    pool = ih.pool;
    super = ih.super;
    spells = ih.spells;
    extends = extends_further old x.0 ih.pool made.keeps.extends ih.extends;
    made = ih.made;
    flags = ih.flags;
    this_class = ih.this_class;
    super_is = super_passed class.super_class index ih.pool (numbered number (Some (kinds.Method flags name descriptor None))) lines ih.super known refl ih.super_is;
    interfaces = ih.interfaces;
    fields = ih.fields;
    methods = adds_one (IsMethod ih.pool) class.methods (methods_in lines) ih.last.methods (said_alone flags name descriptor) made.m (made.at ih.pool ih.extends short) made.few ih.methods;
  }
