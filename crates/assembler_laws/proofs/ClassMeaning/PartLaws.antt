-- The parts of a class as they are made, line by line.
use Rattle.std.proofs.Common.{◌≡◌, ℕ, ◌^◌, ◌<◌, List, [], ◌∷◌, ◌++◌, length, Option, Some, None, refl, sym, ap, subst, ◌∙◌}
use Rattle.std.specs.Prelude.{codes}
use Rattle.std.proofs.lemmas.Bool.{and_parts}
use Rattle.std.proofs.lemmas.Bool.Decides.{Decides-ltb}
use Rattle.class_walk.specs.declared.class.Constant.{Constant}
use Rattle.class_walk.specs.declared.class.RawAttribute.{RawAttribute}
use Rattle.class_walk.specs.declared.class.RawMember.{RawMember}
use Rattle.class_walk.specs.Layout.{u2, code_spelling}
use Rattle.class_pool.specs.Pool.{IsUtf8At, IsClassAt}
use Rattle.assembler_lines.specs.declared.line.FieldValue.{FieldValue}
use Rattle.assembler_lines.specs.declared.line.Room.{Room}
use Rattle.assembler_pool.specs.Items.{text, class_named}
use Rattle.assembler_pool.specs.Uses.{Extends}
use Rattle.assembler_bodies.specs.Making.{with_pool, used}
use Rattle.assembler_bodies.specs.Labels.{Marks}
use Rattle.assembler_bodies.specs.Body.{begun, code_of, content}
use Rattle.assembler_pool.proofs.UseLaws.{extends_further}
use Rattle.assembler_bodies.proofs.ContentLaws.{content_is}
use Rattle.assembler_bodies.proofs.ShapeLaws.{parts_of, found_of}
use Rattle.assembler_bodies.proofs.StepLaws.{chosen}
use Rattle.class_make.specs.Class.{MadeClass, OpenMethod, has_place, put_interface, put_field, put_method, member, attribute, value_item, constant_value, class_line, super_line, superclass, interface_line, field_line, method_line, opened, body_line, with_code, closed}
use Rattle.assembler_laws.specs.ClassMeaning.Parts.{SaidField, SaidMethod}
use Rattle.assembler_bodies.proofs.GrowLaws.{Keeps, keeps_further, keeps_known, pool_of, Used, used_is, used_at}
use Rattle.assembler_laws.proofs.ClassMeaning.MemberLaws.{IsValued, IsField, IsMethod}

-- what comes of a pool comes of the pool that it was left as
later : {A : Type 0} (pool last : List Constant) (o : Option A) (x : List Constant × A) → with_pool pool o ≡ Some x → Extends x.0 last → Extends pool last
later pool last o x e more = subst (λ (p : List Constant). Extends p last) (pool_of pool o x e) more

-- ---- the superclass

-- the superclass at its index, where one was named or not
abbrev pub IsSuperIndex : Option ℕ → List Constant → ℕ → Type 0
IsSuperIndex None pool index = IsClassAt pool index (codes "java/lang/Object")
IsSuperIndex (Some known) pool index = index ≡ known

pub record SuperMade (known : Option ℕ) (pool : List Constant) (x : List Constant × ℕ) : Type 0 where
  pub keeps : Keeps pool x.0
  pub is : (last : List Constant) → Extends x.0 last → IsSuperIndex known last x.1

pub super_made : (known : Option ℕ) (pool : List Constant) (x : List Constant × ℕ) → superclass known pool ≡ Some x → SuperMade known pool x
unfolding superclass
super_made None pool x e =
    let u = used_is (class_named (codes "java/lang/Object")) pool x e in
    record { keeps = u.keeps; is = λ last more. used_at (class_named (codes "java/lang/Object")) pool last x u more }
super_made (Some known) pool x e =
    let found : Some known ≡ Some x.1 = found_of pool (Some known) x e in
    let same : x.1 ≡ known = cc in
    record { keeps = keeps_known pool (Some known) x e; is = λ last more. same }

-- a superclass is named at most once
pub super_named_once : (name : List ℕ) (known : Option ℕ) (pool : List Constant) (x : List Constant × ℕ) → super_line name known pool ≡ Some x → (known ≡ None) × Used (class_named name) pool x
unfolding super_line
super_named_once name None pool x e = (refl, used_is (class_named name) pool x e)
super_named_once name (Some known) pool x e = absurd cc

pub class_begun : (flags : ℕ) (name : List ℕ) (pool : List Constant) (x : List Constant × MadeClass) → class_line flags name pool ≡ Some x
    → (index : ℕ) × Used (class_named name) pool (x.0, index) × (x.1 ≡ record { flags = flags; this_class = index; super_class = None; interfaces = []; fields = []; methods = [] })
unfolding class_line
class_begun flags name pool x e =
    let p = parts_of (used (class_named name) pool) _ x e in
    let class : MadeClass = record { flags = flags; this_class = p.made.1; super_class = None; interfaces = []; fields = []; methods = [] } in
    let found : Some class ≡ Some x.1 = found_of p.made.0 (Some class) x p.next_is in
    let U : List Constant → Type 0 = λ q. Used (class_named name) pool (q, p.made.1) in
    (p.made.1, subst U (sym (pool_of p.made.0 (Some class) x p.next_is)) (used_is (class_named name) pool p.made p.first_is), cc)

-- ---- interfaces

pub record InterfaceMade (name : List ℕ) (class : MadeClass) (pool : List Constant) (x : List Constant × MadeClass) : Type 0 where
  pub index : ℕ
  pub keeps : Keeps pool x.0
  pub at : (last : List Constant) → Extends x.0 last → IsClassAt last index name
  pub few : length class.interfaces < 65535
  pub is : x.1 ≡ record class { interfaces = class.interfaces ++ index ∷ [] }

interface_put : (index : ℕ) (class new : MadeClass) → put_interface index class ≡ Some new → (length class.interfaces < 65535) × (new ≡ record class { interfaces = class.interfaces ++ index ∷ [] })
unfolding put_interface
interface_put index class new e =
    let got = chosen _ _ new e in
    ((Decides-ltb (length class.interfaces) 65535).0 (and_parts (has_place class.interfaces) _ got.0).0, got.1)

pub interface_made : (name : List ℕ) (class : MadeClass) (pool : List Constant) (x : List Constant × MadeClass) → interface_line name class pool ≡ Some x → InterfaceMade name class pool x
unfolding interface_line
interface_made name class pool x e =
    let p = parts_of (used (class_named name) pool) _ x e in
    let u = used_is (class_named name) pool p.made p.first_is in
    let put = put_interface p.made.1 class in
    let done = interface_put p.made.1 class x.1 (found_of p.made.0 put x p.next_is) in
    record {
      index = p.made.1;
      keeps = keeps_further pool p.made.0 x.0 u.keeps (keeps_known p.made.0 put x p.next_is);
      at = λ last more. used_at (class_named name) pool last p.made u (later p.made.0 last put x p.next_is more);
      few = done.0;
      is = done.1;
    }

-- ---- fields

record ValueMade (value : Option FieldValue) (pool : List Constant) (x : List Constant × List RawAttribute) : Type 0 where
  pub keeps : Keeps pool x.0
  pub is : (last : List Constant) → Extends x.0 last → IsValued last value x.1

value_made : (value : Option FieldValue) (pool : List Constant) (x : List Constant × List RawAttribute) → constant_value value pool ≡ Some x → ValueMade value pool x
unfolding constant_value
value_made None pool x e =
    let none : List RawAttribute = [] in
    let found : Some none ≡ Some x.1 = found_of pool (Some none) x e in
    let same : x.1 ≡ none = cc in
    record { keeps = keeps_known pool (Some none) x e; is = λ last more. same }
value_made (Some value) pool x e =
    let p = parts_of (used (text (codes "ConstantValue")) pool) _ x e in
    let q = parts_of (used (value_item value) p.made.0) _ x p.next_is in
    let named = used_is (text (codes "ConstantValue")) pool p.made p.first_is in
    let valued = used_is (value_item value) p.made.0 q.made q.first_is in
    let one : List RawAttribute = attribute p.made.1 (u2 q.made.1) ∷ [] in
    let found : Some one ≡ Some x.1 = found_of q.made.0 (Some one) x q.next_is in
    let same : x.1 ≡ one = cc in
    record {
      keeps = keeps_further pool p.made.0 x.0 named.keeps (keeps_further p.made.0 q.made.0 x.0 valued.keeps (keeps_known q.made.0 (Some one) x q.next_is));
      is = λ last more.
          let then_value = later q.made.0 last (Some one) x q.next_is more in
          let then_name = extends_further p.made.0 q.made.0 last valued.keeps.extends then_value in
          (p.made.1, q.made.1, same, used_at (text (codes "ConstantValue")) pool last p.made named then_name, used_at (value_item value) p.made.0 last q.made valued then_value);
    }

field_put : (m : RawMember) (class new : MadeClass) → put_field m class ≡ Some new → (length class.fields < 65535) × (new ≡ record class { fields = class.fields ++ m ∷ [] })
unfolding put_field
field_put m class new e =
    let got = chosen _ _ new e in
    ((Decides-ltb (length class.fields) 65535).0 (and_parts (has_place class.fields) _ got.0).0, got.1)

pub record FieldMade (said : SaidField) (class : MadeClass) (pool : List Constant) (x : List Constant × MadeClass) : Type 0 where
  pub m : RawMember
  pub keeps : Keeps pool x.0
  pub at : (last : List Constant) → Extends x.0 last → said.flags < 2 ^ 16 → IsField last said m
  pub few : length class.fields < 65535
  pub is : x.1 ≡ record class { fields = class.fields ++ m ∷ [] }

pub field_made : (said : SaidField) (class : MadeClass) (pool : List Constant) (x : List Constant × MadeClass) → field_line said.flags said.name said.descriptor said.value class pool ≡ Some x → FieldMade said class pool x
unfolding field_line
field_made said class pool x e =
    let p = parts_of (used (text said.name) pool) _ x e in
    let q = parts_of (used (text said.descriptor) p.made.0) _ x p.next_is in
    let r = parts_of (constant_value said.value q.made.0) _ x q.next_is in
    let named = used_is (text said.name) pool p.made p.first_is in
    let described = used_is (text said.descriptor) p.made.0 q.made q.first_is in
    let valued = value_made said.value q.made.0 r.made r.first_is in
    let m : RawMember = member said.flags p.made.1 q.made.1 r.made.1 in
    let put = put_field m class in
    let done = field_put m class x.1 (found_of r.made.0 put x r.next_is) in
    record {
      m = m;
      keeps = keeps_further pool p.made.0 x.0 named.keeps (keeps_further p.made.0 q.made.0 x.0 described.keeps (keeps_further q.made.0 r.made.0 x.0 valued.keeps (keeps_known r.made.0 put x r.next_is)));
      at = λ last more short.
          let then_value = later r.made.0 last put x r.next_is more in
          let then_descriptor = extends_further q.made.0 r.made.0 last valued.keeps.extends then_value in
          let then_name = extends_further p.made.0 q.made.0 last described.keeps.extends then_descriptor in
          record {
            flags = refl;
            short = short;
            name = used_at (text said.name) pool last p.made named then_name;
            descriptor = used_at (text said.descriptor) p.made.0 last q.made described then_descriptor;
            value = valued.is last then_value;
          };
      few = done.0;
      is = done.1;
    }

-- ---- methods

pub method_put : (m : RawMember) (class new : MadeClass) → put_method m class ≡ Some new → (length class.methods < 65535) × (new ≡ record class { methods = class.methods ++ m ∷ [] })
unfolding put_method
method_put m class new e =
    let got = chosen _ _ new e in
    ((Decides-ltb (length class.methods) 65535).0 got.0, got.1)

abbrev pub said_alone : ℕ → List ℕ → List ℕ → SaidMethod
said_alone flags name descriptor = record { flags = flags; name = name; descriptor = descriptor; body = None }

-- a method without code
pub record MethodMade (said : SaidMethod) (class : MadeClass) (pool : List Constant) (x : List Constant × MadeClass) : Type 0 where
  pub m : RawMember
  pub keeps : Keeps pool x.0
  pub at : (last : List Constant) → Extends x.0 last → said.flags < 2 ^ 16 → IsMethod last said m
  pub few : length class.methods < 65535
  pub is : x.1 ≡ record class { methods = class.methods ++ m ∷ [] }

pub method_made : (flags : ℕ) (name descriptor : List ℕ) (class : MadeClass) (pool : List Constant) (x : List Constant × MadeClass) → method_line flags name descriptor class pool ≡ Some x → MethodMade (said_alone flags name descriptor) class pool x
unfolding method_line
method_made flags name descriptor class pool x e =
    let p = parts_of (used (text name) pool) _ x e in
    let q = parts_of (used (text descriptor) p.made.0) _ x p.next_is in
    let named = used_is (text name) pool p.made p.first_is in
    let described = used_is (text descriptor) p.made.0 q.made q.first_is in
    let m : RawMember = member flags p.made.1 q.made.1 [] in
    let put = put_method m class in
    let done = method_put m class x.1 (found_of q.made.0 put x q.next_is) in
    record {
      m = m;
      keeps = keeps_further pool p.made.0 x.0 named.keeps (keeps_further p.made.0 q.made.0 x.0 described.keeps (keeps_known q.made.0 put x q.next_is));
      at = λ last more short.
          let then_descriptor = later q.made.0 last put x q.next_is more in
          let then_name = extends_further p.made.0 q.made.0 last described.keeps.extends then_descriptor in
          record {
            flags = refl;
            short = short;
            name = used_at (text name) pool last p.made named then_name;
            descriptor = used_at (text descriptor) p.made.0 last q.made described then_descriptor;
            code = refl;
          };
      few = done.0;
      is = done.1;
    }

-- a method whose body begins
pub record BodyMade (marks : Marks) (flags : ℕ) (name descriptor : List ℕ) (room : Room) (class : MadeClass) (pool : List Constant) (x : List Constant × OpenMethod) : Type 0 where
  pub n : ℕ
  pub d : ℕ
  pub c : ℕ
  pub keeps : Keeps pool x.0
  pub named : (last : List Constant) → Extends x.0 last → IsUtf8At last n name
  pub described : (last : List Constant) → Extends x.0 last → IsUtf8At last d descriptor
  pub coded : (last : List Constant) → Extends x.0 last → IsUtf8At last c (codes "Code")
  pub is : x.1 ≡ record { flags = flags; name = n; descriptor = d; code_name = c; marks = marks; body = begun room }

pub body_begun : (marks : Marks) (flags : ℕ) (name descriptor : List ℕ) (room : Room) (class : MadeClass) (pool : List Constant) (x : List Constant × OpenMethod)
    → body_line marks flags name descriptor room class pool ≡ Some x → BodyMade marks flags name descriptor room class pool x
unfolding body_line
body_begun marks flags name descriptor room class pool x e =
    let p = parts_of (used (text name) pool) _ x e in
    let q = parts_of (used (text descriptor) p.made.0) _ x p.next_is in
    let r = parts_of (used (text (codes "Code")) q.made.0) _ x q.next_is in
    let named = used_is (text name) pool p.made p.first_is in
    let described = used_is (text descriptor) p.made.0 q.made q.first_is in
    let coded = used_is (text (codes "Code")) q.made.0 r.made r.first_is in
    let begins : OpenMethod = record { flags = flags; name = p.made.1; descriptor = q.made.1; code_name = r.made.1; marks = marks; body = begun room } in
    let put : Option OpenMethod = opened class begins in
    let done = (chosen (has_place class.methods) begins x.1 (found_of r.made.0 put x r.next_is)).1 in
    let at_code : (last : List Constant) → Extends x.0 last → Extends r.made.0 last = λ last more. later r.made.0 last put x r.next_is more in
    let at_descriptor : (last : List Constant) → Extends x.0 last → Extends q.made.0 last = λ last more. extends_further q.made.0 r.made.0 last coded.keeps.extends (at_code last more) in
    let at_name : (last : List Constant) → Extends x.0 last → Extends p.made.0 last = λ last more. extends_further p.made.0 q.made.0 last described.keeps.extends (at_descriptor last more) in
    record {
      n = p.made.1;
      d = q.made.1;
      c = r.made.1;
      keeps = keeps_further pool p.made.0 x.0 named.keeps (keeps_further p.made.0 q.made.0 x.0 described.keeps (keeps_further q.made.0 r.made.0 x.0 coded.keeps (keeps_known r.made.0 put x r.next_is)));
      named = λ last more. used_at (text name) pool last p.made named (at_name last more);
      described = λ last more. used_at (text descriptor) p.made.0 last q.made described (at_descriptor last more);
      coded = λ last more. used_at (text (codes "Code")) q.made.0 last r.made coded (at_code last more);
      is = done;
    }

-- a method whose body ends
pub record Closes (method : OpenMethod) (class : MadeClass) (pool : List Constant) (x : List Constant × MadeClass) : Type 0 where
  pub same : x.0 ≡ pool
  pub size : length (code_spelling (code_of method.body)) < 2 ^ 32
  pub few : length class.methods < 65535
  pub is : x.1 ≡ record class { methods = class.methods ++ with_code method (code_spelling (code_of method.body)) ∷ [] }

pub closes : (method : OpenMethod) (class : MadeClass) (pool : List Constant) (x : List Constant × MadeClass) → closed method class pool ≡ Some x → Closes method class pool x
unfolding closed
closes method class pool x e =
    let p = parts_of (with_pool pool (content method.body)) _ x e in
    let bytes = content_is method.body p.made.1 (found_of pool (content method.body) p.made p.first_is) in
    let put = put_method (with_code method p.made.1) class in
    let done = method_put (with_code method p.made.1) class x.1 (found_of p.made.0 put x p.next_is) in
    record {
      same = pool_of p.made.0 put x p.next_is ∙ pool_of pool (content method.body) p.made p.first_is;
      size = bytes.0;
      few = done.0;
      is = done.1 ∙ ap (λ (code : List ℕ). record class { methods = class.methods ++ with_code method code ∷ [] }) bytes.1;
    }
