-- A class comes of its lines.
use Rattle.std.proofs.Common.{◌≡◌, ℕ, zero, suc, ◌^◌, ◌<◌, ◌≤◌, List, [], ◌∷◌, ◌++◌, length, Option, Some, None, Ok, refl, sym, ap, subst, ◌∙◌, arith}
use Rattle.std.specs.List.{AllByRecursion}
use Rattle.class_walk.specs.declared.class.Constant.{Constant}
use Rattle.class_walk.specs.declared.class.RawMember.{RawMember}
use Rattle.class_walk.specs.Layout.{code_spelling}
use Rattle.code_decode.specs.declared.code.Code.{Code}
use Rattle.code_decode.specs.Code.{IsCode}
use Rattle.assembler_lines.specs.declared.line.Line.{Line}
use Rattle.assembler_lines.specs.declared.line.Line.TheVariants as kinds
use Rattle.assembler_lines.specs.declared.line.Room.{Room}
use Rattle.assembler_text.specs.declared.lines.Numbered.{Numbered}
use Rattle.assembler_pool.specs.Indexed.{IsMade}
use Rattle.assembler_pool.specs.Uses.{Extends}
use Rattle.assembler_bodies.specs.Making.{next_of, only}
use Rattle.assembler_bodies.specs.Labels.{marks_in}
use Rattle.assembler_bodies.specs.Body.{MadeBody, begun, steps, code_of}
use Rattle.assembler_pool.proofs.UseLaws.{extends_further}
use Rattle.assembler_bodies.proofs.ShapeLaws.{parts_of}
use Rattle.class_make.specs.Assembly.{assembled_from}
use Rattle.class_make.specs.Class.{MadeClass, OpenMethod, State, outside, inside, superclass, super_line, interface_line, field_line, method_line, body_line, with_code, part_line, outside_line}
use Rattle.assembler_laws.specs.BodyMeaning.Body.{IsBodyOf, attribute_of}
use Rattle.assembler_laws.proofs.ClassMeaning.Bodies.{BodiesAreReadAgain}
use Rattle.assembler_laws.specs.ClassMeaning.Class.{IsNamed}
use Rattle.assembler_laws.specs.ClassMeaning.Parts.{SaidField, SaidMethod, before_end, super_named, methods_in}
use Rattle.assembler_laws.proofs.ClassMeaning.BodyLaws.{begun_sound, steps_sound}
use Rattle.assembler_laws.proofs.ClassMeaning.EndLaws.{Adds, adds_one, IsSuper, super_passed, Ends, ends_last, ends_first, numbered, super_ends, interface_ends, field_ends, method_ends}
use Rattle.assembler_laws.proofs.ClassMeaning.LeaveLaws.{went, known_of, Leaves, leaves}
use Rattle.assembler_laws.proofs.ClassMeaning.MemberLaws.{IsField, IsMethod}
use Rattle.assembler_laws.proofs.ClassMeaning.PartLaws.{super_made, super_named_once, interface_made, field_made, method_made, BodyMade, body_begun, Closes, closes}
use Rattle.assembler_laws.proofs.ClassMeaning.SaidLaws.{MayBeSaid, MayBeSaidAt, field_flags, method_flags, method_room}
use Rattle.assembler_bodies.proofs.StepGrows.{steps_keep}

-- ---- methods with bodies

super_same : (known : Option ℕ) (index : ℕ) (pool : List Constant) (lines rest : List Numbered) (super : ℕ) → known ≡ Some index → super_named lines ≡ super_named rest → IsSuper pool known rest super → IsSuper pool known lines super
super_same None index pool lines rest super e same is = absurd cc
super_same (Some known) index pool lines rest super e same is = (is.0, same ∙ is.1)

module _ (bodies : BodiesAreReadAgain) (number behind flags : ℕ) (name descriptor : List ℕ) (room : Room) (lines : List Numbered) (class : MadeClass) (old : List Constant) (bytes : List ℕ) where
  -- the method whose body the lines begin, by the indices of its name, its descriptor and the name of Code
  abbrev open_of : ℕ → ℕ → ℕ → OpenMethod
  open_of n d c = record { flags = flags; name = n; descriptor = d; code_name = c; marks = marks_in lines; body = begun room }

  -- the same after the end, with the body that was made
  abbrev member_of : ℕ → ℕ → ℕ → MadeBody → RawMember
  member_of n d c body = with_code (record (open_of n d c) { body = body }) (code_spelling (code_of body))

  abbrev this_line : Numbered
  this_line = numbered number (Some (kinds.Method flags name descriptor (Some room)))

  abbrev said : SaidMethod
  said = record { flags = flags; name = name; descriptor = descriptor; body = Some (record { room = room; lines = before_end lines }) }

  -- its code is read as the body's lines
  read_again : (n d c : ℕ) (pool : List Constant) (l : Leaves behind lines pool class (open_of n d c) bytes) (last : List Constant) → Extends l.after last → (entry : ℕ) (code : Code)
      → IsCode last entry (attribute_of l.body) code → IsBodyOf last room (before_end lines) code
  read_again n d c pool l last more entry code is =
      let M : List Numbered → Type 0 = λ list. steps (marks_in list) (before_end lines) (begun room) pool ≡ Some (l.after, l.body) in
      bodies room (before_end lines) l.rest l.end l.body pool l.after last entry code l.said l.ends (subst M l.split l.made) more is

  -- the method as it is made at its end
  is_method : (x : List Constant × OpenMethod) (made : BodyMade (marks_in lines) flags name descriptor room class old x) (l : Leaves behind lines x.0 class (open_of made.n made.d made.c) bytes) (last : List Constant)
      → Extends l.after last → IsMade last → flags < 2 ^ 16 → room.stack < 2 ^ 16 → room.locals < 2 ^ 16 → length (code_spelling (code_of l.body)) < 2 ^ 32 → IsMethod last said (member_of made.n made.d made.c l.body)
  is_method x made l last more whole short stack locals size =
      let kept = (steps_keep (marks_in lines) (before_end lines) (begun room) x.0 (l.after, l.body) l.made).extends in
      let from_line = extends_further x.0 l.after last kept more in
      record {
        flags = refl;
        short = short;
        name = made.named last from_line;
        descriptor = made.described last from_line;
        code = record {
          name = made.c;
          made = l.body;
          attributes_are = refl;
          named = made.coded last from_line;
          sound = steps_sound last (marks_in lines) (before_end lines) (begun room) x.0 (l.after, l.body) whole.sound.count more l.made (begun_sound last room stack locals);
          size = size;
          says = λ entry code is. read_again made.n made.d made.c x.0 l last more entry code is;
        };
      }

  -- the class of the lines after the end, with this method added
  pub body_ends : (index : ℕ) (x : List Constant × OpenMethod) (made : BodyMade (marks_in lines) flags name descriptor room class old x) (l : Leaves behind lines x.0 class (open_of made.n made.d made.c) bytes)
      → class.super_class ≡ Some index → flags < 2 ^ 16 → room.stack < 2 ^ 16 → room.locals < 2 ^ 16 → Closes (record (open_of made.n made.d made.c) { body = l.body }) class l.after l.next
      → Ends (record class { methods = class.methods ++ member_of made.n made.d made.c l.body ∷ [] }) l.rest l.next.0 bytes → Ends class (this_line ∷ lines) old bytes
  body_ends index x made l known short stack locals c ih =
      let more : Extends l.after ih.pool = subst (λ (p : List Constant). Extends p ih.pool) c.same ih.extends in
      let kept = (steps_keep (marks_in lines) (before_end lines) (begun room) x.0 (l.after, l.body) l.made).extends in
      let I : List (List ℕ) → Type 0 = λ list. Adds (IsNamed ih.pool) class.interfaces list ih.last.interfaces in
      let F : List SaidField → Type 0 = λ list. Adds (IsField ih.pool) class.fields list ih.last.fields in
      let M : List SaidMethod → Type 0 = λ list. Adds (IsMethod ih.pool) (class.methods ++ member_of made.n made.d made.c l.body ∷ []) list ih.last.methods in
      let method = is_method x made l ih.pool more ih.made short stack locals c.size in
      record {
        last = ih.last;
        pool = ih.pool;
        super = ih.super;
        spells = ih.spells;
        extends = extends_further old x.0 ih.pool made.keeps.extends (extends_further x.0 l.after ih.pool kept more);
        made = ih.made;
        flags = ih.flags;
        this_class = ih.this_class;
        super_is = super_passed class.super_class index ih.pool this_line lines ih.super known refl (super_same class.super_class index ih.pool lines l.rest ih.super known l.same.super ih.super_is);
        interfaces = subst I (sym l.same.interfaces) ih.interfaces;
        fields = subst F (sym l.same.fields) ih.fields;
        methods = adds_one (IsMethod ih.pool) class.methods (methods_in lines) ih.last.methods said (member_of made.n made.d made.c l.body) method c.few (subst M (sym l.same.methods) ih.methods);
      }

-- ---- lines outside bodies

-- the same lines, with the class and the method written out
inside_as : (behind : ℕ) (lines : List Numbered) (bytes : List ℕ) (class : MadeClass) (method new : OpenMethod) (pool : List Constant) (x : List Constant × State) → new ≡ method → (pool, inside class new) ≡ x
    → assembled_from behind lines x.0 x.1 ≡ Ok bytes → assembled_from behind lines pool (inside class method) ≡ Ok bytes
inside_as behind lines bytes class method new pool x same known goes =
    ap (λ (m : OpenMethod). assembled_from behind lines pool (inside class m)) (sym same)
    ∙ ap (λ (y : List Constant × State). assembled_from behind lines y.0 y.1) known
    ∙ goes

outside_as : (behind : ℕ) (lines : List Numbered) (bytes : List ℕ) (class new : MadeClass) (pool : List Constant) → new ≡ class → assembled_from behind lines pool (outside new) ≡ Ok bytes
    → assembled_from behind lines pool (outside class) ≡ Ok bytes
outside_as behind lines bytes class new pool same goes = ap (λ (c : MadeClass). assembled_from behind lines pool (outside c)) (sym same) ∙ goes

-- what was made, and how it goes on
record Stays (behind : ℕ) (lines : List Numbered) (bytes : List ℕ) (o : Option (List Constant × MadeClass)) : Type 0 where
  pub made : List Constant × MadeClass
  pub is : o ≡ Some made
  pub goes : assembled_from behind lines made.0 (outside made.1) ≡ Ok bytes

stays : (behind : ℕ) (lines : List Numbered) (bytes : List ℕ) (o : Option (List Constant × MadeClass)) (x : List Constant × State) → next_of o (λ class. only (Some (outside class))) ≡ Some x
    → assembled_from behind lines x.0 x.1 ≡ Ok bytes → Stays behind lines bytes o
stays behind lines bytes o x e goes =
    let p = parts_of o _ x e in
    let known : (p.made.0, outside p.made.1) ≡ x = known_of p.made.0 (outside p.made.1) x p.next_is in
    record { made = p.made; is = p.first_is; goes = ap (λ (y : List Constant × State). assembled_from behind lines y.0 y.1) known ∙ goes }

module _ (bodies : BodiesAreReadAgain) (behind number : ℕ) (lines : List Numbered) (bytes : List ℕ) (all : AllByRecursion MayBeSaidAt lines)
    (later : (rest : List Numbered) (class : MadeClass) (pool : List Constant) → length rest ≤ length lines → AllByRecursion MayBeSaidAt rest → IsMade pool → assembled_from behind rest pool (outside class) ≡ Ok bytes → Ends class rest pool bytes) where
  -- the class as it is written out
  goes_with : (class new : MadeClass) (pool : List Constant) → new ≡ class → IsMade pool → assembled_from behind lines pool (outside new) ≡ Ok bytes → Ends class lines pool bytes
  goes_with class new pool is made goes =
      later lines class pool (omega arith) all made (outside_as behind lines bytes class new pool is goes)

  -- the lines of a body, and those after it
  behind_body : (flags : ℕ) (name descriptor : List ℕ) (room : Room) → MayBeSaid (Some (kinds.Method flags name descriptor (Some room))) → (class : MadeClass) (index : ℕ) → class.super_class ≡ Some index
      → (old : List Constant) → IsMade old → (x : List Constant × OpenMethod) (b : BodyMade (marks_in lines) flags name descriptor room class old x)
      (l : Leaves behind lines x.0 class (open_of bodies number behind flags name descriptor room lines class old bytes b.n b.d b.c) bytes)
      → Closes (record (open_of bodies number behind flags name descriptor room lines class old bytes b.n b.d b.c) { body = l.body }) class l.after l.next
      → Ends class (numbered number (Some (kinds.Method flags name descriptor (Some room))) ∷ lines) old bytes
  behind_body flags name descriptor room said class index known old made x b l c =
      let rooms = method_room flags name descriptor room said in
      let kept = steps_keep (marks_in lines) (before_end lines) (begun room) x.0 (l.after, l.body) l.made in
      let made_there : IsMade l.next.0 = subst IsMade (sym c.same) (kept.made (b.keeps.made made)) in
      let next = record class { methods = class.methods ++ member_of bodies number behind flags name descriptor room lines class old bytes b.n b.d b.c l.body ∷ [] } in
      let ih = later l.rest next l.next.0 (omega (arith, l.shorter)) l.rest_said made_there (outside_as behind l.rest bytes next l.next.1 l.next.0 c.is l.goes) in
      body_ends bodies number behind flags name descriptor room lines class old bytes index x b l known (method_flags flags name descriptor (Some room) said) rooms.0 rooms.1 c ih

  with_body : (flags : ℕ) (name descriptor : List ℕ) (room : Room) → MayBeSaid (Some (kinds.Method flags name descriptor (Some room))) → (class : MadeClass) (index : ℕ) → class.super_class ≡ Some index
      → (old : List Constant) → IsMade old → (x : List Constant × OpenMethod) (b : BodyMade (marks_in lines) flags name descriptor room class old x)
      → assembled_from behind lines x.0 (inside class (open_of bodies number behind flags name descriptor room lines class old bytes b.n b.d b.c)) ≡ Ok bytes
      → Ends class (numbered number (Some (kinds.Method flags name descriptor (Some room))) ∷ lines) old bytes
  with_body flags name descriptor room said class index known old made x b goes =
      let l = leaves behind lines x.0 class (open_of bodies number behind flags name descriptor room lines class old bytes b.n b.d b.c) bytes all goes in
      behind_body flags name descriptor room said class index known old made x b l
      (closes (record (open_of bodies number behind flags name descriptor room lines class old bytes b.n b.d b.c) { body = l.body }) class l.after l.next l.closed_is)

  -- a method whose body is the lines after it
  part_with_body : (flags : ℕ) (name descriptor : List ℕ) (room : Room) → MayBeSaid (Some (kinds.Method flags name descriptor (Some room))) → (class : MadeClass) (index : ℕ) → class.super_class ≡ Some index
      → (old : List Constant) → IsMade old → (x : List Constant × State) → part_line lines (Some (kinds.Method flags name descriptor (Some room))) class old ≡ Some x → assembled_from behind lines x.0 x.1 ≡ Ok bytes
      → Ends class (numbered number (Some (kinds.Method flags name descriptor (Some room))) ∷ lines) old bytes
  part_with_body flags name descriptor room said class index known old made x e goes =
      let p = parts_of (body_line (marks_in lines) flags name descriptor room class old) _ x e in
      let b = body_begun (marks_in lines) flags name descriptor room class old p.made p.first_is in
      let is : (p.made.0, inside class p.made.1) ≡ x = known_of p.made.0 (inside class p.made.1) x p.next_is in
      with_body flags name descriptor room said class index known old made p.made b (inside_as behind lines bytes class (open_of bodies number behind flags name descriptor room lines class old bytes b.n b.d b.c) p.made.1 p.made.0 x b.is is goes)

  part_ends : (line : Option Line) → MayBeSaid line → (class : MadeClass) (index : ℕ) → class.super_class ≡ Some index → (old : List Constant) → IsMade old → (x : List Constant × State)
      → part_line lines line class old ≡ Some x → assembled_from behind lines x.0 x.1 ≡ Ok bytes → Ends class (numbered number line ∷ lines) old bytes
  part_ends (Some (kinds.Implements name)) said class index known old made x e goes =
      let s = stays behind lines bytes (interface_line name class old) x e goes in
      let m = interface_made name class old s.made s.is in
      interface_ends number lines class old bytes name index s.made m known (goes_with (record class { interfaces = class.interfaces ++ m.index ∷ [] }) s.made.1 s.made.0 m.is (m.keeps.made made) s.goes)
  part_ends (Some (kinds.Field flags name descriptor value)) said class index known old made x e goes =
      let field : SaidField = record { flags = flags; name = name; descriptor = descriptor; value = value } in
      let s = stays behind lines bytes (field_line flags name descriptor value class old) x e goes in
      let m = field_made field class old s.made s.is in
      field_ends number lines class old bytes field index s.made m known (field_flags flags name descriptor value said) (goes_with (record class { fields = class.fields ++ m.m ∷ [] }) s.made.1 s.made.0 m.is (m.keeps.made made) s.goes)
  part_ends (Some (kinds.Method flags name descriptor None)) said class index known old made x e goes =
      let s = stays behind lines bytes (method_line flags name descriptor class old) x e goes in
      let m = method_made flags name descriptor class old s.made s.is in
      method_ends number lines class old bytes flags name descriptor index s.made m known (method_flags flags name descriptor None said) (goes_with (record class { methods = class.methods ++ m.m ∷ [] }) s.made.1 s.made.0 m.is (m.keeps.made made) s.goes)
  part_ends (Some (kinds.Method flags name descriptor (Some room))) said class index known old made x e goes = part_with_body flags name descriptor room said class index known old made x e goes
  part_ends _ said class index known old made x e goes = absurd cc

  -- a part after the superclass
  then_part : (line : Option Line) → MayBeSaid line → (class : MadeClass) (old : List Constant) → IsMade old → (x : List Constant × State)
      → next_of (superclass class.super_class old) (λ index. part_line lines line (record class { super_class = Some index })) ≡ Some x → assembled_from behind lines x.0 x.1 ≡ Ok bytes
      → Ends class (numbered number line ∷ lines) old bytes
  then_part line said class old made x e goes =
      let p = parts_of (superclass class.super_class old) (λ index. part_line lines line (record class { super_class = Some index })) x e in
      let super = super_made class.super_class old p.made p.first_is in
      ends_first class (numbered number line ∷ lines) old p.made bytes super
      (part_ends line said (record class { super_class = Some p.made.1 }) p.made.1 refl p.made.0 (super.keeps.made made) x p.next_is goes)

  pub outside_ends : (line : Option Line) → MayBeSaid line → (class : MadeClass) (old : List Constant) → IsMade old → (x : List Constant × State) → outside_line lines line class old ≡ Some x
      → assembled_from behind lines x.0 x.1 ≡ Ok bytes → Ends class (numbered number line ∷ lines) old bytes
  outside_ends (Some (kinds.Super name)) said class old made x e goes =
      let p = parts_of (super_line name class.super_class old) (λ index. only (Some (outside (record class { super_class = Some index })))) x e in
      let once = super_named_once name class.super_class old p.made p.first_is in
      let next = record class { super_class = Some p.made.1 } in
      let is : (p.made.0, outside next) ≡ x = known_of p.made.0 (outside next) x p.next_is in
      let going : assembled_from behind lines p.made.0 (outside next) ≡ Ok bytes = ap (λ (y : List Constant × State). assembled_from behind lines y.0 y.1) is ∙ goes in
      super_ends number lines class old bytes name p.made once.0 once.1 (later lines next p.made.0 (omega arith) all (once.1.keeps.made made) going)
  outside_ends line said class old made x e goes = then_part line said class old made x e goes

-- ---- all lines

ends_within : BodiesAreReadAgain → (k behind : ℕ) (lines : List Numbered) (class : MadeClass) (pool : List Constant) (bytes : List ℕ) → length lines < k → AllByRecursion MayBeSaidAt lines → IsMade pool
    → assembled_from behind lines pool (outside class) ≡ Ok bytes → Ends class lines pool bytes
ends_within bodies zero behind lines class pool bytes less said made e = absurd (omega arith)
ends_within bodies (suc k) behind [] class pool bytes less said made e = ends_last behind class pool bytes made e
ends_within bodies (suc k) behind (n ∷ lines) class pool bytes less said made e =
    let w = went n.number (outside_line lines n.line class pool) (λ p s. assembled_from behind lines p s) bytes e in
    outside_ends bodies behind n.number lines bytes said.1 (λ rest c p le s m goes. ends_within bodies k behind rest c p bytes (omega arith) s m goes) n.line said.0 class pool made w.x w.first_is w.next_is

-- after the class line
pub class_ends : BodiesAreReadAgain → (behind : ℕ) (lines : List Numbered) (class : MadeClass) (pool : List Constant) (bytes : List ℕ) → AllByRecursion MayBeSaidAt lines → IsMade pool
    → assembled_from behind lines pool (outside class) ≡ Ok bytes → Ends class lines pool bytes
class_ends bodies behind lines class pool bytes said made e = ends_within bodies (suc (length lines)) behind lines class pool bytes (omega arith) said made e
