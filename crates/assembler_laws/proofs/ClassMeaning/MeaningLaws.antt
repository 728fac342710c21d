-- The class file that is read is what the lines of the text say.
use Rattle.std.proofs.Common.{◌≡◌, ℕ, ◌+◌, ◌^◌, ◌<◌, List, [], ◌∷◌, length, map, Option, Some, None, Ok, refl, sym, ap, subst, ◌∙◌, arith}
use Rattle.std.specs.List.{AllZip, AllByRecursion}
use Rattle.class_walk.specs.declared.class.Constant.{Constant}
use Rattle.class_walk.specs.declared.class.Constant.TheVariants.{Gap}
use Rattle.class_walk.specs.declared.class.RawClass.{RawClass}
use Rattle.class_walk.specs.declared.class.RawMember.{RawMember}
use Rattle.class_walk.specs.Layout.{member, IsClassFile, IsCounted}
use Rattle.class_walk.proofs.ClassLaws.{walk_again}
use Rattle.class_read.specs.declared.class_file.ClassFile.{ClassFile}
use Rattle.class_read.specs.declared.class_file.Member.{Member}
use Rattle.class_read.specs.ClassFile as reader
use Rattle.class_read.specs.ClassFile.{IsFile}
use Rattle.class_read.specs.MemberRules.{field_of, method_of}
use Rattle.assembler_lines.specs.declared.line.Line.{Line}
use Rattle.assembler_lines.specs.declared.line.Line.TheVariants as kinds
use Rattle.assembler_text.specs.declared.lines.Numbered.{Numbered}
use Rattle.assembler_text.specs.declared.lines.TextLines.{TextLines}
use Rattle.assembler_text.specs.TextLines as text_lines
use Rattle.assembler_text.specs.TextLines.{AreLinesOf}
use Rattle.assembler_text.proofs.OneLaws.{one_text}
use Rattle.assembler_pool.specs.Items.{class_named}
use Rattle.assembler_pool.proofs.EntryLaws.{first_made}
use Rattle.class_write.specs.Placed.{placed_member, placed_members, placed, IsMemberButPlaces, IsClassButPlaces}
use Rattle.class_write.proofs.TableLaws.{written_class}
use Rattle.assembler_bodies.specs.Making.{only}
use Rattle.assembler_bodies.proofs.ShapeLaws.{parts_of}
use Rattle.class_make.specs.Assembly.{class_of, assembled_from, assembled}
use Rattle.class_make.specs.Class.{MadeClass, State, before_class, outside, class_line, step_of}
use Rattle.class_make.specs.Texts.{IsAssembled, front}
use Rattle.assembler_laws.proofs.ClassMeaning.Bodies.{BodiesAreReadAgain}
use Rattle.assembler_laws.specs.ClassMeaning.Class.{IsNamed, SaysField, SaysMethod, IsClassOf}
use Rattle.assembler_laws.specs.ClassMeaning.Parts.{super_in, interfaces_in, fields_in, methods_in}
use Rattle.assembler_laws.proofs.ClassMeaning.EndLaws.{Adds, IsSuper, Ends, numbered}
use Rattle.assembler_bodies.proofs.GrowLaws.{used_at, short_index}
use Rattle.assembler_laws.proofs.ClassMeaning.LeaveLaws.{went, known_of}
use Rattle.assembler_laws.proofs.ClassMeaning.LineLaws.{class_ends}
use Rattle.assembler_laws.proofs.ClassMeaning.MemberLaws.{IsField, IsMethod, field_fits, field_says, method_fits, method_says}
use Rattle.assembler_laws.proofs.ClassMeaning.PartLaws.{class_begun}
use Rattle.assembler_laws.proofs.ClassMeaning.SaidLaws.{MayBeSaid, MayBeSaidAt, all_said, class_flags}

-- ---- the class line

abbrev start_of : ℕ → ℕ → MadeClass
start_of flags index = record { flags = flags; this_class = index; super_class = None; interfaces = []; fields = []; methods = [] }

-- the class of the first line, and what the others make of it
record Begins (lines : List Numbered) (bytes : List ℕ) : Type 0 where
  pub number : ℕ
  pub name : List ℕ
  pub flags : ℕ
  pub rest : List Numbered
  pub lines_are : lines ≡ numbered number (Some (kinds.Class name flags)) ∷ rest
  pub short : flags < 2 ^ 16
  pub index : ℕ
  pub old : List Constant
  pub ends : Ends (start_of flags index) rest old bytes
  pub named : IsNamed ends.pool name index

begins_by : BodiesAreReadAgain → (behind number : ℕ) (line : Option Line) (rest : List Numbered) (bytes : List ℕ) → MayBeSaid line → AllByRecursion MayBeSaidAt rest → (x : List Constant × State)
    → step_of rest (numbered number line) before_class line (Gap ∷ []) ≡ Some x → assembled_from behind rest x.0 x.1 ≡ Ok bytes → Begins (numbered number line ∷ rest) bytes
begins_by bodies behind number (Some (kinds.Class name flags)) rest bytes said all x e goes =
    let p = parts_of (class_line flags name (Gap ∷ [])) (λ class. only (Some (outside class))) x e in
    let is : (p.made.0, outside p.made.1) ≡ x = known_of p.made.0 (outside p.made.1) x p.next_is in
    let b = class_begun flags name (Gap ∷ []) p.made p.first_is in
    let going : assembled_from behind rest p.made.0 (outside (start_of flags b.0)) ≡ Ok bytes =
    ap (λ (c : MadeClass). assembled_from behind rest p.made.0 (outside c)) (sym b.2)
    ∙ ap (λ (y : List Constant × State). assembled_from behind rest y.0 y.1) is
    ∙ goes in
    let ends = class_ends bodies behind rest (start_of flags b.0) p.made.0 bytes all (b.1.keeps.made first_made) going in
    record {
      number = number;
      name = name;
      flags = flags;
      rest = rest;
      lines_are = refl;
      short = class_flags name flags said;
      index = b.0;
      old = p.made.0;
      ends = ends;
      named = used_at (class_named name) (Gap ∷ []) ends.pool (p.made.0, b.0) b.1 ends.extends;
    }
begins_by bodies behind number _ rest bytes said all x e goes = absurd cc

begins_of : BodiesAreReadAgain → (behind : ℕ) (lines : List Numbered) (bytes : List ℕ) → AllByRecursion MayBeSaidAt lines → assembled behind lines ≡ Ok bytes → Begins lines bytes
begins_of bodies behind [] bytes said e = absurd cc
begins_of bodies behind (n ∷ rest) bytes said e =
    let w = went n.number (step_of rest n before_class n.line (Gap ∷ [])) (λ p s. assembled_from behind rest p s) bytes e in
    begins_by bodies behind n.number n.line rest bytes said.0 said.1 w.x w.first_is w.next_is

-- ---- the class that is written

all_fit : {A B : Type 0} (Is : A → B → Type 0) (Fits : B → Type 0) → ((a : A) (b : B) → Is a b → Fits b) → (said : List A) (made : List B) → AllZip Is said made → AllByRecursion Fits made
all_fit Is Fits each [] [] are = tt
all_fit Is Fits each [] (b ∷ made) are = absurd are
all_fit Is Fits each (a ∷ said) [] are = absurd are
all_fit Is Fits each (a ∷ said) (b ∷ made) are = (each a b are.0, all_fit Is Fits each said made are.1)

counted_of : {A B : Type 0} (Is : A → B → Type 0) (Fits : B → Type 0) → ((a : A) (b : B) → Is a b → Fits b) → (said : List A) (made : List B) → Adds Is [] said made → IsCounted Fits made
counted_of {B = B} Is Fits each said made adds =
    let none : length {A = B} [] < 2 ^ 16 = omega arith in
    let All : List B → Type 0 = λ list. AllByRecursion Fits list in
    (adds.counted none, subst All (sym adds.new_is) (all_fit Is Fits each said adds.more adds.are))

super_short : (pool : List Constant) (lines : List Numbered) (super : ℕ) → length pool < 2 ^ 16 → IsSuper pool None lines super → super < 2 ^ 16
super_short pool lines super few is = short_index (class_named (super_in lines)) pool super few is

written : (lines : List Numbered) (bytes : List ℕ) (b : Begins lines bytes) → IsClassButPlaces (class_of b.ends.last b.ends.pool b.ends.super)
written lines bytes b =
    let pool = b.ends.pool in
    let few : length pool < 2 ^ 16 = b.ends.made.sound.count in
    let Short : ℕ → Type 0 = λ index. index < 2 ^ 16 in
    record {
      minor = omega arith;
      oldest = omega arith;
      newest = omega arith;
      pool = b.ends.made.sound;
      flags = omega (arith, b.ends.flags, b.short);
      this_class = omega (arith, b.ends.this_class, short_index (class_named b.name) pool b.index few b.named);
      super_class = super_short pool b.rest b.ends.super few b.ends.super_is;
      interfaces = counted_of (IsNamed pool) Short (λ name index is. short_index (class_named name) pool index few is) (interfaces_in b.rest) b.ends.last.interfaces b.ends.interfaces;
      fields = counted_of (IsField pool) IsMemberButPlaces (λ said m is. field_fits pool said m few is) (fields_in b.rest) b.ends.last.fields b.ends.fields;
      methods = counted_of (IsMethod pool) IsMemberButPlaces (λ said m is. method_fits pool said m few is) (methods_in b.rest) b.ends.last.methods b.ends.methods;
      attributes = (omega arith, tt);
    }

-- ---- the class that is read

-- there is one class of a file
one_class : (bytes : List ℕ) (c other : RawClass) → IsClassFile bytes c → IsClassFile bytes other → c ≡ other
one_class bytes c other h k =
    let ok : Ok c ≡ Ok other = sym (walk_again bytes c h) ∙ walk_again bytes other k in
    cc

read_is : (lines : List Numbered) (bytes : List ℕ) (b : Begins lines bytes) (c : RawClass) → IsClassFile bytes c → c ≡ placed (class_of b.ends.last b.ends.pool b.ends.super)
read_is lines bytes b c is =
    let made = class_of b.ends.last b.ends.pool b.ends.super in
    let size = rw b.ends.spells at is.size in
    let File : List ℕ → Type 0 = λ list. IsClassFile list (placed made) in
    one_class bytes c (placed made) is (subst File (sym b.ends.spells) (written_class made (written lines bytes b) size))

members_say : {A : Type 0} (Is : A → RawMember → Type 0) (Says : A → Member → Type 0) (view : RawMember → Member) → ((a : A) (m : RawMember) (at : ℕ) → Is a m → Says a (view (placed_member at m)))
    → (said : List A) (made : List RawMember) (at : ℕ) → AllZip Is said made → AllZip Says said (map view (placed_members at made))
members_say Is Says view each [] [] at are = tt
members_say Is Says view each [] (m ∷ made) at are = absurd are
members_say Is Says view each (a ∷ said) [] at are = absurd are
members_say Is Says view each (a ∷ said) (m ∷ made) at are = (each a m at are.0, members_say Is Says view each said made (at + length (member m)) are.1)

-- what is added to nothing
alone : {A B : Type 0} (Is : A → B → Type 0) (said : List A) (made : List B) → Adds Is [] said made → AllZip Is said made
alone {B = B} Is said made adds =
    let Z : List B → Type 0 = λ list. AllZip Is said list in
    subst Z (sym adds.new_is) adds.are

says : (bytes : List ℕ) (number : ℕ) (name : List ℕ) (flags : ℕ) (rest : List Numbered) (index : ℕ) (old : List Constant) (ends : Ends (start_of flags index) rest old bytes) → IsNamed ends.pool name index
    → IsClassOf (numbered number (Some (kinds.Class name flags)) ∷ rest) (reader.class_of (placed (class_of ends.last ends.pool ends.super)))
says bytes number name flags rest index old ends named =
    let few : length ends.pool < 2 ^ 16 = ends.made.sound.count in
    let N : ℕ → Type 0 = λ i. IsNamed ends.pool name i in
    record {
      class = record { flags = flags; name = name };
      begins = refl;
      version = refl;
      flags = ends.flags;
      this_class = subst N (sym ends.this_class) named;
      super_class = ends.super_is;
      interfaces = alone (IsNamed ends.pool) (interfaces_in rest) ends.last.interfaces ends.interfaces;
      fields = members_say (IsField ends.pool) (SaysField ends.pool) (field_of ends.pool) (λ said m at is. field_says ends.pool said m at few is) (fields_in rest) ends.last.fields _ (alone (IsField ends.pool) (fields_in rest) ends.last.fields ends.fields);
      methods = members_say (IsMethod ends.pool) (SaysMethod ends.pool) (method_of ends.pool) (λ said m at is. method_says ends.pool said m at few is) (methods_in rest) ends.last.methods _ (alone (IsMethod ends.pool) (methods_in rest) ends.last.methods ends.methods);
    }

lines_say : BodiesAreReadAgain → (behind : ℕ) (lines : List Numbered) (bytes : List ℕ) (file : ClassFile) → AllByRecursion MayBeSaidAt lines → assembled behind lines ≡ Ok bytes → IsFile bytes file → IsClassOf lines file
lines_say bodies behind lines bytes file said e is =
    let b = begins_of bodies behind lines bytes said e in
    let read = is.3 ∙ ap (λ (c : RawClass). reader.class_of c) (read_is lines bytes b is.0 is.1) in
    let L : List Numbered → Type 0 = λ list. IsClassOf list file in
    let F : ClassFile → Type 0 = λ f. IsClassOf (numbered b.number (Some (kinds.Class b.name b.flags)) ∷ b.rest) f in
    subst L (sym b.lines_are) (subst F (sym read) (says bytes b.number b.name b.flags b.rest b.index b.old b.ends b.named))

-- Where the bytes that a text is assembled to are read, the class file is what the text's lines say.
pub made_class_is_read : BodiesAreReadAgain → (text bytes : List ℕ) (lines : TextLines) (file : ClassFile) → IsAssembled text (Ok bytes) → AreLinesOf (front text) lines → IsFile bytes file → IsClassOf lines.lines file
made_class_is_read bodies text bytes lines file made are is =
    let same : made.lines ≡ lines = one_text (front text) made.lines lines made.are_lines are in
    let said = all_said 1 0 (text_lines.lines (front text)) made.lines.lines made.are_lines.numbered in
    let L : TextLines → Type 0 = λ l. IsClassOf l.lines file in
    subst L same (lines_say bodies made.lines.behind made.lines.lines bytes file said made.answered is)
