-- Fields and methods that are made, as they are read.
use Rattle.std.proofs.Common.{◌≡◌, ℕ, ◌+◌, ◌^◌, ◌<◌, Bool, true, false, cond, List, [], ◌∷◌, ◌++◌, length, slice_get, Option, Some, None, refl, sym, ap, subst, ◌∙◌, arith, length-append}
use Rattle.std.specs.Prelude.{codes, option_map}
use Rattle.std.specs.Option.{option_and_then}
use Rattle.std.specs.List.{flat_map}
use Rattle.class_walk.specs.declared.class.Constant.{Constant}
use Rattle.class_walk.specs.declared.class.RawAttribute.{RawAttribute}
use Rattle.class_walk.specs.declared.class.RawCode.{RawCode}
use Rattle.class_walk.specs.declared.class.RawMember.{RawMember}
use Rattle.class_walk.specs.Layout as layout
use Rattle.class_walk.specs.Layout.{u2, u4, table, code_front, code_spelling, IsCounted}
use Rattle.class_walk.specs.Reading as reading
use Rattle.class_walk.proofs.CodeLaws.{content_some}
use Rattle.class_read.specs.declared.class_file.CodeAttribute.{CodeAttribute}
use Rattle.access_flags.specs.declared.TheConstants.{STATIC}
use Rattle.access_flags.specs.Flags.{has}
use Rattle.class_read.specs.AttributeRules as rules_of
use Rattle.access_flags.specs.declared.TheConstants.{STATIC}
use Rattle.access_flags.specs.Flags.{has}
use Rattle.class_read.specs.AttributeRules.{named, index_in, constant_of, code_attribute, code_in}
use Rattle.class_read.specs.MemberRules.{field_of, method_of}
use Rattle.class_pool.specs.Pool.{IsUtf8At}
use Rattle.class_pool.specs.PoolTest.{is_text}
use Rattle.class_read.proofs.Numbers.{u2-split}
use Rattle.class_pool.proofs.PoolLaws.{is_text-Decides}
use Rattle.code_decode.specs.declared.code.Code.{Code}
use Rattle.code_decode.specs.Code.{IsCode}
use Rattle.assembler_lines.specs.declared.line.FieldValue.{FieldValue}
use Rattle.assembler_pool.specs.Items.{text, IsItemAt}
use Rattle.class_write.specs.Placed.{placed_attributes, placed_member, placed_code, IsAttributeButPlace, IsMemberButPlaces, IsCodeButPlaces}
use Rattle.class_write.proofs.TableLaws.{written_code}
use Rattle.assembler_bodies.specs.Body.{MadeBody, maps_of, code_of}
use Rattle.class_make.specs.Class.{attribute, value_item}
use Rattle.assembler_laws.specs.BodyMeaning.Body.{IsBodyOf, maps_content, attribute_of}
use Rattle.assembler_laws.specs.ClassMeaning.Class.{SaysValue, SaysField, SaysCode, SaysMethod}
use Rattle.assembler_laws.specs.ClassMeaning.Parts.{SaidField, SaidBody, SaidMethod}
use Rattle.assembler_laws.proofs.ClassMeaning.BodyLaws.{IsMapName, IsSoundBody}
use Rattle.assembler_bodies.proofs.GrowLaws.{short_index}

-- ---- attributes by their names

passes : (pool : List Constant) (name : ℕ) (bytes : List ℕ) → IsUtf8At pool name bytes → is_text bytes (slice_get pool name) ≡ true
passes pool name bytes at = (is_text-Decides bytes (slice_get pool name)).1 at

-- the one attribute is found by its name
found_named : (pool : List Constant) (bytes : List ℕ) (a : RawAttribute) → IsUtf8At pool a.name bytes → named pool bytes (a ∷ []) ≡ Some a
found_named pool bytes a at = rw (passes pool a.name bytes at) refl

index_again : (index : ℕ) → index < 2 ^ 16 → index_in (u2 index) ≡ index
index_again index short = ap index_in (u2-split index short) ∙ omega arith

-- ---- fields

-- the attribute ConstantValue of such a value, or no attribute
abbrev pub IsValued : List Constant → Option FieldValue → List RawAttribute → Type 0
IsValued pool None attributes = attributes ≡ []
IsValued pool (Some value) attributes =
    (name index : ℕ) × (attributes ≡ attribute name (u2 index) ∷ []) × IsUtf8At pool name (codes "ConstantValue") × IsItemAt pool index (value_item value)

-- a field that is made of what a line says
pub record IsField (pool : List Constant) (said : SaidField) (m : RawMember) : Type 0 where
  pub flags : m.flags ≡ said.flags
  pub short : said.flags < 2 ^ 16
  pub name : IsUtf8At pool m.name said.name
  pub descriptor : IsUtf8At pool m.descriptor said.descriptor
  pub value : IsValued pool said.value m.attributes

-- an attribute of one index
value_counted : (pool : List Constant) (value : Option FieldValue) (attributes : List RawAttribute) → length pool < 2 ^ 16 → IsValued pool value attributes → IsCounted IsAttributeButPlace attributes
value_counted pool None attributes count is = subst (λ (list : List RawAttribute). IsCounted IsAttributeButPlace list) (sym is) (omega arith, tt)
value_counted pool (Some value) attributes count is =
    let short = short_index (text (codes "ConstantValue")) pool is.0 count is.3 in
    let size : length (u2 is.1) < 2 ^ 32 = omega arith in
    subst (λ (list : List RawAttribute). IsCounted IsAttributeButPlace list) (sym is.2) (omega arith, ((short, size), tt))

pub field_fits : (pool : List Constant) (said : SaidField) (m : RawMember) → length pool < 2 ^ 16 → IsField pool said m → IsMemberButPlaces m
field_fits pool said m count is = record {
  flags = omega (arith, is.flags, is.short);
  name = short_index (text said.name) pool m.name count is.name;
  descriptor = short_index (text said.descriptor) pool m.descriptor count is.descriptor;
  attributes = value_counted pool said.value m.attributes count is.value;
}

-- the constant of a field that may have one
abbrev constant_in : List Constant → List RawAttribute → Option ℕ
constant_in pool attributes = option_map (λ (a : RawAttribute). index_in a.content) (named pool (codes "ConstantValue") attributes)

value_found : (pool : List Constant) (value : Option FieldValue) (attributes : List RawAttribute) (at : ℕ) → length pool < 2 ^ 16 → IsValued pool value attributes
    → SaysValue pool value (constant_in pool (placed_attributes at attributes))
value_found pool None attributes at count is = subst (λ (list : List RawAttribute). SaysValue pool None (constant_in pool (placed_attributes at list))) (sym is) tt
value_found pool (Some value) attributes at count is =
    let P : Option ℕ → Type 0 = λ o. SaysValue pool (Some value) o in
    let a : RawAttribute = record { at = at; name = is.0; content = u2 is.1 } in
    let found : named pool (codes "ConstantValue") (a ∷ []) ≡ Some a = found_named pool (codes "ConstantValue") a is.3 in
    let again : index_in (u2 is.1) ≡ is.1 = index_again is.1 (short_index (value_item value) pool is.1 count is.4) in
    let whole : constant_in pool (placed_attributes at attributes) ≡ Some is.1 =
    ap (λ (list : List RawAttribute). constant_in pool (placed_attributes at list)) is.2
    ∙ ap (λ (o : Option RawAttribute). option_map (λ (b : RawAttribute). index_in b.content) o) found
    ∙ ap (λ (n : ℕ). Some n) again in
    subst P (sym whole) is.4

-- only a static field has its value
static_value : (pool : List Constant) (value : Option FieldValue) (found : Option ℕ) (b : Bool) → SaysValue pool value found → SaysValue pool (cond b value None) (cond b found None)
static_value pool value found true says = says
static_value pool value found false says = tt

pub field_says : (pool : List Constant) (said : SaidField) (m : RawMember) (at : ℕ) → length pool < 2 ^ 16 → IsField pool said m → SaysField pool said (field_of pool (placed_member at m))
field_says pool said m at count is = record {
  flags = is.flags;
  name = is.name;
  descriptor = is.descriptor;
  value = value_is;
}
  where
    value_is : SaysValue pool (cond (has said.flags STATIC) said.value None) (constant_of pool (placed_member at m))
    value_is =
        let found = constant_in pool (placed_attributes (at + 6 + 2) m.attributes) in
        let static : SaysValue pool (cond (has said.flags STATIC) said.value None) (cond (has said.flags STATIC) found None) =
        static_value pool said.value found (has said.flags STATIC) (value_found pool said.value m.attributes (at + 6 + 2) count is.value) in
        subst (λ (flags : ℕ). SaysValue pool (cond (has said.flags STATIC) said.value None) (cond (has flags STATIC) found None)) (sym is.flags) static

-- ---- codes

-- an attribute alone is shorter than what contains it
content_within : (front : List ℕ) (a : RawAttribute) → length (front ++ table layout.attribute (a ∷ [])) < 2 ^ 32 → length a.content < 2 ^ 32
content_within front a short =
    let whole = length-append front (table layout.attribute (a ∷ [])) in
    let rows = length-append (u2 (length (a ∷ []))) (flat_map layout.attribute (a ∷ [])) in
    let one = length-append (layout.attribute a) [] in
    let parts = length-append (u2 a.name) (u4 (length a.content) ++ a.content) in
    let sized = length-append (u4 (length a.content)) a.content in
    omega (arith, whole, rows, one, parts, sized, short)

maps_fit : (pool : List Constant) (name : Option ℕ) (count : ℕ) (frames front : List ℕ) → length pool < 2 ^ 16 → IsMapName pool name
    → length (front ++ table layout.attribute (maps_of name count frames)) < 2 ^ 32 → IsCounted IsAttributeButPlace (maps_of name count frames)
maps_fit pool None count frames front few is short = (omega arith, tt)
maps_fit pool (Some name) count frames front few is short =
    let a : RawAttribute = record { at = 0; name = name; content = u2 count ++ frames } in
    let within : length (u2 count ++ frames) < 2 ^ 32 = content_within front a short in
    (omega arith, ((short_index (text (codes "StackMapTable")) pool name few is, within), tt))

code_fits : (pool : List Constant) (body : MadeBody) → length pool < 2 ^ 16 → IsSoundBody pool body → length (code_spelling (code_of body)) < 2 ^ 32 → IsCodeButPlaces (code_of body)
code_fits pool body few is short = record {
  max_stack = is.stack;
  max_locals = is.locals;
  size = omega (arith, is.code);
  handlers = is.handlers;
  attributes = maps_fit pool body.map_name body.frame_count body.frames (code_front (code_of body)) few is.map_name short;
}

-- the stack map is found again
maps_found : (pool : List Constant) (name : Option ℕ) (count : ℕ) (frames : List ℕ) (at : ℕ) → IsMapName pool name
    → rules_of.maps_of pool (placed_attributes at (maps_of name count frames)) ≡ maps_content name count frames
maps_found pool None count frames at is = refl
maps_found pool (Some name) count frames at is = rw (passes pool name (codes "StackMapTable") is) refl

abbrev with_maps : MadeBody → List ℕ → CodeAttribute
with_maps body maps = record { max_stack = body.stack; max_locals = body.locals; bytes = body.code; handlers = body.handlers; maps = maps }

code_found : (pool : List Constant) (body : MadeBody) (a : RawAttribute) → length pool < 2 ^ 16 → IsSoundBody pool body → length (code_spelling (code_of body)) < 2 ^ 32
    → a.content ≡ code_spelling (code_of body) → code_in pool a ≡ Some (attribute_of body)
code_found pool body a few is short content =
    let placed = placed_code (code_of body) in
    let read : reading.code_of (code_spelling (code_of body)) ≡ Some placed =
    content_some (code_spelling (code_of body)) placed (written_code (code_of body) (code_fits pool body few is short) short) in
    let maps = maps_found pool body.map_name body.frame_count body.frames (length (code_front (code_of body)) + 2) is.map_name in
    ap (λ (bytes : List ℕ). option_map (code_attribute pool) (reading.code_of bytes)) content
    ∙ ap (λ (o : Option RawCode). option_map (code_attribute pool) o) read
    ∙ ap (λ (m : List ℕ). Some (with_maps body m)) maps

-- ---- methods

-- the attribute Code of such a body
pub record IsCoded (pool : List Constant) (said : SaidBody) (attributes : List RawAttribute) : Type 0 where
  pub name : ℕ
  pub made : MadeBody
  pub attributes_are : attributes ≡ attribute name (code_spelling (code_of made)) ∷ []
  pub named : IsUtf8At pool name (codes "Code")
  pub sound : IsSoundBody pool made
  pub size : length (code_spelling (code_of made)) < 2 ^ 32
  pub says : (entry : ℕ) (code : Code) → IsCode pool entry (attribute_of made) code → IsBodyOf pool said.room said.lines code

-- the same, or no attribute
abbrev pub HasCode : List Constant → Option SaidBody → List RawAttribute → Type 0
HasCode pool None attributes = attributes ≡ []
HasCode pool (Some body) attributes = IsCoded pool body attributes

-- a method that is made of what a line says, and of the lines of its body
pub record IsMethod (pool : List Constant) (said : SaidMethod) (m : RawMember) : Type 0 where
  pub flags : m.flags ≡ said.flags
  pub short : said.flags < 2 ^ 16
  pub name : IsUtf8At pool m.name said.name
  pub descriptor : IsUtf8At pool m.descriptor said.descriptor
  pub code : HasCode pool said.body m.attributes

code_counted : (pool : List Constant) (body : Option SaidBody) (attributes : List RawAttribute) → length pool < 2 ^ 16 → HasCode pool body attributes → IsCounted IsAttributeButPlace attributes
code_counted pool None attributes few is = subst (λ (list : List RawAttribute). IsCounted IsAttributeButPlace list) (sym is) (omega arith, tt)
code_counted pool (Some body) attributes few is =
    let short = short_index (text (codes "Code")) pool is.name few is.named in
    subst (λ (list : List RawAttribute). IsCounted IsAttributeButPlace list) (sym is.attributes_are) (omega arith, ((short, is.size), tt))

pub method_fits : (pool : List Constant) (said : SaidMethod) (m : RawMember) → length pool < 2 ^ 16 → IsMethod pool said m → IsMemberButPlaces m
method_fits pool said m count is = record {
  flags = omega (arith, is.flags, is.short);
  name = short_index (text said.name) pool m.name count is.name;
  descriptor = short_index (text said.descriptor) pool m.descriptor count is.descriptor;
  attributes = code_counted pool said.body m.attributes count is.code;
}

abbrev code_among : List Constant → List RawAttribute → Option CodeAttribute
code_among pool attributes = option_and_then (code_in pool) (named pool (codes "Code") attributes)

code_says : (pool : List Constant) (body : Option SaidBody) (attributes : List RawAttribute) (at : ℕ) → length pool < 2 ^ 16 → HasCode pool body attributes
    → SaysCode pool body (code_among pool (placed_attributes at attributes))
code_says pool None attributes at few is = subst (λ (list : List RawAttribute). SaysCode pool None (code_among pool (placed_attributes at list))) (sym is) tt
code_says pool (Some body) attributes at few is =
    let a : RawAttribute = record { at = at; name = is.name; content = code_spelling (code_of is.made) } in
    let found : named pool (codes "Code") (a ∷ []) ≡ Some a = found_named pool (codes "Code") a is.named in
    let whole : code_among pool (placed_attributes at attributes) ≡ Some (attribute_of is.made) =
    ap (λ (list : List RawAttribute). code_among pool (placed_attributes at list)) is.attributes_are
    ∙ ap (λ (o : Option RawAttribute). option_and_then (code_in pool) o) found
    ∙ code_found pool is.made a few is.sound is.size refl in
    subst (λ (o : Option CodeAttribute). SaysCode pool (Some body) o) (sym whole) is.says

pub method_says : (pool : List Constant) (said : SaidMethod) (m : RawMember) (at : ℕ) → length pool < 2 ^ 16 → IsMethod pool said m → SaysMethod pool said (method_of pool (placed_member at m))
method_says pool said m at count is = record {
  flags = is.flags;
  name = is.name;
  descriptor = is.descriptor;
  code = code_says pool said.body m.attributes (at + 6 + 2) count is.code;
}
