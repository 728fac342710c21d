-- What a class file says of its methods.
use Rattle.std.proofs.Common.{◌≡◌, ◌+◌, ◌<◌, ◌^◌, ℕ, zero, suc, Bool, true, false, cond, List, [], ◌∷◌, ◌++◌, length, sym, ap, subst, ◌∙◌, arith, add-one, Ok}
use Rattle.std.specs.Prelude.{Some, slice_get, codes, find}
use Rattle.std.specs.List.{flat_map}
use Rattle.std.proofs.lemmas.List.{length-map}
use Rattle.std.proofs.lemmas.Option.{same_Some, slice_get-map, option_and_then_some}
use Rattle.class_names.proofs.Cases.{mapped}
use Rattle.class_walk.specs.declared.class.Constant.{Constant}
use Rattle.class_walk.specs.declared.class.RawAttribute.{RawAttribute}
use Rattle.class_walk.specs.declared.class.RawClass.{RawClass}
use Rattle.class_walk.specs.declared.class.RawCode.{RawCode}
use Rattle.class_walk.specs.declared.class.RawMember.{RawMember}
use Rattle.class_walk.specs.Layout.{IsBytes, IsCodeContent, u2, u4, table, member, attribute, front, spelling}
use Rattle.class_walk.specs.Reading.{code_of}
use Rattle.class_walk.specs.declared.class.RawHandler.{RawHandler}
use Rattle.class_walk.proofs.Fields.{bytes_front, bytes_behind}
use Rattle.class_walk.proofs.CodeLaws.{code_found}
use Rattle.class_read.specs.declared.class_file.ClassFile.{ClassFile}
use Rattle.class_read.specs.declared.class_file.CodeAttribute.{CodeAttribute}
use Rattle.class_read.specs.declared.class_file.Member.{Member}
use Rattle.class_read.specs.AttributeRules.{code_in, code_of_method, code_attribute, named, is_named}
use Rattle.class_read.specs.ClassFile.{class_of}
use Rattle.class_read.specs.MemberRules.{method_of}
use Rattle.code_decode.specs.Entry.{HasMethodType}
use Rattle.code_decode.specs.Method.{StandsForFile, IsMethodWith}

-- the method of the layout that is kept so
raw_method : (c : RawClass) (n : ℕ) (m : Member) → slice_get (class_of c).methods n ≡ Some m → (r : RawMember) × (slice_get c.methods n ≡ Some r) × (method_of c.pool r ≡ m)
raw_method c n m at = mapped (method_of c.pool) (slice_get c.methods n) m (sym (slice_get-map (method_of c.pool) c.methods n) ∙ at)

-- each method has the descriptor of one
pub method_type : (file : ClassFile) (n : ℕ) (m : Member) → StandsForFile file → slice_get file.methods n ≡ Some m → HasMethodType file.pool m
method_type file n m (bytes, are_bytes, (c, is_class, sound, is)) at =
    let P : ClassFile → Type 0 = λ f. slice_get f.methods n ≡ Some m in
    let raw = raw_method c n m (subst P is at) in
    let Q : Member → Type 0 = λ k. HasMethodType c.pool k in
    let R : ClassFile → Type 0 = λ f. HasMethodType f.pool m in
    subst R (sym is) (subst Q raw.2 (sound.methods n raw.0 raw.1).descriptor)

-- the bytes of an item of many
bytes_in : {X : Type 0} (item : X → List ℕ) (xs : List X) (k : ℕ) (x : X) → slice_get xs k ≡ Some x → IsBytes (flat_map item xs) → IsBytes (item x)
bytes_in item [] k x at h = absurd cc
bytes_in item (y ∷ ys) zero x at h =
    let here : IsBytes (item y ++ flat_map item ys) = h in
    subst (λ (z : _). IsBytes (item z)) (same_Some y x at) (bytes_front (item y) (flat_map item ys) here)
bytes_in item (y ∷ ys) (suc k) x at h =
    let here : IsBytes (item y ++ flat_map item ys) = h in
    bytes_in item ys k x at (bytes_behind (item y) (flat_map item ys) here)

-- the bytes of a method of a class
method_bytes : (c : RawClass) (n : ℕ) (r : RawMember) → slice_get c.methods n ≡ Some r → IsBytes (spelling c) → IsBytes (member r)
method_bytes c n r at h =
    let methods = bytes_behind (front c ++ table member c.fields) (table member c.methods) (bytes_front (front c ++ table member c.fields ++ table member c.methods) (table attribute c.attributes) h) in
    bytes_in member c.methods n r at (bytes_behind (u2 (length c.methods)) (flat_map member c.methods) methods)

-- the bytes of the content of an attribute of a method
content_bytes : (r : RawMember) (k : ℕ) (x : RawAttribute) → slice_get r.attributes k ≡ Some x → IsBytes (member r) → IsBytes x.content
content_bytes r k x at h =
    let all = bytes_behind (u2 r.flags ++ u2 r.name ++ u2 r.descriptor) (table attribute r.attributes) h in
    let one : IsBytes (attribute x) = bytes_in attribute r.attributes k x at (bytes_behind (u2 (length r.attributes)) (flat_map attribute r.attributes) all) in
    bytes_behind (u2 x.name ++ u4 (length x.content)) x.content one

-- what is found is somewhere in the list
found_at : {X : Type 0} (p : X → Bool) (xs : List X) (x : X) → find p xs ≡ Some x → (k : ℕ) × (slice_get xs k ≡ Some x)
found_at p [] x e = absurd cc
found_at p (y ∷ ys) x e =
    let at : (b : Bool) → cond b (Some y) (find p ys) ≡ Some x → (k : ℕ) × (slice_get (y ∷ ys) k ≡ Some x) =
    λ b. elim b as (λ b. cond b (Some y) (find p ys) ≡ Some x → (k : ℕ) × (slice_get (y ∷ ys) k ≡ Some x))
    [ true ↦ λ here. (0, here) | false ↦ λ later. let k = found_at p ys x later in (k.0 + 1, rw add-one k.1) ] in
    at (p y) e

kept_handlers : (pool : List Constant) (raw : RawCode) (a : CodeAttribute) → code_attribute pool raw ≡ a → raw.handlers ≡ a.handlers
kept_handlers pool raw a e = ap (λ (k : CodeAttribute). k.handlers) e

handlers_in : (pool : List Constant) (x : RawAttribute) (a : CodeAttribute) → IsBytes x.content → code_in pool x ≡ Some a → length a.handlers < 2 ^ 16
handlers_in pool x a h e =
    let raw = mapped (code_attribute pool) (code_of x.content) a e in
    let is : IsCodeContent x.content raw.0 = code_found x.content (Ok raw.0) h raw.1 in
    let same : raw.0.handlers ≡ a.handlers = kept_handlers pool raw.0 a raw.2 in
    subst (λ (hs : List RawHandler). length hs < 2 ^ 16) same is.holds.handlers.0

handlers_of : (pool : List Constant) (r : RawMember) (a : CodeAttribute) → IsBytes (member r) → code_of_method pool r ≡ Some a → length a.handlers < 2 ^ 16
handlers_of pool r a h e =
    option_and_then_some (code_in pool) (named pool (codes "Code") r.attributes) a e
    (λ x found is.
    let k = found_at (is_named pool (codes "Code")) r.attributes x found in
    handlers_in pool x a (content_bytes r k.0 x k.1 h) is)

-- the count of an exception table has two bytes
pub few_handlers : (file : ClassFile) (n : ℕ) (m : Member) (a : CodeAttribute) → StandsForFile file → IsMethodWith file n m a → length a.handlers < 2 ^ 16
few_handlers file n m a (bytes, are_bytes, (c, is_class, sound, is)) there =
    let P : ClassFile → Type 0 = λ f. slice_get f.methods n ≡ Some m in
    let raw = raw_method c n m (subst P is there.0) in
    let code : code_of_method c.pool raw.0 ≡ Some a = ap (λ (k : Member). k.code) raw.2 ∙ there.1 in
    let spelled : IsBytes (spelling c) = subst IsBytes is_class.spelled are_bytes in
    handlers_of c.pool raw.0 a (method_bytes c n raw.0 raw.1 spelled) code

-- the count of the methods has two bytes
pub few_methods : (file : ClassFile) → StandsForFile file → length file.methods < 2 ^ 16
few_methods file (bytes, are_bytes, (c, is_class, sound, is)) =
    let kept : length (class_of c).methods ≡ length c.methods = length-map c.methods (method_of c.pool) in
    let R : ClassFile → Type 0 = λ f. length f.methods < 2 ^ 16 in
    let few : length c.methods < 2 ^ 16 = is_class.holds.methods.0 in
    let here : length (class_of c).methods < 2 ^ 16 = omega (arith, kept, few) in
    subst R (sym is) here
