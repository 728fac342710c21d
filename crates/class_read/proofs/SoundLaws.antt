-- The rules hold in their order exactly where each part is sound.
use Rattle.std.proofs.Common.{◌≡◌, ℕ, Bool, List, Option, None, Some, refl}
use Rattle.class_walk.specs.declared.class.Constant.{Constant}
use Rattle.class_walk.specs.declared.class.Constant.TheVariants.{Gap, Utf8, Integer, Float, Long, Double, Class, Str, Field, Method, IfaceMethod, Pair, Handle, MethodType, Dynamic}
use Rattle.class_walk.specs.declared.class.RawMember.{RawMember}
use Rattle.class_walk.specs.declared.class.RawClass.{RawClass}
use Rattle.class_walk.specs.declared.class.RawCode.{RawCode}
use Rattle.class_walk.specs.Reading.{code_of}
use Rattle.class_pool.specs.PoolRules.{IsText, entry_rules}
use Rattle.class_read.specs.AttributeRules.{code_rules}
use Rattle.class_read.specs.MemberRules.{IsTextAt, lone_field_rules, lone_method_rules}
use Rattle.class_read.specs.ClassRules.{class_rules}
use Rattle.class_read.specs.Sound.{IsSoundEntry, IsSoundField, IsSoundCode, IsSoundMethod, IsSound}

entry_sound : (pool : List Constant) (i : ℕ) (c : Constant) → (entry_rules pool i c).Hold → IsSoundEntry pool i c
entry_sound pool i (Utf8 text) h = h
entry_sound pool i Gap h = h
entry_sound pool i (Integer _) h = h
entry_sound pool i (Float _) h = h
entry_sound pool i (Long _) h = h
entry_sound pool i (Double _) h = h
entry_sound pool i (Class _) h = h
entry_sound pool i (Str _) h = h
entry_sound pool i (Field _ _) h = h
entry_sound pool i (Method _ _) h = h
entry_sound pool i (IfaceMethod _ _) h = h
entry_sound pool i (Pair _ _) h = h
entry_sound pool i (Handle _ _) h = h
entry_sound pool i (MethodType _) h = h
entry_sound pool i (Dynamic _ _) h = h

sound_entry : (pool : List Constant) (i : ℕ) (c : Constant) → IsSoundEntry pool i c → (entry_rules pool i c).Hold
sound_entry pool i (Utf8 text) h = h
sound_entry pool i Gap h = h
sound_entry pool i (Integer _) h = h
sound_entry pool i (Float _) h = h
sound_entry pool i (Long _) h = h
sound_entry pool i (Double _) h = h
sound_entry pool i (Class _) h = h
sound_entry pool i (Str _) h = h
sound_entry pool i (Field _ _) h = h
sound_entry pool i (Method _ _) h = h
sound_entry pool i (IfaceMethod _ _) h = h
sound_entry pool i (Pair _ _) h = h
sound_entry pool i (Handle _ _) h = h
sound_entry pool i (MethodType _) h = h
sound_entry pool i (Dynamic _ _) h = h

is_text : (IsRight : List ℕ → Type 0) (pool : List Constant) (i : ℕ) → IsTextAt IsRight pool i → IsText pool i
is_text IsRight pool i t = (t.0, t.1)

field_sound : (pool : List Constant) (interface : Bool) (m : RawMember) → (lone_field_rules pool interface m).Hold → IsSoundField pool interface m
field_sound pool interface m h = record {
  name = h.0.1;
  descriptor = h.1.0.1;
  flags = h.1.1.0;
  names = λ i a at. (h.1.1.1 i a at).0;
  constants = λ i a at. (h.1.1.1 i a at).1;
}

sound_field : (pool : List Constant) (interface : Bool) (m : RawMember) → IsSoundField pool interface m → (lone_field_rules pool interface m).Hold
sound_field pool interface m s = (
  (is_text _ pool m.name s.name, s.name),
  ((is_text _ pool m.descriptor s.descriptor, s.descriptor), (s.flags, λ i a at. (s.names i a at, s.constants i a at))),
)

code_sound : (pool : List Constant) (at : ℕ) (content : List ℕ) (o : Option RawCode) → code_of content ≡ o → (code_rules pool at o).Hold → IsSoundCode pool content
code_sound pool at content None e h = absurd h
code_sound pool at content (Some code) e h = record {
  code = code;
  spelled = e;
  names = λ i a there. (h i a there).0;
  maps = λ i a there is. ((h i a there).1 is, tt);
}

sound_code : (pool : List Constant) (at : ℕ) (content : List ℕ) → IsSoundCode pool content → (code_rules pool at (code_of content)).Hold
sound_code pool at content s = rw s.spelled (λ i a there. (s.names i a there, λ is. (s.maps i a there is).0))

method_sound : (pool : List Constant) (m : RawMember) → (lone_method_rules pool m).Hold → IsSoundMethod pool m
method_sound pool m h = record {
  name = h.0.1;
  descriptor = h.1.0.1;
  flags = h.1.1.0;
  names = λ i a at. (h.1.1.1.0 i a at).0;
  codes_of = λ i a at is. let c = (h.1.1.1.0 i a at).1 is in (c.0, code_sound pool a.at a.content (code_of a.content) refl c.1);
  has_code = h.1.1.1.1;
}

sound_method : (pool : List Constant) (m : RawMember) → IsSoundMethod pool m → (lone_method_rules pool m).Hold
sound_method pool m s = (
  (is_text _ pool m.name s.name, s.name),
  (
    (is_text _ pool m.descriptor s.descriptor, s.descriptor),
    (
      s.flags,
      (
        λ i a at. (s.names i a at, λ is. ((s.codes_of i a at is).0, sound_code pool a.at a.content (s.codes_of i a at is).1)),
        s.has_code,
      ),
    ),
  ),
)

pub holds_sound : (c : RawClass) → (class_rules c).Hold → IsSound c
holds_sound c h = record {
  pool = λ i x at. entry_sound c.pool i x (h.0 i x at);
  this_class = h.1.0.0;
  super_class = h.1.0.1.0;
  interfaces = h.1.0.1.1.0;
  flags = h.1.0.1.1.1;
  fields = λ i m at. field_sound c.pool _ m (h.1.1.0 i m at).0;
  methods = λ i m at. method_sound c.pool m (h.1.1.1.0 i m at).0;
  distinct_fields = λ i m at. (h.1.1.0 i m at).1;
  distinct_methods = λ i m at. (h.1.1.1.0 i m at).1;
  attributes = h.1.1.1.1;
}

pub sound_holds : (c : RawClass) → IsSound c → (class_rules c).Hold
sound_holds c s = (
  λ i x at. sound_entry c.pool i x (s.pool i x at),
  (
    (s.this_class, (s.super_class, (s.interfaces, s.flags))),
    (
      λ i m at. (sound_field c.pool _ m (s.fields i m at), s.distinct_fields i m at),
      (λ i m at. (sound_method c.pool m (s.methods i m at), s.distinct_methods i m at), s.attributes),
    ),
  ),
)
