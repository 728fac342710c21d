-- What JVMS 4.4 wants of the constant pool, entry by entry.
use Rattle.std.specs.Prelude.{◌≡◌, ℕ, ◌⊎◌, List, Option, Some, None, slice_get}
use Rattle.class_walk.specs.declared.class.Constant.{Constant}
use Rattle.class_walk.specs.declared.class.Constant.TheVariants.{Gap, Utf8, Integer, Float, Long, Double, Class, Str, Field, Method, IfaceMethod, Pair, Handle, MethodType, Dynamic}
use Rattle.class_names.specs.Names.{IsClassName, IsMemberName}
use Rattle.class_names.specs.ModifiedUtf8.{IsModifiedUtf8}
use Rattle.class_names.specs.Descriptor.{IsFieldDescriptor, IsMethodDescriptor}
use Rattle.class_names.specs.declared.kind.BaseKind.{BaseKind}
use Rattle.class_names.specs.declared.kind.Kind.{Kind}
use Rattle.class_names.specs.declared.kind.Kind.TheVariants.{Array}
use Rattle.class_pool.specs.declared.refusal.ReadRefusal.{ReadRefusal}
use Rattle.class_pool.specs.declared.refusal.ReadRefusal.TheVariants.{PoolIndex, BadUtf, BadDescriptor}
use Rattle.class_pool.specs.declared.pool.Role.{Role}
use Rattle.class_pool.specs.declared.pool.Role.TheVariants as roles
use Rattle.class_pool.specs.Pool.{IsUtf8At}
use Rattle.rules.specs.Rules.{Rules, must, ◌then◌, each}

-- an entry of some text
abbrev pub IsText : List Constant → ℕ → Type 0
IsText pool index = (text : List ℕ) × IsUtf8At pool index text

abbrev pub IsClassEntry : List Constant → ℕ → Type 0
IsClassEntry pool index = (n : ℕ) × (slice_get pool index ≡ Some (Class n))

abbrev pub IsPairEntry : List Constant → ℕ → Type 0
IsPairEntry pool index = (n d : ℕ) × (slice_get pool index ≡ Some (Pair n d))

-- the indices of a class and of a name and descriptor
abbrev pub IsMemberEntry : List Constant → ℕ → ℕ → Type 0
IsMemberEntry pool class pair = IsClassEntry pool class × IsPairEntry pool pair

-- the indices in an entry are those of entries of the kinds that it wants (JVMS 4.4.1 to 4.4.6)
abbrev pub RefersRightly : List Constant → Constant → Type 0
RefersRightly pool (Class name) = IsText pool name
RefersRightly pool (Str text) = IsText pool text
RefersRightly pool (Field class pair) = IsMemberEntry pool class pair
RefersRightly pool (Method class pair) = IsMemberEntry pool class pair
RefersRightly pool (IfaceMethod class pair) = IsMemberEntry pool class pair
RefersRightly pool (Pair name descriptor) = IsText pool name × IsText pool descriptor
RefersRightly pool Gap = Unit {0}
RefersRightly pool (Utf8 _) = Unit {0}
RefersRightly pool (Integer _) = Unit {0}
RefersRightly pool (Float _) = Unit {0}
RefersRightly pool (Long _) = Unit {0}
RefersRightly pool (Double _) = Unit {0}
RefersRightly pool (Handle _ _) = Unit {0}
RefersRightly pool (MethodType _) = Unit {0}
RefersRightly pool (Dynamic _ _) = Unit {0}

-- the index at which an entry uses a text so
abbrev pub used_as : Role → Constant → Option ℕ
used_as roles.ClassName (Class name) = Some name
used_as roles.MemberName (Pair name descriptor) = Some name
used_as roles.Descriptor (Pair name descriptor) = Some descriptor
used_as _ _ = None

-- some entry uses the text at this index so
abbrev pub IsUsed : List Constant → Role → ℕ → Type 0
IsUsed pool role index = (j : ℕ) × (c : Constant) × (slice_get pool j ≡ Some c) × (used_as role c ≡ Some index)

-- the descriptor of an array, by which a Class entry names an array class (JVMS 4.4.1)
abbrev pub IsArrayName : List ℕ → Type 0
IsArrayName text = (dimensions : ℕ) × (base : BaseKind) × IsFieldDescriptor text (Array dimensions base)

abbrev pub IsFieldType : List ℕ → Type 0
IsFieldType text = (kind : Kind) × IsFieldDescriptor text kind

abbrev pub IsMethodType : List ℕ → Type 0
IsMethodType text = (parameters : List Kind) × (returned : Option Kind) × IsMethodDescriptor text parameters returned

-- a text that may be used so (JVMS 4.4.1, 4.4.6)
abbrev pub IsFitFor : Role → List ℕ → Type 0
IsFitFor roles.ClassName text = IsClassName text ⊎ IsArrayName text
IsFitFor roles.MemberName text = IsMemberName text
IsFitFor roles.Descriptor text = IsFieldType text ⊎ IsMethodType text

-- the text at this index may be used as the pool uses it
pub record IsUsedRightly (pool : List Constant) (index : ℕ) (text : List ℕ) : Type 0 where
  pub class : IsUsed pool roles.ClassName index → IsFitFor roles.ClassName text
  pub name : IsUsed pool roles.MemberName index → IsFitFor roles.MemberName text
  pub descriptor : IsUsed pool roles.Descriptor index → IsFitFor roles.Descriptor text

abbrev pub text_entry_rules : List Constant → ℕ → List ℕ → Rules ReadRefusal
text_entry_rules pool index text =
    must (IsModifiedUtf8 text) (BadUtf index) then must (IsUsedRightly pool index text) (BadDescriptor index)

-- what is wanted of a text, and of the indices in another entry
abbrev pub entry_rules : List Constant → ℕ → Constant → Rules ReadRefusal
entry_rules pool index (Utf8 text) = text_entry_rules pool index text
entry_rules pool index c = must (RefersRightly pool c) (PoolIndex index)

abbrev pub pool_rules : List Constant → Rules ReadRefusal
pool_rules pool = each (entry_rules pool) pool
