-- The members that methods are, by number.
use Rattle.std.specs.Prelude.{Bool, false, List, [], slice_get, codes, unwrap_or}
use Rattle.std.specs.Option.{option_map_or}
use Rattle.class_walk.specs.declared.class.Constant.{Constant}
use Rattle.class_pool.specs.PoolTest.{is_text}
use Rattle.class_read.specs.declared.class_file.Member.{Member}
use Rattle.code_decode.specs.declared.code.ClassUnit.{ClassUnit}
use Rattle.link_types.specs.declared.operands.MethodId.{MethodId}
use Rattle.link_rules.specs.Classes.{NamedMember, classes_of, unit_numbered}
use Rattle.link_rules.specs.Methods.{method_named}

abbrev pub nameless : NamedMember
nameless = record { name = []; descriptor = []; flags = 0; name_at = 0 }

-- the method of a number; one without a name where there is none
abbrev pub member_numbered : List ClassUnit → MethodId → NamedMember
member_numbered us id = unwrap_or (method_named (classes_of us) id) nameless

abbrev pub is_init : List Constant → Member → Bool
is_init pool m = is_text (codes "<init>") (slice_get pool m.name)

-- the class of a method is that of a file, which names the method <init> (JVMS 2.9)
abbrev pub is_named_init : List ClassUnit → MethodId → Bool
is_named_init us id =
    option_map_or (λ (u : ClassUnit). option_map_or (is_init u.file.pool) (slice_get u.file.methods id.method) false)
    (unit_numbered us id.class) false
