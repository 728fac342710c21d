-- The rules of a field or a method that look-up finds (JVMS 5.4.4, 6.5).
use Rattle.std.specs.Prelude.{◌≡◌, ℕ, List}
use Rattle.access_flags.specs.declared.TheConstants.{STATIC}
use Rattle.access_flags.specs.Flags.{has}
use Rattle.instructions.specs.declared.operation.FieldAccess.{FieldAccess}
use Rattle.instructions.specs.declared.operation.Call.{Call}
use Rattle.rules.specs.Rules.{Rules, must, ◌then◌}
use Rattle.class_pool.specs.Pool.{Reference}
use Rattle.link_types.specs.declared.refusal.LinkRefusal.{LinkRefusal}
use Rattle.link_types.specs.declared.refusal.LinkRefusal.TheVariants.{At}
use Rattle.link_types.specs.declared.refusal.LinkKind.TheVariants.{NoField, NoMethod, StaticMismatch, Private}
use Rattle.link_rules.specs.Classes.{NamedClass}
use Rattle.link_rules.specs.Members.{Declared}
use Rattle.link_rules.specs.LinkRules.{MaySet, MayAccess, MayBeCalled, wants_static, is_static_call}

module _ (cs : List NamedClass) (k : ℕ) where
  abbrev pub found_field_rules : FieldAccess → ℕ → Declared → Rules LinkRefusal
  found_field_rules access at d =
      must (MaySet access d) (At NoField k at)
      then must (has d.member.flags STATIC ≡ wants_static access) (At StaticMismatch k at)
      then must (MayAccess cs k d) (At Private k at)

  abbrev pub found_method_rules : Call → ℕ → Reference → Declared → Rules LinkRefusal
  found_method_rules call at r d =
      must (MayBeCalled cs k call r d) (At NoMethod k at)
      then must (has d.member.flags STATIC ≡ is_static_call call) (At StaticMismatch k at)
      then must (MayAccess cs k d) (At Private k at)
