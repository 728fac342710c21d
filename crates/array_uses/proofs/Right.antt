-- The instructions of a linked program name what they may name, and keep the rules of linking.
use Rattle.std.proofs.Common.{◌≡◌, ℕ, List, Option, None, Some, slice_get, refl, arith}
use Rattle.builtin_world.specs.Library.{library}
use Rattle.builtin_world.specs.declared.number.TheConstants.{STRING}
use Rattle.code_decode.specs.declared.code.ClassUnit.{ClassUnit}
use Rattle.code_decode.specs.declared.code.Code.{Code}
use Rattle.code_laws.proofs.CodeLaws.{all_accepted}
use Rattle.link_types.specs.declared.types.ElementType.TheVariants as elements
use Rattle.link_rules.specs.Classes.{classes_of}
use Rattle.link_rules.specs.Units.{AreUnits}
use Rattle.link_rules.specs.LinkRules.{link_rules}
use Rattle.instructions.specs.declared.operation.PrimitiveType.TheVariants.{Char}
use Rattle.link_rules.specs.Arrays.{arguments_array, primitive_array}
use Rattle.link_rules.proofs.Numbers.{class_count_is}
use Rattle.array_order.specs.Order.{array_text}
use Rattle.base_order.specs.Bases.{base_text}
use Rattle.array_kinds.specs.Kinds.{array_kind, primitive_kind}
use Rattle.array_uses.specs.Most.{IsArrayIn}
use Rattle.array_uses.specs.Uses.{IsCodeRight, AreCodesRight}

pub codes_right : (us : List ClassUnit) (k : ℕ) (u : ClassUnit) → AreUnits us → (link_rules us).Hold → slice_get us k ≡ Some u → AreCodesRight us k u u.codes
codes_right us k u decoded hold there = λ j code at. go code j at
  where
    go : (code : Option Code) (j : ℕ) → slice_get u.codes j ≡ Some code → IsCodeRight us k u code
    go None j at = tt
    go (Some code) j at = λ i s here. record {
      uses = (all_accepted u.file u.codes (decoded k u there).file (decoded k u there).codes j code at).uses i s here;
      rules = (hold.1.1.1.1.1 k u there j (Some code) at).0 i s here;
    }

-- the class of strings
arguments_text : (us : List ClassUnit) → arguments_array ≡ array_text 1 (base_text (classes_of us) (elements.Class STRING))
unfolding library
arguments_text us = refl

pub arguments_in : (us : List ClassUnit) → IsArrayIn (classes_of us) (array_kind 1 (elements.Class STRING)) arguments_array
arguments_in us = record {
  base = ((λ e. omega (arith, e)), (let many = class_count_is us in omega arith));
  spelled = arguments_text us;
  some = omega arith;
  few = omega arith;
}

-- the arrays of the units of Strings
abbrev pub units_array : List ℕ
units_array = primitive_array Char

pub units_in : (us : List ClassUnit) → IsArrayIn (classes_of us) (primitive_kind Char) units_array
units_in us = record { base = tt; spelled = refl; some = omega arith; few = omega arith }
