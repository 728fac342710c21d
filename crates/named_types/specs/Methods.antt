-- What the descriptor of a method says by types.
use Rattle.std.specs.Prelude.{ℕ, List}
use Rattle.link_types.specs.declared.methods.MethodType.{MethodType}
use Rattle.link_rules.specs.Names.{ProgramNames}
use Rattle.link_rules.specs.Methods.{parameter_types, result_type, parameter_words}

abbrev pub method_type : ProgramNames → List ℕ → MethodType
method_type p descriptor = record {
  parameters = parameter_types p descriptor;
  result = result_type p descriptor;
  words = parameter_words p descriptor;
}
