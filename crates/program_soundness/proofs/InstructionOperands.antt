-- What the instructions of a method name.
use Rattle.std.proofs.Common.{◌≡◌, ◌<◌, ◌^◌, inl, inr, ℕ, true, false, Option, None, Some, List, [], length, slice_get, Contains, flat_map, refl, sym, ap, subst, ◌∙◌}
use Rattle.std.specs.Prelude.{ℤ, option_and_then}
use Rattle.std.specs.Option.{option_map_or}
use Rattle.std.specs.Int.{w32, w64, cast_unsigned}
use Rattle.std.proofs.lemmas.Option.{slice_get_within}
use Rattle.builtin_world.specs.declared.number.TheConstants.{OBJECT}
use Rattle.class_walk.specs.declared.class.Constant.{Constant}
use Rattle.class_walk.specs.declared.class.Constant.TheVariants as constants
use Rattle.class_pool.specs.Pool.{IsClassAt, IsUtf8At}
use Rattle.code_decode.specs.declared.code.ClassUnit.{ClassUnit}
use Rattle.code_decode.specs.declared.code.Code.{Code as MethodCode}
use Rattle.code_facts.specs.Facts.{PushesWords}
use Rattle.code_facts.proofs.CodeFacts.{push_words, have_words}
use Rattle.code_laws.specs.Accepted.{IsAcceptedCode}
use Rattle.code_laws.proofs.CodeLaws.{all_accepted}
use Rattle.code_steps.specs.Operands.{IsLoadable}
use Rattle.instructions.specs.declared.operation.Call.{Call}
use Rattle.instructions.specs.declared.operation.Call.TheVariants as call_kinds
use Rattle.instructions.specs.declared.operation.ClassUse.{ClassUse}
use Rattle.instructions.specs.declared.operation.ClassUse.TheVariants as uses
use Rattle.instructions.specs.declared.operation.FieldAccess.{FieldAccess}
use Rattle.instructions.specs.declared.operation.PrimitiveType.{PrimitiveType}
use Rattle.instructions.specs.declared.operation.PrimitiveType.TheVariants as primitives
use Rattle.instructions.specs.declared.what.Instr.{Instr}
use Rattle.instructions.specs.declared.what.Target.{Target}
use Rattle.instructions.specs.declared.what.What.{What}
use Rattle.instructions.specs.declared.what.What.TheVariants as whats
use Rattle.instructions.specs.Steps.{number_at}
use Rattle.link_types.specs.declared.operands.ClassOperand.{ClassOperand}
use Rattle.link_types.specs.declared.operands.MethodId.{MethodId}
use Rattle.link_types.specs.declared.operands.Operand.{Operand}
use Rattle.link_types.specs.declared.operands.Operand.TheVariants as operands
use Rattle.link_types.specs.declared.types.ObjectType.TheVariants.{Class, Array}
use Rattle.link_rules.specs.Arrays.{primitive_array, arrays_of_what, arrays_of_unit, steps_of_code}
use Rattle.link_rules.specs.Classes.{classes_of, number_of_file, class_name_at, utf8_at, is_array_name}
use Rattle.link_rules.specs.LinkRules.{link_rules}
use Rattle.link_rules.specs.Names.{program_names, is_class_number, string_number, type_numbered}
use Rattle.link_rules.specs.Operands.{operand, operand_of, class_operand}
use Rattle.link_rules.specs.Readers.{primitive_array_number}
use Rattle.link_rules.specs.Strings.{string_texts, literal_text}
use Rattle.link_rules.specs.Units.{AreUnits, IsDecoded}
use Rattle.link_rules.specs.Uses.{IsFieldOperand, IsMethodOperand, IsClassOperand, IsKnownClass}
use Rattle.link_rules.proofs.Arrays.{arrays}
use Rattle.link_rules.proofs.FieldUses.{fields_resolve}
use Rattle.link_rules.proofs.Lists.{contains_head, contains_at, contains_flat_map}
use Rattle.link_rules.proofs.Texts.{literals}
use Rattle.link_rules.proofs.Uses.{operand_at, classes_resolve, literals_resolve, calls_resolve, interface_calls_resolve}
use Rattle.type_rules.specs.Environments.{made_by}
use Rattle.type_rules.specs.FrameAfter.{array_type_of, primitive_element}
use Rattle.type_rules.specs.MapFrames.{object_type}
use Rattle.java_rows.specs.Program.{class_at}
use Rattle.row_soundness.specs.Accepted.{IsConstantOperand}
use Rattle.row_soundness.specs.Fits.{CodeOf, env_of}
use Rattle.program_soundness.proofs.Methods.{IsOfFile, of_file, instruction}
use Rattle.program_soundness.proofs.ClassNumbers.{numbers_are, no_array, array_made, primitive_made}

-- the name at an index is that of its entry
named_at : (pool : List Constant) (index n : ℕ) (name : List ℕ) → slice_get pool index ≡ Some (constants.Class n) → IsUtf8At pool n name → class_name_at pool index ≡ name
named_at pool index n name entry text = rw (entry, text) refl

module _ (us : List ClassUnit) (units : AreUnits us) (hold : (link_rules us).Hold) where
  decoded : (id : MethodId) (c : CodeOf us id) (of : IsOfFile us id c.member c.code) → IsDecoded of.unit
  decoded id c of = units of.file of.unit of.is.unit_there

  accepted_code : (id : MethodId) (c : CodeOf us id) (of : IsOfFile us id c.member c.code) → IsAcceptedCode of.unit.file id.method c.code
  accepted_code id c of = all_accepted of.unit.file of.unit.codes (decoded id c of).file (decoded id c of).codes id.method c.code of.is.code_there

  -- what the instruction pushes itself
  pushes : (id : MethodId) (c : CodeOf us id) (k : ℕ) (i : Instr Target) → slice_get c.code.steps k ≡ Some i → PushesWords i.what
  pushes id c k i there =
      let of = of_file us id c in
      push_words of.unit.file of.unit.codes (decoded id c of).file (decoded id c of).codes id.method c.code of.is.code_there k i there

  pub pushed : (id : MethodId) (c : CodeOf us id) (k at next : ℕ) (n : ℤ) → slice_get c.code.steps k ≡ Some (record { at = at; what = whats.Int n; next = next }) → cast_unsigned w32 n < 2 ^ 32
  pushed id c k at next n there = pushes id c k (record { at = at; what = whats.Int n; next = next }) there

  pub pushed_longs : (id : MethodId) (c : CodeOf us id) (k at next : ℕ) (n : ℤ) → slice_get c.code.steps k ≡ Some (record { at = at; what = whats.Long n; next = next }) → cast_unsigned w64 n < 2 ^ 64
  pushed_longs id c k at next n there = pushes id c k (record { at = at; what = whats.Long n; next = next }) there

  -- what an index of the method's class stands for
  stands_for : (id : MethodId) (c : CodeOf us id) (of : IsOfFile us id c.member c.code) (index : ℕ) (k : Constant) → slice_get of.unit.file.pool index ≡ Some k
      → operand us id.class index ≡ operand_of (program_names us) (number_of_file of.file) of.unit.file.pool index (Some k)
  stands_for id c of index k entry =
      ap (λ d. operand us d index) of.class
      ∙ (operand_at us of.file of.unit of.is.unit_there index
      ∙ ap (operand_of (program_names us) (number_of_file of.file) of.unit.file.pool index) entry)

  -- ---- constants

  pub constants_are : (id : MethodId) (c : CodeOf us id) (k at next index : ℕ) → slice_get c.code.steps k ≡ Some (record { at = at; what = whats.Constant index; next = next }) → IsConstantOperand us (operand us id.class index)
  constants_are id c k at next index there = by_entry ((accepted_code id c of).right.names k (record { at = at; what = whats.Constant index; next = next }) there)
    where
      of : IsOfFile us id c.member c.code
      of = of_file us id c

      by_class : (name : List ℕ) → IsClassAt of.unit.file.pool index name → is_array_name name ≡ false → IsConstantOperand us (operand us id.class index)
      by_class name (n, entry, text) plain =
          let spelled : class_name_at of.unit.file.pool index ≡ name = named_at of.unit.file.pool index n name entry text in
          let known : IsKnownClass (operand us (number_of_file of.file) index) =
          literals_resolve us hold of.file index n of.unit (instruction us id c of k at next (whats.Constant index) there) entry (ap (λ t. is_array_name t) spelled ∙ plain) in
          by_operand (operand us id.class index) refl (subst (λ d. IsKnownClass (operand us d index)) (sym of.class) known)
        where
          by_operand : (o : Operand) → operand us id.class index ≡ o → IsKnownClass o → IsConstantOperand us o
          by_operand (operands.Class o) same (d, kind, number) =
              (d, number, numbers_are us id.class index d (ap (λ x. option_and_then (λ (k : ClassOperand). k.number) (Rattle.java_rows.specs.Program.class_operand_of x)) same ∙ number))
          by_operand o same known = absurd known

      by_entry : IsLoadable of.unit.file.pool index → IsConstantOperand us (operand us id.class index)
      by_entry (inl (n, entry)) =
          subst (λ o. IsConstantOperand us o) (sym (stands_for id c of index (constants.Integer n) entry)) ((have_words of.unit.file (decoded id c of).file).ints index n entry)
      by_entry (inr (inl (text, entry))) =
          let there_text = literals us of.file index text of.unit of.is.unit_there entry in
          subst (λ o. IsConstantOperand us o) (sym (stands_for id c of index (constants.Str text) entry))
          (slice_get_within (string_texts us) (string_number (program_names us) (literal_text (utf8_at of.unit.file.pool text))) (literal_text (utf8_at of.unit.file.pool text)) there_text)
      by_entry (inr (inr (name, class, plain))) = by_class name class (no_array name plain)

  pub long_constants : (id : MethodId) (c : CodeOf us id) (k at next index : ℕ) → slice_get c.code.steps k ≡ Some (record { at = at; what = whats.LongConstant index; next = next })
      → (n : ℤ) × (operand us id.class index ≡ operands.Long n) × (cast_unsigned w64 n < 2 ^ 64)
  long_constants id c k at next index there =
      let of = of_file us id c in
      let (n, entry) = (accepted_code id c of).right.names k (record { at = at; what = whats.LongConstant index; next = next }) there in
      (n, stands_for id c of index (constants.Long n) entry, (have_words of.unit.file (decoded id c of).file).longs index n entry)

  -- ---- fields and methods

  pub fields_are : (id : MethodId) (c : CodeOf us id) (k at next index : ℕ) (access : FieldAccess) → slice_get c.code.steps k ≡ Some (record { at = at; what = whats.Field access index; next = next })
      → IsFieldOperand (program_names us) id.class access (operand us id.class index)
  fields_are id c k at next index access there =
      let of = of_file us id c in
      let (class, pair, entry) = (accepted_code id c of).right.names k (record { at = at; what = whats.Field access index; next = next }) there in
      subst (λ d. IsFieldOperand (program_names us) d access (operand us d index)) (sym of.class)
      (fields_resolve us units hold of.file index class pair of.unit access (instruction us id c of k at next (whats.Field access index) there) entry)

  pub calls_are : (id : MethodId) (c : CodeOf us id) (k at next index : ℕ) (call : Call) → slice_get c.code.steps k ≡ Some (record { at = at; what = whats.Call call index; next = next })
      → IsMethodOperand (classes_of us) id.class call (operand us id.class index)
  calls_are id c k at next index call there =
      let of = of_file us id c in
      let named = (accepted_code id c of).right.names k (record { at = at; what = whats.Call call index; next = next }) there in
      subst (λ d. IsMethodOperand (classes_of us) d call (operand us d index)) (sym of.class)
      (calls_resolve us hold of.file index named.class named.pair of.unit call (instruction us id c of k at next (whats.Call call index) there) named.entry)

  pub interface_calls_are : (id : MethodId) (c : CodeOf us id) (k at next index : ℕ) → slice_get c.code.steps k ≡ Some (record { at = at; what = whats.InterfaceCall index; next = next })
      → IsMethodOperand (classes_of us) id.class call_kinds.Virtual (operand us id.class index)
  interface_calls_are id c k at next index there =
      let of = of_file us id c in
      let (count, named) = (accepted_code id c of).right.names k (record { at = at; what = whats.InterfaceCall index; next = next }) there in
      subst (λ d. IsMethodOperand (classes_of us) d call_kinds.Virtual (operand us d index)) (sym of.class)
      (interface_calls_resolve us hold of.file index named.class named.pair of.unit (instruction us id c of k at next (whats.InterfaceCall index) there) named.entry)

  -- ---- classes

  pub class_uses : (id : MethodId) (c : CodeOf us id) (k at next index : ℕ) (purpose : ClassUse) → slice_get c.code.steps k ≡ Some (record { at = at; what = whats.Class purpose index; next = next })
      → IsClassOperand (classes_of us) purpose (operand us id.class index)
  class_uses id c k at next index purpose there =
      let of = of_file us id c in
      let (name, (n, entry, text), may) = (accepted_code id c of).right.names k (record { at = at; what = whats.Class purpose index; next = next }) there in
      subst (λ d. IsClassOperand (classes_of us) purpose (operand us d index)) (sym of.class)
      (classes_resolve us hold of.file index n of.unit purpose (instruction us id c of k at next (whats.Class purpose index) there) entry)

  pub made : (id : MethodId) (c : CodeOf us id) (k at next index : ℕ) → slice_get c.code.steps k ≡ Some (record { at = at; what = whats.Class uses.New index; next = next })
      → (env_of us id c).made_at at ≡ object_type (operand us id.class index)
  made id c k at next index there =
      let of = of_file us id c in
      let number : number_at c.code.steps at ≡ Some k = (accepted_code id c of).right.numbers k (record { at = at; what = whats.Class uses.New index; next = next }) there in
      ap (λ o. option_map_or (λ (i : Instr Target). made_by (operand us id.class) i.what) (option_and_then (slice_get c.code.steps) o) (Class OBJECT)) number
      ∙ ap (λ o. option_map_or (λ (i : Instr Target). made_by (operand us id.class) i.what) o (Class OBJECT)) there

  pub made_classes : (id : MethodId) (c : CodeOf us id) (at : ℕ) → (d : ℕ) × ((env_of us id c).made_at at ≡ Class d)
  made_classes id c at = by_number (number_at c.code.steps at)
    where
      of_operand : (o : Operand) → IsClassOperand (classes_of us) uses.New o → (d : ℕ) × (object_type o ≡ Class d)
      of_operand (operands.Class o) fits = (fits.0, fits.1)
      of_operand o fits = absurd fits

      by_what : (k : ℕ) (i : Instr Target) → slice_get c.code.steps k ≡ Some i → (w : What Target) → i.what ≡ w → (d : ℕ) × (made_by (operand us id.class) w ≡ Class d)
      by_what k i there (whats.Class uses.New index) same =
          of_operand (operand us id.class index) (class_uses id c k i.at i.next index uses.New (there ∙ ap (λ w. Some (record { at = i.at; what = w; next = i.next })) same))
      by_what k i there w same = (OBJECT, refl)

      by_step : (k : ℕ) (o : Option (Instr Target)) → slice_get c.code.steps k ≡ o → (d : ℕ) × (option_map_or (λ (i : Instr Target). made_by (operand us id.class) i.what) o (Class OBJECT) ≡ Class d)
      by_step k None e = (OBJECT, refl)
      by_step k (Some i) e = by_what k i e i.what refl

      by_number : (o : Option ℕ) → (d : ℕ) × (option_map_or (λ (i : Instr Target). made_by (operand us id.class) i.what) (option_and_then (slice_get c.code.steps) o) (Class OBJECT) ≡ Class d)
      by_number None = (OBJECT, refl)
      by_number (Some k) = by_step k (slice_get c.code.steps k) refl

  -- ---- arrays

  pub arrays_of : (id : MethodId) (c : CodeOf us id) (k at next index : ℕ) (o : ClassOperand) (n : ℕ) → slice_get c.code.steps k ≡ Some (record { at = at; what = whats.Class uses.NewArray index; next = next })
      → operand us id.class index ≡ operands.Class o → o.array ≡ Some n
      → (length (classes_of us) < n) × (is_class_number (program_names us) n ≡ true) × (type_numbered (program_names us) n ≡ array_type_of o.kind)
  arrays_of id c k at next index o n there e number =
      let of = of_file us id c in
      let (name, (m, entry, text), good, may) = (accepted_code id c of).uses k (record { at = at; what = whats.Class uses.NewArray index; next = next }) there in
      let spelled : class_name_at of.unit.file.pool index ≡ name = named_at of.unit.file.pool index m name entry text in
      let is : o ≡ class_operand (program_names us) name =
      same_class o (class_operand (program_names us) name) (sym e ∙ (stands_for id c of index (constants.Class m) entry ∙ ap (λ t. operands.Class (class_operand (program_names us) t)) spelled)) in
      let made = array_made us name n good may (sym (ap (λ (x : ClassOperand). x.array) is) ∙ number) in
      (made.0, made.1, made.2 ∙ ap (λ (x : ClassOperand). array_type_of x.kind) (sym is))
    where
      same_class : (a b : ClassOperand) → ◌≡◌ {A = Operand} (operands.Class a) (operands.Class b) → a ≡ b
      same_class a b same = cc

  pub primitive_arrays : (id : MethodId) (c : CodeOf us id) (k at next : ℕ) (kind : PrimitiveType) → slice_get c.code.steps k ≡ Some (record { at = at; what = whats.NewArray kind; next = next })
      → (n : ℕ) × (primitive_array_number (program_names us) kind ≡ Some n) × (length (classes_of us) < n) × (is_class_number (program_names us) n ≡ true) × (type_numbered (program_names us) n ≡ Array 1 (primitive_element kind))
  primitive_arrays id c k at next kind there =
      let of = of_file us id c in
      primitive_made us kind ((arrays us).used of.file of.unit (primitive_array kind) of.is.unit_there
      (arrays_used of.unit id.method c.code of.is.code_there k at next kind there) (primitive_is_array kind))
    where
      primitive_is_array : (kind : PrimitiveType) → is_array_name (primitive_array kind) ≡ true
      primitive_is_array primitives.Boolean = refl
      primitive_is_array primitives.Char = refl
      primitive_is_array primitives.Byte = refl
      primitive_is_array primitives.Short = refl
      primitive_is_array primitives.Int = refl
      primitive_is_array primitives.Long = refl

      arrays_used : (u : ClassUnit) (method : ℕ) (code : MethodCode) → slice_get u.codes method ≡ Some (Some code) → (k at next : ℕ) (kind : PrimitiveType)
          → slice_get code.steps k ≡ Some (record { at = at; what = whats.NewArray kind; next = next }) → Contains (arrays_of_unit u) (primitive_array kind)
      arrays_used u method code coded k at next kind step =
          contains_flat_map (λ (s : Instr Target). arrays_of_what u.file.pool s.what) (flat_map steps_of_code u.codes) (record { at = at; what = whats.NewArray kind; next = next }) (primitive_array kind)
          (contains_flat_map steps_of_code u.codes (Some code) (record { at = at; what = whats.NewArray kind; next = next }) (contains_at u.codes method (Some code) coded) (contains_at code.steps k (record { at = at; what = whats.NewArray kind; next = next }) step))
          (contains_head (primitive_array kind) [])
