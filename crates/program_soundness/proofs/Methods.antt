-- A method with code is one of a class of a file.
use Rattle.std.proofs.Common.{◌≡◌, ◌<◌, ◌+◌, ◌-◌, ◌&&◌, ℕ, suc, Bool, true, false, Option, None, Some, List, [], length, map, slice_get, refl, sym, ap, subst, ◌∙◌, arith, nat_le, nat_lt, if◌then◌else◌}
use Rattle.std.specs.Prelude.{option_map, option_and_then}
use Rattle.std.specs.Option.{option_map_or, option_flatten}
use Rattle.std.proofs.lemmas.Bool.{leb-false, lt-ltb, le-leb}
use Rattle.std.proofs.lemmas.Option.{same_Some, none-some, slice_get-map, slice_get_within}
use Rattle.builtin_world.specs.declared.number.TheConstants.{COUNT}
use Rattle.class_read.specs.declared.class_file.Member.{Member}
use Rattle.code_decode.specs.declared.code.ClassUnit.{ClassUnit}
use Rattle.code_decode.specs.declared.code.Code.{Code as MethodCode}
use Rattle.instructions.specs.declared.what.Target.{Target}
use Rattle.instructions.specs.declared.what.What.{What}
use Rattle.link_types.specs.declared.operands.MethodId.{MethodId}
use Rattle.link_rules.specs.Classes.{NamedClass, NamedMember, classes_of, methods_of, member_of_file, number_of_file, unit_numbered}
use Rattle.link_rules.specs.Methods.{method_named}
use Rattle.link_rules.specs.Names.{program_names}
use Rattle.link_rules.specs.Operands.{operand}
use Rattle.link_rules.specs.Units.{AreUnits}
use Rattle.link_rules.specs.Uses.{IsInstruction}
use Rattle.link_rules.proofs.Numbers.{class_count_is, file_class}
use Rattle.link_rules.proofs.Objects.{unit_of_file}
use Rattle.type_rules.specs.Environments.{environment}
use Rattle.type_rules.specs.TypeSafe.{IsTypeSafe}
use Rattle.type_rules.specs.VerifyRules.{verify_rules}
use Rattle.type_laws.specs.Inside.{StaysInside}
use Rattle.type_laws.specs.Programs.{IsMethodWithCode}
use Rattle.type_laws.proofs.Environments.{are_safe}
use Rattle.type_laws.proofs.Insides.{stay_inside}
use Rattle.java_rows.specs.Program.{is_of_file}
use Rattle.row_soundness.specs.Fits.{CodeOf, env_of}

pub from_map : {A B : Type 0} (f : A → B) (o : Option A) (b : B) → option_map f o ≡ Some b → (a : A) × (o ≡ Some a) × (f a ≡ b)
from_map f None b e = absurd (none-some b e)
from_map f (Some a) b e = (a, refl, same_Some (f a) b e)

pub both_true : (a b : Bool) → a ≡ true → b ≡ true → (a && b) ≡ true
both_true true b e f = f
both_true false b e f = cc

module _ (us : List ClassUnit) where
  -- the methods of the class of a file
  pub methods_of_file : (k : ℕ) (u : ClassUnit) → slice_get us k ≡ Some u → methods_of (classes_of us) (number_of_file k) ≡ map (member_of_file u.file.pool) u.file.methods
  methods_of_file k u there = ap (λ o. option_map_or (λ (c : NamedClass). c.methods) o []) (file_class us k u there)

  -- the file, the class and the member of a method with code
  pub record IsOfFile (id : MethodId) (named : NamedMember) (code : MethodCode) : Type 0 where
    pub file : ℕ
    pub unit : ClassUnit
    pub member : Member
    pub is : IsMethodWithCode us file id.method unit member code
    pub class : id.class ≡ number_of_file file
    pub same : named ≡ member_of_file unit.file.pool member

  in_file : (c : ℕ) (u : ClassUnit) (b : Bool) → nat_le c COUNT ≡ b → (if b then None else slice_get us (c - suc COUNT)) ≡ Some u → (COUNT < c) × (slice_get us (c - suc COUNT) ≡ Some u)
  in_file c u true e is = absurd (none-some u is)
  in_file c u false e is = (leb-false c COUNT e, is)

  pub unit_found : (c : ℕ) (u : ClassUnit) → unit_numbered us c ≡ Some u → (k : ℕ) × (c ≡ number_of_file k) × (slice_get us k ≡ Some u)
  unit_found c u is = let found = in_file c u (nat_le c COUNT) refl is in let above = found.0 in (c - suc COUNT, omega (arith, above), found.1)

  flat : (o : Option (Option MethodCode)) (code : MethodCode) → option_flatten o ≡ Some code → o ≡ Some (Some code)
  flat None code e = absurd (none-some code e)
  flat (Some None) code e = absurd (none-some code e)
  flat (Some (Some x)) code e = ap (λ y. Some (Some y)) (same_Some x code e)

  code_found : (method : ℕ) (o : Option ClassUnit) (code : MethodCode) → option_flatten (option_and_then (λ (u : ClassUnit). slice_get u.codes method) o) ≡ Some code
      → (u : ClassUnit) × (o ≡ Some u) × (slice_get u.codes method ≡ Some (Some code))
  code_found method None code e = absurd (none-some code e)
  code_found method (Some u) code e = (u, refl, flat (slice_get u.codes method) code e)

  pub of_file : (id : MethodId) (c : CodeOf us id) → IsOfFile id c.member c.code
  of_file id c =
      let (u, numbered, there) = code_found id.method (unit_numbered us id.class) c.code c.coded in
      let (k, class, at) = unit_found id.class u numbered in
      let named : slice_get (map (member_of_file u.file.pool) u.file.methods) id.method ≡ Some c.member =
      ap (λ ms. slice_get ms id.method) (sym (methods_of_file k u at)) ∙ (ap (λ d. slice_get (methods_of (classes_of us) d) id.method) (sym class) ∙ c.named) in
      let (m, member, same) = from_map (member_of_file u.file.pool) (slice_get u.file.methods id.method) c.member (sym (slice_get-map (member_of_file u.file.pool) u.file.methods id.method) ∙ named) in
      record { file = k; unit = u; member = m; is = record { unit_there = at; member_there = member; code_there = there }; class = class; same = sym same }

  -- and the other way round
  pub file_code : (id : MethodId) (k : ℕ) (u : ClassUnit) (m : NamedMember) (code : MethodCode) → id.class ≡ number_of_file k → slice_get us k ≡ Some u → method_named (classes_of us) id ≡ Some m
      → slice_get u.codes id.method ≡ Some (Some code) → CodeOf us id
  file_code id k u m code class at named there = record {
    member = m;
    code = code;
    named = named;
    coded =
        ap (λ d. option_flatten (option_and_then (λ (x : ClassUnit). slice_get x.codes id.method) (unit_numbered us d))) class
        ∙ (ap (λ o. option_flatten (option_and_then (λ (x : ClassUnit). slice_get x.codes id.method) o)) (unit_of_file us k ∙ at)
        ∙ ap (λ o. option_flatten o) there);
  }

  pub files : (id : MethodId) → CodeOf us id → is_of_file us id.class ≡ true
  files id c =
      let of = of_file id c in
      let within : of.file < length us = slice_get_within us of.file of.unit of.is.unit_there in
      let count : length (classes_of us) ≡ 28 + length us = class_count_is us in
      let class = of.class in
      both_true (nat_lt COUNT id.class) (nat_le id.class (length (classes_of us))) (lt-ltb COUNT id.class (omega (arith, class))) (le-leb id.class (length (classes_of us)) (omega (arith, class, within, count)))

  -- what holds of the environment of the file holds of that of the method
  same_environment : (id : MethodId) (c : CodeOf us id) (P : Rattle.type_rules.specs.Environment.Environment → Type 0) (of : IsOfFile id c.member c.code)
      → P (environment (program_names us) (operand us (number_of_file of.file)) (number_of_file of.file) (member_of_file of.unit.file.pool of.member) c.code) → P (env_of us id c)
  same_environment id c P of holds =
      subst (λ d. P (environment (program_names us) (operand us d) d c.member c.code)) (sym of.class)
      (subst (λ (n : NamedMember). P (environment (program_names us) (operand us (number_of_file of.file)) (number_of_file of.file) n c.code)) (sym of.same) holds)

  pub safe : (verify_rules us).Hold → (id : MethodId) (c : CodeOf us id) → IsTypeSafe (env_of us id c)
  safe holds id c =
      let of = of_file id c in
      same_environment id c (λ env. IsTypeSafe env) of (are_safe us holds of.file id.method of.unit of.member c.code of.is)

  pub inside : AreUnits us → (id : MethodId) (c : CodeOf us id) → StaysInside (env_of us id c)
  inside units id c =
      let of = of_file id c in
      same_environment id c (λ env. StaysInside env) of (stay_inside us of.file id.method of.unit of.member c.code (units of.file of.unit of.is.unit_there) of.is)

  -- an instruction of the method is one of the file
  pub instruction : (id : MethodId) (c : CodeOf us id) (of : IsOfFile id c.member c.code) (k at next : ℕ) (what : What Target) → slice_get c.code.steps k ≡ Some (record { at = at; what = what; next = next })
      → IsInstruction us of.file of.unit what
  instruction id c of k at next what there = record {
    unit = of.is.unit_there;
    method = id.method;
    code = c.code;
    there = of.is.code_there;
    place = k;
    step = record { at = at; what = what; next = next };
    at = there;
    same = refl;
  }
