-- The method with which a program begins.
use Rattle.std.proofs.Common.{◌≡◌, ◌<◌, ◌≤◌, ◌^◌, ◌&&◌, ℕ, Option, None, Some, List, length, slice_get, bytes_eq, codes, refl, sym, ap, subst, ◌∙◌, arith}
use Rattle.std.specs.Prelude.{option_map, option_and_then, position}
use Rattle.std.proofs.lemmas.Bool.{and_parts}
use Rattle.std.proofs.lemmas.Option.{none-some, slice_get-map}
use Rattle.std.proofs.lemmas.Iterator.Adapters.{position_from-zero}
use Rattle.std.proofs.lemmas.Slice.Eq.{bytes_eq-Decides}
use Rattle.access_flags.specs.declared.TheConstants.{STATIC}
use Rattle.access_flags.specs.Flags.{has}
use Rattle.class_read.specs.declared.class_file.Member.{Member}
use Rattle.code_decode.specs.declared.code.ClassUnit.{ClassUnit}
use Rattle.link_types.specs.declared.operands.MethodId.{MethodId}
use Rattle.link_rules.specs.Classes.{NamedMember, classes_of, member_of_file}
use Rattle.link_rules.specs.FixedObjects.{first_free}
use Rattle.link_rules.specs.LinkRules.{link_rules}
use Rattle.link_rules.specs.Names.{program_names}
use Rattle.link_rules.specs.Units.{AreUnits}
use Rattle.link_rules.proofs.Lists.{Found, found_at}
use Rattle.linker.specs.Tables.{HasOrder}
use Rattle.program_soundness.proofs.Methods.{from_map, methods_of_file}
use Rattle.op_core.specs.Orderly.{IsOrderly}
use Rattle.program_accept.specs.Accepted.{Accepted, IsProgram}
use Rattle.program_accept.specs.Main.{is_main, is_named, main_of_file, main_at, main_method}
use Rattle.type_rules.specs.VerifyRules.{method_of_file}
use Rattle.program_soundness.specs.Soundness.{HasRoom}
use Rattle.java_rows.specs.Thread.{java_code, first_state}
use Rattle.java_rows.specs.Start.{start_of_program}
use Rattle.program_soundness.specs.Programs.{IsMainMethod}
use Rattle.program_soundness.specs.Starts.{RunsFit}
use Rattle.program_soundness.proofs.StartLaws.{runs_fit}
use Rattle.accepted_runs.specs.Waiting.{StuckRunsWait}
use Rattle.accepted_runs.proofs.waiting_runs.Waiting.{stuck_wait}
use Rattle.program_soundness.proofs.Programs.{go_in_order}
use Rattle.program_soundness.proofs.ThreadLaws.{programs_have_room}
use Rattle.accepted_runs.specs.Programs.{IsSoundProgram}

then_some : {A B : Type 0} (f : A → Option B) (o : Option A) (b : B) → option_and_then f o ≡ Some b → (a : A) × (o ≡ Some a) × (f a ≡ Some b)
then_some f None b e = absurd (none-some b e)
then_some f (Some a) b e = (a, refl, e)

pub main_is : (us : List ClassUnit) (name : List ℕ) (main : MethodId) → main_method us name ≡ Some main → IsMainMethod us main
main_is us name main e =
    let (k, found, at) = then_some (main_at us) (position (is_named name) us) main e in
    let (u, there, of) = then_some (main_of_file k) (slice_get us k) main at in
    let (j, placed, same) = from_map (method_of_file k) (position (λ (m : Member). is_main (member_of_file u.file.pool m)) u.file.methods) main of in
    let f : Found (λ (m : Member). is_main (member_of_file u.file.pool m)) u.file.methods j = found_at (λ (m : Member). is_main (member_of_file u.file.pool m)) u.file.methods j (sym (position_from-zero (λ (m : Member). is_main (member_of_file u.file.pool m)) u.file.methods) ∙ placed) in
    let member : NamedMember = member_of_file u.file.pool f.item in
    let parts = and_parts (has member.flags STATIC) (bytes_eq member.name (codes "main") && bytes_eq member.descriptor (codes "([Ljava/lang/String;)V")) f.passes in
    let others = and_parts (bytes_eq member.name (codes "main")) (bytes_eq member.descriptor (codes "([Ljava/lang/String;)V")) parts.1 in
    subst (λ (id : MethodId). IsMainMethod us id) same (record {
      member = member;
      named = ap (λ ms. slice_get ms j) (methods_of_file us k u there) ∙ (slice_get-map (member_of_file u.file.pool) u.file.methods j ∙ ap (λ o. option_map (member_of_file u.file.pool) o) f.there);
      read = omega arith;
      static = parts.0;
      descriptor = (bytes_eq-Decides member.descriptor (codes "([Ljava/lang/String;)V")).0 others.1;
    })

pub is_sound : (p : Accepted) (files : List (List ℕ)) (name : List ℕ) → AreUnits p.units → (link_rules p.units).Hold → HasOrder p.units → IsProgram files name p → IsSoundProgram p
is_sound p files name decoded hold order is =
    (order.0, record { units = decoded; linked = record { rules = hold; order = order.1 }; verified = is.is.safe }, main_is p.units name p.main is.is.main)

pub is_orderly : (p : Accepted) (files : List (List ℕ)) (name : List ℕ) (classes : ℕ) → AreUnits p.units → (link_rules p.units).Hold → HasOrder p.units → IsProgram files name p → length (classes_of p.units) < classes
    → IsOrderly java_code (first_state p.units p.main) classes
is_orderly p files name classes decoded hold order is below =
    let (places, sound, main) = is_sound p files name decoded hold order is in go_in_order p.units places p.main classes sound main below

pub has_room : (p : Accepted) (files : List (List ℕ)) (name : List ℕ) → AreUnits p.units → (link_rules p.units).Hold → HasOrder p.units → IsProgram files name p → (first : ℕ) → first ≡ first_free (program_names p.units) → first < 2 ^ 30
    → HasRoom p.units
has_room p files name decoded hold order is first value small =
    let (places, sound, main) = is_sound p files name decoded hold order is in
    let below : first ≤ 2 ^ 32 = omega arith in
    programs_have_room p.units places sound (subst (λ n. n ≤ 2 ^ 32) value below)

pub runs_are_fit : (p : Accepted) (files : List (List ℕ)) (name : List ℕ) → AreUnits p.units → (link_rules p.units).Hold → HasOrder p.units → IsProgram files name p → (first : ℕ) → first ≡ first_free (program_names p.units) → first < 2 ^ 30
    → RunsFit p.units (start_of_program p.units p.main)
runs_are_fit p files name decoded hold order is first value small =
    let (places, sound, main) = is_sound p files name decoded hold order is in
    let below : first ≤ 2 ^ 32 = omega arith in
    runs_fit p.units places p.main sound (subst (λ n. n ≤ 2 ^ 32) value below) main

pub stuck_waits : (p : Accepted) (files : List (List ℕ)) (name : List ℕ) → AreUnits p.units → (link_rules p.units).Hold → HasOrder p.units → IsProgram files name p → (first : ℕ) → first ≡ first_free (program_names p.units) → first < 2 ^ 30
    → StuckRunsWait p.units p.main
stuck_waits p files name decoded hold order is first value small =
    let (places, sound, main) = is_sound p files name decoded hold order is in
    let below : first ≤ 2 ^ 32 = omega arith in
    stuck_wait p.units p.main places sound (subst (λ n. n ≤ 2 ^ 32) value below) main
