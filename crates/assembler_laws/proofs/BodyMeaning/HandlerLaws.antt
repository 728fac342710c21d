-- A line that is a handler appends an entry to the exception table, as the line says it.
use Rattle.std.proofs.Common.{◌≡◌, ℕ, nat_lt, List, [], ◌∷◌, ◌++◌, length, Option, Some, None, sym, subst}
use Rattle.std.proofs.lemmas.Option.{same_Some}
use Rattle.class_walk.specs.declared.class.Constant.{Constant}
use Rattle.class_walk.specs.declared.class.RawHandler.{RawHandler}
use Rattle.assembler_pool.specs.Uses.{Extends}
use Rattle.assembler_pool.specs.Items.{class_named}
use Rattle.assembler_pool.proofs.ItemLaws.{item_stays}
use Rattle.assembler_bodies.specs.Making.{with_pool}
use Rattle.assembler_bodies.specs.Labels.{Marks}
use Rattle.assembler_bodies.specs.Offsets.{short_offset_of}
use Rattle.assembler_bodies.specs.Body.{MadeBody, caught, put_handler, with_handler}
use Rattle.assembler_bodies.proofs.GrowLaws.{used_is}
use Rattle.assembler_bodies.proofs.ShapeLaws.{parts_of, known_of}
use Rattle.assembler_bodies.proofs.StepLaws.{chosen}
use Rattle.assembler_laws.specs.BodyMeaning.Parts.{SaidHandler}
use Rattle.assembler_laws.specs.BodyMeaning.Tables.{IsCaught}
use Rattle.assembler_laws.proofs.BodyMeaning.WritesLaws.{Leads, short_leads}

-- an entry of the exception table that is made of what a line says
pub record IsRaw (marks : Marks) (pool : List Constant) (said : SaidHandler) (raw : RawHandler) : Type 0 where
  pub first : Leads marks said.from raw.from
  pub end : Leads marks said.to raw.to
  pub entry : Leads marks said.at raw.at
  pub caught : IsCaught pool said.class raw.kind

record Catches (class : Option (List ℕ)) (pool : List Constant) (x : List Constant × ℕ) : Type 0 where
  pub is : (last : List Constant) → Extends x.0 last → IsCaught last class x.1

catches : (class : Option (List ℕ)) (pool : List Constant) (x : List Constant × ℕ) → caught class pool ≡ Some x → Catches class pool x
unfolding caught
catches None pool x e =
    let known = known_of pool (Some 0) x e in
    record { is = λ last more. sym (same_Some 0 x.1 known.found) }
catches (Some class) pool x e =
    let is = used_is (class_named class) pool x e in
    record { is = λ last more. item_stays (class_named class) x.0 last x.1 more is.at }

-- the body with an entry more
abbrev pub with_raw : MadeBody → RawHandler → MadeBody
with_raw body raw = record body { handlers = body.handlers ++ raw ∷ [] }

raw_put : (raw : RawHandler) (old new : MadeBody) → put_handler raw old ≡ Some new → new ≡ with_raw old raw
unfolding put_handler
raw_put raw old new e = (chosen (nat_lt (length old.handlers) 65535) (with_raw old raw) new e).1

pub record PutsHandler (marks : Marks) (said : SaidHandler) (old : MadeBody) (pool : List Constant) (x : List Constant × MadeBody) : Type 0 where
  pub raw : RawHandler
  pub is : (last : List Constant) → Extends x.0 last → IsRaw marks last said raw
  pub put : x.1 ≡ with_raw old raw

pub handler_put : (marks : Marks) (from to at : List ℕ) (class : Option (List ℕ)) (old : MadeBody) (pool : List Constant) (x : List Constant × MadeBody)
    → with_handler marks from to at class old pool ≡ Some x → PutsHandler marks (record { from = from; to = to; at = at; class = class }) old pool x
unfolding with_handler
handler_put marks from to at class old pool x e =
    let p = parts_of (with_pool pool (short_offset_of marks from)) _ x e in
    let q = parts_of (with_pool p.made.0 (short_offset_of marks to)) _ x p.next_is in
    let r = parts_of (with_pool q.made.0 (short_offset_of marks at)) _ x q.next_is in
    let k = parts_of (caught class r.made.0) _ x r.next_is in
    let known_first = known_of pool (short_offset_of marks from) p.made p.first_is in
    let known_end = known_of p.made.0 (short_offset_of marks to) q.made q.first_is in
    let known_entry = known_of q.made.0 (short_offset_of marks at) r.made r.first_is in
    let kind = catches class r.made.0 k.made k.first_is in
    let raw : RawHandler = record { from = p.made.1; to = q.made.1; at = r.made.1; kind = k.made.1 } in
    let end = known_of k.made.0 (put_handler raw old) x k.next_is in
    record {
      raw = raw;
      is = λ last more. record {
        first = (short_leads marks from p.made.1 known_first.found).0;
        end = (short_leads marks to q.made.1 known_end.found).0;
        entry = (short_leads marks at r.made.1 known_entry.found).0;
        caught = kind.is last (subst (λ (l : List Constant). Extends l last) (sym end.pool_is) more);
      };
      put = raw_put raw old x.1 end.found;
    }
