-- Rows that have the same units and no less room.
use Rattle.std.proofs.Common.{◌≡◌, ◌≤◌, ◌+◌, ◌^◌, List, length, refl, sym, subst, arith}
use Rattle.code_decode.specs.declared.code.ClassUnit.{ClassUnit}
use Rattle.interp_texts.specs.Rows.{UnitsWithRoom}
use Rattle.interp_texts.specs.Meaning.{known_units, IsRead, HasRoom}
use Rattle.interp_texts.specs.declared.stage.Known.{Known}
use Rattle.interp_texts.specs.declared.stage.Known.TheVariants as knowns
use Rattle.interp_texts.specs.declared.stage.Part.TheVariants as parts
use Rattle.interp_texts.specs.declared.stage.TextStage.{TextStage}
use Rattle.interp_texts.specs.declared.stage.TextStage.TheVariants as at

pub known_same : (us : List ClassUnit) (k : Known) (r q : UnitsWithRoom) → r.units ≡ q.units → known_units us k r ≡ known_units us k q
known_same us (knowns.Literal n) r q same = refl
known_same us knowns.Read r q same = same

pub room_kept : (st : TextStage) (k l : Known) (f g s t m o : UnitsWithRoom) → f.spare ≤ g.spare → s.spare ≤ t.spare → o.units ≡ m.units
    → HasRoom st k f l s m → HasRoom st k g l t o
room_kept (at.AsksUnit parts.First array i n) k l f g s t m o more_first more_second same has = let n_in = has.0 in (omega (arith, n_in, more_first), has.1)
room_kept (at.AsksUnit parts.Second array i n) k l f g s t m o more_first more_second same has = let n_in = has.0 in (omega (arith, n_in, more_second), has.1)
room_kept (at.AsksArray class) k l f g s t m o more_first more_second same has = subst (λ us. length us + 1 ≤ 2 ^ 31) (sym same) has
room_kept (at.AsksWrite array i n) k l f g s t m o more_first more_second same has = has
room_kept at.AsksOther k l f g s t m o more_first more_second same has = tt
room_kept at.AsksBuilder k l f g s t m o more_first more_second same has = tt
room_kept (at.AsksWord p r) k l f g s t m o more_first more_second same has = tt
room_kept (at.AsksNumber p r) k l f g s t m o more_first more_second same has = tt
room_kept (at.AsksSize p r) k l f g s t m o more_first more_second same has = tt
room_kept (at.TakesRoom p r n) k l f g s t m o more_first more_second same has = tt
room_kept (at.MakesRoom tail) k l f g s t m o more_first more_second same has = tt
room_kept (at.AsksString r) k l f g s t m o more_first more_second same has = tt
room_kept (at.AsksBind array r) k l f g s t m o more_first more_second same has = tt
room_kept (at.AsksKeep r) k l f g s t m o more_first more_second same has = tt

-- ---- a text that is in its row

pub read_is : (k : Known) → IsRead k → k ≡ knowns.Read
read_is knowns.Read is = refl
read_is (knowns.Literal n) is = absurd is

pub is_read : (k : Known) → k ≡ knowns.Read → IsRead k
is_read k is = subst IsRead (sym is) tt
