-- Decoded classes.
use Rattle.std.proofs.Common.{List, [], ◌∷◌, ◌++◌, sym, subst, inl, inr}
use Rattle.class_read.specs.declared.class_file.ClassFile.{ClassFile}
use Rattle.class_pool.proofs.Lists.{slice_get-push}
use Rattle.code_decode.specs.declared.code.ClassUnit.{ClassUnit}
use Rattle.code_decode.specs.Method.{StandsForFile}
use Rattle.code_decode.specs.Unit.{AreCodes, IsUnit}
use Rattle.link_rules.specs.Units.{AreUnits, IsDecoded}

pub none_yet : AreUnits []
none_yet k u at = cc

pub one_more : (us : List ClassUnit) (u : ClassUnit) → AreUnits us → IsDecoded u → AreUnits (us ++ u ∷ [])
one_more us u all one k v at =
    elim (slice_get-push us u v k at) [
      | inl before ↦ all k v before
      | inr last ↦ subst IsDecoded last.1 one
    ]

pub of_file : (file : ClassFile) (u : ClassUnit) → StandsForFile file → IsUnit file u → IsDecoded u
of_file file u stands is = record {
  file = subst StandsForFile (sym is.same) stands;
  codes =
      let P : ClassFile → Type 0 = λ f. AreCodes f u.codes in
      subst P (sym is.same) is.codes;
}
