-- Which files are accepted, by what was read of them.
use Rattle.std.proofs.Common.{◌≡◌, ◌↔◌, ℕ, List, Bool, false, IsTrue, IfOk, Result, Ok, Err, sym, subst}
use Rattle.class_read.specs.declared.class_file.ClassFile.{ClassFile}
use Rattle.class_read.specs.ClassFile.{IsFile}
use Rattle.class_show.specs.Accepted.{IsAccepted, HasCodes}

pub by_codes : {E : Type 0} (result : Result Bool E) (bytes : List ℕ) (file : ClassFile) → IsFile bytes file → ((other : ClassFile) → IsFile bytes other → file ≡ other)
    → IfOk result (λ accepted. IsTrue accepted ↔ HasCodes file) → IfOk result (λ accepted. IsTrue accepted ↔ IsAccepted bytes)
by_codes (Ok accepted) bytes file is only codes =
    (λ t. (file, is, codes.0 t), λ some. codes.1 (subst HasCodes (sym (only some.0 some.1)) some.2))
by_codes (Err e) bytes file is only codes = tt

pub no_file : (bytes : List ℕ) → ((file : ClassFile) → IsFile bytes file → ⊥) → IsTrue false ↔ IsAccepted bytes
no_file bytes none = (λ t. absurd (cc), λ some. absurd (none some.0 some.1))
