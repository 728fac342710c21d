-- The texts of a class file.
use Rattle.std.proofs.Common.{◌≡◌, ℕ, List, ap, subst}
use Rattle.class_walk.specs.declared.class.Constant.{Constant}
use Rattle.class_walk.specs.declared.class.Constant.TheVariants.{Utf8}
use Rattle.class_names.specs.ModifiedUtf8.{IsModifiedUtf8}
use Rattle.class_read.specs.declared.class_file.ClassFile.{ClassFile}
use Rattle.class_read.specs.ClassFile.{IsFile}
use Rattle.class_pool.specs.Pool.{IsUtf8At}

-- each text of a class file is modified UTF-8
pub text_is_formed : (bytes : List ℕ) (file : ClassFile) (index : ℕ) (text : List ℕ) → IsFile bytes file → IsUtf8At file.pool index text → IsModifiedUtf8 text
text_is_formed bytes file index text is at =
    let same : file.pool ≡ is.0.pool = ap (λ (f : ClassFile). f.pool) is.3 in
    let P : List Constant → Type 0 = λ pool. IsUtf8At pool index text in
    (is.2.pool index (Utf8 text) (subst P same at)).0

-- at most one text is at an index
pub same_bytes : (pool : List Constant) (index : ℕ) (a b : List ℕ) → IsUtf8At pool index a → IsUtf8At pool index b → a ≡ b
same_bytes pool index a b p q = cc
