-- The code that is decoded of a method is what the body's lines say.
use Rattle.std.proofs.Common.{◌≡◌, ℕ, zero, suc, List, [], ◌∷◌, Option, Some, None, refl, sym, subst, slice_get}
use Rattle.std.specs.List.{AllZip}
use Rattle.class_walk.specs.declared.class.Constant.{Constant}
use Rattle.class_read.specs.declared.class_file.ClassFile.{ClassFile}
use Rattle.class_read.specs.declared.class_file.CodeAttribute.{CodeAttribute}
use Rattle.code_decode.specs.declared.code.Code.{Code}
use Rattle.code_decode.specs.Code.{IsCode}
use Rattle.code_decode.specs.Method.{IsCodeOf}
use Rattle.assembler_text.specs.declared.lines.Numbered.{Numbered}
use Rattle.assembler_laws.specs.ClassMeaning.Parts.{SaidBody, SaidMethod, methods_in}
use Rattle.assembler_laws.specs.ClassMeaning.Class.{SaysCode, SaysMethod, IsClassOf, IsCodeOfMethod}

-- the counterpart of an item
across : {A B : Type 0} (R : A → B → Type 0) (xs : List A) (ys : List B) (k : ℕ) (y : B) → AllZip R xs ys → slice_get ys k ≡ Some y → (x : A) × (slice_get xs k ≡ Some x) × R x y
across R [] [] k y zip at = absurd (let none : None ≡ Some y = at in cc)
across R [] (z ∷ ys) k y zip at = absurd zip
across R (x ∷ xs) [] k y zip at = absurd zip
across R (x ∷ xs) (z ∷ ys) zero y zip at = (x, refl, (let same : z ≡ y = cc in subst (λ w. R x w) same zip.0))
across R (x ∷ xs) (z ∷ ys) (suc k) y zip at = across R xs ys k y zip.1 at

by_body : (pool : List Constant) (said : SaidMethod) (body : Option SaidBody) (a : CodeAttribute) (entry : ℕ) (code : Code) → said.body ≡ body → SaysCode pool body (Some a) → IsCode pool entry a code
    → IsCodeOfMethod pool (Some said) code
by_body pool said None a entry code is says decoded = absurd says
by_body pool said (Some body) a entry code is says decoded = (body, is, says entry code decoded)

pub decoded_code_is : (lines : List Numbered) (file : ClassFile) (method : ℕ) (code : Code) → IsClassOf lines file → IsCodeOf file method code
    → IsCodeOfMethod file.pool (slice_get (methods_in lines) method) code
decoded_code_is lines file method code class (m, a, with_code, decoded) =
    let found = across (SaysMethod file.pool) (methods_in lines) file.methods method m class.methods with_code.0 in
    let says : SaysCode file.pool found.0.body (Some a) = subst (λ (o : Option CodeAttribute). SaysCode file.pool found.0.body o) with_code.1 found.2.code in
    subst (λ (o : Option SaidMethod). IsCodeOfMethod file.pool o code) (sym found.1) (by_body file.pool found.0 found.0.body a decoded.0 code refl says decoded.2)
