-- The class files of the generated load.
use Rattle.std.specs.Prelude.{List, [], ◌∷◌, ℕ, Ok, codes}
use Rattle.class_make.specs.Texts.{IsAssembled}

-- one file for each text, in order, which is what the text is assembled to
abbrev pub AreClasses : List (List ℕ) → List (List ℕ) → Type 0
AreClasses [] [] = Unit {0}
AreClasses (text ∷ texts) (file ∷ files) = IsAssembled text (Ok file) × AreClasses texts files
AreClasses _ _ = ⊥

-- the names of the files, in the order of the texts
abbrev pub stress_names : List (List ℕ)
stress_names = codes "Stress.class" ∷ codes "StressWorker.class" ∷ []
