-- Class files, text by text.
use Rattle.std.proofs.Common.{◌≡◌, ℕ, List, [], ◌∷◌, map, Ok, Vec, Global, sym, subst}
use Rattle.class_make.specs.Texts.{IsAssembled}
use Rattle.stress_texts.specs.Texts.{stress_text, worker_text, stress_texts}
use Rattle.stress_texts.specs.Classes.{AreClasses}

pub are_classes : (n : ℕ) (stress worker : List ℕ) (first second : Vec ℕ Global) (files : List (Vec ℕ Global)) → files ≡ first ∷ second ∷ []
    → stress ≡ stress_text n → worker ≡ worker_text → IsAssembled stress (Ok first.items) → IsAssembled worker (Ok second.items)
    → AreClasses (stress_texts n) (map (λ (file : Vec ℕ Global). file.items) files)
are_classes n stress worker first second files both p q h k =
    subst (λ (all : List (Vec ℕ Global)). AreClasses (stress_texts n) (map (λ (file : Vec ℕ Global). file.items) all)) (sym both)
    (subst (λ (t : List ℕ). IsAssembled t (Ok first.items)) p h, (subst (λ (t : List ℕ). IsAssembled t (Ok second.items)) q k, tt))
