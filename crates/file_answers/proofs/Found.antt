-- What a folder gave, and what was read of it.
use Rattle.std.proofs.Common.{◌≡◌, inl, inr, ℕ, List, [], map, take, String, string_bytes, refl, sym, ◌∙◌, ap, subst, Option, None, Some, IfSome, append-nil}
use Rattle.std.specs.declared.alloc.Global.{Global}
use Rattle.std.specs.List.Sorted.{IsPermutation}
use Rattle.std.proofs.lemmas.List.{take-map}
use Rattle.jr_ports.specs.Folder.{File, Asked, names_of}
use Rattle.jr_ports.specs.Stream.{Gains}
use Rattle.program_input.specs.Folder.{AreClassNames, ReadsFront}
use Rattle.file_answers.specs.Folder.{AreListed, ReadsInOrder}

-- what is known of a folder that was asked for its names
abbrev pub Told : Option Asked → Option (List File) → List ℕ → List (List ℕ) → Type 0
Told asked files dir sorted =
    (names : List (List ℕ)) × (asked ≡ Some (record { dir = dir; names = names })) × AreClassNames names sorted × IfSome files (λ all. IsPermutation (names_of all) names)

pub listed : (asked : Option Asked) (files : Option (List File)) (dir : List ℕ) (sorted : List (List ℕ)) → Told asked files dir sorted → AreListed asked files dir sorted
listed asked files dir sorted told = record { names = told.0; is_asked = told.1; of_files = told.3; are = told.2 }

pub Gains-none : {A : Type 0} (before after : Option (List A)) → after ≡ before → Gains before after []
Gains-none None after same = same
Gains-none {A} (Some told) after same = same ∙ ap (λ (l : List A). let o : Option (List A) = Some l in o) (sym (append-nil told))

-- nothing was read
pub order-none : (most : ℕ) (asked : Option Asked) (before after : Option (List (List ℕ))) → after ≡ before → ReadsInOrder most asked before after
order-none most asked before after same = ([], inl refl, Gains-none before after same)

-- the first of the class files were read
pub order-first : (most : ℕ) (asked : Option Asked) (files : Option (List File)) (dir : List ℕ) (sorted : List (String Global)) (before after : Option (List (List ℕ)))
    → Told asked files dir (map string_bytes sorted) → ReadsFront (map string_bytes (take most sorted)) before after → ReadsInOrder most asked before after
order-first most asked files dir sorted before after told front = (
  front.0,
  inr (record {
    dir = dir;
    names = told.0;
    sorted = map string_bytes sorted;
    rest = front.1;
    is_asked = told.1;
    are_sorted = told.2;
    are = take-map string_bytes most sorted ∙ front.2;
  }),
  front.3,
)

-- the first 1,025 were read, or the first of these
pub order-loaded : (asked now : Option Asked) (files : Option (List File)) (dir : List ℕ) (sorted read : List (String Global)) (first before after : Option (List (List ℕ)))
    → Told asked files dir (map string_bytes sorted) → now ≡ asked → before ≡ first → read ≡ take 1025 sorted → ReadsFront (map string_bytes read) before after
    → ReadsInOrder 1025 now first after
order-loaded asked now files dir sorted read first before after told same none all front =
    let From : Option (List (List ℕ)) → Type 0 = λ b. ReadsFront (map string_bytes read) b after in
    let Read : List (String Global) → Type 0 = λ r. ReadsFront (map string_bytes r) first after in
    let Of : Option Asked → Type 0 = λ a. ReadsInOrder 1025 a first after in
    subst Of (sym same) (order-first 1025 asked files dir sorted first after told (subst Read all (subst From none front)))
