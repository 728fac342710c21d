-- The methods of the library, one by one.
use Rattle.std.proofs.Common.{◌≡◌, ℕ, suc, false, List, [], ◌∷◌, refl}
use Rattle.std.specs.List.{AllByRecursion}
use Rattle.access_flags.specs.declared.TheConstants.{STATIC, ABSTRACT}
use Rattle.access_flags.specs.Flags.{has}
use Rattle.builtin_world.specs.Library.{library}
use Rattle.builtin_world.specs.Library.{Class as LibraryClass, Method as LibraryMethod}
use Rattle.class_names.specs.Reading.{spells_class_name, split_at_semicolon, base_at, kind_at}
use Rattle.class_names.specs.Kinds.{kinds_within}
use Rattle.code_decode.specs.declared.code.ClassUnit.{ClassUnit}
use Rattle.link_rules.specs.Methods.{parameter_types, result_type}
use Rattle.link_rules.specs.Names.{program_names}
use Rattle.row_soundness.specs.Natives.{native_takes, native_gives, native_static}
use Rattle.builtin_facts.specs.Facts.{IsDeclaredBy}

-- a method of the class of a number is as the table says
pub record IsInTable (us : List ClassUnit) (c : ℕ) (m : LibraryMethod) : Type 0 where
  pub takes : parameter_types (program_names us) m.descriptor ≡ native_takes m.native
  pub gives : result_type (program_names us) m.descriptor ≡ native_gives m.native
  pub static : has m.flags STATIC ≡ native_static m.native
  pub declared : has m.flags ABSTRACT ≡ false → IsDeclaredBy us m.native c

-- those of classes with the numbers from c on
abbrev pub AreInTable : List ClassUnit → ℕ → List LibraryClass → Type 0
AreInTable us c [] = Unit {0}
AreInTable us c (k ∷ ks) = AllByRecursion (λ m. IsInTable us c m) k.methods × AreInTable us (suc c) ks

pub library_is_in_table : (us : List ClassUnit) → AreInTable us 1 library
unfolding library spells_class_name split_at_semicolon base_at kind_at kinds_within
library_is_in_table us = (
  (record { takes = refl; gives = refl; static = refl; declared = λ concrete. refl }, (record { takes = refl; gives = refl; static = refl; declared = λ concrete. refl }, (record { takes = refl; gives = refl; static = refl; declared = λ concrete. refl }, (record { takes = refl; gives = refl; static = refl; declared = λ concrete. refl }, (record { takes = refl; gives = refl; static = refl; declared = λ concrete. refl }, tt))))),
  (
    tt,
    (
      (record { takes = refl; gives = refl; static = refl; declared = λ concrete. refl }, (record { takes = refl; gives = refl; static = refl; declared = λ concrete. refl }, (record { takes = refl; gives = refl; static = refl; declared = λ concrete. refl }, (record { takes = refl; gives = refl; static = refl; declared = λ concrete. refl }, tt)))),
      (
        tt,
        (
          (record { takes = refl; gives = refl; static = refl; declared = λ concrete. tt }, (record { takes = refl; gives = refl; static = refl; declared = λ concrete. tt }, (record { takes = refl; gives = refl; static = refl; declared = λ concrete. tt }, (record { takes = refl; gives = refl; static = refl; declared = λ concrete. tt }, (record { takes = refl; gives = refl; static = refl; declared = λ concrete. tt }, (record { takes = refl; gives = refl; static = refl; declared = λ concrete. tt }, tt)))))),
          (
            (record { takes = refl; gives = refl; static = refl; declared = λ concrete. cc }, tt),
            (
              (record { takes = refl; gives = refl; static = refl; declared = λ concrete. refl }, (record { takes = refl; gives = refl; static = refl; declared = λ concrete. refl }, (record { takes = refl; gives = refl; static = refl; declared = λ concrete. refl }, (record { takes = refl; gives = refl; static = refl; declared = λ concrete. refl }, (record { takes = refl; gives = refl; static = refl; declared = λ concrete. refl }, (record { takes = refl; gives = refl; static = refl; declared = λ concrete. refl }, (record { takes = refl; gives = refl; static = refl; declared = λ concrete. refl }, (record { takes = refl; gives = refl; static = refl; declared = λ concrete. refl }, (record { takes = refl; gives = refl; static = refl; declared = λ concrete. refl }, tt))))))))),
              (
                (record { takes = refl; gives = refl; static = refl; declared = λ concrete. refl }, (record { takes = refl; gives = refl; static = refl; declared = λ concrete. refl }, (record { takes = refl; gives = refl; static = refl; declared = λ concrete. refl }, tt))),
                (
                  (record { takes = refl; gives = refl; static = refl; declared = λ concrete. refl }, (record { takes = refl; gives = refl; static = refl; declared = λ concrete. refl }, tt)),
                  (
                    (record { takes = refl; gives = refl; static = refl; declared = λ concrete. refl }, (record { takes = refl; gives = refl; static = refl; declared = λ concrete. refl }, tt)),
                    (
                      (record { takes = refl; gives = refl; static = refl; declared = λ concrete. refl }, (record { takes = refl; gives = refl; static = refl; declared = λ concrete. refl }, tt)),
                      (
                        (record { takes = refl; gives = refl; static = refl; declared = λ concrete. refl }, (record { takes = refl; gives = refl; static = refl; declared = λ concrete. refl }, tt)),
                        (
                          (record { takes = refl; gives = refl; static = refl; declared = λ concrete. refl }, (record { takes = refl; gives = refl; static = refl; declared = λ concrete. refl }, tt)),
                          (
                            (record { takes = refl; gives = refl; static = refl; declared = λ concrete. refl }, (record { takes = refl; gives = refl; static = refl; declared = λ concrete. refl }, tt)),
                            (
                              (record { takes = refl; gives = refl; static = refl; declared = λ concrete. refl }, (record { takes = refl; gives = refl; static = refl; declared = λ concrete. refl }, tt)),
                              (
                                (record { takes = refl; gives = refl; static = refl; declared = λ concrete. refl }, (record { takes = refl; gives = refl; static = refl; declared = λ concrete. refl }, tt)),
                                (
                                  (record { takes = refl; gives = refl; static = refl; declared = λ concrete. refl }, (record { takes = refl; gives = refl; static = refl; declared = λ concrete. refl }, tt)),
                                  (
                                    (record { takes = refl; gives = refl; static = refl; declared = λ concrete. refl }, (record { takes = refl; gives = refl; static = refl; declared = λ concrete. refl }, tt)),
                                    (
                                      (record { takes = refl; gives = refl; static = refl; declared = λ concrete. refl }, (record { takes = refl; gives = refl; static = refl; declared = λ concrete. refl }, tt)),
                                      (
                                        (record { takes = refl; gives = refl; static = refl; declared = λ concrete. refl }, (record { takes = refl; gives = refl; static = refl; declared = λ concrete. refl }, tt)),
                                        (
                                          (record { takes = refl; gives = refl; static = refl; declared = λ concrete. refl }, (record { takes = refl; gives = refl; static = refl; declared = λ concrete. refl }, tt)),
                                          (
                                            (record { takes = refl; gives = refl; static = refl; declared = λ concrete. refl }, (record { takes = refl; gives = refl; static = refl; declared = λ concrete. refl }, tt)),
                                            (
                                              (record { takes = refl; gives = refl; static = refl; declared = λ concrete. refl }, (record { takes = refl; gives = refl; static = refl; declared = λ concrete. refl }, tt)),
                                              (
                                                (record { takes = refl; gives = refl; static = refl; declared = λ concrete. refl }, (record { takes = refl; gives = refl; static = refl; declared = λ concrete. refl }, tt)),
                                                (
                                                  (record { takes = refl; gives = refl; static = refl; declared = λ concrete. refl }, (record { takes = refl; gives = refl; static = refl; declared = λ concrete. refl }, tt)),
                                                  (
                                                    (record { takes = refl; gives = refl; static = refl; declared = λ concrete. refl }, (record { takes = refl; gives = refl; static = refl; declared = λ concrete. refl }, tt)),
                                                    (
                                                      (record { takes = refl; gives = refl; static = refl; declared = λ concrete. refl }, (record { takes = refl; gives = refl; static = refl; declared = λ concrete. refl }, tt)),
                                                      (
                                                        (record { takes = refl; gives = refl; static = refl; declared = λ concrete. refl }, (record { takes = refl; gives = refl; static = refl; declared = λ concrete. refl }, (record { takes = refl; gives = refl; static = refl; declared = λ concrete. refl }, (record { takes = refl; gives = refl; static = refl; declared = λ concrete. refl }, (record { takes = refl; gives = refl; static = refl; declared = λ concrete. refl }, (record { takes = refl; gives = refl; static = refl; declared = λ concrete. refl }, (record { takes = refl; gives = refl; static = refl; declared = λ concrete. refl }, (record { takes = refl; gives = refl; static = refl; declared = λ concrete. refl }, (record { takes = refl; gives = refl; static = refl; declared = λ concrete. refl }, tt))))))))),
                                                        tt,
                                                      ),
                                                    ),
                                                  ),
                                                ),
                                              ),
                                            ),
                                          ),
                                        ),
                                      ),
                                    ),
                                  ),
                                ),
                              ),
                            ),
                          ),
                        ),
                      ),
                    ),
                  ),
                ),
              ),
            ),
          ),
        ),
      ),
    ),
  ),
)
