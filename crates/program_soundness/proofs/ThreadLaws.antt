-- Objects of Threads have the words of a Thread.
use Rattle.std.proofs.Common.{◌≡◌, ◌≤◌, ◌+◌, ◌^◌, ℕ, false, List, length, refl, arith}
use Rattle.access_flags.specs.declared.TheConstants.{INTERFACE}
use Rattle.builtin_facts.proofs.NativeLaws.{numbers as built_in}
use Rattle.builtin_world.specs.Library.{library}
use Rattle.builtin_world.specs.declared.number.TheConstants.{THREAD}
use Rattle.code_decode.specs.declared.code.ClassUnit.{ClassUnit}
use Rattle.link_rules.specs.Classes.{class_has, classes_of}
use Rattle.link_rules.specs.FixedObjects.{first_free}
use Rattle.link_rules.specs.Layout.{built_in_words}
use Rattle.link_rules.specs.Names.{program_names}
use Rattle.link_rules.proofs.Numbers.{class_count_is}
use Rattle.program_soundness.specs.Soundness.{HasRoom}
use Rattle.program_soundness.specs.SoundPrograms.{IsSound}
use Rattle.program_soundness.proofs.BelowClasses.{IsBelowClass, has_words, is_below, stands_below}
use Rattle.program_soundness.proofs.ClassLaws.{numbers_are_words}
use Rattle.program_soundness.proofs.Rooms.{have_room}

pub thread_is_class : (us : List ClassUnit) → class_has (classes_of us) THREAD INTERFACE ≡ false
unfolding library
thread_is_class us = refl

pub thread_words : built_in_words THREAD ≡ 3
unfolding library
thread_words = refl

module _ (us : List ClassUnit) (order : List ℕ) (sound : IsSound us order) where
  pub programs_have_room : first_free (program_names us) ≤ 2 ^ 32 → HasRoom us
  programs_have_room room = record {
    numbers = (numbers_are_words us order sound room).numbers;
    files = (numbers_are_words us order sound room).files;
    few = have_room us order sound;
    threads = λ r o fits stands.
        let count : length (classes_of us) ≡ 28 + length us = class_count_is us in
        let is : IsBelowClass us order sound o.class THREAD = stands_below us order sound THREAD (thread_is_class us) (λ e. omega (arith, e)) o.class fits.class stands in
        let words : built_in_words THREAD ≤ o.words = has_words us order sound r o THREAD fits (λ e. omega (arith, e)) (omega arith) (λ e. omega (arith, e)) (λ e. omega (arith, e)) is in (
          is_below us order sound THREAD (thread_is_class us) (λ e. omega (arith, e)) o.class fits.class (built_in us THREAD (omega arith) (omega arith)) (omega (arith, count)) stands,
          omega (arith, words, thread_words),
        );
  }
