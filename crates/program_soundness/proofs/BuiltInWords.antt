-- The words of objects of built-in classes: of Threads, Throwables, Strings and StringBuilders.
use Rattle.std.proofs.Common.{◌≡◌, ◌<◌, ◌≤◌, ◌+◌, ℕ, true, false, List, length, refl, arith}
use Rattle.access_flags.specs.declared.TheConstants.{INTERFACE}
use Rattle.builtin_facts.proofs.NativeLaws.{numbers as built_in}
use Rattle.builtin_world.specs.Library.{library}
use Rattle.builtin_world.specs.declared.number.TheConstants.{COUNT, OBJECT, STRING, STRING_BUILDER, THREAD, THROWABLE, RUNNABLE}
use Rattle.builtin_world.specs.declared.word.TheConstants.{STRING_UNITS, BUILDER_TEXT, THREAD_PRIORITY, THREAD_TARGET, THROWABLE_MESSAGE}
use Rattle.code_decode.specs.declared.code.ClassUnit.{ClassUnit}
use Rattle.link_types.specs.declared.types.ObjectType.TheVariants.{Class}
use Rattle.link_rules.specs.Classes.{class_has, classes_of, superclass_of}
use Rattle.link_rules.specs.Layout.{built_in_words}
use Rattle.link_rules.proofs.Numbers.{class_count_is}
use Rattle.op_core.specs.OrdinaryState.{Object}
use Rattle.row_soundness.specs.Senses.{number, reference}
use Rattle.row_soundness.specs.Texts.{char_array}
use Rattle.row_soundness.specs.Runs.{MayStandFor, ObjectFits, of_priority, of_target, of_message, of_units, of_text}
use Rattle.java_rows.specs.Program.{is_subclass}
use Rattle.row_soundness.specs.ClassesFollow.{HasOne}
use Rattle.program_soundness.specs.SoundPrograms.{IsSound}
use Rattle.program_soundness.proofs.BelowClasses.{has_words, is_below, stands_below}
use Rattle.program_soundness.proofs.ClassLaws.{throwable_is_class}
use Rattle.program_soundness.proofs.ThreadLaws.{thread_is_class, thread_words}

pub string_is_class : (us : List ClassUnit) → class_has (classes_of us) STRING INTERFACE ≡ false
unfolding library
string_is_class us = refl

pub builder_is_class : (us : List ClassUnit) → class_has (classes_of us) STRING_BUILDER INTERFACE ≡ false
unfolding library
builder_is_class us = refl

pub throwable_words : built_in_words THROWABLE ≡ 1
unfolding library
throwable_words = refl

pub string_words : built_in_words STRING ≡ 1
unfolding library
string_words = refl

pub builder_words : built_in_words STRING_BUILDER ≡ 1
unfolding library
builder_words = refl

-- each of them is right below Object
pub thread_super : (us : List ClassUnit) → superclass_of (classes_of us) THREAD ≡ OBJECT
unfolding library
thread_super us = refl

pub throwable_super : (us : List ClassUnit) → superclass_of (classes_of us) THROWABLE ≡ OBJECT
unfolding library
throwable_super us = refl

pub string_super : (us : List ClassUnit) → superclass_of (classes_of us) STRING ≡ OBJECT
unfolding library
string_super us = refl

pub builder_super : (us : List ClassUnit) → superclass_of (classes_of us) STRING_BUILDER ≡ OBJECT
unfolding library
builder_super us = refl

module _ (us : List ClassUnit) (order : List ℕ) (sound : IsSound us order) (r : ℕ) (o : Object) (fits : ObjectFits us r o) where
  module _ (d : ℕ) (class : class_has (classes_of us) d INTERFACE ≡ false) (low : 2 < d) (high : d ≤ COUNT) (stands : MayStandFor us o.class (Class d)) where
    is : is_subclass us o.class d ≡ true
    is =
        let count : length (classes_of us) ≡ 28 + length us = class_count_is us in
        is_below us order sound d class (λ e. omega (arith, low, e)) o.class fits.class (built_in us d (omega (arith, low)) high) (omega (arith, count, high)) stands

    many : built_in_words d ≤ o.words
    many =
        has_words us order sound r o d fits (λ e. omega (arith, low, e)) high (λ e. omega (arith, low, e)) (λ e. omega (arith, low, e))
        (stands_below us order sound d class (λ e. omega (arith, low, e)) o.class fits.class stands)

  pub priority_there : MayStandFor us o.class (Class THREAD) → HasOne us r o THREAD_PRIORITY number
  priority_there stands = record {
    holds = of_priority (is THREAD (thread_is_class us) (omega arith) (omega arith) stands);
    within = let words = many THREAD (thread_is_class us) (omega arith) (omega arith) stands in omega (arith, words, thread_words);
    spared = λ thread e. omega (arith, e);
  }

  pub target_there : MayStandFor us o.class (Class THREAD) → HasOne us r o THREAD_TARGET (reference (Class RUNNABLE))
  target_there stands = record {
    holds = of_target (is THREAD (thread_is_class us) (omega arith) (omega arith) stands);
    within = let words = many THREAD (thread_is_class us) (omega arith) (omega arith) stands in omega (arith, words, thread_words);
    spared = λ thread e. omega (arith, e);
  }

  pub message_there : MayStandFor us o.class (Class THROWABLE) → HasOne us r o THROWABLE_MESSAGE (reference (Class STRING))
  message_there stands = record {
    holds = of_message (is THROWABLE (throwable_is_class us) (omega arith) (omega arith) stands);
    within = let words = many THROWABLE (throwable_is_class us) (omega arith) (omega arith) stands in omega (arith, words, throwable_words);
    spared = λ thread e. omega (arith, e);
  }

  pub units_there : MayStandFor us o.class (Class STRING) → HasOne us r o STRING_UNITS (reference char_array)
  units_there stands = record {
    holds = of_units (is STRING (string_is_class us) (omega arith) (omega arith) stands);
    within = let words = many STRING (string_is_class us) (omega arith) (omega arith) stands in omega (arith, words, string_words);
    spared = λ thread e. omega (arith, e);
  }

  pub text_there : MayStandFor us o.class (Class STRING_BUILDER) → HasOne us r o BUILDER_TEXT (reference (Class STRING))
  text_there stands = record {
    holds = of_text (is STRING_BUILDER (builder_is_class us) (omega arith) (omega arith) stands);
    within = let words = many STRING_BUILDER (builder_is_class us) (omega arith) (omega arith) stands in omega (arith, words, builder_words);
    spared = λ thread e. omega (arith, e);
  }
