-- How the refusals of each stage are reported.
use Rattle.std.specs.Prelude.{ℕ}
use Rattle.class_pool.specs.declared.refusal.ReadRefusal.{ReadRefusal}
use Rattle.class_pool.specs.declared.refusal.ReadRefusal.TheVariants as reading
use Rattle.class_pool.specs.Refusal as read_numbers
use Rattle.code_decode.specs.declared.code.CodeAt.{CodeAt}
use Rattle.code_decode.specs.declared.refusal.CodeRefusal.{CodeRefusal}
use Rattle.code_decode.specs.declared.refusal.CodeRefusal.TheVariants as decoding
use Rattle.code_decode.specs.Refusal as code_numbers
use Rattle.link_types.specs.declared.refusal.LinkRefusal.{LinkRefusal}
use Rattle.link_types.specs.declared.refusal.LinkRefusal.TheVariants as linking
use Rattle.link_types.specs.declared.refusal.LinkKind.TheVariants.{TooMany}
use Rattle.link_types.specs.LinkKind.{kind_number}
use Rattle.type_rules.specs.declared.refusal.VerifyRefusal.{VerifyRefusal}
use Rattle.type_rules.specs.declared.refusal.VerifyRefusal.TheVariants as verifying
use Rattle.type_rules.specs.VerifyKind.{verify_kind_number}
use Rattle.program_accept.specs.declared.refusal.Stage.{Stage}
use Rattle.program_accept.specs.declared.refusal.Stage.TheVariants.{Read, Code, Link, Verify}
use Rattle.program_accept.specs.declared.refusal.AcceptRefusal.{AcceptRefusal}
use Rattle.program_accept.specs.declared.refusal.AcceptRefusal.TheVariants.{NoMemory, Refused}

abbrev pub refused : Stage → ℕ → ℕ → ℕ → ℕ → AcceptRefusal
refused stage class number method place =
    Refused (record { stage = stage; class = class; number = number; method = method; place = place })

abbrev pub too_many : AcceptRefusal
too_many = refused Link 1024 (kind_number TooMany) 0 0

-- of the file at a place
abbrev pub read_refused : ℕ → ReadRefusal → AcceptRefusal
read_refused file reading.NoMemory = NoMemory
read_refused file e = refused Read file (read_numbers.number_of e) 0 (read_numbers.place_of e)

abbrev pub method_refused : ℕ → ℕ → CodeRefusal → AcceptRefusal
method_refused file method decoding.NoMemory = NoMemory
method_refused file method e = refused Code file (code_numbers.number_of e) method (code_numbers.place_of e)

abbrev pub code_refused : ℕ → CodeAt → AcceptRefusal
code_refused file at = method_refused file at.method at.refusal

abbrev pub link_refused : LinkRefusal → AcceptRefusal
link_refused linking.NoMemory = NoMemory
link_refused (linking.At kind class place) = refused Link class (kind_number kind) 0 place

abbrev pub verify_refused : VerifyRefusal → AcceptRefusal
verify_refused verifying.NoMemory = NoMemory
verify_refused (verifying.At kind class method place) = refused Verify class (verify_kind_number kind) method place
