-- What identifies a refusal of linking.
use Rattle.std.specs.Prelude.{ℕ}
use Rattle.link_types.specs.declared.refusal.LinkKind.{LinkKind}
use Rattle.link_types.specs.declared.refusal.LinkKind.TheVariants.{Twice, Missing, Cycle, FinalSuper, NotInterface, NoField, NoMethod, StaticMismatch, Private, VolatileLong, Native, DefaultMethod, TooMany, FloatUse, FinalMethod, NotClass}

-- the number that identifies a kind, from 1 in this order
abbrev pub kind_number : LinkKind → ℕ
kind_number Twice = 1
kind_number Missing = 2
kind_number Cycle = 3
kind_number FinalSuper = 4
kind_number NotInterface = 5
kind_number NoField = 6
kind_number NoMethod = 7
kind_number StaticMismatch = 8
kind_number Private = 9
kind_number VolatileLong = 10
kind_number Native = 11
kind_number DefaultMethod = 12
kind_number TooMany = 13
kind_number FloatUse = 14
kind_number FinalMethod = 15
kind_number NotClass = 16
