-- What a listing says about what a folder of the system was asked for.
use Rattle.std.specs.Prelude.{Option, option_map, map, string_bytes}
use Rattle.jr_ports.specs.Folder.{Asked}
use Rattle.jr_ports.specs.declared.folder.Listing.{Listing}

-- what a listing says about what a folder was asked for
abbrev pub asked_of : Option Listing → Option Asked
asked_of listing = option_map (λ l. record { dir = string_bytes l.dir; names = map string_bytes l.names.items }) listing
