-- Where a host is.
use Rattle.std.specs.Prelude.{◌≡◌}
use Rattle.turn_runs.specs.HostPlaces.{HostPlace}
use Rattle.port_turns.specs.declared.host.StepHost.{StepHost}

abbrev pub host_place : {C P : Type 0} → StepHost C P → HostPlace P
host_place h = record { own = h.own.now; port = h.port.now; left = h.left }

-- it still borrows the same
pub record SameBorrows {C P : Type 0} (h k : StepHost C P) : Type 0 where
  pub own : k.own.ghost_name ≡ h.own.ghost_name
  pub port : k.port.ghost_name ≡ h.port.ghost_name
