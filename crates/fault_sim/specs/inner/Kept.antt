-- Look-ups in the kept passes of a test. A kept pass stores rows and drivers of a pass, so that many logs can share them.
use Rattle.std.specs.Prelude.{ℕ, Bool, true, false, cond, List, [], Option, Some, None, option_map, slice_get}
use Rattle.fault_sim.specs.declared.feed.EnabledDriver.{EnabledDriver}
use Rattle.fault_sim.specs.declared.feed.FedNet.{FedNet}
use Rattle.fault_sim.specs.declared.feed.Feed.{Feed}
use Rattle.fault_sim.specs.declared.feed.Source.{Source}
use Rattle.fault_sim.specs.declared.feed.Source.TheVariants.{Code, Fixed}
use Rattle.fault_sim.specs.declared.kept.ComparedRow.{ComparedRow}
use Rattle.fault_sim.specs.declared.kept.KeptPass.{KeptPass}

-- the rows of a kept pass, or no rows if there is no such pass
abbrev pub rows_of : Option KeptPass → List ComparedRow
rows_of None = []
rows_of (Some pass) = pass.rows

-- the kept rows of pass x, or no rows if pass x is not kept
abbrev pub rows_of_kept : List KeptPass → ℕ → List ComparedRow
rows_of_kept kept x = rows_of (slice_get kept x)

-- the drivers of a kept pass, or no drivers if there is no such pass
abbrev pub drivers_of_kept : Option KeptPass → List (Option EnabledDriver)
drivers_of_kept None = []
drivers_of_kept (Some pass) = pass.drivers

-- the kept drivers of pass x, or no drivers if pass x is not kept
abbrev pub kept_drivers : List KeptPass → ℕ → List (Option EnabledDriver)
kept_drivers kept x = drivers_of_kept (slice_get kept x)

-- the feed that an enabled driver gives its net; `pull` is the value to which the net is pulled, if any
abbrev pub feed_of : Option Bool → EnabledDriver → Feed
feed_of pull d = record { source = d.source; off = cond d.own pull None }

-- a net in a pass, given the driver that the pass enables on the net and the net's pull
abbrev pub net_fed_by : Option EnabledDriver → Option Bool → FedNet
net_fed_by driver pull = record { feed = option_map (feed_of pull) driver; pull = pull }

-- true if the source has the bits of a net's code
abbrev pub is_code_source : Source → Bool
is_code_source (Code code) = true
is_code_source (Fixed bit) = false

-- true if the driver's cell carries the bits of the net's code, that is, if the pass observes the net (false
-- if there is no driver)
abbrev pub observes_coded : Option EnabledDriver → Bool
observes_coded None = false
observes_coded (Some d) = is_code_source d.source
