-- Words of public clauses: what a service begins with, and what it is then.
use Rattle.std.specs.Prelude.{◌≡◌, ℕ, ℤ, List, [], ◌∷◌}
use Rattle.calls.specs.declared.saved.Saved.{Saved}
use Rattle.stream_config.specs.declared.attrs.StreamAttrs.{StreamAttrs}
use Rattle.stream_layout.specs.declared.deed.Deed.{Deed}
use Rattle.plain_service.specs.Setups.{Setup, CanBegin}
use Rattle.plain_service.specs.Storing.{opening_of}
use Rattle.plain_service.specs.Values.{StandsFor}

-- the setup is one with which a service can begin, of this start, this capacity, and these attributes of the well-known
-- streams: alarm, notification and system
pub record BeginsAs (setup : Setup) (start : ℤ) (cap : ℕ) (wells : List StreamAttrs) : Type 0 where
  pub start_is : setup.start ≡ start
  pub capacity_is : setup.capacity ≡ cap
  pub attributes : wells ≡ setup.alarm ∷ setup.notification ∷ setup.system ∷ []
  pub sound : CanBegin setup

-- a service can begin so: a moment, a capacity, and three sets of attributes that pass, no two with the same path and file
abbrev pub CanBeginAs : ℤ → ℕ → List StreamAttrs → Type 0
CanBeginAs start cap wells = (setup : Setup) × BeginsAs setup start cap wells

-- the service stands for the empty history of the setup, and these are the deeds of its start
pub record HasBegun (setup : Setup) (made : Saved × List Deed) : Type 0 where
  pub stands : StandsFor setup [] made.0
  pub deeds : made.1 ≡ opening_of setup
