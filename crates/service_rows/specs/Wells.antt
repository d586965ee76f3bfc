-- Words of bodies alone: attributes with which the well-known streams can begin.
use Rattle.stream_config.specs.declared.attrs.StreamAttrs.{StreamAttrs}
use Rattle.log_history.specs.Legal.{IsSetup}

-- they pass, and no two have one place; the time of the start does not matter
abbrev pub AreWells : (alarm ntf sys : StreamAttrs) → Type 0
AreWells alarm ntf sys = IsSetup (record { start = 0; alarm = alarm; notification = ntf; system = sys })
