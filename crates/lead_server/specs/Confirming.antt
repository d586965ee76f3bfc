-- Words of bodies alone: a message that confirms an entry.
use Rattle.std.specs.Prelude.{Bool, true, false}
use Rattle.wire.specs.declared.message.Message.{Message}
use Rattle.wire.specs.declared.message.Message.TheVariants.{MirrorAck}
use Rattle.mirror.specs.declared.heard.Role.{Role}
use Rattle.mirror.specs.declared.heard.Role.TheVariants.{Active}

-- the active server is told that an entry was applied
abbrev pub is_acknowledged : Role → Message → Bool
is_acknowledged Active (MirrorAck number) = true
is_acknowledged role message = false
