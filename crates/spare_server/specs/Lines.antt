-- Words of bodies alone: the lines on one server's messages, and those on the third server.

use Rattle.cluster_events.specs.Lines.{Refused}
use Rattle.cluster_events.specs.Outcomes.{telling}
use Rattle.cluster_rounds.specs.Worlds.{Event}
use Rattle.group_cluster.specs.Seats.{standing_group}
use Rattle.group_cluster.specs.Group.{mirror_at, ack_at}
use Rattle.group_servers.specs.GroupKit.{group_kit}
use Rattle.trio_lines.specs.Printing.{trio_line_text}
use Rattle.trio_lines.specs.declared.line.TrioLine.{TrioLine}
use Rattle.trio_lines.specs.declared.line.TrioLine.TheVariants.{Crash, Arm, Restart, Mirror, Ack}
use Rattle.trio_lines.specs.declared.line.TrioServer.{TrioServer}
use Rattle.spare_server.specs.Happening.{name_of, or_refused}

abbrev pub refused_as : TrioLine → Event (group_kit 3)
refused_as next setup state = telling state (Refused (trio_line_text next) (standing_group state))

abbrev pub mirrored_at : TrioServer → Event (group_kit 3)
mirrored_at server setup state = or_refused (Mirror server) (mirror_at (name_of server) state) state

abbrev pub acked_at : TrioServer → Event (group_kit 3)
acked_at server setup state = or_refused (Ack server) (ack_at (name_of server) state) state

-- a line on the third server
abbrev pub IsThird : TrioLine → Type 0
IsThird Crash = Unit {0}
IsThird (Arm k) = Unit {0}
IsThird Restart = Unit {0}
IsThird _ = ⊥
