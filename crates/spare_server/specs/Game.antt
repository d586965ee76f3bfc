-- Words of public clauses: the world of three servers as one that plays the lines of scripts.
use Rattle.cluster_events.specs.Ending.{is_crash}
use Rattle.group_cluster.specs.Seats.{Peers}
use Rattle.group_servers.specs.declared.group.Group.{Group}
use Rattle.group_servers.specs.GroupKit.{group_kit}
use Rattle.trio_lines.specs.declared.line.TrioLine.{TrioLine}
use Rattle.trio_lines.specs.Lines.{SpellsTrio, shared_line}
use Rattle.played_runs.specs.Games.{Game}
use Rattle.spare_server.specs.declared.world.TrioWorld.{TrioWorld}
use Rattle.spare_server.specs.Ended.{TrioEnded}
use Rattle.spare_server.specs.Happening.{group_line}
use Rattle.spare_server.specs.Playing.{BeginsTrio, IsTrioEvent, TrioDone}
use Rattle.spare_server.specs.Worlds.{empty_trio, parts_of, trio_start}

abbrev pub trio_game : Game Peers TrioLine (Group 3) TrioWorld
trio_game = record {
  kit = group_kit 3;
  Spells = SpellsTrio;
  shared = shared_line;
  crashes = λ next. is_crash (group_line next);
  start = λ setup places. trio_start setup.start places;
  Begins = BeginsTrio;
  Follows = IsTrioEvent;
  Step = TrioDone;
  empty = empty_trio;
  now = λ world. world.now;
  parts = λ peers world. parts_of peers.acting world;
  armed = λ peers. peers.armed;
  Ended = TrioEnded;
  end = λ setup state next told held left world ended. ended.end;
}
