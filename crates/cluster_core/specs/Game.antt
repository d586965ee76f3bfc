-- Words of public clauses: the world of two servers as one that plays the lines of scripts.
use Rattle.std.specs.Prelude.{Some}
use Rattle.script_lines.specs.declared.line.Line.{Line}
use Rattle.script_language.specs.Lines.{Spells}
use Rattle.cluster_events.specs.Ending.{is_crash}
use Rattle.group_cluster.specs.Seats.{Peers}
use Rattle.group_servers.specs.declared.group.Group.{Group}
use Rattle.group_servers.specs.GroupKit.{group_kit}
use Rattle.played_runs.specs.Games.{Game}
use Rattle.cluster_core.specs.declared.world.World.{World}
use Rattle.cluster_lines.specs.Beginning.{Begins}
use Rattle.cluster_core.specs.Broken.{EventEnded}
use Rattle.group_begin.specs.Lines.{IsEventLine}
use Rattle.cluster_core.specs.Playing.{LineDone}
use Rattle.cluster_core.specs.Worlds.{empty_world, pair_start, parts_of}

abbrev pub world_game : Game Peers Line (Group 2) World
world_game = record {
  kit = group_kit 2;
  Spells = Spells;
  shared = λ next. Some next;
  crashes = is_crash;
  start = λ setup places. pair_start setup.start places;
  Begins = Begins;
  Follows = IsEventLine;
  Step = LineDone;
  empty = empty_world;
  now = λ world. world.now;
  parts = λ peers world. parts_of peers.acting world;
  armed = λ peers. peers.armed;
  Ended = EventEnded;
  end = λ setup state next told held left world ended. ended.end;
}
