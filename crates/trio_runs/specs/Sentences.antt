-- Words of public clauses: what is said of runs of lines on the world of three servers.
use Rattle.std.specs.Prelude.{Option}
use Rattle.disk_model.specs.Disk.{Files}
use Rattle.plain_service.specs.Setups.{Setup}
use Rattle.group_cluster.specs.Seats.{Peers}
use Rattle.trio_lines.specs.declared.line.TrioLine.{TrioLine}
use Rattle.trio_lines.specs.Lines.{shared_line}
use Rattle.played_runs.specs.Promises as promises
use Rattle.played_runs.specs.Promises.{LineSentence, Sentence}
use Rattle.played_runs.specs.Refusing as refusing
use Rattle.spare_server.specs.Game.{trio_game}

abbrev pub Throughout : (held : Option Files) (Q : Setup → Sentence TrioLine) → Type 0
Throughout held Q = (promises.Throughout trio_game) held Q

abbrev pub OfAllLinesOf : (held : Option Files) (Q : Setup → LineSentence TrioLine Peers) → Type 0
OfAllLinesOf held Q = (promises.OfAllLinesOf trio_game) held Q

abbrev pub OfAllLines : (held : Option Files) (Q : LineSentence TrioLine Peers) → Type 0
OfAllLines held Q = (promises.OfAllLines trio_game) held Q

abbrev pub SettlesAll : Setup → Sentence TrioLine
SettlesAll setup lines world told files = promises.SettlesAll shared_line setup lines world told files

abbrev pub DeclinesRightly : LineSentence TrioLine Peers
DeclinesRightly before next told state outcome after = refusing.DeclinesRightly shared_line before next told state outcome after
