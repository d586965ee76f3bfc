use Rattle.spare_server.specs.Game.{trio_game}
use Rattle.spare_server.specs.GameLaws.{trio_plays}
use Rattle.played_runs.proofs.FaultLaws.{keeps-at-fault}
use Rattle.played_runs.proofs.PromiseLaws.{keeps-one-history, replies-rightly, reads-rightly, calls-back, prints-posts, keeps-files, keeps-records, stands-once, settles-all}
use Rattle.played_runs.proofs.RefusalLaws.{declines-rightly}
use Rattle.played_runs.proofs.TellingLaws.{tells-once, tells-at-want}
use Rattle.played_runs.proofs.TimeLaws.{commits-in-time}
use Rattle.trio_runs.proofs.FallLaws.{calls-counted, falls-by-cause, faults-fell}
use Rattle.trio_runs.proofs.laws.law_of_trio_runs.Goals as goal

pub returns-clause-one_history : goal.returns-clause-one_history
returns-clause-one_history c held = keeps-one-history trio_game trio_plays held

pub returns-clause-replies : goal.returns-clause-replies
returns-clause-replies c held = replies-rightly trio_game trio_plays held

pub returns-clause-declines : goal.returns-clause-declines
returns-clause-declines c held = declines-rightly trio_game trio_plays held

pub returns-clause-in_time : goal.returns-clause-in_time
returns-clause-in_time c held = commits-in-time trio_game trio_plays held

pub returns-clause-falls : goal.returns-clause-falls
returns-clause-falls c held = falls-by-cause held

pub returns-clause-fells : goal.returns-clause-fells
returns-clause-fells c held = faults-fell held

pub returns-clause-calls : goal.returns-clause-calls
returns-clause-calls c held = calls-counted held

pub returns-clause-readers : goal.returns-clause-readers
returns-clause-readers c held = reads-rightly trio_game trio_plays held

pub returns-clause-callbacks : goal.returns-clause-callbacks
returns-clause-callbacks c held = calls-back trio_game trio_plays held

pub returns-clause-tells_once : goal.returns-clause-tells_once
returns-clause-tells_once c held = tells-once trio_game trio_plays held

pub returns-clause-posts : goal.returns-clause-posts
returns-clause-posts c held = prints-posts trio_game trio_plays held

pub returns-clause-files : goal.returns-clause-files
returns-clause-files c held = keeps-files trio_game trio_plays held

pub returns-clause-stays : goal.returns-clause-stays
returns-clause-stays c held = keeps-records trio_game trio_plays held

pub returns-clause-stands_once : goal.returns-clause-stands_once
returns-clause-stands_once c held = stands-once trio_game trio_plays held

pub returns-clause-settles : goal.returns-clause-settles
returns-clause-settles c held = settles-all trio_game trio_plays held

pub returns-clause-fault_keeps : goal.returns-clause-fault_keeps
returns-clause-fault_keeps c held left world = keeps-at-fault trio_game trio_plays held left world

pub returns-clause-want_tells : goal.returns-clause-want_tells
returns-clause-want_tells c held left world = tells-at-want trio_game trio_plays held left world
