use Rattle.cold_runs.proofs.FaultLaws.{keeps-cold-at-fault, tells-cold-at-want}
use Rattle.cold_runs.proofs.RunLaws.{calls-back, commits-in-time, declines-rightly, falls-cold, finds-all, journal-stands, keeps-one-history, keeps-records, prints-posts, reads-rightly, replies-rightly, settles-cold, stands-once, tells-once}
use Rattle.cold_runs.proofs.laws.law_of_cold_runs.Goals as goal

pub returns-clause-one_history : goal.returns-clause-one_history
returns-clause-one_history c held = keeps-one-history held

pub returns-clause-finds : goal.returns-clause-finds
returns-clause-finds c held = finds-all held

pub returns-clause-falls : goal.returns-clause-falls
returns-clause-falls c held = falls-cold held

pub returns-clause-declines : goal.returns-clause-declines
returns-clause-declines c held = declines-rightly held

pub returns-clause-in_time : goal.returns-clause-in_time
returns-clause-in_time c held = commits-in-time held

pub returns-clause-replies : goal.returns-clause-replies
returns-clause-replies c held = replies-rightly held

pub returns-clause-readers : goal.returns-clause-readers
returns-clause-readers c held = reads-rightly held

pub returns-clause-callbacks : goal.returns-clause-callbacks
returns-clause-callbacks c held = calls-back held

pub returns-clause-tells_once : goal.returns-clause-tells_once
returns-clause-tells_once c held = tells-once held

pub returns-clause-posts : goal.returns-clause-posts
returns-clause-posts c held = prints-posts held

pub returns-clause-stands_once : goal.returns-clause-stands_once
returns-clause-stands_once c held = stands-once held

pub returns-clause-stays : goal.returns-clause-stays
returns-clause-stays c held = keeps-records held

pub returns-clause-stands : goal.returns-clause-stands
returns-clause-stands c held = journal-stands held

pub returns-clause-settles : goal.returns-clause-settles
returns-clause-settles c held = settles-cold held

pub returns-clause-fault_keeps : goal.returns-clause-fault_keeps
returns-clause-fault_keeps c held left world = keeps-cold-at-fault held left world

pub returns-clause-want_tells : goal.returns-clause-want_tells
returns-clause-want_tells c held left world = tells-cold-at-want held left world
