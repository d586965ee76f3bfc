use Rattle.journal_frames.proofs.law.law_of_appends.Goals as goal
use Rattle.journal_frames.proofs.Frames.{holds-once, short-push}
use Rattle.journal_frames.proofs.Mending.{mend-whole}
use Rattle.journal_frames.proofs.Appends.{append-done, append-broken, append-staged, staged-holds}
use Rattle.journal_frames.proofs.Making.{make-done}

pub returns-clause-made : goal.returns-clause-made
returns-clause-made c = λ text files one. record { short = (one, tt); stands = make-done text files one }

pub returns-clause-done : goal.returns-clause-done
returns-clause-done c = λ texts text files has one. record {
  short = short-push texts text has.short one;
  stands = append-done texts text has.short one files has.stands;
}

pub returns-clause-broken : goal.returns-clause-broken
returns-clause-broken c = λ texts text answer count old new has one broke. append-broken texts text has.short one answer count old new has.stands broke

pub returns-clause-once : goal.returns-clause-once
returns-clause-once c = holds-once

pub returns-clause-mended : goal.returns-clause-mended
returns-clause-mended c = λ texts closed files file holds stands shut. record {
  short = holds.short;
  stands = mend-whole texts closed files file holds.gate holds.behind stands holds.is shut;
}

pub returns-clause-staged : goal.returns-clause-staged
returns-clause-staged c = λ texts text answer count old new has one broke. append-staged texts text has.short one answer count old new has.stands broke

pub returns-clause-holds : goal.returns-clause-holds
returns-clause-holds c = λ texts text files all one has. (has.0, has.1, staged-holds texts text all one has.0 has.2)
