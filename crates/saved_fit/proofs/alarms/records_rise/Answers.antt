use Rattle.calls.specs.declared.saved.SavedAlarm.{SavedAlarm}
use Rattle.plain_service.specs.Fitness.{is_record_before}
use Rattle.saved_fit.proofs.RisingLaws.{rising-decided, number-onward}
use Rattle.saved_fit.proofs.alarms.records_rise.Goals as goal

pub returns : goal.returns
returns c = rising-decided is_record_before (number-onward (λ (alarm : SavedAlarm). alarm.k)) c.args.alarms.now c.are_rising.result c.are_rising.ensures
