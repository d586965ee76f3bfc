use Rattle.std.proofs.Common.{rules}
use Rattle.world_runs.proofs.ScriptLaws.{world-scripts}
use Rattle.world_runs.proofs.scripting.run_script.Goals as goal

pub run_script-requires-clause-lines : goal.run_script-requires-clause-lines
run_script-requires-clause-lines g c = world-scripts

pub run_script-requires-clause-play : goal.run_script-requires-clause-play
run_script-requires-clause-play g c = record {
  can = λ lines out disk world script empty unarmed. (script, (empty, (unarmed, search rules)));
  does = λ lines out disk world status out_after left after played. search rules;
}
