use Rattle.world_tests.proofs.trio_tests.plays.Goals as goal

pub play_trio-status-requires-clause-script : goal.play_trio-status-requires-clause-script
play_trio-status-requires-clause-script g c κs within = c.law_of_trio_scripts.ensures _ _ c.in-Ok.ensures.lines
