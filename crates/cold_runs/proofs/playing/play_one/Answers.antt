use Rattle.cold_runs.proofs.playing.play_one.Goals as goal

pub returns : goal.returns
returns g c = c.play_line-played.ensures
