use Rattle.cluster_tests.proofs.lines_tests.plays_by.Goals as goal

pub play-done-requires-clause-shares : goal.play-done-requires-clause-shares
play-done-requires-clause-shares g c κs within = λ setup state good shows. tt
