use Rattle.world_runs.proofs.figures.tell_state.Goals as goal

pub returns : goal.returns
returns g c = record {
  told = c.tell_load.ensures.told;
  counted = record { files = c.tell_load.ensures.same; looks = c.tell_load.ensures.looks; stops = c.tell_load.ensures.stops };
  cause = c.tell_load.ensures.cause;
}
