use Rattle.std.proofs.Common.{sym, subst}
use Rattle.std.specs.Prelude.{codes}
use Rattle.script_lines.specs.declared.line.Line.{Line}
use Rattle.load_lines.proofs.Fixed.{cluster-spelled}
use Rattle.played_runs.specs.Handed.{CanOpen, Opened}
use Rattle.load_runs.proofs.loading.begin_load.Goals as goal

pub begin_by-requires-clause-can : goal.begin_by-requires-clause-can
begin_by-requires-clause-can g c =
    subst (λ (line : Line). (CanOpen g.W.Playable.game g.D.SharedDisk.seen) line c.args.disk.now c.args.world.now) (sym c.opening_line.ensures)
    (record {
      spelled = (codes "cluster start=1704067200000000000 queue=2 callbacks=256", c.requires.lines.spelled _ _ cluster-spelled);
      begins = c.requires.lines.begins;
      empty = c.requires.empty;
      unarmed = c.requires.unarmed;
    })

pub returns : goal.returns
returns g c =
    subst (λ (line : Line). (Opened g.W.Playable.game g.D.SharedDisk.seen) line c.args.disk.now c.begin_by.new.disk c.args.world.now c.begin_by.new.world c.begin_by.result) c.opening_line.ensures c.begin_by.ensures
