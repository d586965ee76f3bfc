use Rattle.std.proofs.Common.{refl, ap, ◌∙◌, ◌++◌, subst}
use Rattle.std.specs.Option.{option_to_list}
use Rattle.mirror.specs.declared.state.NodeState.{NodeState as Node}
use Rattle.group_servers.specs.Falls.{TakesOver}
use Rattle.group_servers.proofs.crashing.fall.Goals as goal

pub returns : goal.returns
returns g c = λ before long is.
    let old = c.args.world.now in
    let T : Node → Type 0 = λ node. TakesOver c.args.fresh c.take_over-taken.result (record old.servers { active = node }) c.take_over-taken.new.servers before c.take_over-taken.new.lines.items (g.D.SharedDisk.seen c.args.disk.now) (g.D.SharedDisk.seen c.take_over-taken.new.disk) in
    record {
      ends = subst T c.go_down.ensures (c.take_over-taken.ensures before long is);
      entries = c.push_caught.ensures ∙ ap (λ caught. option_to_list caught ++ old.history.entries) c.take_caught-caught.ensures;
      rest = refl;
    }
