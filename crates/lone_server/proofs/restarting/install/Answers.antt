use Rattle.std.proofs.Common.{ℕ, length, ap, sym, ◌∙◌, subst}
use Rattle.calls.specs.History.{Pushed}
use Rattle.mirror.specs.declared.state.NodeState.{NodeState}
use Rattle.lone_server.specs.Restarting.{TellsAll}
use Rattle.lone_server.proofs.restarting.install.Goals as goal

pub link_journal-requires : goal.link_journal-requires
link_journal-requires c = record { role = c.requires.role; idle = c.requires.idle }

pub returns-in-Ok-tell_found-clause-ok : goal.returns-in-Ok-tell_found-clause-ok
returns-in-Ok-tell_found-clause-ok c =
    let before = c.args.lines.now.items in
    let after = c.tell_found.new.lines.items in
    let entries = c.args.cold.entries in
    let T : ℕ → Pushed → Type 0 = λ known found. TellsAll known entries found.entries before after in
    let found = c.in-Ok-tell_found.found in
    let told : T (length c.args.history.now.entries) found = subst (λ (known : ℕ). T known found) c.len.ensures c.in-Ok-tell_found.ensures in
    record {
      is = ap (λ (node : NodeState). record c.args.servers.now { node = node; journal = c.args.cold.journal }) (c.replace-in-Ok-tell_found.ensures.after ∙ c.in-Ok.ensures.ok);
      tells = subst (λ (history : Pushed). T (length c.args.history.now.entries) history) (sym c.replace.ensures.after) told;
    }
