use Rattle.std.proofs.Common.{ℕ, length, refl, ap, sym, ◌∙◌, subst}
use Rattle.cluster_clients.proofs.DispatchSteps.{on-err}
use Rattle.group_servers.specs.Caught.{PutsCaught}
use Rattle.group_servers.proofs.crashing.prepare.Goals as goal

pub returns-clause-ok : goal.returns-clause-ok
returns-clause-ok g c =
    let old = c.args.world.now in
    let before = c.args.lines.now.items in
    let front = c.put_caught.new.lines.items in
    let P : ℕ → Type 0 = λ entries. PutsCaught c.catches-catching.result old.servers.active entries before front in
    record {
      catching_is = c.catches-catching.ensures;
      caught = c.in_ok-catch_if.ensures;
      fresh_is = c.any_fresh-fresh.ensures;
      room = c.in_ok-reserve.ensures.ok;
      entries = c.in_ok-reserve.ensures.entries;
      rest = refl;
      front = front;
      puts = subst P (c.len-entries.ensures ∙ ap length c.in_ok-reserve.ensures.entries) c.in_ok-put_caught.ensures;
      counted = sym (ap length c.as_slice-base.ensures.value);
      lines = c.in_ok-put_ends.ensures;
    }

pub returns-in_err-reserve-clause-err : goal.returns-in_err-reserve-clause-err
returns-in_err-reserve-clause-err g c = on-err c.from_residual.result (record { net = refl; agents = refl; history = c.in_err-reserve.ensures.entries; now = refl; armed = refl })

pub returns-in_err-catch_if-clause-err : goal.returns-in_err-catch_if-clause-err
returns-in_err-catch_if-clause-err g c = on-err c.from_residual-in_err-catch_if.result (record { net = refl; agents = refl; history = c.in_ok-reserve.ensures.entries; now = refl; armed = refl })

pub returns-in_err-put_caught-clause-err : goal.returns-in_err-put_caught-clause-err
returns-in_err-put_caught-clause-err g c = on-err c.from_residual-in_err-put_caught.result (record { net = refl; agents = refl; history = c.in_ok-reserve.ensures.entries; now = refl; armed = refl })

pub returns-in_err-put_ends-clause-err : goal.returns-in_err-put_ends-clause-err
returns-in_err-put_ends-clause-err g c = on-err c.from_residual-in_err-put_ends.result (record { net = refl; agents = refl; history = c.in_ok-reserve.ensures.entries; now = refl; armed = refl })
