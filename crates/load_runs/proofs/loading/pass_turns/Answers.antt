use Rattle.std.proofs.Common.{◌≡◌, ℕ, suc, ◌+◌, Ok, Err, List, ◌++◌, ap, sym, ◌∙◌, subst, arith, add-one}
use Rattle.script_lines.specs.declared.line.Line.{Line}
use Rattle.load_script.specs.Numbers.{next_state, number_in, state_at}
use Rattle.load_lines.specs.Lines.{turn_lines, turns_lines}
use Rattle.load_lines.proofs.Whole.{number-low}
use Rattle.played_runs.specs.Ends.{StoodUpTo}
use Rattle.played_runs.proofs.CountSteps.{on-behind, on-same}
use Rattle.played_runs.proofs.PassingSteps.{gone-on, passes-halted, passes-nothing, passes-then, rises-later}
use Rattle.played_runs.specs.Passing.{Passes}
use Rattle.load_runs.proofs.TurnSteps.{as-turn, turns-more}
use Rattle.load_runs.proofs.loading.pass_turns.Goals as goal

pub loop-done-init : goal.loop-done-init
loop-done-init g c =
    let disk = c.args.disk.now in
    record {
      state = c.first_state-state.ensures;
      passes = passes-nothing g.W.Playable.game g.W.Playable.plays (StoodUpTo g.D.SharedDisk.seen) (g.D.SharedDisk.seen disk) c.args.world.now tt;
      disk = on-same (g.D.SharedDisk.seen disk).faults;
    }

pub pass_turn-requires-clause-gone : goal.pass_turn-requires-clause-gone
pass_turn-requires-clause-gone g c =
    let start = g.D.SharedDisk.seen c.args.disk.now in
    let mid = g.D.SharedDisk.seen c.loop-done.disk in
    gone-on g.W.Playable.game g.W.Playable.plays (StoodUpTo g.D.SharedDisk.seen) (turns_lines c.args.seed c.loop-done.done) start mid c.args.world.now c.loop-done.world tt c.requires.gone c.loop-done.invariant.passes

pub pass_turn-requires-clause-small : goal.pass_turn-requires-clause-small
pass_turn-requires-clause-small g c =
    let number : c.number_in.result ≡ number_in (state_at c.args.seed (suc c.loop-done.done)) = c.number_in.ensures ∙ ap number_in (c.next_state-state.ensures ∙ ap next_state c.loop-done.invariant.state) in
    let low = number-low c.args.seed (suc c.loop-done.done) in
    omega (arith, number, low)

pub returns-in-Err-clause-passes : goal.returns-in-Err-clause-passes
returns-in-Err-clause-passes g c =
    let seed = c.args.seed in
    let done = c.loop-done.done in
    let start = g.D.SharedDisk.seen c.args.disk.now in
    let mid = g.D.SharedDisk.seen c.loop-done.disk in
    let left = g.D.SharedDisk.seen c.pass_turn.new.disk in
    let Since = StoodUpTo g.D.SharedDisk.seen in
    let halt = c.in-Err.halt in
    let turn = as-turn seed done (done + 1) c.loop-done.state c.next_state-state.result c.number_in.result (add-one done) c.loop-done.invariant.state c.next_state-state.ensures c.number_in.ensures in
    let lines = turn_lines (done + 1) c.number_in.result in
    let both = passes-then g.W.Playable.game g.W.Playable.plays (StoodUpTo g.D.SharedDisk.seen) (turns_lines seed done) lines start mid left c.args.world.now c.loop-done.world c.pass_turn.new.world tt (Err halt) c.loop-done.invariant.passes c.in-Err.ensures.passes in
    let more = turns-more seed done c.args.count c.loop-done-test.true in
    let first = subst (λ (all : List Line). (Passes g.W.Playable.game) Since all start left c.args.world.now c.pass_turn.new.world (Err halt)) (ap (λ (behind : List Line). turns_lines seed done ++ behind) turn) both in
    subst (λ (all : List Line). (Passes g.W.Playable.game) Since all start left c.args.world.now c.pass_turn.new.world (Err halt)) (sym more.1) (passes-halted g.W.Playable.game g.W.Playable.plays Since (turns_lines seed (suc done)) more.0 start left c.args.world.now c.pass_turn.new.world halt first)

pub loop-done-preserved : goal.loop-done-preserved
loop-done-preserved g c =
    let seed = c.args.seed in
    let done = c.loop-done.done in
    let start = g.D.SharedDisk.seen c.args.disk.now in
    let mid = g.D.SharedDisk.seen c.loop-done.disk in
    let left = g.D.SharedDisk.seen c.pass_turn.new.disk in
    let Since = StoodUpTo g.D.SharedDisk.seen in
    let next = add-one done in
    let turn = as-turn seed done (done + 1) c.loop-done.state c.next_state-state.result c.number_in.result next c.loop-done.invariant.state c.next_state-state.ensures c.number_in.ensures in
    let lines = turn_lines (done + 1) c.number_in.result in
    let both = passes-then g.W.Playable.game g.W.Playable.plays (StoodUpTo g.D.SharedDisk.seen) (turns_lines seed done) lines start mid left c.args.world.now c.loop-done.world c.pass_turn.new.world tt (Ok tt) c.loop-done.invariant.passes c.in-Ok.ensures.passes in
    record {
      state = rw next (c.next_state-state.ensures ∙ ap next_state c.loop-done.invariant.state);
      passes = rw next (subst (λ (all : List Line). (Passes g.W.Playable.game) Since all start left c.args.world.now c.pass_turn.new.world (Ok tt)) (ap (λ (behind : List Line). turns_lines seed done ++ behind) turn) both);
      disk = on-behind (g.D.SharedDisk.seen c.args.disk.now).faults (g.D.SharedDisk.seen c.loop-done.disk).faults (g.D.SharedDisk.seen c.pass_turn.new.disk).faults c.loop-done.invariant.disk c.in-Ok.ensures.counts;
    }

pub returns-in-Err-clause-counts : goal.returns-in-Err-clause-counts
returns-in-Err-clause-counts g c =
    rises-later (g.D.SharedDisk.seen c.args.disk.now).faults (g.D.SharedDisk.seen c.loop-done.disk).faults (g.D.SharedDisk.seen c.pass_turn.new.disk).faults (Err c.in-Err.halt) c.loop-done.invariant.disk c.in-Err.ensures.counts

pub returns-clause-passes : goal.returns-clause-passes
returns-clause-passes g c =
    let start = g.D.SharedDisk.seen c.args.disk.now in
    let left = g.D.SharedDisk.seen c.loop-done.disk in
    let last : c.loop-done.done ≡ c.args.count = omega arith in
    subst (λ (turns : ℕ). (Passes g.W.Playable.game) (StoodUpTo g.D.SharedDisk.seen) (turns_lines c.args.seed turns) start left c.args.world.now c.loop-done.world (Ok tt)) last c.loop-done.invariant.passes
