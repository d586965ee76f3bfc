use Rattle.std.proofs.Common.{ℕ, List, ap, map}
use Rattle.std.specs.Prelude.{string_bytes}
use Rattle.commands.specs.declared.command.Command.TheVariants.{Run, Check, Expr, Gen, Load, Scan}
use Rattle.commands.specs.Commands.{command_of}
use Rattle.command_journal.specs.Worlds.{both}
use Rattle.aisrun.specs.Colds.{AsksOther}
use Rattle.aisrun.proofs.Asking.{others}
use Rattle.aisrun.proofs.CompletenessLaws.{completes, checks, exprs, scans}
use Rattle.aisrun.proofs.GeneratingLaws.{generates}
use Rattle.aisrun.proofs.LoadCompleteness.{loads}
use Rattle.aisrun.proofs.WordEndings.{any-rises, cold-served, cold-stays, other-ended, other-ends, recovered, source-stays, trio-served, trio-stays, world-stays}
use Rattle.aisrun.proofs.run.run.Goals as goal

pub returns-clause-ends : goal.returns-clause-ends
returns-clause-ends g c other = other-ends _ _ c.run_words.result c.run_words.ensures other

pub returns-clause-trio_ends : goal.returns-clause-trio_ends
returns-clause-trio_ends g c asks = (trio-served _ _ c.run_words.result c.run_words.ensures asks).ends

pub returns-clause-cold_ends : goal.returns-clause-cold_ends
returns-clause-cold_ends g c asks = (cold-served _ _ c.run_words.result c.run_words.ensures asks).ends

pub returns-clause-recovers : goal.returns-clause-recovers
returns-clause-recovers g c asks = recovered _ _ c.run_words.result c.run_words.ensures asks

pub returns-clause-world_stays : goal.returns-clause-world_stays
returns-clause-world_stays g c asks = world-stays _ _ c.run_words.result c.run_words.ensures asks

pub returns-clause-trio_stays : goal.returns-clause-trio_stays
returns-clause-trio_stays g c other = trio-stays _ _ c.run_words.result c.run_words.ensures other

pub returns-clause-cold_stays : goal.returns-clause-cold_stays
returns-clause-cold_stays g c other = cold-stays _ _ c.run_words.result c.run_words.ensures other

pub returns-clause-source_stays : goal.returns-clause-source_stays
returns-clause-source_stays g c asks = source-stays _ _ c.run_words.result c.run_words.ensures asks

pub returns-clause-faults : goal.returns-clause-faults
returns-clause-faults g c other = any-rises _ _ c.run_words.result c.run_words.ensures other

pub returns-clause-cold_faults : goal.returns-clause-cold_faults
returns-clause-cold_faults g c asks = (cold-served _ _ c.run_words.result c.run_words.ensures asks).faults

pub returns-clause-one_history : goal.returns-clause-one_history
returns-clause-one_history g c = c.law_of_runs.ensures.one_history _

pub returns-clause-replies : goal.returns-clause-replies
returns-clause-replies g c = c.law_of_runs.ensures.replies _

pub returns-clause-declines : goal.returns-clause-declines
returns-clause-declines g c = c.law_of_runs.ensures.declines _

pub returns-clause-in_time : goal.returns-clause-in_time
returns-clause-in_time g c = c.law_of_runs.ensures.in_time _

pub returns-clause-falls : goal.returns-clause-falls
returns-clause-falls g c = c.law_of_runs.ensures.falls _

pub returns-clause-fells : goal.returns-clause-fells
returns-clause-fells g c = c.law_of_runs.ensures.fells _

pub returns-clause-calls : goal.returns-clause-calls
returns-clause-calls g c = c.law_of_runs.ensures.calls (g.D.SharedDisk.seen c.args.disk.now).files

pub returns-clause-readers : goal.returns-clause-readers
returns-clause-readers g c = c.law_of_runs.ensures.readers _

pub returns-clause-callbacks : goal.returns-clause-callbacks
returns-clause-callbacks g c = c.law_of_runs.ensures.callbacks _

pub returns-clause-tells_once : goal.returns-clause-tells_once
returns-clause-tells_once g c = c.law_of_runs.ensures.tells_once _

pub returns-clause-posts : goal.returns-clause-posts
returns-clause-posts g c = c.law_of_runs.ensures.posts _

pub returns-clause-files : goal.returns-clause-files
returns-clause-files g c = c.law_of_runs.ensures.files _

pub returns-clause-stays : goal.returns-clause-stays
returns-clause-stays g c = c.law_of_runs.ensures.stays _

pub returns-clause-stands_once : goal.returns-clause-stands_once
returns-clause-stands_once g c = c.law_of_runs.ensures.stands_once _

pub returns-clause-settles : goal.returns-clause-settles
returns-clause-settles g c = c.law_of_runs.ensures.settles _

pub returns-clause-trio_one_history : goal.returns-clause-trio_one_history
returns-clause-trio_one_history g c = c.law_of_trio_runs.ensures.one_history _

pub returns-clause-trio_replies : goal.returns-clause-trio_replies
returns-clause-trio_replies g c = c.law_of_trio_runs.ensures.replies _

pub returns-clause-trio_declines : goal.returns-clause-trio_declines
returns-clause-trio_declines g c = c.law_of_trio_runs.ensures.declines _

pub returns-clause-trio_in_time : goal.returns-clause-trio_in_time
returns-clause-trio_in_time g c = c.law_of_trio_runs.ensures.in_time _

pub returns-clause-trio_falls : goal.returns-clause-trio_falls
returns-clause-trio_falls g c = c.law_of_trio_runs.ensures.falls _

pub returns-clause-trio_fells : goal.returns-clause-trio_fells
returns-clause-trio_fells g c = c.law_of_trio_runs.ensures.fells _

pub returns-clause-trio_calls : goal.returns-clause-trio_calls
returns-clause-trio_calls g c = c.law_of_trio_runs.ensures.calls (g.D.SharedDisk.seen c.args.disk.now).files

pub returns-clause-trio_readers : goal.returns-clause-trio_readers
returns-clause-trio_readers g c = c.law_of_trio_runs.ensures.readers _

pub returns-clause-trio_callbacks : goal.returns-clause-trio_callbacks
returns-clause-trio_callbacks g c = c.law_of_trio_runs.ensures.callbacks _

pub returns-clause-trio_tells_once : goal.returns-clause-trio_tells_once
returns-clause-trio_tells_once g c = c.law_of_trio_runs.ensures.tells_once _

pub returns-clause-trio_posts : goal.returns-clause-trio_posts
returns-clause-trio_posts g c = c.law_of_trio_runs.ensures.posts _

pub returns-clause-trio_files : goal.returns-clause-trio_files
returns-clause-trio_files g c = c.law_of_trio_runs.ensures.files _

pub returns-clause-trio_records : goal.returns-clause-trio_records
returns-clause-trio_records g c = c.law_of_trio_runs.ensures.stays _

pub returns-clause-trio_stands_once : goal.returns-clause-trio_stands_once
returns-clause-trio_stands_once g c = c.law_of_trio_runs.ensures.stands_once _

pub returns-clause-trio_settles : goal.returns-clause-trio_settles
returns-clause-trio_settles g c = c.law_of_trio_runs.ensures.settles _

pub returns-clause-cold_one_history : goal.returns-clause-cold_one_history
returns-clause-cold_one_history g c = c.law_of_cold_runs.ensures.one_history _

pub returns-clause-cold_finds : goal.returns-clause-cold_finds
returns-clause-cold_finds g c = c.law_of_cold_runs.ensures.finds _

pub returns-clause-cold_falls : goal.returns-clause-cold_falls
returns-clause-cold_falls g c = c.law_of_cold_runs.ensures.falls _

pub returns-clause-cold_declines : goal.returns-clause-cold_declines
returns-clause-cold_declines g c = c.law_of_cold_runs.ensures.declines _

pub returns-clause-cold_in_time : goal.returns-clause-cold_in_time
returns-clause-cold_in_time g c = c.law_of_cold_runs.ensures.in_time _

pub returns-clause-cold_replies : goal.returns-clause-cold_replies
returns-clause-cold_replies g c = c.law_of_cold_runs.ensures.replies _

pub returns-clause-cold_readers : goal.returns-clause-cold_readers
returns-clause-cold_readers g c = c.law_of_cold_runs.ensures.readers _

pub returns-clause-cold_callbacks : goal.returns-clause-cold_callbacks
returns-clause-cold_callbacks g c = c.law_of_cold_runs.ensures.callbacks _

pub returns-clause-cold_tells_once : goal.returns-clause-cold_tells_once
returns-clause-cold_tells_once g c = c.law_of_cold_runs.ensures.tells_once _

pub returns-clause-cold_posts : goal.returns-clause-cold_posts
returns-clause-cold_posts g c = c.law_of_cold_runs.ensures.posts _

pub returns-clause-cold_stands_once : goal.returns-clause-cold_stands_once
returns-clause-cold_stands_once g c = c.law_of_cold_runs.ensures.stands_once _

pub returns-clause-cold_records : goal.returns-clause-cold_records
returns-clause-cold_records g c = c.law_of_cold_runs.ensures.stays _

pub returns-clause-cold_stands : goal.returns-clause-cold_stands
returns-clause-cold_stands g c = c.law_of_cold_runs.ensures.stands _

pub returns-clause-cold_settles : goal.returns-clause-cold_settles
returns-clause-cold_settles g c = c.law_of_cold_runs.ensures.settles _

pub returns-clause-fault_keeps : goal.returns-clause-fault_keeps
returns-clause-fault_keeps g c =
    c.law_of_runs.ensures.fault_keeps (g.D.SharedDisk.seen c.args.disk.now).files (g.D.SharedDisk.seen c.run_words.new.disk) c.run_words.new.world

pub returns-clause-trio_fault_keeps : goal.returns-clause-trio_fault_keeps
returns-clause-trio_fault_keeps g c =
    c.law_of_trio_runs.ensures.fault_keeps (g.D.SharedDisk.seen c.args.disk.now).files (g.D.SharedDisk.seen c.run_words.new.disk) c.run_words.new.trio

pub returns-clause-cold_fault_keeps : goal.returns-clause-cold_fault_keeps
returns-clause-cold_fault_keeps g c =
    c.law_of_cold_runs.ensures.fault_keeps (both (g.D.SharedDisk.seen c.args.disk.now) (g.J.SharedDisk.seen c.args.journal.now))
    (both (g.D.SharedDisk.seen c.run_words.new.disk) (g.J.SharedDisk.seen c.run_words.new.journal)) c.run_words.new.cold

pub returns-clause-want_tells : goal.returns-clause-want_tells
returns-clause-want_tells g c =
    c.law_of_runs.ensures.want_tells (g.D.SharedDisk.seen c.args.disk.now).files (g.D.SharedDisk.seen c.run_words.new.disk) c.run_words.new.world

pub returns-clause-trio_want_tells : goal.returns-clause-trio_want_tells
returns-clause-trio_want_tells g c =
    c.law_of_trio_runs.ensures.want_tells (g.D.SharedDisk.seen c.args.disk.now).files (g.D.SharedDisk.seen c.run_words.new.disk) c.run_words.new.trio

pub returns-clause-cold_want_tells : goal.returns-clause-cold_want_tells
returns-clause-cold_want_tells g c =
    c.law_of_cold_runs.ensures.want_tells (both (g.D.SharedDisk.seen c.args.disk.now) (g.J.SharedDisk.seen c.args.journal.now))
    (both (g.D.SharedDisk.seen c.run_words.new.disk) (g.J.SharedDisk.seen c.run_words.new.journal)) c.run_words.new.cold

pub returns-clause-completes : goal.returns-clause-completes
returns-clause-completes g c can none =
    let words : List (List ℕ) = map (λ word. string_bytes word) c.args.words.now in
    let other : AsksOther words = others words Run (λ e. cc) (λ e. cc) (λ e. cc) (ap command_of can.asked) in
    completes _ c.run_words.result (other-ended _ _ c.run_words.result c.run_words.ensures other) can none.0 none.1 none.2

pub returns-clause-serves : goal.returns-clause-serves
returns-clause-serves g c can none =
    (trio-served _ _ c.run_words.result c.run_words.ensures can.0).completes can.1 none

pub returns-clause-cold_completes : goal.returns-clause-cold_completes
returns-clause-cold_completes g c asks can none =
    (cold-served _ _ c.run_words.result c.run_words.ensures asks).completes can none

pub returns-clause-cold_accepts : goal.returns-clause-cold_accepts
returns-clause-cold_accepts g c asks told is =
    (cold-served _ _ c.run_words.result c.run_words.ensures asks).accepts told is

pub returns-clause-checks : goal.returns-clause-checks
returns-clause-checks g c can reads sink =
    let words : List (List ℕ) = map (λ word. string_bytes word) c.args.words.now in
    let other : AsksOther words = others words Check (λ e. cc) (λ e. cc) (λ e. cc) (ap command_of can.asked) in
    checks _ c.run_words.result (other-ended _ _ c.run_words.result c.run_words.ensures other) can reads sink

pub returns-clause-exprs : goal.returns-clause-exprs
returns-clause-exprs g c can sink =
    let words : List (List ℕ) = map (λ word. string_bytes word) c.args.words.now in
    let other : AsksOther words = others words (Expr can.kind) (λ e. cc) (λ e. cc) (λ e. cc) can.asked in
    exprs _ c.run_words.result (other-ended _ _ c.run_words.result c.run_words.ensures other) can sink

pub returns-clause-generates : goal.returns-clause-generates
returns-clause-generates g c can sink =
    let words : List (List ℕ) = map (λ word. string_bytes word) c.args.words.now in
    let other : AsksOther words = others words (Gen can.count can.seed) (λ e. cc) (λ e. cc) (λ e. cc) can.asked in
    generates _ c.run_words.result (other-ended _ _ c.run_words.result c.run_words.ensures other) can sink

pub returns-clause-loads : goal.returns-clause-loads
returns-clause-loads g c can sink disk =
    let words : List (List ℕ) = map (λ word. string_bytes word) c.args.words.now in
    let other : AsksOther words = others words (Load can.count can.seed) (λ e. cc) (λ e. cc) (λ e. cc) can.asked in
    loads _ c.run_words.result (other-ended _ _ c.run_words.result c.run_words.ensures other) can sink disk

pub returns-clause-scans : goal.returns-clause-scans
returns-clause-scans g c holds reads sink =
    let words : List (List ℕ) = map (λ word. string_bytes word) c.args.words.now in
    let other : AsksOther words = others words (Scan holds.can.query) (λ e. cc) (λ e. cc) (λ e. cc) holds.can.asked in
    scans _ c.run_words.result (other-ended _ _ c.run_words.result c.run_words.ensures other) holds reads sink
