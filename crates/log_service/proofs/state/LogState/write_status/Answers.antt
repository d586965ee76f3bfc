use Rattle.std.proofs.Common.{◌≡◌, true, false, cond, ap, sym, ◌∙◌}
use Rattle.std.proofs.lemmas.Int.{to_z-of_z}
use Rattle.client_set.specs.Members.{has}
use Rattle.ais_values.specs.declared.status.Status.TheVariants as status
use Rattle.stream_config.specs.Attributes.{kind_of}
use Rattle.record_print.specs.Records.{can_write}
use Rattle.log_history.specs.Times.{record_at}
use Rattle.log_history.specs.Marks.{is_filtered}
use Rattle.log_history.specs.Table.{LogTable}
use Rattle.log_history.specs.KeptAnswers.{has_opener, is_filled, kept_mark}
use Rattle.log_service.proofs.KeptLemmas.{same_table}
use Rattle.log_service.proofs.WriteLemmas.{write-decides}
use Rattle.log_service.proofs.state.LogState.write_status.Goals as goal

pub returns-then-filters : goal.returns-then-filters
returns-then-filters c =
    let time_fits = c.ranges.time in
    let now_fits = c.ranges.now in
    let table = c.args.self.now.table in
    let rec = record_at c.args.time c.args.header.now c.args.body.now c.args.now in
    let users : c.self.inside.users ≡ table.users = ap (λ (kept : LogTable). kept.users) (same_table c.self.view_is) in
    let using : has c.args.client table.users ≡ true = sym (c.if-not-contains.ensures ∙ ap (has c.args.client) users) in
    let opened : has_opener table.streams c.args.name.now c.args.client ≡ true = sym c.if-not-has_open.ensures in
    let may : can_write (kind_of c.args.name.now) c.args.time c.args.header.now ≡ true =
    ap (λ kind. can_write kind c.args.time c.args.header.now) (sym c.kind.ensures) ∙ sym (simp to_z-of_z at c.may_write.ensures) ∙ c.if-not-may_write.false in
    let masked = is_filtered (kept_mark table.streams c.args.name.now).mask c.args.header.now in
    let filtered : true ≡ masked = c.if-filters.ensures in
    ap (λ b. cond b status.Ok (cond (is_filled table.streams c.args.name.now rec) status.NoSpace status.Ok)) filtered
    ∙ write-decides (has c.args.client table.users) (has_opener table.streams c.args.name.now c.args.client) masked (is_filled table.streams c.args.name.now rec) (kind_of c.args.name.now) c.args.flags c.args.time c.args.header.now using opened c.if-flags-gt1.false may

pub returns-then-is_full_for : goal.returns-then-is_full_for
returns-then-is_full_for c =
    let time_fits = c.ranges.time in
    let now_fits = c.ranges.now in
    let table = c.args.self.now.table in
    let rec = record_at c.args.time c.args.header.now c.args.body.now c.args.now in
    let users : c.self.inside.users ≡ table.users = ap (λ (kept : LogTable). kept.users) (same_table c.self.view_is) in
    let using : has c.args.client table.users ≡ true = sym (c.if-not-contains.ensures ∙ ap (has c.args.client) users) in
    let opened : has_opener table.streams c.args.name.now c.args.client ≡ true = sym c.if-not-has_open.ensures in
    let may : can_write (kind_of c.args.name.now) c.args.time c.args.header.now ≡ true =
    ap (λ kind. can_write kind c.args.time c.args.header.now) (sym c.kind.ensures) ∙ sym (simp to_z-of_z at c.may_write.ensures) ∙ c.if-not-may_write.false in
    let masked = is_filtered (kept_mark table.streams c.args.name.now).mask c.args.header.now in
    let passes : false ≡ masked = c.if-filters.ensures in
    let full : true ≡ is_filled table.streams c.args.name.now rec = simp to_z-of_z at c.if-is_full_for.ensures in
    ap (λ b. cond b status.NoSpace status.Ok) full
    ∙ ap (λ b. cond b status.Ok (cond (is_filled table.streams c.args.name.now rec) status.NoSpace status.Ok)) passes
    ∙ write-decides (has c.args.client table.users) (has_opener table.streams c.args.name.now c.args.client) masked (is_filled table.streams c.args.name.now rec) (kind_of c.args.name.now) c.args.flags c.args.time c.args.header.now using opened c.if-flags-gt1.false may

pub returns-else-is_full_for : goal.returns-else-is_full_for
returns-else-is_full_for c =
    let time_fits = c.ranges.time in
    let now_fits = c.ranges.now in
    let table = c.args.self.now.table in
    let rec = record_at c.args.time c.args.header.now c.args.body.now c.args.now in
    let users : c.self.inside.users ≡ table.users = ap (λ (kept : LogTable). kept.users) (same_table c.self.view_is) in
    let using : has c.args.client table.users ≡ true = sym (c.if-not-contains.ensures ∙ ap (has c.args.client) users) in
    let opened : has_opener table.streams c.args.name.now c.args.client ≡ true = sym c.if-not-has_open.ensures in
    let may : can_write (kind_of c.args.name.now) c.args.time c.args.header.now ≡ true =
    ap (λ kind. can_write kind c.args.time c.args.header.now) (sym c.kind.ensures) ∙ sym (simp to_z-of_z at c.may_write.ensures) ∙ c.if-not-may_write.false in
    let masked = is_filtered (kept_mark table.streams c.args.name.now).mask c.args.header.now in
    let passes : false ≡ masked = c.if-filters.ensures in
    let full : false ≡ is_filled table.streams c.args.name.now rec = simp to_z-of_z at c.if-is_full_for.ensures in
    ap (λ b. cond b status.NoSpace status.Ok) full
    ∙ ap (λ b. cond b status.Ok (cond (is_filled table.streams c.args.name.now rec) status.NoSpace status.Ok)) passes
    ∙ write-decides (has c.args.client table.users) (has_opener table.streams c.args.name.now c.args.client) masked (is_filled table.streams c.args.name.now rec) (kind_of c.args.name.now) c.args.flags c.args.time c.args.header.now using opened c.if-flags-gt1.false may
