use Rattle.std.proofs.Common.{ℕ, Option, Some, None, Err, inr, List, length, refl, ap, sym, ◌∙◌, subst, arith}
use Rattle.std.specs.List.{AllByRecursion}
use Rattle.disk_model.specs.declared.tally.Tally.{Tally}
use Rattle.group_servers.specs.declared.group.Seat.{Seat}
use Rattle.group_servers.specs.Falls.{IsDisarmed, IsFitSeat}
use Rattle.group_servers.specs.Lines.{takers}
use Rattle.group_servers.specs.Tries.{Tries, TriesPartly}
use Rattle.group_servers.proofs.MadeSteps.{leads-fit, wayless-fit, tries-fewer, lines-within, takers-are, takes-done, takes-none, takes-partly}
use Rattle.group_servers.proofs.falling.take_over.Goals as goal

pub first_takeover-requires : goal.first_takeover-requires
first_takeover-requires g c = record { unarmed = ap (λ (t : Tally). t.armed) c.disarm.ensures.counted }

-- fewer are left than there were
pub tell_over-requires : goal.tell_over-requires
tell_over-requires g c =
    let old = c.args.servers.now in
    let fresh = c.args.fresh in
    let held = g.D.SharedDisk.seen c.args.disk.now in
    let start = g.D.SharedDisk.seen c.disarm.new.self in
    let left = g.D.SharedDisk.seen c.first_takeover.new.disk in
    let K : Option ℕ → Type 0 = λ found. Tries fresh c.drop_ways.new.seats c.first_takeover.new.seats found start left in
    let came = subst K c.in-Ok-Some.field-0-is c.in-Ok-Some.ensures.tries in
    let started : IsDisarmed held start = record { files = c.disarm.ensures.same; faults = c.disarm.ensures.faults_stay; armed = ap (λ (t : Tally). t.armed) c.disarm.ensures.counted; tally = c.disarm.ensures.counted; stops = c.disarm.ensures.stops_stay } in
    let many = c.count_takers-count.ensures.is ∙ ap (λ (seats : List Seat). length (takers fresh seats)) c.drop_ways.ensures in
    let fewer = tries-fewer fresh c.drop_ways.new.seats c.first_takeover.new.seats (Some c.in-Ok-Some.place) c.in-Ok-Some.place start left refl came in
    let are = c.count_takers-left.ensures.is in
    let were = c.count_takers-count.ensures.is in
    record {
      some = omega arith;
      lines = lines-within c.requires.lines.0 c.args.lines.now.items old.acting _ _ c.args.base c.count_takers-count.result c.requires.lines.1 (takers-are g.row.N fresh old held start started c.count_takers-count.result many) c.requires.lines.2;
    }

pub tell_fallen-requires : goal.tell_fallen-requires
tell_fallen-requires g c =
    let old = c.args.servers.now in
    let fresh = c.args.fresh in
    let held = g.D.SharedDisk.seen c.args.disk.now in
    let start = g.D.SharedDisk.seen c.disarm.new.self in
    let left = g.D.SharedDisk.seen c.first_takeover.new.disk in
    let started : IsDisarmed held start = record { files = c.disarm.ensures.same; faults = c.disarm.ensures.faults_stay; armed = ap (λ (t : Tally). t.armed) c.disarm.ensures.counted; tally = c.disarm.ensures.counted; stops = c.disarm.ensures.stops_stay } in
    let many = c.count_takers-count.ensures.is ∙ ap (λ (seats : List Seat). length (takers fresh seats)) c.drop_ways.ensures in
    let within = lines-within c.requires.lines.0 c.args.lines.now.items old.acting _ _ c.args.base c.count_takers-count.result c.requires.lines.1 (takers-are g.row.N fresh old held start started c.count_takers-count.result many) c.requires.lines.2 in
    omega arith

-- the one that took over
pub rejoin-requires : goal.rejoin-requires
rejoin-requires g c =
    let old = c.args.servers.now in
    let fresh = c.args.fresh in
    let held = g.D.SharedDisk.seen c.args.disk.now in
    let start = g.D.SharedDisk.seen c.disarm.new.self in
    let left = g.D.SharedDisk.seen c.first_takeover.new.disk in
    let K : Option ℕ → Type 0 = λ found. Tries fresh c.drop_ways.new.seats c.first_takeover.new.seats found start left in
    let came = subst K c.in-Ok-Some.field-0-is c.in-Ok-Some.ensures.tries in
    let started : IsDisarmed held start = record { files = c.disarm.ensures.same; faults = c.disarm.ensures.faults_stay; armed = ap (λ (t : Tally). t.armed) c.disarm.ensures.counted; tally = c.disarm.ensures.counted; stops = c.disarm.ensures.stops_stay } in
    let many = c.count_takers-count.ensures.is ∙ ap (λ (seats : List Seat). length (takers fresh seats)) c.drop_ways.ensures in
    let all = subst (λ (seats : List Seat). AllByRecursion IsFitSeat seats) (sym c.drop_ways.ensures) (wayless-fit old.seats c.requires.fit) in
    let fit = leads-fit fresh c.drop_ways.new.seats c.first_takeover.new.seats (Some c.in-Ok-Some.place) c.in-Ok-Some.place start left c.exchange-servers.new.seats old.active c.exchange-servers.new.active old.acting c.exchange-servers.result refl came all c.exchange-servers.ensures in
    record { idle = fit.0.1; role = fit.1; fit = fit.0.0 }

pub returns-in-Ok : goal.returns-in-Ok
returns-in-Ok g c = λ before long is.
    let old = c.args.servers.now in
    let fresh = c.args.fresh in
    let held = g.D.SharedDisk.seen c.args.disk.now in
    let start = g.D.SharedDisk.seen c.disarm.new.self in
    let left = g.D.SharedDisk.seen c.first_takeover.new.disk in
    let K : Option ℕ → Type 0 = λ found. Tries fresh c.drop_ways.new.seats c.first_takeover.new.seats found start left in
    let came = subst K c.in-Ok-Some.field-0-is c.in-Ok-Some.ensures.tries in
    let started : IsDisarmed held start = record { files = c.disarm.ensures.same; faults = c.disarm.ensures.faults_stay; armed = ap (λ (t : Tally). t.armed) c.disarm.ensures.counted; tally = c.disarm.ensures.counted; stops = c.disarm.ensures.stops_stay } in
    let many = c.count_takers-count.ensures.is ∙ ap (λ (seats : List Seat). length (takers fresh seats)) c.drop_ways.ensures in
    let T : List Seat → Type 0 = λ seats. Tries fresh seats c.first_takeover.new.seats (Some c.in-Ok-Some.place) start left in
    let tries = subst T c.drop_ways.ensures came in
    takes-done g.row.N fresh old held start started c.count_takers-count.result many c.first_takeover.new.seats c.exchange-servers.new.seats c.rejoin.new.seats c.in-Ok-Some.place c.count_takers-left.result c.args.base c.exchange-servers.new.active c.rejoin.new.active c.exchange-servers.result c.args.lines.now.items c.tell_over.new.lines.items left tries c.count_takers-left.ensures.is c.exchange-servers.ensures c.in-Ok.ensures c.tell_over.ensures before long is

-- memory was wanting behind it
pub returns-in-Err-rejoin : goal.returns-in-Err-rejoin
returns-in-Err-rejoin g c = λ before long is.
    let old = c.args.servers.now in
    let fresh = c.args.fresh in
    let held = g.D.SharedDisk.seen c.args.disk.now in
    let start = g.D.SharedDisk.seen c.disarm.new.self in
    let left = g.D.SharedDisk.seen c.first_takeover.new.disk in
    let K : Option ℕ → Type 0 = λ found. Tries fresh c.drop_ways.new.seats c.first_takeover.new.seats found start left in
    let came = subst K c.in-Ok-Some.field-0-is c.in-Ok-Some.ensures.tries in
    let started : IsDisarmed held start = record { files = c.disarm.ensures.same; faults = c.disarm.ensures.faults_stay; armed = ap (λ (t : Tally). t.armed) c.disarm.ensures.counted; tally = c.disarm.ensures.counted; stops = c.disarm.ensures.stops_stay } in
    let many = c.count_takers-count.ensures.is ∙ ap (λ (seats : List Seat). length (takers fresh seats)) c.drop_ways.ensures in
    let T : List Seat → Type 0 = λ seats. Tries fresh seats c.first_takeover.new.seats (Some c.in-Ok-Some.place) start left in
    let tries = subst T c.drop_ways.ensures came in
    record { unarmed = refl; start = start; started = started; part = inr (c.first_takeover.new.seats, c.in-Ok-Some.place, tries); stays = tt }

pub returns-in-Ok-None : goal.returns-in-Ok-None
returns-in-Ok-None g c = λ before long is.
    let old = c.args.servers.now in
    let fresh = c.args.fresh in
    let held = g.D.SharedDisk.seen c.args.disk.now in
    let start = g.D.SharedDisk.seen c.disarm.new.self in
    let left = g.D.SharedDisk.seen c.first_takeover.new.disk in
    let K : Option ℕ → Type 0 = λ found. Tries fresh c.drop_ways.new.seats c.first_takeover.new.seats found start left in
    let came = subst K c.in-Ok-None.field-0-is c.in-Ok-None.ensures.tries in
    let started : IsDisarmed held start = record { files = c.disarm.ensures.same; faults = c.disarm.ensures.faults_stay; armed = ap (λ (t : Tally). t.armed) c.disarm.ensures.counted; tally = c.disarm.ensures.counted; stops = c.disarm.ensures.stops_stay } in
    let many = c.count_takers-count.ensures.is ∙ ap (λ (seats : List Seat). length (takers fresh seats)) c.drop_ways.ensures in
    let T : List Seat → Type 0 = λ seats. Tries fresh seats c.first_takeover.new.seats None start left in
    let tries = subst T c.drop_ways.ensures came in
    takes-none g.row.N fresh old held start started c.count_takers-count.result many c.first_takeover.new.seats c.args.base c.args.lines.now.items c.tell_fallen.new.lines.items left tries c.tell_fallen.ensures before long is

pub returns-in-Err : goal.returns-in-Err
returns-in-Err g c = λ before long is.
    let old = c.args.servers.now in
    let fresh = c.args.fresh in
    let held = g.D.SharedDisk.seen c.args.disk.now in
    let start = g.D.SharedDisk.seen c.disarm.new.self in
    let left = g.D.SharedDisk.seen c.first_takeover.new.disk in
    let started : IsDisarmed held start = record { files = c.disarm.ensures.same; faults = c.disarm.ensures.faults_stay; armed = ap (λ (t : Tally). t.armed) c.disarm.ensures.counted; tally = c.disarm.ensures.counted; stops = c.disarm.ensures.stops_stay } in
    let many = c.count_takers-count.ensures.is ∙ ap (λ (seats : List Seat). length (takers fresh seats)) c.drop_ways.ensures in
    let P : List Seat → Type 0 = λ seats. TriesPartly fresh seats start left in
    takes-partly g.row.N fresh old held start started c.count_takers-count.result many _ before c.args.lines.now.items left c.in-Err.answer refl refl refl (subst P c.drop_ways.ensures c.in-Err.ensures.lacks) (λ is. c.in-Err.ensures.never_failed (ap Err is)) (λ is. c.in-Err.ensures.never_stopped (ap Err is))
