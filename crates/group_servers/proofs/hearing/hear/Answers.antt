use Rattle.std.proofs.Common.{ap, ◌∙◌}
use Rattle.std.proofs.lemmas.Result.{on_ok_weaker}
use Rattle.cluster_rounds.proofs.BrokenSteps.{armed-shown}
use Rattle.group_cluster.specs.Seats.{any_seat}
use Rattle.lead_rounds.proofs.LeadSteps.{has-room, hear-conditions, heard-then}
use Rattle.lead_rounds.proofs.HearBroken.{answers-range, beside-breaks, err-some, partly-breaks}
use Rattle.group_servers.specs.GroupKit.{group_kit}
use Rattle.group_servers.specs.GroupLaws.{group_laws}
use Rattle.group_servers.specs.GroupNodes.{is_linked}
use Rattle.group_servers.specs.Spread.{first_sent}
use Rattle.group_servers.proofs.GoodSteps.{is-active, lead-so}
use Rattle.group_servers.proofs.HearSteps.{heard-happens}
use Rattle.group_servers.proofs.hearing.hear.Goals as goal

pub hear-heard-requires : goal.hear-heard-requires
hear-heard-requires g c =
    let old = c.args.world.now in
    let has = c.requires.state in
    let linked = any_seat is_linked has.state.peers.seats in
    record {
      hear = hear-conditions (group_kit g.row.N) (group_laws g.row.N) has.setup has.state old c.args.message.now has.good has.shows c.requires.range;
      role = is-active g.row.N old has;
      range = answers-range (group_kit g.row.N) (group_laws g.row.N) has.setup has.state linked old old.servers.active has.good has.shows (lead-so g.row.N has.setup has.state old has.shows) c.args.message.now c.requires.range;
    }

pub returns-in-Ok-clause-ok : goal.returns-in-Ok-clause-ok
returns-in-Ok-clause-ok g c =
    let old = c.args.world.now in
    let heard = c.in-Ok.ensures.ok in
    let active = c.hear-heard.new.active in
    on_ok_weaker c.spread_first-spread.result
    (λ seats setup state good shows stands.
    let linked = any_seat is_linked state.peers.seats in
    let core = state.world.core in
    let hears = heard-then (group_kit g.row.N) (group_laws g.row.N) setup state old c.args.message.now heard.heard old.servers.active active good shows heard.hears in
    let room = has-room setup core.answered core.hand linked old.servers.active (lead-so g.row.N setup state old shows) heard.room in
    heard-happens g.row.N setup state old active c.spread_first-spread.new.seats c.hear-heard.new.net c.hear-heard.new.history heard.heard c.args.place c.args.message.now c.args.lines.now.items c.hear-heard.new.lines.items good shows stands c.requires.range room hears (record { told = heard.told; seats = seats ∙ ap (λ messages. first_sent messages old.servers.seats) (c.as_slice.ensures ∙ heard.beside) }))
    c.spread_first-spread.ensures.ok

pub returns-in-Ok-clause-err : goal.returns-in-Ok-clause-err
returns-in-Ok-clause-err g c =
    let old = c.args.world.now in
    err-some c.spread_first-spread.result c.in-Ok.mirrored (λ none. c.spread_first-spread.ensures.none (c.as_slice.ensures ∙ none))
    (λ one others some held setup state good shows stands. beside-breaks (group_kit g.row.N) (group_laws g.row.N) setup state (any_seat is_linked state.peers.seats) old old.servers.active good shows (lead-so g.row.N setup state old shows) _ c.hear-heard.new.net c.hear-heard.new.history held c.hear-heard.new.active c.args.place c.args.message.now c.args.lines.now.items c.hear-heard.new.lines.items c.in-Ok.mirrored one others stands c.in-Ok.ensures.ok some (armed-shown (group_kit g.row.N) (group_laws g.row.N) setup state held old shows))

pub returns-in-Err-clause-err : goal.returns-in-Err-clause-err
returns-in-Err-clause-err g c = λ held setup state good shows stands.
    let old = c.args.world.now in
    partly-breaks (group_kit g.row.N) (group_laws g.row.N) setup state (any_seat is_linked state.peers.seats) old old.servers.active good shows (lead-so g.row.N setup state old shows) _ c.hear-heard.new.net c.hear-heard.new.history held c.hear-heard.new.active c.args.place c.args.message.now stands c.in-Err.ensures.err (armed-shown (group_kit g.row.N) (group_laws g.row.N) setup state held old shows)
