-- Words of bodies alone: how a living stream is kept.
use Rattle.std.specs.Prelude.{◌≡◌, ◌≤◌, ◌+◌}
use Rattle.format_expr.specs.Reading.{pieces_of}
use Rattle.stream_config.specs.Attributes.{kind_of, PassesAttrs}
use Rattle.log_history.specs.Table.{OpenStream}
use Rattle.log_service.specs.declared.live.LiveStream.TheInside.{Inside}

abbrev pub stream_of : Inside → OpenStream
stream_of inside = record { state = inside.state; openers = inside.openers; mark = inside.mark }

-- the attributes pass, the expression is what their text is read as, and every file but the first began with a record
pub record IsKeptStream (inside : Inside) : Type 0 where
  pub passes : PassesAttrs (kind_of inside.state.name) inside.state.attrs
  pub parsed : inside.expr.pieces ≡ pieces_of inside.state.attrs.expr
  pub few : inside.state.opened ≤ inside.state.taken + 1
