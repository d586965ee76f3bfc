use Rattle.std.proofs.Common.{refl}
use Rattle.cold_servers.proofs.advancing.advance.Goals as goal

pub back_step-requires : goal.back_step-requires
back_step-requires g c = record { state = c.requires.state; up = c.requires.up; link = c.if-is_clear.ensures.0 refl }

pub join_step-requires : goal.join_step-requires
join_step-requires g c = record {
  state = c.requires.state;
  up = c.requires.up;
  some = λ none. let told = c.is_clear.ensures.1 none in let no = c.if-is_clear.false in cc;
}
