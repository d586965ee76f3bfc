use Rattle.std.proofs.Common.{inl, inr, subst, sym}
use Rattle.lone_server.specs.Appends.{FirstCanJoin}
use Rattle.lone_server.proofs.appending.append_first.Goals as goal

pub returns-in-Ok-clause-joins : goal.returns-in-Ok-clause-joins
returns-in-Ok-clause-joins g c = elim c.in-Ok.ensures.joins [
  | inl same ↦ inl same
  | inr can ↦ inr (subst FirstCanJoin (sym c.in-Some.ensures) can)
]

pub returns-in-Err-clause-joins : goal.returns-in-Err-clause-joins
returns-in-Err-clause-joins g c = elim c.in-Err.ensures.joins [
  | inl same ↦ inl same
  | inr can ↦ inr (subst FirstCanJoin (sym c.in-Some.ensures) can)
]
