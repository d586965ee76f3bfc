-- The test of a mark decides whether it is fit.
use Rattle.std.proofs.Common.{◌≡◌, ℕ, ◌==◌, nat_le, Bool, true, false, not, ◌&&◌, ◌||◌, refl, ap}
use Rattle.std.specs.Bool.{Decides}
use Rattle.std.proofs.lemmas.Bool.{and_parts, and_from, eqb-true, leb-true, le-leb}
use Rattle.format_expr.specs.Language.{is_notified}
use Rattle.stream_config.specs.declared.attrs.StreamName.{StreamName}
use Rattle.stream_config.specs.declared.mark.Mark.{Mark}
use Rattle.stream_config.specs.Attributes.{kind_of}
use Rattle.stream_config.specs.Marks.{first_mark}
use Rattle.plain_service.specs.Fitness.{IsFitMark}
use Rattle.saved_fit.specs.Streams.{is_unset, passes_mark}

to-unset : (mark : Mark) (notified : Bool) → (not notified || is_unset mark) ≡ true → notified ≡ true → mark ≡ first_mark
to-unset mark true is told =
    let both = and_parts (mark.since == 0) (mark.mask == 127) is in
    λ i. record { since = eqb-true mark.since 0 both.0 i; mask = eqb-true mark.mask 127 both.1 i }
to-unset mark false is told = cc

from-unset : (mark : Mark) (notified : Bool) → (notified ≡ true → mark ≡ first_mark) → (not notified || is_unset mark) ≡ true
from-unset mark true unset = ap is_unset (unset refl)
from-unset mark false unset = refl

pub decides_mark : (number : ℕ) (name : StreamName) (mark : Mark) → Decides (passes_mark number name mark) (IsFitMark number name mark)
decides_mark number name mark =
    let last = not (is_notified (kind_of name)) || is_unset mark in (
      λ is.
          let one = and_parts (nat_le mark.mask 127) (nat_le mark.since number && last) is in
          let two = and_parts (nat_le mark.since number) last one.1 in
          record {
            mask = leb-true mark.mask 127 one.0;
            since = leb-true mark.since number two.0;
            unset = to-unset mark (is_notified (kind_of name)) two.1;
          },
      λ fit.
          and_from (nat_le mark.mask 127) (nat_le mark.since number && last) (le-leb mark.mask 127 fit.mask)
          (and_from (nat_le mark.since number) last (le-leb mark.since number fit.since) (from-unset mark (is_notified (kind_of name)) fit.unset)),
    )
