use Rattle.std.proofs.Common.{◌≡◌, ℤ, List, pos, ◌≤ℤ◌, w64, sym, subst, ap, ◌∙◌}
use Rattle.std.specs.List.{list_any}
use Rattle.std.proofs.lemmas.Int.{to_z-of_z}
use Rattle.log_history.specs.Table.{OpenStream, has_nobody}
use Rattle.log_service.specs.State.{AreFew, joined_streams}
use Rattle.log_service.proofs.BeginLemmas.{busy-sound}
use Rattle.log_service.proofs.state.LogState.rebuild.Goals as goal

pub invariant_of-result : goal.invariant_of-result
invariant_of-result c =
    let streams_are : c.in_ok-streams.streams.items ≡ joined_streams c.args.streams c.args.openers c.args.marks =
    c.in_ok-streams.ensures ∙ ap (λ these. joined_streams c.args.streams these c.as_slice-2.result.now) c.as_slice.ensures ∙ ap (joined_streams c.args.streams c.args.openers) c.as_slice-2.ensures in
    record {
      from = subst (λ (z : ℤ). pos 0 ≤ℤ z) (sym (to_z-of_z w64 c.args.last_stamp c.ranges.last_stamp)) c.requires.last;
      few = subst (λ (streams : List OpenStream). AreFew streams) (sym streams_are) c.requires.sound.few;
      busy = ap (list_any has_nobody) streams_are ∙ busy-sound (joined_streams c.args.streams c.args.openers c.args.marks) c.requires.sound.streams;
    }
