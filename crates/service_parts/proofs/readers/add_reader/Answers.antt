use Rattle.std.proofs.Common.{◌≡◌, ap, ◌∙◌, arith}
use Rattle.std.specs.Prelude.{insert}
use Rattle.calls.specs.declared.saved.SavedReader.{SavedReader}
use Rattle.service_parts.proofs.ClientPlaces.{place_in, within-place, insert-put}
use Rattle.service_parts.proofs.readers.add_reader.Goals as goal

pub insert-requires : goal.insert-requires
insert-requires c =
    let within = within-place (λ (r : SavedReader). r.client) c.args.reader.client c.as_slice.result.now in
    omega (arith, within, c.place_of-place.ensures, c.as_slice.ensures.len)

pub returns-clause-ok : goal.returns-clause-ok
returns-clause-ok c =
    let of = λ (r : SavedReader). r.client in
    let xs = c.args.readers.now.items in
    let place : c.place_of-place.result ≡ place_in of c.args.reader.client xs = c.place_of-place.ensures ∙ ap (place_in of c.args.reader.client) c.as_slice.ensures.value in
    c.in_ok-insert.ensures.items ∙ ap (λ k. insert xs k c.args.reader) place ∙ insert-put of c.args.reader xs c.requires
