use Rattle.std.proofs.Common.{◌≡◌, ◌≢◌, arith, sym, ◌∙◌, ap}
use Rattle.std.specs.Cmp.Lexicographic.{nat_list_cmp_total, same_text, other_text}
use Rattle.std.proofs.lemmas.List.{get_or_read}
use Rattle.disk_model.proofs.Places.{stands_at, lacks_at}
use Rattle.disk_model.proofs.Shelving.{names_differ}
use Rattle.disk_model.proofs.entries.find_in.Goals as goal

pub returns-then-eq : goal.returns-then-eq
returns-then-eq c =
    let key : c.as_slice.result.now ≡ c.args.name.now = same_text _ _ (c.if-eq.ensures) in
    stands_at nat_list_cmp_total names_differ c.args.name.now c.args.entries.now _ c.index-entries-place.result c.requires
    c.place_in-place.ensures.place (omega arith) c.index-entries-place.is (sym c.as_slice.ensures.bytes ∙ key)

pub returns-else-eq : goal.returns-else-eq
returns-else-eq c =
    let key : c.as_slice.result.now ≢ c.args.name.now = other_text _ _ (c.if-eq.ensures) in
    lacks_at nat_list_cmp_total names_differ c.args.name.now c.args.entries.now _ c.requires c.place_in-place.ensures.place (omega arith)
    (λ d within is. key (c.as_slice.ensures.bytes ∙ ap (λ e. e.0) (get_or_read _ _ _ within c.index-entries-place.is d) ∙ is))

pub returns-else-place-entries : goal.returns-else-place-entries
returns-else-place-entries c =
    lacks_at nat_list_cmp_total names_differ c.args.name.now c.args.entries.now _ c.requires c.place_in-place.ensures.place
    c.place_in-place.ensures.bound (λ d within. absurd (omega arith))
