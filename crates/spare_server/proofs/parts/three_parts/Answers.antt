use Rattle.std.proofs.Common.{◌≡◌, ◌∙◌}
use Rattle.spare_server.specs.Parts.{first_seat, second_seat, third_seat}
use Rattle.spare_server.proofs.parts.three_parts.Goals as goal

pub returns : goal.returns
returns c =
    let seats = c.args.seats in
    let order = c.in_order-one.ensures in
    let first : c.seat_parts-first.result ≡ ((first_seat seats).node, (first_seat seats).link, (first_seat seats).back) = c.seat_parts-first.ensures ∙ (λ i. ((order i).0.node, (order i).0.link, (order i).0.back)) in
    let second : c.seat_parts-second.result ≡ ((second_seat seats).node, (second_seat seats).link, (second_seat seats).back) = c.seat_parts-second.ensures ∙ (λ i. ((order i).1.node, (order i).1.link, (order i).1.back)) in
    let third : c.seat_parts-third.result ≡ ((third_seat seats).node, (third_seat seats).link, (third_seat seats).back) = c.seat_parts-third.ensures ∙ (λ i. ((order i).2.node, (order i).2.link, (order i).2.back)) in
    λ i. (first i, second i, third i)
