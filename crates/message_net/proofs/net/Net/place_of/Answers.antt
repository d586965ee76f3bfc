use Rattle.std.proofs.Common.{suc, Some, option_map, ap, sym, ◌∙◌, add-one}
use Rattle.std.proofs.lemmas.Iterator.Adapters.{position_from-zero}
use Rattle.message_net.specs.Nets.{place_of}
use Rattle.message_net.proofs.Places.{is_of, place-strings}
use Rattle.message_net.proofs.net.Net.place_of.Goals as goal

pub returns-in-Some : goal.returns-in-Some
returns-in-Some c =
    let bytes = c.args.bytes.now in
    let strings = c.self.inside.strings.keys in
    ap Some (add-one c.in-Some.index) ∙ ap (option_map suc) (c.in-Some.ensures.index ∙ position_from-zero (is_of bytes) strings) ∙ sym (place-strings bytes strings c.len-count.ensures.unique) ∙ ap (place_of bytes) c.self.view_is

pub returns-in-None : goal.returns-in-None
returns-in-None c =
    let bytes = c.args.bytes.now in
    let strings = c.self.inside.strings.keys in
    ap (option_map suc) (c.in-None.ensures.index ∙ position_from-zero (is_of bytes) strings) ∙ sym (place-strings bytes strings c.len-count.ensures.unique) ∙ ap (place_of bytes) c.self.view_is
