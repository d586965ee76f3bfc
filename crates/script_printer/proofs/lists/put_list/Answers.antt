use Rattle.std.proofs.Common.{◌≡◌, ◌+◌, ◌++◌, ◌∙◌, [], ◌∷◌, take, sym, ap}
use Rattle.std.proofs.lemmas.List.{take_more}
use Rattle.script_printer.proofs.ListTexts.{front_of, front_of-more, list_step}
use Rattle.script_printer.proofs.lists.put_list.Goals as goal

pub loop-value-preserved : goal.loop-value-preserved
loop-value-preserved g c =
    let values = c.args.values.now in
    let i = c.loop-value.value-index in
    let more : take (i + 1) values ≡ take i values ++ c.value-item.result ∷ [] = take_more values i c.value-item.result c.loop-value-test.true ∙ ap (λ x. take i values ++ x ∷ []) (sym c.value-item.is) in
    record {
      written = list_step c.args.word.now g.E.Writable.text (take i values) (take (i + 1) values) c.value-item.result
          c.args.out.now.items c.loop-value.out.items c.loop-value.front.now c.put.new.out.items c.write.new.out.items
          more c.loop-value.invariant.written c.loop-value.invariant.front_is c.in_ok-put.ensures c.in_ok-write.ensures;
      front_is = c.as_slice-front.ensures ∙ sym (ap (front_of c.args.word.now) more ∙ front_of-more c.args.word.now (take i values) c.value-item.result);
    }
