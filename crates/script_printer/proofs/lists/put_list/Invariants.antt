use Rattle.std.proofs.Common.{◌≡◌, ◌++◌, take}
use Rattle.script_grammar.specs.Writing.{listed_text}
use Rattle.script_printer.proofs.ListTexts.{front_of}
use Rattle.script_printer.proofs.lists.put_list.Given as goal

abbrev pub invariant-loop-value : goal.invariant-loop-value
invariant-loop-value g l = record {
  written : l.out.items ≡ l.initial.out.items ++ listed_text l.fn.word g.E.Writable.text (take l.value-index l.values);
  front_is : l.front ≡ front_of l.fn.word (take l.value-index l.values);
}
