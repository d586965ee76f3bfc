use Rattle.std.proofs.Common.{◌≡◌, ℕ, ◌+◌, List, ◌++◌, take, map, sym, ap, ◌∙◌, subst}
use Rattle.std.proofs.lemmas.List.{take_all}
use Rattle.run_chart.specs.Titles.{title}
use Rattle.run_chart.specs.Pictures.{Draws, items_of, Blank, Shaped}
use Rattle.run_chart.proofs.PictureLaws.{draws_more}
use Rattle.run_chart.proofs.drawing.picture_of.Goals as goal

pub loop-index-init : goal.loop-index-init
loop-index-init c = Shaped Blank c.in_ok-picture.picture.items

pub loop-index-preserved : goal.loop-index-preserved
loop-index-preserved c =
    let text : List ℕ = c.loop-index.picture.items in
    let front : List ℕ = c.as_slice-in-loop-index.result.now in
    let shapes : List ℕ = c.as_slice-in-loop-index-3.result.now in
    let line = c.index-lines-index.result in
    let index : ℕ = c.loop-index.index in
    let titled : List ℕ → List ℕ = λ written. written ++ title (index + 1) line.items in
    let told : c.put_title.new.out.items ≡ titled c.extend_from_slice.new.self.items
    = c.in_ok-put_title.ensures ∙ ap (λ bytes. c.extend_from_slice.new.self.items ++ title (index + 1) bytes) c.as_slice-in-loop-index-2.ensures.value in
    subst (Draws (map items_of (take (index + 1) c.args.lines.now)))
    (sym (c.in_ok-extend_from_slice-2.ensures.items ∙ ap (λ written. written ++ shapes) (told ∙ ap titled c.in_ok-extend_from_slice.ensures.items)))
    (draws_more c.args.lines.now index line c.loop-index-test.true c.index-lines-index.is text front shapes c.loop-index.invariant)

pub returns : goal.returns
returns c =
    let text : List ℕ = c.loop-index.picture.items in
    let all : Draws (map items_of c.args.lines.now) text
    = subst (λ lines. Draws (map items_of lines) text) (take_all c.loop-index.index c.args.lines.now c.loop-index-test.false) c.loop-index.invariant in
    subst (Draws (map items_of c.args.lines.now)) (sym c.in_ok-extend_from_slice-3.ensures.items) (Shaped all c.foot_of.result.now)
