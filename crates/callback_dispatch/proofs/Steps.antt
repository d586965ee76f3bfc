-- A push, a pop and a look keep the rule, and tell what they are to tell.
use Rattle.std.proofs.Common.{◌≡◌, ℕ, zero, suc, ◌+◌, ◌<◌, ◌≤◌, true, ⊎_elim, Some, List, [], ◌∷◌, ◌++◌, length, get_or, drop, set, slice_get, refl, sym, ap, subst, ◌∙◌, append_assoc, length-append, length-set, arith}
use mathlib.Core.Option.{some, some-injective, some-ne-none}
use mathlib.Core.List.{IsPrefix, cons-ne-nil}
use lib.ListN.{get_elem?}
use Rattle.crossbeam_queue.specs.Fifo.{Pushes, Pops, Learns}
use Rattle.calls.specs.declared.reply.Callback.{Callback}
use Rattle.callback_dispatch.specs.declared.numbered.Numbered.{Numbered}
use Rattle.callback_dispatch.specs.declared.rule.View.{View}
use Rattle.callback_dispatch.specs.Seen.{element, numbered, AllBelow}
use Rattle.callback_dispatch.specs.Rule.{first_view, taken_by, Fits, Dispatch, pushed, popped, Popped, Learned}
use Rattle.callback_dispatch.proofs.Elements.{numbered-append, length-numbered, prefix-more, prefix-at, taken-below, taken-alone, after, taken-mine, taken-theirs}
use Rattle.callback_dispatch.proofs.Passes.{Each, each_set, at-within, at_or_beyond, shares-set, others_idle}

first_fits : Each (Fits 0 (λ _. 0) [] []) (first_view ∷ [])
first_fits zero v at =
    subst (Fits 0 (λ _. 0) [] [] 0) (some-injective first_view v at) (record {
      feeds = λ _. (refl, refl);
      takes = refl;
      idle = λ _. refl;
      known = ([], refl);
      count = omega arith;
    })
first_fits (suc pass) v at = absurd (some-ne-none v (sym at))

pub begins : Dispatch [] (first_view ∷ [])
begins = record {
  feeder = 0;
  taker = λ _. 0;
  front = [];
  back = [];
  waits = refl;
  whole = refl;
  beyond = λ _ _. refl;
  fits = first_fits;
}

pub pushes : (capacity pass : ℕ) (v : View) (x : Numbered) → v.feeds ≡ true → x.number ≡ suc (length v.fed) → Pushes Dispatch capacity pass v x (λ w. w ≡ pushed v x)
pushes capacity pass v x may next items views room rule at =
    let w = pushed v x in
    let mine = rule.fits pass v at in
    let back = rule.back ++ x.callback ∷ [] in
    let more = append_assoc rule.front rule.back (x.callback ∷ []) in
    let long = length-append rule.front rule.back in
    let fed = ap length (mine.feeds may).1 in
    let share = shares-set views pass v w at in
    let same = length-set views pass w in
    let whole = rule.whole in (
      w,
      record {
        feeder = rule.feeder;
        taker = rule.taker;
        front = rule.front;
        back = back;
        waits = ap (λ (l : List Numbered). l ++ x ∷ []) rule.waits ∙ sym (numbered-append (suc (length rule.front)) rule.back (x.callback ∷ []) x.number (omega arith));
        whole = omega arith;
        beyond = λ other le. rule.beyond other (omega arith);
        fits = each_set (Fits rule.feeder rule.taker rule.front back) views pass w
            (record {
              feeds = λ f. ((mine.feeds f).0, ap (λ (l : List Callback). l ++ x.callback ∷ []) (mine.feeds f).1 ∙ more);
              takes = mine.takes;
              idle = mine.idle;
              known = subst (IsPrefix v.known) more (prefix-more v.known (rule.front ++ rule.back) (x.callback ∷ []) mine.known);
              count = mine.count;
            })
            (λ other u apart there.
            let theirs = rule.fits other u there in
            record {
              feeds = λ f. absurd (apart ((theirs.feeds f).0 ∙ sym (mine.feeds may).0));
              takes = theirs.takes;
              idle = theirs.idle;
              known = subst (IsPrefix u.known) more (prefix-more u.known (rule.front ++ rule.back) (x.callback ∷ []) theirs.known);
              count = theirs.count;
            });
      },
      refl,
    )

-- who has the whole share took all that was taken
pub took_all : (items : List Numbered) (views : List View) (rule : Dispatch items views) (pass : ℕ) (v : View) → get_elem? views pass ≡ some v → v.share ≡ 8 → v.taken ≡ numbered 1 rule.front
took_all items views rule pass v at all =
    (rule.fits pass v at).takes ∙ taken-alone rule.taker pass 1 rule.front
    (λ other apart. ⊎_elim
    (λ (found : (u : View) × (get_elem? views other ≡ some u)).
    let theirs = rule.fits other found.0 found.1 in
    sym theirs.takes ∙ theirs.idle (others_idle views pass other v found.0 at found.1 apart (all ∙ sym rule.whole)))
    (λ (beyond : length views ≤ other). rule.beyond other beyond)
    (at_or_beyond views other))

pops_first : (pass : ℕ) (v : View) (x : Numbered) (items : List Numbered) (views : List View) → 0 < v.share → (rule : Dispatch (x ∷ items) views) → get_elem? views pass ≡ some v → (back : List Callback) → rule.back ≡ back → (w : View) × Dispatch items (set views pass w) × Popped v x w
pops_first pass v x items views may rule at [] is =
    absurd (cons-ne-nil x items (rule.waits ∙ ap (numbered (suc (length rule.front))) is))
pops_first pass v x items views may rule at (callback ∷ back) is =
    let w = popped v x in
    let mine = rule.fits pass v at in
    let number = suc (length rule.front) in
    let taker = after rule.taker number pass in
    let front = rule.front ++ callback ∷ [] in
    let waits = rule.waits ∙ ap (numbered number) is in
    let head : x ≡ element number callback = ap (λ (l : List Numbered). get_or l 0 x) waits in
    let numbers : x.number ≡ number = ap (λ (y : Numbered). y.number) head in
    let behind : items ≡ numbered (suc number) back = ap (λ (l : List Numbered). drop 1 l) waits in
    let long = length-append rule.front (callback ∷ []) in
    let next : suc number ≡ suc (length front) = omega arith in
    let shift : rule.front ++ rule.back ≡ front ++ back = ap (λ (l : List Callback). rule.front ++ l) is ∙ sym (append_assoc rule.front (callback ∷ []) back) in
    let share = shares-set views pass v w at in
    let same = length-set views pass w in
    let within = at-within views pass v at in
    let whole = rule.whole in
    let place : number ≡ 1 + length rule.front = omega arith in
    let known : IsPrefix v.known (rule.front ++ callback ∷ back) = (mine.known.0, mine.known.1 ∙ ap (λ (l : List Callback). rule.front ++ l) is) in
    let fed : length rule.front < length v.known → slice_get v.known (length rule.front) ≡ Some x.callback = λ more. prefix-at v.known rule.front callback back known more ∙ ap Some (sym (ap (λ (y : Numbered). y.callback) head)) in (
      w,
      record {
        feeder = rule.feeder;
        taker = taker;
        front = front;
        back = back;
        waits = behind ∙ ap (λ n. numbered n back) next;
        whole = omega arith;
        beyond = λ other le. taken-theirs rule.taker other pass 1 rule.front callback number (λ e. omega arith) place ∙ rule.beyond other (omega arith);
        fits = each_set (Fits rule.feeder taker front back) views pass w
            (record {
              feeds = λ f. ((mine.feeds f).0, (mine.feeds f).1 ∙ shift);
              takes = ap (λ (l : List Numbered). l ++ x ∷ []) mine.takes ∙ ap (λ (y : Numbered). taken_by rule.taker pass 1 rule.front ++ y ∷ []) head ∙ sym (taken-mine rule.taker pass 1 rule.front callback number place);
              idle = λ (none : v.share ≡ 0). absurd (omega arith);
              known = (mine.known.0, mine.known.1 ∙ shift);
              count = (let count = mine.count in omega arith);
            })
            (λ other u apart there.
            let theirs = rule.fits other u there in
            record {
              feeds = λ f. ((theirs.feeds f).0, (theirs.feeds f).1 ∙ shift);
              takes = theirs.takes ∙ sym (taken-theirs rule.taker other pass 1 rule.front callback number apart place);
              idle = theirs.idle;
              known = (theirs.known.0, theirs.known.1 ∙ shift);
              count = (let count = theirs.count in omega arith);
            });
      },
      (
        refl,
        subst (AllBelow x.number) (sym mine.takes) (taken-below rule.taker pass 1 rule.front x.number (omega arith)),
        (λ all.
            let took = took_all (x ∷ items) views rule pass v at all in
            let count : length v.taken ≡ length rule.front = ap length took ∙ length-numbered 1 rule.front in (
              numbers ∙ ap suc (sym count),
              (λ known_more. ap (slice_get v.known) count ∙ fed (omega arith)),
            )),
        (length rule.front, numbers, fed),
      ),
    )

pub pops : (pass : ℕ) (v : View) → 0 < v.share → Pops Dispatch pass v (Popped v)
pops pass v may x items views rule at = pops_first pass v x items views may rule at rule.back refl

pub learns : (pass : ℕ) (v : View) → Learns Dispatch pass v (Learned v)
learns pass v items views rule at =
    let mine = rule.fits pass v at in
    let counted = mine.count in
    let all = rule.front ++ rule.back in
    let long = length-append rule.front rule.back in
    let waiting = ap length rule.waits ∙ length-numbered (suc (length rule.front)) rule.back in
    let place : suc (length rule.front) ≡ 1 + length rule.front = omega arith in (
      (λ may.
          let fed = ap length (mine.feeds may).1 in
          (omega arith, subst (IsPrefix v.known) (sym (mine.feeds may).1) mine.known)),
      (λ whole.
          let took = took_all items views rule pass v at whole in
          let count = ap length took ∙ length-numbered 1 rule.front in
          record {
            all = all;
            in_order = ap (λ (l : List Numbered). l ++ items) took ∙ ap (λ (l : List Numbered). numbered 1 rule.front ++ l) rule.waits ∙ sym (numbered-append 1 rule.front rule.back (suc (length rule.front)) place);
            known = mine.known;
            count = omega arith;
          }),
    )
