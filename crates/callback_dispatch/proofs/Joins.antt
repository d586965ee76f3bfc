-- A pass is split and passes are joined under the rule.
use Rattle.std.proofs.Common.{◌≡◌, ◌≢◌, ℕ, ◌+◌, ◌-◌, ◌≤◌, max, true, false, true≢false, ◌⊎◌, inl, inr, ⊎_elim, List, [], ◌∷◌, ◌++◌, length, set, refl, sym, ap₂, subst, ◌∙◌, append-nil, length-append, length-set, arith}
use mathlib.Core.Option.{some}
use mathlib.Core.List.{IsPrefix}
use lib.ListN.{get_elem?}
use Rattle.crossbeam_queue.specs.Fifo.{Forks, Merges}
use Rattle.crossbeam_queue.proofs.Lists.{set_else}
use Rattle.calls.specs.declared.reply.Callback.{Callback}
use Rattle.callback_dispatch.specs.declared.numbered.Numbered.{Numbered}
use Rattle.callback_dispatch.specs.declared.rule.View.{View}
use Rattle.callback_dispatch.specs.Seen.{union}
use Rattle.callback_dispatch.specs.Rule.{spent_view, taken_by, Fits, Dispatch, feeding, taking, with_less, with_one, joined, fed_note, taken_note, told}
use Rattle.callback_dispatch.proofs.Elements.{prefix-longer, length-taken}
use Rattle.callback_dispatch.proofs.Unions.{handed, union-taken, taken-handed_else, taken-handed_from}
use Rattle.callback_dispatch.proofs.Passes.{each_set, each_snoc, at-within, shares-set, shares-snoc}

-- A new pass has taken nothing. The old one keeps all but a part of its share.
pub record IsFork (v left right : View) : Type 0 where
  pub feeds : left.feeds ≡ v.feeds
  pub fed : left.fed ≡ v.fed
  pub taken : left.taken ≡ v.taken
  pub known : left.known ≡ v.known
  pub count : left.count ≡ v.count
  pub parts : left.share + right.share ≡ v.share
  pub idle : left.share ≡ 0 → (v.share ≡ 0) ⊎ (v.taken ≡ [])
  pub new_feeds : right.feeds ≡ false
  pub new_taken : right.taken ≡ []
  pub new_known : (right.known ≡ v.known) ⊎ ((v.feeds ≡ true) × (right.known ≡ v.fed))
  pub new_count : (right.count ≤ v.count) ⊎ (right.count ≤ length v.taken)

pub forks : (pass : ℕ) (v left right : View) → IsFork v left right → Forks Dispatch pass v left right
forks pass v left right is items views rule at =
    let old = set views pass left in
    let mine = rule.fits pass v at in
    let all = rule.front ++ rule.back in
    let same = length-set views pass left in
    let longer = length-append old (right ∷ []) in
    let share = shares-set views pass v left at in
    let added = shares-snoc old right in
    let parts = is.parts in
    let whole = rule.whole in
    let counted = mine.count in
    let took : length v.taken ≤ length rule.front = subst (λ (l : List Numbered). length l ≤ length rule.front) (sym mine.takes) (length-taken rule.taker pass 1 rule.front) in
    record {
      feeder = rule.feeder;
      taker = rule.taker;
      front = rule.front;
      back = rule.back;
      waits = rule.waits;
      whole = omega arith;
      beyond = λ other le. rule.beyond other (omega arith);
      fits = each_snoc (Fits rule.feeder rule.taker rule.front rule.back) old right
          (each_set (Fits rule.feeder rule.taker rule.front rule.back) views pass left
          (record {
            feeds = λ f. ((mine.feeds (sym is.feeds ∙ f)).0, is.fed ∙ (mine.feeds (sym is.feeds ∙ f)).1);
            takes = is.taken ∙ mine.takes;
            idle = λ none. is.taken ∙ ⊎_elim (λ (v_none : v.share ≡ 0). mine.idle v_none) (λ (empty : v.taken ≡ []). empty) (is.idle none);
            known = subst (λ (l : List Callback). IsPrefix l all) (sym is.known) mine.known;
            count = (let count = is.count in omega arith);
          })
          (λ other u apart there. rule.fits other u there))
          (record {
            feeds = λ f. absurd (true≢false (sym f ∙ is.new_feeds));
            takes = is.new_taken ∙ sym (rule.beyond (length old) (omega arith));
            idle = λ _. is.new_taken;
            known = ⊎_elim (λ (known : right.known ≡ v.known). subst (λ (l : List Callback). IsPrefix l all) (sym known) mine.known)
                (λ (fed : (v.feeds ≡ true) × (right.known ≡ v.fed)). subst (λ (l : List Callback). IsPrefix l all) (sym (fed.1 ∙ (mine.feeds fed.0).1)) ([], append-nil all)) is.new_known;
            count = ⊎_elim (λ (le : right.count ≤ v.count). omega arith) (λ (le : right.count ≤ length v.taken). omega arith) is.new_count;
          });
    }

-- a pass that took nothing becomes a feeder and a taker
pub forks-ends : (pass : ℕ) (v : View) → v.taken ≡ [] → Forks Dispatch pass v (feeding v) (taking v)
forks-ends pass v empty = forks pass v (feeding v) (taking v) (record {
  feeds = refl;
  fed = refl;
  taken = refl;
  known = refl;
  count = refl;
  parts = omega arith;
  idle = λ _. inr empty;
  new_feeds = refl;
  new_taken = refl;
  new_known = inl refl;
  new_count = inl (omega arith);
})

pub forks-parts : (pass : ℕ) (v : View) → 2 ≤ v.share → Forks Dispatch pass v (with_less v) (with_one v)
forks-parts pass v enough = forks pass v (with_less v) (with_one v) (record {
  feeds = refl;
  fed = refl;
  taken = refl;
  known = refl;
  count = refl;
  parts = omega arith;
  idle = λ (none : v.share - 1 ≡ 0). absurd (omega arith);
  new_feeds = refl;
  new_taken = refl;
  new_known = inl refl;
  new_count = inl (omega arith);
})

pub forks-fed : (pass : ℕ) (v : View) → v.feeds ≡ true → Forks Dispatch pass v v (fed_note v)
forks-fed pass v may = forks pass v v (fed_note v) (record {
  feeds = refl;
  fed = refl;
  taken = refl;
  known = refl;
  count = refl;
  parts = omega arith;
  idle = λ none. inl none;
  new_feeds = refl;
  new_taken = refl;
  new_known = inr (may, refl);
  new_count = inl (omega arith);
})

pub forks-taken : (pass : ℕ) (v : View) → Forks Dispatch pass v v (taken_note v)
forks-taken pass v = forks pass v v (taken_note v) (record {
  feeds = refl;
  fed = refl;
  taken = refl;
  known = refl;
  count = refl;
  parts = omega arith;
  idle = λ none. inl none;
  new_feeds = refl;
  new_taken = refl;
  new_known = inl refl;
  new_count = inr (omega arith);
})

-- A pass takes another in: it keeps what it fed, and has both shares.
record IsMerge (v w both : View) : Type 0 where
  pub feeds : both.feeds ≡ v.feeds
  pub fed : both.fed ≡ v.fed
  pub parts : both.share ≡ v.share + w.share
  pub known : (all : List Callback) → IsPrefix v.known all → IsPrefix w.known all → IsPrefix both.known all
  pub count : (most : ℕ) → v.count ≤ most → w.count ≤ most → both.count ≤ most

-- the other pass has taken nothing from then on, and a third takes as before
record IsHandedOn (old new : ℕ → ℕ) (pass other : ℕ) (front : List Callback) : Type 0 where
  pub none : taken_by new other 1 front ≡ []
  pub stays : (third : ℕ) → third ≢ pass → third ≢ other → taken_by new third 1 front ≡ taken_by old third 1 front

merged : (items : List Numbered) (views : List View) (rule : Dispatch items views) (pass : ℕ) (v : View) (other : ℕ) (w both : View) → get_elem? views pass ≡ some v → get_elem? views other ≡ some w → other ≢ pass → IsMerge v w both → (taker : ℕ → ℕ) → IsHandedOn rule.taker taker pass other rule.front → both.taken ≡ taken_by taker pass 1 rule.front → (both.share ≡ 0 → both.taken ≡ []) → Dispatch items (set (set views pass both) other spent_view)
merged items views rule pass v other w both at at_other apart is taker on takes idle =
    let mine = rule.fits pass v at in
    let theirs = rule.fits other w at_other in
    let old = set views pass both in
    let there = set_else views pass other both apart ∙ at_other in
    let same = length-set views pass both in
    let same_again = length-set old other spent_view in
    let share = shares-set views pass v both at in
    let share_again = shares-set old other w spent_view there in
    let parts = is.parts in
    let whole = rule.whole in
    let all = rule.front ++ rule.back in
    let within_pass = at-within views pass v at in
    let within_other = at-within views other w at_other in
    let Stays : ℕ → View → Type 0 = λ third u. third ≢ other → Fits rule.feeder taker rule.front rule.back third u in
    record {
      feeder = rule.feeder;
      taker = taker;
      front = rule.front;
      back = rule.back;
      waits = rule.waits;
      whole = omega arith;
      beyond = λ third le. on.stays third (λ e. omega arith) (λ e. omega arith) ∙ rule.beyond third (omega arith);
      fits = each_set (Fits rule.feeder taker rule.front rule.back) old other spent_view
          (record {
            feeds = λ f. absurd (true≢false (sym f));
            takes = sym on.none;
            idle = λ _. refl;
            known = (all, refl);
            count = omega arith;
          })
          (λ third u not_other found. each_set Stays views pass both
          (λ _. record {
            feeds = λ f. ((mine.feeds (sym is.feeds ∙ f)).0, is.fed ∙ (mine.feeds (sym is.feeds ∙ f)).1);
            takes = takes;
            idle = idle;
            known = is.known all mine.known theirs.known;
            count = is.count (length rule.front) mine.count theirs.count;
          })
          (λ one u_there not_pass found_there not.
          let fits = rule.fits one u_there found_there in
          record {
            feeds = fits.feeds;
            takes = fits.takes ∙ sym (on.stays one not_pass not);
            idle = fits.idle;
            known = fits.known;
            count = fits.count;
          })
          third u found not_other);
    }

was_there : (views : List View) (pass other : ℕ) (both w : View) → other ≢ pass → get_elem? (set views pass both) other ≡ some w → get_elem? views other ≡ some w
was_there views pass other both w apart at = sym (set_else views pass other both apart) ∙ at

most_of : (one two most : ℕ) → one ≤ most → two ≤ most → max one two ≤ most
most_of one two most first second = grind (arith, first, second)

-- a note is handed in
pub merges-told : (pass : ℕ) (v : View) (other : ℕ) (w : View) → w.share ≡ 0 → Merges Dispatch pass v other w (told v w) spent_view
merges-told pass v other w none items views rule at apart at_other =
    let found = was_there views pass other (told v w) w apart at_other in
    let mine = rule.fits pass v at in
    let theirs = rule.fits other w found in
    merged items views rule pass v other w (told v w) at found apart
    (record {
      feeds = refl;
      fed = refl;
      parts = omega arith;
      known = λ all _ known. known;
      count = λ most first second. most_of v.count w.count most first second;
    })
    rule.taker
    (record { none = sym theirs.takes ∙ theirs.idle none; stays = λ third _ _. refl })
    mine.takes mine.idle

-- two takers become one
pub merges-joined : (pass : ℕ) (v : View) (other : ℕ) (w : View) → Merges Dispatch pass v other w (joined v w) spent_view
merges-joined pass v other w items views rule at apart at_other =
    let found = was_there views pass other (joined v w) w apart at_other in
    let mine = rule.fits pass v at in
    let theirs = rule.fits other w found in
    let taker = handed rule.taker other pass in
    let none : (v.share + w.share ≡ 0) → union v.taken w.taken ≡ [] = λ both. ap₂ union (mine.idle (omega arith)) (theirs.idle (omega arith)) in
    merged items views rule pass v other w (joined v w) at found apart
    (record {
      feeds = refl;
      fed = refl;
      parts = refl;
      known = λ all first second. prefix-longer v.known w.known all first second;
      count = λ most first second. first;
    })
    taker
    (record {
      none = taken-handed_from rule.taker pass other 1 rule.front apart;
      stays = λ third not_pass not_other. taken-handed_else rule.taker pass other third 1 rule.front not_pass not_other;
    })
    (ap₂ union mine.takes theirs.takes ∙ union-taken rule.taker pass other 1 rule.front apart) none
