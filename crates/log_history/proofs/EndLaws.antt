-- Streams that end in order: which live afterwards, and where at most one has a name.
use Rattle.std.proofs.Common.{◌≡◌, ℕ, Bool, true, false, not, ◌&&◌, cond, List, [], ◌∷◌, refl, ap, sym, ◌∙◌, subst}
use Rattle.std.specs.Prelude.{Some, None, filter}
use Rattle.std.specs.List.{find}
use Rattle.stream_config.specs.declared.attrs.StreamName.{StreamName}
use Rattle.stream_config.specs.Stamps.{stamp_after}
use Rattle.log_history.specs.Chronicle.{Stream, lives, is_living, with_end, all_ended}
use Rattle.log_history.proofs.FirstLaws.{Each, AtMostOne}

-- a property that the end of a stream keeps
pub Each-all_ended : (P : Stream → Type 0) → ((closed : ℕ) (stream : Stream) → P stream → P (with_end closed stream)) → (ends : Stream → Bool) (last second : ℕ) (streams : List Stream) → Each P streams → Each P (all_ended ends last second streams)
Each-all_ended P keeps ends last second [] each = tt
Each-all_ended P keeps ends last second (stream ∷ streams) each =
    elim (ends stream) as (λ b. Each P (cond b (with_end (stamp_after last second) stream ∷ all_ended ends (stamp_after last second) second streams) (stream ∷ all_ended ends last second streams))) [
      | true ↦ (keeps (stamp_after last second) stream each.0, Each-all_ended P keeps ends (stamp_after last second) second streams each.1)
      | false ↦ (each.0, Each-all_ended P keeps ends last second streams each.1)
    ]

module _ (name : StreamName) (ends : Stream → Bool) where
  -- no stream of a name lives where none lived before
  pub find-all_ended_none : (last second : ℕ) (streams : List Stream) → find (is_living name) streams ≡ None → find (is_living name) (all_ended ends last second streams) ≡ None
  find-all_ended_none last second [] none = refl
  find-all_ended_none last second (stream ∷ streams) none =
      by_case (λ l h. find-all_ended_none l second streams h) (is_living name stream) refl none (ends stream) where
        by_case : ((l : ℕ) → find (is_living name) streams ≡ None → find (is_living name) (all_ended ends l second streams) ≡ None) → (b : Bool) → is_living name stream ≡ b → cond b (Some stream) (find (is_living name) streams) ≡ None → (e : Bool) → find (is_living name) (cond e (with_end (stamp_after last second) stream ∷ all_ended ends (stamp_after last second) second streams) (stream ∷ all_ended ends last second streams)) ≡ None
        by_case behind true is found e = cc
        by_case behind false is none_behind true = behind (stamp_after last second) none_behind
        by_case behind false is none_behind false =
            ap (λ b. cond b (Some stream) (find (is_living name) (all_ended ends last second streams))) is ∙ behind last none_behind

  pub AtMostOne-all_ended : (last second : ℕ) (streams : List Stream) → AtMostOne (is_living name) streams → AtMostOne (is_living name) (all_ended ends last second streams)
  AtMostOne-all_ended last second [] single = tt
  AtMostOne-all_ended last second (stream ∷ streams) single =
      elim (ends stream) as (λ e. AtMostOne (is_living name) (cond e (with_end (stamp_after last second) stream ∷ all_ended ends (stamp_after last second) second streams) (stream ∷ all_ended ends last second streams))) [
        | true ↦ ((λ is. cc), AtMostOne-all_ended (stamp_after last second) second streams single.1)
        | false ↦ ((λ is. find-all_ended_none last second streams (single.0 is)), AtMostOne-all_ended last second streams single.1)
      ]

  -- where a stream of the name lived and none does any more, that one ended
  pub find-all_ended : (last second : ℕ) (streams : List Stream) (stream : Stream) → find (is_living name) streams ≡ Some stream → find (is_living name) (all_ended ends last second streams) ≡ None → (ends stream ≡ true) × (is_living name stream ≡ true)
  find-all_ended last second [] found was none = cc
  find-all_ended last second (stream ∷ streams) found was none =
      by_case (λ l. find-all_ended l second streams found) (is_living name stream) refl was (ends stream) refl none where
        by_case : ((l : ℕ) → find (is_living name) streams ≡ Some found → find (is_living name) (all_ended ends l second streams) ≡ None → (ends found ≡ true) × (is_living name found ≡ true)) → (b : Bool) → is_living name stream ≡ b → cond b (Some stream) (find (is_living name) streams) ≡ Some found → (e : Bool) → ends stream ≡ e → find (is_living name) (cond e (with_end (stamp_after last second) stream ∷ all_ended ends (stamp_after last second) second streams) (stream ∷ all_ended ends last second streams)) ≡ None → (ends found ≡ true) × (is_living name found ≡ true)
        by_case behind true is same true ended none_there =
            let e : stream ≡ found = cc in
            subst (λ (s : Stream). (ends s ≡ true) × (is_living name s ≡ true)) e (ended, is)
        by_case behind true is same false stays none_there =
            let still : Some stream ≡ None = ap (λ b. cond b (Some stream) (find (is_living name) (all_ended ends last second streams))) (sym is) ∙ none_there in cc
        by_case behind false is later true ended none_there = behind (stamp_after last second) later none_there
        by_case behind false is later false stays none_there =
            behind last later (ap (λ b. cond b (Some stream) (find (is_living name) (all_ended ends last second streams))) (sym is) ∙ none_there)

-- those that live afterwards are those that lived and did not end
module _ (idle : Stream → Bool) where
  pub filter-all_ended : (last second : ℕ) (streams : List Stream) → filter lives (all_ended (λ stream. lives stream && idle stream) last second streams) ≡ filter (λ stream. not (idle stream)) (filter lives streams)
  filter-all_ended last second [] = refl
  filter-all_ended last second (stream ∷ streams) =
      by_case (λ l. filter-all_ended l second streams) (lives stream) refl (idle stream) refl where
        test : Stream → Bool
        test s = lives s && idle s

        by_case : ((l : ℕ) → filter lives (all_ended (λ s. lives s && idle s) l second streams) ≡ filter (λ s. not (idle s)) (filter lives streams)) → (k : Bool) → lives stream ≡ k → (e : Bool) → idle stream ≡ e → filter lives (cond (k && e) (with_end (stamp_after last second) stream ∷ all_ended (λ s. lives s && idle s) (stamp_after last second) second streams) (stream ∷ all_ended (λ s. lives s && idle s) last second streams)) ≡ filter (λ s. not (idle s)) (cond k (stream ∷ filter lives streams) (filter lives streams))
        by_case behind true living true none =
            behind (stamp_after last second)
            ∙ ap (λ b. cond (not b) (stream ∷ filter (λ s. not (idle s)) (filter lives streams)) (filter (λ s. not (idle s)) (filter lives streams))) (sym none)
        by_case behind true living false some =
            ap (λ b. cond b (stream ∷ filter lives (all_ended (λ s. lives s && idle s) last second streams)) (filter lives (all_ended (λ s. lives s && idle s) last second streams))) living
            ∙ ap (λ rest. stream ∷ rest) (behind last)
            ∙ ap (λ b. cond (not b) (stream ∷ filter (λ s. not (idle s)) (filter lives streams)) (filter (λ s. not (idle s)) (filter lives streams))) (sym some)
        by_case behind false dead e is =
            ap (λ b. cond b (stream ∷ filter lives (all_ended (λ s. lives s && idle s) last second streams)) (filter lives (all_ended (λ s. lives s && idle s) last second streams))) dead
            ∙ behind last
