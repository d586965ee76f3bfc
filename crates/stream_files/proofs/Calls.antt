-- The device calls of deeds, one deed after another.
use Rattle.std.proofs.Common.{◌≡◌, ℕ, ◌+◌, ◌<◌, List, [], ◌∷◌, ◌++◌, length, length-append, get_or, take, drop, Option, option_map, sym, ap, subst, ◌∙◌}
use Rattle.std.proofs.lemmas.List.{take_more, drop_more, take-append-drop, append-nil}
use Rattle.disk_model.specs.Counts.{CountsDone}
use Rattle.disk_model.specs.Disk.{Files}
use Rattle.disk_model.specs.DeviceCalls.{all_applied, Breaks}
use Rattle.disk_model.specs.declared.answers.DiskAnswer.{DiskAnswer}
use Rattle.disk_model.specs.declared.tally.Tally.{Tally}
use Rattle.disk_model.proofs.Breaking.{breaks_within, done_behind}
use Rattle.disk_model.proofs.Counting.{counts-both}
use Rattle.stream_layout.specs.declared.deed.Deed.{Deed}
use Rattle.stream_layout.specs.Deeds.{calls_of, calls_of_all}
use Rattle.stream_layout.proofs.DeedLaws.{calls_of_all-append}

-- the calls of one more deed
pub calls_of_all_more : (deeds : List Deed) (i : ℕ) (d : Deed) → i < length deeds
    → calls_of_all (take (i + 1) deeds) ≡ calls_of_all (take i deeds) ++ calls_of (get_or deeds i d)
calls_of_all_more deeds i d within =
    ap calls_of_all (take_more deeds i d within)
    ∙ calls_of_all-append (take i deeds) (get_or deeds i d ∷ [])
    ∙ ap (λ calls. calls_of_all (take i deeds) ++ calls) (append-nil (calls_of (get_or deeds i d)))

-- all calls are those before a deed, its own, and those after it
pub calls_around : (deeds : List Deed) (i : ℕ) (d : Deed) → i < length deeds
    → calls_of_all deeds ≡ calls_of_all (take i deeds) ++ (calls_of (get_or deeds i d) ++ calls_of_all (drop (i + 1) deeds))
calls_around deeds i d within =
    ap calls_of_all (sym (take-append-drop i deeds))
    ∙ calls_of_all-append (take i deeds) (drop i deeds)
    ∙ ap (λ rest. calls_of_all (take i deeds) ++ calls_of_all rest) (drop_more deeds i d within)

-- the calls of the deeds up to one that was read, and with it
calls_with : (deeds : List Deed) (i : ℕ) (deed : Deed) → i < length deeds → deed ≡ get_or deeds i deed
    → calls_of_all (take (i + 1) deeds) ≡ calls_of_all (take i deeds) ++ calls_of deed
calls_with deeds i deed within read =
    calls_of_all_more deeds i deed within ∙ ap (λ d. calls_of_all (take i deeds) ++ calls_of d) (sym read)

-- a step of a loop over deeds: one more is done
pub done_more : (deeds : List Deed) (i : ℕ) (deed : Deed) (old middle new : Option Files) → i < length deeds → deed ≡ get_or deeds i deed
    → middle ≡ option_map (all_applied (calls_of_all (take i deeds))) old → new ≡ option_map (all_applied (calls_of deed)) middle
    → new ≡ option_map (all_applied (calls_of_all (take (i + 1) deeds))) old
done_more deeds i deed old middle new within read before one =
    done_behind (calls_of_all (take i deeds)) (calls_of deed) old middle new before one
    ∙ ap (λ c. option_map (all_applied c) old) (sym (calls_with deeds i deed within read))

-- its calls are counted
pub counts_more : (deeds : List Deed) (i : ℕ) (deed : Deed) (old middle new : Tally) → i < length deeds → deed ≡ get_or deeds i deed
    → CountsDone (length (calls_of_all (take i deeds))) old middle → CountsDone (length (calls_of deed)) middle new
    → CountsDone (length (calls_of_all (take (i + 1) deeds))) old new
counts_more deeds i deed old middle new within read before one =
    let front = calls_of_all (take i deeds) in
    subst (λ n. CountsDone n old new) (sym (ap length (calls_with deeds i deed within read) ∙ length-append front (calls_of deed)))
    (counts-both (length front) (length (calls_of deed)) old middle new before one)

-- a deed of a list breaks off, and with it the list
pub breaks_deed : (deeds : List Deed) (i : ℕ) (deed : Deed) (e : DiskAnswer) (old middle new : Option Files) (before between after : Tally)
    → i < length deeds → deed ≡ get_or deeds i deed → middle ≡ option_map (all_applied (calls_of_all (take i deeds))) old
    → CountsDone (length (calls_of_all (take i deeds))) before between → Breaks e (calls_of deed) middle new between after
    → Breaks e (calls_of_all deeds) old new before after
breaks_deed deeds i deed e old middle new before between after within read is counted one =
    let calls : calls_of_all deeds ≡ calls_of_all (take i deeds) ++ (calls_of deed ++ calls_of_all (drop (i + 1) deeds)) =
    calls_around deeds i deed within
    ∙ ap (λ d. calls_of_all (take i deeds) ++ (calls_of d ++ calls_of_all (drop (i + 1) deeds))) (sym read) in
    subst (λ c. Breaks e c old new before after) (sym calls)
    (breaks_within (calls_of_all (take i deeds)) (calls_of deed) (calls_of_all (drop (i + 1) deeds)) e old middle new before between after is counted one)
