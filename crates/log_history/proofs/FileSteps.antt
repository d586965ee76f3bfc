-- The files of a stream at a change of file: the last ones, as many as stand.
use Rattle.std.proofs.Common.{◌≡◌, ℕ, ◌+◌, ◌-◌, ◌≤◌, List, [], ◌∷◌, ◌++◌, length, drop, ap, sym, ◌∙◌, arith, length-append, length-drop}
use Rattle.std.specs.Prelude.{ℤ}
use Rattle.std.proofs.lemmas.List.{drop-append-le, drop-drop}
use Rattle.stream_config.specs.declared.state.LogFile.{LogFile}
use Rattle.stream_config.specs.declared.attrs.FullAction.{FullAction}
use Rattle.stream_config.specs.declared.attrs.FullAction.TheVariants.{Wrap, Halt, Rotate}
use Rattle.stream_config.specs.declared.attrs.StreamAttrs.{StreamAttrs}
use Rattle.stream_config.specs.Events.{file_closed, last_closed, most_files, standing}
use Rattle.stream_layout.proofs.CurrentFile.{last_closed-append}

-- at most so many elements, the last ones
abbrev last_ones : {X : Type 0} → ℕ → List X → List X
last_ones count xs = drop (length xs - count) xs

-- the last ones of what was left by taking some from the front, where enough is left
last_ones-kept : {X : Type 0} (count k : ℕ) (xs : List X) → k ≤ length xs - count → last_ones count (drop k xs) ≡ last_ones count xs
last_ones-kept count k xs enough =
    let moved : k + (length (drop k xs) - count) ≡ length xs - count = omega (arith, length-drop k xs) in
    drop-drop (length (drop k xs) - count) k xs ∙ ap (λ n. drop n xs) moved

-- at a change of file the last ones of all files come from the last ones before
last_ones-changed : (rotated : ℕ) (closed : ℤ) (files : List LogFile) (file new : LogFile) → 1 ≤ rotated
    → last_ones rotated (last_closed closed (last_ones rotated (files ++ file ∷ [])) ++ new ∷ []) ≡ last_ones rotated ((files ++ file_closed closed file ∷ []) ++ new ∷ [])
last_ones-changed rotated closed files file new some =
    let shut = file_closed closed file in
    let k : ℕ = length (files ++ file ∷ []) - rotated in
    let long = length-append files (file ∷ []) in
    let within : k ≤ length files = omega arith in
    let front : last_ones rotated (files ++ file ∷ []) ≡ drop k files ++ file ∷ [] = drop-append-le k files (file ∷ []) within in
    let shut_front : last_closed closed (last_ones rotated (files ++ file ∷ [])) ≡ drop k files ++ shut ∷ [] =
    ap (last_closed closed) front ∙ last_closed-append closed (drop k files) file in
    let all : List LogFile = (files ++ shut ∷ []) ++ new ∷ [] in
    let shut_long = length-append files (shut ∷ []) in
    let all_long = length-append (files ++ shut ∷ []) (new ∷ []) in
    let whole : drop k all ≡ (drop k files ++ shut ∷ []) ++ new ∷ [] =
    drop-append-le k (files ++ shut ∷ []) (new ∷ []) (omega arith) ∙ ap (λ rest. rest ++ new ∷ []) (drop-append-le k files (shut ∷ []) within) in
    ap (λ rest. last_ones rotated (rest ++ new ∷ [])) shut_front
    ∙ ap (last_ones rotated) (sym whole)
    ∙ last_ones-kept rotated k all (omega arith)

pub some-most : (action : FullAction) (rotated : ℕ) → 1 ≤ rotated → 1 ≤ most_files action rotated
some-most Wrap rotated some = omega arith
some-most Halt rotated some = omega arith
some-most Rotate rotated some = some

-- at a change of file those that stand come from those that stood
pub standing-changed : (attrs : StreamAttrs) (closed : ℤ) (files : List LogFile) (file new : LogFile) → 1 ≤ attrs.rotated
    → standing attrs (last_closed closed (standing attrs (files ++ file ∷ [])) ++ new ∷ []) ≡ standing attrs ((files ++ file_closed closed file ∷ []) ++ new ∷ [])
standing-changed attrs closed files file new some =
    last_ones-changed (most_files attrs.action attrs.rotated) closed files file new (some-most attrs.action attrs.rotated some)

-- those that stand of files, the last of which stands always
pub standing-push : (attrs : StreamAttrs) (files : List LogFile) (file : LogFile) → 1 ≤ attrs.rotated → standing attrs (files ++ file ∷ []) ≡ drop (length files + 1 - most_files attrs.action attrs.rotated) files ++ file ∷ []
standing-push attrs files file some =
    let most = some-most attrs.action attrs.rotated some in
    ap (λ count. drop (count - most_files attrs.action attrs.rotated) (files ++ file ∷ [])) (length-append files (file ∷ []))
    ∙ drop-append-le (length files + 1 - most_files attrs.action attrs.rotated) files (file ∷ []) (omega (arith, most))

-- one file stands where at least one may
pub standing-one : (attrs : StreamAttrs) (file : LogFile) → 1 ≤ attrs.rotated → standing attrs (file ∷ []) ≡ file ∷ []
standing-one attrs file some =
    let most = some-most attrs.action attrs.rotated some in
    let none : 1 - most_files attrs.action attrs.rotated ≡ 0 = omega arith in
    ap (λ n. drop n (file ∷ [])) none
