-- The steps of a listing.
use Rattle.std.proofs.Common.{◌≡◌, ℕ, ◌+◌, ◌<◌, List, [], ◌∷◌, ◌++◌, length, take, get_or, Option, Some, None, sym, ◌∙◌, ap, subst, refl}
use Rattle.std.specs.Prelude.{option_map, IfSome}
use Rattle.std.specs.List.{cons_option}
use Rattle.std.specs.Option.{option_to_list}
use Rattle.std.proofs.lemmas.List.{take_more}
use Rattle.std.proofs.lemmas.List.Elements.{filter_map-append}
use Rattle.disk_model.specs.Disk.{Files, length_of}
use Rattle.event_text.specs.Texts.{file_line}
use Rattle.cluster_clients.specs.Files.{sizes_of, listed_lines}
use Rattle.cluster_clients.specs.Listing.{AddsLine, Listing}

-- an element that is read is that at its place
pub item_read : {X : Type 0} (xs : List X) (place count : ℕ) (item seen : X) → seen ≡ item → item ≡ get_or xs place item → count ≡ place → seen ≡ get_or xs count seen
item_read xs place count item seen same is at = cc

listed_lines-append : (first second : List (List ℕ × ℕ)) → listed_lines (first ++ second) ≡ listed_lines first ++ listed_lines second
listed_lines-append [] second = refl
listed_lines-append (file ∷ files) second = ap (λ rest. file_line file.0 file.1 ∷ rest) (listed_lines-append files second)

one_size : (o : Option (List ℕ × ℕ)) → cons_option o [] ≡ option_to_list o
one_size None = refl
one_size (Some file) = refl

sizes_next : (held mid : Option Files) → mid ≡ held → (names next : List (List ℕ)) (name : List ℕ) (listed : List (List ℕ × ℕ)) (size : Option ℕ) → next ≡ names ++ name ∷ []
    → IfSome held (λ f. listed ≡ sizes_of f names) → IfSome mid (λ f. size ≡ length_of f name)
    → IfSome held (λ f. listed ++ option_to_list (option_map (λ length. (name, length)) size) ≡ sizes_of f next)
sizes_next None mid same names next name listed size more before told = tt
sizes_next (Some f) mid same names next name listed size more before told =
    let now : size ≡ length_of f name = subst (λ held. IfSome held (λ g. size ≡ length_of g name)) same told in
    let sized : List ℕ → Option (List ℕ × ℕ) = λ n. option_map (λ length. (n, length)) (length_of f n) in
    ap (λ l. l ++ option_to_list (option_map (λ length. (name, length)) size)) before
    ∙ ap (λ o. sizes_of f names ++ option_to_list (option_map (λ length. (name, length)) o)) now
    ∙ ap (λ l. sizes_of f names ++ l) (sym (one_size (sized name)))
    ∙ sym (filter_map-append sized names (name ∷ []))
    ∙ ap (sizes_of f) (sym more)

-- the line of one more name is made
pub listing_next : (names : List (List ℕ)) (count : ℕ) (name : List ℕ) (held mid now : Option Files) (lines next : List (List ℕ))
    → count < length names → name ≡ get_or names count name
    → Listing names count held mid lines → AddsLine mid name lines next → now ≡ mid
    → Listing names (count + 1) held now next
listing_next names count name held mid now lines next inside is so_far adds same =
    let one = option_to_list (option_map (λ size. (name, size)) adds.size) in
    let more : take (count + 1) names ≡ take count names ++ name ∷ [] = take_more names count name inside ∙ ap (λ n. take count names ++ n ∷ []) (sym is) in
    record {
      listed = so_far.listed ++ one;
      shown = adds.added ∙ ap (λ t. t ++ listed_lines one) so_far.shown ∙ sym (listed_lines-append so_far.listed one);
      told = sizes_next held mid so_far.same (take count names) (take (count + 1) names) name so_far.listed adds.size more so_far.told adds.told;
      same = same ∙ so_far.same;
    }
