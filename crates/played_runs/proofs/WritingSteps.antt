-- What is written piece by piece.
use Rattle.std.proofs.Common.{◌≡◌, ℕ, suc, ◌+◌, ◌<◌, List, ◌∷◌, ◌++◌, length, take, drop, get_or, Option, Some, Err, refl, ap, sym, ◌∙◌, subst, append_assoc, add-one, drop-cons, take-append-drop}
use Rattle.std.specs.Io.KnownBytes.{Appends}
use Rattle.std.proofs.KnownBytes.{Appends-trans}
use Rattle.std.proofs.lemmas.Grind.{flat_map-append}
use Rattle.ais_values.specs.Causes.{RoseExactlyOn}
use Rattle.io_edge.specs.declared.answers.SinkAnswer.{SinkAnswer}
use Rattle.io_edge.specs.declared.answers.SinkAnswer.TheVariants as sink_answer
use Rattle.io_edge.specs.Writes.{AppendsFront}
use Rattle.io_edge.proofs.Fronts.{front-behind, front-more}
use Rattle.played_runs.specs.declared.ending.Status8.{Status8}
use Rattle.played_runs.specs.Counts.{HasGoneOn, HasStood, RisesBefore}
use Rattle.played_runs.specs.Edges.{Edge, edge, before, after}
use Rattle.played_runs.specs.Writing.{Reaching, Written, Whole, SinkFailed, SinkLacked, Lacked, Counting, Standing, Ended, sink_status, joined_lines, unasked}
use Rattle.played_runs.proofs.CountSteps.{other-stood, risen-behind, rises-alone, rises-read, stood-on}

-- what a sink that did not take all leaves of a text
pub unwritten : {K : Type 0} (E : Reaching) (L : List ℕ → Type 0) (sink : Edge K (List ℕ)) (answer : SinkAnswer) (reached : Option Status8) (text : List ℕ) → E reached text → RoseExactlyOn {T = Unit} (sink.faults sink.old) (sink.faults sink.new) (Err answer) sink_answer.Failed → AppendsFront (before sink) (after sink) text → Written E L sink (sink_status answer)
unwritten E L sink sink_answer.Memory reached text ends cause front =
    let stood = other-stood (sink.faults sink.old) (sink.faults sink.new) sink_answer.Memory sink_answer.Failed sink_answer.Memory cause refl (λ is. cc) in
    SinkLacked refl stood reached text ends front
unwritten E L sink sink_answer.Failed reached text ends cause front =
    SinkFailed refl (cause.later, cause.rose refl) reached text ends front

-- the same written by other words
pub written-as : {K : Type 0} (E F : Reaching) (L M : List ℕ → Type 0) (sink : Edge K (List ℕ)) (status : Status8) → ((reached : Option Status8) (text : List ℕ) → E reached text → F reached text) → ((text : List ℕ) → L text → M text) → Written E L sink status → Written F M sink status
written-as E F L M sink status ends lacks (Whole text e stood appends) = Whole text (ends (Some status) text e) stood appends
written-as E F L M sink status ends lacks (SinkFailed is rose reached text e front) = SinkFailed is rose reached text (ends reached text e) front
written-as E F L M sink status ends lacks (SinkLacked is stood reached text e front) = SinkLacked is stood reached text (ends reached text e) front
written-as E F L M sink status ends lacks (Lacked is stood text l appends) = Lacked is stood text (lacks text l) appends

-- what is written behind a text
pub written-behind : {K : Type 0} (told : K → Option (List ℕ)) (faults : K → ℕ) (old mid new : K) (E F : Reaching) (L M : List ℕ → Type 0) (front : List ℕ) (status : Status8) → Appends (told old) (told mid) front → faults mid ≡ faults old → ((reached : Option Status8) (text : List ℕ) → E reached text → F reached (front ++ text)) → ((text : List ℕ) → L text → M (front ++ text)) → Written E L (edge told faults mid new) status → Written F M (edge told faults old new) status
written-behind told faults old mid new E F L M front status first stood ends lacks (Whole text e still appends) =
    Whole (front ++ text) (ends (Some status) text e) (still ∙ stood) (Appends-trans (told old) (told mid) (told new) front text first appends)
written-behind told faults old mid new E F L M front status first stood ends lacks (SinkFailed is risen reached text e part) =
    SinkFailed is (risen-behind (faults old) (faults mid) (faults new) stood risen) reached (front ++ text) (ends reached text e) (front-behind (told old) (told mid) (told new) front text first part)
written-behind told faults old mid new E F L M front status first stood ends lacks (SinkLacked is still reached text e part) =
    SinkLacked is (still ∙ stood) reached (front ++ text) (ends reached text e) (front-behind (told old) (told mid) (told new) front text first part)
written-behind told faults old mid new E F L M front status first stood ends lacks (Lacked is still text l appends) =
    Lacked is (still ∙ stood) (front ++ text) (lacks text l) (Appends-trans (told old) (told mid) (told new) front text first appends)

-- the same with the counts of source and disk
ended-by : {K : Type 0} (s d source disk : ℕ × ℕ) (E F : Reaching) (L M : List ℕ → Type 0) (sink : Edge K (List ℕ)) (status : Status8) → (HasStood s → HasStood source) → (HasGoneOn d → HasGoneOn disk) → ((reached : Option Status8) → RisesBefore reached s d → RisesBefore reached source disk) → ((reached : Option Status8) (text : List ℕ) → E reached text → F reached text) → ((text : List ℕ) → L text → M text) → Ended s d E L sink status → Ended source disk F M sink status
ended-by s d source disk E F L M sink status source_stood disk_on rises ends lacks ended =
    written-as (Counting s d E) (Counting source disk F) (Standing s d L) (Standing source disk M) sink status
    (λ reached text one. (ends reached text one.0, rises reached one.1))
    (λ text one. (lacks text one.0, source_stood one.1, disk_on one.2))
    ended

pub ended-as : {K : Type 0} (source disk : ℕ × ℕ) (E F : Reaching) (L M : List ℕ → Type 0) (sink : Edge K (List ℕ)) (status : Status8) → ((reached : Option Status8) (text : List ℕ) → E reached text → F reached text) → ((text : List ℕ) → L text → M text) → Ended source disk E L sink status → Ended source disk F M sink status
ended-as source disk E F L M sink status ends lacks ended =
    ended-by source disk source disk E F L M sink status (λ one. one) (λ one. one) (λ _ one. one) ends lacks ended

-- the source was read to its end before
pub ended-read : {K : Type 0} (source disk : ℕ × ℕ) (E F : Reaching) (L M : List ℕ → Type 0) (sink : Edge K (List ℕ)) (status : Status8) → HasStood source → ((reached : Option Status8) (text : List ℕ) → E reached text → F reached text) → ((text : List ℕ) → L text → M text) → Ended unasked disk E L sink status → Ended source disk F M sink status
ended-read source disk E F L M sink status stood ends lacks ended =
    ended-by unasked disk source disk E F L M sink status (λ _. stood) (λ one. one) (λ reached one. rises-read reached source disk stood one) ends lacks ended

-- the disk was not asked
pub ended-alone : {K : Type 0} (source disk : ℕ × ℕ) (E F : Reaching) (L M : List ℕ → Type 0) (sink : Edge K (List ℕ)) (status : Status8) → HasStood disk → ((reached : Option Status8) (text : List ℕ) → E reached text → F reached text) → ((text : List ℕ) → L text → M text) → Ended source unasked E L sink status → Ended source disk F M sink status
ended-alone source disk E F L M sink status stood ends lacks ended =
    ended-by source unasked source disk E F L M sink status (λ one. one) (λ _. stood-on disk stood) (λ reached one. rises-alone reached source disk stood one) ends lacks ended

-- the disk was asked before, and its count stood
pub ended-later : {K : Type 0} (source : ℕ × ℕ) (old mid new : ℕ) (E F : Reaching) (L M : List ℕ → Type 0) (sink : Edge K (List ℕ)) (status : Status8) → mid ≡ old → ((reached : Option Status8) (text : List ℕ) → E reached text → F reached text) → ((text : List ℕ) → L text → M text) → Ended source (mid, new) E L sink status → Ended source (old, new) F M sink status
ended-later source old mid new E F L M sink status stood ends lacks ended =
    let C : ℕ → Type 0 = λ count. Ended source (count, new) F M sink status in
    subst C stood (ended-as source (mid, new) E F L M sink status ends lacks ended)

-- a line among others: those before it, itself, and those behind it
pub lines-at : (lines : List (List ℕ)) (place : ℕ) (line : List ℕ) → place < length lines → line ≡ get_or lines place line → joined_lines lines ≡ (joined_lines (take place lines) ++ line) ++ joined_lines (drop (place + 1) lines)
lines-at lines place line inside is =
    let front = take place lines in
    let split : drop place lines ≡ line ∷ drop (place + 1) lines = rw add-one (drop-cons lines place line inside ∙ ap (λ (one : List ℕ). one ∷ drop (suc place) lines) (sym is)) in
    ap joined_lines (sym (take-append-drop place lines) ∙ ap (λ (behind : List (List ℕ)). front ++ behind) split)
    ∙ flat_map-append (λ (one : List ℕ). one) front (line ∷ drop (place + 1) lines)
    ∙ sym (append_assoc (joined_lines front) line (joined_lines (drop (place + 1) lines)))

-- the sink did not take all of a line among others
pub lines-front : (old mid new : Option (List ℕ)) (lines : List (List ℕ)) (place : ℕ) (line : List ℕ) → place < length lines → line ≡ get_or lines place line → Appends old mid (joined_lines (take place lines)) → AppendsFront mid new line → AppendsFront old new (joined_lines lines)
lines-front old mid new lines place line inside is before front =
    let F : List ℕ → Type 0 = λ text. AppendsFront old new text in
    subst F (sym (lines-at lines place line inside is)) (front-more old new (joined_lines (take place lines) ++ line) (joined_lines (drop (place + 1) lines)) (front-behind old mid new (joined_lines (take place lines)) line before front))
