-- Inputs that were read to their end or not, and disks that hold nothing.
use Rattle.std.proofs.Common.{◌≡◌, ℕ, ◌+◌, ◌≤◌, List, [], ◌∷◌, ◌++◌, length, Option, Some, None, Err, refl, ap, sym, ◌∙◌, subst, arith, append-nil}
use Rattle.std.specs.Prelude.{Vec, codes}
use Rattle.std.specs.declared.alloc.Global.{Global}
use Rattle.std.specs.FinMap.{keys, entries, len-entries, len-empty}
use Rattle.std.specs.Ordering.{nat_cmp}
use Rattle.std.specs.Cmp.Lexicographic.{slice_cmp}
use Rattle.std.proofs.lemmas.List.{length-append, length-map}
use Rattle.ais_values.specs.Causes.{RoseExactlyOn}
use Rattle.disk_model.specs.Disk.{File, no_files}
use Rattle.io_edge.specs.Reads.{ReadsAll, TakesAll, TakesSome}
use Rattle.io_edge.specs.declared.answers.ReadAnswer.{ReadAnswer}
use Rattle.io_edge.specs.declared.answers.ReadAnswer.TheVariants as read
use Rattle.played_runs.specs.declared.ending.Status8.{Status8}
use Rattle.played_runs.specs.declared.ending.Status8.TheVariants.{ReadFault, TooLong}
use Rattle.played_runs.specs.Counts.{HasStood}
use Rattle.played_runs.specs.Edges.{Edge, before, after, fault_count}
use Rattle.played_runs.specs.Writing.{Reaching, Written, Counting, Standing, Ended}
use Rattle.played_runs.proofs.CountSteps.{other-stood, stood-on}
use Rattle.played_runs.proofs.WritingSteps.{written-as}
use Rattle.played_runs.proofs.EndingSteps.{text-ends}
use Rattle.script_inputs.specs.Inputs.{input_limit, ReadsWhole, SourceFailed, InputTooLong}
use Rattle.script_inputs.specs.Unread.{UnreadEnds, UnreadLacks}

-- the source was not read to its end
pub unread-written : {S K : Type 0} (source : Edge S (List ℕ)) (disk : ℕ × ℕ) (E : Reaching) (L : List ℕ → Type 0) (answer : ReadAnswer) (sink : Edge K (List ℕ)) (status : Status8) → HasStood disk → ReadsAll (before source) (after source) input_limit (Err answer) → RoseExactlyOn {T = Vec ℕ Global} (source.faults source.old) (source.faults source.new) (Err answer) read.ReadFault → ((text : List ℕ) → SourceFailed source text → E (Some ReadFault) text) → ((text : List ℕ) → InputTooLong source text → E (Some TooLong) text) → L [] → Written (UnreadEnds answer) (UnreadLacks answer) sink status → Ended (fault_count source) disk E L sink status
unread-written source disk E L read.Memory sink status still reads cause failed long lacks written =
    let stood = other-stood (source.faults source.old) (source.faults source.new) read.Memory read.ReadFault read.Memory cause refl (λ is. cc) in
    let S : List ℕ → Type 0 = Standing (fault_count source) disk L in
    written-as (UnreadEnds read.Memory) (Counting (fault_count source) disk E) (UnreadLacks read.Memory) S sink status (λ reached text never. absurd never) (λ text none. subst S (sym none.1) (lacks, stood, stood-on disk still)) written
unread-written source disk E L read.ReadFault sink status still reads cause failed long lacks written =
    let C = Counting (fault_count source) disk E in
    let text = codes "read fault\n" in
    let ends : C (Some ReadFault) text = (failed text (record { taken = reads; printed = refl }), ((cause.later, cause.rose refl), still)) in
    written-as (UnreadEnds read.ReadFault) C (UnreadLacks read.ReadFault) (Standing (fault_count source) disk L) sink status (text-ends C ReadFault text ends) (λ text none. let no : read.ReadFault ≡ read.Memory = none.0 in absurd cc) written
unread-written source disk E L read.TooLong sink status still reads cause failed long lacks written =
    let C = Counting (fault_count source) disk E in
    let text = codes "script too long\n" in
    let stood = other-stood (source.faults source.old) (source.faults source.new) read.TooLong read.ReadFault read.TooLong cause refl (λ is. cc) in
    let ends : C (Some TooLong) text = (long text (record { taken = reads; printed = refl }), (stood, still)) in
    written-as (UnreadEnds read.TooLong) C (UnreadLacks read.TooLong) (Standing (fault_count source) disk L) sink status (text-ends C TooLong text ends) (λ text none. let no : read.TooLong ≡ read.Memory = none.0 in absurd cc) written

-- a source that tells its bytes and was read to its end gave just these
all-taken : (bytes taken : List ℕ) (new : Option (List ℕ)) (limit : ℕ) → TakesAll (Some bytes) new limit taken → taken ≡ bytes
all-taken bytes taken None limit takes = absurd takes.taken
all-taken bytes taken (Some left) limit takes =
    let same : bytes ≡ taken ++ left = takes.taken in
    sym (same ∙ ap (λ rest. taken ++ rest) takes.ended ∙ append-nil taken)

pub read-all : {S : Type 0} (source : Edge S (List ℕ)) (bytes taken : List ℕ) → before source ≡ Some bytes → ReadsWhole source taken → taken ≡ bytes
read-all source bytes taken left read =
    let T : Option (List ℕ) → Type 0 = λ old. TakesAll old (after source) input_limit taken in
    all-taken bytes taken (after source) input_limit (subst T left read)

-- an input of at most the limit is not too long
not-longer : (bytes : List ℕ) (new : Option (List ℕ)) → length bytes ≤ 16777216 → TakesSome (Some bytes) new (λ count. count ≡ input_limit + 1) → ⊥
unfolding input_limit
not-longer bytes None short takes = takes.taken
not-longer bytes (Some left) short takes =
    let same : bytes ≡ takes.bytes ++ left = takes.taken in
    let count : length takes.bytes ≡ 16777217 = takes.count in
    omega (arith, ap length same, length-append takes.bytes left, count)

pub not-too-long : {S : Type 0} (source : Edge S (List ℕ)) (bytes text : List ℕ) → before source ≡ Some bytes → length bytes ≤ 16777216 → InputTooLong source text → ⊥
not-too-long source bytes text left short long =
    let T : Option (List ℕ) → Type 0 = λ old. TakesSome old (after source) (λ count. count ≡ input_limit + 1) in
    not-longer bytes (after source) short (subst T left long.taken)

-- a disk without files lists no name
pub no-name : (name : List ℕ) (others : List (List ℕ)) → keys no_files ≡ name ∷ others → ⊥
no-name name others same =
    let none : length (entries no_files) ≡ 0 = sym (len-entries no_files) ∙ len-empty (slice_cmp nat_cmp) File in
    let some : length (keys no_files) ≡ length others + 1 = omega (arith, ap length same) in
    omega (arith, none, some, length-map (entries no_files) (λ e. e.0))
