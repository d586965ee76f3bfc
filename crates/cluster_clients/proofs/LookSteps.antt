-- How many reading calls are due, and how many were made.
use Rattle.std.proofs.Common.{◌≡◌, ℕ, zero, suc, ◌+◌, ◌<◌, ◌≤◌, inl, inr, true, false, Option, Some, None, List, length, Result, Ok, Err, refl, ap, ◌∙◌, subst, arith}
use Rattle.std.specs.Prelude.{IfSome}
use Rattle.std.specs.Result.{is_ok}
use Rattle.std.specs.FinMap as files
use Rattle.disk_model.specs.Counts.{ReadsOnce, read_more}
use Rattle.disk_model.specs.Disk.{Files, length_of}
use Rattle.disk_model.specs.declared.answers.DiskAnswer.{DiskAnswer}
use Rattle.disk_model.specs.declared.answers.DiskAnswer.TheVariants.{Memory, Failed, Stopped}
use Rattle.disk_model.specs.declared.tally.Tally.{Tally}
use Rattle.cluster_clients.specs.Looks.{ListCalls, calls_for, FileCalls, Looks}

-- A listing.

names-due : (held : Option Files) (names : List (List ℕ)) → IfSome held (λ f. names ≡ files.keys f) → ListCalls held (suc (length names))
names-due None names told = omega arith
names-due (Some held) names told = ap (λ n. suc (length n)) told

-- a number of calls that is due before the names are known
some-due : (held : Option Files) → (due : ℕ) × ListCalls held due × (1 ≤ due)
some-due None = (1, omega arith, omega arith)
some-due (Some held) = (suc (length (files.keys held)), refl, omega arith)

-- the names were not told
pub list-unnamed : (held : Option Files) (old new : Tally) → new ≡ read_more 1 old → Looks (ListCalls held) false old new
list-unnamed held old new counted =
    let due = some-due held in
    record { due = due.0; is_due = due.1; made = 1; within = due.2; whole = λ done. absurd (cc); counted = counted }

-- the lengths of so many files were asked for
pub list-broken : (held : Option Files) (names : List (List ℕ)) (count : ℕ) (old mid new : Tally) → IfSome held (λ f. names ≡ files.keys f) → count < length names → mid ≡ read_more (suc count) old → new ≡ read_more 1 mid → Looks (ListCalls held) false old new
list-broken held names count old mid new told inside before last = record {
  due = suc (length names);
  is_due = names-due held names told;
  made = suc (suc count);
  within = omega arith;
  whole = λ done. absurd (cc);
  counted = last ∙ ap (read_more 1) before;
}

-- all were
pub list-whole : (held : Option Files) (names : List (List ℕ)) (count : ℕ) (old new : Tally) → IfSome held (λ f. names ≡ files.keys f) → count ≡ length names → new ≡ read_more (suc count) old → Looks (ListCalls held) true old new
list-whole held names count old new told all counted = record {
  due = suc (length names);
  is_due = names-due held names told;
  made = suc count;
  within = omega arith;
  whole = λ done. ap suc all;
  counted = counted;
}

-- A file.

size-due : (name : List ℕ) (held : Option Files) (size : Option ℕ) → IfSome held (λ f. size ≡ length_of f name) → FileCalls name held (calls_for size)
size-due name (Some held) size told = ap calls_for told
size-due name None None told = inl refl
size-due name None (Some zero) told = inl refl
size-due name None (Some (suc size)) told = inr refl

one-call : (size : Option ℕ) → 1 ≤ calls_for size
one-call None = omega arith
one-call (Some zero) = omega arith
one-call (Some (suc size)) = omega arith

file-some : (name : List ℕ) (held : Option Files) → (due : ℕ) × FileCalls name held due × (1 ≤ due)
file-some name None = (1, inl refl, omega arith)
file-some name (Some held) = (calls_for (length_of held name), refl, one-call (length_of held name))

-- the length was not told
pub file-unsized : (name : List ℕ) (held : Option Files) (old new : Tally) → new ≡ read_more 1 old → Looks (FileCalls name held) false old new
file-unsized name held old new counted =
    let due = file-some name held in
    record { due = due.0; is_due = due.1; made = 1; within = due.2; whole = λ done. absurd (cc); counted = counted }

-- its bytes were read, or not, behind the call for its length
pub file-read : {T : Type 0} (name : List ℕ) (held : Option Files) (size : ℕ) (result : Result T DiskAnswer) (old mid new : Tally) → IfSome held (λ f. Some size ≡ length_of f name) → mid ≡ read_more 1 old → (size ≡ 0 → new ≡ mid) → (1 ≤ size → ReadsOnce result mid new) → Looks (FileCalls name held) (is_ok result) old new
file-read name held zero result old mid new told first unread reads = record {
  due = 1;
  is_due = size-due name held (Some zero) told;
  made = 1;
  within = omega arith;
  whole = λ done. refl;
  counted = unread refl ∙ first;
}
file-read name held (suc size) (Ok done) old mid new told first unread reads = record {
  due = 2;
  is_due = size-due name held (Some (suc size)) told;
  made = 2;
  within = omega arith;
  whole = λ done. refl;
  counted = reads (omega arith) ∙ ap (read_more 1) first;
}
file-read name held (suc size) (Err Memory) old mid new told first unread reads = record {
  due = 2;
  is_due = size-due name held (Some (suc size)) told;
  made = 1;
  within = omega arith;
  whole = λ done. absurd (cc);
  counted = reads (omega arith) ∙ first;
}
file-read name held (suc size) (Err Failed) old mid new told first unread reads = record {
  due = 2;
  is_due = size-due name held (Some (suc size)) told;
  made = 2;
  within = omega arith;
  whole = λ done. absurd (cc);
  counted = reads (omega arith) ∙ ap (read_more 1) first;
}
file-read name held (suc size) (Err Stopped) old mid new told first unread reads = absurd (reads (omega arith))

-- one more length
pub counted-next : (count : ℕ) (old mid new : Tally) → mid ≡ read_more (suc count) old → new ≡ read_more 1 mid → new ≡ read_more (suc (count + 1)) old
counted-next count old mid new before last =
    let same : suc (suc count) ≡ suc (count + 1) = omega arith in
    subst (λ (calls : ℕ). new ≡ read_more calls old) same (last ∙ ap (read_more 1) before)
