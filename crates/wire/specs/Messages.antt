-- Words of public clauses: which bytes are a message, and where and why bytes are none.
use Rattle.std.specs.Prelude.{◌≡◌, ℕ, ◌<◌, ◌≤◌, List, length, take, Result, Ok, Err}
use Rattle.wire_code.specs.Spelling.{Begins}
use Rattle.wire.specs.declared.message.Message.{Message}
use Rattle.wire.specs.declared.message.WireWhy.{WireWhy}
use Rattle.wire.specs.declared.message.WireWhy.TheVariants.{Trailing, Short, BadValue}
use Rattle.wire.specs.declared.message.WireAnswer.{WireAnswer}
use Rattle.wire.specs.declared.message.WireAnswer.TheVariants.{Memory, Refused}
use Rattle.wire.specs.MessageSpelling.{message_text, MessageFits}

-- the message is in range, and the bytes are its spelling
pub record Spells (message : Message) (bytes : List ℕ) : Type 0 where
  pub fits : MessageFits message
  pub is : bytes ≡ message_text message

-- the bytes are the front of a message's spelling
abbrev pub IsFront : List ℕ → Type 0
IsFront front = Begins message_text MessageFits front

-- so many bytes, and no more, are the front of a spelling
pub record IsPlace (bytes : List ℕ) (place : ℕ) : Type 0 where
  pub bound : place ≤ length bytes
  pub front : IsFront (take place bytes)
  pub longest : (other : ℕ) → other ≤ length bytes → IsFront (take other bytes) → other ≤ place

-- what is wrong at the place
abbrev pub IsReason : List ℕ → ℕ → WireWhy → Type 0
IsReason bytes place Trailing = (place < length bytes) × ((message : Message) × Spells message (take place bytes))
IsReason bytes place Short = place ≡ length bytes
IsReason bytes place BadValue = (place < length bytes) × ((message : Message) → ¬ Spells message (take place bytes))

-- the bytes are no message
pub record IsRefusedAt (bytes : List ℕ) (place : ℕ) (why : WireWhy) : Type 0 where
  pub unspelled : (message : Message) → ¬ Spells message bytes
  pub at : IsPlace bytes place
  pub reason : IsReason bytes place why

-- the answer is this message, or memory ran out
abbrev pub IsRead : Message → Result Message WireAnswer → Type 0
IsRead message (Ok found) = found ≡ message
IsRead message (Err Memory) = Unit {0}
IsRead message (Err (Refused place why)) = ⊥

-- the answer is this refusal, or memory ran out
abbrev pub IsRefused : ℕ → WireWhy → Result Message WireAnswer → Type 0
IsRefused place why (Ok found) = ⊥
IsRefused place why (Err Memory) = Unit {0}
IsRefused place why (Err (Refused other reason)) = (other ≡ place) × (reason ≡ why)
