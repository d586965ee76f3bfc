-- How long what is put behind the gate is.
use Rattle.std.proofs.Common.{◌≡◌, ℕ, ◌+◌, List, [], ◌∷◌, length, ap, ◌∙◌, arith, length-append}
use Rattle.wire.specs.declared.message.Message.{Message}
use Rattle.wire.specs.MessageSpelling.{message_text}
use Rattle.journal_frames.specs.Frames.{behind_gate, body_of}
use Rattle.journal_frames.proofs.Frames.{length-body}
use Rattle.journal_start.specs.Journals.{Spelled}

pub long-is : (text : List ℕ) → length (behind_gate text) ≡ 5 + length text
long-is text =
    let all = length-append (body_of text) (0 ∷ []) in
    let body = length-body text in
    omega (arith, all, body)

pub spelled-long : (message : Message) (bytes : List ℕ) → Spelled message bytes → length bytes ≡ 5 + length (message_text message)
spelled-long message bytes spelled = ap length spelled.is ∙ long-is (message_text message)
