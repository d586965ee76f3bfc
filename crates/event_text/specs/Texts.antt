-- Words of public clauses: the text of the lines that events print. Each line of text ends with a line feed.
use Rattle.std.specs.Prelude.{◌≡◌, ℕ, ◌==◌, true, false, Option, Some, None, List, [], ◌∷◌, ◌++◌, length, map, codes, if◌then◌else◌}
use Rattle.std.specs.Fmt.{decimal, signed_decimal}
use Rattle.std.specs.List.{filter, join_by}
use Rattle.ais_values.specs.Statuses.{status_word}
use Rattle.script_grammar.specs.Writing.{joined}
use Rattle.script_language.specs.Printing.{server_text, stream_text, shown_note_text}
use Rattle.sub_queue.specs.declared.item.Lost.{Lost}
use Rattle.cluster_facts.specs.Types.{Status, WireWhy, Reply, Refused as Rejected, Done, Sent, Found, Marked, Entry, Called, Receipted}
use Rattle.cluster_facts.specs.Types.{StreamName, Success, Callback, Written, Notified, Discarded, MaskSet, Message, Request, Answer, Delivery, Receipt}
use Rattle.wire.specs.declared.message.WireWhy.TheVariants.{Trailing, Short, BadValue}
use Rattle.cluster_events.specs.declared.lines.ServerRole.{ServerRole}
use Rattle.cluster_events.specs.declared.lines.ServerRole.TheVariants.{Active, Armed, Standby, Joining, Down, Journal}
use Rattle.cluster_events.specs.declared.lines.Why.{Why}
use Rattle.cluster_events.specs.declared.lines.Why.TheVariants.{OldRequest, AheadRequest, Busy, DoneReceipt, ServerDown, AnsweredReply}
use Rattle.cluster_events.specs.declared.lines.Why.TheVariants.{Left, TakenItem, AheadItem, GoneItem, Bad}
use Rattle.cluster_events.specs.declared.lines.Standing.{Standing}
use Rattle.script_lines.specs.declared.line.Server.{Server}
use Rattle.cluster_events.specs.Lines.{Told, Posted, Injected, Committed, Replied, Declined, HandedOut, Dispatched, Ignored}
use Rattle.cluster_events.specs.Lines.{Refused, Stood, Listed, Shown, listed_roles}

abbrev pub line_end : List ℕ
line_end = 10 ∷ []

-- a message enters the net; only requests, replies, items and receipts do
unfoldable pub post_lines : ℕ → Message → List (List ℕ)
post_lines place (Request client number call) =
    joined (codes "post " ∷ decimal place ∷ codes " req " ∷ decimal client ∷ codes " " ∷ decimal number ∷ line_end ∷ []) ∷ []
post_lines place (Answer client number reply) =
    joined (codes "post " ∷ decimal place ∷ codes " rep " ∷ decimal client ∷ codes " " ∷ decimal number ∷ line_end ∷ []) ∷ []
post_lines place (Delivery client key item) =
    joined (codes "post " ∷ decimal place ∷ codes " item " ∷ decimal client ∷ codes " " ∷ decimal key ∷ codes " " ∷ decimal item.number ∷ line_end ∷ []) ∷ []
post_lines place (Receipt client key through) =
    joined (codes "post " ∷ decimal place ∷ codes " rcpt " ∷ decimal client ∷ codes " " ∷ decimal key ∷ codes " " ∷ decimal through ∷ line_end ∷ []) ∷ []
post_lines place _ = []

-- injected bytes, so many, enter the net
unfoldable pub raw_line : ℕ → ℕ → List ℕ
raw_line place count = joined (codes "post " ∷ decimal place ∷ codes " raw " ∷ decimal count ∷ line_end ∷ [])

-- an entry is committed
unfoldable pub entry_line : ℕ → Entry → List ℕ
entry_line index (Called client number time call) =
    joined (codes "acc " ∷ decimal index ∷ codes " call " ∷ decimal client ∷ codes " " ∷ decimal number ∷ codes " " ∷ signed_decimal time ∷ line_end ∷ [])
entry_line index (Receipted client key through time) =
    joined (codes "acc " ∷ decimal index ∷ codes " rcpt " ∷ decimal client ∷ codes " " ∷ decimal key ∷ codes " "
    ∷ decimal through ∷ codes " " ∷ signed_decimal time ∷ line_end ∷ [])

-- a client's agent takes a reply, or refuses what is asked of it
unfoldable pub reply_line : ℕ → ℕ → Reply → List ℕ
reply_line client number (Rejected status) =
    joined (codes "reply " ∷ decimal client ∷ codes " " ∷ decimal number ∷ codes " " ∷ status_word status ∷ line_end ∷ [])
reply_line client number Done =
    joined (codes "reply " ∷ decimal client ∷ codes " " ∷ decimal number ∷ codes " ok" ∷ line_end ∷ [])
reply_line client number (Sent id) =
    joined (codes "reply " ∷ decimal client ∷ codes " " ∷ decimal number ∷ codes " ok id=" ∷ decimal id ∷ line_end ∷ [])
reply_line client number (Found notification) =
    joined (codes "reply " ∷ decimal client ∷ codes " " ∷ decimal number ∷ codes " ok " ∷ shown_note_text notification ∷ line_end ∷ [])
reply_line client number (Marked true mark) =
    joined (codes "reply " ∷ decimal client ∷ codes " " ∷ decimal number ∷ codes " ok filtered" ∷ line_end ∷ [])
reply_line client number (Marked false mark) =
    joined (codes "reply " ∷ decimal client ∷ codes " " ∷ decimal number ∷ codes " ok" ∷ line_end ∷ [])

unfoldable pub declined_line : ℕ → Status → List ℕ
declined_line client status = joined (codes "reply " ∷ decimal client ∷ codes " - " ∷ status_word status ∷ line_end ∷ [])

-- the ids of the lost notifications of the type of this code
abbrev pub ids_of : ℕ → List Lost → List ℕ
ids_of kind lost = map (λ (one : Lost). one.id) (filter (λ (one : Lost). one.kind == kind) lost)

-- the line on the lost notifications of one type, if there are any
unfoldable pub lost_lines_of : ℕ → ℕ → ℕ → List ℕ → List ℕ → List (List ℕ)
lost_lines_of client number id word ids =
    if length ids == 0 then [] else
    joined (
    codes "callback " ∷ decimal client ∷ codes " " ∷ decimal number ∷ codes " lost " ∷ decimal id ∷ codes " " ∷ word
    ∷ codes " count=" ∷ decimal (length ids)
    ∷ codes " ids=" ∷ join_by decimal (codes ",") ids
    ∷ line_end ∷ []
    ) ∷ []

-- one line for each type, by rising codes
unfoldable pub lost_lines : ℕ → ℕ → ℕ → List Lost → List (List ℕ)
lost_lines client number id lost =
    lost_lines_of client number id (codes "objects") (ids_of 0x1000 lost)
    ++ (lost_lines_of client number id (codes "attributes") (ids_of 0x2000 lost)
    ++ (lost_lines_of client number id (codes "states") (ids_of 0x3000 lost)
    ++ (lost_lines_of client number id (codes "alarm") (ids_of 0x4000 lost)
    ++ lost_lines_of client number id (codes "security") (ids_of 0x5000 lost))))

-- the callback of a write
unfoldable pub write_line : ℕ → ℕ → ℕ → Status → List ℕ
write_line client number invocation status =
    joined (codes "callback " ∷ decimal client ∷ codes " " ∷ decimal number ∷ codes " write " ∷ decimal invocation
    ∷ codes " " ∷ status_word status ∷ line_end ∷ [])

-- the callback of a stream's mask
unfoldable pub filter_line : ℕ → ℕ → StreamName → ℕ → List ℕ
filter_line client number stream mask =
    joined (codes "callback " ∷ decimal client ∷ codes " " ∷ decimal number ∷ codes " filter " ∷ stream_text stream
    ∷ codes " mask=" ∷ decimal mask ∷ line_end ∷ [])

-- the write that it tells of too, if there is one
unfoldable pub done_lines : ℕ → ℕ → Option ℕ → List (List ℕ)
done_lines client number None = []
done_lines client number (Some invocation) = write_line client number invocation Success ∷ []

-- a callback is handed out
unfoldable pub callback_lines : ℕ → ℕ → Callback → List (List ℕ)
callback_lines client number (Written invocation status) = write_line client number invocation status ∷ []
callback_lines client number (Notified id notification) =
    joined (codes "callback " ∷ decimal client ∷ codes " " ∷ decimal number ∷ codes " ntf " ∷ decimal id ∷ codes " "
    ∷ shown_note_text notification ∷ line_end ∷ []) ∷ []
callback_lines client number (Discarded id lost) = lost_lines client number id lost
callback_lines client number (MaskSet stream mask written) =
    filter_line client number stream mask ∷ done_lines client number written

-- a dispatch has handed out so many
unfoldable pub dispatched_line : ℕ → ℕ → List ℕ
dispatched_line client count = joined (codes "reply " ∷ decimal client ∷ codes " - ok dispatched=" ∷ decimal count ∷ line_end ∷ [])

-- what is wrong where bytes stop to be the front of a message
abbrev pub fault_text : WireWhy → List ℕ
fault_text Trailing = codes "trailing"
fault_text Short = codes "short"
fault_text BadValue = codes "value"

-- a delivered byte string had no effect
abbrev pub why_text : Why → List ℕ
why_text OldRequest = codes "old"
why_text AheadRequest = codes "ahead"
why_text (Busy number) = codes "busy " ++ decimal number
why_text DoneReceipt = codes "done"
why_text ServerDown = codes "down"
why_text AnsweredReply = codes "answered"
why_text Left = codes "left"
why_text TakenItem = codes "taken"
why_text AheadItem = codes "ahead"
why_text GoneItem = codes "gone"
why_text (Bad front why) = codes "bad " ++ (decimal front ++ (codes " " ++ fault_text why))

unfoldable pub ignored_line : ℕ → Why → List ℕ
ignored_line place why = joined (codes "ignored " ∷ decimal place ∷ codes " " ∷ why_text why ∷ line_end ∷ [])

abbrev pub role_text : ServerRole → List ℕ
role_text Active = codes "active"
role_text Armed = codes "armed"
role_text Standby = codes "standby"
role_text Joining = codes "joining"
role_text Down = codes "down"
role_text Journal = codes "journal"

-- servers with their roles, as the line on a refused event has them
abbrev pub roles_text : List (Server × ServerRole) → List ℕ
roles_text [] = []
roles_text (one ∷ others) = (codes " " ++ (server_text one.0 ++ (codes "=" ++ role_text one.1))) ++ roles_text others

-- the number of the entry in hand, or a dash
abbrev pub hand_text : Option ℕ → List ℕ
hand_text None = codes "-"
hand_text (Some number) = decimal number

-- the event of a script's line of this text is refused
unfoldable pub refused_line : (text : List ℕ) → Standing → List ℕ
refused_line text standing =
    joined (
    codes "refused " ∷ text
    ∷ roles_text (listed_roles standing.roles)
    ∷ codes " net=" ∷ decimal standing.net
    ∷ codes " link=" ∷ decimal standing.link
    ∷ codes " back=" ∷ decimal standing.back
    ∷ codes " hand=" ∷ hand_text standing.in_hand
    ∷ line_end ∷ []
    )

unfoldable pub server_line : Server → ServerRole → List ℕ
server_line server role = joined (codes "server " ∷ server_text server ∷ codes " " ∷ role_text role ∷ line_end ∷ [])

-- a line for each server
abbrev pub role_lines : List (Server × ServerRole) → List (List ℕ)
role_lines [] = []
role_lines (one ∷ others) = server_line one.0 one.1 ∷ role_lines others

unfoldable pub file_line : List ℕ → ℕ → List ℕ
file_line name size = joined (codes "file " ∷ name ∷ codes " " ∷ decimal size ∷ line_end ∷ [])

unfoldable pub text_line : List ℕ → List ℕ
text_line text = joined (codes "text " ∷ text ∷ line_end ∷ [])

-- what is printed of each line that an event tells. The callback of losses of several types is printed in several lines
abbrev pub lines_of : Told → List (List ℕ)
lines_of (Posted place message) = post_lines place message
lines_of (Injected place bytes front why) = raw_line place (length bytes) ∷ []
lines_of (Committed index entry) = entry_line index entry ∷ []
lines_of (Replied client number call reply) = reply_line client number reply ∷ []
lines_of (Declined client status) = declined_line client status ∷ []
lines_of (HandedOut client number callback) = callback_lines client number callback
lines_of (Dispatched client count) = dispatched_line client count ∷ []
lines_of (Ignored place why) = ignored_line place why ∷ []
lines_of (Refused text standing) = refused_line text standing ∷ []
lines_of (Stood server role) = server_line server role ∷ []
lines_of (Listed name size) = file_line name size ∷ []
lines_of (Shown text) = text_line text ∷ []

-- all lines of events, the last of which stands in front
abbrev pub printed : List Told → List (List ℕ)
printed [] = []
printed (line ∷ told) = printed told ++ lines_of line

-- What is shown of a file.

-- a byte before the rest of a line, if that does not leave it the last of the line as a blank
abbrev pub before_rest : ℕ → List ℕ → List ℕ
before_rest byte [] = if byte == 32 then [] else byte ∷ []
before_rest byte (next ∷ rest) = byte ∷ next ∷ rest

-- a line without the blanks at its end
abbrev pub trimmed : List ℕ → List ℕ
trimmed [] = []
trimmed (byte ∷ line) = before_rest byte (trimmed line)

-- what stands behind the last line feed is a line where it is not empty
abbrev pub last_lines : List ℕ → List (List ℕ)
last_lines [] = []
last_lines (byte ∷ front) = trimmed (byte ∷ front) ∷ []

-- the lines of bytes behind the front of their first line
abbrev pub lines_behind : List ℕ → List ℕ → List (List ℕ)
lines_behind front [] = last_lines front
lines_behind front (byte ∷ bytes) =
    if byte == 10 then trimmed front ∷ lines_behind [] bytes else lines_behind (front ++ byte ∷ []) bytes

-- the lines of a file, without their line feeds and the blanks at their ends
abbrev pub file_text_lines : List ℕ → List (List ℕ)
file_text_lines bytes = lines_behind [] bytes

-- and what is printed of them
abbrev pub shown_lines : List (List ℕ) → List (List ℕ)
shown_lines lines = map text_line lines

-- Where memory runs out.

-- some of the lines to be added, from the first on, stand behind those before
pub record AddedInPart (before added after : List (List ℕ)) : Type 0 where
  pub front : List (List ℕ)
  pub rest : List (List ℕ)
  pub whole : added ≡ front ++ rest
  pub stands : after ≡ before ++ front
