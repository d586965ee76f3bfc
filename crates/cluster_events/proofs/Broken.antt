-- Events that break off leave what they must.
use Rattle.std.proofs.Common.{ℕ, List, ◌++◌, sym, subst}
use Rattle.cluster_facts.specs.Types.{Reply}
use Rattle.cluster_facts.specs.Messages.{sent_by, messages_in}
use Rattle.cluster_facts.specs.Service.{Plain, answers_in}
use Rattle.cluster_facts.specs.Agents.{fed_of}
use Rattle.cluster_facts.specs.History.{committed}
use Rattle.cluster_facts.specs.World.{World}
use Rattle.cluster_facts.specs.Facts.{IsSound}
use Rattle.cluster_events.specs.Lines.{Told}
use Rattle.cluster_events.specs.Saying.{entry_in, reply_in, callback_in, replies_told, of_replies, TellsReplies, Says}
use Rattle.cluster_events.specs.Breaking.{Tells, Holds}
use Rattle.cluster_events.proofs.Carrying.{EndsIn-both}
use Rattle.cluster_events.proofs.Telling.{gathered-append, grows-told, TellsReplies-both, answers-ends, marks-both, called-both}
use Rattle.cluster_events.proofs.Promised.{committed-legal, committed-order}

pub Says-tells : (plain : Plain) (old new : World) (told : List Told) → Says plain old new told → Tells plain old new told
Says-tells plain old new told says = record { entries = says.entries; answers = says.answers; replies = says.replies; callbacks = says.callbacks; marks = says.marks; called = says.called }

pub Tells-both : (plain : Plain) (one two three : World) (first second : List Told) → Tells plain one two first → Tells plain two three second → Tells plain one three (second ++ first)
Tells-both plain one two three first second tells more = record {
  entries = grows-told entry_in (committed one.core) (committed two.core) (committed three.core) first second tells.entries more.entries;
  answers = EndsIn-both one.core.answered two.core.answered three.core.answered tells.answers more.answers;
  replies = λ client.
      let T : List (ℕ × Reply) → Type 0 = λ lines. TellsReplies (one.agents client) (three.agents client) (answers_in plain client three.core.answered) lines in
      subst T (sym (gathered-append (reply_in client) second first)) (TellsReplies-both (one.agents client) (two.agents client) (three.agents client) (answers_in plain client two.core.answered) (answers_in plain client three.core.answered) (replies_told client first) (replies_told client second) (answers-ends plain client three.core.answered two.core.answered more.answers) (tells.replies client) (more.replies client));
  callbacks = λ client. grows-told (callback_in client) (one.agents client).handed (two.agents client).handed (three.agents client).handed first second (tells.callbacks client) (more.callbacks client);
  marks = λ client. marks-both client (one.agents client).marks (two.agents client).marks (three.agents client).marks first second (tells.marks client) (more.marks client);
  called = λ client. called-both client (one.agents client).marks (two.agents client).marks (of_replies (fed_of (one.agents client))) (of_replies (fed_of (two.agents client))) (of_replies (fed_of (three.agents client))) first second (tells.marks client) (tells.called client) (more.called client);
}

-- a sound world holds what an event that breaks off must leave
pub Sound-holds : (plain : Plain) (world : World) → IsSound plain world → Holds plain world
Sound-holds plain world sound = record {
  legal = committed-legal plain world.now world.core.answered world.core.hand sound.facts.legal;
  calls = λ client. committed-order client (sent_by client (messages_in world.net)) world.core.answered world.core.hand (sound.facts.clients client).sends.first;
  fed = λ client. record {
    sent = sent_by client (messages_in world.net);
    marks = Rattle.cluster_facts.specs.Messages.receipts_of client (messages_in world.net);
    counted = (sound.facts.clients client).follows.counted;
    items = sound.facts.told client;
  };
}
