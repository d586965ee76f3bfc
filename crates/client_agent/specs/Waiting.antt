-- Words of bodies alone: the callbacks that a client has taken: those that wait, and what is handed out.
use Rattle.std.specs.Prelude.{ℕ, ◌+◌, List, [], length}
use Rattle.calls.specs.declared.reply.Callback.{Callback}
use Rattle.cluster_facts.specs.Agents.{oldest, all_but_oldest}
use Rattle.client_agent.specs.declared.answers.How.{How}
use Rattle.client_agent.specs.declared.answers.How.TheVariants.{One, All}

pub record Waiting : Type 0 where
  -- how many may wait
  pub places : ℕ
  -- those that wait, the newest first
  pub queue : List Callback
  -- how many were handed out
  pub given : ℕ

abbrev pub none_waits : ℕ → Waiting
none_waits places = record { places = places; queue = []; given = 0 }

abbrev pub after_one : Waiting → Waiting
after_one waiting =
    record waiting { queue = all_but_oldest waiting.queue; given = waiting.given + length (oldest waiting.queue) }

abbrev pub after_all : Waiting → Waiting
after_all waiting = record waiting { queue = []; given = waiting.given + length waiting.queue }

abbrev pub after_handing : How → Waiting → Waiting
after_handing One waiting = after_one waiting
after_handing (All workers) waiting = after_all waiting
