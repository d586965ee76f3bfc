-- The order of subscriptions goes onward.
use Rattle.std.proofs.Common.{◌≡◌, true}
use Rattle.calls.specs.declared.saved.SavedSub.{SavedSub}
use Rattle.ntf_history.specs.Changes.{Sub}
use Rattle.ntf_history.proofs.KeyLaws.{IsOrder-comes_first}
use Rattle.plain_service.specs.Fitness.{is_sub_before}

-- subscriptions by client and key
abbrev sub_of : SavedSub → Sub
sub_of sub = record { client = sub.client; key = sub.key; id = sub.id; filters = sub.filters }

pub sub-onward : (one other third : SavedSub) → is_sub_before one other ≡ true → is_sub_before other third ≡ true → is_sub_before one third ≡ true
sub-onward one other third first second = IsOrder-comes_first.onward (sub_of one) (sub_of other) (sub_of third) first second
