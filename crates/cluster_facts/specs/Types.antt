-- Words of public clauses: the types of calls, answers, entries and messages, passed on under the names that the definitions here use. Declares nothing.
pub use Rattle.ais_values.specs.declared.kind.Which.{Which}
pub use Rattle.ais_values.specs.declared.kind.Which.TheVariants.{Log, Ntf}
pub use Rattle.ais_values.specs.declared.kind.Version.{Version}
pub use Rattle.ais_values.specs.declared.status.Status.{Status}
pub use Rattle.ais_values.specs.declared.status.Status.TheVariants.{Ok as Success, Version as VersionRefused, TryAgain, BadHandle}
pub use Rattle.ntf_types.specs.declared.notification.Notification.{Notification}
pub use Rattle.sub_queue.specs.declared.item.Lost.{Lost}
pub use Rattle.sub_queue.specs.declared.item.Content.{Content}
pub use Rattle.sub_queue.specs.declared.item.Content.TheVariants.{Notified as Single, Discarded as Losses}
pub use Rattle.sub_queue.specs.declared.item.Item.{Item}
pub use Rattle.calls.specs.declared.call.Ask.{Ask}
pub use Rattle.calls.specs.declared.call.Ask.TheVariants.{Start, Plain as Other}
pub use Rattle.calls.specs.declared.call.Call.{Call}
pub use Rattle.calls.specs.declared.call.Call.TheVariants.{LogInit, LogOpen, LogWrite, LogFilter, LogClose, LogFini, NtfInit, NtfSend}
pub use Rattle.calls.specs.declared.call.Call.TheVariants.{NtfSubscribe, NtfUnsubscribe, ReaderStart, ReaderRead, ReaderEnd, NtfFini}
pub use Rattle.stream_config.specs.declared.mark.Mark.{Mark}
pub use Rattle.stream_config.specs.declared.attrs.StreamName.{StreamName}
pub use Rattle.calls.specs.declared.reply.Reply.{Reply}
pub use Rattle.calls.specs.declared.reply.Reply.TheVariants.{Refused, Done, Sent, Found, Marked}
pub use Rattle.calls.specs.declared.entry.Entry.{Entry}
pub use Rattle.calls.specs.declared.entry.Entry.TheVariants.{Called, Receipted}
pub use Rattle.calls.specs.declared.reply.Callback.{Callback}
pub use Rattle.calls.specs.declared.reply.Callback.TheVariants.{Written, Notified, Discarded, FilterSet as MaskSet}
pub use Rattle.wire.specs.declared.message.Message.{Message}
pub use Rattle.wire.specs.declared.message.Message.TheVariants.{Request, Reply as Answer, Item as Delivery, Receipt}
pub use Rattle.wire.specs.declared.message.WireWhy.{WireWhy}
