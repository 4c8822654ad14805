-- What an event that is seen says.
use Rattle.rmm_spec.specs.declared.event.Event.{Event}
use Rattle.rmm_spec.specs.declared.event.Event.TheVariants as event
use Rattle.rmi_view.specs.Seen.{command_seen, reply_seen}
use Rattle.history.specs.declared.event_ref.EventRef.{EventRef}
use Rattle.history.specs.declared.event_ref.EventRef.TheVariants as seen

abbrev pub event_seen : EventRef → Event
event_seen (seen.Called cpu number command) = event.Called cpu number (command_seen command)
event_seen (seen.Returned cpu number reply) = event.Returned cpu number (reply_seen reply)
