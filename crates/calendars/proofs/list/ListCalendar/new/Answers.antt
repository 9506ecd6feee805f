use Rattle.std.proofs.Common.{rules}
use Rattle.dates.proofs.Lists.{accepted_sound}
use Rattle.calendars.proofs.list.ListCalendar.new.Goals as goal

pub invariant_of-result-clause-sound : goal.invariant_of-result-clause-sound
invariant_of-result-clause-sound c = search (rules, accepted_sound)
