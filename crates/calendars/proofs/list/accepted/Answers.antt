use Rattle.dates.proofs.Lists.{fault_cut}
use Rattle.calendars.proofs.list.accepted.Goals as goal

pub slice_bounds-result-end : goal.slice_bounds-result-end
slice_bounds-result-end c = fault_cut c.args.spacings.now c.args.entries.now _ c.in-Err.ensures
