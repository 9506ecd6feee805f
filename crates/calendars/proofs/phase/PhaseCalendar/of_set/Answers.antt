use Rattle.std.proofs.Common.{◌≡◌, rules, refl}
use Rattle.set.specs.Sets.{period_of}
use Rattle.set.proofs.Arrays.{from_fn_each}
use Rattle.dates.specs.Phases.{no_phase}
use Rattle.calendars.proofs.Periods.{OwnPhases, own_phase_dates, own_phase_spacings}
use Rattle.calendars.proofs.phase.PhaseCalendar.of_set.Goals as goal

own : (c : goal.After-from_fn) → OwnPhases c.args.set.now c.from_fn.result
own c i h =
    from_fn_each _ (λ p. p.0.now ≡ c.args.set.now) (λ i y. (y.first ≡ 0) × (y.period ≡ period_of c.args.set.now i)) (λ p i y q keeps call. ((search rules, search rules), search rules)) _ c.from_fn.result 64 refl c.from_fn.ensures.items i no_phase h

pub returns-clause-dates : goal.returns-clause-dates
returns-clause-dates c = own_phase_dates c.args.set.now c.from_fn.result (own c)

pub returns-clause-spacings : goal.returns-clause-spacings
returns-clause-spacings c = own_phase_spacings c.args.set.now c.from_fn.result (own c)
