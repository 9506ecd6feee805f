use Rattle.std.proofs.Common.{◌≡◌, ◌-◌, ◌*◌, ◌^◌, ◌≤◌, Some, Err, refl, sym, ap, ◌∙◌, arith}
use mathlib.Core.Logic.{∥∥₁_elim}
use Rattle.std.proofs.Props.{props}
use Rattle.std.proofs.lemmas.Nat.{mul-le}
use Rattle.refusal.specs.Refusals.{told}
use Rattle.book.specs.Racks.{rack_of}
use Rattle.roster.specs.Records.{phase_at, served_in}
use Rattle.standing.specs.Standings.{reported}
use Rattle.book.specs.Calls.{Stands}
use Rattle.roster.specs.Keeping.{Agrees}
use Rattle.roster.specs.Reports.{report_of}
use Rattle.roster.proofs.Withdrawing.{has_model, no_model, refused}
use Rattle.roster.proofs.Reports.{about_unknown, about_fine, begun, few, shown, stood, lawful_over}
use Rattle.roster.proofs.Roster.standing.Goals as goal

pub returns-in_default : goal.returns-in_default
returns-in_default g c =
    let x = c.args.self.now in
    refused x _ _ (λ b tells. about_unknown (rack_of x.plan.now) b c.args.model (no_model x.plan.now _ c.in_default.ensures) ∙ ap (λ e. Some (told e)) (sym c.at.ensures)) (Agrees (λ standing answer. answer ≡ Stands (reported standing)) (Err c.at.result)) refl

pub standing-requires-clause-begun : goal.standing-requires-clause-begun
standing-requires-clause-begun g c =
    let x = c.args.self.now in
    let model = has_model x.plan.now c.args.model c.in-Some.ensures.0 in
    rw (c.phase-phase.ensures, c.present.ensures) (∥∥₁_elim x.booked (hlevel props) (λ t. begun t.0 t.1 c.args.model model))

pub standing-requires-clause-few : goal.standing-requires-clause-few
standing-requires-clause-few g c =
    let x = c.args.self.now in
    let model = has_model x.plan.now c.args.model c.in-Some.ensures.0 in
    let lawful = lawful_over (g.met.C.Calendar.laws x.calendar.now) (g.met.O.Order.laws x.order.now) x.spaced in
    let some : served_in (phase_at x.models.records (c.args.model - 1)) ≤ c.present.result * x.plan.now.set.sizes.grain =
    rw (c.present.ensures) (∥∥₁_elim x.booked (hlevel props) (λ t. few t.0 t.1 c.args.model model (g.C.Calendar.spacings x.calendar.now) lawful)) in
    rw (c.phase-phase.ensures) (omega (arith, some, mul-le c.present.result x.plan.now.set.sizes.grain (2 ^ 32) 100800 (omega (arith, c.present.type_inv)) x.plan.now.set.sizes.small_grain))

pub returns : goal.returns
returns g c =
    let x = c.args.self.now in
    let model = has_model x.plan.now c.args.model c.in-Some.ensures.0 in
    stood x c.args.model c.standing.result (λ b tells. (about_fine b tells c.args.model model, c.standing.ensures ∙ ap (λ p. report_of p c.in-Some.weight c.present.result) c.phase-phase.ensures ∙ ap (λ t. report_of (phase_at x.models.records (c.args.model - 1)) c.in-Some.weight t) c.present.ensures ∙ shown b tells c.args.model model c.in-Some.weight c.in-Some.ensures.1.is))
