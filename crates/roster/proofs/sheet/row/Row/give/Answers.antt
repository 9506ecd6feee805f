use Rattle.std.proofs.Common.{◌≡◌, ◌+◌, ◌-◌, subst, arith, map, take}
use Rattle.std.proofs.Math.ListN.{set}
use Rattle.roster.specs.Spans.{told_by, given}
use Rattle.roster.proofs.Spans.{gives_on, gives_first, gives_more}
use Rattle.roster.proofs.sheet.row.Row.give.Goals as goal
use Rattle.roster.proofs.sheet.row.Row.give.Goals.{else-count-gt0-via-then-count-gt0+else-self-count, else-count-gt0-via-else-count-gt0}

pub returns-then-self-count-clause-gives : goal.returns-then-self-count-clause-gives
returns-then-self-count-clause-gives c =
    let x = c.args.self.now in
    let n = x.count - 1 in
    let up : n + 1 ≡ x.count = omega (arith, c.if-count-gt0.true) in
    subst (λ k. map told_by (take k (set x.spans n (record { end = c.args.end; model = c.args.model }))) ≡ given (map told_by (take k x.spans)) c.args.end c.args.model) up
    (gives_on x.spans (record { end = 0; model = 0 }) n c.args.end c.args.model (omega (arith, x.full, x.within, c.if-count-gt0.true)) c.if-self-count.true)

pub returns-else-count-gt0-clause-gives : goal.returns-else-count-gt0-clause-gives
returns-else-count-gt0-clause-gives c = let x = c.args.self.now in elim c.else-count-gt0.branch [
  | else-count-gt0-via-then-count-gt0+else-self-count w ↦
      let n = x.count - 1 in
      let up : n + 1 ≡ x.count = omega (arith, w.if-count-gt0.true) in
      subst (λ k. map told_by (take (k + 1) (set x.spans k (record { end = c.args.end; model = c.args.model }))) ≡ given (map told_by (take k x.spans)) c.args.end c.args.model) up
      (gives_more x.spans (record { end = 0; model = 0 }) n c.args.end c.args.model (omega (arith, x.full, c.requires, w.if-count-gt0.true)) w.if-self-count.false)
  | else-count-gt0-via-else-count-gt0 w ↦ gives_first x.spans (record { end = 0; model = 0 }) x.count c.args.end c.args.model (omega (arith, x.full, c.requires)) (omega (arith, w.if-count-gt0.false))
]
