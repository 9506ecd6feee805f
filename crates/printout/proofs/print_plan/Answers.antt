use Rattle.std.proofs.Common.{rules}
use Rattle.printout.specs.Printing.{IsPlanText}
use Rattle.printout.proofs.Ones.{one_text}
use Rattle.printout.proofs.Prints.{has_room, printed}
use Rattle.printout.proofs.print_plan.Goals as goal

pub plan_lines-requires : goal.plan_lines-requires
plan_lines-requires c = has_room c.args.text.now c.new-page.result c.new-page.ensures.none c.new-page.ensures.over (search rules)

pub returns-clause-prints : goal.returns-clause-prints
returns-clause-prints c = (
  search rules,
  printed c.args.text.now c.new-page.result c.new-page.ensures.none c.new-page.ensures.over (IsPlanText c.args.plan.now) (one_text c.args.plan.now) c.plan_lines.new.page c.plan_lines.ensures _ _ c.len.ensures (search rules),
)
