use Rattle.std.proofs.Common.{refl}
use Rattle.printout.specs.Texts.{plan_text}
use Rattle.printout.proofs.Pages.{appends_append}
use Rattle.printout.proofs.Plans.{sizes_fit, loads_fit, models_fit, groups_fit, end_fits}
use Rattle.printout.proofs.lines.plan_lines.Goals as goal

pub line-requires : goal.line-requires
line-requires c = sizes_fit c.args.plan.now c.args.page.now c.requires

pub load_lines-requires : goal.load_lines-requires
load_lines-requires c = loads_fit c.args.plan.now c.args.page.now c.requires c.line.new.self c.line.ensures

pub model_lines-requires : goal.model_lines-requires
model_lines-requires c = models_fit c.args.plan.now c.args.page.now c.requires c.line.new.self c.line.ensures c.load_lines.new.page c.load_lines.ensures

pub group_lines-requires : goal.group_lines-requires
group_lines-requires c = groups_fit c.args.plan.now c.args.page.now c.requires c.line.new.self c.line.ensures c.load_lines.new.page c.load_lines.ensures c.model_lines.new.page c.model_lines.ensures

pub line-requires-2 : goal.line-requires-2
line-requires-2 c = end_fits c.args.plan.now c.args.page.now c.requires c.line.new.self c.line.ensures c.load_lines.new.page c.load_lines.ensures c.model_lines.new.page c.model_lines.ensures c.group_lines.new.page c.group_lines.ensures

pub returns : goal.returns
returns c =
    let told = c.group_lines.ensures.answered in
    record {
      text = plan_text c.args.plan.now told.answers;
      is = record { answered = told; tells = refl };
      appends =
          appends_append _ _ _ _ _ c.line.ensures
          (appends_append _ _ _ _ _ c.load_lines.ensures
          (appends_append _ _ _ _ _ c.model_lines.ensures
          (appends_append _ _ _ _ _ c.group_lines.ensures.appends c.line-2.ensures)));
    }
