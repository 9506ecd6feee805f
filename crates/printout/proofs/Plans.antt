-- The parts of a plan's text fit one behind the other.
use Rattle.std.proofs.Common.{[], codes, arith}
use Rattle.plan.specs.declared.plans.Plan.{Plan}
use Rattle.printout.specs.declared.page.Page.{Page}
use Rattle.printout.specs.Lines.{line_of}
use Rattle.printout.specs.Texts.{sizes_text, loads_text, models_text}
use Rattle.printout.specs.Pages.{HasRoom, Fits, Appends}
use Rattle.printout.specs.Showing.{ShowsGroups}
use Rattle.printout.proofs.Pages.{room_behind}
use Rattle.printout.proofs.Sizes.{sizes_most, loads_most, models_most}

module _ (plan : Plan) (p : Page) (room : HasRoom p 16384) where
  pub sizes_fit : Fits p (sizes_text plan)
  sizes_fit = omega (arith, room, sizes_most plan)

  module _ (q : Page) (sizes : Appends p (sizes_text plan) q) where
    behind_sizes : HasRoom q 16351
    behind_sizes = room_behind p q (sizes_text plan) 33 16351 room (sizes_most plan) sizes

    pub loads_fit : Fits q (loads_text plan)
    loads_fit = omega (arith, behind_sizes, loads_most plan)

    module _ (r : Page) (loads : Appends q (loads_text plan) r) where
      behind_loads : HasRoom r 15743
      behind_loads = room_behind q r (loads_text plan) 608 15743 behind_sizes (loads_most plan) loads

      pub models_fit : Fits r (models_text plan)
      models_fit = omega (arith, behind_loads, models_most plan)

      module _ (s : Page) (models : Appends r (models_text plan) s) where
        behind_models : HasRoom s 12287
        behind_models = room_behind r s (models_text plan) 3456 12287 behind_loads (models_most plan) models

        pub groups_fit : HasRoom s 7062
        groups_fit = omega (arith, behind_models)

        pub end_fits : (t : Page) → ShowsGroups plan s t → Fits t (line_of (codes "end") [])
        end_fits t groups = omega (arith, room_behind s t _ 7062 5225 behind_models groups.short groups.appends)
