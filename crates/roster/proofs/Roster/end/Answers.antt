use Rattle.std.proofs.Common.{◌≡◌, ◌+◌, ◌∙◌, ap, sym, subst, refl, arith}
use Rattle.std.specs.Prelude.{slice_index}
use Rattle.book.specs.Sums.{up_to}
use Rattle.book.specs.Racks.{rack_of}
use Rattle.book.specs.Turns.{head_of}
use Rattle.roster.specs.Filling.{has_run, is_live_in}
use Rattle.roster.specs.Seating.{NextOn, chain_with}
use Rattle.roster.proofs.Filling.{EndSoFar, end_none, end_all, size_more, live_more, idle_more, none_more}
use Rattle.roster.proofs.Seats.{found_to, chain_few}
use Rattle.roster.proofs.Roster.end.Goals as goal
use Rattle.roster.proofs.Roster.end.Goals.{then-piece-gt0+then-is_live, else-piece-gt0, else-piece-gt0-via-then-piece-gt0+else-is_live, else-piece-gt0-via-else-piece-gt0}

pub loop-slot-init : goal.loop-slot-init
loop-slot-init g c =
    let plan = c.args.self.now.plan.now in
    let records = c.args.self.now.models.records in
    let chain = c.chain_with.result in
    let starts : NextOn plan (chain_with c.args.second c.args.worker) 0 (slice_index c.args.self.now.chains.heads chain) =
    subst (λ k. NextOn plan (chain_with c.args.second c.args.worker) 0 (slice_index c.args.self.now.chains.heads k)) (sym c.chain_with.ensures) (c.args.self.now.chained.starts (chain_with c.args.second c.args.worker) (chain_few c.args.second c.args.worker (omega (arith, c.requires.1, plan.set.sizes.few_workers)))) in
    found_to plan records c.args.second c.args.worker 0 _ 0 0 c.requires.0 starts
    (record { size' = refl; few = omega arith; model' = end_none plan records c.args.second c.args.worker })

pub loop-slot-preserved : goal.loop-slot-preserved
loop-slot-preserved g c =
    let l = c.loop-slot in
    let plan = c.args.self.now.plan.now in
    let records = c.args.self.now.models.records in
    let second = c.args.second in
    let worker = c.args.worker in
    let was = l.invariant.found in
    let piece = c.piece_on-piece.result in
    let next : NextOn plan (chain_with second worker) (l.slot + 1) (slice_index c.args.self.now.chains.nexts l.slot) = subst (λ p. NextOn plan p (l.slot + 1) (slice_index c.args.self.now.chains.nexts l.slot)) (l.invariant.here c.loop-slot-test.true) (c.args.self.now.chained.goes l.slot (omega arith) c.loop-slot-test.true) in
    found_to plan records second worker (l.slot + 1) _ _ _ c.requires.0 next (record {
      size' = size_more plan records second worker l.slot l.size piece was.size' c.piece_on-piece.ensures;
      few = omega (arith, was.few);
      model' = elim c.if-piece-gt0.branch [
        | then-piece-gt0+then-is_live w ↦ rw w.model-is (live_more plan records second worker l.slot l.model piece (omega (arith, c.loop-slot-test.true)) was.model' c.piece_on-piece.ensures (omega (arith, w.if-piece-gt0.true))
            (ap is_live_in (sym w.phase.ensures) ∙ sym w.is_live.ensures ∙ w.if-is_live.true))
        | else-piece-gt0 w ↦ rw w.model-is (elim w.else-piece-gt0.branch [
          | else-piece-gt0-via-then-piece-gt0+else-is_live w' ↦ idle_more plan records second worker l.slot l.model was.model' (ap is_live_in (sym w'.phase.ensures) ∙ sym w'.is_live.ensures ∙ w'.if-is_live.false)
          | else-piece-gt0-via-else-piece-gt0 w' ↦ none_more plan records second worker l.slot l.model piece was.model' c.piece_on-piece.ensures (omega (arith, w'.if-piece-gt0.false))
        ])
      ];
    })

pub returns-clause-size : goal.returns-clause-size
returns-clause-size g c =
    let l = c.loop-slot in
    let all : l.slot ≡ (rack_of c.args.self.now.plan.now).models = omega (arith, c.loop-slot-test.false, l.invariant.within) in
    l.invariant.found.size' ∙ ap (λ n. up_to n (λ i. head_of c.args.second c.args.worker ((rack_of c.args.self.now.plan.now).pieces i))) all

pub returns-clause-model : goal.returns-clause-model
returns-clause-model g c =
    let l = c.loop-slot in
    let all : l.slot ≡ (rack_of c.args.self.now.plan.now).models = omega (arith, c.loop-slot-test.false, l.invariant.within) in
    end_all c.args.self.now.plan.now c.args.self.now.models.records c.args.second c.args.worker l.model (subst (λ n. EndSoFar (has_run c.args.self.now.plan.now c.args.self.now.models.records) (λ i. head_of c.args.second c.args.worker ((rack_of c.args.self.now.plan.now).pieces i)) n l.model) all l.invariant.found.model')
