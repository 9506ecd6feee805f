use Rattle.std.proofs.Common.{refl, arith}
use Rattle.book.specs.Calls.{advances, ends}
use Rattle.shown.proofs.Written.{is_written}
use Rattle.shown.proofs.Placings.{heavy_by, loads_placed}
use Rattle.shown.proofs.Rosters.{also}
use Rattle.shown.proofs.Three.{gives_three, opens_three, leads_three, first_next, second_next}
use Rattle.shown.proofs.examples_hold.Goals as goal

pub returns : goal.returns
returns c = record {
  first_advance = (gives_three _ (λ plan is. (opens_three plan is, leads_three (also (advances _ _ _ _ refl first_next) (ends _)) plan is)), refl);
  second_advance = (gives_three _ (leads_three (also (advances _ _ _ _ refl first_next) (also (advances _ _ _ _ refl second_next) (ends _)))), refl);
  two_thirds = λ sizes workers group grain. (λ i. heavy_by (workers i) (group i) (grain i) 8, λ i. heavy_by (workers i) (group i) (grain i) 9);
  third_idle = λ set made. rw (is_written set made (refl, refl)) (refl, loads_placed _);
  filled = λ set made. rw (is_written set made (refl, refl)) (refl, loads_placed _);
  too_full = λ set made. rw (is_written set made (refl, refl)) refl;
  next_worker = λ set made. rw (is_written set made (refl, refl)) (refl, λ plan follows. follows.seated'.each 1 (omega arith));
  next_group = λ set made. rw (is_written set made (refl, refl)) (refl, λ plan follows. follows.seated'.each 2 (omega arith));
  three_heavy = λ set made. rw (is_written set made (refl, refl)) refl;
  two_heavy = λ set made. rw (is_written set made (refl, refl)) refl;
}
