use Rattle.std.proofs.Common.{refl, ap}
use Rattle.order.proofs.Keyed.{by_keys-OrderLaws}
use Rattle.kinds.specs.Keys.{keys_by_model, keys_by_remaining}
use Rattle.book.specs.Calls.{declines, advances, rests, withdraws, stands, ends, about_opening}
use Rattle.shown.specs.Further.{own_keys, spacings_near}
use Rattle.shown.proofs.Written.{is_written}
use Rattle.shown.proofs.Rosters.{also}
use Rattle.shown.proofs.Three.{gives_three, plays_three, first_next, idle_next}
use Rattle.shown.proofs.One.{plays_one, short_next, long_next, fewer_next, own_next}
use Rattle.shown.proofs.Four.{plays_four, other_next, ours_next}
use Rattle.shown.proofs.Two.{plays_two, lone_next, joint_next}
use Rattle.shown.proofs.Full.{plays_full, pieces_next}
use Rattle.shown.proofs.further_examples_hold.Goals as goal

pub returns : goal.returns
returns c = record {
  withdrawn_piece = plays_three
      (also (advances _ _ _ _ refl first_next)
      (also (withdraws _ refl)
      (also (advances _ _ _ _ refl idle_next)
      (also (withdraws _ refl)
      (also (withdraws _ refl)
      (also (rests _ _ _ refl (λ t _. refl))
      (ends _)))))));
  refusals = plays_three
      (also (declines _ _ refl)
      (also (declines _ _ refl)
      (also (declines _ _ refl)
      (also (declines _ _ refl)
      (also (declines _ _ refl)
      (also (declines _ _ refl)
      (also (declines _ _ refl)
      (also (stands _ refl)
      (also (advances _ _ _ _ refl first_next)
      (also (declines _ _ refl)
      (also (withdraws _ refl)
      (also (declines _ _ refl)
      (also (stands _ refl)
      (also (stands _ refl)
      (ends _)))))))))))))));
  not_a_date = plays_one _ (by_keys-OrderLaws keys_by_model 1)
      (also (advances _ _ _ _ refl short_next)
      (also (stands _ refl)
      (also (stands _ refl)
      (also (stands _ refl)
      (also (advances _ _ _ _ refl long_next)
      (also (stands _ refl)
      (ends _)))))));
  fewer_first = plays_one _ (by_keys-OrderLaws keys_by_remaining 2) (also (advances _ _ _ _ refl fewer_next) (ends _));
  own_order = plays_one _ (by_keys-OrderLaws own_keys 2) (also (advances _ _ _ _ refl own_next) (ends _));
  two_groups = plays_four
      (also (advances _ _ _ _ refl other_next)
      (also (advances _ _ _ _ refl ours_next)
      (also (declines _ _ refl)
      (ends _))));
  fewer_left = plays_two
      (also (advances _ _ _ _ refl lone_next)
      (also (stands _ refl)
      (also (stands _ refl)
      (also (advances _ _ _ _ refl joint_next)
      (ends _)))));
  idle_pieces = plays_full (also (advances _ _ _ _ refl pieces_next) (ends _));
  too_near = gives_three _ (λ plan is. ap (λ r. about_opening r spacings_near) is);
  numbers = (refl, refl, refl);
  left_behind = (refl, refl, λ old new same. same);
  groups_light = λ set made. rw (is_written set made (refl, refl)) refl;
  groups_heavy = λ set made. rw (is_written set made (refl, refl)) refl;
}
