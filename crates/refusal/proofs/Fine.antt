-- What a call answers about which there is no complaint.
use Rattle.std.proofs.Common.{◌≡◌, None, Some, Option, Ok, Err, Result, refl}
use Rattle.std.specs.Result.{IsOk}
use Rattle.refusal.specs.Refusals.{Complaint, Answers}
use Rattle.refusal.specs.declared.Refusal.{Refusal}
use Rattle.refusal.proofs.Firsts.{not_both}

module _ {A : Type 0} (complaint : Option Complaint) (P : A → Type 0) where
  pub is_ok : (result : Result A Refusal) → complaint ≡ None → Answers complaint result P → IsOk result
  is_ok (Ok x) none answers = refl
  is_ok (Err e) none answers = absurd (not_both _ _ answers none)

  pub ok_is : {result : Result A Refusal} (x : A) → result ≡ Ok x → Answers complaint result P → P x
  ok_is x is answers = (rw is at answers).1
