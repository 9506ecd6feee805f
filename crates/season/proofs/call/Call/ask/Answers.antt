use Rattle.season.proofs.Asking.{says_advanced, says_refused, gives_withdrew, gives_stands, gives_refused, keeps_as}
use Rattle.season.proofs.call.Call.ask.Goals as goal

pub returns-in-Ok-clause-asks : goal.returns-in-Ok-clause-asks
returns-in-Ok-clause-asks g c = rw c.in-Advance.is (keeps_as _ _ _ _ _ (λ given h. record { is = says_advanced _ _ _ _ given h.agrees; leaves = h.leaves }) c.in-Ok.ensures.keeps)

pub returns-in-Err-clause-asks : goal.returns-in-Err-clause-asks
returns-in-Err-clause-asks g c = rw c.in-Advance.is (keeps_as _ _ _ _ _ (λ given h. record { is = says_refused _ given h.agrees; leaves = h.leaves }) c.in-Err.ensures.keeps)

pub returns-in-Ok-withdraw-clause-asks : goal.returns-in-Ok-withdraw-clause-asks
returns-in-Ok-withdraw-clause-asks g c = rw c.in-Withdraw.is (keeps_as _ _ _ _ _ (gives_withdrew _ _) c.in-Ok-withdraw.ensures.keeps)

pub returns-in-Err-withdraw-clause-asks : goal.returns-in-Err-withdraw-clause-asks
returns-in-Err-withdraw-clause-asks g c = rw c.in-Withdraw.is (keeps_as _ _ _ _ _ (gives_refused _ _ _) c.in-Err-withdraw.ensures.keeps)

pub returns-in-Ok-standing-clause-asks : goal.returns-in-Ok-standing-clause-asks
returns-in-Ok-standing-clause-asks g c = rw c.in-Standing.is (keeps_as _ _ _ _ _ (gives_stands _ _ _) c.in-Ok-standing.ensures)

pub returns-in-Err-standing-clause-asks : goal.returns-in-Err-standing-clause-asks
returns-in-Err-standing-clause-asks g c = rw c.in-Standing.is (keeps_as _ _ _ _ _ (gives_refused _ _ _) c.in-Err-standing.ensures)
