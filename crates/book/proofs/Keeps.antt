-- What an interval and a withdrawal keep, every list of calls keeps; and a call more, behind a list of calls.
use Rattle.std.proofs.Common.{ℕ, Bool, List, [], ◌∷◌, ◌++◌}
use Rattle.kinds.specs.declared.runs.Run.{Run}
use Rattle.plan.specs.declared.plans.Plan.{Plan}
use Rattle.book.specs.Racks.{Rack, rack_of}
use Rattle.book.specs.Sheets.{Sheet}
use Rattle.book.specs.Books.{Book, entered, without}
use Rattle.book.specs.Turns.{IsNext}
use Rattle.book.specs.Calls.{Call, Answer, Step, declines, advances, rests, withdraws, stands, Leads, ends, goes}
use Rattle.book.specs.Laws.{Reached}

module _ {rack : Rack} {dates : ℕ → ℕ → Bool} {precedes : Run → Run → Bool} (P : Book → Type 0)
    (interval : (b : Book) (g : ℕ) (s : Sheet) → IsNext rack dates precedes b g s → P b → P (entered b s))
    (withdrawal : (b : Book) (i : ℕ) → P b → P (without b i)) where
  step_keeps : (b : Book) (call : Call) (answer : Answer) (c : Book) → Step rack dates precedes b call answer c → P b → P c
  step_keeps b _ _ _ (declines call complaint is) held = held
  step_keeps b _ _ _ (advances g words things s none next) held = interval b g s next held
  step_keeps b _ _ _ (rests g words things none last) held = held
  step_keeps b _ _ _ (withdraws i none) held = withdrawal b i held
  step_keeps b _ _ _ (stands i none) held = held

  pub calls_keep : {b : Book} {calls : List Call} {answers : List Answer} {e : Book} → Leads rack dates precedes b calls answers e → P b → P e
  calls_keep (ends b) held = held
  calls_keep (goes b c e call answer calls answers step rest) held = calls_keep rest (step_keeps b call answer c step held)

-- a call more
pub leads_more : {rack : Rack} {dates : ℕ → ℕ → Bool} {precedes : Run → Run → Bool} {b c e : Book} {calls : List Call} {answers : List Answer} {call : Call} {answer : Answer}
    → Leads rack dates precedes b calls answers c → Step rack dates precedes c call answer e → Leads rack dates precedes b (calls ++ call ∷ []) (answers ++ answer ∷ []) e
leads_more (ends b) last = goes b _ _ _ _ [] [] last (ends _)
leads_more (goes b d c first told calls answers step led) last = goes b d _ first told _ _ step (leads_more led last)

pub reached_more : {plan : Plan} {dates : ℕ → ℕ → Bool} {precedes : Run → Run → Bool} {b c : Book} {call : Call} {answer : Answer} → Reached plan dates precedes b → Step (rack_of plan) dates precedes b call answer c → Reached plan dates precedes c
reached_more {call = call} {answer = answer} reached step = record { calls = reached.calls ++ call ∷ []; answers = reached.answers ++ answer ∷ []; led = leads_more reached.led step }
