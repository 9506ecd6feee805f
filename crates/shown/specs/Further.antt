-- Further examples of the plain book.
use Rattle.std.specs.Prelude.{◌≡◌, ℕ, ◌^◌, ℤ, pos, neg_ℤ, Bool, if◌then◌else◌, List, [], ◌∷◌, ◌++◌, Some, map, replicate, ◌==◌}
use Rattle.std.proofs.Common.{arith}
use Rattle.refusal.specs.Refusals.{number_of, place_of_lent}
use Rattle.refusal.specs.declared.Fault.{Fault}
use Rattle.refusal.specs.declared.Fault.TheVariants as fault
use Rattle.refusal.specs.declared.Layer.TheVariants.{Opening}
use Rattle.refusal.specs.declared.memory.Lent.TheVariants as lent
use Rattle.set.specs.declared.sets.Set.{Set}
use Rattle.set.specs.Sets.{Made}
use Rattle.plan.specs.Groups.{group_in}
use Rattle.plan.specs.declared.plans.Plan.{Plan}
use Rattle.order.specs.Keys.{by_keys}
use Rattle.kinds.specs.Keys.{keys_by_model, keys_by_remaining}
use Rattle.kinds.specs.declared.runs.Run.{Run}
use Rattle.dates.specs.declared.phase.Phase.{Phase}
use Rattle.dates.specs.Lists.{listed_spacings}
use Rattle.dates.specs.Phases.{no_phase, phase_dates, phase_spacings}
use Rattle.standing.specs.declared.Phase.{Phase as Doing}
use Rattle.standing.specs.declared.Phase.TheVariants.{Waiting, Live, Withdrawn}
use Rattle.standing.specs.Standings.{phase_number}
use Rattle.book.specs.Racks.{rack_of}
use Rattle.book.specs.Sheets.{Sheet, words_of}
use Rattle.book.specs.Books.{Book, blank}
use Rattle.book.specs.Calls.{Call, Answer, Advance, Withdraw, AskStanding, Advanced, Withdrew, Stands, Refused, Leads, numbers_of, about_opening, running}
use Rattle.book.specs.Buffers.{words_after, ScratchAfter}
use Rattle.book.specs.Laws.{Lawful}
use Rattle.shown.specs.Examples.{Weighing, Gives, GivesThree, every_ten, phases_of_three, advance, first_sheet, second_sheet}

-- a roster can be opened over the plan with these phases and this order, and from the blank book on it answers the calls so
pub record Plays (plan : Plan) (phases : List Phase) (precedes : Run → Run → Bool) (calls : List Call) (answers : List Answer) : Type 0 where
  pub opens : Lawful plan (phase_dates phases) (phase_spacings phases) precedes
  pub end : Book
  pub led : Leads (rack_of plan) (phase_dates phases) precedes blank calls answers end

-- the running roster refuses a call, for this fault and with this place
abbrev pub refused : Fault → (place : ℕ) → Answer
refused fault place = Refused (running fault place)

-- it refuses an advance that is lent too little for a sheet, or too little scratch
abbrev pub short_of_words : Answer
short_of_words = refused fault.Memory (place_of_lent lent.Sheet)

abbrev pub short_of_scratch : Answer
short_of_scratch = refused fault.Memory (place_of_lent lent.Scratch)

-- it says how a model stands: what it is doing, the date of its run, what the run has got, and its lag
abbrev pub stands : Doing → (date served : ℕ) → (lag : ℤ) → Answer
stands doing date served lag = Stands (record { phase = phase_number doing; date = date; served = served; lag = lag })

-- the three models' roster
abbrev pub PlaysThree : List Call → List Answer → Plan → Type 0
PlaysThree calls answers plan = Plays plan phases_of_three (by_keys keys_by_model) calls answers

-- the sheet from 10 to 20 if model 2 is withdrawn by then: its pieces keep their parts, idle
abbrev pub idle_sheet : Sheet
idle_sheet = record {
  group = 1;
  start = 10;
  end = 20;
  first = 1;
  rows =
      (record { end = 60; model = 1 } ∷ record { end = 100; model = 0 } ∷ [])
      ∷ (record { end = 20; model = 0 } ∷ record { end = 80; model = 3 } ∷ record { end = 100; model = 0 } ∷ [])
      ∷ [];
}

-- three models on one worker, of the weights 4, 5 and 1; the period of model 2 is short
abbrev pub GivesOne : (Plan → Type 0) → Type 0
GivesOne = Gives (Made 1 1 10 (4 ∷ 1 ∷ 1 ∷ []) (10 ∷ 2 ∷ 10 ∷ []))

-- a date at 0, and none after it
abbrev only_at_0 : Phase
only_at_0 = record { first = 0; period = 2 ^ 30; narrow = omega arith }

-- of its models, the second has that one date, and each other has one every 10 ticks
abbrev pub phases_of_one : List Phase
phases_of_one = every_ten ∷ only_at_0 ∷ every_ten ∷ replicate 61 no_phase

-- the sheet from 0 to 2
abbrev pub short_sheet : Sheet
short_sheet = record { group = 1; start = 0; end = 2; first = 1; rows = (record { end = 10; model = 2 } ∷ record { end = 20; model = 1 } ∷ []) ∷ [] }

-- the one after it, from 2 to 10
abbrev pub long_sheet : Sheet
long_sheet = record { group = 1; start = 2; end = 10; first = 1; rows = (record { end = 30; model = 1 } ∷ record { end = 40; model = 3 } ∷ record { end = 80; model = 0 } ∷ []) ∷ [] }

-- the sheet from 0 to 2 if model 3 comes before model 1
abbrev pub swapped_sheet : Sheet
swapped_sheet = record short_sheet { rows = (record { end = 10; model = 2 } ∷ record { end = 20; model = 3 } ∷ []) ∷ [] }

-- an order of one's own: at equal deadlines model 3 precedes all others
abbrev pub own_keys : Run → List ℕ
own_keys r = r.deadline ∷ (if r.model == 3 then 0 else 1) ∷ r.model ∷ []

-- four models of weight 6 on three workers, two in one group and one in another
abbrev pub GivesFour : (Plan → Type 0) → Type 0
GivesFour = Gives (Weighing 3 2 10 (6 ∷ 6 ∷ 6 ∷ 6 ∷ []))

abbrev pub phases_of_four : List Phase
phases_of_four = replicate 4 every_ten ++ replicate 60 no_phase

-- the second group's sheet from 0 to 10
abbrev pub other_sheet : Sheet
other_sheet = record { group = 2; start = 0; end = 10; first = 3; rows = (record { end = 60; model = 4 } ∷ record { end = 100; model = 0 } ∷ []) ∷ [] }

-- two models on one worker, of the weights 6 and 4
abbrev pub GivesTwo : (Plan → Type 0) → Type 0
GivesTwo = Gives (Made 1 1 10 (6 ∷ 2 ∷ []) (10 ∷ 5 ∷ []))

-- a date every 5 ticks, from this one on
abbrev every_five : ℕ → Phase
every_five first = record { first = first; period = 5; narrow = omega arith }

abbrev pub phases_of_two : List Phase
phases_of_two = every_ten ∷ every_five 5 ∷ replicate 62 no_phase

-- the sheet from 0 to 5: model 2 has no run yet
abbrev pub lone_sheet : Sheet
lone_sheet = record { group = 1; start = 0; end = 5; first = 1; rows = (record { end = 50; model = 1 } ∷ []) ∷ [] }

-- the one after it, from 5 to 10
abbrev pub joint_sheet : Sheet
joint_sheet = record { group = 1; start = 5; end = 10; first = 1; rows = (record { end = 10; model = 1 } ∷ record { end = 30; model = 2 } ∷ record { end = 50; model = 0 } ∷ []) ∷ [] }

-- three models on two workers, of the weights 6, 6 and 8, which fill both
abbrev pub GivesFull : (Plan → Type 0) → Type 0
GivesFull = Gives (Made 2 2 10 (3 ∷ 6 ∷ 8 ∷ []) (5 ∷ 10 ∷ 10 ∷ []))

-- model 2, which is divided, has no dates
abbrev pub phases_of_full : List Phase
phases_of_full = every_five 0 ∷ no_phase ∷ every_ten ∷ replicate 61 no_phase

-- the sheet from 0 to 5
abbrev pub pieces_sheet : Sheet
pieces_sheet = record {
  group = 1;
  start = 0;
  end = 5;
  first = 1;
  rows = (record { end = 20; model = 0 } ∷ record { end = 50; model = 1 } ∷ []) ∷ (record { end = 40; model = 3 } ∷ record { end = 50; model = 0 } ∷ []) ∷ [];
}

-- the three models' dates keep apart so far: those of model 2 nearer than its period
abbrev pub spacings_near : ℕ → ℕ
spacings_near = listed_spacings (10 ∷ 9 ∷ 10 ∷ [])

pub record Further : Type 0 where
  -- the pieces of a withdrawn model keep their parts, idle; and where all are withdrawn, their dates do not count
  pub withdrawn_piece :
      GivesThree (PlaysThree
      (advance ∷ Withdraw 2 ∷ advance ∷ Withdraw 1 ∷ Withdraw 3 ∷ advance ∷ [])
      (Advanced first_sheet ∷ Withdrew ∷ Advanced idle_sheet ∷ Withdrew ∷ Withdrew ∷ refused fault.Moment 1 ∷ []))
  -- what is refused, and the first fault of a call that has two; neither a refusal nor a standing changes what is answered later
  pub refusals :
      GivesThree (PlaysThree
      (Advance 1 511 64 ∷ Advance 1 512 63 ∷ Advance 2 511 63 ∷ Advance 0 512 64 ∷ Advance 1 511 63 ∷ Withdraw 0 ∷ Withdraw 4 ∷ AskStanding 2 ∷ advance ∷ AskStanding 4 ∷ Withdraw 1 ∷ Withdraw 1 ∷ AskStanding 1 ∷ AskStanding 2 ∷ [])
      (short_of_words ∷ short_of_scratch ∷ refused fault.Group 2 ∷ refused fault.Group 0 ∷ short_of_words ∷ refused fault.Model 0 ∷ refused fault.Model 4 ∷ stands Live 0 0 (pos 0) ∷ Advanced first_sheet ∷ refused fault.Model 4 ∷ Withdrew ∷ refused fault.Withdrawn 1 ∷ stands Withdrawn 0 0 (pos 0) ∷ stands Live 10 0 (pos 0) ∷ []))
  -- an interval ends at a deadline that is no date; by then one model is ahead, one waits, and one is behind; after it a new run begins, with nothing
  pub not_a_date :
      GivesOne (λ plan. Plays plan phases_of_one (by_keys keys_by_model)
      (advance ∷ AskStanding 1 ∷ AskStanding 2 ∷ AskStanding 3 ∷ advance ∷ AskStanding 1 ∷ [])
      (Advanced short_sheet ∷ stands Live 0 10 (pos 2) ∷ stands Waiting 0 0 (pos 0) ∷ stands Live 0 0 (neg_ℤ (pos 2)) ∷ Advanced long_sheet ∷ stands Live 10 0 (pos 0) ∷ []))
  -- if ties go by fewer remaining parts, model 3 comes before model 1
  pub fewer_first :
      GivesOne (λ plan. Plays plan phases_of_one (by_keys keys_by_remaining)
      (advance ∷ [])
      (Advanced swapped_sheet ∷ []))
  -- so it does under an order of one's own
  pub own_order :
      GivesOne (λ plan. Plays plan phases_of_one (by_keys own_keys)
      (advance ∷ [])
      (Advanced swapped_sheet ∷ []))
  -- each group goes on by itself, and its advances turn no other group's mirror; there is no third group
  pub two_groups :
      GivesFour (λ plan. Plays plan phases_of_four (by_keys keys_by_model)
      (Advance 2 512 64 ∷ advance ∷ Advance 3 512 64 ∷ [])
      (Advanced other_sheet ∷ Advanced first_sheet ∷ refused fault.Group 3 ∷ []))
  -- what counts is what is left: model 1 needs 60 parts in all, but only 10 more when model 2 comes and needs 20
  pub fewer_left :
      GivesTwo (λ plan. Plays plan phases_of_two (by_keys keys_by_remaining)
      (advance ∷ AskStanding 1 ∷ AskStanding 2 ∷ advance ∷ [])
      (Advanced lone_sheet ∷ stands Live 0 50 (pos 20) ∷ stands Live 5 0 (pos 0) ∷ Advanced joint_sheet ∷ []))
  -- no undivided run gets the parts of pieces whose model has no run
  pub idle_pieces :
      GivesFull (λ plan. Plays plan phases_of_full (by_keys keys_by_model)
      (advance ∷ [])
      (Advanced pieces_sheet ∷ []))
  -- no roster is opened over dates that may lie nearer than the period
  pub too_near : GivesThree (λ plan. about_opening (rack_of plan) spacings_near ≡ Some (record { number = number_of fault.Spacing; layer = Opening; place = 2 }))
  -- start, end, first worker and number of words
  pub numbers : (numbers_of first_sheet ≡ (0, 10, 1, 13)) × (numbers_of second_sheet ≡ (10, 20, 1, 13)) × (numbers_of other_sheet ≡ (0, 10, 3, 6))
  -- of 15 words that held 7 an advance leaves its own 13 and the last two as they were; a refused one leaves all of them, and its scratch
  pub left_behind :
      (words_after (Advanced first_sheet) (replicate 15 7) ≡ words_of first_sheet ++ 7 ∷ 7 ∷ [])
      × (words_after (refused fault.Moment 1) (replicate 15 7) ≡ replicate 15 7)
      × ((old new : List Run) → ScratchAfter (refused fault.Moment 1) old new → new ≡ old)
  -- three workers stand in groups of two; a heavy model takes the first of them alone
  pub groups_light : (set : Set) → Weighing 3 2 12 (8 ∷ 8 ∷ []) set → map (group_in set) (1 ∷ 2 ∷ 3 ∷ []) ≡ 1 ∷ 1 ∷ 2 ∷ []
  pub groups_heavy : (set : Set) → Weighing 3 2 12 (8 ∷ 9 ∷ []) set → map (group_in set) (1 ∷ 2 ∷ 3 ∷ []) ≡ 1 ∷ 2 ∷ 2 ∷ []
