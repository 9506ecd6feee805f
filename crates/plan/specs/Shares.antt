-- What a model's pieces put on a worker.
use Rattle.std.specs.Prelude.{ℕ, zero, suc, ◌+◌, cond, List, ◌==◌, slice_index_or}
use Rattle.plan.specs.declared.pieces.Pieces.{Pieces}
use Rattle.plan.specs.declared.pieces.Pieces.TheVariants.{Whole, Divided}

-- the worker of the whole model, or of its first piece
abbrev pub worker_of : Pieces → ℕ
worker_of (Whole worker size) = worker
worker_of (Divided worker first second) = worker

-- what is on that worker
abbrev pub first_of : Pieces → ℕ
first_of (Whole worker size) = size
first_of (Divided worker first second) = first

-- what is on the next one: 0 unless the model is divided
abbrev pub second_of : Pieces → ℕ
second_of (Whole worker size) = 0
second_of (Divided worker first second) = second

-- the last worker that it is on
abbrev pub last_of : Pieces → ℕ
last_of (Whole worker size) = worker
last_of (Divided worker first second) = worker + 1

-- what a slot without a model holds
abbrev pub nowhere : Pieces
nowhere = Whole 0 0

-- the pieces of the model in slot i, whose number is i + 1
abbrev pub pieces_at : List Pieces → ℕ → Pieces
pieces_at pieces i = slice_index_or pieces i nowhere

-- the parts of a tick that pieces take on worker p
abbrev pub on_worker : ℕ → Pieces → ℕ
on_worker p x = cond (worker_of x == p) (first_of x) 0 + cond (worker_of x + 1 == p) (second_of x) 0

-- the parts that the first n models take on worker p
abbrev pub carried : (ℕ → Pieces) → ℕ → ℕ → ℕ
carried pieces p zero = 0
carried pieces p (suc n) = carried pieces p n + on_worker p (pieces n)
