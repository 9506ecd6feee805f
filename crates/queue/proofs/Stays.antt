-- What stays from one call to the next.
use Rattle.std.proofs.Common.{◌≡◌, ℕ, ◌+◌, ◌-◌, ◌≤◌, Bool, List, drop, ◌∙◌, arith}
use Rattle.std.proofs.lemmas.List.{drop-drop}
use Rattle.queue.specs.Queues.{slots_of, Stays}
use Rattle.queue.specs.declared.Queue.{Queue}

module _ {X : Type 0} where
  -- lists that agree behind one place agree behind a later one
  pub drop_later : (xs ys : List X) (c m : ℕ) → c ≤ m → drop c xs ≡ drop c ys → drop m xs ≡ drop m ys
  drop_later xs ys c m h e =
      let is : c + (m - c) ≡ m = omega arith in
      cc (drop-drop (m - c) c xs, drop-drop (m - c) c ys)

  -- what stays from q to r, and then from r to s
  pub stays_on : (precedes : X → X → Bool) (m n : ℕ) (q r s : Queue X) → n ≤ m → Stays precedes m q r → Stays precedes n r s → Stays precedes m q s
  stays_on precedes m n q r s le was now = record {
    room = cc;
    behind = drop_later (slots_of s) (slots_of r) n m le now.behind ∙ was.behind;
    keeps = λ h. now.keeps (was.keeps h);
    lent = cc;
  }
