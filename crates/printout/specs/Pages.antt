-- What a clause says of a page.
--     memory p      all of the lent bytes, written or not
--     HasRoom p n      there is room for n bytes behind what p has written
--     Fits p text      the text has room behind what p has written
--     Appends p text q      the text had room; q, over the same lent bytes, has it there, and every other byte as p has it
use Rattle.std.specs.Prelude.{◌≡◌, ℕ, ◌+◌, ◌≤◌, List, ◌++◌, length, take, drop}
use Rattle.printout.specs.declared.page.Page.{Page}

abbrev pub memory : Page → List ℕ
memory p = p.bytes.now

abbrev pub HasRoom : Page → ℕ → Type 0
HasRoom p n = p.len + n ≤ length (memory p)

abbrev pub Fits : Page → List ℕ → Type 0
Fits p text = p.len + length text ≤ length (memory p)

pub record Appends (p : Page) (text : List ℕ) (q : Page) : Type 0 where
  pub fits : Fits p text
  pub longer : q.len ≡ p.len + length text
  pub after : memory q ≡ take p.len (memory p) ++ (text ++ drop (p.len + length text) (memory p))
  pub lent : q.bytes.ghost_name ≡ p.bytes.ghost_name
