use Rattle.std.proofs.Common.{rules}
use Rattle.printout.specs.Printing.{IsFileText}
use Rattle.printout.proofs.Ones.{one_file_text}
use Rattle.printout.proofs.Prints.{has_room, printed, of_file, longer}
use Rattle.printout.proofs.print_file.Goals as goal

pub text_lines-requires : goal.text_lines-requires
text_lines-requires c = has_room c.args.text.now c.new-page.result c.new-page.ensures.none c.new-page.ensures.over (search rules)

pub returns-clause-prints : goal.returns-clause-prints
returns-clause-prints c = (
  search rules,
  printed c.args.text.now c.new-page.result c.new-page.ensures.none c.new-page.ensures.over (IsFileText c.args.bytes.now) (one_file_text c.args.bytes.now) c.text_lines.new.page (of_file _ _ c.place_file.ensures.places c.text_lines.ensures) _ _ c.len.ensures (search rules),
)

pub returns-clause-longer : goal.returns-clause-longer
returns-clause-longer c more long =
    let prints = returns-clause-prints c in
    (prints.0, longer _ _ _ _ prints.1 more long)
