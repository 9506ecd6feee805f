use Rattle.std.proofs.Common.{Some, sym, ap, ◌+◌, ◌*◌, ◌∙◌, arith}
use Rattle.std.proofs.lemmas.Result.{err_from_is_err_and}
use Rattle.refusal.specs.Refusals.{told}
use Rattle.setfile.proofs.Files.{reads_back, one_file}
use Rattle.setfile.proofs.Headers.{heads_read, bad_sizes, bad_short, bad_long}
use Rattle.setfile.proofs.Longer.{refused_longer, reads_longer}
use Rattle.setfile.proofs.Makings.{reads_figures}
use Rattle.setfile.proofs.Rows.{words_read}
use Rattle.setfile.proofs.read.Goals as goal

pub returns-in_err-sizes : goal.returns-in_err-sizes
returns-in_err-sizes c =
    let p = err_from_is_err_and c.from_residual.result c.from_residual.ensures.1 in
    let h = bad_sizes c.args.bytes.now c.if-bytes-lt-HEADER.false c.words.result c.words.ensures _ c.in_err-sizes.ensures in
    rw (p.1, p.2) record { reads = h; back = reads_back c.args.bytes.now _ h; one = one_file c.args.bytes.now _ h; longer = refused_longer c.args.bytes.now _ h }

pub returns-then-bytes-size : goal.returns-then-bytes-size
returns-then-bytes-size c =
    let heads = heads_read c.args.bytes.now c.if-bytes-lt-HEADER.false c.words.result c.words.ensures c.in_ok-sizes.sizes c.in_ok-sizes.ensures.1 in
    let h = bad_short c.args.bytes.now c.in_ok-sizes.sizes heads (omega arith) ∙ ap (λ e. Some (told e)) (sym c.at-then-bytes-size.ensures) in
    record { reads = h; back = reads_back c.args.bytes.now _ h; one = one_file c.args.bytes.now _ h; longer = refused_longer c.args.bytes.now _ h }

pub returns-then-bytes-size-2 : goal.returns-then-bytes-size-2
returns-then-bytes-size-2 c =
    let heads = heads_read c.args.bytes.now c.if-bytes-lt-HEADER.false c.words.result c.words.ensures c.in_ok-sizes.sizes c.in_ok-sizes.ensures.1 in
    let h = bad_long c.args.bytes.now c.in_ok-sizes.sizes heads c.file_size-size.result c.file_size-size.ensures (omega arith) ∙ ap (λ e. Some (told e)) (sym c.at-then-bytes-size-2.ensures) in
    record { reads = h; back = reads_back c.args.bytes.now _ h; one = one_file c.args.bytes.now _ h; longer = refused_longer c.args.bytes.now _ h }

pub returns : goal.returns
returns c =
    let heads = heads_read c.args.bytes.now c.if-bytes-lt-HEADER.false c.words.result c.words.ensures c.in_ok-sizes.sizes c.in_ok-sizes.ensures.1 in
    let n = c.in_ok-sizes.sizes.models in
    let costs = words_read c.args.bytes.now 16 n 64 _ c.words-costs.result c.words-costs.ensures (omega arith) (omega arith) (omega arith) (omega arith) in
    let periods = words_read c.args.bytes.now (16 + 4 * n) n 64 _ c.words-periods.result c.words-periods.ensures (omega arith) (omega arith) (omega arith) (omega arith) in
    let h = reads_figures c.args.bytes.now (λ i. omega (arith, c.type_inv.bytes i)) c.in_ok-sizes.sizes heads (omega arith) _ _ costs periods c.check.result c.check.ensures in
    record { reads = h; back = reads_back c.args.bytes.now _ h; one = one_file c.args.bytes.now _ h; longer = reads_longer c.args.bytes.now c.check.result h }
