use Rattle.std.proofs.Common.{◌++◌, drop, ap, arith}
use Rattle.setfile.proofs.Files.{written_back}
use Rattle.setfile.proofs.write.Goals as goal

pub returns-clause-written : goal.returns-clause-written
returns-clause-written c =
    let bytes = ap (λ front. front ++ drop c.file_size-size.result c.args.buffer.now) c.put_file.ensures in
    record {
      set = c.in_ok-set.set;
      made = c.in_ok-set.ensures.1;
      bytes = bytes;
      back = written_back c.in_ok-set.set _ c.args.buffer.now _ (omega (arith, c.in_ok-set.ensures.1.models)) bytes;
    }
