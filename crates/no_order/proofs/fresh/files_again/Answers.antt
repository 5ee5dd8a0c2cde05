use Rattle.std.proofs.Common.{arith}
use Rattle.no_order.proofs.FileLemmas.{all_more, one_longer, one_more}
use Rattle.no_order.proofs.fresh.files_again.Goals as goal

pub files-preserved : goal.files-preserved
files-preserved g c = record {
  count = one_longer c.push.new.self.items c.files.again.items c.in_ok-file.file c.files.at c.in_ok-push.ensures.items c.files.invariant.count;
  same = one_more c.files.again.items c.args.files.now c.push.new.self.items c.files.at c.in_ok-file.file c.index-files-at.result
      c.in_ok-push.ensures.items c.files-test.true c.index-files-at.is c.in_ok-file.ensures.mode c.in_ok-file.ensures.bytes
      c.files.invariant.same;
}

pub returns : goal.returns
returns g c = record {
  count = (let end = c.files-test.false in let most = c.files.auto.at-end in let count = c.files.invariant.count in omega (arith, end, most, count));
  same = all_more c.files.again.items c.args.files.now c.files.at c.files-test.false c.files.invariant.same;
}
