use Rattle.std.proofs.Common.{rules}
use Rattle.live_script.proofs.SumLemmas.{counted}
use Rattle.live_script.proofs.sums.Sums.count.Goals as goal

pub returns : goal.returns
returns c before is = counted before c.args.note.now c.args.self.now _ is (search rules)
