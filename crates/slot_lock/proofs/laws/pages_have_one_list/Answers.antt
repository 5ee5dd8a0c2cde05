use Rattle.std.proofs.Common.{◌^◌}
use Rattle.slot_lock.proofs.OneMapList.{one_list}
use Rattle.slot_lock.proofs.laws.pages_have_one_list.Goals as goal

pub returns : goal.returns
returns c = λ meta xs ys h k. one_list meta 1 (2 ^ 35) xs ys h k
