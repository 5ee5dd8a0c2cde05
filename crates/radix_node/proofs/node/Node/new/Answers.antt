use Rattle.slot_lock.proofs.Words.{ap, arith, info_file_page}
use Rattle.radix_node.specs.State.{State}
use Rattle.radix_node.proofs.Joined.{width_most}
use Rattle.radix_node.proofs.node.Node.new.Goals as goal

pub divided-requires-clause-fits : goal.divided-requires-clause-fits
divided-requires-clause-fits g c =
    let most = width_most c.args.level c.requires in
    let none = ap (λ (s : State). info_file_page s.info) c.new.ensures in
    omega arith
