use Rattle.radix_range.proofs.Known.{folded}
use Rattle.radix_range.proofs.radix_map.RadixMapSlotMap.fold.Goals as goal

pub invariant_of-self-clause-known : goal.invariant_of-self-clause-known
invariant_of-self-clause-known g c =
    folded c.fold.result c.args.self.now.root c.fold.new.root c.args.self.now.full c.args.self.now.tights.items c.fold.ensures.joined
    c.fold.ensures.same c.args.self.now.known
