use Rattle.radix_range.specs.Tree.{tree_slots}
use Rattle.radix_range.proofs.Known.{same_info}
use Rattle.radix_range.proofs.OwnedRuns.{unlocks}
use Rattle.radix_range.proofs.radix_map.RadixMapSlotMap.unlock_run.Goals as goal

pub returns-clause-unlocks : goal.returns-clause-unlocks
returns-clause-unlocks g c = unlocks _ _ c.args.core c.args.cursor c.args.end _ c.own_run.ensures.owners

pub invariant_of-self-clause-known : goal.invariant_of-self-clause-known
invariant_of-self-clause-known g c =
    same_info (tree_slots c.args.self.now.root) (tree_slots c.own_run.new.root) c.args.self.now.full c.args.self.now.tights.items c.args.self.now.known
    c.own_run.ensures.info
