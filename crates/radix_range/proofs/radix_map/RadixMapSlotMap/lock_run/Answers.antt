use Rattle.radix_range.specs.Tree.{tree_slots}
use Rattle.radix_range.proofs.Known.{same_info}
use Rattle.radix_range.proofs.OwnedRuns.{locks}
use Rattle.radix_range.proofs.radix_map.RadixMapSlotMap.lock_run.Goals as goal

pub returns-clause-locks : goal.returns-clause-locks
returns-clause-locks g c = locks _ _ c.args.core c.args.cursor c.args.end _ c.own_run.ensures.owners

pub invariant_of-self-clause-known : goal.invariant_of-self-clause-known
invariant_of-self-clause-known g c =
    same_info (tree_slots c.args.self.now.root) (tree_slots c.own_run.new.root) c.args.self.now.full c.args.self.now.tights.items c.args.self.now.known
    c.own_run.ensures.info
