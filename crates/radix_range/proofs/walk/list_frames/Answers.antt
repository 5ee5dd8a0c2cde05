use Rattle.radix_node.specs.Node.{runs}
use Rattle.radix_range.proofs.Walks.{frames_are}
use Rattle.radix_range.proofs.walk.list_frames.Goals as goal

pub returns-clause-added : goal.returns-clause-added
returns-clause-added g c = frames_are (runs c.args.root.now) c.args.from c.list_frames.result c.args.list.now.items
    c.list_frames.new.list.items c.list_frames.ensures.added
