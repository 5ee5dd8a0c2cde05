use Rattle.std.proofs.Common.{rules}
use Rattle.slot_lock.specs.declared.plan.Change.TheVariants.{Protect}
use Rattle.live_tree.specs.Shown.{shown}
use Rattle.live_tree.proofs.Decided.{acts_shown, decides_shown, keeps_frames}
use Rattle.live_tree.proofs.decide_held.decide_protect.Goals as goal

pub returns-in-Refuse : goal.returns-in-Refuse
returns-in-Refuse g c = decides_shown _ _ c.args.held.now _ (Protect c.args.range c.args.prot) _ c.in_ok-lent.ensures c.requires.covers
    c.in-Refuse.ensures.decision

pub returns-in-Act : goal.returns-in-Act
returns-in-Act g c = (
  acts_shown _ _ c.args.held.now _ (Protect c.args.range c.args.prot) _ _ c.in_ok-lent.ensures c.requires.covers c.in-Act.ensures.decision
      c.in-Act.ensures.sound.1,
  keeps_frames (shown c.args.held.now.slots) c.args.range c.args.prot _ (search rules),
)
