use Rattle.core_steps.specs.Parts.{parts}
use Rattle.core_steps.specs.State.{world}
use Rattle.core_steps.proofs.at_once.FaultAtOnce.{reached_by, touched}
use Rattle.core_steps.proofs.engine.Engine.try_touch.Goals as goal

pub touch_byte-reply-requires-clause-frame : goal.touch_byte-reply-requires-clause-frame
touch_byte-reply-requires-clause-frame g c =
    c.requires.frame c.in-Hit.frame (reached_by _ c.translate.result c.in-Hit.frame c.translate.ensures.value c.in-Hit.is)

pub returns-in-Hit-clause-tried : goal.returns-in-Hit-clause-tried
returns-in-Hit-clause-tried g c =
    touched (world g.M.SlotRead.slots c.args.self.now) _ _ c.args.core c.args.touch c.in-Hit.frame c.touch_byte-reply.result
    (parts c.translate.new.self).hardware (reached_by _ c.translate.result c.in-Hit.frame c.translate.ensures.value c.in-Hit.is)
    c.translate.ensures.after c.touch_byte-reply.ensures.memory c.touch_byte-reply.ensures.reply c.log_reply.ensures.log
