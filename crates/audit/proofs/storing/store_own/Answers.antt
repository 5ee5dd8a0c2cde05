use Rattle.std.proofs.Common.{Some}
use Rattle.audit.proofs.Stored.{gets_within, stored_own}
use Rattle.audit.proofs.storing.store_own.Goals as goal

pub own_frame-requires-clause-cached : goal.own_frame-requires-clause-cached
own_frame-requires-clause-cached g c = λ n k f e. (c.requires.kept.taken (Some n) k f e).0

pub set_byte-requires-clause-frame : goal.set_byte-requires-clause-frame
set_byte-requires-clause-frame g c =
    gets_within (g.M.SlotRead.slots c.args.map.now) (g.M.SlotRead.slots c.own_frame.new.map) c.args.objects.now c.args.frames.now c.own_frame.new.frames
    c.args.touch.page c.args.info c.in_ok-frame.frame c.requires.info c.requires.own c.requires.bytes c.requires.kept c.in_ok-frame.ensures.ok

pub returns-clause-ok : goal.returns-clause-ok
returns-clause-ok g c =
    stored_own (g.M.SlotRead.slots c.args.map.now) (g.M.SlotRead.slots c.own_frame.new.map) c.args.objects.now c.args.frames.now c.own_frame.new.frames
    c.set_byte.new.self c.args.info c.args.touch c.in_ok-frame.frame c.requires.info c.requires.own c.requires.bytes c.requires.kept
    c.in_ok-frame.ensures.ok c.set_byte.ensures.bytes c.set_byte.ensures.free c.set_byte.ensures.count
