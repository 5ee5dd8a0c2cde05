use Rattle.audit.proofs.Stored.{stored_shared}
use Rattle.audit.proofs.storing.store_to_file.Goals as goal

pub returns-clause-ok : goal.returns-clause-ok
returns-clause-ok g c = λ s k.
    stored_shared s c.args.objects.now c.file_frame.new.objects c.args.frames.now c.file_frame.new.frames c.set_byte.new.self c.args.file c.args.page
    c.in-Some.frame c.args.offset c.args.byte c.requires.page c.in-Some.ensures.some c.set_byte.ensures.bytes c.set_byte.ensures.free
    c.set_byte.ensures.count k
