use Rattle.std.proofs.Common.{sym, ◌∙◌, ap, refl}
use Rattle.vm_base.specs.Functions.{put}
use Rattle.frames.specs.Pages.{stored_bytes}
use Rattle.frames.proofs.Stored.{stored-empty}
use Rattle.frames.proofs.byte_store.ByteStore.set_first_byte.Goals as goal

pub returns-clause-bytes : goal.returns-clause-bytes
returns-clause-bytes g c =
    let was = stored-empty c.args.frame refl c.requires.new in
    c.add.ensures.bytes
    ∙ ap (put (stored_bytes c.args.self.now) c.args.frame) (c.page_with.ensures ∙ ap (λ b. put b c.args.offset c.args.byte) (sym was))
