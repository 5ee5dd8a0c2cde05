use Rattle.std.proofs.Common.{sym, ◌∙◌, ap}
use Rattle.vm_base.specs.Functions.{put}
use Rattle.frames.specs.Pages.{stored_bytes}
use Rattle.frames.proofs.Stored.{stored-empty}
use Rattle.frames.proofs.byte_store.ByteStore.copy.Goals as goal

pub returns-in-None-clause-bytes : goal.returns-in-None-clause-bytes
returns-in-None-clause-bytes g c =
    let was = stored-empty c.args.from c.self.view_is (sym c.place_of-place.ensures ∙ c.in-None.is) in
    c.fill_zero.ensures.bytes ∙ ap (put (stored_bytes c.args.self.now) c.args.to) (sym was)
