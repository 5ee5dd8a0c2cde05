use Rattle.std.proofs.Common.{sym, ◌∙◌, ap, refl, rules}
use Rattle.vm_base.specs.Functions.{put}
use Rattle.frames.specs.Pages.{stored_bytes, all_pages}
use Rattle.frames.proofs.Stored.{stored-held, stored-written, stored-zero-byte}
use Rattle.frames.proofs.byte_store.ByteStore.set_byte.Goals as goal

pub set_byte-requires-clause-page : goal.set_byte-requires-clause-page
set_byte-requires-clause-page g c =
    let less = c.self.invariant.below c.args.frame c.in-Some.at (sym c.place_of-place.ensures ∙ c.in-Some.is) in
    search rules

pub returns-in-Some-clause-bytes : goal.returns-in-Some-clause-bytes
returns-in-Some-clause-bytes g c =
    let at = sym c.place_of-place.ensures ∙ c.in-Some.is in
    stored-written _ c.args.frame c.in-Some.at (put (all_pages c.self.inside.pages.items c.in-Some.at) c.args.offset c.args.byte)
    c.self.invariant c.self.view_is at refl c.set_byte.ensures.bytes
    ∙ ap (λ b. put (stored_bytes c.args.self.now) c.args.frame (put b c.args.offset c.args.byte))
    (sym (stored-held c.args.frame c.in-Some.at c.self.view_is at))

pub returns-else-byte-ne0-clause-bytes : goal.returns-else-byte-ne0-clause-bytes
returns-else-byte-ne0-clause-bytes g c =
    stored-zero-byte c.args.frame c.args.offset c.args.byte c.self.view_is (sym c.place_of-place.ensures ∙ c.in-None.is) (search rules)
