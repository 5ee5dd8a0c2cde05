use Rattle.std.proofs.Common.{sym, ◌∙◌, refl, rules}
use Rattle.vm_base.specs.Plain.{page_bytes}
use Rattle.frames.proofs.Stored.{stored-written}
use Rattle.frames.proofs.byte_store.ByteStore.fill.Goals as goal

pub fill-requires-clause-page : goal.fill-requires-clause-page
fill-requires-clause-page g c =
    let less = c.self.invariant.below c.args.frame c.in-Some.at (sym c.place_of-place.ensures ∙ c.in-Some.is) in
    search rules

pub returns-in-Some-clause-bytes : goal.returns-in-Some-clause-bytes
returns-in-Some-clause-bytes g c =
    stored-written _ c.args.frame c.in-Some.at (page_bytes c.args.bytes.now 0) c.self.invariant c.self.view_is
    (sym c.place_of-place.ensures ∙ c.in-Some.is) refl c.fill.ensures.bytes
