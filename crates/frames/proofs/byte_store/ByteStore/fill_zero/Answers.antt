use Rattle.std.proofs.Common.{sym, ◌∙◌, ap, refl, rules}
use Rattle.vm_base.specs.Functions.{put}
use Rattle.vm_base.specs.Plain.{zeros}
use Rattle.frames.specs.Pages.{all_pages}
use Rattle.frames.proofs.PageLists.{page-none}
use Rattle.frames.proofs.Stored.{stored-written, stored-still}
use Rattle.frames.proofs.byte_store.ByteStore.fill_zero.Goals as goal

pub fill-requires-clause-page : goal.fill-requires-clause-page
fill-requires-clause-page g c =
    let less = c.self.invariant.below c.args.frame c.in-Some.at (sym c.place_of-place.ensures ∙ c.in-Some.is) in
    search rules

pub returns-in-Some-clause-bytes : goal.returns-in-Some-clause-bytes
returns-in-Some-clause-bytes g c =
    stored-written _ c.args.frame c.in-Some.at zeros c.self.invariant c.self.view_is
    (sym c.place_of-place.ensures ∙ c.in-Some.is) refl
    (c.fill.ensures.bytes ∙ ap (put (all_pages c.self.inside.pages.items) c.in-Some.at) page-none)

pub returns-in-None-clause-bytes : goal.returns-in-None-clause-bytes
returns-in-None-clause-bytes g c =
    rw (← c.self.view_is) (stored-still c.args.frame refl (sym c.place_of-place.ensures ∙ c.in-None.is))
