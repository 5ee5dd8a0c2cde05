use Rattle.std.proofs.Common.{None, get_or, sym, ◌∙◌, ap, refl, rules}
use Rattle.vm_base.specs.Functions.{put}
use Rattle.frames.specs.Pages.{Stored, stored_bytes, all_pages}
use Rattle.frames.proofs.Stored.{stored-held, stored-written}
use Rattle.frames.proofs.byte_store.ByteStore.copy_page.Goals as goal

pub copy-requires-clause-to : goal.copy-requires-clause-to
copy-requires-clause-to g c =
    let less = c.self.invariant.below c.args.to c.in-Some.place (sym c.place_of-place.ensures ∙ c.in-Some.is) in
    search rules

pub returns-in-Some-clause-bytes : goal.returns-in-Some-clause-bytes
returns-in-Some-clause-bytes g c =
    let from = ap (λ (v : Stored). get_or v.places c.args.from None) c.self.view_is ∙ c.requires.page in
    stored-written _ c.args.to c.in-Some.place (all_pages c.self.inside.pages.items c.args.at) c.self.invariant c.self.view_is
    (sym c.place_of-place.ensures ∙ c.in-Some.is) refl c.copy.ensures.bytes
    ∙ ap (put (stored_bytes c.args.self.now) c.args.to) (sym (stored-held c.args.from c.args.at c.self.view_is from))

pub returns-in-None-clause-bytes : goal.returns-in-None-clause-bytes
returns-in-None-clause-bytes g c =
    let from = ap (λ (v : Stored). get_or v.places c.args.from None) c.self.view_is ∙ c.requires.page in
    c.add.ensures.bytes
    ∙ ap (put (stored_bytes c.args.self.now) c.args.to)
    (c.page_at-page.ensures ∙ sym (stored-held c.args.from c.args.at c.self.view_is from))
