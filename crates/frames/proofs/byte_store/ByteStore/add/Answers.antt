use Rattle.std.proofs.Common.{◌≡◌, ◌<◌, ◌+◌, ◌∙◌, None, Some, get_or, set, length, rules, sym, subst, ap}
use Rattle.std.specs.Vec.{vec_capacity}
use Rattle.vm_base.specs.Functions.{put}
use Rattle.vm_base.specs.Plain.{page_bytes}
use Rattle.frames.specs.Pages.{Stored, stored_bytes, all_pages}
use Rattle.frames.proofs.Stored.{stored-add, stored-added, stored-room}
use Rattle.frames.proofs.byte_store.ByteStore.add.Goals as goal

pub push-requires : goal.push-requires
push-requires g c =
    let s : Stored = record { places = c.self.inside.places.items; pages = c.self.inside.pages.items; capacity = vec_capacity c.self.inside.pages } in
    let lt : c.args.frame < length c.self.inside.places.items = subst (λ (v : Stored). c.args.frame < length v.places) (sym c.self.view_is) c.requires.frame in
    let none : get_or c.self.inside.places.items c.args.frame None ≡ None = ap (λ (v : Stored). get_or v.places c.args.frame None)
    c.self.view_is ∙ c.requires.new in
    let room : length c.self.inside.pages.items < vec_capacity c.self.inside.pages = (stored-room s c.args.frame c.self.invariant lt none).0 in
    search rules

pub invariant_of-self : goal.invariant_of-self
invariant_of-self g c =
    let s : Stored = record { places = c.self.inside.places.items; pages = c.self.inside.pages.items; capacity = vec_capacity c.self.inside.pages } in
    let lt : c.args.frame < length c.self.inside.places.items = subst (λ (v : Stored). c.args.frame < length v.places) (sym c.self.view_is) c.requires.frame in
    let none : get_or c.self.inside.places.items c.args.frame None ≡ None = ap (λ (v : Stored). get_or v.places c.args.frame None)
    c.self.view_is ∙ c.requires.new in
    let t : Stored = record {
      places = set c.self.inside.places.items c.args.frame (Some c.len.result);
      pages = c.push.new.pages.items;
      capacity = vec_capacity c.push.new.pages;
    } in
    let len : c.len.result ≡ length c.self.inside.pages.items = search rules in
    let placed : t.places ≡ set s.places c.args.frame (Some (length s.pages)) = ap (λ n. set c.self.inside.places.items c.args.frame (Some n)) len in
    let more : length c.push.new.pages.items ≡ length c.self.inside.pages.items + 1 = search rules in
    stored-added s t c.args.frame c.self.invariant lt none placed more c.push.ensures.capacity

pub returns-clause-bytes : goal.returns-clause-bytes
returns-clause-bytes g c =
    let s : Stored = record { places = c.self.inside.places.items; pages = c.self.inside.pages.items; capacity = vec_capacity c.self.inside.pages } in
    let lt : c.args.frame < length c.self.inside.places.items = subst (λ (v : Stored). c.args.frame < length v.places) (sym c.self.view_is) c.requires.frame in
    let none : get_or c.self.inside.places.items c.args.frame None ≡ None = ap (λ (v : Stored). get_or v.places c.args.frame None)
    c.self.view_is ∙ c.requires.new in
    let t : Stored = record {
      places = set c.self.inside.places.items c.args.frame (Some c.len.result);
      pages = c.push.new.pages.items;
      capacity = vec_capacity c.push.new.pages;
    } in
    let len : c.len.result ≡ length c.self.inside.pages.items = search rules in
    let placed : t.places ≡ set s.places c.args.frame (Some (length s.pages)) = ap (λ n. set c.self.inside.places.items c.args.frame (Some n)) len in
    let pages = c.push.ensures.bytes ∙ ap (λ n. put (all_pages s.pages) n (page_bytes c.args.page 0)) (sym c.len.ensures ∙ len) in
    stored-add s t c.args.frame (page_bytes c.args.page 0) c.self.invariant lt none placed pages
    ∙ ap (λ v. put (stored_bytes v) c.args.frame (page_bytes c.args.page 0)) c.self.view_is
