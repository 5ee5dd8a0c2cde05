use Rattle.std.proofs.Common.{◌≡◌, [], rules}
use Rattle.std.specs.Vec.{vec_capacity}
use Rattle.frames.specs.Pages.{Stored}
use Rattle.frames.proofs.Stored.{stored-new, stored-opened}
use Rattle.frames.proofs.byte_store.ByteStore.new.Goals as goal

pub returns-clause-bytes : goal.returns-clause-bytes
returns-clause-bytes g c =
    let t : Stored = record { places = c.in_ok-places.places.items; pages = c.in_ok-pages.pages.items; capacity = vec_capacity c.in_ok-pages.pages } in
    let pages : c.in_ok-pages.pages.items ≡ [] = search rules in
    stored-new t c.args.count c.in_ok-places.ensures pages

pub invariant_of-result : goal.invariant_of-result
invariant_of-result g c =
    let t : Stored = record { places = c.in_ok-places.places.items; pages = c.in_ok-pages.pages.items; capacity = vec_capacity c.in_ok-pages.pages } in
    let pages : c.in_ok-pages.pages.items ≡ [] = search rules in
    stored-opened t c.args.count c.in_ok-places.ensures pages (search rules) (search rules)
