use Rattle.std.proofs.Common.{◌≡◌, ◌+◌, ◌-◌, ◌<◌, [], ◌∷◌, ◌++◌, ap, arith, length, rules, subst, sym, ◌∙◌}
use Rattle.std.proofs.lemmas.List.{length_push}
use Rattle.std.specs.Prelude.{All, vec_len}
use Rattle.seats.specs.Packing.{AreWithin, ListView, unpacked}
use Rattle.seats.specs.Fitting.{FitsTypes}
use Rattle.seats.proofs.Packing.{fits_more, listed, placed_more, within_more}
use Rattle.seats.proofs.note_list.NoteList.push_in_full.Goals as goal

pub invariant_of-self : goal.invariant_of-self
invariant_of-self g c =
    let (within, short_room, full_room, limit, typed) = c.self.invariant in
    let some = subst (λ (l : ListView). 0 < l.room) (sym c.self.view_is) c.requires in
    let len = c.push_reserved.ensures.len in
    let capacity = c.push_reserved.ensures.capacity in
    let full_len = c.push_reserved-2.ensures.len in
    let full_capacity = c.push_reserved-2.ensures.capacity in
    let size : vec_len c.self.inside.in_full ≡ length c.self.inside.in_full.items = search rules in
    let more = ap length c.push_reserved-2.ensures.items ∙ length_push c.self.inside.in_full.items c.args.note in
    let place = c.placed.ensures.word ∙ c.len.ensures in (
      subst (AreWithin (length c.push_reserved-2.new.self.items)) (sym c.push_reserved.ensures.items)
          (within_more _ _ c.self.inside.packed.items c.placed.result (omega (arith, more)) within (λ full. omega (arith, more, place, size))),
      omega (arith, some, len, capacity, short_room),
      omega (arith, some, full_len, full_capacity, full_room),
      omega (arith, some, len, limit),
      (let both : unpacked c.push_reserved-2.new.self.items c.push_reserved.new.self.items
          ≡ unpacked (c.self.inside.in_full.items ++ c.args.note ∷ []) (c.self.inside.packed.items ++ c.placed.result ∷ [])
          = λ i. unpacked (c.push_reserved-2.ensures.items i) (c.push_reserved.ensures.items i) in
          subst (All FitsTypes) (sym (both ∙ placed_more c.self.inside.in_full.items c.self.inside.packed.items c.placed.result c.args.note within
          c.placed.ensures.kind (place ∙ size))) (fits_more _ c.args.note typed c.note_fits.ensures)),
    )

pub returns : goal.returns
returns g c =
    let old = c.self.inside in
    let ps = c.push_reserved.ensures.items in
    let full = c.push_reserved-2.ensures.items in
    let size : vec_len old.in_full ≡ length old.in_full.items = search rules in
    let both : unpacked c.push_reserved-2.new.self.items c.push_reserved.new.self.items
    ≡ unpacked (old.in_full.items ++ c.args.note ∷ []) (old.packed.items ++ c.placed.result ∷ []) = λ i. unpacked (full i) (ps i) in
    let notes = both ∙ placed_more old.in_full.items old.packed.items c.placed.result c.args.note c.self.invariant.0 c.placed.ensures.kind
    (c.placed.ensures.word ∙ (c.len.ensures ∙ size)) in
    subst (λ (l : ListView). listed (unpacked c.push_reserved-2.new.self.items c.push_reserved.new.self.items) (old.room - 1)
    ≡ listed (l.notes ++ c.args.note ∷ []) (l.room - 1)) c.self.view_is (ap (λ ns. listed ns (old.room - 1)) notes)
