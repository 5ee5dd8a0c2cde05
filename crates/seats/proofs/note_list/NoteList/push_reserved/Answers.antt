use Rattle.std.proofs.Common.{◌≡◌, ◌+◌, ◌-◌, ◌<◌, [], ◌∷◌, ◌++◌, true, false, ap, arith, length, rules, subst, sym, ◌∙◌}
use Rattle.std.specs.Prelude.{All}
use Rattle.seats.specs.Packing.{AreWithin, ListView, unpacked}
use Rattle.seats.specs.Fitting.{FitsTypes}
use Rattle.seats.proofs.Packing.{fits_more, packed_more, within_more}
use Rattle.seats.proofs.note_list.NoteList.push_reserved.Goals as goal

pub invariant_of-self : goal.invariant_of-self
invariant_of-self g c =
    let (within, short_room, full_room, limit, typed) = c.self.invariant in
    let some = subst (λ (l : ListView). 0 < l.room) (sym c.self.view_is) c.requires in
    let len = c.push_reserved.ensures.len in
    let capacity = c.push_reserved.ensures.capacity in
    let short = c.in-Some.ensures.short in (
      subst (AreWithin (length c.self.inside.in_full.items)) (sym c.push_reserved.ensures.items)
          (within_more _ _ c.self.inside.packed.items c.in-Some.packed (omega arith) within (λ full. let clash : true ≡ false = sym full ∙ short in absurd (cc))),
      omega (arith, some, len, capacity, short_room),
      omega (arith, some, full_room),
      omega (arith, some, len, limit),
      subst (λ ps. All FitsTypes (unpacked c.self.inside.in_full.items ps)) (sym c.push_reserved.ensures.items)
          (subst (All FitsTypes) (sym (packed_more c.self.inside.in_full.items c.self.inside.packed.items c.in-Some.packed c.args.note
          (c.in-Some.ensures.says c.self.inside.in_full.items))) (fits_more _ c.args.note typed c.note_fits.ensures)),
    )
