use Rattle.std.proofs.Common.{◌≡◌, [], ◌∷◌, ◌++◌, length, rules, ◌∙◌}
use Rattle.std.specs.Prelude.{vec_len}
use Rattle.machine_log.specs.Packing.{unpacked}
use Rattle.machine_log.proofs.ledger.Unpacking.{placed_more}
use Rattle.machine_log.proofs.ledger.packed_entries.PackedEntries.push_in_full.Goals as goal

pub returns-clause-items : goal.returns-clause-items
returns-clause-items g c =
    let old = c.args.self.now in
    let size : vec_len old.in_full ≡ length old.in_full.items = search rules in
    let both : unpacked c.push_reserved-2.new.self.items c.push_reserved.new.self.items
    ≡ unpacked (old.in_full.items ++ c.args.entry ∷ []) (old.packed.items ++ c.placed.result ∷ [])
    = λ i. unpacked (c.push_reserved-2.ensures.items i) (c.push_reserved.ensures.items i) in
    both ∙ placed_more old.in_full.items old.packed.items c.placed.result c.args.entry old.placed c.placed.ensures.kind
    (c.placed.ensures.place ∙ c.len.ensures ∙ size)
