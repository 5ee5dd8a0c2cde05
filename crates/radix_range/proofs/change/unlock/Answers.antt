use Rattle.std.proofs.Common.{◌+◌, None, sym, ap, ◌∙◌, arith}
use Rattle.radix_range.proofs.Locking.{found_here, owned_radix, owned_slots}
use Rattle.radix_range.proofs.change.unlock.Goals as goal

pub returns-clause-tree : goal.returns-clause-tree
returns-clause-tree g c =
    let h = found_here c.args.root.now c.requires.tree c.args.page _ c.requires.page.1 c.requires.begins
    (ap (λ n. c.args.page + n) (sym (c.slot_pages.ensures ∙ c.unlock_at-level.ensures.width))) in
    owned_radix c.args.root.now c.unlock_at-level.new.self c.requires.tree c.args.page _ None c.requires.page.0 c.requires.page.1 h
    c.unlock_at-level.ensures.set c.unlock_at-level.ensures.level c.unlock_at-level.ensures.whole

pub returns-clause-slot : goal.returns-clause-slot
returns-clause-slot g c =
    (found_here c.args.root.now c.requires.tree c.args.page _ c.requires.page.1 c.requires.begins
    (ap (λ n. c.args.page + n) (sym (c.slot_pages.ensures ∙ c.unlock_at-level.ensures.width)))).slot

pub returns-clause-slots : goal.returns-clause-slots
returns-clause-slots g c =
    let h = found_here c.args.root.now c.requires.tree c.args.page _ c.requires.page.1 c.requires.begins
    (ap (λ n. c.args.page + n) (sym (c.slot_pages.ensures ∙ c.unlock_at-level.ensures.width))) in
    owned_slots c.args.root.now c.unlock_at-level.new.self c.requires.tree c.args.page _ None c.requires.page.1 h c.unlock_at-level.ensures.set

pub returns-clause-one_owner : goal.returns-clause-one_owner
returns-clause-one_owner g c = λ p a b.
    let h = found_here c.args.root.now c.requires.tree c.args.page _ c.requires.page.1 c.requires.begins
    (ap (λ n. c.args.page + n) (sym (c.slot_pages.ensures ∙ c.unlock_at-level.ensures.width))) in
    let o = h.slot.ordered in
    h.owner p a b ∙ sym (h.owner c.args.page (omega arith) (omega arith))
