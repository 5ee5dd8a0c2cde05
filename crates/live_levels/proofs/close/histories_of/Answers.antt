use Rattle.std.proofs.Common.{◌≡◌, ◌<◌, ◌∙◌, ◌++◌, ◌∷◌, [], ap, length, map, rules, arith, refl}
use Rattle.std.proofs.lemmas.List.{take_all}
use Rattle.live_levels.specs.Histories.{history_of, past_of}
use Rattle.live_levels.proofs.Chains.{one_more}
use Rattle.live_levels.proofs.close.histories_of.Goals as goal

pub slots-init : goal.slots-init
slots-init g c = rw c.new-histories.ensures.items refl

pub slots-preserved : goal.slots-preserved
slots-preserved g c =
    let items : c.push.new.self.items ≡ c.slots.histories.items ++ c.in-Ok-copy_history.history ∷ [] = search rules in
    rw items (one_more c.args.slots.now c.slots.slot-index c.slot.result.now c.slot-item.result c.slots.histories.items c.in-Ok-copy_history.history c.slots-test.true
    (search rules) c.slots.invariant c.in-Ok-copy_history.ensures)

pub returns : goal.returns
returns g c = c.slots.invariant ∙ ap (map history_of) (take_all c.slots.slot-index c.args.slots.now c.slots-test.false)
