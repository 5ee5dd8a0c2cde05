use Rattle.slot_lock.proofs.Joins.{Folds-Joins}
use Rattle.slot_lock.proofs.Facts.{is_answer}
use Rattle.slot_lock.proofs.ListLaws.{list_laws}
use Rattle.slot_lock.proofs.slot_list.SlotListSlotMap.fold.Goals as goal

pub returns-clause-joined : goal.returns-clause-joined
returns-clause-joined g c = λ is. Folds-Joins _ _ c.args.self.now.laws _ c.requires.0 (c.fold.ensures.joined is)

pub returns-clause-can : goal.returns-clause-can
returns-clause-can g c = is_answer c.fold.result
    (λ is. (let h = c.fold.ensures.joined is in (h.at, h.could)))
    (λ no can. c.fold.ensures.only no can.0 can.1)

pub invariant_of-self : goal.invariant_of-self
invariant_of-self g c = record { ok = c.fold.ensures.list; laws = list_laws _ c.fold.ensures.list }
