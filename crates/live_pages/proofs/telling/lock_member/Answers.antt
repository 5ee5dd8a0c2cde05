use Rattle.live_pages.proofs.telling.lock_member.Goals as goal

pub returns-clause-member : goal.returns-clause-member
returns-clause-member g c = λ t m. c.lock_target.ensures t
