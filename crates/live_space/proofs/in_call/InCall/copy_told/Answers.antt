use Rattle.std.proofs.Common.{Some, refl, arith, ap, ◌∙◌, subst}
use Rattle.seats.specs.Notes.{SeatView}
use Rattle.live_space.specs.Faulting.{GetsCopy, GivesUpOr}
use Rattle.live_space.specs.Spending.{UsesCopy}
use Rattle.live_space.proofs.Faulted.{got_copy}
use Rattle.live_space.proofs.Spent.{used_copy, was_used}
use Rattle.live_space.proofs.Telling.{all_acked}
use Rattle.live_pages.specs.declared.telling.Posted.{Posted}
use Rattle.seats.proofs.Growing.{grew_trans}
use Rattle.live_space.proofs.Noted.{goes_before, left_after, one_if}
use Rattle.live_space.proofs.in_call.InCall.copy_told.Goals as goal

pub invariant_of-self : goal.invariant_of-self
invariant_of-self g c = record { room = omega (arith, c.requires.room, c.take_all.ensures.room) }

pub invariant_of-self-2 : goal.invariant_of-self-2
invariant_of-self-2 g c =
    let room = c.requires.room in
    let taken = c.take_all.ensures.room in
    record { room = left_after 0 _ _ _ _ (omega (arith, room, taken)) (one_if _ _ _ _ _ _ c.copy_page.ensures.done c.copy_page.ensures.not) }

pub copy_page-requires : goal.copy_page-requires
copy_page-requires g c =
    let acked = all_acked _ _ c.args.touch.page _ c.args.targets _ c.in-Some.acked c.take_all.ensures.grew.same.core
    c.requires.others (ap (λ (p : Posted). p.range) c.requires.posted) c.in-Some.ensures.acked in
    (omega arith, (omega (arith, c.requires.room, c.take_all.ensures.room), acked))

pub returns-then-copy_page-clause-goes : goal.returns-then-copy_page-clause-goes
returns-then-copy_page-clause-goes g c = goes_before _ _ _ c.install.ensures.goes refl
    (grew_trans _ _ _ c.take_all.ensures.grew (one_if _ _ _ _ _ _ c.copy_page.ensures.done c.copy_page.ensures.not).grew)

pub returns-else-copy_page-clause-goes : goal.returns-else-copy_page-clause-goes
returns-else-copy_page-clause-goes g c = record {
  same_reference = refl;
  grew = grew_trans _ _ _ c.take_all.ensures.grew (one_if _ _ _ _ _ _ c.copy_page.ensures.done c.copy_page.ensures.not).grew;
}

pub returns-then-copy_page-clause-page : goal.returns-then-copy_page-clause-page
returns-then-copy_page-clause-page g c =
    let w = c.copy_page.ensures.done c.if-copy_page.true in
    let same = ap (λ (s : SeatView). s.core) w.step ∙ c.take_all.ensures.grew.same.core in
    subst (λ n. GivesUpOr (GetsCopy n c.args.self.now.held) c.install.result c.install.new.self.held) same
    (got_copy c.args.frames.own _ _ _ _ _ _ c.install.result w c.install.ensures.page)

pub returns-then-copy_page-clause-own : goal.returns-then-copy_page-clause-own
returns-then-copy_page-clause-own g c = was_used (Some c.args.frames.own) (UsesCopy c.args.frames.own c.args.self.now.held) c.install.result
    (used_copy _ _ _ _ _ (c.copy_page.ensures.done c.if-copy_page.true)) c.install.ensures.none
