use Rattle.std.proofs.Common.{◌≡◌, ◌∙◌, List, ap, map, subst, sym}
use Rattle.certifier.specs.Order.{AreNumbered, all_notes}
use Rattle.seats.specs.declared.noted.Noted.{Noted}
use Rattle.seats.specs.Packing.{shown}
use Rattle.live_script.proofs.CertifyLemmas.{judged_run, judges_by, no_ticket}
use Rattle.live_script.proofs.NumberedLemmas.{numbered}
use Rattle.live_script.proofs.TextLemmas.{lent_sums}
use Rattle.live_script.proofs.texts.judge_run.Goals as goal

pub verdict_of-requires : goal.verdict_of-requires
verdict_of-requires g c =
    let same = ap (map shown) c.as_slice-2.ensures.value ∙ c.in-Ok-notes.ensures in
    no_ticket _ _ c.certify_ran-done.ensures.numbered (subst (λ l. AreNumbered (all_notes l)) (sym same) (numbered _ c.in-Ok-end.ensures.whole))

pub returns-in-Some-clause-judged : goal.returns-in-Some-clause-judged
returns-in-Some-clause-judged g c =
    judged_run _ _ _ _ c.in-Ok-run.ran.live c.in-Ok-run.ran.seats c.in-Ok-end.ended.histories _ _ _ c.in-Ok-run.ensures.ran c.in-Ok-end.ensures.word
    c.in-Ok-end.ensures.are c.in-Ok-end.ensures.whole (ap (map shown) c.as_slice-2.ensures.value ∙ c.in-Ok-notes.ensures)
    (lent_sums _ _ _ (c.as_slice.ensures.value ∙ sym c.as_slice-2.ensures.value) c.sums_of-sums.ensures)
    (judges_by _ _ _ _ _ _ _ _ c.in-Some.ensures c.certify_ran-done.ensures.ok c.certify_ran-done.ensures.err)
