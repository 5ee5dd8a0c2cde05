use Rattle.std.proofs.Common.{◌≡◌, ℕ, ◌+◌, ◌<◌, ◌≤◌, true, false, List, length, inl, inr, sym, subst, ◌∙◌, arith, refl}
use Rattle.live_levels.specs.declared.act.SlotChange.{SlotChange}
use Rattle.certifier.specs.Histories.{AreDated, ticket_at}
use Rattle.certifier.specs.Looks.{AreApplied}
use Rattle.certifier.proofs.Looked.{two}
use Rattle.certifier.proofs.Histories.{astray, settled, with_due}
use Rattle.certifier.proofs.looks.look_once.Goals as goal

pub returns-then-strays-clause-looked : goal.returns-then-strays-clause-looked
returns-then-strays-clause-looked g c = λ n maps le h good.
    let look = c.args.look.now in
    let new = c.apply_due.new.look in
    let due = subst (λ (cs : List SlotChange). (n : ℕ) → AreDated n cs → AreApplied look.seen cs look → AreApplied (look.seen + 1) cs new)
    c.as_slice.ensures.value c.apply_due.ensures.applied in
    let seen = with_due n maps _ c.args.t c.args.slot.now look new h (due n h.dated h.applied) c.apply_due.ensures.same.0 in
    let found = c.strays.ensures.yes c.if-strays.true in
    record {
      bad = λ e. inr (astray n maps _ c.args.t c.args.slot.now look.seen found.1.0 new seen c.apply_due.ensures.same.0 c.requires.open found.0 found.1.1
          found.1.2);
      good = λ e. absurd cc;
    }

pub returns-else-strays-clause-looked : goal.returns-else-strays-clause-looked
returns-else-strays-clause-looked g c = λ n maps le h good.
    let look = c.args.look.now in
    let new = c.apply_due.new.look in
    let same = c.apply_due.ensures.same.0 in
    let due = subst (λ (cs : List SlotChange). (n : ℕ) → AreDated n cs → AreApplied look.seen cs look → AreApplied (look.seen + 1) cs new)
    c.as_slice.ensures.value c.apply_due.ensures.applied in
    let applied = due n h.dated h.applied in
    let seen = with_due n maps _ c.args.t c.args.slot.now look new h applied same in
    let next = subst (λ (cs : List SlotChange). (n : ℕ) → AreDated n cs → AreApplied (new.seen + 1) cs new
    → (k : ℕ) → new.applied ≤ k → k < length cs → c.next_seen-look.result ≤ ticket_at cs k) c.as_slice-else-strays.ensures.value
    c.next_seen-look.ensures.next in
    let more = c.next_seen-look.ensures.more in
    let still = good in
    record {
      bad = λ e. absurd (two _ e (c.apply_due.ensures.same.1 ∙ still));
      good = λ e. settled n maps _ c.args.t c.args.slot.now look.seen new _ seen same refl refl (omega (arith, more, same)) c.next_seen-look.ensures.most
          (next n h.dated (subst (λ b. AreApplied (b + 1) c.args.slot.now.changes.items new) (sym same) applied)) (c.strays.ensures.no c.if-strays.false);
    }
