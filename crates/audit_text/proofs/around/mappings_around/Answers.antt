use Rattle.std.proofs.Common.{◌≡◌, ◌≤◌, ◌++◌, ◌∷◌, [], inl, inr, refl, sym, ap, subst, length, arith}
use Rattle.slot_lock.proofs.Facts.{on_err}
use Rattle.slot_lock.proofs.MapLists.{lists_end, to_first}
use Rattle.slot_lock.specs.MapWalks.{slot_metas}
use Rattle.audit_text.proofs.AroundLemmas.{AreShown, line_mapped, longer, shown_alone, shown_more, shown_none}
use Rattle.audit_text.proofs.around.mappings_around.Goals as goal
use Rattle.audit_text.proofs.around.mappings_around.Goals.{then-line-page, else-line-page}

pub lines-init : goal.lines-init
lines-init g c =
    let meta = slot_metas (g.M.SlotRead.slots c.args.map.now) in
    let none = c.new-shown.ensures.items in
    record {
      low = omega arith;
      high = omega arith;
      few = omega (arith, ap length none);
      shown = subst (AreShown meta c.args.page 1) (sym none) (shown_none meta c.args.page);
      begins = (to_first _ (g.met.M.SlotMap.is_slot_map c.args.map.now)).begins;
    }

pub next_line-requires-clause-laws : goal.next_line-requires-clause-laws
next_line-requires-clause-laws g c = g.met.M.SlotMap.is_slot_map c.args.map.now

pub returns-in_default-clause-around : goal.returns-in_default-clause-around
returns-in_default-clause-around g c =
    let shown = c.lines.invariant.shown in
    record {
      first = shown.first;
      end = 34359738368;
      lists = lists_end _ shown.first c.lines.from 34359738368 c.lines.shown.items c.lines.invariant.high shown.lists
          (c.in_default.ensures {u = tt}).none;
      near = shown.near;
      all = inr refl;
    }

pub lines-preserved : goal.lines-preserved
lines-preserved g c =
    let meta = slot_metas (g.M.SlotRead.slots c.args.map.now) in
    let line = c.in-Some.line in
    let new = c.push.new.self.items in
    let next = (c.in-Some.ensures {u = tt}).some in
    let pushed = (c.in_ok-push.ensures {u = tt}).items in
    let both : (length new ≤ 4) × AreShown meta c.args.page line.range.end new = elim c.if-line-page.branch [
      | then-line-page w ↦
          let e : new ≡ line ∷ [] = rw w.clear.ensures.items at rw w.shown-is at pushed in
          (omega (arith, ap length e), shown_alone meta c.args.page c.lines.from new line e next w.if-line-page.true)
      | else-line-page w ↦
          let e : new ≡ c.lines.shown.items ++ line ∷ [] = rw w.shown-is at pushed in (
            longer _ _ line e (omega (arith, c.lines-test.true, c.len.ensures)),
            shown_more meta c.args.page c.lines.from c.lines.shown.items new line e c.lines.invariant.shown next
                (omega (arith, w.if-line-page.false)),
          )
    ] in
    record {
      low = (let a = next.low in let b = next.is.pages.some in let l = c.lines.invariant.low in omega arith);
      high = next.is.pages.high;
      few = both.0;
      shown = both.1;
      begins = next.is.ends;
    }

pub returns-in_err-push-clause-want : goal.returns-in_err-push-clause-want
returns-in_err-push-clause-want g c = on_err _
    (line_mapped (slot_metas (g.M.SlotRead.slots c.args.map.now)) c.lines.from c.in-Some.line c.lines.invariant.low (c.in-Some.ensures {u = tt}).some)

pub returns-clause-around : goal.returns-clause-around
returns-clause-around g c =
    let shown = c.lines.invariant.shown in
    record {
      first = shown.first;
      end = c.lines.from;
      lists = shown.lists;
      near = shown.near;
      all = inl (omega (arith, c.lines.invariant.few, c.lines-test.false, c.len.ensures));
    }
