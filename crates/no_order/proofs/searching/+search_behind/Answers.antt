use Rattle.std.proofs.Common.{◌∙◌, List, Ok, ap, length, subst}
use Rattle.vm_base.specs.Plain.{nothing_mapped}
use Rattle.frames.specs.Given.{given_files}
use Rattle.audit.specs.Placing.{rule_of}
use Rattle.orders.specs.declared.history.Item.{Item}
use Rattle.no_order.specs.Answers.{IsAnswerBehind}
use Rattle.no_order.specs.Beginnings.{NoneBegins}
use Rattle.no_order.specs.declared.searching.Answer.{Answer}
use Rattle.no_order.proofs.AmissLemmas.{next_tried, none_amiss, numbers_below}
use Rattle.no_order.proofs.Fronts.{none_behind, none_leads}
use Rattle.no_order.proofs.searching.+search_behind.Goals as goal
use Rattle.no_order.proofs.searching.+search_behind.Goals.{then-not-amiss+in_ok-longer+in_ok-search_behind+in-NoOrder, else-not-amiss}

pub returns-then-not-goes : goal.returns-then-not-goes
returns-then-not-goes g t c = none_leads (rule_of c.args.any_place) (nothing_mapped (given_files c.args.files.now)) c.args.history.now c.args.items.now
    (c.in_ok-goes.ensures.no (ap Ok c.if-not-goes.true))

pub returns-then-whole : goal.returns-then-whole
returns-then-whole g t c =
    let led = c.in_ok-goes.ensures.yes (ap Ok c.if-not-goes.false) in
    record {
      items = c.args.items.now;
      is_order = record {
        keeps_time = c.in_ok-whole.ensures.time (ap Ok c.if-whole.true);
        each_once = c.in_ok-whole.ensures.once (ap Ok c.if-whole.true);
        last = led.0;
        lead = led.1;
      };
    }

pub items-preserved : goal.items-preserved
items-preserved g t c =
    let rule = rule_of c.args.any_place in
    let first = nothing_mapped (given_files c.args.files.now) in
    let h = c.args.history.now in
    elim c.if-not-amiss.branch [
      | then-not-amiss+in_ok-longer+in_ok-search_behind+in-NoOrder w ↦
          next_tried rule first h c.args.items.now c.items.number c.item_at-item.result c.item_at-item.ensures
          (subst (λ (xs : List Item). NoneBegins rule first h xs) (w.as_slice-longer.ensures.value ∙ w.in_ok-longer.ensures)
          (subst (λ (a : Answer). IsAnswerBehind rule first h w.as_slice-longer.result.now a) w.in-NoOrder.is w.in_ok-search_behind.ensures))
          c.items.invariant
      | else-not-amiss w ↦
          next_tried rule first h c.args.items.now c.items.number c.item_at-item.result c.item_at-item.ensures
          (none_amiss rule first h c.args.items.now c.item_at-item.result (c.is_amiss-amiss.ensures.0 w.if-not-amiss.false)) c.items.invariant
    ]

pub returns : goal.returns
returns g t c = none_behind (rule_of c.args.any_place) (nothing_mapped (given_files c.args.files.now)) c.args.history.now c.args.items.now
    (c.in_ok-whole.ensures.no (ap Ok c.if-whole.false))
    (λ item known. c.items.invariant item known (numbers_below (length c.args.history.now) c.items.number item c.items-test.false known))
