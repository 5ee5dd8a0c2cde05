use Rattle.std.proofs.Common.{ap, ◌∙◌, ◌++◌, ◌+◌, append-nil, arith, sym}
use Rattle.frames.specs.Bits.{count_below}
use Rattle.vm_base.specs.Cores.{members}
use Rattle.watched.proofs.Counting.{count_none}
use Rattle.state_seen.proofs.PageTexts.{texts_more, texts_none}
use Rattle.state_text.specs.PageTexts.{member_text}
use Rattle.state_text.proofs.page_texts.put_members.Goals as goal

pub cores-init : goal.cores-init
cores-init c = record {
  written = sym (ap (λ l. c.args.out.now.items ++ l) (texts_none (member_text c.args.form c.args.cores)) ∙ append-nil c.args.out.now.items);
  count = sym (count_none (members c.args.cores));
  few = omega arith;
}

pub cores-preserved : goal.cores-preserved
cores-preserved c =
    let is = c.new.ensures in
    let few = c.in_ok-before.ensures.few in
    record {
      written = texts_more (member_text c.args.form c.args.cores) c.cores.index c.args.out.now.items c.cores.out.items c.put_member.new.out.items
          c.cores.invariant.written (c.in_ok-before.ensures.text ∙ ap (λ k. c.cores.out.items ++ member_text c.args.form c.args.cores k) is);
      count = c.in_ok-before.ensures.count ∙ ap (λ k. count_below (members c.args.cores) (k + 1)) is;
      few = omega (arith, few, is);
    }
