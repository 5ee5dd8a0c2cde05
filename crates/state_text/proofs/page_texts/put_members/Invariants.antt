use Rattle.std.proofs.Common.{◌≡◌, ◌++◌, ◌≤◌}
use Rattle.frames.specs.Bits.{count_below}
use Rattle.vm_base.specs.Cores.{members}
use Rattle.state_seen.specs.PageTexts.{texts_below}
use Rattle.state_text.specs.PageTexts.{member_text}
use Rattle.state_text.proofs.page_texts.put_members.Given as goal

abbrev pub invariant-cores : goal.invariant-cores
invariant-cores l = record {
  written : l.out.items ≡ l.initial.out.items ++ texts_below (member_text l.form l.cores) l.index;
  count : l.before ≡ count_below (members l.cores) l.index;
  few : l.before ≤ l.index;
}
