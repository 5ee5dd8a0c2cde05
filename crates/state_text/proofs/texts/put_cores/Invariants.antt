use Rattle.std.proofs.Common.{◌≡◌, ◌++◌}
use Rattle.state_seen.specs.PageTexts.{texts_below}
use Rattle.state_text.specs.Texts.{seen_core}
use Rattle.state_text.proofs.texts.put_cores.Given as goal

abbrev pub invariant-cores : goal.invariant-cores
invariant-cores g l = record {
  written : l.out.items ≡ l.initial.out.items ++ texts_below (seen_core l.form l.phases l.cores l.tables) l.index;
}
