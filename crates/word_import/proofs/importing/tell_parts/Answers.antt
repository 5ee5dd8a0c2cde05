use Rattle.std.proofs.Common.{◌<◌, ◌^◌, sym, subst}
use Rattle.import_steps.specs.Counts.{total}
use Rattle.word_import.proofs.importing.tell_parts.Goals as goal

pub tell_part-requires : goal.tell_part-requires
tell_part-requires g c = subst (λ p. total p.counts < 2 ^ 64) (sym c.index-parts-at.is) (c.requires c.parts.at _ c.parts-test.true)
