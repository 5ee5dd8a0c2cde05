use Rattle.state_seen.specs.Lists.{at_page}
use Rattle.state_seen.specs.PageTexts.{pages_text, texts_below}
use Rattle.state_text.specs.PageTexts.{mappings_text, used_line}
use Rattle.state_text.specs.Texts.{epoch_line, seen_core}
use Rattle.state_seen.proofs.Lines.{four}
use Rattle.state_text.proofs.texts.put_state.Goals as goal

pub returns : goal.returns
returns g c =
    let form = c.args.form in
    let mirror = c.args.mirror.now in
    four c.args.out.now.items c.put_epoch.new.out.items c.put_cores.new.out.items c.put_mappings.new.out.items c.put_pages.new.out.items
    (epoch_line form mirror.epoch) (texts_below (seen_core form mirror.phases mirror.cores mirror.tables) 64) (mappings_text form c.args.maps.now)
    (pages_text (used_line form) (at_page mirror.pages)) (rw c.epoch.ensures at c.in_ok-put_epoch.ensures)
    (rw c.phases.ensures.value at rw c.cores.ensures.value at rw c.tables.ensures.value at c.in_ok-put_cores.ensures) c.in_ok-put_mappings.ensures
    (rw c.pages.ensures at c.in_ok-put_pages.ensures)
