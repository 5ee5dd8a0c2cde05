use Rattle.state_changes.proofs.FirstText.{found_words}
use Rattle.state_changes.proofs.seeking.has_words.Goals as goal

pub returns : goal.returns
returns c = found_words c.args.text.now c.args.words.now c.find.result c.is_some.result c.find.ensures c.is_some.ensures
