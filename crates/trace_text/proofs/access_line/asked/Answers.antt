use Rattle.std.proofs.Common.{◌∙◌, refl}
use Rattle.trace_text.proofs.FrontLemmas.{load_named, store_named}
use Rattle.trace_text.proofs.access_line.asked.Goals as goal

pub returns-in-Some : goal.returns-in-Some
returns-in-Some c = c.in_ok-addr.ensures ∙ load_named c.args.words.now c.args.words.now c.in-Some.args.now refl c.in-Some.ensures

pub returns-in-Some-behind_store : goal.returns-in-Some-behind_store
returns-in-Some-behind_store c =
    c.in_ok-addr-2.ensures ∙ store_named c.args.words.now c.args.words.now c.in-Some-behind_store.args.now refl c.in-Some-behind_store.ensures
