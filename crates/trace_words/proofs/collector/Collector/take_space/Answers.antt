use Rattle.std.proofs.Common.{Some, sym, ap, ◌∙◌, subst}
use Rattle.trace_words.specs.Collected.{Collected, Takes}
use Rattle.trace_words.proofs.CollectLemmas.{space_taken}
use Rattle.trace_words.proofs.collector.Collector.take_space.Goals as goal

pub returns-then-says_enough-clause-ok : goal.returns-then-says_enough-clause-ok
returns-then-says_enough-clause-ok g c =
    let said = sym c.requires.said ∙ c.in-Some-said.is ∙ ap Some c.in-Space.is in
    let taken = space_taken g.L.LineOf.needs_calls g.L.LineOf.names (record { asked = c.self.inside.declaration; items = g.K.Collection.kept c.self.inside.items })
    (record { asked = Some c.new.result; items = g.K.Collection.kept c.self.inside.items }) c.args.line.now _ _ _ c.requires.printable c.requires.kind c.in_default.is said
    (c.says_enough.ensures.yes c.if-says_enough.true) (ap (λ d. record { asked = Some d; items = g.K.Collection.kept c.self.inside.items }) c.new.ensures) in
    subst (λ (o : Collected _). Takes g.L.LineOf.needs_calls g.L.LineOf.names o c.args.line.now
    (record { asked = Some c.new.result; items = g.K.Collection.kept c.self.inside.items })) c.self.view_is taken
