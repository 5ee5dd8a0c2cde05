use Rattle.std.proofs.Common.{Some, refl, sym, ap, ◌∙◌, subst}
use Rattle.trace_words.specs.Collected.{Collected, Takes}
use Rattle.trace_words.proofs.CollectLemmas.{file_taken, no_items}
use Rattle.trace_words.proofs.collector.Collector.take_file.Goals as goal

pub returns-then-add-clause-ok : goal.returns-then-add-clause-ok
returns-then-add-clause-ok g c =
    let said = sym c.requires.said ∙ c.in-Some-said.is ∙ ap Some c.in-File.is in
    let none = no_items _ _ _ c.if-is_first.true c.has_none-is_first.ensures refl in
    let taken = file_taken g.L.LineOf.needs_calls g.L.LineOf.names (record { asked = c.self.inside.declaration; items = g.K.Collection.kept c.self.inside.items })
    (record { asked = Some c.add.new.self; items = g.K.Collection.kept c.self.inside.items }) c.args.line.now c.in-Some.declaration _ _ _ _
    c.requires.printable c.requires.kind c.in-Some.is none said (sym c.add.ensures.told ∙ c.if-add.true)
    (ap (λ d. record { asked = Some d; items = g.K.Collection.kept c.self.inside.items }) (c.add.ensures.added c.if-add.true)) in
    subst (λ (o : Collected _). Takes g.L.LineOf.needs_calls g.L.LineOf.names o c.args.line.now
    (record { asked = Some c.add.new.self; items = g.K.Collection.kept c.self.inside.items })) c.self.view_is taken
