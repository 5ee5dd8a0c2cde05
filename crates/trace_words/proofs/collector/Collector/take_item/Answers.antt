use Rattle.std.proofs.Common.{◌≡◌, ◌⊎◌, sym, ap, ◌∙◌, subst}
use Rattle.trace_words.specs.declared.fault.TraceFault.TheVariants.{NoMemory}
use Rattle.trace_text.specs.Words.{words_of}
use Rattle.trace_words.specs.Collected.{Collected, Takes, Refuses, Wants}
use Rattle.trace_words.proofs.CollectLemmas.{item_taken, item_wanted, kept_ok}
use Rattle.trace_words.proofs.collector.Collector.take_item.Goals as goal

pub returns-then-is_err-clause-err : goal.returns-then-is_err-clause-err
returns-then-is_err-clause-err g c =
    let names = subst (λ n. g.L.LineOf.names n c.in-Some-read.item (words_of c.args.line.now)) c.cores.ensures c.in-Some-read.ensures.some in
    subst (λ (o : Collected _). ((NoMemory ≡ NoMemory) × Wants g.L.LineOf.needs_calls g.L.LineOf.names o c.args.line.now)
    ⊎ Refuses g.L.LineOf.needs_calls g.L.LineOf.names o c.args.number c.args.line.now NoMemory) c.self.view_is
    (item_wanted _ _ _ _ _ c.in-Some.declaration c.in-Some-read.item c.requires.printable c.requires.some c.requires.kind c.in-Some.is
    (sym c.fault.ensures ∙ c.in_default-fault.is) names)

pub returns-clause-ok : goal.returns-clause-ok
returns-clause-ok g c =
    let names = subst (λ n. g.L.LineOf.names n c.in-Some-read.item (words_of c.args.line.now)) c.cores.ensures c.in-Some-read.ensures.some in
    let taken = item_taken g.L.LineOf.needs_calls g.L.LineOf.names (record { asked = c.self.inside.declaration; items = g.K.Collection.kept c.self.inside.items })
    (record { asked = c.self.inside.declaration; items = g.K.Collection.kept c.keep.new.self }) c.args.line.now c.in-Some.declaration c.in-Some-read.item
    c.requires.printable c.requires.some c.requires.kind c.in-Some.is (sym c.fault.ensures ∙ c.in_default-fault.is) names
    (ap (λ l. record { asked = c.self.inside.declaration; items = l })
    (kept_ok _ _ c.keep.ensures.ok (sym c.is_err.ensures.value ∙ c.if-is_err.false))) in
    subst (λ (o : Collected _). Takes g.L.LineOf.needs_calls g.L.LineOf.names o c.args.line.now
    (record { asked = c.self.inside.declaration; items = g.K.Collection.kept c.keep.new.self })) c.self.view_is taken
