use Rattle.std.proofs.Common.{sym}
use Rattle.trace_text.specs.Words.{words_of}
use Rattle.litmus_text.proofs.FactLemmas.{term_more}
use Rattle.litmus_text.proofs.facts.read_terms.Goals as goal

pub terms-preserved : goal.terms-preserved
terms-preserved g c = term_more c.terms.left c.terms.joint c.in-Joined.next c.in-Some.fact c.terms.terms.items c.push.new.self.items
    (words_of c.terms.rest.now) (words_of c.in-Some.more.now) (words_of c.in-Joined.others.now) _ c.terms-test.true (sym c.in-Some.ensures)
    c.in-Joined.ensures c.in_ok-push.ensures.items c.terms.invariant
