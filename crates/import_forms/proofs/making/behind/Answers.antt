use Rattle.std.proofs.Common.{Some, arith, length, drop, sym, ap, ◌∙◌}
use Rattle.import_forms.specs.Tokens.{begins_by}
use Rattle.import_forms.proofs.SaidLemmas.{behind_here, behind_more}
use Rattle.import_forms.proofs.making.behind.Goals as goal

pub returns-then-begins : goal.returns-then-begins
returns-then-begins c =
    let name = c.args.name.now in
    let here = ap (begins_by name) (sym c.split_at.ensures.back) ∙ (sym c.begins.ensures ∙ c.if-begins.true) in
    ap Some (c.split_at-then-begins.ensures.back ∙ ap (drop (length name)) c.split_at.ensures.back)
    ∙ (behind_here name c.args.bytes.now c.places.at c.places-test.true here ∙ c.places.invariant.same)

pub places-preserved : goal.places-preserved
places-preserved c =
    let name = c.args.name.now in
    let no = ap (begins_by name) (sym c.split_at.ensures.back) ∙ (sym c.begins.ensures ∙ c.if-begins.false) in
    record {
      within = omega (arith, c.places-test.true);
      same = behind_more name c.args.bytes.now c.places.at c.places-test.true no ∙ c.places.invariant.same;
    }
