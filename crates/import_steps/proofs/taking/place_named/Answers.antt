use Rattle.std.proofs.Common.{◌<◌, List, [], ℕ, length, map, arith, sym, ap, ◌∙◌}
use Rattle.std.specs.Str.{bytes_eq}
use Rattle.import_steps.specs.Taking.{use_of}
use Rattle.import_steps.proofs.TakingLemmas.{map-at, map-size, named_here, named_more}
use Rattle.import_steps.proofs.taking.place_named.Goals as goal

pub returns-then-is_named-clause-value : goal.returns-then-is_named-clause-value
returns-then-is_named-clause-value c =
    let files = c.args.files.now in
    let low : c.files.at < length (map use_of files) = omega (arith, c.files-test.true, map-size use_of files) in
    let here = map-at use_of files c.files.at c.index-files-at.result ([], 0) c.files-test.true ∙ ap use_of (sym c.index-files-at.is) in
    named_here _ (map use_of files) _ _ low (ap (λ (u : List ℕ × ℕ). bytes_eq u.0 c.args.name.now) here ∙ (sym c.is_named.ensures ∙ c.if-is_named.true))
    c.files.invariant.same

pub files-preserved : goal.files-preserved
files-preserved c =
    let files = c.args.files.now in
    let low : c.files.at < length (map use_of files) = omega (arith, c.files-test.true, map-size use_of files) in
    let here = map-at use_of files c.files.at c.index-files-at.result ([], 0) c.files-test.true ∙ ap use_of (sym c.index-files-at.is) in
    record {
      within = omega (arith, c.files-test.true);
      same = named_more _ (map use_of files) _ _ low
          (ap (λ (u : List ℕ × ℕ). bytes_eq u.0 c.args.name.now) here ∙ (sym c.is_named.ensures ∙ c.if-is_named.false)) c.files.invariant.same;
    }
