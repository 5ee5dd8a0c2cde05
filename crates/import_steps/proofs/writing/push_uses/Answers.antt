use Rattle.std.proofs.Common.{◌<◌, [], length, map, arith, sym, ap, ◌∙◌}
use Rattle.import_steps.specs.Taking.{use_of}
use Rattle.import_steps.specs.Texts.{use_text}
use Rattle.import_steps.proofs.TakingLemmas.{map-at, map-size, uses_push}
use Rattle.import_steps.proofs.writing.push_uses.Goals as goal

pub files-preserved : goal.files-preserved
files-preserved c =
    let files = c.args.files.now in
    let low : c.files.at < length (map use_of files) = omega (arith, c.files-test.true, map-size use_of files) in
    let here = map-at use_of files c.files.at c.index-files-at.result ([], 0) c.files-test.true ∙ ap use_of (sym c.index-files-at.is) in
    record {
      within = omega (arith, c.files-test.true);
      written = c.in_ok-push_use.ensures
          ∙ uses_push _ _ _ (map use_of files) _ low c.files.invariant.written (ap (use_text c.files.at) (sym here));
    }
