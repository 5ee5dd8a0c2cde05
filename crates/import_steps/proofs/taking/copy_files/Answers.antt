use Rattle.std.proofs.Common.{◌<◌, [], length, map, arith, sym, ap, ◌∙◌}
use Rattle.import_steps.specs.Taking.{use_of}
use Rattle.import_steps.proofs.TakingLemmas.{map-at, map-size, copied_more}
use Rattle.import_steps.proofs.taking.copy_files.Goals as goal

pub files-preserved : goal.files-preserved
files-preserved c =
    let files = c.args.files.now in
    let low : c.files.at < length (map use_of files) = omega (arith, c.files-test.true, map-size use_of files) in
    let here = map-at use_of files c.files.at c.index-files-at.result ([], 0) c.files-test.true ∙ ap use_of (sym c.index-files-at.is) in
    record {
      within = omega (arith, c.files-test.true);
      same = ap (map use_of) c.in_ok-push.ensures.items ∙ copied_more c.files.copies.items _ (map use_of files) _ low c.files.invariant.same
          (c.in_ok-file.ensures ∙ sym here);
    }
