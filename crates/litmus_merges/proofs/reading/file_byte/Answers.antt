use Rattle.std.proofs.Common.{◌∙◌, sym}
use Rattle.litmus_merges.proofs.Maps.{past_end}
use Rattle.litmus_merges.proofs.Spots.{byte_more}
use Rattle.litmus_merges.proofs.reading.file_byte.Goals as goal

pub steps-preserved : goal.steps-preserved
steps-preserved g c = byte_more c.args.objects.now c.args.steps.now c.steps.at _ c.args.file c.args.spot.page c.args.spot.offset c.steps.byte
    c.stored_byte-byte.result c.steps-test.true c.steps.invariant c.stored_byte-byte.ensures

pub returns-then-is_past_end : goal.returns-then-is_past_end
returns-then-is_past_end g c = sym (past_end c.args.objects.now c.args.steps.now c.args.file c.args.spot.page c.args.spot.offset
    (sym c.is_past_end.ensures ∙ c.if-is_past_end.true))
