use Rattle.std.proofs.Common.{rules}
use Rattle.trace_io.specs.Lines.{lines_of}
use Rattle.orders_text.specs.Steps.{read_of}
use Rattle.orders_text.proofs.PlaceLemmas.{all_forward, end_refused, forward_there}
use Rattle.orders_text.proofs.reading.read_whole.Goals as goal

pub returns-then-lacks_space-clause-err : goal.returns-then-lacks_space-clause-err
returns-then-lacks_space-clause-err g c =
    end_refused (lines_of c.args.text.now) (read_of c.read_lines.new.history) c.in_default.ensures.ok c.if-lacks_space.true

pub find_overlap-requires : goal.find_overlap-requires
find_overlap-requires g c = forward_there _ (read_of c.read_lines.new.history).calls (search rules)
    (all_forward (read_of c.read_lines.new.history) (lines_of c.args.text.now) c.in_default.ensures.ok)
