use Rattle.std.proofs.Common.{◌+◌, ◌-◌, arith}
use Rattle.state_text.proofs.FrontLines.{after_letter, after_newline, first, is_front, no_byte_left, no_line_left}
use Rattle.state_text.proofs.fronts.first_lines.Goals as goal
use Rattle.state_text.proofs.fronts.first_lines.Goals.{then-text-at-eq10, else-text-at-eq10, then-bytes-test+else-left-gt0, else-bytes-test}

pub bytes-preserved : goal.bytes-preserved
bytes-preserved c =
    let lt = c.bytes-test.true in
    let more = c.if-left-gt0.true in
    let all = first c.args.lines c.args.text.now in
    let same = c.bytes.invariant.same in
    record {
      within = omega (arith, lt);
      same = elim c.if-text-at-eq10.branch [
        | then-text-at-eq10 w ↦ let is = w.left-is in
            after_newline c.args.text.now all c.bytes.at c.bytes.left c.if-text-at-eq10.left (c.bytes.at + 1) (omega arith)
            (omega (arith, more, is)) lt w.if-text-at-eq10.true same
        | else-text-at-eq10 w ↦
            after_letter c.args.text.now all c.bytes.at c.bytes.left c.if-text-at-eq10.left (c.bytes.at + 1) (c.bytes.left - 1)
            (omega arith) w.left-is (omega (arith, more)) lt w.if-text-at-eq10.false same
      ];
    }

pub returns : goal.returns
returns c =
    is_front c.args.text.now c.split_at.result.0.now c.bytes.at c.args.lines c.split_at.ensures.front (elim c.bytes-test.branch [
      | then-bytes-test+else-left-gt0 w ↦ let none = w.if-left-gt0 in
          no_line_left c.args.text.now _ c.bytes.at c.bytes.left (omega (arith, none)) c.bytes.invariant.same
      | else-bytes-test w ↦ let none = w.bytes-test in
          no_byte_left c.args.text.now _ c.bytes.at c.bytes.left (omega (arith, none)) c.bytes.invariant.same
    ])
