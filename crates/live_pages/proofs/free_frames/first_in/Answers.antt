use Rattle.std.proofs.Common.{◌≡◌, ◌<◌, ◌^◌, ◌/◌, get_or, rules, ap, ◌∙◌}
use Rattle.live_pages.proofs.FreeFrames.{none_past, none_in, first_in_word}
use Rattle.live_pages.proofs.free_frames.first_in.Goals as goal

pub returns-in_default-clause-none : goal.returns-in_default-clause-none
returns-in_default-clause-none c k is le = none_past c.args.words.now c.args.at (search rules) k is

pub returns-then-rest-eq0-clause-none : goal.returns-then-rest-eq0-clause-none
returns-then-rest-eq0-clause-none c k is le =
    let word : get_or c.args.words.now c.args.at 0 ≡ c.in-Some.word.now = search rules in
    let fits : get_or c.args.words.now c.args.at 0 < 2 ^ 64 = search rules in
    none_in c.args.words.now c.args.at c.args.bit fits (ap (λ w. w / 2 ^ c.args.bit) word ∙ c.if-rest-eq0.true) k is le

pub returns-clause-first : goal.returns-clause-first
returns-clause-first c =
    let word : get_or c.args.words.now c.args.at 0 ≡ c.in-Some.word.now = search rules in
    let fits : get_or c.args.words.now c.args.at 0 < 2 ^ 64 = search rules in
    first_in_word c.args.words.now c.args.at c.args.bit c.in-Some.word.now fits word c.if-rest-eq0.false
