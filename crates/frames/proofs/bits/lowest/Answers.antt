use Rattle.std.proofs.Common.{◌<◌, ◌≤◌, ◌^◌, length, get_or, w64, arith, rules}
use Rattle.std.specs.Int.{trailing_zeros}
use Rattle.frames.proofs.BitSets.{lowest_place, lowest_member, lowest_least, word_within}
use Rattle.frames.proofs.bits.lowest.Goals as goal

pub overflow_add-result : goal.overflow_add-result
overflow_add-result c =
    let fits : get_or c.args.words.now c.args.word 0 < 2 ^ 64 = search rules in
    let place : trailing_zeros w64 (get_or c.args.words.now c.args.word 0) < 64 = lowest_place _ c.requires.some fits in
    let within : c.args.word < length c.args.words.now = word_within c.args.words.now c.args.word c.requires.some in
    let short : length c.args.words.now ≤ 1024 = c.requires.short in
    omega (arith, place, within, short)

pub returns-clause-member : goal.returns-clause-member
returns-clause-member c = lowest_member c.args.words.now c.args.word c.requires.some (search rules)

pub returns-clause-least : goal.returns-clause-least
returns-clause-least c = lowest_least c.args.words.now c.args.word c.requires.some (search rules) c.requires.first
