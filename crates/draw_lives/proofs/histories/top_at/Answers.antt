use Rattle.std.proofs.Common.{◌≡◌, ◌∙◌, ℕ, List, ap, arith, length, slice_index_or}
use Rattle.draw_lives.specs.Histories.{lane_top}
use Rattle.draw_lives.proofs.Lanes.{top_in, top_low, tops_length}
use Rattle.draw_lives.proofs.histories.top_at.Goals as goal

pub bounds-tops-from : goal.bounds-tops-from
bounds-tops-from c =
    let all : length c.args.tops.now ≡ 65 = ap length c.requires.tops ∙ tops_length c.args.scene.now 65 in
    omega (arith, all, c.from.ensures, c.requires.core)

pub returns-clause-value : goal.returns-clause-value
returns-clause-value c =
    ap (λ (n : ℕ). slice_index_or c.args.tops.now n 0) c.from.ensures
    ∙ ap (λ (l : List ℕ). slice_index_or l c.args.core 0) c.requires.tops
    ∙ top_in c.args.scene.now 65 c.args.core (omega (arith, c.requires.core))

pub returns-clause-bounded : goal.returns-clause-bounded
returns-clause-bounded c =
    let is : slice_index_or c.args.tops.now c.from.result 0 ≡ lane_top c.args.scene.now c.args.core =
    ap (λ (n : ℕ). slice_index_or c.args.tops.now n 0) c.from.ensures
    ∙ ap (λ (l : List ℕ). slice_index_or l c.args.core 0) c.requires.tops
    ∙ top_in c.args.scene.now 65 c.args.core (omega (arith, c.requires.core)) in
    omega (arith, is, top_low c.args.scene.now c.args.core, c.requires.core)
