-- Whose histories these are
use Rattle.std.specs.Prelude.{◌≡◌}
use Rattle.std.specs.Arc.{arc_value}
use Rattle.atomic_table.specs.Seated.{TableId}
use Rattle.live_tree.specs.declared.histories.Histories.{Histories}

-- the histories bear this word, from which their tree's tickets are drawn: each tree makes its own word, and no other has it
abbrev pub BearWord : {A : Type 0} → TableId → Histories A → Type 0
BearWord word histories = arc_value histories.tickets ≡ word
