use Rattle.std.proofs.Common.{◌-◌, arith}
use Rattle.std.proofs.lemmas.List.Elements.{All-same}
use Rattle.radix_range.specs.Tree.{tree_slots}
use Rattle.radix_range.specs.Tight.{IsTight}
use Rattle.radix_range.proofs.NoRoom.{up_to_room, up_to_end}
use Rattle.radix_range.proofs.tight.note_room.Goals.{in-Some, in-None}
use Rattle.radix_range.proofs.tight.note_room.Goals as goal

pub returns : goal.returns
returns g c =
    c.with.ensures (tree_slots c.args.root.now)
    (All-same (IsTight (tree_slots c.args.root.now)) c.as_slice-3.result.now c.args.tights.now.items c.as_slice-3.ensures.value c.requires.tights)
    (elim c.match-first_free_run.branch as (λ _. IsTight (tree_slots c.args.root.now)
    (record { n = c.args.range.end - c.args.range.first; first = c.args.first; end = c.match-first_free_run.end })) [
      | in-Some w ↦ rw w.end-is (up_to_room (tree_slots c.args.root.now) c.args.first c.args.range.end _ _ (omega (arith, c.requires.range.some))
          w.in-Some.ensures.found w.in-Some.ensures.least)
      | in-None w ↦ rw w.end-is (up_to_end (tree_slots c.args.root.now) c.args.first _ c.args.range c.requires.range.some
          (omega (arith, c.requires.range.some)) c.requires.mapped w.in-None.ensures.none)
    ])
