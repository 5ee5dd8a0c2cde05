-- What a change makes of a slot
use Rattle.std.specs.Prelude.{◌≡◌, ℕ, ◌+◌, ◌-◌, ◌*◌, ◌<◌, ◌≤◌, ◌⊎◌, Option, None}
use Rattle.vm_base.specs.declared.info.PageInfo.{PageInfo}
use Rattle.vm_base.specs.Info.{info_from, info_with_prot}
use Rattle.radix_node.specs.declared.edit.Edit.{Edit}
use Rattle.radix_node.specs.declared.edit.Edit.TheVariants.{Put, Protect}
use Rattle.radix_node.specs.State.{State}
use Rattle.radix_node.specs.Run.{Cell, cell_at, width_of, FitsWidth, IsWhole}
use Rattle.radix_node.specs.Node.{Parts, runs}

-- what a page has after a change of a range that begins so many pages before it
abbrev pub edited_info : Edit → ℕ → Option PageInfo → Option PageInfo
edited_info (Put first) n info = info_from first n
edited_info (Protect prot) n info = info_with_prot prot info

-- a slot after a change of a range that begins so many pages before it
abbrev pub edited : Edit → ℕ → State → State
edited edit n s = record { info = edited_info edit n s.info; owner = s.owner }

-- the slot of a page after a change of a range that begins so many pages before the page
abbrev pub edited_cell : Edit → ℕ → Cell → Cell
edited_cell edit n c =
    record { state = edited edit (n - c.offset) c.state; offset = c.offset; width = c.width }

-- the change can be made of a range of so many pages
abbrev pub CanEdit : Edit → ℕ → Type 0
CanEdit (Put info) n = FitsWidth n (record { info = info; owner = None })
CanEdit (Protect prot) n = Unit {0}

-- a node's pages from one up to another are changed, as those of a range that begins `by` pages
-- before them, and the others are not
pub record EditsNode (old new : Parts) (first end by : ℕ) (edit : Edit) : Type 0 where
  pub level : new.level ≡ old.level
  pub whole : IsWhole new.level (512 * width_of new.level) (runs new)
  pub inside : (p : ℕ) → first ≤ p → p < end
      → cell_at (runs new) p ≡ edited_cell edit (by + (p - first)) (cell_at (runs old) p)
  pub outside : (p : ℕ) → (p < first) ⊎ (end ≤ p) → cell_at (runs new) p ≡ cell_at (runs old) p
