-- How many frames are taken
use Rattle.std.specs.Prelude.{ℕ, zero, suc, ◌+◌, if◌then◌else◌, Bool}
use Rattle.vm_base.specs.declared.requests.Request.{Request}
use Rattle.vm_base.specs.Requests.{is_access}
use Rattle.machine_model.specs.World.{World}

-- one frame counts where it isn't free
abbrev pub one_if_taken : Bool → ℕ
one_if_taken is_free = if is_free then 0 else 1

-- of the first n
unfoldable pub taken_below : (ℕ → Bool) → ℕ → ℕ
taken_below is_free zero = 0
taken_below is_free (suc n) = one_if_taken (is_free n) + taken_below is_free n

-- of the machine's
abbrev pub frames_taken : World → ℕ
frames_taken w = taken_below w.memory.is_free w.made.frames

-- one frame at the most for an access, and none for any other request
abbrev pub frames_for : Request → ℕ
frames_for request = if is_access request then 1 else 0
