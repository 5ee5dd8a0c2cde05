-- Answers of the plain page map, with the copies that are due before them
use Rattle.std.specs.Prelude.{ℕ, Bool, true, is_some}
use Rattle.vm_base.specs.declared.rights.Access.TheVariants.{Store}
use Rattle.vm_base.specs.declared.requests.Request.{Request}
use Rattle.vm_base.specs.declared.requests.Request.TheVariants.{Store as StoreOf}
use Rattle.vm_base.specs.declared.replies.Reply.{Reply}
use Rattle.vm_base.specs.Plain.{Plain}
use Rattle.vm_base.specs.Apply.{Applies, access_reply}
use Rattle.vm_base.specs.Places.{PlaceRule}
use Rattle.vm_base.specs.Copies.{page_copied, with_copy}

-- the request can be answered at once: it isn't a store before which a copy of its page is due
abbrev pub is_ready : Plain → Request → Bool
is_ready t (StoreOf addr byte) = is_some (access_reply t addr Store)
is_ready t _ = true

-- The same after the copy that is due before it, if one is: a private page that has shown its file's
-- page gets a copy before a store to it that is done.
abbrev pub Answers : PlaceRule → Plain → ℕ → Request → Reply → Plain → Type 0
Answers rule t core request y u =
    Applies rule (with_copy t (page_copied t request y)) core request y u
