-- What a request comes to when its turn comes
use Rattle.std.specs.Prelude.{◌≡◌, ℕ, false, Option, None, Some}
use Rattle.vm_base.specs.declared.requests.Request.{Request}
use Rattle.vm_base.specs.declared.replies.Reply.{Reply}
use Rattle.vm_base.specs.Plain.{Plain}
use Rattle.vm_base.specs.Places.{IsPlace}
use Rattle.vm_base.specs.Apply.{Applies}
use Rattle.vm_base.specs.Answers.{is_ready}
use Rattle.vm_base.specs.Copies.{page_due, with_copy}

-- The request has the reply that the plain page map gives, with what that leaves. A store to a private page that
-- shows its file's has none yet: it waits for a copy of the page, which is a turn of its own, so that other cores
-- may see the copy before the store.
abbrev pub TurnsTo : Plain → ℕ → Request → Option Reply → Plain → Type 0
TurnsTo t core request (Some y) u = Applies IsPlace t core request y u
TurnsTo t core request None u = (is_ready t request ≡ false) × (u ≡ with_copy t (page_due t request))
