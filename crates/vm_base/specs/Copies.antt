-- The copy that a private page of a file gets before a store to it, where it has shown its file's
-- page until then
use Rattle.std.specs.Prelude.{ℕ, Option, None, Some}
use Rattle.vm_base.specs.declared.replies.Reply.{Reply}
use Rattle.vm_base.specs.declared.replies.Reply.TheVariants.{Done}
use Rattle.vm_base.specs.declared.requests.Request.{Request}
use Rattle.vm_base.specs.declared.requests.Request.TheVariants.{Store}
use Rattle.vm_base.specs.Apply.{detached}
use Rattle.vm_base.specs.Pages.{page_of}
use Rattle.vm_base.specs.Plain.{Plain}

-- the page, if there is a map with a copy of it
abbrev pub if_copied : Option Plain → ℕ → Option ℕ
if_copied None page = None
if_copied (Some u) page = Some page

-- the page of a store, if it needs a copy first
abbrev pub page_due : Plain → Request → Option ℕ
page_due t (Store addr byte) = if_copied (detached t (page_of addr)) (page_of addr)
page_due t request = None

-- the page that gets a copy before this reply to the request, which only a store that is done needs
abbrev pub page_copied : Plain → Request → Reply → Option ℕ
page_copied t request Done = page_due t request
page_copied t request reply = None

-- the map, unless there is this one
abbrev pub or_else : Plain → Option Plain → Plain
or_else t None = t
or_else t (Some u) = u

-- the map in which the page has got its copy
abbrev pub with_copy : Plain → Option ℕ → Plain
with_copy t None = t
with_copy t (Some page) = or_else t (detached t page)
