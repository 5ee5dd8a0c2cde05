-- Who uses a page: the cores whose access of it was served since its mapping was made, its
-- protection changed or it got a copy of its own
use Rattle.std.specs.Prelude.{◌≡◌, ℕ, cond, Bool, true, false, Option, None, Some}
use Rattle.vm_base.specs.declared.page.PageRange.{PageRange}
use Rattle.vm_base.specs.declared.replies.Reply.{Reply}
use Rattle.vm_base.specs.declared.replies.Reply.TheVariants.{Mapped, Done, Byte}
use Rattle.vm_base.specs.declared.requests.Request.{Request}
use Rattle.vm_base.specs.declared.requests.Request.TheVariants.{Mmap, Munmap, Mprotect, Load, Store}
use Rattle.vm_base.specs.declared.requests.Request.TheVariants.{Fetch}
use Rattle.vm_base.specs.Functions.{has, put}
use Rattle.vm_base.specs.Pages.{page_of, pages_from, pages_of}
use Rattle.vm_base.specs.Plain.{Plain}
use Rattle.vm_base.specs.Copies.{page_due}

-- the users of each page: whether core c uses page p
abbrev pub Users : Type 0
Users = ℕ → ℕ → Bool

-- the same users of each page
abbrev pub Same : Users → Users → Type 0
Same a b = (p c : ℕ) → a p c ≡ b p c

-- the pages of the range have no user
abbrev pub without : PageRange → Users → Users
without range users p c = cond (has range p) false (users p c)

-- the core uses the page too
abbrev pub with_user : ℕ → ℕ → Users → Users
with_user page core users = put users page (put (users page) core true)

-- an mmap was answered with this address
abbrev pub after_mapped : Request → ℕ → Users → Users
after_mapped (Mmap addr len prot flags file off) at users = without (pages_of at len) users
after_mapped _ at users = users

-- a page that gets a copy has no user before one comes to the copy
abbrev pub users_left : Option ℕ → Users → Users
users_left None users = users
users_left (Some page) users = without (pages_from page 1) users

-- A request was done: an munmap or mprotect drops all users of its pages, and a store makes its
-- core one. Where the page got a copy first, the core is the only one.
abbrev pub after_done : Plain → ℕ → Request → Users → Users
after_done t core (Munmap addr len) users = without (pages_of addr len) users
after_done t core (Mprotect addr len prot) users = without (pages_of addr len) users
after_done t core (Store addr byte) users =
    with_user (page_of addr) core (users_left (page_due t (Store addr byte)) users)
after_done t core _ users = users

-- a byte was read
abbrev pub after_byte : ℕ → Request → Users → Users
after_byte core (Load addr) users = with_user (page_of addr) core users
after_byte core (Fetch addr) users = with_user (page_of addr) core users
after_byte core _ users = users

-- the users of each page, once the core's request, made of the map t, has this reply
abbrev pub users_after : Plain → ℕ → Request → Reply → Users → Users
users_after t core request (Mapped at) users = after_mapped request at users
users_after t core request Done users = after_done t core request users
users_after t core request (Byte byte) users = after_byte core request users
users_after t core request _ users = users
