-- What follows from the definitions
use Rattle.std.specs.Prelude.{ℕ, ◌≡◌, ◌≤◌, ◌<◌, ◌+◌, true, ◌↔◌}
use Rattle.vm_base.specs.declared.requests.Request.{Request}
use Rattle.vm_base.specs.declared.replies.Reply.{Reply}
use Rattle.vm_base.specs.Functions.{has}
use Rattle.vm_base.specs.Pages.{page_of, pages_of}
use Rattle.vm_base.specs.Plain.{Plain}
use Rattle.vm_base.specs.Apply.{Applies}
use Rattle.vm_base.specs.Answers.{Answers}
use Rattle.vm_base.specs.Places.{IsPlace, IsFirstPlace}

-- two first answers to a request are the same one, and they leave the same state
abbrev pub EachRequestHasOneFirstAnswer : Type 0
EachRequestHasOneFirstAnswer =
    (t u v : Plain) (core : ℕ) (request : Request) (y z : Reply)
    → Applies IsFirstPlace t core request y u → Applies IsFirstPlace t core request z v → (y ≡ z) × (u ≡ v)

-- each request has a first answer, after the copy that is due before it
abbrev pub EachRequestIsAnswered : Type 0
EachRequestIsAnswered = (t : Plain) (core : ℕ) (request : Request) → (y : Reply) × (u : Plain)
    × Answers IsFirstPlace t core request y u

-- a first answer is an answer
abbrev pub FirstAnswersAreAnswers : Type 0
FirstAnswersAreAnswers =
    (t u : Plain) (core : ℕ) (request : Request) (y : Reply)
    → Applies IsFirstPlace t core request y u → Applies IsPlace t core request y u

-- a byte of addr up to addr + len lies in the page
abbrev pub HasByte : ℕ → ℕ → ℕ → Type 0
HasByte addr len p = (at : ℕ) × (addr ≤ at) × (at < addr + len) × (page_of at ≡ p)

-- a range has just the pages in which some of its bytes lie
abbrev pub PagesHaveBytes : Type 0
PagesHaveBytes = (addr len p : ℕ) → (has (pages_of addr len) p ≡ true) ↔ HasByte addr len p
