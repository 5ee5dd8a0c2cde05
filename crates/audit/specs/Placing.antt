-- Where a mapping without MAP_FIXED may be
use Rattle.std.specs.Prelude.{◌≡◌, ℕ, ◌*◌, ◌^◌, ◌⊎◌, Bool, true, false, if◌then◌else◌, Option, None, Some}
use Rattle.vm_base.specs.declared.page.PageRange.{PageRange}
use Rattle.vm_base.specs.declared.replies.Errno.TheVariants.{ENOMEM}
use Rattle.vm_base.specs.declared.replies.Reply.{Reply}
use Rattle.vm_base.specs.declared.replies.Reply.TheVariants.{Mapped, Refused}
use Rattle.vm_base.specs.Pages.{is_aligned, page_of}
use Rattle.vm_base.specs.Places.{IsFree, IsRoom, IsLeastRoom, IsFirstPlace, PlaceRule}
use Rattle.slot_lock.specs.declared.plan.Place.{Place}

-- all valid pages
abbrev pub all_pages : PageRange
all_pages = record { first = 1; end = 2 ^ 35 }

-- Any free run of valid pages will do, and the mapping is refused only where there is none
-- (POSIX.1-2017, mmap: the implementation chooses the place, and never replaces a mapping).
abbrev pub IsAnyPlace : PlaceRule
IsAnyPlace mapped window h n None = (s : ℕ) → ¬ IsRoom mapped all_pages n s
IsAnyPlace mapped window h n (Some s) = IsRoom mapped all_pages n s

-- the rule of an audit: with any place, or with the first one
abbrev pub rule_of : Bool → PlaceRule
rule_of true = IsAnyPlace
rule_of false = IsFirstPlace

-- ---- the same of a plan

-- some page of the hint, if there is one, is mapped
abbrev pub IsHintTaken : (ℕ → Bool) → Option PageRange → Type 0
IsHintTaken mapped None = Unit {0}
IsHintTaken mapped (Some range) = ¬ IsFree mapped range

-- The mapping goes to this page, or nowhere: its hint is free; or it isn't, and this is the least
-- room of the window.
abbrev pub IsFirst : (ℕ → Bool) → Place → Option ℕ → Type 0
IsFirst mapped place found =
    ((range : PageRange) × (place.hint ≡ Some range) × IsFree mapped range × (found ≡ Some range.first))
    ⊎ (IsHintTaken mapped place.hint × IsLeastRoom mapped place.window place.count found)

abbrev pub IsAny : (ℕ → Bool) → Place → Option ℕ → Type 0
IsAny mapped place found = IsAnyPlace mapped place.window 0 place.count found

abbrev pub IsAllowed : Bool → (ℕ → Bool) → Place → Option ℕ → Type 0
IsAllowed true mapped place found = IsAny mapped place found
IsAllowed false mapped place found = IsFirst mapped place found

-- ---- replies

-- what a mapping at this page, or at none, is answered
abbrev pub reply_at : Option ℕ → Reply
reply_at None = Refused ENOMEM
reply_at (Some first) = Mapped (first * 4096)

-- at which page a reply says that a mapping is, or that it is nowhere; none, if it says neither
abbrev pub place_said : Reply → Option (Option ℕ)
place_said (Mapped addr) = if is_aligned addr then Some (Some (page_of addr)) else None
place_said (Refused ENOMEM) = Some None
place_said _ = None
