-- Lists of what pages have, in order of pages
use Rattle.std.specs.Prelude.{ℕ, zero, suc, ◌<◌, ◌≤◌, ◌^◌, ◌==◌, ◌&&◌, Bool, List, [], ◌∷◌, Option, None, Some, length, nat_lt, if◌then◌else◌}
use Rattle.state_seen.specs.declared.list.OfPage.{OfPage}

-- what a number of a page is below
abbrev pub page_limit : ℕ
page_limit = 2 ^ 64

-- the entries' pages rise, from this number on
abbrev pub IsAbove : {V : Type 0} → ℕ → List (OfPage V) → Type 0
IsAbove n [] = Unit {0}
IsAbove n (e ∷ es) = (n ≤ e.page) × (e.page < page_limit) × IsAbove (suc e.page) es

-- what a page has
abbrev pub at_page : {V : Type 0} → List (OfPage V) → ℕ → Option V
at_page [] p = None
at_page (e ∷ es) p = if e.page == p then Some e.value else at_page es p

-- the page of the entry at a place
abbrev pub page_in : {V : Type 0} → List (OfPage V) → ℕ → ℕ
page_in [] k = 0
page_in (e ∷ es) zero = e.page
page_in (e ∷ es) (suc k) = page_in es k

-- whether the entry at a place is of the page
abbrev pub is_there : {V : Type 0} → List (OfPage V) → ℕ → ℕ → Bool
is_there es k p = nat_lt k (length es) && page_in es k == p
