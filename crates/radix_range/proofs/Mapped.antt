-- What keeps pages mapped, and where no room is among them
use Rattle.slot_lock.proofs.Words.{◌≡◌, ℕ, ◌+◌, ◌<◌, ◌≤◌, ◌⊎◌, inl, inr, ⊎_elim, true, ◌==◌, Option, Some, None, is_some}
use Rattle.slot_lock.proofs.Words.{sym, ap, ◌∙◌, arith, nat_tests, cases_lt, PageRange, PageInfo, by_test, in_has}
use Rattle.std.proofs.Common.{IfSome, IfNone}
use Rattle.slot_lock.specs.Slots.{Slots, IsFreeRun, between, with_info}
use Rattle.slot_lock.proofs.Facts.{no_some}
use Rattle.radix_range.specs.Mapped.{IsMappedRun}

-- ---- what keeps pages mapped

pub same_info : (s t : Slots) (full : PageRange) → IsMappedRun s full → t.info ≡ s.info → IsMappedRun t full
same_info s t full a e = record { mapped = λ p h. ap (λ (f : ℕ → Option PageInfo). is_some (f p)) e ∙ a.mapped p h }

-- one page that stays mapped
pub one_info : (s : Slots) (page : ℕ) (info : Option PageInfo) (full : PageRange)
    → (is_some (s.info page) ≡ true → is_some info ≡ true) → IsMappedRun s full → IsMappedRun (with_info s page info) full
one_info s page info full stays a = record {
  mapped = λ p h. by_test (λ (o : Option PageInfo). is_some o ≡ true) (p == page) info (s.info p)
      (λ e. stays (ap (λ q. is_some (s.info q)) (sym (is_page p e)) ∙ a.mapped p h)) (λ _. a.mapped p h);
}
  where
    is_page : (p : ℕ) → (p == page) ≡ true → p ≡ page
    is_page p e = grind (arith, nat_tests)

-- ---- room where such pages, from first up to end, lie in a range

-- a free run of the range lies before them or after them
pub on_a_side : (s : Slots) (full : PageRange) (first end n r : ℕ) → IsMappedRun s full → full.first ≤ first
    → end ≤ full.end → 1 ≤ n → first < end
    → ((p : ℕ) → r ≤ p → p < r + n → s.info p ≡ None) → (r + n ≤ first) ⊎ (end ≤ r)
on_a_side s full first end n r a low high some order free = ⊎_elim
    (λ (x : r < end). ⊎_elim
    (λ (y : first < r + n). ⊎_elim
    (λ (z : r < first). absurd (both first (omega arith) (omega arith) (omega arith) y))
    (λ (z : first ≤ r). absurd (both r z x (omega arith) (omega arith)))
    (cases_lt r first))
    (λ (y : r + n ≤ first). inl y)
    (cases_lt first (r + n)))
    (λ (x : end ≤ r). inr x)
    (cases_lt r end)
  where
    both : (p : ℕ) → first ≤ p → p < end → r ≤ p → p < r + n → ⊥
    both p u v w x = no_some (s.info p) (a.mapped p (in_has full p (omega arith) (omega arith))) (free p w x)

pub in_front : (s : Slots) (range : PageRange) (first n r : ℕ) → IsFreeRun s range n r → r + n ≤ first
    → IsFreeRun s (between range.first first) n r
in_front s range first n r f h = record { inside = record { low = f.inside.low; high = h }; free = f.free }

pub in_rest : (s : Slots) (range : PageRange) (end n r : ℕ) → IsFreeRun s range n r → end ≤ r → IsFreeRun s (between end range.end) n r
in_rest s range end n r f h = record { inside = record { low = h; high = f.inside.high }; free = f.free }

-- the least run before them is the range's least
pub least_in_front : (s : Slots) (range : PageRange) (first n start : ℕ) → IsFreeRun s (between range.first first) n start
    → ((r : ℕ) → r < start → ¬ IsFreeRun s (between range.first first) n r)
    → (r : ℕ) → r < start → ¬ IsFreeRun s range n r
least_in_front s range first n start f least r l g = least r l (in_front s range first n r g (omega (arith, f.inside.high)))

-- with none before them, the runs of the range are those after them
pub only_in_rest : (s : Slots) (full range : PageRange) (first end n : ℕ) → IsMappedRun s full → full.first ≤ first → end ≤ full.end → 1 ≤ n
    → first < end → ((r : ℕ) → ¬ IsFreeRun s (between range.first first) n r)
    → (r : ℕ) → IsFreeRun s range n r → IsFreeRun s (between end range.end) n r
only_in_rest s full range first end n a low high some order none r f = ⊎_elim
    (λ x. absurd (none r (in_front s range first n r f x)))
    (λ x. in_rest s range end n r f x)
    (on_a_side s full first end n r a low high some order f.free)

pub least_in_rest : (s : Slots) (range : PageRange) (end n : ℕ) (o : Option ℕ)
    → ((r : ℕ) → IsFreeRun s range n r → IsFreeRun s (between end range.end) n r)
    → IfSome o (λ x. (r : ℕ) → r < x → ¬ IsFreeRun s (between end range.end) n r)
    → IfSome o (λ x. (r : ℕ) → r < x → ¬ IsFreeRun s range n r)
least_in_rest s range end n None only h = h
least_in_rest s range end n (Some x) only h = λ r l f. h r l (only r f)

pub none_in_rest : (s : Slots) (range : PageRange) (end n : ℕ) (o : Option ℕ)
    → ((r : ℕ) → IsFreeRun s range n r → IsFreeRun s (between end range.end) n r)
    → IfNone o ((r : ℕ) → ¬ IsFreeRun s (between end range.end) n r)
    → IfNone o ((r : ℕ) → ¬ IsFreeRun s range n r)
none_in_rest s range end n None only h = λ r f. h r (only r f)
none_in_rest s range end n (Some x) only h = h
