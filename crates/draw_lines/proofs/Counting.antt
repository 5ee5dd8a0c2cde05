-- How many cores are in a set, and which act, core by core
use Rattle.std.proofs.Common.{◌≡◌, ℕ, ◌+◌, Bool, cond, refl, ap, ◌∙◌, add-one}
use Rattle.vm_base.specs.Cores.{with_member}
use Rattle.draw_lines.specs.Cores.{acting, count_members}

pub count_none : (s : ℕ → Bool) → count_members s 0 ≡ 0
unfolding count_members
count_none s = refl

count_next : (s : ℕ → Bool) (n : ℕ) → count_members s (n + 1) ≡ cond (s n) (count_members s n + 1) (count_members s n)
unfolding count_members
count_next s n = rw add-one refl

-- one core more is looked at
pub count_at : (s : ℕ → Bool) (n : ℕ) (b : Bool) → s n ≡ b → count_members s (n + 1) ≡ cond b (count_members s n + 1) (count_members s n)
count_at s n b e = count_next s n ∙ ap (λ (x : Bool). cond x (count_members s n + 1) (count_members s n)) e

pub acting_none : (s : ℕ → Bool) → acting s 0 ≡ 0
unfolding acting
acting_none s = refl

acting_next : (s : ℕ → Bool) (n : ℕ) → acting s (n + 1) ≡ cond (s n) (with_member (acting s n) n) (acting s n)
unfolding acting
acting_next s n = rw add-one refl

pub acting_at : (s : ℕ → Bool) (n : ℕ) (b : Bool) → s n ≡ b → acting s (n + 1) ≡ cond b (with_member (acting s n) n) (acting s n)
acting_at s n b e = acting_next s n ∙ ap (λ (x : Bool). cond x (with_member (acting s n) n) (acting s n)) e
