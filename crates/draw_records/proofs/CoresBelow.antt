-- Sets of cores, core by core
use Rattle.std.proofs.Common.{◌≡◌, ℕ, ◌+◌, Bool, cond, refl, ap, ◌∙◌, add-one}
use Rattle.vm_base.specs.Cores.{with_member}
use Rattle.draw_records.specs.Looking.{cores_where}

pub cores_none : (s : ℕ → Bool) → cores_where s 0 ≡ 0
unfolding cores_where
cores_none s = refl

cores_next : (s : ℕ → Bool) (n : ℕ) → cores_where s (n + 1) ≡ cond (s n) (with_member (cores_where s n) n) (cores_where s n)
unfolding cores_where
cores_next s n = rw add-one refl

-- one core more is looked at
pub cores_at : (s : ℕ → Bool) (n : ℕ) (b : Bool) → s n ≡ b → cores_where s (n + 1) ≡ cond b (with_member (cores_where s n) n) (cores_where s n)
cores_at s n b e = cores_next s n ∙ ap (λ (x : Bool). cond x (with_member (cores_where s n) n) (cores_where s n)) e
