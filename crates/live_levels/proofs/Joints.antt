-- One slot more, whose mapping goes on from that of the slots before it
use Rattle.std.proofs.Common.{◌≡◌, ℕ, ◌+◌, ◌-◌, ◌^◌, ◌<◌, ◌≤◌, Option, Some, None, ap, subst, arith}
use Rattle.vm_base.specs.declared.info.Back.{Back}
use Rattle.vm_base.specs.declared.info.Back.TheVariants.{Anon, Shared, Private}
use Rattle.vm_base.specs.declared.info.PageInfo.{PageInfo}
use Rattle.vm_base.specs.Info.{advance_back, file_page, info_file_page, info_from}

back_fits : (b : Back) (m n : ℕ) → file_page (advance_back b m) + n ≤ 2 ^ 36 → m + n ≤ 2 ^ 36 → file_page b + (m + n) ≤ 2 ^ 36
back_fits Anon m n h k = omega (arith, k)
back_fits (Shared file page) m n h k = omega (arith, h)
back_fits (Private file page) m n h k = omega (arith, h)

info_fits : (o : Option PageInfo) (m n : ℕ) → info_file_page (info_from o m) + n ≤ 2 ^ 36 → m + n ≤ 2 ^ 36 → info_file_page o + (m + n) ≤ 2 ^ 36
info_fits None m n h k = omega (arith, k)
info_fits (Some info) m n h k = back_fits info.meta.back m n h k

pub fits_with_next : (o q : Option PageInfo) (first at end : ℕ) → q ≡ info_from o (at - first) → info_file_page q + (end - at) ≤ 2 ^ 36
    → first < at → at < end → end ≤ 2 ^ 36
    → info_file_page o + (end - first) ≤ 2 ^ 36
fits_with_next o q first at end is fits low high place =
    let goes_on : info_file_page (info_from o (at - first)) + (end - at) ≤ 2 ^ 36 = subst
    (λ (x : Option PageInfo). info_file_page x + (end - at) ≤ 2 ^ 36) is fits in
    let whole = info_fits o (at - first) (end - at) goes_on (omega (arith, place, low, high)) in
    omega (arith, whole, low, high)
