use Rattle.std.proofs.Common.{◌≡◌, ◌<◌, ◌≤◌, false, true, length, slice_index, slice_set, refl, subst, sym, ap, ◌∙◌, arith}
use Rattle.std.proofs.Math.ListN.{length-set}
use Rattle.vm_base.specs.Functions.{has}
use Rattle.vm_base.specs.Cores.{members}
use Rattle.mmu.specs.Fills.{entries_of, filled_at, page_at}
use Rattle.mmu.proofs.Orders.{taken_by, walk_from, walk_drops, walk_passes, walk_done}
use Rattle.mmu.proofs.Filings.{filled_here, filled_none}
use Rattle.mmu.proofs.tlb.Tlb.drop_within.Goals as goal
use Rattle.mmu.proofs.tlb.Tlb.drop_within.Goals.{then-place-lt-PLACES+then-contains, else-place-lt-PLACES}
use Rattle.mmu.proofs.tlb.Tlb.drop_within.Goals.{else-place-lt-PLACES-via-then-place-lt-PLACES+else-contains}
use Rattle.mmu.proofs.tlb.Tlb.drop_within.Goals.{else-place-lt-PLACES-via-else-place-lt-PLACES}

pub fills-init : goal.fills-init
fills-init c =
    let t = c.args.self.now in
    record {
      fills = walk_from (filled_at t.places) (has c.args.range) t.fills.items t.first (filled_none t.places) t.gone;
      long = refl;
      places = refl;
    }

pub let_go-requires : goal.let_go-requires
let_go-requires c =
    let now = c.fills.self.fills.items in
    let i = c.fills.i in
    let is : c.from-place.result ≡ slice_index now i = c.from-place.ensures ∙ ap (λ xs. slice_index xs i) c.deref.ensures.0 in
    let small = c.if-place-lt-PLACES.true in
    let k : i < length now = omega (arith, c.fills-test.true, c.len-i-end.ensures.value, c.fills.invariant.long) in
    (small, subst (λ b. members c.fills.self.free b ≡ false) (sym is) (c.fills.self.ordered.there i k (subst (λ b. b < 64) is small)).0)

pub fills-preserved : goal.fills-preserved
fills-preserved c =
    let t = c.args.self.now in
    let s = has c.args.range in
    let fs = t.fills.items in
    let n = c.fills.self in
    let now = n.fills.items in
    let i = c.fills.i in
    let b = c.from-place.result in
    let is : b ≡ slice_index now i = c.from-place.ensures ∙ ap (λ xs. slice_index xs i) c.deref.ensures.0 in
    let k : i < length now = omega (arith, c.fills-test.true, c.len-i-end.ensures.value, c.fills.invariant.long) in
    let l : i < length fs = omega (arith, c.fills.invariant.long) in
    let page = ap (λ xs. s (page_at xs b)) (sym c.fills.invariant.places) in
    elim c.if-place-lt-PLACES.branch [
      | then-place-lt-PLACES+then-contains w ↦
          let small = w.if-place-lt-PLACES.true in
          let at : slice_index n.at b ≡ i = ap (slice_index n.at) is ∙ (n.ordered.there i k (subst (λ b. b < 64) is small)).1 in
          let left = ap (λ t. t.fills.items) w.self-is ∙ w.let_go.ensures.fills ∙ ap (λ m. slice_set now m 64) at in
          let taken : taken_by s (filled_at t.places (slice_index now i)) ≡ true =
          ap (taken_by s) (ap (filled_at t.places) (sym is) ∙ filled_here t.places b small) ∙ page ∙ sym w.contains.ensures ∙ w.if-contains.true in
          record {
            fills = left ∙ walk_drops (filled_at t.places) s fs now i l k c.fills.invariant.fills taken;
            long = ap length left ∙ length-set now i 64 ∙ c.fills.invariant.long;
            places = ap (λ t. t.places) w.self-is ∙ w.let_go.ensures.places ∙ c.fills.invariant.places;
          }
      | else-place-lt-PLACES w ↦
          let same = ap (λ t. t.fills.items) w.self-is in
          let other : taken_by s (filled_at t.places (slice_index now i)) ≡ false = elim w.else-place-lt-PLACES.branch [
            | else-place-lt-PLACES-via-then-place-lt-PLACES+else-contains v ↦
                ap (taken_by s) (ap (filled_at t.places) (sym is) ∙ filled_here t.places b v.if-place-lt-PLACES.true) ∙ page
                ∙ sym v.contains.ensures ∙ v.if-contains.false
            | else-place-lt-PLACES-via-else-place-lt-PLACES v ↦
                ap (taken_by s) (ap (filled_at t.places) (sym is) ∙ filled_none t.places b v.if-place-lt-PLACES.false)
          ] in
          record {
            fills = same ∙ walk_passes (filled_at t.places) s fs now i l k c.fills.invariant.fills other;
            long = ap length same ∙ c.fills.invariant.long;
            places = ap (λ t. t.places) w.self-is ∙ c.fills.invariant.places;
          }
    ]

pub returns : goal.returns
returns c =
    let t = c.args.self.now in
    let past : length t.fills.items ≤ c.fills.i = omega (arith, c.fills-test.false, c.len-i-end.ensures.value) in
    ap (λ xs. entries_of xs c.fills.self.fills.items) c.fills.invariant.places
    ∙ walk_done (filled_at t.places) (has c.args.range) t.fills.items c.fills.self.fills.items c.fills.i refl past c.fills.invariant.fills
