-- Orders at one moment are orders by the kernels' rule
use Rattle.std.proofs.Common.{◌≡◌, ℕ, ◌+◌, Bool, List, [], ◌∷◌, ap, length, refl, subst, sym}
use Rattle.slot_lock.proofs.Words.{put}
use Rattle.vm_base.specs.Places.{PlaceRule}
use Rattle.vm_base.specs.Plain.{Plain}
use Rattle.audit.specs.Placing.{rule_of}
use Rattle.orders.specs.declared.history.Item.{Item}
use Rattle.orders.specs.declared.history.Item.TheVariants as Of
use Rattle.orders.specs.declared.history.Timed.{Timed}
use Rattle.orders.specs.Orders.{EachOnce, KeepsTime}
use Rattle.orders.specs.Orders.{LeadAll as LeadAllAtOnce}
use Rattle.loose_orders.specs.declared.moves.Move.{Move}
use Rattle.loose_orders.specs.declared.moves.Move.TheVariants.{Reply, Copy}
use Rattle.loose_orders.specs.Kernel.{LeadAll, items}
use Rattle.loose_orders.specs.Laws.{OrdersKeepTheRule}
use Rattle.loose_orders.specs.Loose.{Loose, begun, replaced}

-- no access is late
abbrev move_of : Item → Move
move_of (Of.Reply i) = Reply i
move_of (Of.Copy i) = Copy i

abbrev moves_of : List Item → List Move
moves_of [] = []
moves_of (item ∷ rest) = move_of item ∷ moves_of rest

same_items : (xs : List Item) → items (moves_of xs) ≡ xs
same_items [] = refl
same_items (Of.Reply i ∷ xs) = ap (λ (ys : List Item). Of.Reply i ∷ ys) (same_items xs)
same_items (Of.Copy i ∷ xs) = ap (λ (ys : List Item). Of.Copy i ∷ ys) (same_items xs)

lead_so : (rule : PlaceRule) (moving : Bool) (h : List Timed) (all : List Move) (k : ℕ) (s : Loose) (xs : List Item) (u : Plain)
    → LeadAllAtOnce rule h s.plain xs u → (v : Loose) × LeadAll rule moving h all k s (moves_of xs) v
lead_so rule moving h all k s [] u l = (s, refl)
lead_so rule moving h all k s (Of.Reply i ∷ xs) u (m, (c, is, by), l) =
    let next : Loose = record { plain = m; old = put s.old i (replaced s.plain c.call) } in
    let rest = lead_so rule moving h all (k + 1) next xs u l in (rest.0, (next, (c, is, by, refl), rest.1))
lead_so rule moving h all k s (Of.Copy i ∷ xs) u (m, (c, is, copies), l) =
    let next : Loose = record { plain = m; old = s.old } in
    let rest = lead_so rule moving h all (k + 1) next xs u l in (rest.0, (next, (c, is, copies, refl), rest.1))

pub orders_keep_the_rule : OrdersKeepTheRule
orders_keep_the_rule any_place moving t h o =
    let led = lead_so (rule_of any_place) moving h (moves_of o.items) 0 (begun t) o.items o.is_order.last o.is_order.lead in
    record {
      moves = moves_of o.items;
      is_order = record {
        each_once = subst (λ (xs : List Item). EachOnce (length h) xs) (sym (same_items o.items)) o.is_order.each_once;
        keeps_time = subst (λ (xs : List Item). KeepsTime h xs) (sym (same_items o.items)) o.is_order.keeps_time;
        last = led.0;
        lead = led.1;
      };
    }
