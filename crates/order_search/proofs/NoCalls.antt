-- No items are those of no calls
use Rattle.std.proofs.Common.{◌≡◌, ℕ, List, [], arith, subst, sym}
use Rattle.orders.specs.declared.history.Item.{Item}
use Rattle.orders.specs.Orders.{EachOnce}

none_once : EachOnce 0 []
none_once = record {
  known = λ k item e. absurd cc;
  some = λ i less. (let none : ⊥ = omega (arith, less) in absurd none);
  once = λ i j k e f. absurd cc;
  copies = λ i j k e f. absurd cc;
}

pub none_found : (count : ℕ) (items : List Item) → count ≡ 0 → items ≡ [] → EachOnce count items
none_found count items e f =
    subst (λ (n : ℕ). EachOnce n items) (sym e) (subst (λ (is : List Item). EachOnce 0 is) (sym f) none_once)
