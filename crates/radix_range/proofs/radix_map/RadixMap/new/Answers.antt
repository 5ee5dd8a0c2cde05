use Rattle.slot_lock.proofs.Words.{◌≡◌, ℕ, [], true, arith, has, has_in}
use Rattle.std.proofs.lemmas.List.Elements.{All-nil, All-same}
use Rattle.radix_range.specs.Tree.{tree_slots}
use Rattle.radix_range.specs.Tight.{IsTight}
use Rattle.radix_range.proofs.New.{new_radix, is_new, root_edged}
use Rattle.radix_range.proofs.radix_map.RadixMap.new.Goals as goal

pub invariant_of-result : goal.invariant_of-result
invariant_of-result g c = record {
  ok = new_radix c.in-Ok.root c.in-Ok.ensures.is c.in-Ok.ensures.whole;
  known = record {
    mapped = record { mapped = λ p h. absurd (no_page p h) };
    tight = All-same (IsTight (tree_slots c.in-Ok.root)) c.new-in-Ok.result.items [] c.new-in-Ok.ensures
        (All-nil (IsTight (tree_slots c.in-Ok.root)));
  };
}
  where
    no_page : (p : ℕ) → has (record { first = 0; end = 0 }) p ≡ true → ⊥
    no_page p h = let (low, high) = has_in _ p h in omega arith

pub returns-in-Ok-clause-new : goal.returns-in-Ok-clause-new
returns-in-Ok-clause-new g c = is_new c.in-Ok.root c.in-Ok.ensures.is

pub returns-in-Ok-clause-edges : goal.returns-in-Ok-clause-edges
returns-in-Ok-clause-edges g c = root_edged c.in-Ok.root c.in-Ok.ensures.is
