-- Rows of the definition of an order: which calls overlap, which orders keep time, and a history with an order
use Rattle.std.proofs.Common.{◌≡◌, ℕ, zero, suc, ◌<◌, true, false, List, [], ◌∷◌, None, Some, arith, length, refl, slice_get}
use Rattle.vm_base.specs.declared.requests.Request.TheVariants.{Load}
use Rattle.vm_base.specs.declared.replies.Reply.TheVariants.{Segv}
use Rattle.vm_base.specs.declared.replies.SegvCode.TheVariants.{MapErr}
use Rattle.vm_base.specs.Places.{IsFirstPlace}
use Rattle.vm_base.specs.Plain.{Plain, nothing_mapped}
use Rattle.orders.specs.declared.history.Item.{Item}
use Rattle.orders.specs.declared.history.Item.TheVariants.{Reply, Copy}
use Rattle.orders.specs.declared.history.Timed.{Timed}
use Rattle.orders.specs.Once.{AllMarked}
use Rattle.orders.specs.Orders.{EachOnce, HasOrder, KeepsTime, LeadAll, Precedes}
use Rattle.orders.proofs.OnceLemmas.{mark_none, marks_all, marks_step, none_marked, unmarked}
use Rattle.orders.proofs.TimeLemmas.{goes_on, keeps, none_yet, too_late}

-- a load of a page that isn't mapped, at these times
abbrev a_load : ℕ → ℕ → Timed
a_load begin end = record { begin = begin; end = end; call = record { core = 0; request = Load 65536; reply = Segv MapErr } }

-- at a time in common two calls overlap, and a time later the first has ended
overlap : ¬ Precedes (a_load 1 5) (a_load 5 6)
overlap h = omega (arith, h)

ended : Precedes (a_load 1 5) (a_load 6 7)
ended = omega arith

abbrev turned : List Item
turned = Reply 1 ∷ Reply 0 ∷ []

-- so the second may come first, or may not
turned_keeps : KeepsTime (a_load 1 5 ∷ a_load 5 6 ∷ []) turned
turned_keeps = keeps (a_load 1 5 ∷ a_load 5 6 ∷ []) turned 2 5 (omega arith)
    (goes_on (a_load 1 5 ∷ a_load 5 6 ∷ []) turned 1 5 (Reply 0) (a_load 1 5) refl refl (omega arith)
    (goes_on (a_load 1 5 ∷ a_load 5 6 ∷ []) turned 0 0 (Reply 1) (a_load 5 6) refl refl (omega arith) (none_yet (a_load 1 5 ∷ a_load 5 6 ∷ []) turned)))

turned_breaks : ¬ KeepsTime (a_load 1 5 ∷ a_load 6 7 ∷ []) turned
turned_breaks = too_late (a_load 1 5 ∷ a_load 6 7 ∷ []) turned 1 6 (Reply 0) (a_load 1 5) refl refl (omega arith)
    (goes_on (a_load 1 5 ∷ a_load 6 7 ∷ []) turned 0 0 (Reply 1) (a_load 6 7) refl refl (omega arith) (none_yet (a_load 1 5 ∷ a_load 6 7 ∷ []) turned))

all : AllMarked (true ∷ true ∷ [])
all zero l = refl
all (suc zero) l = refl
all (suc (suc i)) l = absurd (omega (arith, l))

turned_once : EachOnce 2 turned
turned_once = marks_all 2 turned 2 (true ∷ true ∷ []) (omega arith)
    (marks_step 2 turned 1 (Reply 0) (false ∷ true ∷ []) refl refl
    (marks_step 2 turned 0 (Reply 1) (false ∷ false ∷ []) refl refl (none_marked 2 turned (false ∷ false ∷ []) refl (unmarked 2)))) all

-- a call that stands twice
twice : ¬ EachOnce 1 (Reply 0 ∷ Reply 0 ∷ [])
twice = mark_none 1 (Reply 0 ∷ Reply 0 ∷ []) 1 (Reply 0) (true ∷ []) refl refl
    (marks_step 1 (Reply 0 ∷ Reply 0 ∷ []) 0 (Reply 0) (false ∷ []) refl refl (none_marked 1 (Reply 0 ∷ Reply 0 ∷ []) (false ∷ []) refl (unmarked 1)))

-- a copy behind its call
behind : ¬ EachOnce 1 (Reply 0 ∷ Copy 0 ∷ [])
behind e = let less = e.copies 0 1 0 refl refl in absurd (omega (arith, less))

-- a copy of no call
without : ¬ EachOnce 1 (Copy 0 ∷ [])
without e = go (e.some 0 (omega arith))
  where
    go : (k : ℕ) × (slice_get (Copy 0 ∷ []) k ≡ Some (Reply 0)) → ⊥
    go (zero, h) = absurd cc
    go (suc k, h) = absurd cc

-- two loads where nothing is mapped have an order
two_loads : HasOrder IsFirstPlace (nothing_mapped (λ n. None)) (a_load 1 5 ∷ a_load 5 6 ∷ [])
two_loads = record {
  items = turned;
  is_order = record {
    keeps_time = turned_keeps;
    each_once = turned_once;
    last = nothing_mapped (λ n. None);
    lead = (
      nothing_mapped (λ n. None),
      (a_load 5 6, refl, (refl, refl)),
      (nothing_mapped (λ n. None), (a_load 1 5, refl, (refl, refl)), refl),
    );
  };
}
