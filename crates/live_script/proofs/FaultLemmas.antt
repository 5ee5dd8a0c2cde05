-- The first of several faults
use Rattle.std.proofs.Common.{◌≡◌, ℕ, ◌+◌, ◌<◌, List, [], ◌∷◌, ◌++◌, take, drop, length, map, get_or, refl, sym, ap, ◌∙◌}
use Rattle.std.proofs.lemmas.List.{take_more, drop_more, take-append-drop, map-append}
use Rattle.std.specs.Prelude.{Option, None, Some}
use Rattle.live_space.specs.declared.fault.LiveFault.{LiveFault}
use Rattle.live_script.specs.declared.lane.Lane.{Lane}
use Rattle.live_script.specs.Runs.{first_fault}

-- behind lanes that didn't stop
first_behind : (fs gs : List (Option LiveFault)) → first_fault fs ≡ None → first_fault (fs ++ gs) ≡ first_fault gs
first_behind [] gs e = refl
first_behind (None ∷ fs) gs e = first_behind fs gs e
first_behind (Some f ∷ fs) gs e = absurd (cc)

first_is : (o : Option LiveFault) (fs : List (Option LiveFault)) (f : LiveFault) → o ≡ Some f → first_fault (o ∷ fs) ≡ Some f
first_is o fs f e = rw e refl

none_is : (o : Option LiveFault) → o ≡ None → first_fault (o ∷ []) ≡ None
none_is o e = rw e refl

module _ {A : Type 0} (lanes : List (Lane A)) (n : ℕ) (d : Lane A) (lt : n < length lanes)
    (none : first_fault (map (λ lane. lane.fault) (take n lanes)) ≡ None) where
  -- nor did the next one stop
  pub none_more : (get_or lanes n d).fault ≡ None → first_fault (map (λ lane. lane.fault) (take (n + 1) lanes)) ≡ None
  none_more e =
      ap (λ l. first_fault (map (λ lane. lane.fault) l)) (take_more lanes n d lt)
      ∙ ap first_fault (map-append (λ lane. lane.fault) (take n lanes) (get_or lanes n d ∷ []))
      ∙ first_behind (map (λ lane. lane.fault) (take n lanes)) ((get_or lanes n d).fault ∷ []) none ∙ none_is (get_or lanes n d).fault e

  -- the next one is the first that stopped
  pub some_next : (fault : LiveFault) → (get_or lanes n d).fault ≡ Some fault → first_fault (map (λ lane. lane.fault) lanes) ≡ Some fault
  some_next fault e =
      ap (λ l. first_fault (map (λ lane. lane.fault) l)) (sym (take-append-drop n lanes) ∙ ap (λ l. take n lanes ++ l) (drop_more lanes n d lt))
      ∙ ap first_fault (map-append (λ lane. lane.fault) (take n lanes) (get_or lanes n d ∷ drop (n + 1) lanes))
      ∙ first_behind (map (λ lane. lane.fault) (take n lanes)) ((get_or lanes n d).fault ∷ map (λ lane. lane.fault) (drop (n + 1) lanes)) none
      ∙ first_is (get_or lanes n d).fault (map (λ lane. lane.fault) (drop (n + 1) lanes)) fault e
