-- What more nodes keep
use Rattle.std.proofs.Common.{◌≡◌, ℕ, Bool, zero, suc, ◌+◌, ◌<◌, ◌≤◌, ◌⊎◌, inl, inr, List, [], ◌∷◌, ◌++◌, Option, Some, None, arith, ap, length, map}
use Rattle.std.proofs.Common.{refl, replicate, set, slice_get, sym, subst, ◌∙◌}
use Rattle.std.proofs.lemmas.List.{length-replicate, length-set}
use Rattle.std.specs.Prelude.{option_map}
use Rattle.std.proofs.lemmas.Option.{slice_get-map}
use Rattle.vm_base.specs.declared.replies.Reply.{Reply}
use Rattle.vm_base.specs.Plain.{Plain, nothing_mapped}
use Rattle.frames.specs.Files.{FileParts, files_of}
use Rattle.litmus_merges.specs.declared.asked.Asked.{Asked}
use Rattle.litmus_merges.specs.Laws.{AreNamed, Follows, Has, IsClosedList}
use Rattle.litmus_merges.specs.Merging.{IsNext as IsNextCall, Point, TurnAt, start}
use Rattle.litmus_merges.specs.OneTurn.{TurnsTo}
use Rattle.litmus_merges.proofs.OneTurn.{one_turn}
use Rattle.litmus_merges.proofs.Orders.{all_ends}
use Rattle.litmus_merges.specs.declared.ending.End.{End}
use Rattle.litmus_merges.specs.declared.nodes.Node.{Node}
use Rattle.litmus_merges.specs.declared.change.MapChange.{MapChange}
use Rattle.litmus_merges.specs.Nodes.{AreAll, AreAllSound, AreBackward, AreEnds, AreReached, Comes, HasAlike, HasEndOf, HasPoint, HaveEnds}
use Rattle.litmus_merges.specs.Nodes.{IsExplored, IsNext, IsNextNode, IsNode, IsTurned, Keeps, point_of}
use Rattle.litmus_merges.specs.Steps.{AreSound, StepsAfter, after_any, map_of}
use Rattle.litmus_merges.proofs.Lists.{below, get_new, get_old, get_one, get_some, get_within, old_or_new}

pub keeps_refl : {A : Type 0} (nodes : List (Node A)) → Keeps nodes nodes
keeps_refl nodes j node e = e

pub keeps_trans : {A : Type 0} (a b c : List (Node A)) → Keeps a b → Keeps b c → Keeps a c
keeps_trans a b c h k j node e = k j node (h j node e)

-- the nodes are the same, or there is one more
abbrev pub Grows : {A : Type 0} → List (Node A) → List (Node A) → Node A → Type 0
Grows old new node = (new ≡ old) ⊎ (new ≡ old ++ node ∷ [])

pub grows_keeps : {A : Type 0} (old new : List (Node A)) (node : Node A) → Grows old new node → Keeps old new
grows_keeps old new node (inl e) = subst (Keeps old) (sym e) (keeps_refl old)
grows_keeps old new node (inr e) = subst (Keeps old) (sym e) (λ j other h. get_old old node other j h)

pub kept_within : {A : Type 0} (old new : List (Node A)) (j : ℕ) → Keeps old new → j < length old → j < length new
kept_within old new j h l = let x = get_some old j l in get_within new j x.0 (h j x.0 x.1)

pub point_kept : {A : Type 0} (o : List FileParts) (old new : List (Node A)) (q : Point) → Keeps old new → HasPoint o old q → HasPoint o new q
point_kept o old new q h p = (p.0, p.1, h p.0 p.1 p.2, p.3)

pub fewer : {A : Type 0} (o : List FileParts) (calls : List Asked) (nodes : List (Node A)) (n m : ℕ) → m ≤ n → IsExplored o calls nodes n
    → IsExplored o calls nodes m
fewer o calls nodes n m le h = record {
  each = h.each;
  comes = h.comes;
  closed = λ j node at q l e turn. h.closed j node at q (omega (arith, le, l)) e turn;
}

one_more : {A : Type 0} (o : List FileParts) (calls : List Asked) (nodes : List (Node A)) (from at : ℕ) (parent node : Node A)
    → IsExplored o calls nodes from → slice_get nodes from ≡ Some parent → IsNextNode o calls parent from at node
    → IsExplored o calls (nodes ++ node ∷ []) from
one_more {A} o calls nodes from at parent node h is next = record {
  each = λ j other e. each j other (old_or_new nodes node other j e);
  comes = λ j other e l. comes j other l (old_or_new nodes node other j e);
  closed = λ j other k q l e turn. closed j other k q l turn (old_or_new nodes node other j e);
}
  where
    grown : List (Node A)
    grown = nodes ++ node ∷ []

    keeps : Keeps nodes grown
    keeps j other e = get_old nodes node other j e

    each : (j : ℕ) (other : Node A) → (slice_get nodes j ≡ Some other) ⊎ ((j ≡ length nodes) × (node ≡ other)) → IsNode calls other
    each j other (inl old) = h.each j other old
    each j other (inr new) = subst (IsNode calls) new.1 next.node_is

    comes : (j : ℕ) (other : Node A) → zero < j → (slice_get nodes j ≡ Some other) ⊎ ((j ≡ length nodes) × (node ≡ other))
        → Comes o calls grown j other
    comes j other l (inl old) =
        let c = h.comes j other old l in
        record { earlier = c.earlier; parent = c.parent; is_parent = keeps other.from c.parent c.is_parent; turn = c.turn }
    comes j other l (inr new) =
        let within = get_within nodes from parent is in
        let place : node.from < length nodes = subst (λ (n : ℕ). n < length nodes) (sym next.from_is) within in
        let fresh : Comes o calls grown (length nodes) node = record {
          earlier = place;
          parent = parent;
          is_parent = subst (λ (n : ℕ). slice_get grown n ≡ Some parent) (sym next.from_is) (keeps from parent is);
          turn = subst (λ (n : ℕ). TurnAt calls (point_of o parent) n (point_of o node)) (sym next.at_is) next.turn;
        } in
        subst (λ (n : ℕ). Comes o calls grown n other) (sym new.0) (subst (λ (x : Node A). Comes o calls grown (length nodes) x) new.1 fresh)

    closed : (j : ℕ) (other : Node A) (k : ℕ) (q : Point) → j < from → TurnAt calls (point_of o other) k q
        → (slice_get nodes j ≡ Some other) ⊎ ((j ≡ length nodes) × (node ≡ other)) → HasPoint o grown q
    closed j other k q l turn (inl old) = point_kept o nodes grown q keeps (h.closed j other k q l old turn)
    closed j other k q l turn (inr new) =
        let within = get_within nodes from parent is in
        let at_end = new.0 in
        absurd (omega (arith, l, within, at_end))

pub grown : {A : Type 0} (o : List FileParts) (calls : List Asked) (old new : List (Node A)) (from at : ℕ) (parent node : Node A)
    → IsExplored o calls old from → slice_get old from ≡ Some parent → IsNextNode o calls parent from at node → Grows old new node
    → IsExplored o calls new from
grown o calls old new from at parent node h is next (inl e) = subst (λ xs. IsExplored o calls xs from) (sym e) h
grown o calls old new from at parent node h is next (inr e) =
    subst (λ xs. IsExplored o calls xs from) (sym e) (one_more o calls old from at parent node h is next)

-- ---- turns of one node

pub turned_none : {A : Type 0} (o : List FileParts) (calls : List Asked) (nodes : List (Node A)) (from at : ℕ) (parent : Node A)
    → slice_get nodes from ≡ Some parent → IsTurned o calls nodes from at → ((q : Point) → ¬ TurnAt calls (point_of o parent) at q)
    → IsTurned o calls nodes from (at + 1)
turned_none {A} o calls nodes from at parent is h none node k q l e turn = by (below k at l)
  where
    by : (k < at) ⊎ (k ≡ at) → HasPoint o nodes q
    by (inl lt) = h node k q lt e turn
    by (inr eq) = absurd (none q (subst (λ (x : Node A). TurnAt calls (point_of o x) at q) (get_one nodes from node parent e is)
        (subst (λ (n : ℕ). TurnAt calls (point_of o node) n q) eq turn)))

alike_point : {A : Type 0} (o : List FileParts) (nodes : List (Node A)) (node : Node A) → HasAlike nodes node → HasPoint o nodes (point_of o node)
alike_point {A} o nodes node h = (h.0, h.1, h.2, same h.1 h.3 h.4)
  where
    same : (other : Node A) → other.told.items ≡ node.told.items → other.steps.items ≡ node.steps.items → point_of o other ≡ point_of o node
    same other e f = ap (λ (told : List (Option Reply)). record { told = told; map = map_of o other.steps.items }) e
        ∙ ap (λ (steps : List MapChange). record { told = node.told.items; map = map_of o steps }) f

pub turned_some : {A : Type 0} (o : List FileParts) (calls : List Asked) (old new : List (Node A)) (from at : ℕ) (parent node : Node A)
    → slice_get old from ≡ Some parent → IsTurned o calls old from at → IsNextNode o calls parent from at node → Keeps old new
    → HasAlike new node → IsTurned o calls new from (at + 1)
turned_some {A} o calls old new from at parent node is h next keeps alike x k q l e turn = by (below k at l)
  where
    parent_is : x ≡ parent
    parent_is = get_one new from x parent e (keeps from parent is)

    there : TurnAt calls (point_of o parent) k q
    there = subst (λ (y : Node A). TurnAt calls (point_of o y) k q) parent_is turn

    by : (k < at) ⊎ (k ≡ at) → HasPoint o new q
    by (inl lt) = point_kept o old new q keeps (h parent k q lt is there)
    by (inr eq) = subst (HasPoint o new) (next.one q (subst (λ (n : ℕ). TurnAt calls (point_of o parent) n q) eq there)) (alike_point o new node alike)

-- all turns of the next node are there
pub turned_all : {A : Type 0} (o : List FileParts) (calls : List Asked) (nodes : List (Node A)) (from n : ℕ) → length calls ≤ n
    → IsExplored o calls nodes from → IsTurned o calls nodes from n → IsExplored o calls nodes (from + 1)
turned_all {A} o calls nodes from n le h t = record {
  each = h.each;
  comes = h.comes;
  closed = λ j node at q l e turn. by j node at q e turn (below j from l);
}
  where
    by : (j : ℕ) (node : Node A) (at : ℕ) (q : Point) → slice_get nodes j ≡ Some node → TurnAt calls (point_of o node) at q
        → (j < from) ⊎ (j ≡ from) → HasPoint o nodes q
    by j node at q e turn (inl lt) = h.closed j node at q lt e turn
    by j node at q e turn (inr eq) =
        let within = get_within calls at turn.call turn.next.is_call in
        t node at q (omega (arith, within, le)) (subst (λ (k : ℕ). slice_get nodes k ≡ Some node) eq e) turn

-- ---- the next node

abbrev as_point : List (Option Reply) → Plain → Point
as_point told t = record { told = told; map = t }

pub next_is : {A : Type 0} (o : List FileParts) (calls : List Asked) (node next : Node A) (from at : ℕ) (call : Asked) (reply : Option Reply) (step : Option MapChange)
    → AreNamed calls → IsNode calls node → IsNextCall calls node.told.items at call
    → TurnsTo (map_of o node.steps.items) call.core call.request reply (after_any (map_of o node.steps.items) step)
    → next.told.items ≡ set node.told.items at reply → StepsAfter node.steps.items step next.steps.items → AreSound next.steps.items
    → next.from ≡ from → next.at ≡ at → IsNextNode o calls node from at next
next_is o calls node next from at call reply step named is first turns told steps sound from_is at_is = record {
  from_is = from_is;
  at_is = at_is;
  turn = turn;
  one = λ q other. one_turn calls (point_of o node) (point_of o next) q at named turn other;
  node_is = record { told = ap length told ∙ (length-set node.told.items at reply ∙ is.told); sound = sound };
}
  where
    turn : TurnAt calls (point_of o node) at (point_of o next)
    turn = record {
      call = call;
      next = first;
      reply = reply;
      map = after_any (map_of o node.steps.items) step;
      turns = turns;
      is = ap (λ (x : List (Option Reply)). as_point x (map_of o next.steps.items)) told
          ∙ ap (as_point (set node.told.items at reply)) (steps (nothing_mapped (files_of o)));
    }

-- ---- the first node

pub first_explored : {A : Type 0} (o : List FileParts) (calls : List Asked) (node : Node A) → IsNode calls node → IsExplored o calls (node ∷ []) zero
first_explored {A} o calls node is = record {
  each = each;
  comes = comes;
  closed = λ j other at q l e turn. absurd (omega (arith, l));
}
  where
    each : (j : ℕ) (other : Node A) → slice_get (node ∷ []) j ≡ Some other → IsNode calls other
    each zero other e = let same : node ≡ other = cc in subst (IsNode calls) same is
    each (suc j) other e = absurd cc

    comes : (j : ℕ) (other : Node A) → slice_get (node ∷ []) j ≡ Some other → zero < j → Comes o calls (node ∷ []) j other
    comes zero other e l = absurd (omega (arith, l))
    comes (suc j) other e l = absurd cc

pub backward : {A : Type 0} (o : List FileParts) (calls : List Asked) (nodes : List (Node A)) (n : ℕ) → IsExplored o calls nodes n → AreBackward nodes
backward o calls nodes n h j node e l = (h.comes j node e l).earlier

pub all_sound : {A : Type 0} (o : List FileParts) (calls : List Asked) (nodes : List (Node A)) (n : ℕ) → IsExplored o calls nodes n → AreAllSound nodes
all_sound o calls nodes n h j node e = (h.each j node e).sound

-- ---- what was explored

start_is : {A : Type 0} (o : List FileParts) (calls : List Asked) (opening : List MapChange) (first : Node A) → first.told.items ≡ replicate (length calls) None
    → first.steps.items ≡ opening → point_of o first ≡ start calls (map_of o opening)
start_is o calls opening first told steps = ap (λ (x : List (Option Reply)). as_point x (map_of o first.steps.items)) told
    ∙ ap (λ (x : List MapChange). as_point (replicate (length calls) None) (map_of o x)) steps

pub reached : {A : Type 0} (o : List FileParts) (calls : List Asked) (addrs : List ℕ) (maps : Bool) (opening : List MapChange) (nodes : List (Node A)) (ends : List (End A)) (n : ℕ)
    (first : Node A) → first.told.items ≡ replicate (length calls) None → first.steps.items ≡ opening → slice_get nodes zero ≡ Some first
    → IsExplored o calls nodes n → AreEnds o addrs maps nodes ends → AreReached calls addrs maps (map_of o opening) ends
reached o calls addrs maps opening nodes ends n first told steps is h all k end e =
    let z = all k end e in
    let node = z.1 in
    let node_j = z.2 in
    let told_j = z.3 in
    let way = z.5 o calls n first node h is node_j in (
      map_of o node.steps.items,
      subst (λ (p : Point). Follows calls p end.order.items (as_point (map Some end.replies.items) (map_of o node.steps.items))) (start_is o calls opening first told steps)
          (subst (λ (x : List (Option Reply)). Follows calls (point_of o first) end.order.items (as_point x (map_of o node.steps.items))) told_j way),
      z.4,
    )

option_point : {A : Type 0} (o : List FileParts) (x : Option (Node A)) (q : Point) → option_map (point_of o) x ≡ Some q → (node : Node A) × (x ≡ Some node) × (point_of o node ≡ q)
option_point o None q e = absurd cc
option_point o (Some node) q e = let same : point_of o node ≡ q = cc in (node, refl, same)

has_point : {A : Type 0} (o : List FileParts) (nodes : List (Node A)) (q : Point) → Has (map (point_of o) nodes) q → HasPoint o nodes q
has_point o nodes q h =
    let z = option_point o (slice_get nodes h.0) q (sym (slice_get-map (point_of o) nodes h.0) ∙ h.1) in
    (h.0, z.0, z.1, z.2)

point_has : {A : Type 0} (o : List FileParts) (nodes : List (Node A)) (q : Point) → HasPoint o nodes q → Has (map (point_of o) nodes) q
point_has o nodes q h = (h.0, slice_get-map (point_of o) nodes h.0 ∙ (ap (option_map (point_of o)) h.2 ∙ ap Some h.3))

closed_list : {A : Type 0} (o : List FileParts) (calls : List Asked) (opening : List MapChange) (nodes : List (Node A)) (first : Node A)
    → first.told.items ≡ replicate (length calls) None → first.steps.items ≡ opening → slice_get nodes zero ≡ Some first
    → IsExplored o calls nodes (length nodes) → IsClosedList calls (map_of o opening) (map (point_of o) nodes)
closed_list {A} o calls opening nodes first told steps is h = record {
  first = point_has o nodes (start calls (map_of o opening)) (zero, first, is, start_is o calls opening first told steps);
  closed = λ p q at has turn. point_has o nodes q (next p q at (has_point o nodes p has) turn);
}
  where
    next : (p q : Point) (at : ℕ) → HasPoint o nodes p → TurnAt calls p at q → HasPoint o nodes q
    next p q at x turn = h.closed x.0 x.1 at q (get_within nodes x.0 x.1 x.2) x.2 (subst (λ (y : Point). TurnAt calls y at q) (sym x.3) turn)

pub all_found : {A : Type 0} (o : List FileParts) (calls : List Asked) (addrs : List ℕ) (maps : Bool) (opening : List MapChange) (nodes : List (Node A)) (ends : List (End A))
    (first : Node A) → first.told.items ≡ replicate (length calls) None → first.steps.items ≡ opening → slice_get nodes zero ≡ Some first
    → IsExplored o calls nodes (length nodes) → HaveEnds o addrs maps nodes (length nodes) ends → AreAll calls addrs maps (map_of o opening) ends
all_found o calls addrs maps opening nodes ends first told steps is h have replies u end =
    let has = has_point o nodes (as_point (map Some replies) u)
    (all_ends calls (map_of o opening) u (map (point_of o) nodes) replies (closed_list o calls opening nodes first told steps is h) end) in
    subst (HasEndOf ends replies addrs maps) (ap (λ (p : Point). p.map) has.3)
    (have has.0 has.1 replies (get_within nodes has.0 has.1 has.2) has.2 (ap (λ (p : Point). p.told) has.3))

-- ---- one call's turn

pub next_none : {A : Type 0} (o : List FileParts) (calls : List Asked) (node : Node A) (from at : ℕ) (x : Option (Node A)) → x ≡ None
    → IsNext o calls node from at x → (q : Point) → ¬ TurnAt calls (point_of o node) at q
next_none o calls node from at x e h = subst (IsNext o calls node from at) e h

pub next_some : {A : Type 0} (o : List FileParts) (calls : List Asked) (node next : Node A) (from at : ℕ) (x : Option (Node A)) → x ≡ Some next
    → IsNext o calls node from at x → IsNextNode o calls node from at next
next_some o calls node next from at x e h = subst (IsNext o calls node from at) e h

-- ---- from the first node on

pub start_explored : {A : Type 0} (o : List FileParts) (calls : List Asked) (opening : List MapChange) (nodes : List (Node A)) (first : Node A) → nodes ≡ first ∷ []
    → first.told.items ≡ replicate (length calls) None → first.steps.items ≡ opening → AreSound opening → IsExplored o calls nodes zero
start_explored o calls opening nodes first one told steps sound = subst (λ xs. IsExplored o calls xs zero) (sym one)
    (first_explored o calls first (record { told = ap length told ∙ length-replicate (length calls) None; sound = subst AreSound (sym steps) sound }))

pub start_kept : {A : Type 0} (old new : List (Node A)) (first : Node A) → old ≡ first ∷ [] → Keeps old new → slice_get new zero ≡ Some first
start_kept old new first one keeps = keeps zero first (ap (λ xs. slice_get xs zero) one)

pub pushed_alike : {A : Type 0} (old new : List (Node A)) (node : Node A) → new ≡ old ++ node ∷ [] → HasAlike new node
pushed_alike old new node e = (length old, node, ap (λ xs. slice_get xs (length old)) e ∙ get_new old node, refl, refl)
