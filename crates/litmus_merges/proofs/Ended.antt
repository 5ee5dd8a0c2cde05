-- Ends of nodes
use Rattle.std.proofs.Common.{◌≡◌, ℕ, zero, ◌+◌, ◌<◌, ◌≤◌, ◌⊎◌, inl, inr, Bool, List, [], ◌∷◌, ◌++◌, Some, arith, ap, length, map, refl, slice_get}
use Rattle.std.proofs.Common.{sym, subst, ◌∙◌}
use Rattle.vm_base.specs.declared.replies.Reply.{Reply}
use Rattle.frames.specs.Files.{FileParts}
use Rattle.litmus_merges.specs.declared.asked.Asked.{Asked}
use Rattle.litmus_merges.specs.Laws.{Follows}
use Rattle.litmus_merges.specs.Merging.{TurnAt}
use Rattle.litmus_merges.specs.declared.ending.End.{End}
use Rattle.litmus_merges.specs.declared.nodes.Node.{Node}
use Rattle.slot_lock.specs.declared.map_list.MapLine.{MapLine}
use Rattle.litmus_merges.specs.Mappings.{IsSight}
use Rattle.litmus_merges.specs.Nodes.{AreBackward, AreEnds, AreOnce, HasEnd, HasEndOf, HaveEnds, IsExplored, IsOrderTo, point_of}
use Rattle.litmus_merges.specs.Steps.{map_of}
use Rattle.litmus_merges.proofs.Lists.{below, get_new, get_old, get_one, get_within, old_or_new, told_one}

-- ---- orders

-- turns in this order lead from the node at one place to that at another
abbrev pub IsWay : {A : Type 0} → List (Node A) → ℕ → ℕ → List ℕ → Type 0
IsWay {A} nodes at last order = (o : List FileParts) (calls : List Asked) (n : ℕ) (mid end : Node A)
    → IsExplored o calls nodes n → slice_get nodes at ≡ Some mid → slice_get nodes last ≡ Some end
    → Follows calls (point_of o mid) order (point_of o end)

pub no_way : {A : Type 0} (nodes : List (Node A)) (last : ℕ) (order : List ℕ) → order ≡ [] → IsWay nodes last last order
no_way {A} nodes last order none o calls n mid end h e f = subst (λ (xs : List ℕ). Follows calls (point_of o mid) xs (point_of o end)) (sym none)
    (ap (point_of o) (get_one nodes last end mid f e))

pub longer_way : {A : Type 0} (nodes : List (Node A)) (at last : ℕ) (node : Node A) (order more : List ℕ) → zero < at → slice_get nodes at ≡ Some node
    → more ≡ node.at ∷ order → IsWay nodes at last order → IsWay nodes node.from last more
longer_way {A} nodes at last node order more l is longer h o calls n mid end x e f =
    let c = x.comes at node is l in
    let same : c.parent ≡ mid = get_one nodes node.from c.parent mid c.is_parent e in
    subst (λ (xs : List ℕ). Follows calls (point_of o mid) xs (point_of o end)) (sym longer)
    (point_of o node, subst (λ (y : Node A). TurnAt calls (point_of o y) node.at (point_of o node)) same c.turn, h o calls n node end x is f)

pub whole_way : {A : Type 0} (nodes : List (Node A)) (at last : ℕ) (order : List ℕ) → at ≡ zero → IsWay nodes at last order → IsOrderTo nodes last order
whole_way {A} nodes at last order none h o calls n first end x e f =
    h o calls n first end x (subst (λ (k : ℕ). slice_get nodes k ≡ Some first) (sym none) e) f

-- the parent is one of the nodes
pub nearer : {A : Type 0} (nodes : List (Node A)) (at : ℕ) (node : Node A) → AreBackward nodes → slice_get nodes at ≡ Some node → zero < at → at < length nodes
    → node.from < length nodes
nearer nodes at node back is l within = let more = back at node is l in omega (arith, more, within)

-- ---- one more node looked at

pub end_kept : {A : Type 0} (ends : List (End A)) (end : End A) (replies finals : List Reply) (lines : List MapLine) → HasEnd ends replies finals lines → HasEnd (ends ++ end ∷ []) replies finals lines
end_kept ends end replies finals lines h = (h.0, h.1, get_old ends end h.1 h.0 h.2, h.3, h.4, h.5)

pub ends_more : {A : Type 0} (o : List FileParts) (addrs : List ℕ) (maps : Bool) (nodes : List (Node A)) (ends : List (End A)) (end : End A) (j : ℕ) (node : Node A)
    → AreEnds o addrs maps nodes ends → slice_get nodes j ≡ Some node → node.told.items ≡ map Some end.replies.items
    → IsSight (map_of o node.steps.items) addrs maps end.finals.items end.maps.items → IsOrderTo nodes j end.order.items → AreEnds o addrs maps nodes (ends ++ end ∷ [])
ends_more {A} o addrs maps nodes ends end j node all is told shown way k other e = by (old_or_new ends end other k e)
  where
    by : (slice_get ends k ≡ Some other) ⊎ ((k ≡ length ends) × (end ≡ other))
        → (i : ℕ) × (x : Node A) × (slice_get nodes i ≡ Some x) × (x.told.items ≡ map Some other.replies.items)
        × IsSight (map_of o x.steps.items) addrs maps other.finals.items other.maps.items × IsOrderTo nodes i other.order.items
    by (inl old) = all k other old
    by (inr new) = subst (λ (y : End A). (i : ℕ) × (x : Node A) × (slice_get nodes i ≡ Some x) × (x.told.items ≡ map Some y.replies.items)
        × IsSight (map_of o x.steps.items) addrs maps y.finals.items y.maps.items × IsOrderTo nodes i y.order.items) new.1 (j, node, is, told, shown, way)

pub once_more : {A : Type 0} (ends : List (End A)) (end : End A) → AreOnce ends → ¬ HasEnd ends end.replies.items end.finals.items end.maps.items
    → AreOnce (ends ++ end ∷ [])
once_more {A} ends end once none j k one other e f same alike mapped = by (old_or_new ends end one j e) (old_or_new ends end other k f)
  where
    its : (x y : End A) → x ≡ y → (x.replies.items ≡ y.replies.items) × (x.finals.items ≡ y.finals.items) × (x.maps.items ≡ y.maps.items)
    its x y e = (ap (λ (z : End A). z.replies.items) e, ap (λ (z : End A). z.finals.items) e, ap (λ (z : End A). z.maps.items) e)

    by : (slice_get ends j ≡ Some one) ⊎ ((j ≡ length ends) × (end ≡ one)) → (slice_get ends k ≡ Some other) ⊎ ((k ≡ length ends) × (end ≡ other)) → j ≡ k
    by (inl a) (inl b) = once j k one other a b same alike mapped
    by (inl a) (inr b) = let z = its end other b.1 in absurd (none (j, one, a, same ∙ sym z.0, alike ∙ sym z.1, mapped ∙ sym z.2))
    by (inr a) (inl b) = let z = its end one a.1 in absurd (none (k, other, b, sym same ∙ sym z.0, sym alike ∙ sym z.1, sym mapped ∙ sym z.2))
    by (inr a) (inr b) = a.0 ∙ sym b.0

pub have_none : {A : Type 0} (o : List FileParts) (addrs : List ℕ) (maps : Bool) (nodes : List (Node A)) (ends : List (End A)) (last : ℕ) (node : Node A)
    → HaveEnds o addrs maps nodes last ends → slice_get nodes last ≡ Some node → ((replies : List Reply) → ¬ node.told.items ≡ map Some replies)
    → HaveEnds o addrs maps nodes (last + 1) ends
have_none {A} o addrs maps nodes ends last node have is none j other replies l e told = by (below j last l)
  where
    by : (j < last) ⊎ (j ≡ last) → HasEndOf ends replies addrs maps (map_of o other.steps.items)
    by (inl lt) = have j other replies lt e told
    by (inr eq) = absurd (none replies (ap (λ (x : Node A). x.told.items)
        (get_one nodes last node other is (subst (λ (k : ℕ). slice_get nodes k ≡ Some other) eq e)) ∙ told))

pub have_more : {A : Type 0} (o : List FileParts) (addrs : List ℕ) (maps : Bool) (nodes : List (Node A)) (ends new : List (End A)) (last : ℕ) (node : Node A)
    (its finals : List Reply) (lines : List MapLine) → HaveEnds o addrs maps nodes last ends → slice_get nodes last ≡ Some node → node.told.items ≡ map Some its
    → IsSight (map_of o node.steps.items) addrs maps finals lines
    → ((replies shown : List Reply) (seen : List MapLine) → HasEnd ends replies shown seen → HasEnd new replies shown seen)
    → HasEnd new its finals lines → HaveEnds o addrs maps nodes (last + 1) new
have_more {A} o addrs maps nodes ends new last node its finals lines have is its_told shows keeps has j other replies l e told = by (below j last l)
  where
    by : (j < last) ⊎ (j ≡ last) → HasEndOf new replies addrs maps (map_of o other.steps.items)
    by (inl lt) = let z = have j other replies lt e told in (z.0, z.1, z.2, keeps replies z.0 z.1 z.3)
    by (inr eq) =
        let same : node ≡ other = get_one nodes last node other is (subst (λ (k : ℕ). slice_get nodes k ≡ Some other) eq e) in (
          finals,
          lines,
          subst (λ (x : Node A). IsSight (map_of o x.steps.items) addrs maps finals lines) same shows,
          subst (λ (ys : List Reply). HasEnd new ys finals lines) (told_one its replies (sym its_told ∙ (ap (λ (x : Node A). x.told.items) same ∙ told))) has,
        )

pub has_new : {A : Type 0} (ends : List (End A)) (end : End A) → HasEnd (ends ++ end ∷ []) end.replies.items end.finals.items end.maps.items
has_new ends end = (length ends, end, get_new ends end, refl, refl, refl)

-- the end has these replies, finals and mappings
abbrev pub IsThis : {A : Type 0} → End A → List Reply → List Reply → List MapLine → Type 0
IsThis end replies finals lines = (end.replies.items ≡ replies) × (end.finals.items ≡ finals) × (end.maps.items ≡ lines)

-- none of the first so many ends has these
abbrev pub NoneHas : {A : Type 0} → List (End A) → ℕ → List Reply → List Reply → List MapLine → Type 0
NoneHas {A} ends n replies finals lines = (j : ℕ) (end : End A) → j < n → slice_get ends j ≡ Some end → ¬ IsThis end replies finals lines

pub none_has : {A : Type 0} (ends : List (End A)) (replies finals : List Reply) (lines : List MapLine) → NoneHas ends zero replies finals lines
none_has ends replies finals lines j end l e = absurd (omega (arith, l))

pub more_none : {A : Type 0} (ends : List (End A)) (k : ℕ) (end : End A) (replies finals : List Reply) (lines : List MapLine) → slice_get ends k ≡ Some end
    → ¬ IsThis end replies finals lines → NoneHas ends k replies finals lines → NoneHas ends (k + 1) replies finals lines
more_none {A} ends k end replies finals lines is ne h j other l e = by (below j k l)
  where
    by : (j < k) ⊎ (j ≡ k) → ¬ IsThis other replies finals lines
    by (inl lt) = h j other lt e
    by (inr eq) = subst (λ (x : End A). ¬ IsThis x replies finals lines)
        (get_one ends k end other is (subst (λ (n : ℕ). slice_get ends n ≡ Some other) eq e)) ne

pub has_none : {A : Type 0} (ends : List (End A)) (k : ℕ) (replies finals : List Reply) (lines : List MapLine) → length ends ≤ k → NoneHas ends k replies finals lines
    → ¬ HasEnd ends replies finals lines
has_none ends k replies finals lines le h x =
    let within = get_within ends x.0 x.1 x.2 in
    h x.0 x.1 (omega (arith, le, within)) x.2 (x.3, x.4, x.5)

-- ---- all nodes

pub no_ends : {A : Type 0} (o : List FileParts) (addrs : List ℕ) (maps : Bool) (nodes : List (Node A)) (ends : List (End A)) → ends ≡ [] → AreEnds o addrs maps nodes ends
no_ends {A} o addrs maps nodes ends none = subst (AreEnds o addrs maps nodes) (sym none) (λ k end e. absurd cc)

pub once_none : {A : Type 0} (ends : List (End A)) → ends ≡ [] → AreOnce ends
once_none {A} ends none = subst AreOnce (sym none) (λ j k one other e f same alike mapped. absurd cc)

pub have_zero : {A : Type 0} (o : List FileParts) (addrs : List ℕ) (maps : Bool) (nodes : List (Node A)) (ends : List (End A)) → HaveEnds o addrs maps nodes zero ends
have_zero o addrs maps nodes ends j node replies l e told = absurd (omega (arith, l))

pub have_all : {A : Type 0} (o : List FileParts) (addrs : List ℕ) (maps : Bool) (nodes : List (Node A)) (ends : List (End A)) (n : ℕ) → length nodes ≤ n
    → HaveEnds o addrs maps nodes n ends → HaveEnds o addrs maps nodes (length nodes) ends
have_all o addrs maps nodes ends n le h j node replies l e told = h j node replies (omega (arith, l, le)) e told
