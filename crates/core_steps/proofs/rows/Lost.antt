-- Frames that are counted down, page by page
use Rattle.machine_model.proofs.Words.{◌≡◌, ℕ, ◌+◌, ◌-◌, ◌<◌, ◌≤◌, List, ◌∷◌, drop, length, get_or, Option, Some, None, true, false, sym, ap, subst}
use Rattle.machine_model.proofs.Words.{refl, arith, ◌∙◌, IfSome}
use Rattle.machine_model.proofs.Words.{∥∥₁_elim, props, PageInfo, frame_of, has, in_has, Change, Put, Clear, Protect, range_of, frames_in, Slots}
use Rattle.machine_model.proofs.Words.{Counts, Takes, Dec, CountsOne, frame_lost}
use Rattle.machine_model.proofs.Words.{World}
use Rattle.std.proofs.Common.{is_some}
use Rattle.std.proofs.lemmas.List.{drop_all, drop_more}
use Rattle.slot_lock.specs.declared.framed.Framed.{Framed}
use Rattle.slot_lock.specs.declared.survey.Survey.{Survey}
use Rattle.slot_lock.specs.Framed.{ListsFrames}
use Rattle.slot_lock.specs.Surveys.{IsSurvey}
use Rattle.machine_model.specs.Counting.{CountsDown}
use Rattle.machine_model.proofs.Counted.{counts_down}
use Rattle.machine_model.proofs.CountingDown.{CountsUpTo, counted_still, counts_from, counts_next, counts_past}
use Rattle.core_steps.specs.Taking.{AreCounted, IsCounted}

-- ---- one page

pub lost_page : (c : ℕ) (frame : ℕ → Option ℕ) (page : ℕ) (o : Option ℕ) (v w : Counts) → frame page ≡ o → CountsOne c o v w → CountsDown c frame page 1 v w
unfolding CountsDown
lost_page c frame page o v w e h = (w, subst (λ o. CountsOne c o v w) (sym e) h, refl)

-- the page loses what is counted
pub lost_counted : (change : Change) (info : Option PageInfo) (counts : Counts) (f : ℕ) → IfSome (frame_of info) (IsCounted counts)
    → frame_lost change (λ p. info) 0 ≡ Some f → IsCounted counts f
lost_counted (Protect range prot) info counts f counted e = absurd cc
lost_counted change info counts f counted e = subst (λ o. IfSome o (IsCounted counts)) e counted

-- ---- listed pages

-- what an index past the end would read
abbrev unread : Framed
unread = record { page = 0; frame = 0 }

-- Core c has counted down the frames of the pages from first up to one. From there up to another page those are left that are listed from k on.
pub record CountsListed (c : ℕ) (frame : ℕ → Option ℕ) (first upto : ℕ) (xs : List Framed) (k : ℕ) (v w : Counts) : Type 0 where
  pub from : ℕ
  pub low : first ≤ from
  pub high : from ≤ upto
  pub left : ListsFrames frame from upto (drop k xs)
  pub counted : CountsUpTo c frame first from v w

-- the one at k is next
next : (frame : ℕ → Option ℕ) (from upto : ℕ) (xs : List Framed) (k : ℕ) → k < length xs → ListsFrames frame from upto (drop k xs)
    → ListsFrames frame from upto (get_or xs k unread ∷ drop (k + 1) xs)
next frame from upto xs k l h = subst (ListsFrames frame from upto) (drop_more xs k unread l) h

pub listed_next : (c : ℕ) (frame : ℕ → Option ℕ) (first upto : ℕ) (xs : List Framed) (k : ℕ) (v m w : Counts) → k < length xs
    → CountsListed c frame first upto xs k v m → Takes m (Dec c (get_or xs k unread).frame) w → CountsListed c frame first upto xs (k + 1) v w
listed_next c frame first upto xs k v m w l h step =
    let x = get_or xs k unread in
    let n = next frame h.from upto xs k l h.left in
    let low = h.low in let above = n.0 in let below = n.1 in
    record {
      from = x.page + 1;
      low = omega (arith, low, above);
      high = omega (arith, below);
      left = n.4;
      counted = counts_next c frame first x.page x.frame v m w (omega (arith, low, above)) n.3 step
          (counts_past c frame first h.from x.page v m low above n.2 h.counted);
    }

pub listed_all : (c : ℕ) (frame : ℕ → Option ℕ) (first upto : ℕ) (xs : List Framed) (k : ℕ) (v w : Counts) → length xs ≤ k
    → CountsListed c frame first upto xs k v w → CountsUpTo c frame first upto v w
listed_all c frame first upto xs k v w l h =
    counts_past c frame first h.from upto v w h.low h.high (subst (ListsFrames frame h.from upto) (drop_all k xs l) h.left) h.counted

-- it is still counted, by the same cores
pub listed_known : (s : Slots) (c first upto : ℕ) (xs : List Framed) (k : ℕ) (v w : Counts) → k < length xs → AreCounted s v → c < v.cores
    → CountsListed c (frames_in s) first upto xs k v w → (c < w.cores) × IsCounted w (get_or xs k unread).frame
listed_known s c first upto xs k v w l are here h =
    ∥∥₁_elim are.well (hlevel props) (λ g.
    let u : World = record are.rest { slots = s; memory = record are.rest.memory { counts = v } } in
    let x = get_or xs k unread in
    let n = next (frames_in s) h.from upto xs k l h.left in
    let m = counts_down u.made u.memory c (frames_in s) first (h.from - first) w g.order.memory h.counted in (
      subst (λ n. c < n) (g.order.memory.cores ∙ sym m.cores) here,
      record {
        object = subst (λ n. x.frame < n) (sym m.objects) ((g.order.pages x.page).frame x.frame n.3);
        used = counted_still u g.order g.counted c first h.from w h.low h.counted x.frame x.page n.0 n.3;
      },
    ))

-- ---- pages that were surveyed

-- where none has a frame, none is counted down
pub none_lost : (c : ℕ) (change : Change) (s : Slots) (found : Survey) (v : Counts) → (range_of change).first < (range_of change).end
    → IsSurvey s (range_of change) found → found.framed ≡ false
    → CountsUpTo c (frame_lost change s.info) (range_of change).first (range_of change).end v v
none_lost c change s found v some h none =
    let r = range_of change in
    counts_past c (frame_lost change s.info) r.first r.first r.end v v (omega arith) (omega (arith, some))
    (λ p low high. lost change (frame_of (s.info p)) p refl (in_has r p low high)) (counts_from c (frame_lost change s.info) r.first v)
  where
    bare : (p : ℕ) → has (range_of change) p ≡ true → (o : Option ℕ) → frame_of (s.info p) ≡ o → o ≡ None
    bare p inside None e = refl
    bare p inside (Some f) e = let wrong : false ≡ true = sym none ∙ h.framed.1 (p, inside, ap is_some e) in absurd cc

    lost : (x : Change) (o : Option ℕ) (p : ℕ) → frame_of (s.info p) ≡ o → has (range_of change) p ≡ true → frame_lost x s.info p ≡ None
    lost (Put range meta) o p e inside = e ∙ bare p inside o e
    lost (Clear range) o p e inside = e ∙ bare p inside o e
    lost (Protect range prot) o p e inside = refl
