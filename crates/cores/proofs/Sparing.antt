-- What is a core of a history is one, too, where calls did not take effect that may not have
use Rattle.std.proofs.Common.{◌≡◌, ◌∙◌, ℕ, ◌⊎◌, inl, inr, ◌||◌, nat_lt, Bool, true, false, List, [], ◌∷◌, Option, Some, ap, refl, slice_get, subst, sym}
use Rattle.std.specs.Prelude.{not}
use Rattle.vm_base.specs.declared.page.PageRange.{PageRange}
use Rattle.vm_base.specs.Plain.{File, nothing_mapped}
use Rattle.audit.specs.Placing.{rule_of}
use Rattle.orders.specs.declared.history.Timed.{Timed}
use Rattle.cores.specs.declared.finding.Core.{Core}
use Rattle.cores.specs.declared.kept.Kept.{Kept}
use Rattle.cores.specs.Cores.{AreAll, AreTimely, HasNone, IsAmong, IsBase, IsBuiltBy, IsChoice, IsCore, IsKept, IsStart, is_left_out}
use Rattle.cores.specs.Effects.{AreTold, IsMade, took}
use Rattle.cores.specs.Parts.{IsResetAt, is_quiet, misses}
use Rattle.cores.specs.Shown.{IsShown, IsShownBut, IsShownOf}
use Rattle.cores.proofs.Choosing.{choose, choose_in, choose_of, choose_rises, put_if}
use Rattle.cores.proofs.Refuting.{closed_if, core_refutes}

-- ---- tests

or_last : (a b q m : Bool) → q ≡ true → (a || b || (q || m)) ≡ true
or_last true b q m e = refl
or_last false true q m e = refl
or_last false false true m e = refl
or_last false false false m e = absurd cc

not_true : (b : Bool) → b ≡ false → not b ≡ true
not_true true e = absurd cc
not_true false e = refl

was_false : (b : Bool) → not b ≡ true → b ≡ false
was_false true e = absurd cc
was_false false e = refl

-- ---- those that took effect

abbrev stays : {h : List Timed} {effects : List Bool} {made : List Timed} → IsMade h effects made → ℕ → Bool
stays m i = not (m.spared i)

-- one that surely did is not spared
not_spared : (h : List Timed) (effects : List Bool) (made : List Timed) (m : IsMade h effects made) (i : ℕ) → took effects i ≡ true → m.spared i ≡ false
not_spared h effects made m i sure = go (m.spared i) refl
  where
    go : (b : Bool) → m.spared i ≡ b → b ≡ false
    go true e = let wrong : false ≡ true = sym (m.unsure i e) ∙ sure in absurd cc
    go false e = refl

kept_made : (h : List Timed) (effects : List Bool) (made : List Timed) (m : IsMade h effects made) (p : PageRange) (number : ℕ) (first : Timed) (cut : ℕ)
    (k : Kept) → IsKept h p number first cut k → stays m k.number ≡ true → IsKept made p number first cut k
kept_made h effects made m p number first cut k q stayed = record {
  whole = q.whole;
  at = m.same k.number q.whole q.at (was_false (m.spared k.number) stayed);
  begins = q.begins;
  ends = q.ends;
  part = q.part;
  other = q.other;
  sure = q.sure;
}

same_call : (c d : Timed) → Some c ≡ Some d → c ≡ d
same_call c d e = cc

all_made : (h : List Timed) (effects : List Bool) (made : List Timed) (m : IsMade h effects made) (p : PageRange) (number : ℕ) (first : Timed) (cut : ℕ)
    (ks : List Kept) → AreAll h p number first cut ks → AreAll made p number first cut (choose (stays m) ks)
all_made h effects made m p number first cut ks a = record {
  kept = λ n k e. let w = choose_of (stays m) ks n k e in kept_made h effects made m p number first cut k (a.kept w.at k w.is) w.stood;
  rises = choose_rises 0 (stays m) ks a.rises;
  all = λ i c e. by i c e (m.known i c e);
}
  where
    among : (i : ℕ) → m.spared i ≡ false → IsAmong i ks → IsAmong i (choose (stays m) ks)
    among i stayed r =
        let here : stays m r.1.number ≡ true = not_true (m.spared r.1.number) (ap m.spared r.3 ∙ stayed) in
        let c = choose_in (stays m) ks r.0 r.1 r.2 here in
        (c.0, r.1, c.1, r.3)

    kept_one : (i : ℕ) (c d : Timed) → c ≡ d → m.spared i ≡ false → (i ≡ number) ⊎ ((is_left_out p first cut d ≡ true) ⊎ IsAmong i ks)
        → (i ≡ number) ⊎ ((is_left_out p first cut c ≡ true) ⊎ IsAmong i (choose (stays m) ks))
    kept_one i c d same stayed (inl e) = inl e
    kept_one i c d same stayed (inr (inl out)) = inr (inl (subst (λ (x : Timed). is_left_out p first cut x ≡ true) (sym same) out))
    kept_one i c d same stayed (inr (inr r)) = inr (inr (among i stayed r))

    out : (c g : Timed) → c ≡ g → is_quiet g.call.reply ≡ true → is_left_out p first cut c ≡ true
    out c g same quiet =
        or_last (nat_lt c.end first.begin) (nat_lt cut c.begin) (is_quiet c.call.reply) (misses p c.call.request c.call.reply)
        (subst (λ (x : Timed). is_quiet x.call.reply ≡ true) (sym same) quiet)

    by : (i : ℕ) (c : Timed) → slice_get made i ≡ Some c → (d : Timed) × (slice_get h i ≡ Some d)
        → (i ≡ number) ⊎ ((is_left_out p first cut c ≡ true) ⊎ IsAmong i (choose (stays m) ks))
    by i c e d = go (m.spared i) refl
      where
        go : (b : Bool) → m.spared i ≡ b → (i ≡ number) ⊎ ((is_left_out p first cut c ≡ true) ⊎ IsAmong i (choose (stays m) ks))
        go true gone =
            let g = m.gone i d.0 d.1 gone in
            inr (inl (out c g.0 (same_call c g.0 (sym e ∙ g.1)) g.2.quiet))
        go false stayed = kept_one i c d.0 (same_call c d.0 (sym e ∙ m.same i d.0 d.1 stayed)) stayed (a.all i d.0 d.1)

-- ---- those that build the map

timely_made : (by : ℕ → Bool) (built : ℕ) (ks : List Kept) → AreTimely built ks → AreTimely built (choose by ks)
timely_made by built [] t = tt
timely_made by built (k ∷ ks) t = go (by k.number) (timely_made by built ks t.1)
  where
    go : (b : Bool) → AreTimely built (choose by ks) → AreTimely built (put_if b k (choose by ks))
    go true more = (t.0, more)
    go false more = more

built_made : (h : List Timed) (effects : List Bool) (made : List Timed) (m : IsMade h effects made) (x built : ℕ) (ks : List Kept) → AreTimely built ks
    → AreTold effects ks → IsBuiltBy x built ks → IsBuiltBy x built (choose (stays m) ks)
built_made h effects made m x built [] t told b = b
built_made h effects made m x built (k ∷ ks) t told (inl here) =
    subst (λ (b : Bool). IsBuiltBy x built (put_if b k (choose (stays m) ks))) (sym stayed) (inl here)
  where
    stayed : stays m k.number ≡ true
    stayed = not_true (m.spared k.number) (not_spared h effects made m k.number (told.0 (closed_if built k t.0 here.0)))
built_made h effects made m x built (k ∷ ks) t told (inr more) = go (stays m k.number) (built_made h effects made m x built ks t.1 told.1 more)
  where
    go : (b : Bool) → IsBuiltBy x built (choose (stays m) ks) → IsBuiltBy x built (put_if b k (choose (stays m) ks))
    go true rest = inr rest
    go false rest = rest

base_made : (h : List Timed) (effects : List Bool) (made : List Timed) (m : IsMade h effects made) (p : PageRange) (start : Timed) (built : ℕ)
    (ks : List Kept) → AreTold effects ks → IsBase p start built ks → IsBase p start built (choose (stays m) ks)
base_made h effects made m p start built ks told (inl reset) = inl reset
base_made h effects made m p start built ks told (inr b) = inr (record {
  first = b.first;
  sets = b.sets;
  timely = timely_made (stays m) built ks b.timely;
  pages = λ x in_p. by x (b.pages x in_p);
})
  where
    by : (x : ℕ) → IsResetAt x start.call.request start.call.reply ⊎ IsBuiltBy x built ks
        → IsResetAt x start.call.request start.call.reply ⊎ IsBuiltBy x built (choose (stays m) ks)
    by x (inl reset) = inl reset
    by x (inr more) = inr (built_made h effects made m x built ks b.timely told more)

-- ---- the law

-- what is chosen of them is chosen of all
choice_back : (h : List Timed) (effects : List Bool) (made : List Timed) (m : IsMade h effects made) (ks chosen : List Kept) → AreTold effects ks
    → IsChoice (choose (stays m) ks) chosen → IsChoice ks chosen
choice_back h effects made m [] chosen told c = c
choice_back h effects made m (k ∷ ks) chosen told c = go (λ rest d. choice_back h effects made m ks rest told.1 d) (m.spared k.number) refl c
  where
    open_if : (b : Bool) → k.is_open ≡ b → m.spared k.number ≡ true → b ≡ true
    open_if true e gone = refl
    open_if false e gone = let wrong : true ≡ false = sym (told.0 e) ∙ m.unsure k.number gone in absurd cc

    go : ((rest : List Kept) → IsChoice (choose (stays m) ks) rest → IsChoice ks rest) → (b : Bool) → m.spared k.number ≡ b
        → IsChoice (put_if (not b) k (choose (stays m) ks)) chosen → IsChoice (k ∷ ks) chosen
    go more true gone d = inr (open_if k.is_open refl gone, more chosen d)
    go more false stayed (inl d) = inl (d.0, d.1, more d.0 d.2)
    go more false stayed (inr d) = inr (d.0, more chosen d.1)

core_made : (h : List Timed) (effects : List Bool) (made : List Timed) (m : IsMade h effects made) (p : PageRange) (number : ℕ) (first start : Timed)
    (built cut : ℕ) (ks : List Kept) → IsCore h p number first start built cut ks → took effects number ≡ true → AreTold effects ks
    → IsCore made p number first start built cut (choose (stays m) ks)
core_made h effects made m p number first start built cut ks core sure told = record {
  at = m.same number first core.at (not_spared h effects made m number sure);
  starts = core.starts;
  base = base_made h effects made m p start built ks told core.base;
  all = all_made h effects made m p number first cut ks core.all;
}

pub shown_but : {A : Type 0} (any_place : Bool) (files : ℕ → Option File) (h : List Timed) (effects : List Bool) (core : Core A) (front : List Timed)
    → Some core.first ≡ slice_get h core.number → IsStart core.pages core.first core.start → IsBase core.pages core.start core.built core.kept.items
    → AreAll h core.pages core.number core.first core.cut core.kept.items → took effects core.number ≡ true → AreTold effects core.kept.items
    → front ≡ core.start ∷ [] → HasNone (rule_of any_place) (nothing_mapped files) front core.kept.items → IsShownOf any_place h effects core
shown_but any_place files h effects core front at start base all sure told is none =
    let i : IsCore h core.pages core.number core.first core.start core.built core.cut core.kept.items =
    record { at = sym at; starts = start; base = base; all = all } in
    let alone = subst (λ (f : List Timed). HasNone (rule_of any_place) (nothing_mapped files) f core.kept.items) is none in
    record {
      is = i;
      first = sure;
      told = told;
      files = files;
      alone = alone;
      none = λ t made m. core_refutes (rule_of any_place) t (nothing_mapped files) made core.pages core.number core.first core.start core.built core.cut
          (choose (stays m) core.kept.items)
          (core_made h effects made m core.pages core.number core.first core.start core.built core.cut core.kept.items i sure told)
          (λ chosen c. alone chosen (choice_back h effects made m core.kept.items chosen told c));
    }

-- where all took effect
all_took : (h : List Timed) → IsMade h [] h
all_took h = record {
  spared = λ i. false;
  unsure = λ i e. absurd cc;
  same = λ i c e f. e;
  gone = λ i c e f. absurd cc;
  known = λ i d e. (d, e);
}

pub shown_all : {A : Type 0} (any_place : Bool) (h : List Timed) (core : Core A) → IsShownBut any_place h [] core → IsShown any_place h core
shown_all any_place h core s = record { seen = s.seen; sees = s.sees; shown = s.shown; none = λ t. s.none t h (all_took h) }
