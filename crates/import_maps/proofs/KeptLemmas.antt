-- What is known to be mapped after the first requests, where one more comes, and where all are looked at.
use Rattle.std.proofs.Common.{◌≡◌, ℕ, ◌≤◌, List, [], ◌∷◌, ◌++◌, length, drop, arith, refl, sym, ap, ◌∙◌, subst, length-append}
use Rattle.std.proofs.lemmas.List.{drop-append-le}
use Rattle.import_maps.specs.Kept.{AreKept}
use Rattle.import_maps.specs.Ranges.{changed, changed_all, ranges_of}
use Rattle.import_maps.specs.Steps.{head_of, steps_kept, widths}
use Rattle.import_maps.specs.declared.ranges.MappedRange.{MappedRange}
use Rattle.import_maps.specs.declared.steps.Head.{Head}
use Rattle.import_maps.specs.declared.steps.TraceRequest.{TraceRequest}
use Rattle.import_maps.proofs.StepLemmas.{numbers_of, steps_push, widths_push}

changed-more : (rs : List MappedRange) (ss : List TraceRequest) (s : TraceRequest) → changed_all rs (ss ++ s ∷ []) ≡ changed (changed_all rs ss) s
changed-more rs [] s = refl
changed-more rs (t ∷ ts) s = changed-more (changed rs t) ts s

-- nothing is known yet
pub kept_new : (hs : List Head) (ns : List ℕ) → length ns ≡ widths hs → AreKept hs ns 0 0 []
kept_new hs ns e = record {
  whole = e;
  seen_few = omega arith;
  behind_few = omega arith;
  rest = e;
  mapped = refl;
}

-- one more request
pub kept_push : (hs : List Head) (ns : List ℕ) (seen behind : ℕ) (rs : List MappedRange) (s : TraceRequest) → AreKept hs ns seen behind rs
    → AreKept (hs ++ head_of s ∷ []) (ns ++ numbers_of s) seen behind rs
kept_push hs ns seen behind rs s k = record {
  whole = widths_push hs ns s k.whole;
  seen_few = omega (arith, k.seen_few, length-append hs (head_of s ∷ []));
  behind_few = omega (arith, k.behind_few, length-append ns (numbers_of s));
  rest = ap length (drop-append-le behind ns (numbers_of s) k.behind_few)
      ∙ widths_push (drop seen hs) (drop behind ns) s k.rest ∙ ap widths (sym (drop-append-le seen hs (head_of s ∷ []) k.seen_few));
  mapped = ap (λ l. changed_all rs (steps_kept (drop seen (hs ++ head_of s ∷ [])) l)) (drop-append-le behind ns (numbers_of s) k.behind_few)
      ∙ ap (λ l. changed_all rs (steps_kept l (drop behind ns ++ numbers_of s))) (drop-append-le seen hs (head_of s ∷ []) k.seen_few)
      ∙ ap (changed_all rs) (steps_push (drop seen hs) (drop behind ns) s k.rest)
      ∙ changed-more rs (steps_kept (drop seen hs) (drop behind ns)) s
      ∙ ap (λ q. changed q s) k.mapped
      ∙ sym (changed-more [] (steps_kept hs ns) s)
      ∙ ap ranges_of (sym (steps_push hs ns s k.whole));
}

drop-all : {X : Type 0} (xs : List X) → drop (length xs) xs ≡ []
drop-all [] = refl
drop-all (x ∷ xs) = drop-all xs

-- all are looked at
pub kept_seen : (hs : List Head) (ns : List ℕ) (rs : List MappedRange) → length ns ≡ widths hs → rs ≡ ranges_of (steps_kept hs ns)
    → AreKept hs ns (length hs) (length ns) rs
kept_seen hs ns rs e is = record {
  whole = e;
  seen_few = omega arith;
  behind_few = omega arith;
  rest = ap length (drop-all ns) ∙ sym (ap widths (drop-all hs));
  mapped = ap (λ l. changed_all rs (steps_kept l (drop (length ns) ns))) (drop-all hs) ∙ is;
}

pub kept_whole : (hs : List Head) (ns : List ℕ) (seen behind : ℕ) (rs : List MappedRange) → AreKept hs ns seen behind rs → length ns ≡ widths hs
kept_whole hs ns seen behind rs k = k.whole

pub kept_rest : (hs : List Head) (ns : List ℕ) (seen behind : ℕ) (rs : List MappedRange) → AreKept hs ns seen behind rs
    → widths (drop seen hs) ≤ length (drop behind ns)
kept_rest hs ns seen behind rs k = omega (arith, k.rest)

pub kept_pushed : (hs : List Head) (ns : List ℕ) (seen behind : ℕ) (rs : List MappedRange) (s : TraceRequest) (hs-new : List Head) (ns-new : List ℕ)
    → AreKept hs ns seen behind rs → hs-new ≡ hs ++ head_of s ∷ [] → ns-new ≡ ns ++ numbers_of s → AreKept hs-new ns-new seen behind rs
kept_pushed hs ns seen behind rs s hs-new ns-new k e f =
    subst (λ l. AreKept l ns-new seen behind rs) (sym e) (subst (λ l. AreKept (hs ++ head_of s ∷ []) l seen behind rs) (sym f) (kept_push hs ns seen behind rs s k))
