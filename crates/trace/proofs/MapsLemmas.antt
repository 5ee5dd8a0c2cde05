-- The mappings, written one after another.
use Rattle.machine_model.proofs.Words.{◌≡◌, ℕ, ◌^◌, ◌<◌, ◌≤◌, List, [], ◌∷◌, ◌++◌, Option, None, Some, inl, inr, arith, refl, sym, ap, ◌∙◌, subst, append-nil}
use Rattle.machine_model.proofs.Words.{∥∥₁_elim, props, flat_map-append, Appends-nil, Appends-trans, flat_map, Appends, MapLine, plain_metas, World}
use Rattle.std.proofs.Common.{IfSome}
use Rattle.slot_lock.proofs.MapLists.{lists_end, lists_more}
use Rattle.core_steps.specs.Machine.{IsLegal}
use Rattle.core_steps.specs.MapLines.{IsNextMap}
use Rattle.trace_io.specs.Sink.{AppendsFront}
use Rattle.trace_words.specs.declared.show.Show.TheVariants.{Maps}
use Rattle.trace.specs.Stage.{Stage, Start, Declared, Running}
use Rattle.trace.specs.Shown.{ListsUpTo, IsStartAt, IsNextAt, HasNoneAt, IsBehind, IsBegunBehind}
use Rattle.trace_text.specs.Listing.{mapping_text, maps_text}
use Rattle.trace_io.proofs.IoLemmas.{front_more}

-- ---- the mappings of a trace

-- a machine's next mapping lies on valid pages
pub next_at : (w : World) → IsLegal w → (from : ℕ) (found : Option MapLine) → IfSome found (IsNextMap w from)
    → IfSome found (IsNextAt (Running w) from)
next_at w legal from None next = tt
next_at w legal from (Some line) next = (
  next,
  ∥∥₁_elim legal.sound (hlevel props) (λ s.
      let one = next s.0 s.1.log in let low = one.low in let some = one.is.pages.some in omega (arith, low, some)),
  ∥∥₁_elim legal.sound (hlevel props) (λ s. (next s.0 s.1.log).is.pages.high),
)

-- the mappings up to a page were written, and no other goes across it
pub record HasListed (s : Stage) (from : ℕ) (old new : Option (List ℕ)) : Type 0 where
  pub low : 1 ≤ from
  pub high : from ≤ 2 ^ 35
  pub begins : IsStartAt s from
  pub lines : List MapLine
  pub lists : ListsUpTo s from lines
  pub appends : Appends old new (maps_text lines)

-- none yet
pub listed_none : (s : Stage) (a : Option (List ℕ)) → HasListed s 1 a a
unfolding maps_text
listed_none s a = record {
  low = omega arith;
  high = omega arith;
  begins = begins s;
  lines = [];
  lists = lists s;
  appends = Appends-nil a;
}
  where
    begins : (s : Stage) → IsStartAt s 1
    begins (Start limit) = tt
    begins (Declared limit a) = tt
    begins (Running w) = inl refl

    lists : (s : Stage) → ListsUpTo s 1 []
    lists (Start limit) = refl
    lists (Declared limit a) = refl
    lists (Running w) = λ t leads p low high. absurd (omega (arith, low, high))

maps_more : (lines : List MapLine) (line : MapLine) → maps_text (lines ++ line ∷ []) ≡ maps_text lines ++ mapping_text line
unfolding maps_text
maps_more lines line =
    flat_map-append mapping_text lines (line ∷ []) ∙ ap (λ t. flat_map mapping_text lines ++ t) (append-nil (mapping_text line))

-- one more
more_lists : (s : Stage) (from : ℕ) (lines : List MapLine) (line : MapLine) → 1 ≤ from → ListsUpTo s from lines → IsNextAt s from line
    → ListsUpTo s line.range.end (lines ++ line ∷ [])
more_lists (Start limit) from lines line low lists next = absurd next
more_lists (Declared limit a) from lines line low lists next = absurd next
more_lists (Running w) from lines line low lists next =
    λ t leads. lists_more (plain_metas t) 1 from lines line low (lists t leads) (next.0 t leads)

more_begins : (s : Stage) (from : ℕ) (line : MapLine) → IsNextAt s from line → IsStartAt s line.range.end
more_begins (Start limit) from line next = absurd next
more_begins (Declared limit a) from line next = absurd next
more_begins (Running w) from line next = inr (λ t leads. (next.0 t leads).is.ends)

-- each mapping ends behind the page from which it was looked for
pub goes_up : (s : Stage) (from : ℕ) (line : MapLine) → IsNextAt s from line → (from < line.range.end) × (line.range.end ≤ 2 ^ 35)
goes_up (Start limit) from line next = absurd next
goes_up (Declared limit a) from line next = absurd next
goes_up (Running w) from line next = (next.1, next.2)

pub listed_more : (s : Stage) (from : ℕ) (line : MapLine) (a b c : Option (List ℕ)) → HasListed s from a b → IsNextAt s from line
    → Appends b c (mapping_text line) → HasListed s line.range.end a c
listed_more s from line a b c h next wrote =
    let up = goes_up s from line next in
    record {
      low = (let low = h.low in let less = up.0 in omega (arith, low, less));
      high = up.1;
      begins = more_begins s from line next;
      lines = h.lines ++ line ∷ [];
      lists = more_lists s from h.lines line h.low h.lists next;
      appends = subst (Appends a c) (sym (maps_more h.lines line)) (Appends-trans a b c _ _ h.appends wrote);
    }

-- a front of one more
pub listed_front : (s : Stage) (from : ℕ) (line : MapLine) (a b c : Option (List ℕ)) → HasListed s from a b → IsNextAt s from line
    → AppendsFront b c (mapping_text line) → (text : List ℕ) × IsBegunBehind Maps s text × AppendsFront a c text
listed_front s from line a b c h next wrote = (
  maps_text (h.lines ++ line ∷ []),
  (line.range.end, h.lines ++ line ∷ [], more_lists s from h.lines line h.low h.lists next, refl),
  subst (AppendsFront a c) (sym (maps_more h.lines line)) (front_more a b c _ _ h.appends wrote),
)

-- all
pub listed_all : (s : Stage) (from : ℕ) (a b : Option (List ℕ)) → HasListed s from a b → HasNoneAt s from
    → (text : List ℕ) × IsBehind Maps s text × Appends a b text
listed_all s from a b h none = (maps_text h.lines, (h.lines, lists s from h.lines h.high h.lists none, refl), h.appends)
  where
    lists : (s : Stage) (from : ℕ) (lines : List MapLine) → from ≤ 2 ^ 35 → ListsUpTo s from lines → HasNoneAt s from → ListsUpTo s (2 ^ 35) lines
    lists (Start limit) from lines high so none = so
    lists (Declared limit a) from lines high so none = so
    lists (Running w) from lines high so none = λ t leads. lists_end (plain_metas t) 1 from (2 ^ 35) lines high (so t leads) (none t leads)
