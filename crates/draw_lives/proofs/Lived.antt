-- The lives of rows depend only on what touches their pages, and rows add lives behind those of the rows above them.
use Rattle.std.proofs.Common.{arith, ◌≡◌, ◌⊎◌, inl, inr, ℕ, zero, suc, ◌+◌, ◌-◌, ◌/◌, ◌<◌, ◌≤◌, List, [], ◌∷◌, ◌++◌}
use Rattle.std.proofs.Common.{Bool, true, false, cond, ◌&&◌, Less}
use Rattle.std.proofs.Common.{true≢false, refl, sym, ap, ◌∙◌, subst, append_assoc, append-nil, length, take, drop, leb, ltb, leb-true, ltb-true, lt-ltb}
use Rattle.std.proofs.lemmas.Grind.{flat_map-append}
use Rattle.std.proofs.lemmas.List.{length-append, length-drop, length-take, take-append-drop}
use Rattle.std.proofs.lemmas.List.Elements.{filter-append}
use Rattle.std.proofs.lemmas.Map.Keys.{IsStrictlyIncreasing-from_sorted, below_from_sorted, le_from_is_le, sorted_from_strictly_increasing}
use Rattle.std.proofs.lemmas.Map.Keys.{sorted_head, sorted_tail}
use Rattle.std.specs.List.{AllByRecursion, filter, flat_map}
use Rattle.std.specs.List.Sorted.{IsStrictlyIncreasing, IsStrictlySortedBy}
use Rattle.std.specs.Ordering.{is_le, nat_cmp}
use Rattle.std.specs.Prelude.{Option, None, Some, nat_le, nat_lt, option_to_list, slice_index_or}
use Rattle.vm_base.specs.Functions.{has}
use Rattle.vm_base.specs.declared.info.Back.{Back}
use Rattle.vm_base.specs.declared.page.PageRange.{PageRange}
use Rattle.draw_steps.specs.Moments.{back_at, back_by, backing_by, backing_in, backing_of, changes, later_or, next_change, touches}
use Rattle.draw_steps.specs.Rows.{between, has_mapped, is_mapped_in, maps, rows_of}
use Rattle.draw_steps.specs.Shapes.{stretch_in, stretch_of, stretches_of}
use Rattle.draw_steps.specs.declared.moments.Moment.{Moment}
use Rattle.draw_steps.specs.declared.moments.Moment.TheVariants.{Begins, Answers, Told, Took, Did, Mapped, Unmapped}
use Rattle.draw_steps.specs.declared.moments.Recorded.{Recorded}
use Rattle.draw_steps.specs.declared.shapes.Stretch.{Stretch}
use Rattle.draw_lives.specs.Living.{AreAdded, lives_from, meets, meets_in, overlap, span_of}

-- ---- what touches a page of the range is kept

clash : {P : Type 0} (b : Bool) → b ≡ true → b ≡ false → P
clash true is out = absurd (true≢false out)
clash false is out = absurd (true≢false (sym is))

kept_mapped : (t : Recorded → Bool) (page : ℕ) → ((r : Recorded) → is_mapped_in r page ≡ true → t r ≡ true)
    → (all : List Recorded) → has_mapped (filter t all) page ≡ has_mapped all page
kept_mapped t page keeps [] = refl
kept_mapped t page keeps (r ∷ rs) = go (kept_mapped t page keeps rs) (t r) (is_mapped_in r page) refl refl
  where
    go : has_mapped (filter t rs) page ≡ has_mapped rs page → (b m : Bool) → t r ≡ b → is_mapped_in r page ≡ m
        → has_mapped (cond b (r ∷ filter t rs) (filter t rs)) page ≡ cond (is_mapped_in r page) true (has_mapped rs page)
    go rest true m kept is = ap (cond (is_mapped_in r page) true) rest
    go rest false true out is = clash (t r) (keeps r is) out
    go rest false false out is = rest ∙ ap (λ b. cond b true (has_mapped rs page)) (sym is)

kept_change : (t : Recorded → Bool) (page step : ℕ) → ((r : Recorded) → changes r page step ≡ true → t r ≡ true)
    → (all : List Recorded) → next_change (filter t all) page step ≡ next_change all page step
kept_change t page step keeps [] = refl
kept_change t page step keeps (r ∷ rs) = go (kept_change t page step keeps rs) (t r) (changes r page step) refl refl
  where
    go : next_change (filter t rs) page step ≡ next_change rs page step → (b m : Bool) → t r ≡ b → changes r page step ≡ m
        → next_change (cond b (r ∷ filter t rs) (filter t rs)) page step ≡ cond (changes r page step) (Some r.step) (next_change rs page step)
    go rest true m kept is = ap (cond (changes r page step) (Some r.step)) rest
    go rest false true out is = clash (t r) (keeps r is) out
    go rest false false out is = rest ∙ ap (λ b. cond b (Some r.step) (next_change rs page step)) (sym is)

kept_backing : (t : Recorded → Bool) (page step : ℕ) → ((r : Recorded) → t r ≡ false → backing_by r page step ≡ None)
    → (known : Option Back) (all : List Recorded) → backing_of known (filter t all) page step ≡ backing_of known all page step
kept_backing t page step none known [] = refl
kept_backing t page step none known (r ∷ rs) = go (λ k. kept_backing t page step none k rs) (t r) refl
  where
    go : ((k : Option Back) → backing_of k (filter t rs) page step ≡ backing_of k rs page step) → (b : Bool) → t r ≡ b
        → backing_of known (cond b (r ∷ filter t rs) (filter t rs)) page step ≡ backing_of (later_or (backing_by r page step) known) rs page step
    go rest true is = rest (later_or (backing_by r page step) known)
    go rest false is = rest known ∙ ap (λ b. backing_of (later_or b known) rs page step) (sym (none r is))

kept_stretches : (t : Recorded → Bool) (f g : Recorded → List Stretch) → ((r : Recorded) → f r ≡ g r) → ((r : Recorded) → t r ≡ false → g r ≡ [])
    → (rs : List Recorded) → flat_map f (filter t rs) ≡ flat_map g rs
kept_stretches t f g same none [] = refl
kept_stretches t f g same none (r ∷ rs) = go (kept_stretches t f g same none rs) (t r) refl
  where
    go : flat_map f (filter t rs) ≡ flat_map g rs → (b : Bool) → t r ≡ b → flat_map f (cond b (r ∷ filter t rs) (filter t rs)) ≡ g r ++ flat_map g rs
    go rest true is = ap (λ l. l ++ flat_map f (filter t rs)) (same r) ∙ ap (λ l. g r ++ l) rest
    go rest false is = rest ∙ ap (λ l. l ++ flat_map g rs) (sym (none r is))

-- a page of the range
pub record IsIn (span : PageRange) (page : ℕ) : Type 0 where
  pub low : span.first ≤ page
  pub high : page < span.end

first_of_both : (a b : Bool) → (a && b) ≡ true → a ≡ true
first_of_both true b h = refl
first_of_both false b h = h

second_of_both : (a b : Bool) → (a && b) ≡ true → b ≡ true
second_of_both true b h = h
second_of_both false b h = absurd (true≢false (sym h))

has_overlaps : (range span : PageRange) (page : ℕ) → IsIn span page → has range page ≡ true → overlap range span ≡ true
has_overlaps range span page is h =
    let begun : range.first ≤ page = leb-true range.first page (first_of_both (leb range.first page) (ltb page range.end) h) in
    let ends : page < range.end = ltb-true page range.end (second_of_both (leb range.first page) (ltb page range.end) h) in
    let left : ltb range.first span.end ≡ true = lt-ltb range.first span.end (omega (arith, begun, is.high)) in
    let right : ltb span.first range.end ≡ true = lt-ltb span.first range.end (omega (arith, ends, is.low)) in
    ap (λ b. b && ltb span.first range.end) left ∙ right

touch_meets : (span : PageRange) (page : ℕ) → IsIn span page → (m : Moment) → touches page m ≡ true → meets_in span m ≡ true
touch_meets span page is (Mapped range prot back) h = has_overlaps range span page is h
touch_meets span page is (Unmapped range) h = has_overlaps range span page is h
touch_meets span page is (Begins call core request) h = h
touch_meets span page is (Answers call reply) h = h
touch_meets span page is (Told core cores) h = h
touch_meets span page is (Took core sender pass) h = h
touch_meets span page is (Did core deed) h = h

map_touches : (page : ℕ) (m : Moment) → maps page m ≡ true → touches page m ≡ true
map_touches page (Mapped range prot back) h = h
map_touches page (Unmapped range) h = absurd (true≢false (sym h))
map_touches page (Begins call core request) h = h
map_touches page (Answers call reply) h = h
map_touches page (Told core cores) h = h
map_touches page (Took core sender pass) h = h
map_touches page (Did core deed) h = h

mapped_kept : (span : PageRange) (page : ℕ) → IsIn span page → (all : List Recorded) → has_mapped (filter (meets span) all) page ≡ has_mapped all page
mapped_kept span page is all = kept_mapped (meets span) page (λ r h. touch_meets span page is r.moment (map_touches page r.moment h)) all

change_kept : (span : PageRange) (page step : ℕ) → IsIn span page → (all : List Recorded)
    → next_change (filter (meets span) all) page step ≡ next_change all page step
change_kept span page step is all =
    kept_change (meets span) page step (λ r h. touch_meets span page is r.moment (first_of_both (touches page r.moment) (nat_lt step r.step) h)) all

nothing_by : (b : Bool) (x : Option Back) → x ≡ None → cond b x None ≡ None
nothing_by true x is = is
nothing_by false x is = refl

no_backing : (span : PageRange) (page : ℕ) → IsIn span page → (m : Moment) → meets_in span m ≡ false → backing_in page m ≡ None
no_backing span page is (Mapped range prot back) out = go (has range page) refl
  where
    go : (b : Bool) → has range page ≡ b → cond b (back_by back (page - range.first)) None ≡ None
    go true h = clash (overlap range span) (has_overlaps range span page is h) out
    go false h = refl
no_backing span page is (Unmapped range) out = refl
no_backing span page is (Begins call core request) out = refl
no_backing span page is (Answers call reply) out = refl
no_backing span page is (Told core cores) out = refl
no_backing span page is (Took core sender pass) out = refl
no_backing span page is (Did core deed) out = refl

backing_kept : (span : PageRange) (page step : ℕ) → IsIn span page → (all : List Recorded)
    → backing_of None (filter (meets span) all) page step ≡ backing_of None all page step
backing_kept span page step is all =
    kept_backing (meets span) page step (λ r out. nothing_by (nat_le r.step step) (backing_in page r.moment) (no_backing span page is r.moment out)) None all

same_stretch : (some all : List Recorded) (row : ℕ) (pages : PageRange) (step : ℕ) → next_change some pages.first step ≡ next_change all pages.first step
    → backing_of None some pages.first step ≡ backing_of None all pages.first step
    → (m : Moment) → stretch_in some row pages step m ≡ stretch_in all row pages step m
same_stretch some all row pages step same backs (Mapped range prot back) =
    ap (λ e. cond (has range pages.first) (Some (record {
      row = row;
      pages = pages;
      prot = prot;
      back = back_at some back (pages.first - range.first) pages.first step;
      begin = step;
      end = e;
    })) None) same
    ∙ ap (λ k. cond (has range pages.first) (Some (record {
      row = row;
      pages = pages;
      prot = prot;
      back = later_or (back_by back (pages.first - range.first)) k;
      begin = step;
      end = next_change all pages.first step;
    })) None) backs
same_stretch some all row pages step same backs (Unmapped range) = refl
same_stretch some all row pages step same backs (Begins call core request) = refl
same_stretch some all row pages step same backs (Answers call reply) = refl
same_stretch some all row pages step same backs (Told core cores) = refl
same_stretch some all row pages step same backs (Took core sender pass) = refl
same_stretch some all row pages step same backs (Did core deed) = refl

no_stretch : (span : PageRange) (all : List Recorded) (row : ℕ) (pages : PageRange) (step : ℕ) → IsIn span pages.first
    → (m : Moment) → meets_in span m ≡ false → option_to_list (stretch_in all row pages step m) ≡ []
no_stretch span all row pages step is (Mapped range prot back) out =
    go (record {
      row = row;
      pages = pages;
      prot = prot;
      back = back_at all back (pages.first - range.first) pages.first step;
      begin = step;
      end = next_change all pages.first step;
    }) (has range pages.first) refl
  where
    go : (life : Stretch) (b : Bool) → has range pages.first ≡ b → option_to_list (cond b (Some life) None) ≡ []
    go life true h = clash (overlap range span) (has_overlaps range span pages.first is h) out
    go life false h = refl
no_stretch span all row pages step is (Unmapped range) out = refl
no_stretch span all row pages step is (Begins call core request) out = refl
no_stretch span all row pages step is (Answers call reply) out = refl
no_stretch span all row pages step is (Told core cores) out = refl
no_stretch span all row pages step is (Took core sender pass) out = refl
no_stretch span all row pages step is (Did core deed) out = refl

stretches_kept : (span : PageRange) (all : List Recorded) (row : ℕ) (pages : PageRange) → IsIn span pages.first
    → stretches_of (filter (meets span) all) row pages (filter (meets span) all) ≡ stretches_of all row pages all
stretches_kept span all row pages is =
    let some = filter (meets span) all in
    kept_stretches (meets span) (λ r. option_to_list (stretch_of some row pages r)) (λ r. option_to_list (stretch_of all row pages r))
    (λ r. ap option_to_list (same_stretch some all row pages r.step (change_kept span pages.first r.step is all) (backing_kept span pages.first r.step is all) r.moment))
    (λ r out. no_stretch span all row pages r.step is r.moment out) all

-- ---- rows within a range

rows_kept : (span : PageRange) (all : List Recorded) (rows : List PageRange) → AllByRecursion (λ (p : PageRange). IsIn span p.first) rows
    → filter (λ (p : PageRange). has_mapped (filter (meets span) all) p.first) rows ≡ filter (λ (p : PageRange). has_mapped all p.first) rows
rows_kept span all [] h = refl
rows_kept span all (p ∷ rows) (is, rest) =
    ap (λ b. cond b (p ∷ filter (λ (q : PageRange). has_mapped (filter (meets span) all) q.first) rows)
    (filter (λ (q : PageRange). has_mapped (filter (meets span) all) q.first) rows)) (mapped_kept span p.first is all)
    ∙ ap (λ l. cond (has_mapped all p.first) (p ∷ l) l) (rows_kept span all rows rest)

filtered : (q : PageRange → Bool) (P : PageRange → Type 0) (rows : List PageRange) → AllByRecursion P rows → AllByRecursion P (filter q rows)
filtered q P [] h = tt
filtered q P (p ∷ rows) (is, rest) = go (filtered q P rows rest) (q p)
  where
    go : AllByRecursion P (filter q rows) → (b : Bool) → AllByRecursion P (cond b (p ∷ filter q rows) (filter q rows))
    go deep true = (is, deep)
    go deep false = deep

lives_kept : (span : PageRange) (all : List Recorded) (row : ℕ) (rows : List PageRange) → AllByRecursion (λ (p : PageRange). IsIn span p.first) rows
    → lives_from (filter (meets span) all) row rows ≡ lives_from all row rows
lives_kept span all row [] h = refl
lives_kept span all row (p ∷ rows) (is, rest) =
    ap (λ l. l ++ lives_from (filter (meets span) all) (row + 1) rows) (stretches_kept span all row p is)
    ∙ ap (λ l. stretches_of all row p all ++ l) (lives_kept span all (row + 1) rows rest)

-- what lies between edges that rise
less : (a b : ℕ) → nat_cmp a b ≡ Less → a ≤ b
less a b h = le_from_is_le a b (ap is_le h)

above : (e : ℕ) (es : List ℕ) → AllByRecursion (λ y. nat_cmp e y ≡ Less) es → AllByRecursion (λ y. e ≤ y) es
above e [] h = tt
above e (f ∷ es) (is, rest) = (less e f is, above e es rest)

within : (low : ℕ) (es : List ℕ) (high : ℕ) → IsStrictlySortedBy nat_cmp es → AllByRecursion (λ y. low ≤ y) es
    → slice_index_or es (length es - 1) 0 ≡ high → AllByRecursion (λ (p : PageRange). IsIn (record { first = low; end = high }) p.first) (between es)
within low [] high s h e = tt
within low (f ∷ []) high s h e = tt
within low (f ∷ g ∷ es) high s (is, rest) e =
    let n = length es in
    let here : f < slice_index_or (f ∷ g ∷ es) (suc n) 0 = below_from_sorted (f ∷ g ∷ es) 0 (suc n) 0 s (omega arith) (omega arith) in
    let at : length (f ∷ g ∷ es) - 1 ≡ suc n = omega arith in
    let last : slice_index_or (f ∷ g ∷ es) (suc n) 0 ≡ high = ap (λ k. slice_index_or (f ∷ g ∷ es) k 0) (sym at) ∙ e in
    let end : length (g ∷ es) - 1 ≡ n = omega arith in (
      record { low = is; high = omega (arith, here, last) },
      within low (g ∷ es) high (sorted_tail nat_cmp f (g ∷ es) s) rest (ap (λ k. slice_index_or (g ∷ es) k 0) end ∙ last),
    )

in_span : (es : List ℕ) → IsStrictlyIncreasing es → AllByRecursion (λ (p : PageRange). IsIn (span_of es) p.first) (between es)
in_span [] h = tt
in_span (e ∷ es) h =
    let s = sorted_from_strictly_increasing (e ∷ es) h in
    within e (e ∷ es) (slice_index_or (e ∷ es) (length (e ∷ es) - 1) 0) s (omega arith, above e es (sorted_head nat_cmp e es s)) refl

-- ---- halves

between_halves : (es : List ℕ) (m : ℕ) → m < length es → between (take (suc m) es) ++ between (drop m es) ≡ between es
between_halves [] m h = absurd (omega (arith, h))
between_halves (e ∷ es) zero h = refl
between_halves (e ∷ []) (suc m) h = absurd (omega (arith, h))
between_halves (e ∷ f ∷ es) (suc m) h = ap (λ l. record { first = e; end = f } ∷ l) (between_halves (f ∷ es) m (omega (arith, h)))

pub rows_halves : (all : List Recorded) (es : List ℕ) (m : ℕ) → m < length es → rows_of all (take (m + 1) es) ++ rows_of all (drop m es) ≡ rows_of all es
rows_halves all es m h =
    let e : m + 1 ≡ suc m = omega arith in
    ap (λ k. rows_of all (take k es) ++ rows_of all (drop m es)) e
    ∙ sym (filter-append (λ (p : PageRange). has_mapped all p.first) (between (take (suc m) es)) (between (drop m es)))
    ∙ ap (filter (λ (p : PageRange). has_mapped all p.first)) (between_halves es m h)

lives_join : (all : List Recorded) (row : ℕ) (xs ys : List PageRange)
    → lives_from all row (xs ++ ys) ≡ lives_from all row xs ++ lives_from all (row + length xs) ys
lives_join all row [] ys = let e : row ≡ row + 0 = omega arith in ap (λ n. lives_from all n ys) e
lives_join all row (x ∷ xs) ys =
    let e : (row + 1) + length xs ≡ row + length (x ∷ xs) = omega arith in
    ap (λ l. stretches_of all row x all ++ l) (lives_join all (row + 1) xs ys ∙ ap (λ n. lives_from all (row + 1) xs ++ lives_from all n ys) e)
    ∙ sym (append_assoc (stretches_of all row x all) (lives_from all (row + 1) xs) (lives_from all (row + length (x ∷ xs)) ys))

-- ---- no more than there is room for

take_again : (n : ℕ) (xs ys : List Stretch) → take n (take n xs ++ ys) ≡ take n (xs ++ ys)
take_again zero xs ys = refl
take_again (suc n) [] ys = refl
take_again (suc n) (x ∷ xs) ys = ap (λ l. x ∷ l) (take_again n xs ys)

-- what is full stays
pub full_stays : (n : ℕ) (xs ys : List Stretch) → length xs ≤ n → n ≤ length xs → take n (xs ++ ys) ≡ xs
full_stays zero [] ys h k = refl
full_stays zero (x ∷ xs) ys h k = absurd (omega (arith, h))
full_stays (suc n) [] ys h k = absurd (omega (arith, k))
full_stays (suc n) (x ∷ xs) ys h k = ap (λ l. x ∷ l) (full_stays n xs ys (omega (arith, h)) (omega (arith, k)))

fits : (n : ℕ) (xs : List Stretch) → length xs ≤ n → take n (xs ++ []) ≡ xs
fits zero [] h = refl
fits zero (x ∷ xs) h = absurd (omega (arith, h))
fits (suc n) [] h = refl
fits (suc n) (x ∷ xs) h = ap (λ l. x ∷ l) (fits n xs (omega (arith, h)))

-- ---- one row

some_stretch : (all : List Recorded) (row : ℕ) (pages : PageRange) (step : ℕ) (m : Moment) → maps pages.first m ≡ true
    → 1 ≤ length (option_to_list (stretch_in all row pages step m))
some_stretch all row pages step (Mapped range prot back) h =
    go (record {
      row = row;
      pages = pages;
      prot = prot;
      back = back_at all back (pages.first - range.first) pages.first step;
      begin = step;
      end = next_change all pages.first step;
    }) (has range pages.first) h
  where
    go : (life : Stretch) (b : Bool) → b ≡ true → 1 ≤ length (option_to_list (cond b (Some life) None))
    go life true is = omega arith
    go life false is = absurd (true≢false (sym is))
some_stretch all row pages step (Unmapped range) h = absurd (true≢false (sym h))
some_stretch all row pages step (Begins call core request) h = absurd (true≢false (sym h))
some_stretch all row pages step (Answers call reply) h = absurd (true≢false (sym h))
some_stretch all row pages step (Told core cores) h = absurd (true≢false (sym h))
some_stretch all row pages step (Took core sender pass) h = absurd (true≢false (sym h))
some_stretch all row pages step (Did core deed) h = absurd (true≢false (sym h))

one_of_two : (xs ys : List Stretch) (later now : Bool) → (now ≡ true → 1 ≤ length xs) → (later ≡ true → 1 ≤ length ys)
    → cond now true later ≡ true → 1 ≤ length (xs ++ ys)
one_of_two xs ys later true here there h = let one = here refl in let both = length-append xs ys in omega (arith, one, both)
one_of_two xs ys later false here there h = let one = there h in let both = length-append xs ys in omega (arith, one, both)

long_take : (n k : ℕ) (xs : List Stretch) → k ≤ n → k ≤ length xs → k ≤ length (take n xs)
long_take n zero xs h l = omega arith
long_take zero (suc k) xs h l = absurd (omega (arith, h))
long_take (suc n) (suc k) [] h l = absurd (omega (arith, l))
long_take (suc n) (suc k) (x ∷ xs) h l = let rest = long_take n k xs (omega (arith, h)) (omega (arith, l)) in omega (arith, rest)

short_take : (n : ℕ) (xs : List Stretch) → length (take n xs) ≤ n
short_take zero xs = omega arith
short_take (suc n) [] = omega arith
short_take (suc n) (x ∷ xs) = let rest = short_take n xs in omega (arith, rest)

-- a row has a life
has_life : (all : List Recorded) (row : ℕ) (pages : PageRange) (rs : List Recorded) → has_mapped rs pages.first ≡ true
    → 1 ≤ length (stretches_of all row pages rs)
has_life all row pages [] h = absurd (true≢false (sym h))
has_life all row pages (r ∷ rs) h =
    one_of_two (option_to_list (stretch_of all row pages r)) (stretches_of all row pages rs) (has_mapped rs pages.first) (maps pages.first r.moment)
    (some_stretch all row pages r.step r.moment) (has_life all row pages rs) h

pub row_added : (all : List Recorded) (row : ℕ) (pages : PageRange) (old new : List Stretch) → has_mapped all pages.first ≡ true
    → row ≤ length old → length old ≤ 2000 → new ≡ take 2001 (old ++ stretches_of all row pages all) → AreAdded all row (pages ∷ []) old (row + 1) new
row_added all row pages old new h below room is =
    let lives = stretches_of all row pages all in
    let one : 1 ≤ length lives = has_life all row pages all h in
    let both : length (old ++ lives) ≡ length old + length lives = length-append old lives in
    let long : row + 1 ≤ length (take 2001 (old ++ lives)) =
    long_take 2001 (row + 1) (old ++ lives) (omega (arith, below, room)) (omega (arith, one, both, below)) in
    let cut : length new ≡ length (take 2001 (old ++ lives)) = ap length is in
    record {
      lives = is ∙ ap (λ l. take 2001 (old ++ l)) (sym (append-nil lives));
      number = inl (omega arith);
      below = omega (arith, long, cut);
      room = let most = short_take 2001 (old ++ lives) in omega (arith, most, cut);
    }

pub none_added : (all : List Recorded) (row : ℕ) (old : List Stretch) → row ≤ length old → length old ≤ 2001 → AreAdded all row [] old row old
none_added all row old below room = record { lives = sym (fits 2001 old room); number = inl (omega arith); below = below; room = room }

pub full_added : (all : List Recorded) (row : ℕ) (rows : List PageRange) (old : List Stretch) → row ≤ length old → length old ≤ 2001 → 2001 ≤ length old
    → AreAdded all row rows old row old
full_added all row rows old below room full =
    record { lives = sym (full_stays 2001 old (lives_from all row rows) room full); number = inr full; below = below; room = room }

pub two_edges : (all : List Recorded) (es : List ℕ) → length es ≡ 2 → rows_of all es ≡ cond (has_mapped all (span_of es).first) (span_of es ∷ []) []
two_edges all [] h = absurd (omega (arith, h))
two_edges all (e ∷ []) h = absurd (omega (arith, h))
two_edges all (e ∷ f ∷ []) h =
    let last : length (e ∷ f ∷ []) - 1 ≡ 1 = omega arith in
    ap (λ k. cond (has_mapped all e) (record { first = e; end = slice_index_or (e ∷ f ∷ []) k 0 } ∷ []) []) (sym last)
two_edges all (e ∷ f ∷ g ∷ es) h = absurd (omega (arith, h))

pub few_edges : (all : List Recorded) (es : List ℕ) → length es < 2 → rows_of all es ≡ []
few_edges all [] h = refl
few_edges all (e ∷ []) h = refl
few_edges all (e ∷ f ∷ es) h = absurd (omega (arith, h))

-- ---- the lives of one row so far

whole_taken : (n : ℕ) (xs : List Recorded) → length xs ≤ n → take n xs ≡ xs
whole_taken zero [] h = refl
whole_taken zero (x ∷ xs) h = absurd (omega (arith, h))
whole_taken (suc n) [] h = refl
whole_taken (suc n) (x ∷ xs) h = ap (λ l. x ∷ l) (whole_taken n xs (omega (arith, h)))

pub row_ends : (all : List Recorded) (row : ℕ) (pages : PageRange) (at : ℕ) (old new : List Stretch) → length all ≤ at → length new ≤ 2001
    → new ≡ old ++ stretches_of all row pages (take at all) → new ≡ take 2001 (old ++ stretches_of all row pages all)
row_ends all row pages at old new behind room is =
    let whole : new ≡ old ++ stretches_of all row pages all = is ∙ ap (λ rs. old ++ stretches_of all row pages rs) (whole_taken at all behind) in
    sym (fits 2001 new room) ∙ ap (take 2001) (append-nil new ∙ whole)

pub row_is_full : (all : List Recorded) (row : ℕ) (pages : PageRange) (at : ℕ) (old new : List Stretch) → length new ≤ 2001 → 2001 ≤ length new
    → new ≡ old ++ stretches_of all row pages (take at all) → new ≡ take 2001 (old ++ stretches_of all row pages all)
row_is_full all row pages at old new room full is =
    let front = stretches_of all row pages (take at all) in
    let rest = stretches_of all row pages (drop at all) in
    let parts : stretches_of all row pages all ≡ front ++ rest =
    ap (stretches_of all row pages) (sym (take-append-drop at all))
    ∙ flat_map-append (λ r. option_to_list (stretch_of all row pages r)) (take at all) (drop at all) in
    sym (full_stays 2001 new rest room full)
    ∙ ap (take 2001) (ap (λ l. l ++ rest) is ∙ (append_assoc old front rest ∙ ap (λ l. old ++ l) (sym parts)))

-- ---- one half, and both

pub half_kept : (all some : List Recorded) (es : List ℕ) (row : ℕ) (old : List Stretch) (next : ℕ) (new : List Stretch) → IsStrictlyIncreasing es
    → length old ≤ 2001 → (some ≡ filter (meets (span_of es)) all) ⊎ (2001 ≤ length old)
    → AreAdded some row (rows_of some es) old next new → AreAdded all row (rows_of all es) old next new
half_kept all some es row old next new h room (inl is) a =
    let in_range = in_span es h in
    let rows : rows_of (filter (meets (span_of es)) all) es ≡ rows_of all es = rows_kept (span_of es) all (between es) in_range in
    let lives = lives_kept (span_of es) all row (rows_of all es)
    (filtered (λ (p : PageRange). has_mapped all p.first) (λ (p : PageRange). IsIn (span_of es) p.first) (between es) in_range) in
    let there : AreAdded (filter (meets (span_of es)) all) row (rows_of (filter (meets (span_of es)) all) es) old next new =
    subst (λ s. AreAdded s row (rows_of s es) old next new) is a in
    let here : AreAdded (filter (meets (span_of es)) all) row (rows_of all es) old next new =
    subst (λ rs. AreAdded (filter (meets (span_of es)) all) row rs old next new) rows there in
    record { lives = here.lives ∙ ap (λ l. take 2001 (old ++ l)) lives; number = here.number; below = here.below; room = here.room }
half_kept all some es row old next new h room (inr full) a =
    let same : new ≡ old = a.lives ∙ full_stays 2001 old (lives_from some row (rows_of some es)) room full in
    let long : length new ≡ length old = ap length same in
    record {
      lives = same ∙ sym (full_stays 2001 old (lives_from all row (rows_of all es)) room full);
      number = inr (omega (arith, long, full));
      below = a.below;
      room = a.room;
    }

again_all : (all : List Recorded) (row : ℕ) (xs ys : List PageRange) (old mid : List Stretch) → mid ≡ take 2001 (old ++ lives_from all row xs)
    → take 2001 (mid ++ lives_from all (row + length xs) ys) ≡ take 2001 (old ++ lives_from all row (xs ++ ys))
again_all all row xs ys old mid is =
    let front = lives_from all row xs in
    let behind = lives_from all (row + length xs) ys in
    ap (λ l. take 2001 (l ++ behind)) is
    ∙ (take_again 2001 (old ++ front) behind
    ∙ (ap (take 2001) (append_assoc old front behind) ∙ ap (λ l. take 2001 (old ++ l)) (sym (lives_join all row xs ys))))

counted : (row next last n m k : ℕ) (new : List Stretch) → next ≡ row + n → k ≡ n + m → (last ≡ next + m) ⊎ (2001 ≤ length new)
    → (last ≡ row + k) ⊎ (2001 ≤ length new)
counted row next last n m k new is sum (inl e) = inl (omega (arith, is, sum, e))
counted row next last n m k new is sum (inr full) = inr full

joined_by : (all : List Recorded) (row : ℕ) (xs ys : List PageRange) (old mid new : List Stretch) (next last : ℕ)
    → AreAdded all row xs old next mid → AreAdded all next ys mid last new → (next ≡ row + length xs) ⊎ (2001 ≤ length mid)
    → AreAdded all row (xs ++ ys) old last new
joined_by all row xs ys old mid new next last a b (inl is) = record {
  lives = b.lives ∙ (ap (λ n. take 2001 (mid ++ lives_from all n ys)) is ∙ again_all all row xs ys old mid a.lives);
  number = counted row next last (length xs) (length ys) (length (xs ++ ys)) new is (length-append xs ys) b.number;
  below = b.below;
  room = b.room;
}
joined_by all row xs ys old mid new next last a b (inr full) =
    let same : new ≡ mid = b.lives ∙ full_stays 2001 mid (lives_from all next ys) a.room full in
    let long : length new ≡ length mid = ap length same in
    record {
      lives = same ∙ (sym (full_stays 2001 mid (lives_from all (row + length xs) ys) a.room full) ∙ again_all all row xs ys old mid a.lives);
      number = inr (omega (arith, long, full));
      below = b.below;
      room = b.room;
    }

pub joined : (all : List Recorded) (row : ℕ) (xs ys : List PageRange) (old mid new : List Stretch) (next last : ℕ)
    → AreAdded all row xs old next mid → AreAdded all next ys mid last new → AreAdded all row (xs ++ ys) old last new
joined all row xs ys old mid new next last a b = joined_by all row xs ys old mid new next last a b a.number

-- both halves are in order
taken_all : (P : ℕ → Type 0) (n : ℕ) (es : List ℕ) → AllByRecursion P es → AllByRecursion P (take n es)
taken_all P zero es h = tt
taken_all P (suc n) [] h = tt
taken_all P (suc n) (e ∷ es) (is, rest) = (is, taken_all P n es rest)

sorted_take : (n : ℕ) (es : List ℕ) → IsStrictlySortedBy nat_cmp es → IsStrictlySortedBy nat_cmp (take n es)
unfolding IsStrictlySortedBy
sorted_take zero es h = tt
sorted_take (suc n) [] h = tt
sorted_take (suc n) (e ∷ es) (is, rest) = (taken_all (λ y. nat_cmp e y ≡ Less) n es is, sorted_take n es rest)

sorted_drop : (n : ℕ) (es : List ℕ) → IsStrictlySortedBy nat_cmp es → IsStrictlySortedBy nat_cmp (drop n es)
sorted_drop zero es h = h
sorted_drop (suc n) [] h = h
sorted_drop (suc n) (e ∷ es) h = sorted_drop n es (sorted_tail nat_cmp e es h)

pub rising_take : (n : ℕ) (es : List ℕ) → IsStrictlyIncreasing es → IsStrictlyIncreasing (take n es)
rising_take n es h = IsStrictlyIncreasing-from_sorted (take n es) (sorted_take n es (sorted_from_strictly_increasing es h))

pub rising_drop : (n : ℕ) (es : List ℕ) → IsStrictlyIncreasing es → IsStrictlyIncreasing (drop n es)
rising_drop n es h = IsStrictlyIncreasing-from_sorted (drop n es) (sorted_drop n es (sorted_from_strictly_increasing es h))

-- ---- what each way out of a range comes to

pub few_added : (all : List Recorded) (row : ℕ) (es : List ℕ) (old : List Stretch) → length es < 2 → row ≤ length old → length old ≤ 2001
    → AreAdded all row (rows_of all es) old row old
few_added all row es old few below room = subst (λ rs. AreAdded all row rs old row old) (sym (few_edges all es few)) (none_added all row old below room)

pub hole_added : (all : List Recorded) (row : ℕ) (es : List ℕ) (old : List Stretch) → length es ≡ 2 → has_mapped all (span_of es).first ≡ false
    → row ≤ length old → length old ≤ 2000 → AreAdded all row (rows_of all es) old row old
hole_added all row es old two hole below room =
    let rows : rows_of all es ≡ [] = two_edges all es two ∙ ap (λ b. cond b (span_of es ∷ []) []) hole in
    subst (λ rs. AreAdded all row rs old row old) (sym rows) (none_added all row old below (omega (arith, room)))

pub one_added : (all : List Recorded) (row : ℕ) (es : List ℕ) (old new : List Stretch) → length es ≡ 2 → has_mapped all (span_of es).first ≡ true
    → row ≤ length old → length old ≤ 2000 → new ≡ take 2001 (old ++ stretches_of all row (span_of es) all)
    → AreAdded all row (rows_of all es) old (row + 1) new
one_added all row es old new two mapped below room is =
    let rows : rows_of all es ≡ span_of es ∷ [] = two_edges all es two ∙ ap (λ b. cond b (span_of es ∷ []) []) mapped in
    subst (λ rs. AreAdded all row rs old (row + 1) new) (sym rows) (row_added all row (span_of es) old new mapped below room is)

pub halves_added : (all lower upper : List Recorded) (row : ℕ) (es : List ℕ) (m : ℕ) (old mid new : List Stretch) (next last : ℕ)
    → IsStrictlyIncreasing es → m < length es → length old ≤ 2001
    → (lower ≡ filter (meets (span_of (take (m + 1) es))) all) ⊎ (2001 ≤ length old)
    → AreAdded lower row (rows_of lower (take (m + 1) es)) old next mid
    → (upper ≡ filter (meets (span_of (drop m es))) all) ⊎ (2001 ≤ length mid)
    → AreAdded upper next (rows_of upper (drop m es)) mid last new
    → AreAdded all row (rows_of all es) old last new
halves_added all lower upper row es m old mid new next last h inside room low a up b =
    let first = half_kept all lower (take (m + 1) es) row old next mid (rising_take (m + 1) es h) room low a in
    let second = half_kept all upper (drop m es) next mid last new (rising_drop m es h) first.room up b in
    subst (λ rs. AreAdded all row rs old last new) (rows_halves all es m inside)
    (joined all row (rows_of all (take (m + 1) es)) (rows_of all (drop m es)) old mid new next last first second)

-- a half has fewer edges, but as many as a row
pub lower_falls : (es half : List ℕ) → half ≡ take (length es / 2 + 1) es → 2 < length es → length half < length es
lower_falls es half is some =
    let long : length half ≡ length (take (length es / 2 + 1) es) = ap length is in
    omega (arith, long, length-take (length es / 2 + 1) es, some)

pub lower_has : (es half : List ℕ) → half ≡ take (length es / 2 + 1) es → 2 < length es → 2 ≤ length half
lower_has es half is some =
    let long : length half ≡ length (take (length es / 2 + 1) es) = ap length is in
    omega (arith, long, length-take (length es / 2 + 1) es, some)

pub upper_falls : (es half : List ℕ) → half ≡ drop (length es / 2) es → 2 < length es → length half < length es
upper_falls es half is some =
    let long : length half ≡ length (drop (length es / 2) es) = ap length is in
    omega (arith, long, length-drop (length es / 2) es, some)

pub upper_has : (es half : List ℕ) → half ≡ drop (length es / 2) es → 2 < length es → 2 ≤ length half
upper_has es half is some =
    let long : length half ≡ length (drop (length es / 2) es) = ap length is in
    omega (arith, long, length-drop (length es / 2) es, some)

-- whether there is room, by another name of the number
pub unless_full : {A : Type 0} (n m : ℕ) → n ≡ m → A ⊎ (2001 ≤ n) → A ⊎ (2001 ≤ m)
unless_full n m same (inl is) = inl is
unless_full n m same (inr full) = inr (omega (arith, same, full))
