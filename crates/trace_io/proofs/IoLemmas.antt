-- On what is read and written: fronts of bytes, a flush behind them, and the failures that are told.
use Rattle.std.proofs.Common.{◌≡◌, OnOk, OnErr, true, ℕ, ◌+◌, ◌<◌, ◌≤◌, List, [], ◌++◌, Option, None, Some, Result, Ok, Err, Bool, inr, length, take}
use Rattle.std.proofs.Common.{◌∷◌, arith, refl, sym, ap, ◌∙◌, subst, append-nil, drop, get_or, length-append}
use Rattle.std.proofs.KnownBytes.{Appends-kept, Appends-trans}
use Rattle.std.proofs.Math.Seq.{take-append-add}
use Rattle.std.proofs.lemmas.Grind.{common_steps, flat_map-append}
use Rattle.std.proofs.lemmas.List.{take_more, take-append-drop, take-append-le}
use Rattle.std.specs.List.{flat_map}
use Rattle.std.specs.Io.KnownBytes.{Keeps, Appends}
use Rattle.trace_io.specs.Io.{IsWritten, ReadFrom, TellsSent, WrittenTo}
use Rattle.trace_io.specs.Sink.{AppendsFront}
use Rattle.trace_io.specs.Source.{Stream, HasStopped, Reads}
use Rattle.trace_io.specs.declared.fault.IoFault.{IoFault}
use Rattle.trace_io.specs.declared.fault.IoFault.TheVariants.{ReadFailed, NoMemory, WriteFailed}

-- ---- bytes that are read

-- what holds of all bytes that may come holds of some
pub reads_some : {X : Type 0} (old new : Stream) (P : List ℕ → List ℕ → Type 0) → Reads old new P → ((xs ys : List ℕ) → P xs ys → X) → X
reads_some {X} old new P r f = go new.coming refl
  where
    go : (o : Option (List ℕ)) → o ≡ new.coming → X
    go None e = f (r.bytes ++ []) [] (r.holds [] (subst (λ o. Keeps o (Some [])) e tt))
    go (Some ys) e = f (r.bytes ++ ys) ys (r.holds ys (subst (λ o. Keeps o (Some ys)) e refl))

-- ---- fronts

-- a front goes behind what was written whole
pub front_more : (a b c : Option (List ℕ)) (xs ys : List ℕ) → Appends a b xs → AppendsFront b c ys → AppendsFront a c (xs ++ ys)
front_more a b c xs ys p q =
    let fits = q.1 in
    let size = length-append xs ys in
    (length xs + q.0, omega arith, subst (Appends a c) (sym (take-append-add xs ys q.0)) (Appends-trans a b c xs (take q.0 ys) p q.2))

take_all_of : (xs : List ℕ) → take (length xs) xs ≡ xs
take_all_of xs = grind (arith, common_steps)

-- the whole is a front
pub whole_front : (a b : Option (List ℕ)) (xs : List ℕ) → Appends a b xs → AppendsFront a b xs
whole_front a b xs p = (length xs, omega arith, subst (Appends a b) (sym (take_all_of xs)) p)

-- a front of the first bytes is one of all
pub front_longer : (a b : Option (List ℕ)) (xs ys : List ℕ) → AppendsFront a b xs → AppendsFront a b (xs ++ ys)
front_longer a b xs ys p =
    let fits = p.1 in
    let size = length-append xs ys in
    (p.0, omega arith, subst (Appends a b) (sym (take-append-le p.0 xs ys p.1)) p.2)

-- ---- a flush

-- behind nothing
pub keeps_same : (o : Option (List ℕ)) → Keeps o o
keeps_same None = tt
keeps_same (Some x) = refl

-- behind a front
pub front_kept : (a b c : Option (List ℕ)) (xs : List ℕ) → AppendsFront a b xs → Keeps b c → AppendsFront a c xs
front_kept a b c xs p k = (p.0, p.1, Appends-kept a b c (take p.0 xs) p.2 k)

-- before bytes that are written
pub appends_after : (a b c : Option (List ℕ)) (xs : List ℕ) → Keeps a b → Appends b c xs → Appends a c xs
appends_after None b c xs k p = tt
appends_after (Some x) None c xs k p = absurd k
appends_after (Some x) (Some y) None xs k p = absurd p
appends_after (Some x) (Some y) (Some z) xs k p = p ∙ ap (λ l. l ++ xs) k

-- before a front of them
pub front_after : (a b c : Option (List ℕ)) (xs : List ℕ) → Keeps a b → AppendsFront b c xs → AppendsFront a c xs
front_after a b c xs k p = (p.0, p.1, appends_after a b c (take p.0 xs) k p.2)

-- ---- what was written

abbrev sink_of : Option (List ℕ) → Option (List ℕ) → Bool → Bool → Bool → WrittenTo
sink_of before after had_failed failed is_flushed =
    record { before = before; after = after; had_failed = had_failed; failed = failed; is_flushed = is_flushed }

-- behind what was written whole
pub written_then : {T E : Type 0} (r : Result T E) (a b c : Option (List ℕ)) (x y z f : Bool) (xs ys : List ℕ) → Appends a b xs → y ≡ x
    → IsWritten r (sink_of b c y z f) ys → IsWritten r (sink_of a c x z f) (xs ++ ys)
written_then (Ok u) a b c x y z f xs ys p k w = record { ok = Appends-trans _ _ _ _ _ p w.ok; kept = w.kept ∙ k; front = tt; err = tt }
written_then (Err e) a b c x y z f xs ys p k w = record { ok = tt; kept = tt; front = front_more a b c xs ys p w.front; err = w.err }

-- and a flush behind it
pub written_flushed : {T E : Type 0} (r : Result T E) (a b c : Option (List ℕ)) (x y z f : Bool) (xs : List ℕ) → Appends a b xs → y ≡ x → Keeps b c
    → OnOk r (z ≡ y) → OnErr r (z ≡ true) → IsWritten r (sink_of a c x z f) xs
written_flushed (Ok u) a b c x y z f xs p k flush same failed =
    record { ok = Appends-kept _ _ _ _ p flush; kept = same ∙ k; front = tt; err = tt }
written_flushed (Err e) a b c x y z f xs p k flush same failed =
    record { ok = tt; kept = tt; front = whole_front _ _ _ (Appends-kept _ _ _ _ p flush); err = failed }

-- ---- a piece for each of a list

pub each_more : {X : Type 0} (text : X → List ℕ) (xs : List X) (n : ℕ) (x : X) → n < length xs → x ≡ get_or xs n x
    → flat_map text (take (n + 1) xs) ≡ flat_map text (take n xs) ++ text x
each_more text xs n x h is =
    ap (flat_map text) (take_more xs n x h ∙ ap (λ y. take n xs ++ y ∷ []) (sym is))
    ∙ flat_map-append text (take n xs) (x ∷ []) ∙ ap (λ t. flat_map text (take n xs) ++ t) (append-nil (text x))

pub each_wrote : {X : Type 0} (text : X → List ℕ) (a b c : Option (List ℕ)) (xs : List X) (n : ℕ) (x : X) → n < length xs → x ≡ get_or xs n x
    → Appends a b (flat_map text (take n xs)) → Appends b c (text x) → Appends a c (flat_map text (take (n + 1) xs))
each_wrote text a b c xs n x h is p q = subst (Appends a c) (sym (each_more text xs n x h is)) (Appends-trans a b c _ _ p q)

pub each_front : {X : Type 0} (text : X → List ℕ) (a b c : Option (List ℕ)) (xs : List X) (n : ℕ) (x : X) → n < length xs → x ≡ get_or xs n x
    → Appends a b (flat_map text (take n xs)) → AppendsFront b c (text x) → AppendsFront a c (flat_map text xs)
each_front text a b c xs n x h is p q =
    let front : AppendsFront a c (flat_map text (take (n + 1) xs)) = subst (AppendsFront a c) (sym (each_more text xs n x h is)) (front_more a b c _ _ p q) in
    let whole = sym (flat_map-append text (take (n + 1) xs) (drop (n + 1) xs)) ∙ ap (flat_map text) (take-append-drop (n + 1) xs) in
    subst (AppendsFront a c) whole (front_longer a c _ (flat_map text (drop (n + 1) xs)) front)

-- ---- failures

abbrev failed_with : (T E : Type 0) → E → Result T E
failed_with T E f = Err f

module _ {E : Type 0} (named : IoFault → E) (own : E → IoFault) (back : (f : IoFault) → own (named f) ≡ f)
    (text : ReadFrom) (sink : WrittenTo) (kept : sink.failed ≡ sink.had_failed) where
  -- a fault of reading, before anything was written
  pub tells_unread : {T U : Type 0} (f : IoFault) → (failed_with T IoFault f ≡ failed_with T IoFault ReadFailed → HasStopped text.failed text.reads)
      → (failed_with T IoFault f ≡ failed_with T IoFault WriteFailed → ⊥) → TellsSent named (failed_with U E (named f)) text sink
  tells_unread {T} {U} f read write = record {
    read = λ e. read (ap Err (same ReadFailed e));
    write = λ e. absurd (write (ap Err (same WriteFailed e)));
    kept = inr kept;
    out = tt;
  }
    where
      same : (g : IoFault) → failed_with U E (named f) ≡ failed_with U E (named g) → f ≡ g
      same g e = let one : named f ≡ named g = cc in sym (back f) ∙ ap own one ∙ back g

  -- want of memory, before anything was read or written
  pub tells_want : {U : Type 0} → TellsSent named (failed_with U E (named NoMemory)) text sink
  tells_want {U} = tells_unread {T = Unit} {U = U} NoMemory (λ e. absurd (cc)) (λ e. cc)
