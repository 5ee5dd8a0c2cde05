-- Requests as they are kept: what one more adds, and the first of them.
use Rattle.std.proofs.Common.{◌≡◌, ℕ, ◌+◌, ◌<◌, ◌≤◌, Bool, true, false, not, List, [], ◌∷◌, ◌++◌, length, take, drop, get_or, arith, refl, sym, ap}
use Rattle.std.proofs.Common.{◌∙◌, eqb, length-append}
use Rattle.std.specs.Prelude.{◌&&◌, if◌then◌else◌}
use Rattle.std.proofs.Math.ListN.{get_or-append}
use Rattle.std.proofs.lemmas.Bool.Decides.{nat_tests}
use Rattle.std.proofs.lemmas.List.{drop-append-le, length-drop, length-take-le}
use Rattle.vm_base.specs.declared.requests.Request.{Request}
use Rattle.vm_base.specs.declared.requests.Request.TheVariants as Asks
use Rattle.import_maps.specs.Steps.{flag_bits, flags_of, head_of, is_name, kind_width, name_kept, prot_bits, prot_of, request_kept, shape_of}
use Rattle.import_maps.specs.Steps.{shape_width, six_of, step_kept, steps_kept, widths}
use Rattle.import_maps.specs.declared.names.Name.{Name}
use Rattle.import_maps.specs.declared.steps.Head.{Head}
use Rattle.import_maps.specs.declared.steps.Kind.{Kind}
use Rattle.import_maps.specs.declared.steps.Kind.TheVariants.{Pages, Map, Unmap, Protect, Load, Store, Fetch}
use Rattle.import_maps.specs.declared.steps.Shape.{Shape}
use Rattle.import_maps.specs.declared.steps.TraceRequest.{TraceRequest}
use Rattle.vm_base.specs.declared.rights.Prot.{Prot}
use Rattle.vm_base.specs.declared.requests.Flags.{Flags}

-- ---- one request

prot_by : (read write exec : Bool) → let p : Prot = record { read = read; write = write; exec = exec } in prot_of (prot_bits p) ≡ p
prot_by false false false = refl
prot_by false false true = refl
prot_by false true false = refl
prot_by false true true = refl
prot_by true false false = refl
prot_by true false true = refl
prot_by true true false = refl
prot_by true true true = refl

prot_again : (p : Prot) → prot_of (prot_bits p) ≡ p
prot_again p = prot_by p.read p.write p.exec

flags_by : (private shared fixed anon : Bool)
    → let f : Flags = record { private = private; shared = shared; fixed = fixed; anon = anon } in flags_of (flag_bits f) ≡ f
flags_by false false false false = refl
flags_by false false false true = refl
flags_by false false true false = refl
flags_by false false true true = refl
flags_by false true false false = refl
flags_by false true false true = refl
flags_by false true true false = refl
flags_by false true true true = refl
flags_by true false false false = refl
flags_by true false false true = refl
flags_by true false true false = refl
flags_by true false true true = refl
flags_by true true false false = refl
flags_by true true false true = refl
flags_by true true true false = refl
flags_by true true true true = refl

flags_again : (f : Flags) → flags_of (flag_bits f) ≡ f
flags_again f = flags_by f.private f.shared f.fixed f.anon

zero_of : (a : ℕ) → eqb a 0 ≡ true → 0 ≡ a
zero_of a h = grind (arith, nat_tests)

both_true : (a b : Bool) → (a && b) ≡ true → (a ≡ true) × (b ≡ true)
both_true true true h = (refl, refl)
both_true true false h = absurd cc
both_true false b h = absurd cc

not_false : (a : Bool) → false ≡ not a → a ≡ true
not_false true h = refl
not_false false h = absurd cc

abbrev name_by : ℕ → ℕ → Name
name_by from len = record { from = from; len = len }

bare_name : (name : Name) → false ≡ is_name name → name_kept false [] ≡ name
bare_name name h =
    let both = both_true (eqb name.from 0) (eqb name.len 0) (not_false (eqb name.from 0 && eqb name.len 0) h) in
    let from = zero_of name.from both.0 in
    let size = zero_of name.len both.1 in
    ap (λ k. name_by k 0) from ∙ ap (name_by name.from) size

abbrev step_by : ℕ → Name → Request → TraceRequest
step_by core name request = record { core = core; name = name; request = request }

-- the numbers that are kept with this head
abbrev kept_by : ℕ → Bool → Name → Request → TraceRequest
kept_by core named name r = step_kept (record { core = core; shape = shape_of named r }) (take (shape_width (shape_of named r)) (six_of r name))

map_again : (core : ℕ) (name : Name) (addr len : ℕ) (prot : Prot) (flags : Flags) (file off : ℕ) (b : Bool) → b ≡ (eqb file 0 && eqb off 0)
    → false ≡ is_name name
    → let h : Shape = record { kind = if b then Pages else Map; named = false; prot = prot_bits prot; flags = flag_bits flags; byte = 0 } in
    step_kept (record { core = core; shape = h }) (take (shape_width h) (addr ∷ len ∷ file ∷ off ∷ name.from ∷ name.len ∷ [])) ≡ step_by core name (Asks.Mmap addr len prot flags file off)
map_again core name addr len prot flags file off true e n =
    let both = both_true (eqb file 0) (eqb off 0) (sym e) in
    ap (λ p. step_by core (name_kept false []) (Asks.Mmap addr len p (flags_of (flag_bits flags)) 0 0)) (prot_again prot)
    ∙ ap (λ f. step_by core (name_kept false []) (Asks.Mmap addr len prot f 0 0)) (flags_again flags)
    ∙ ap (λ m. step_by core m (Asks.Mmap addr len prot flags 0 0)) (bare_name name n)
    ∙ ap (λ k. step_by core name (Asks.Mmap addr len prot flags k 0)) (zero_of file both.0)
    ∙ ap (λ k. step_by core name (Asks.Mmap addr len prot flags file k)) (zero_of off both.1)
map_again core name addr len prot flags file off false e n =
    ap (λ p. step_by core (name_kept false []) (Asks.Mmap addr len p (flags_of (flag_bits flags)) file off)) (prot_again prot)
    ∙ ap (λ f. step_by core (name_kept false []) (Asks.Mmap addr len prot f file off)) (flags_again flags)
    ∙ ap (λ m. step_by core m (Asks.Mmap addr len prot flags file off)) (bare_name name n)

again_by : (core : ℕ) (name : Name) (r : Request) (b : Bool) → b ≡ is_name name → kept_by core b name r ≡ step_by core name r
again_by core name (Asks.Mmap addr len prot flags file off) true e =
    ap (λ p. step_by core name (Asks.Mmap addr len p (flags_of (flag_bits flags)) file off)) (prot_again prot)
    ∙ ap (λ f. step_by core name (Asks.Mmap addr len prot f file off)) (flags_again flags)
again_by core name (Asks.Munmap addr len) true e = refl
again_by core name (Asks.Mprotect addr len prot) true e = ap (λ p. step_by core name (Asks.Mprotect addr len p)) (prot_again prot)
again_by core name (Asks.Load addr) true e = refl
again_by core name (Asks.Store addr byte) true e = refl
again_by core name (Asks.Fetch addr) true e = refl
again_by core name (Asks.Mmap addr len prot flags file off) false e = map_again core name addr len prot flags file off _ refl e
again_by core name (Asks.Munmap addr len) false e = ap (λ m. step_by core m (Asks.Munmap addr len)) (bare_name name e)
again_by core name (Asks.Mprotect addr len prot) false e =
    ap (λ p. step_by core (name_kept false []) (Asks.Mprotect addr len p)) (prot_again prot)
    ∙ ap (λ m. step_by core m (Asks.Mprotect addr len prot)) (bare_name name e)
again_by core name (Asks.Load addr) false e = ap (λ m. step_by core m (Asks.Load addr)) (bare_name name e)
again_by core name (Asks.Store addr byte) false e = ap (λ m. step_by core m (Asks.Store addr byte)) (bare_name name e)
again_by core name (Asks.Fetch addr) false e = ap (λ m. step_by core m (Asks.Fetch addr)) (bare_name name e)

abbrev pub numbers_of : TraceRequest → List ℕ
numbers_of s = take (shape_width (head_of s).shape) (six_of s.request s.name)

kept_again : (s : TraceRequest) → step_kept (head_of s) (numbers_of s) ≡ s
kept_again s = again_by s.core s.name s.request (is_name s.name) refl

-- ---- several

width_few : (k : Kind) → kind_width k ≤ 4
width_few Pages = omega arith
width_few Map = omega arith
width_few Unmap = omega arith
width_few Protect = omega arith
width_few Load = omega arith
width_few Store = omega arith
width_few Fetch = omega arith

wide_by : (b : Bool) (k : Kind) → (if b then 6 else kind_width k) ≤ 6
wide_by true k = omega arith
wide_by false k = omega (arith, width_few k)

head_few : (h : Head) → shape_width h.shape ≤ 6
head_few h = wide_by h.shape.named h.shape.kind

six_long : (r : Request) (name : Name) → length (six_of r name) ≡ 6
six_long (Asks.Mmap addr len prot flags file off) name = refl
six_long (Asks.Munmap addr len) name = refl
six_long (Asks.Mprotect addr len prot) name = refl
six_long (Asks.Load addr) name = refl
six_long (Asks.Store addr byte) name = refl
six_long (Asks.Fetch addr) name = refl

numbers_long : (s : TraceRequest) → length (numbers_of s) ≡ shape_width (head_of s).shape
numbers_long s = length-take-le (shape_width (head_of s).shape) (six_of s.request s.name) (let six = six_long s.request s.name in omega (arith, head_few (head_of s), six))

name_more : (b : Bool) (k : Kind) (ns more : List ℕ) → (if b then 6 else kind_width k) ≤ length ns → name_kept b (ns ++ more) ≡ name_kept b ns
name_more true k ns more p =
    ap (λ n. name_by n (get_or (ns ++ more) 5 0)) (get_or-append ns more 0 4 (omega (arith, p)))
    ∙ ap (name_by (get_or ns 4 0)) (get_or-append ns more 0 5 (omega (arith, p)))
name_more false k ns more p = refl

request_more : (k : Kind) (prot : Prot) (flags : Flags) (byte : ℕ) (ns more : List ℕ) → kind_width k ≤ length ns
    → request_kept k prot flags byte (ns ++ more) ≡ request_kept k prot flags byte ns
request_more Pages prot flags byte ns more p =
    rw (get_or-append ns more 0 0 (omega (arith, p)), get_or-append ns more 0 1 (omega (arith, p))) refl
request_more Map prot flags byte ns more p =
    rw (
      get_or-append ns more 0 0 (omega (arith, p)),
      get_or-append ns more 0 1 (omega (arith, p)),
      get_or-append ns more 0 2 (omega (arith, p)),
      get_or-append ns more 0 3 (omega (arith, p)),
    ) refl
request_more Unmap prot flags byte ns more p =
    rw (get_or-append ns more 0 0 (omega (arith, p)), get_or-append ns more 0 1 (omega (arith, p))) refl
request_more Protect prot flags byte ns more p =
    rw (get_or-append ns more 0 0 (omega (arith, p)), get_or-append ns more 0 1 (omega (arith, p))) refl
request_more Load prot flags byte ns more p = rw (get_or-append ns more 0 0 (omega (arith, p))) refl
request_more Store prot flags byte ns more p = rw (get_or-append ns more 0 0 (omega (arith, p))) refl
request_more Fetch prot flags byte ns more p = rw (get_or-append ns more 0 0 (omega (arith, p))) refl

width_in : (b : Bool) (k : Kind) (n : ℕ) → (if b then 6 else kind_width k) ≤ n → kind_width k ≤ n
width_in true k n p = omega (arith, width_few k, p)
width_in false k n p = p

step_more : (h : Head) (ns more : List ℕ) → shape_width h.shape ≤ length ns → step_kept h (ns ++ more) ≡ step_kept h ns
step_more h ns more p =
    let s = h.shape in
    ap (λ n. step_by h.core n (request_kept s.kind (prot_of s.prot) (flags_of s.flags) s.byte (ns ++ more))) (name_more s.named s.kind ns more p)
    ∙ ap (step_by h.core (name_kept s.named ns)) (request_more s.kind (prot_of s.prot) (flags_of s.flags) s.byte ns more (width_in s.named s.kind (length ns) p))

kept_alone : (ns : List ℕ) (s : TraceRequest) → length ns ≡ 0 → steps_kept (head_of s ∷ []) (ns ++ numbers_of s) ≡ s ∷ []
kept_alone [] s e = ap (λ x. x ∷ []) (kept_again s)
kept_alone (n ∷ ns) s e = absurd (omega (arith, e))

-- with one more
pub steps_push : (hs : List Head) (ns : List ℕ) (s : TraceRequest) → length ns ≡ widths hs → steps_kept (hs ++ head_of s ∷ []) (ns ++ numbers_of s) ≡ steps_kept hs ns ++ s ∷ []
steps_push [] ns s e = kept_alone ns s e
steps_push (h ∷ hs) ns s e =
    let fits : shape_width h.shape ≤ length ns = omega (arith, e) in
    let rest : length (drop (shape_width h.shape) ns) ≡ widths hs = omega (arith, e, length-drop (shape_width h.shape) ns) in
    ap (λ x. x ∷ steps_kept (hs ++ head_of s ∷ []) (drop (shape_width h.shape) (ns ++ numbers_of s))) (step_more h ns (numbers_of s) fits)
    ∙ ap (λ l. step_kept h ns ∷ steps_kept (hs ++ head_of s ∷ []) l) (drop-append-le (shape_width h.shape) ns (numbers_of s) fits)
    ∙ ap (λ l. step_kept h ns ∷ l) (steps_push hs (drop (shape_width h.shape) ns) s rest)

widths_more : (hs : List Head) (h : Head) → widths (hs ++ h ∷ []) ≡ widths hs + shape_width h.shape
widths_more [] h = omega arith
widths_more (g ∷ hs) h = omega (arith, widths_more hs h)

pub widths_push : (hs : List Head) (ns : List ℕ) (s : TraceRequest) → length ns ≡ widths hs → length (ns ++ numbers_of s) ≡ widths (hs ++ head_of s ∷ [])
widths_push hs ns s e = omega (arith, e, length-append ns (numbers_of s), numbers_long s, widths_more hs (head_of s))

pub steps_size : (hs : List Head) (ns : List ℕ) → length (steps_kept hs ns) ≡ length hs
steps_size [] ns = refl
steps_size (h ∷ hs) ns = omega (arith, steps_size hs (drop (shape_width h.shape) ns))

-- the first
pub steps_front : (hs : List Head) (ns : List ℕ) (h : Head) → 0 < length hs → h ≡ get_or hs 0 h
    → steps_kept hs ns ≡ step_kept h ns ∷ steps_kept (drop 1 hs) (drop (shape_width h.shape) ns)
steps_front [] ns h p e = absurd (omega (arith, p))
steps_front (g ∷ hs) ns h p e = ap (λ x. step_kept x ns ∷ steps_kept hs (drop (shape_width x.shape) ns)) (sym e)

pub widths_front : (hs : List Head) (h : Head) → 0 < length hs → h ≡ get_or hs 0 h → widths hs ≡ shape_width h.shape + widths (drop 1 hs)
widths_front [] h p e = absurd (omega (arith, p))
widths_front (g ∷ hs) h p e = ap (λ x. shape_width x.shape + widths hs) (sym e)
