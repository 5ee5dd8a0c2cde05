use Rattle.std.proofs.Common.{◌≡◌, ◌≢◌, [], ◌∷◌, ◌++◌, length, drop, ap, ◌∙◌, sym, arith}
use Rattle.std.proofs.lemmas.Bool.Decides.{nat_tests}
use Rattle.mmu.specs.Tlb.{tlb_at}
use Rattle.mmu.specs.Fills.{entries_of}
use Rattle.mmu.proofs.Filings.{full_here, room_here, filled_full, filled_room}
use Rattle.mmu.proofs.tlb.Tlb.fill.Goals as goal

pub replace_oldest-requires-clause-full : goal.replace_oldest-requires-clause-full
replace_oldest-requires-clause-full c =
    let t = c.make_room.new.self in
    let none : t.free ≡ 0 = grind (arith, nat_tests) in
    full_here (length (entries_of t.places t.fills.items)) t.free t.counted none

pub replace_oldest-requires-clause-absent : goal.replace_oldest-requires-clause-absent
replace_oldest-requires-clause-absent c = ap (λ es. tlb_at es c.args.page) c.make_room.ensures.entries ∙ c.requires

pub push-requires-clause-few : goal.push-requires-clause-few
push-requires-clause-few c =
    let t = c.make_room.new.self in
    let some : t.free ≢ 0 = grind (arith, nat_tests) in
    room_here (length (entries_of t.places t.fills.items)) t.free t.counted some (omega arith)

pub push-requires-clause-absent : goal.push-requires-clause-absent
push-requires-clause-absent c = ap (λ es. tlb_at es c.args.page) c.make_room.ensures.entries ∙ c.requires

pub returns-then-self-eq0 : goal.returns-then-self-eq0
returns-then-self-eq0 c =
    let t = c.make_room.new.self in
    let none : t.free ≡ 0 = grind (arith, nat_tests) in
    let same = c.make_room.ensures.entries in
    c.replace_oldest.ensures ∙ ap (λ es. drop 1 es ++ record { page = c.args.page; translation = c.args.translation } ∷ []) same
    ∙ filled_full c.args.page c.args.translation (entries_of c.args.self.now.places c.args.self.now.fills.items)
    (ap length (sym same) ∙ full_here (length (entries_of t.places t.fills.items)) t.free t.counted none)

pub returns-else-self-eq0 : goal.returns-else-self-eq0
returns-else-self-eq0 c =
    let t = c.make_room.new.self in
    let some : t.free ≢ 0 = grind (arith, nat_tests) in
    let same = c.make_room.ensures.entries in
    let room = room_here (length (entries_of t.places t.fills.items)) t.free t.counted some (omega arith) in
    c.push.ensures ∙ ap (λ es. es ++ record { page = c.args.page; translation = c.args.translation } ∷ []) same
    ∙ filled_room c.args.page c.args.translation (entries_of c.args.self.now.places c.args.self.now.fills.items) (omega (arith, ap length same, room))
