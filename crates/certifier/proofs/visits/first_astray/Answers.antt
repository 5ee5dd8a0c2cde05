use Rattle.std.proofs.Common.{◌≡◌, ◌≤◌, None, false, length, arith, subst}
use Rattle.certifier.specs.declared.looks.Look.{Look}
use Rattle.certifier.specs.Looks.{IsFirstMarked, NoneMarked}
use Rattle.certifier.proofs.Looked.{all_caught, along, astray_first, none_map, some_map}
use Rattle.certifier.proofs.visits.first_astray.Goals as goal

-- a look, since one is asked for
any : Look
any = record { applied = 0; content = None; seen = 0; is_bad = false }

pub returns-clause-some : goal.returns-clause-some
returns-clause-some g c = some_map c.first_marked.result _ _
    (λ page first maps h. astray_first c.args.n maps _ c.args.slots.now c.look_in.new.looks.items page any
    (all_caught c.args.n c.args.slots.now c.look_in.new.looks.items c.look_in.ensures.caught)
    (c.look_in.ensures.looked c.args.n maps (omega arith) h)
    (subst (λ ls. IsFirstMarked c.args.slots.now ls page) c.as_slice.ensures.value first))
    c.first_marked.ensures.some

pub returns-clause-none : goal.returns-clause-none
returns-clause-none g c = none_map c.first_marked.result _ _
    (λ none maps h k d page lt of. along c.args.n maps _ (length c.args.slots.now) c.args.slots.now c.look_in.new.looks.items (omega arith)
    (all_caught c.args.n c.args.slots.now c.look_in.new.looks.items c.look_in.ensures.caught)
    (c.look_in.ensures.looked c.args.n maps (omega arith) h)
    (subst (λ ls. NoneMarked (length c.args.slots.now) c.args.slots.now ls) c.as_slice.ensures.value none) any k d page lt of)
    c.first_marked.ensures.none
