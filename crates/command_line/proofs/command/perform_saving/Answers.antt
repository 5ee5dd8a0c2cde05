use Rattle.std.proofs.Common.{◌∙◌, ap, refl, sym, Some, Vec, ℕ}
use Rattle.std.specs.declared.alloc.Global.{Global}
use Rattle.command_line.proofs.command.perform_saving.Goals as goal

pub returns : goal.returns
returns g c = record {
  does = record {
    own = _;
    empty = ap (λ (v : Vec ℕ Global). Some v.items) c.new-held.ensures.bytes ∙ ap Some c.new.ensures.items;
    status = c.perform-status.result;
    done = c.perform-status.ensures.does;
    saved = λ two three. (_, refl, rw (sym c.as_slice.ensures.value) (c.save_output.ensures.saved two three));
    status_is = c.save_output.ensures.status;
  };
}
