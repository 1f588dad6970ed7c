use mathlib.Core.Path.{◌∙◌}
use Rattle.sets_grids.specs.Given.{given_few, given_kept}
use Rattle.bits.specs.Within.{within_cleared}
use Rattle.sets_grids.specs.Regions.{HAPPENS, HAPPENS_END, AVAILABLE_AT, AVAILABLE_VISIBLE, AVAILABLE_AVAILABLE, VISIBLE_VISIBLE}
use Rattle.sets_happens.specs.Adding.{empty_cleared, empty_kept}
use Rattle.sets_happens.specs.Program.{program_made}
use native.Mathlib.Omega.{arith}
use Rattle.sets_happens.proofs.put_program_order.Goals as goal

pub put_rows-requires : goal.put_rows-requires
put_rows-requires c =
    given_kept (within_cleared HAPPENS HAPPENS_END (omega arith) c.clear.ensures) c.requires

pub put_availables-requires : goal.put_availables-requires
put_availables-requires c =
    let pre = c.requires in
    let cleared = c.clear.ensures in
    let put = c.put_rows.ensures.frame in
    let room = pre.room in
    (given_kept put (given_kept (within_cleared HAPPENS HAPPENS_END (omega arith) cleared) pre), record { rows = empty_kept (λ o. omega arith) put (empty_cleared AVAILABLE_AT HAPPENS HAPPENS_END _ (omega arith) (omega arith) (omega (arith, room)) cleared); visibles = empty_kept (λ o. omega arith) put (empty_cleared AVAILABLE_VISIBLE HAPPENS HAPPENS_END _ (omega arith) (omega arith) (omega (arith, room)) cleared); availables = empty_kept (λ o. omega arith) put (empty_cleared AVAILABLE_AVAILABLE HAPPENS HAPPENS_END _ (omega arith) (omega arith) (omega (arith, room)) cleared) })

pub put_visibles-requires : goal.put_visibles-requires
put_visibles-requires c =
    (given_kept c.put_availables.ensures.frame (given_kept c.put_rows.ensures.frame (given_kept (within_cleared HAPPENS HAPPENS_END (omega arith) c.clear.ensures) c.requires)), empty_kept (λ o. omega arith) c.put_availables.ensures.frame (empty_kept (λ o. omega arith) c.put_rows.ensures.frame (empty_cleared VISIBLE_VISIBLE HAPPENS HAPPENS_END _ (omega arith) (omega arith) (let a = c.requires.room in omega arith) c.clear.ensures)))

pub shape_of-w : goal.shape_of-w
shape_of-w c =
    c.put_visibles.ensures.frame.len ∙ c.put_availables.ensures.frame.len ∙ c.put_rows.ensures.frame.len ∙ (within_cleared HAPPENS HAPPENS_END (omega arith) c.clear.ensures).len

pub returns : goal.returns
returns c =
    program_made c.requires.opened.rows (given_few c.requires) (within_cleared HAPPENS HAPPENS_END (omega arith) c.clear.ensures) c.put_rows.ensures c.put_availables.ensures c.put_visibles.ensures
