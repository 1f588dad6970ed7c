-- What M6 and M7 leave. Assumes nothing.
use Rattle.std.specs.Prelude.{List, ℕ, ◌≤◌}
use Rattle.std.proofs.Common.{arith}
use Rattle.model.specs.Synchronizes.{synchronizes}
use Rattle.work_area.specs.Regions.{SYNC}
use Rattle.sets_of_rows.specs.declared.Set.{Set}
use Rattle.sets_grids.specs.Given.{Given, given_few, given_kept}
use Rattle.sets_grids.specs.Happens.{Leading}
use Rattle.sets_order.specs.System.{MadeDepends, MadeSystem}
use Rattle.model.specs.Location.{system_before}
use Rattle.model.specs.Table.{Table}
use Rattle.bits.specs.Within.{Within, within_trans, within_widen}
use Rattle.sets_grids.specs.Regions.{HAPPENS, REACH_END, SYSTEM, SYSTEM_END}
use Rattle.sets_grids.specs.Grid.{Grid, grid_kept}
use Rattle.sets_grids.specs.Happens.{Happening}

pub record MadeHappens (t : Table) (n : ℕ) (w u : List ℕ) : Type 0 where
  pub happening : Happening t n u
  pub frame : Within HAPPENS REACH_END w u

pub record MadeOrder (t : Table) (n : ℕ) (w u : List ℕ) : Type 0 where
  pub happening : Happening t n u
  pub system : Grid SYSTEM n (system_before t) u
  pub frame : Within HAPPENS SYSTEM_END w u

-- ---- laws

pub depending_of : {t : Table} {n : ℕ} {ends : Set} {s w u : List ℕ} → Given t n s w → Grid SYNC n (synchronizes t) w → MadeDepends t n ends w u → Leading t n ends s u
depending_of g y m =
    let few = given_few g in
    record { given = given_kept m.frame g; told = m.told; syncs = grid_kept (λ o. absurd (omega (arith, o, few))) m.frame y; depends = m.depends }

pub leading_of : {t : Table} {n : ℕ} {ends : Set} {s u v : List ℕ} → Leading t n ends s u → MadeSystem t n u v → Leading t n ends s v
leading_of g m =
    let few = given_few g.given in
    record {
      given = given_kept m.frame g.given;
      told = g.told;
      syncs = grid_kept (λ o. absurd (omega (arith, o, few))) m.frame g.syncs;
      depends = grid_kept (λ o. absurd (omega (arith, o, few))) m.frame g.depends;
    }

pub made_order : {t : Table} {n : ℕ} {ends : Set} {w u v z : List ℕ} → n ≤ 128 → MadeDepends t n ends w u → MadeSystem t n u v → MadeHappens t n v z → MadeOrder t n w z
made_order few a b d =
    record {
      happening = d.happening;
      system = grid_kept (λ o. omega arith) d.frame b.grid;
      frame = within_trans (within_widen HAPPENS SYSTEM_END (omega arith) (omega arith) a.frame)
          (within_trans (within_widen HAPPENS SYSTEM_END (omega arith) (omega arith) b.frame) (within_widen HAPPENS SYSTEM_END (omega arith) (omega arith) d.frame));
    }
