-- What every stage is given: a table, its sets, and room in the work area. Assumes nothing.
use Rattle.std.specs.Prelude.{◌≡◌, List, ℕ, ◌≤◌, length}
use Rattle.std.proofs.Common.{arith}
use Rattle.model.specs.Limits.{ROWS, WORK}
use Rattle.model.specs.Table.{Table}
use Rattle.bits.specs.Within.{Within}
use Rattle.sets_of_table.specs.Fit.{Fit}
use Rattle.sets_of_table.specs.Known.{Opened}

-- ---- definitions

pub record Given (t : Table) (n : ℕ) (s w : List ℕ) : Type 0 where
  pub opened : Opened t n s
  pub room : WORK ≤ length w

-- the same without the sets
pub record Fitting (t : Table) (n : ℕ) (w : List ℕ) : Type 0 where
  pub fit : Fit t
  pub rows : t.rows ≡ n
  pub room : WORK ≤ length w

-- ---- laws

pub given_kept : {t : Table} {n c d : ℕ} {s w u : List ℕ} → Within c d w u → Given t n s w → Given t n s u
given_kept f g = record { opened = g.opened; room = let e = f.len in let r = g.room in omega arith }

pub given_few : {t : Table} {n : ℕ} {s w : List ℕ} → Given t n s w → n ≤ ROWS
given_few g = let e = g.opened.rows in let f = g.opened.fit.few in omega arith

pub fitting : {t : Table} {n : ℕ} {s w : List ℕ} → Given t n s w → Fitting t n w
fitting g = record { fit = g.opened.fit; rows = g.opened.rows; room = g.room }

pub fitting_few : {t : Table} {n : ℕ} {w : List ℕ} → Fitting t n w → n ≤ ROWS
fitting_few g = let e = g.rows in let f = g.fit.few in omega arith
