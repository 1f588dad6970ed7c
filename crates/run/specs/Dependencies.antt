-- A row of a dependency, read from its slot. Assumes nothing.
use Rattle.std.specs.Prelude.{◌≡◌, List, ℕ, ◌+◌, ◌*◌, ◌≤◌, ◌<◌, get_or}
use Rattle.std.proofs.Common.{sym, ◌∙◌}
use Rattle.std.proofs.Math.ListN.{get_or-eq_default}
use Rattle.finite.specs.Lists.{tabulate, length_tabulate, get_d_tabulate}
use Rattle.model.specs.Limits.{DEPENDENCIES}
use Rattle.model.specs.Header.{DEPENDENCY_BYTES, pair_at}
use Rattle.model.specs.Table.{dependency_end}

module _ (d : List ℕ) (at k : ℕ) where
  pub end_in_lem : {r : ℕ} {z : List ℕ} → z ≡ d → r ≡ pair_at z (at + k * DEPENDENCY_BYTES) → k < DEPENDENCIES
      → r ≡ get_or (tabulate (dependency_end d at) DEPENDENCIES) k 0
  unfolding dependency_end
  end_in_lem e q l = q ∙ rw e (sym (get_d_tabulate (dependency_end d at) DEPENDENCIES k 0 l))

  pub end_past : DEPENDENCIES ≤ k → 0 ≡ get_or (tabulate (dependency_end d at) DEPENDENCIES) k 0
  end_past l = sym (get_or-eq_default (tabulate (dependency_end d at) DEPENDENCIES) 0 (rw (length_tabulate (dependency_end d at) DEPENDENCIES) l))
