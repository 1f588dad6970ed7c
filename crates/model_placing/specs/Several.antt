-- AT* and VIS* with chains, as unions over sets of rows: over the rows that a's chains end with, and, for each scope, over the
-- visibility operations that meet them in the domain of that scope. Assumes nothing.
use Rattle.std.specs.Prelude.{◌≡◌, Bool, ℕ}
use Rattle.finite.specs.Logic.{◌and◌, split, and_true, bool_ext}
use Rattle.finite.specs.Below.{any_cong}
use Rattle.model.specs.Table.{Table}
use Rattle.model.specs.Moment.{itself}
use Rattle.model.specs.Happens.{happens}
use Rattle.model.specs.Availability.{availability_moment, availability_chain}
use Rattle.model_placing.specs.Shares.{share}
use Rattle.model_placing.specs.Union.{union_by, union}
use Rattle.model_placing.specs.Leads.{met_by, meets}

-- ---- definitions

-- what c makes available to its widest domain, of a's agent: the rows that meet it at once
unfoldable pub met_in : Table → ℕ → ℕ → ℕ → Bool
met_in t a c y =
    share t (t.row a).agent (t.row c).scope c and (happens t (availability_moment t c) (itself y) and share t (t.row a).agent (t.row c).scope y)

-- ---- laws

module _ (t : Table) (a : ℕ) where
  -- AT*[a]
  pub meets_union : (y : ℕ) → meets t a y ≡ union t.rows (availability_chain t a) (met_in t a) y
  unfolding meets met_by union union_by met_in
  meets_union y = any_cong _ _ t.rows (λ c l. turn (availability_chain t a c) _ _ _)
    where
      turn : (p q r s : Bool) → (p and q and r and s) ≡ (p and (q and (s and r)))
      turn p q r s =
          bool_ext _ _
          (λ e. let u = split (split e).0 in and_true (split u.0).0 (and_true (split u.0).1 (and_true (split e).1 u.1)))
          (λ e. let u = split (split e).1 in and_true (and_true (and_true (split e).0 u.0) (split u.1).1) (split u.1).0)
