-- Laws of the edges that the stages cite. Assumes nothing.
use Rattle.std.specs.Prelude.{◌≡◌, Bool, not, cond, ℕ}
use Rattle.std.proofs.Math.Path.{refl, subst}
use Rattle.std.proofs.Common.{sym}
use Rattle.std.proofs.Math.Bool.{true, false}
use Rattle.std.proofs.Math.Dec.{eqb}
use Rattle.finite.specs.Logic.{◌and◌, ◌or◌}
use Rattle.model.specs.declared.Row.{Row}
use Rattle.model.specs.Limits.{INITIAL}
use Rattle.model.specs.Row.{reads, writes, overlap}
use Rattle.model.specs.Table.{Table}
use Rattle.model.specs.Scope.{follows}
use Rattle.model.specs.Edge.{before_some, reads_from, from_reads, edge_number, edge}
use Rattle.model_laws.specs.EdgeLaws.{edge_any}

-- ---- laws

-- a pair has an edge where one of the four holds
pub edge_is : (t : Table) (source : ℕ → ℕ) (x y : ℕ) (by_order by_scope by_read from_read : Bool) → by_order ≡ before_some t x y
    → by_scope ≡ follows t x y → by_read ≡ reads_from t source x y → from_read ≡ from_reads t source x y
    → (by_order or by_scope or by_read or from_read) ≡ edge t source x y
edge_is t source x y by_order by_scope by_read from_read is_order is_scope is_read is_from =
    rw (is_order, is_scope, is_read, is_from) (sym (edge_any t source x y))

-- the lowest number, chosen one after the other
pub number_is : (t : Table) (source : ℕ → ℕ) (x y one two three four : ℕ) (by_order by_scope by_read from_read : Bool) → by_order ≡ before_some t x y
    → by_scope ≡ follows t x y → by_read ≡ reads_from t source x y → from_read ≡ from_reads t source x y → one ≡ cond by_order 1 two → two ≡ cond by_scope 2 three
    → three ≡ cond by_read 3 four → four ≡ cond from_read 4 0 → one ≡ edge_number t source x y
unfolding edge_number
number_is t source x y one two three four by_order by_scope by_read from_read is_order is_scope is_read is_from is_one is_two is_three is_four =
    rw (is_one, is_two, is_three, is_four, is_order, is_scope, is_read, is_from) refl

-- edge 4 where y, which is r, read the initial value, and where it did not; s is y's source, and q is z
module _ (t : Table) (source : ℕ → ℕ) (y z s : ℕ) (r q : Row) (e : s ≡ source y) (f : r ≡ t.row y) (g : q ≡ t.row z) where
  pub from_initial : (a b c : Bool) → eqb s INITIAL ≡ true → a ≡ reads r → b ≡ writes q → c ≡ overlap r q
      → (not (eqb y z) and a and (b and c)) ≡ from_reads t source y z
  unfolding from_reads
  from_initial a b c i l m n =
      let j : eqb (source y) INITIAL ≡ true = subst (λ (v : ℕ). eqb v INITIAL ≡ true) e i in
      rw (j, l, m, n, f, g) refl

  pub from_source_lem : (a b : Bool) → eqb s INITIAL ≡ false → a ≡ reads r → b ≡ follows t s z → (not (eqb y z) and a and b) ≡ from_reads t source y z
  unfolding from_reads
  from_source_lem a b i l m =
      let j : eqb (source y) INITIAL ≡ false = subst (λ (v : ℕ). eqb v INITIAL ≡ false) e i in
      rw (j, l, m, f, e) refl
