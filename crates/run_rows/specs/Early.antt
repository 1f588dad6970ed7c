-- Moments that are not program-ordered, by their numbers or agents alone. Assumes nothing.
use Rattle.std.specs.Prelude.{◌≡◌, true, not, List, ℕ, ◌≤◌}
use Rattle.std.proofs.Math.Path.{refl, sym}
use Rattle.std.proofs.Math.Bool.{false}
use Rattle.std.proofs.Math.Dec.{eqb}
use Rattle.std.proofs.Common.{le-ltb}
use Rattle.finite.specs.Logic.{◌and◌, split, not_both, not_so, not_out}
use Rattle.model.specs.Table.{Mode, decode, row_of}
use Rattle.model.specs.Moment.{row_in, program_ordered, program_order}

module _ (b : List ℕ) (p : List (List ℕ)) (mode : Mode) (n m k : ℕ) where
  pub not_earlier : k ≤ m → false ≡ program_order (decode b p mode n) m k
  unfolding program_order program_ordered decode ◌and◌
  not_earlier l = rw (le-ltb m k l) refl

  pub other_agent : (x y : ℕ) → x ≡ (row_of b (row_in m)).agent → y ≡ (row_of b (row_in k)).agent → not (eqb x y) ≡ true
      → false ≡ program_order (decode b p mode n) m k
  unfolding program_order program_ordered decode
  other_agent x y e f g =
      let h : eqb (row_of b (row_in m)).agent (row_of b (row_in k)).agent ≡ false = rw (← e, ← f) (not_out (eqb x y) g) in
      sym (not_so _ (λ t. not_both (split (split (split t).0).0).1 h))
