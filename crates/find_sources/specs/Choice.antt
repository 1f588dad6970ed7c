-- What the tests of a choice say together. Assumes nothing.
use Rattle.std.specs.Prelude.{◌≡◌, Bool, true, false, not, cond, List, [], ℕ, eqb}
use Rattle.std.proofs.Math.Path.{refl, sym}
use Rattle.std.proofs.Common.{◌∙◌}
use Rattle.finite.specs.Logic.{◌and◌, ◌or◌, and_false_left, and_false_right}
use Rattle.finite.specs.Below.{any_below, least}
use Rattle.model.specs.declared.Row.{Row}
use Rattle.model.specs.Limits.{LONGEST, INITIAL, BLANK}
use Rattle.model.specs.Row.{plain_read, writes}
use Rattle.model.specs.Table.{Mode, OFF, Table, decode}
use Rattle.model.specs.Scope.{follows}
use Rattle.model.specs.Edge.{before_some}
use Rattle.model.specs.TableFault.{writer_fits}
use Rattle.model.specs.Fill.{not_before_at, written, overwrites_between, between, candidate, choice, blank, chosen}

-- ---- definitions

-- the source of row i, which has s, once each blank has its choice
unfoldable pub chosen_from : Table → ℕ → ℕ → ℕ
chosen_from t i s = cond (plain_read (t.row i) and eqb s BLANK) (choice t i) s

-- ---- laws: an early return where the first of two tests fails, and the second test where it holds

pub and_stop : (x y f : Bool) → f ≡ x → f ≡ false → false ≡ (x and y)
and_stop x y f e h = sym (and_false_left x y (sym e ∙ h))

pub and_go : (x y f b : Bool) → f ≡ x → f ≡ true → b ≡ y → b ≡ (x and y)
unfolding ◌and◌
and_go x y f b e h q = rw (← e, h, q) refl

-- ---- laws: between

pub writer_told : (t : Table) (y s z : ℕ) (f g h : Bool) → f ≡ writes (t.row z) → f ≡ true
    → g ≡ (follows t s z and before_some t z y) → h ≡ any_below LONGEST (overwrites_between t y s z) → (g or h) ≡ between t y s z
unfolding between
writer_told t y s z f g h d e p q = and_go _ _ f _ d e (rw (p, q) refl)

-- ---- laws: candidates

-- the test of a writer reads no place
pub fit_told : (b : List ℕ) (p : List (List ℕ)) (mode : Mode) (n i s v : ℕ) (f : Bool) → v ≡ s → f ≡ writer_fits (decode b [] OFF n) i v
    → f ≡ writer_fits (decode b p mode n) i s
unfolding writer_fits decode
fit_told b p mode n i s v f e h = rw (← e, h) refl

module _ (t : Table) (y s : ℕ) (f : Bool) (d : f ≡ writer_fits t y s) where
  pub unfit : f ≡ false → false ≡ candidate t y s
  unfolding candidate
  unfit h = sym (and_false_left _ _ (and_false_left _ _ (sym d ∙ h)))

  module _ (m : Bool) (e : m ≡ any_below LONGEST (not_before_at t y s)) where
    pub missed : m ≡ true → false ≡ candidate t y s
    unfolding candidate
    missed h = sym (and_false_left _ _ (and_false_right _ _ (rw (sym e ∙ h) refl)))

    pub fitting : f ≡ true → m ≡ false → (b : Bool) → b ≡ any_below t.rows (between t y s) → not b ≡ candidate t y s
    unfolding candidate ◌and◌
    fitting h k b g = rw (← d, h, ← e, k, g) refl

-- ---- laws: what a blank's choice is

module _ (t : Table) (y : ℕ) (f : Bool) (d : f ≡ written t y) where
  pub unwritten : f ≡ false → INITIAL ≡ choice t y
  unfolding choice
  unwritten h = rw (sym d ∙ h) refl

  pub found : f ≡ true → (s : ℕ) → s ≡ least t.rows (candidate t y) → s ≡ choice t y
  unfolding choice
  found h s e = rw (sym d ∙ h) e

-- ---- laws: a blank's choice, every other row's own source

-- row i is r, and has the source s
module _ (t : Table) (i s v : ℕ) (r : Row) (a c : Bool) where
  told : r ≡ t.row i → v ≡ s → a ≡ plain_read r → c ≡ eqb v BLANK → (a and c) ≡ (plain_read (t.row i) and eqb s BLANK)
  told row_is source_is plain_is blank_is = rw (blank_is, plain_is, row_is, source_is) refl

  pub blank_told : r ≡ t.row i → v ≡ s → a ≡ plain_read r → c ≡ eqb v BLANK → (a and c) ≡ true → (k : ℕ) → k ≡ choice t i → k ≡ chosen_from t i s
  unfolding chosen_from
  blank_told row_is source_is plain_is blank_is is_blank k choice_is = rw (sym (told row_is source_is plain_is blank_is) ∙ is_blank) choice_is

  pub own_told : r ≡ t.row i → v ≡ s → a ≡ plain_read r → c ≡ eqb v BLANK → (a and c) ≡ false → s ≡ chosen_from t i s
  unfolding chosen_from
  own_told row_is source_is plain_is blank_is no_blank = rw (sym (told row_is source_is plain_is blank_is) ∙ no_blank) refl

pub chosen_is : (t : Table) (source : ℕ → ℕ) (i c : ℕ) → c ≡ chosen_from t i (source i) → c ≡ chosen t source i
unfolding chosen_from chosen blank
chosen_is t source i c e = e
