-- Sources held in a list, and whether a check admits them. Assumes nothing.
use Rattle.std.specs.Prelude.{◌≡◌, Bool, true, false, not, List, [], ℕ, ◌+◌, ◌<◌, length, get_or, set}
use Rattle.std.proofs.Math.Path.{refl}
use Rattle.std.proofs.Common.{sym, ap, ◌∙◌, arith, length-set, get_or-set_same, get_or-set_other}
use Rattle.std.proofs.Math.Decide.{ℕ_discrete}
use Rattle.finite.specs.Logic.{◌and◌}
use Rattle.finite.specs.Below.{any_below}
use Rattle.model.specs.declared.Row.{Row}
use Rattle.model.specs.Limits.{SOURCES}
use Rattle.model.specs.Row.{reads}
use Rattle.model.specs.Table.{Mode, OFF, Table, row_of, decode}
use Rattle.model.specs.TableFault.{writer_fits, source_fits, source_broken}
use Rattle.model.specs.Fill.{sources_fit}

-- ---- definitions

-- the source of row i in a list
abbrev pub at : List ℕ → ℕ → ℕ
at l i = get_or l i 0

-- the list holds the first n sources
pub record Listed (source : ℕ → ℕ) (n : ℕ) (l : List ℕ) : Type 0 where
  pub room : length l ≡ SOURCES
  pub each : (i : ℕ) → i < n → at l i ≡ source i

-- row i is a reader, and a check refuses s as its source
unfoldable pub broken_by : Table → ℕ → ℕ → Bool
broken_by t i s = reads (t.row i) and not (source_fits false t i s)

unfoldable pub broken_in : Table → List ℕ → ℕ → Bool
broken_in t l i = broken_by t i (at l i)

-- ---- laws: a loop that fills it

pub listed_none : (source : ℕ → ℕ) (l : List ℕ) → length l ≡ SOURCES → Listed source 0 l
listed_none source l e = record { room = e; each = λ i h. absurd (omega arith) }

pub listed_more : (source : ℕ → ℕ) (n v : ℕ) (l : List ℕ) → n < SOURCES → v ≡ source n → Listed source n l → Listed source (n + 1) (set l n v)
listed_more source n v l b e h = record { room = length-set l n v ∙ h.room; each = λ i m. go i m (ℕ_discrete i n) }
  where
    go : (i : ℕ) → i < n + 1 → Dec (i ≡ n) → get_or (set l n v) i 0 ≡ source i
    go i m (yes q) = let r = h.room in rw q (get_or-set_same l n v 0 (omega arith) ∙ e)
    go i m (no q) = get_or-set_other l n i v 0 q ∙ h.each i (omega arith)

-- ---- laws: a loop that tests it

-- the test of a source reads no place, so none makes a difference
pub broken_told : (b : List ℕ) (p : List (List ℕ)) (mode : Mode) (n i s v : ℕ) (r : Row) (f g : Bool) → v ≡ s → r ≡ row_of b i → f ≡ reads r
    → g ≡ source_fits false (decode b [] OFF n) i v → (f and not g) ≡ broken_by (decode b p mode n) i s
unfolding broken_by source_fits writer_fits decode
broken_told b p mode n i s v r f g source_is row_is reads_is fits_is = rw (reads_is, fits_is, row_is, source_is) refl

module _ (t : Table) (l : List ℕ) where
  fit_is : not (any_below t.rows (broken_in t l)) ≡ sources_fit t (at l)
  unfolding broken_in broken_by sources_fit source_broken
  fit_is = refl

  pub broken_some : any_below t.rows (broken_in t l) ≡ true → false ≡ sources_fit t (at l)
  broken_some e = sym (ap not e) ∙ fit_is

  pub broken_none : any_below t.rows (broken_in t l) ≡ false → true ≡ sources_fit t (at l)
  broken_none e = sym (ap not e) ∙ fit_is
