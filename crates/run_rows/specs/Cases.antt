-- The tests of M6 on rows that are decoded already, and that they are the table's. Assumes nothing.
use Rattle.std.specs.Prelude.{◌≡◌, Bool, true, false, cond, List, ℕ, suc, ◌<◌, eqb}
use Rattle.std.proofs.Math.Path.{refl, ap}
use Rattle.std.proofs.Common.{sym, ◌∙◌, arith}
use borrow.Author.Tests.{ne_eqb}
use Rattle.finite.specs.Logic.{◌and◌, ◌or◌, and_false_left, or_off}
use Rattle.model.specs.declared.Row.{Row}
use Rattle.model.specs.Row.{access, holds, meets, class_in, releases, acquires}
use Rattle.model.specs.Table.{Mode, decode, row_of}
use Rattle.model.specs.Moment.{AT, row_in, part, classes_of, program_order}
use Rattle.model.specs.Synchronizes.{synchronizes}
use Rattle.model.specs.Happens.{holding_of, concerns_of, holding, concerns, by_sync, to_release, from_acquire, by_system, ROW_CASES, CASES, direct, nth_case}

-- ---- definitions

-- M6: moment k of r is of a class in s: it accesses it, or its availability or visibility operation has it
unfoldable pub touches : ℕ → Row → ℕ → Bool
touches s r k = cond (eqb k AT) (access r and class_in r s) (meets (classes_of r) s)

-- row i holds all of s
unfoldable pub holds_at : List ℕ → ℕ → ℕ → Bool
holds_at b s i = holds (row_of b i).classes s

-- M6: the direct case of this number, of the three that go by rows, leads from the moment `from` of r to the moment `to` of q; b says
-- that r synchronizes-with q, o that the one moment is program-ordered before the other
unfoldable pub case_rows : ℕ → ℕ → ℕ → ℕ → Row → Row → Bool → Bool → Bool
case_rows case s from to r q b o =
    (eqb case 1 and (holding_of s r from and holding_of s q to and b))
    or (eqb case 2 and (holding_of s q to and releases q and concerns_of s r from and o))
    or (eqb case 3 and (holding_of s r from and acquires r and concerns_of s q to and o))

-- direct case k + 1 of these
unfoldable pub nth_case_rows : ℕ → ℕ → ℕ → Row → Row → Bool → Bool → ℕ → Bool
nth_case_rows s from to r q b o k = case_rows (suc k) s from to r q b o

-- ---- laws: of two rows

-- a test that is asked twice
once : (a x v : Bool) → (a and (x and (a and v))) ≡ (a and (x and v))
unfolding ◌and◌
once true x v = refl
once false x v = refl

-- each case in full
module _ (s from to : ℕ) (r q : Row) (b o : Bool) where
  pub case_one : case_rows 1 s from to r q b o ≡ (holding_of s r from and holding_of s q to and b)
  unfolding case_rows ◌and◌ ◌or◌
  case_one = or_off _ _ refl ∙ or_off _ _ refl

  pub case_two : case_rows 2 s from to r q b o ≡ (holding_of s q to and releases q and concerns_of s r from and o)
  unfolding case_rows ◌and◌ ◌or◌
  case_two = or_off _ _ refl

  pub case_three : case_rows 3 s from to r q b o ≡ (holding_of s r from and acquires r and concerns_of s q to and o)
  unfolding case_rows ◌and◌ ◌or◌
  case_three = refl

  -- the same of a number and of tests that were read
  module _ (case : ℕ) where
    pub told_one : {h g : Bool} → case ≡ 1 → h ≡ holding_of s r from → g ≡ holding_of s q to → (h and g and b) ≡ case_rows case s from to r q b o
    told_one e x y = rw (x, y, e) (sym case_one)

    pub told_two : {g x c : Bool} → case ≡ 2 → g ≡ holding_of s q to → x ≡ releases q → c ≡ concerns_of s r from
        → (g and x and c and o) ≡ case_rows case s from to r q b o
    told_two e f g h = rw (f, g, h, e) (sym case_two)

    pub told_three : {h x c : Bool} → case ≡ 3 → h ≡ holding_of s r from → x ≡ acquires r → c ≡ concerns_of s q to
        → (h and x and c and o) ≡ case_rows case s from to r q b o
    told_three e f g h = rw (f, g, h, e) (sym case_three)

    -- no other number is one of them
    pub told_none : (case ≡ 1 → ⊥) → (case ≡ 2 → ⊥) → (case ≡ 3 → ⊥) → false ≡ case_rows case s from to r q b o
    unfolding case_rows ◌and◌ ◌or◌
    told_none e f g = rw (ne_eqb case 1 e, ne_eqb case 2 f, ne_eqb case 3 g) refl

    -- the first alone asks whether r synchronizes-with q
    pub asked_once : case_rows case s from to r q (eqb case 1 and b) o ≡ case_rows case s from to r q b o
    unfolding case_rows
    asked_once =
        ap
        (λ (a : Bool). a or (eqb case 2 and (holding_of s q to and releases q and concerns_of s r from and o))
        or (eqb case 3 and (holding_of s r from and acquires r and concerns_of s q to and o)))
        (once (eqb case 1) (holding_of s r from and holding_of s q to) b)

-- ---- laws: of a table

module _ (b : List ℕ) (p : List (List ℕ)) (mode : Mode) (n : ℕ) where
  -- a direct case by its number: one of the three, or the one that goes by dependencies
  pub direct_is : (s case m k : ℕ)
      → direct (decode b p mode n) s case m k
      ≡ (case_rows case s (part m) (part k) (row_of b (row_in m)) (row_of b (row_in k)) (synchronizes (decode b p mode n) (row_in m) (row_in k))
      (program_order (decode b p mode n) m k)
      or (eqb case CASES and by_system (decode b p mode n) m k))
  unfolding direct by_sync to_release from_acquire holding concerns case_rows decode
  direct_is s case m k = refl

  -- one of the three
  pub nth_is : (s m k c : ℕ) → c < ROW_CASES
      → nth_case (decode b p mode n) s m k c
      ≡ nth_case_rows s (part m) (part k) (row_of b (row_in m)) (row_of b (row_in k)) (synchronizes (decode b p mode n) (row_in m) (row_in k))
      (program_order (decode b p mode n) m k) c
  unfolding nth_case nth_case_rows
  nth_is s m k c l = direct_is s (suc c) m k ∙ or_off _ _ (and_false_left _ _ (ne_eqb (suc c) CASES (λ e. absurd (omega arith))))
