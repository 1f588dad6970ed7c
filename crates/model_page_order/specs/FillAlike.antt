-- A fill of two tables that are alike, with renumbered sources: the sources that it chooses for one are the other's, renumbered.
-- Assumes nothing.
use Rattle.std.specs.Prelude.{◌≡◌, Bool, ◌⊎◌, ℕ, ◌≤◌, ◌<◌}
use Rattle.std.proofs.Math.Path.{refl, sym, ap}
use Rattle.std.proofs.Common.{subst, inl, inr, arith}
use Rattle.std.proofs.Math.Bool.{true, false, not, cond}
use Rattle.finite.specs.Logic.{which, split}
use Rattle.finite.specs.Below.{any_cong, least}
use Rattle.model.specs.Limits.{LONGEST, INITIAL, BLANK, ROWS}
use Rattle.model.specs.Row.{plain_read}
use Rattle.model.specs.Table.{Table}
use Rattle.model.specs.TableFault.{writer_fits, source_fits, source_broken}
use Rattle.model.specs.Fill.{not_before_at, written_by, written, overwrites_between, between, candidate, choice, blank, chosen, sources_fit}
use Rattle.model_laws.specs.ChoiceLaws.{NoRace, Fair, candidates_same}
use Rattle.model_page_order.specs.Renumber.{Renumbering, eqb_to, eqb_stays, ltb_to, least_to}
use Rattle.model_page_order.specs.Alike.{Alike, some_row}
use Rattle.model_page_order.specs.OrderAlike.{follows_alike}
use Rattle.model_page_order.specs.AxiomAlike.{nth_alike, some_alike}

module _ {t u : Table} {π : Renumbering t.rows} (M : Alike t u π) where
  -- ---- refusal 9

  writer_alike : (i s : ℕ) → writer_fits u (π.to i) (π.to s) ≡ writer_fits t i s
  unfolding writer_fits
  writer_alike i s = rw (M.row i, M.row s, M.rows, ltb_to π s, eqb_to π s i) refl

  module _ (few : t.rows ≤ ROWS) where
    fits_alike : (i s : ℕ) → source_fits false u (π.to i) (π.to s) ≡ source_fits false t i s
    unfolding source_fits
    fits_alike i s = rw (writer_alike i s, M.row i, eqb_stays π s INITIAL (omega arith), eqb_stays π s BLANK (omega arith)) refl

    module _ (a b : ℕ → ℕ) (source : (i : ℕ) → b (π.to i) ≡ π.to (a i)) where
      broken_alike : (i : ℕ) → source_broken false u b (π.to i) ≡ source_broken false t a i
      unfolding source_broken
      broken_alike i = rw (source i, fits_alike i (a i), M.row i) refl

      pub sources_alike : sources_fit u b ≡ sources_fit t a
      unfolding sources_fit
      sources_alike = ap not (some_row M (source_broken false t a) (source_broken false u b) broken_alike)

  -- ---- the source of a blank

  misses_alike : (y s k : ℕ) → not_before_at u (π.to y) (π.to s) k ≡ not_before_at t y s k
  unfolding not_before_at
  misses_alike y s k = rw (nth_alike M s y y k, M.row y) refl

  by_alike : (y z : ℕ) → written_by u (π.to y) (π.to z) ≡ written_by t y z
  unfolding written_by
  by_alike y z = rw (M.row z, some_alike M z y) refl

  written_alike : (y : ℕ) → written u (π.to y) ≡ written t y
  unfolding written
  written_alike y = some_row M (written_by t y) (written_by u (π.to y)) (by_alike y)

  hides_alike : (y s z k : ℕ) → overwrites_between u (π.to y) (π.to s) (π.to z) k ≡ overwrites_between t y s z k
  unfolding overwrites_between
  hides_alike y s z k = rw (nth_alike M s z y k, nth_alike M z y y k) refl

  between_alike : (y s z : ℕ) → between u (π.to y) (π.to s) (π.to z) ≡ between t y s z
  unfolding between
  between_alike y s z =
      rw (
        M.row z,
        follows_alike M s z,
        some_alike M z y,
        any_cong (overwrites_between u (π.to y) (π.to s) (π.to z)) (overwrites_between t y s z) LONGEST (λ k l. hides_alike y s z k),
      ) refl

  candidate_alike : (y s : ℕ) → candidate u (π.to y) (π.to s) ≡ candidate t y s
  unfolding candidate
  candidate_alike y s =
      rw (
        writer_alike y s,
        any_cong (not_before_at u (π.to y) (π.to s)) (not_before_at t y s) LONGEST (λ k l. misses_alike y s k),
        some_row M (between t y s) (between u (π.to y) (π.to s)) (between_alike y s),
      )
      refl

  module _ (fair : Fair t) (free : NoRace t) where
    -- of at most one candidate the least is renumbered
    least_candidate : (y : ℕ) → y < t.rows → plain_read (t.row y) ≡ true → least u.rows (candidate u (π.to y)) ≡ π.to (least t.rows (candidate t y))
    least_candidate y l p =
        subst (λ (n : ℕ). least n (candidate u (π.to y)) ≡ π.to (least t.rows (candidate t y))) (sym M.rows)
        (least_to π (candidate t y) (candidate u (π.to y)) (candidate_alike y) (λ i j h k c d. candidates_same t fair free y l p i j c d))

    choice_alike : (y : ℕ) → y < t.rows → plain_read (t.row y) ≡ true → choice u (π.to y) ≡ π.to (choice t y)
    unfolding choice
    choice_alike y l p = rw (written_alike y, least_candidate y l p) (either (written t y))
      where
        either : (w : Bool) → cond w (π.to (least t.rows (candidate t y))) INITIAL ≡ π.to (cond w (least t.rows (candidate t y)) INITIAL)
        either true = refl
        either false = let n = fair.few in sym (π.others INITIAL (omega arith))

    module _ (a b : ℕ → ℕ) (source : (i : ℕ) → i < t.rows → b (π.to i) ≡ π.to (a i)) where
      blank_alike : (i : ℕ) → i < t.rows → blank u b (π.to i) ≡ blank t a i
      unfolding blank
      blank_alike i l = let n = fair.few in rw (M.row i, source i l, eqb_stays π (a i) BLANK (omega arith)) refl

      blank_plain : (i : ℕ) → blank t a i ≡ true → plain_read (t.row i) ≡ true
      unfolding blank
      blank_plain i e = (split e).0

      -- the chosen sources are the other's, renumbered
      pub chosen_alike : (i : ℕ) → i < t.rows → chosen u b (π.to i) ≡ π.to (chosen t a i)
      unfolding chosen
      chosen_alike i l = rw (blank_alike i l) (go (which (blank t a i)))
        where
          go : (blank t a i ≡ true) ⊎ (blank t a i ≡ false)
              → cond (blank t a i) (choice u (π.to i)) (b (π.to i)) ≡ π.to (cond (blank t a i) (choice t i) (a i))
          go (inl e) = rw e (choice_alike i l (blank_plain i e))
          go (inr e) = rw e (source i l)
