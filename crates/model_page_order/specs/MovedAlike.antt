-- The rows of a table that is admitted, and a renumbering of them. Assumes nothing.
use Rattle.std.specs.Prelude.{◌≡◌, Bool, List, ℕ, ◌≤◌, ◌<◌}
use Rattle.std.proofs.Math.Path.{refl}
use Rattle.model.specs.Limits.{ROWS}
use Rattle.model.specs.Header.{rows_at}
use Rattle.model.specs.Table.{decode, table_under}
use Rattle.model_laws.specs.AdmissionLaws.{Sound, rows_fit, size_fits}
use Rattle.model_laws.specs.RaceLaws.{Sized}
use Rattle.model_page_order.specs.Renumber.{Renumbering}

-- ---- a table that is admitted

pub rows_is : (chains : Bool) (s : List ℕ) → (table_under chains s).rows ≡ rows_at s
unfolding table_under decode
rows_is chains s = refl

pub of_rows : (chains : Bool) (s : List ℕ) {i : ℕ} → i < (table_under chains s).rows → i < rows_at s
unfolding table_under decode
of_rows chains s l = l

pub to_rows : (chains : Bool) (s : List ℕ) {i : ℕ} → i < rows_at s → i < (table_under chains s).rows
unfolding table_under decode
to_rows chains s l = l

pub past_rows : (chains : Bool) (s : List ℕ) {i : ℕ} → (table_under chains s).rows ≤ i → rows_at s ≤ i
unfolding table_under decode
past_rows chains s l = l

pub few_of : (chains : Bool) {blanks : Bool} {s : List ℕ} → Sound blanks s → (table_under chains s).rows ≤ ROWS
unfolding table_under decode
few_of chains h = rows_fit h

pub sized_of : (chains : Bool) {blanks : Bool} {s : List ℕ} → Sound blanks s → Sized (table_under chains s)
unfolding table_under decode
sized_of chains h = λ i l. size_fits h i l

-- a renumbering of the rows in the bytes is one of the table's rows
abbrev pub of_table_lem : (chains : Bool) (s : List ℕ) → Renumbering (rows_at s) → Renumbering (table_under chains s).rows
of_table_lem chains s π =
    record { to = π.to; back = π.back; back_to = π.back_to; to_back = π.to_back; others = λ k l. π.others k (past_rows chains s l) }
