-- What the answers about a table in two pieces mean, of any bytes and any buffers. To be read like
-- crates/model_promises/specs/Main.antt. What is promised is in proofs/Pieces.antt, in these words.
--
-- The notation: (x : ℕ) → P is "for every x, P"; (x : ℕ) × P "there is an x with P"; A × B "A and B"; A ⊎ B "A or B";
-- A → ⊥ "not A"; A ↔ B "A exactly when B"; a ≡ b "a is b"; x ++ y is x, then y. What stands behind `module _` is of all
-- that is indented below it. `abbrev` gives a name to what follows it; λ t. X is X as a matter of t.
--
-- The words: f is the first piece, an ordinary table, and s the second, the bytes of rows that are added after f's.
-- `rows_both f s` is how many rows both have, `joined f s` the one table they make
-- (crates/door_pieces/specs/Pieces.antt). `HeaderRefuses`, `HeaderPasses`, `PairRefuses`, `PairPasses`, `RowsHeld` and
-- `OfPair` are in Terms.antt, `Short` (a lent buffer is too short) and `Bytes` (the numbers are bytes, as those of a
-- `&[u8]` are, and as every fill ensures) in crates/model_promises/specs/Terms.antt, `CheckMeans` and its like in
-- crates/model_promises/specs/Main.antt. `ROW_BYTES` is 16.
--
-- From a function to its meaning: the contract of a function is an equation. This page speaks of its right side:
--   ask_check::check::check_both is `check_answer (check_both …)` and leaves what a check leaves, of `check_both …`
--   ask_fill::fill_both is `fill_answer (fill_both …)` and leaves what a fill leaves, of `fill_both …`
--   ask_report::report_both is `told_answer (report_both …)` and leaves what a check leaves, of `check_both …`
--   ask_derive::derive_both is `derive_answer (derive_both …)` and leaves what a derivation leaves, of `derive_both …`
--   ask_accepts::accepts_both is `accept_answer (judge_both …)`
--   door_pieces::pieces_fault is `pieces_fault f s`, row_part `row_part f s n`, row_place `row_place f s n`
use Rattle.std.specs.Prelude.{◌≡◌, List, [], ◌⊎◌, ℕ, ◌+◌, ◌-◌, ◌*◌, ◌≤◌, ◌<◌, take, drop}
use Rattle.std.specs.declared.option.Option.{Option}
use Rattle.std.specs.declared.option.Option.TheVariants.{None, Some}
use Rattle.model.specs.Limits.{STEPS}
use Rattle.model.specs.Header.{ROW_BYTES, rows_at, rows_begin, row_bytes}
use Rattle.model.specs.Reason.{Derived}
use Rattle.door_pieces.specs.declared.RowPlace.{RowPlace}
use Rattle.door_pieces.specs.Pieces.{rows_both, joined}
use Rattle.model_promises.specs.Terms.{Short}
use Rattle.model_promises.specs.Main.{DeriveMeans}
use Rattle.model_cited.specs.Terms.{PairRefuses, PairPasses, RowsHeld, OfPair}

-- ==== The refusals of a pair

module _ (f s : List ℕ) where
  -- the pair's own number is n exactly when the pair is refused so, in the order of `PairRefuses`: 1 to 4 of the first
  -- piece, then 40, then 3; it is 0 exactly when nothing of that is so
  abbrev pub PiecesMeans : ℕ → Type 0
  PiecesMeans n = PairRefuses f s n ⊎ (PairPasses f s × (n ≡ 0))

-- ==== What each answer means. It is given exactly when its meaning holds: 11 for a short buffer, then the pair's own
-- refusal at row 0, then what the answer means of the joined table

module _ (f s : List ℕ) (m k : ℕ) where
  -- the finder of one: which one it finds is undecided, so that a word or a chain is of one direction;
  -- some-found2 says when
  module _ (work buffer : ℕ) where
    abbrev pub Derive2Means : Derived → Type 0
    Derive2Means = OfPair f s (Short STEPS work buffer) Derived.refused (λ t. DeriveMeans t m k work buffer)

-- ==== Row n of a pair

module _ (f s : List ℕ) (n : ℕ) where
  -- where it begins: in the first piece, in the second, or nowhere, for a row that neither has and for a pair that is
  -- refused before 5
  abbrev pub PlaceMeans : Option RowPlace → Type 0
  PlaceMeans (Some (RowPlace.First at)) = RowsHeld f s × (n < rows_at f) × (at ≡ rows_begin f + ROW_BYTES * n)
  PlaceMeans (Some (RowPlace.Second at)) =
      RowsHeld f s × (rows_at f ≤ n) × (n < rows_both f s) × (at ≡ ROW_BYTES * (n - rows_at f))
  PlaceMeans None = (RowsHeld f s → ⊥) ⊎ (rows_both f s ≤ n)

  -- what row_part shows is the sixteen bytes of row n of the joined table, or nothing
  abbrev pub PartMeans : List ℕ → Type 0
  PartMeans x =
      (RowsHeld f s × (n < rows_both f s) × (x ≡ take ROW_BYTES (drop (ROW_BYTES * n) (row_bytes (joined f s)))))
      ⊎ (((RowsHeld f s → ⊥) ⊎ (rows_both f s ≤ n)) × (x ≡ []))
