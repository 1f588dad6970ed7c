-- Tables that pass the test of specs/Tried.antt are moved. Assumes nothing.
use Rattle.std.specs.Prelude.{◌≡◌, true, not, List, ◌⊎◌, ℕ, ◌+◌, ◌*◌, ◌<◌, get_or, leb, eqb}
use Rattle.std.proofs.Common.{⊎_elim, arith}
use borrow.Author.Tests.{ltb-true, leb-true, eqb-true, eq-eqb}
use Rattle.finite.specs.Logic.{◌and◌, split, or_cases, not_both, not_out}
use Rattle.finite.specs.Below.{all_below, all_out}
use Rattle.model.specs.Table.{row_of, dependency_count, sources_of}
use Rattle.model.specs.Header.{ROW_BYTES, rows_at, rows_begin, row_bytes, dependency_bytes}
use Rattle.model_page_order.specs.Renumber.{Renumbering}
use Rattle.model_page_order.specs.Moved.{Moved}
use Rattle.model_page_order.specs.Tried.{same_head, same_byte, same_row, in_order, ordered, same_dependency, same_dependencies, is_moved}

module _ (s s' : List ℕ) (π : Renumbering (rows_at s)) where
  pub moved_by_test : is_moved s s' π.to ≡ true → Moved s s' π
  unfolding is_moved same_head same_row same_byte ordered in_order same_dependencies same_dependency
  moved_by_test e =
      record {
        head = head;
        fields = fields;
        sources = λ i l. eqb-true _ _ (split (rows i l)).1;
        count = eqb-true _ _ (split d).0;
        first = λ k l. eqb-true _ _ (split (each k l)).0;
        second = λ k l. eqb-true _ _ (split (each k l)).1;
        order = order;
      }
    where
      a : ((all_below (rows_begin s) (same_head s s' π.to) and all_below (rows_at s) (same_row s s' π.to)) ≡ true)
          × (all_below (rows_at s) (ordered s s' π.to) ≡ true)
      a = split (split e).1

      d : same_dependencies s s' π.to ≡ true
      d = (split e).0

      each : (k : ℕ) → k < dependency_count (dependency_bytes s) → same_dependency s s' π.to k ≡ true
      each k l = all_out (same_dependency s s' π.to) (dependency_count (dependency_bytes s)) (split d).1 k l

      rows : (i : ℕ) → i < rows_at s → (all_below ROW_BYTES (same_byte s s' π.to i) and eqb (sources_of s' (π.to i)) (π.to (sources_of s i))) ≡ true
      rows i l = all_out (same_row s s' π.to) (rows_at s) (split a.0).1 i l

      head : (k : ℕ) → k < rows_begin s → get_or s' k 0 ≡ get_or s k 0
      head k l = eqb-true _ _ (all_out (same_head s s' π.to) (rows_begin s) (split a.0).0 k l)

      fields : (i k : ℕ) → i < rows_at s → k < ROW_BYTES → (k < 12) ⊎ (13 < k)
          → get_or s' (rows_begin s + (π.to i * ROW_BYTES + k)) 0 ≡ get_or s (rows_begin s + (i * ROW_BYTES + k)) 0
      fields i k l m o =
          ⊎_elim (λ h. let p = leb-true 12 k (split h).0 in let q = leb-true k 13 (split h).1 in
          absurd (⊎_elim (λ v. omega arith) (λ v. omega arith) o)) (λ h. eqb-true _ _ h)
          (or_cases (leb 12 k and leb k 13) _ (all_out (same_byte s s' π.to i) ROW_BYTES (split (rows i l)).0 k m))

      order : (i j : ℕ) → i < j → j < rows_at s → (row_of (row_bytes s) i).agent ≡ (row_of (row_bytes s) j).agent → π.to i < π.to j
      order i j l m q =
          ⊎_elim (λ h. not_both (eq-eqb _ _ q) (not_out _ h)) (λ h. ltb-true _ _ h)
          (or_cases (not (eqb (row_of (row_bytes s) i).agent (row_of (row_bytes s) j).agent)) _
          (all_out (in_order s s' π.to j) j (all_out (ordered s s' π.to) (rows_at s) a.1 j m) i l))
