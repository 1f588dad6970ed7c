-- Moved tables, tried: a test that says of two tables and a list of row numbers that the one is the other moved, and runs that pass
-- it. It shows that the theorems of proofs/Page.antt speak of something. Assumes nothing.
use Rattle.std.specs.Prelude.{◌≡◌, refl, Bool, true, not, cond, List, ℕ, ◌+◌, ◌*◌, ◌≤◌, ◌<◌, get_or, ltb, leb, eqb}
use Rattle.std.proofs.Common.{arith}
use Rattle.std.proofs.Math.Decide.{dec_lt}
use borrow.Author.Tests.{lt-ltb, le-ltb, eqb-true}
use Rattle.finite.specs.Logic.{◌and◌, ◌or◌, split}
use Rattle.finite.specs.Below.{all_below, all_out}
use Rattle.model.specs.Table.{row_of, dependency_count, dependency_from, dependency_to, sources_of}
use Rattle.model.specs.Header.{ROW_BYTES, rows_at, rows_begin, row_bytes, dependency_bytes}
use Rattle.model_page_order.specs.Renumber.{Renumbering}

-- ---- a renumbering by two lists

-- number k of the list; a number past n stays
unfoldable pub by_list : ℕ → List ℕ → ℕ → ℕ
by_list n l k = cond (ltb k n) (get_or l k 0) k

-- m undoes l below n
unfoldable pub undoes : ℕ → List ℕ → List ℕ → Bool
undoes n l m = all_below n (λ k. ltb (get_or l k 0) n and eqb (get_or m (get_or l k 0) 0) k)

pub undone : (n : ℕ) (l m : List ℕ) → undoes n l m ≡ true → (k : ℕ) → by_list n m (by_list n l k) ≡ k
unfolding by_list undoes
undone n l m e k = go (dec_lt k n)
  where
    go : Dec (k < n) → cond (ltb (cond (ltb k n) (get_or l k 0) k) n) (get_or m (cond (ltb k n) (get_or l k 0) k) 0) (cond (ltb k n) (get_or l k 0) k) ≡ k
    go (yes h) =
        let a = split (all_out (λ k. ltb (get_or l k 0) n and eqb (get_or m (get_or l k 0) 0) k) n e k h) in
        rw (lt-ltb k n h, a.0) (eqb-true _ _ a.1)
    go (no h) = let p : n ≤ k = omega arith in rw (le-ltb k n p, le-ltb k n p) refl

pub past : (n : ℕ) (l : List ℕ) (k : ℕ) → n ≤ k → by_list n l k ≡ k
unfolding by_list
past n l k h = rw (le-ltb k n h) refl

abbrev pub listed : (n : ℕ) (l m : List ℕ) → undoes n l m ≡ true → undoes n m l ≡ true → Renumbering n
listed n l m p q = record { to = by_list n l; back = by_list n m; back_to = undone n l m p; to_back = undone n m l q; others = past n l }

-- ---- a test for a moved table

module _ (s s' : List ℕ) (to : ℕ → ℕ) where
  unfoldable pub same_head : ℕ → Bool
  same_head k = eqb (get_or s' k 0) (get_or s k 0)

  unfoldable pub same_byte : ℕ → ℕ → Bool
  same_byte i k =
      (leb 12 k and leb k 13)
      or eqb (get_or s' (rows_begin s + (to i * ROW_BYTES + k)) 0) (get_or s (rows_begin s + (i * ROW_BYTES + k)) 0)

  unfoldable pub same_row : ℕ → Bool
  same_row i = all_below ROW_BYTES (same_byte i) and eqb (sources_of s' (to i)) (to (sources_of s i))

  unfoldable pub in_order : ℕ → ℕ → Bool
  in_order j i = not (eqb (row_of (row_bytes s) i).agent (row_of (row_bytes s) j).agent) or ltb (to i) (to j)

  unfoldable pub ordered : ℕ → Bool
  ordered j = all_below j (in_order j)

  unfoldable pub same_dependency : ℕ → Bool
  same_dependency k =
      eqb (dependency_from (dependency_bytes s') k) (to (dependency_from (dependency_bytes s) k))
      and eqb (dependency_to (dependency_bytes s') k) (to (dependency_to (dependency_bytes s) k))

  unfoldable pub same_dependencies : Bool
  same_dependencies =
      eqb (dependency_count (dependency_bytes s')) (dependency_count (dependency_bytes s)) and all_below (dependency_count (dependency_bytes s)) same_dependency

  unfoldable pub is_moved : Bool
  is_moved = same_dependencies and (all_below (rows_begin s) same_head and all_below (rows_at s) same_row and all_below (rows_at s) ordered)
