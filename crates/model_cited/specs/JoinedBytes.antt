-- The table that two pieces of bytes are joined to is of bytes too. Assumes nothing.
use Rattle.std.specs.Prelude.{◌≡◌, Bool, List, [], ◌∷◌, ◌++◌, ℕ, zero, suc, ◌+◌, ◌-◌, ◌*◌, ◌/◌, ◌%◌, ◌≤◌, ◌<◌, take, drop}
use Rattle.std.proofs.Math.Bool.{true, false, cond}
use native.Mathlib.Omega.{arith}
use Rattle.std.proofs.Math.ListN.{length}
use Rattle.std.proofs.Common.{get_or-drop, leb-true}
use Rattle.model.specs.Limits.{AGENTS}
use Rattle.model.specs.Header.{HEADER, ROW_BYTES, PLACE_BYTES, HOSTS_PLACE_BYTES, DEPENDENCY_BYTES, pair_at, version_at}
use Rattle.model.specs.Header.{agents_at, rows_at, zero_at, has_hosts, rows_begin, rows_end, size_of, row_bytes, dependency_bytes}
use Rattle.door_pieces.specs.Pieces.{rows_both, pieces_fault, header_of, place_bytes, joined}
use Rattle.door_pieces.specs.PiecesLaws.{shape_agents, shape_rows, shape_length, end_is, first_right, both_fit, both_length}
use Rattle.model_promises.specs.Terms.{Bytes}

-- ---- lists

record Small (l : List ℕ) : Type 0 where
  at : Bytes l

none : Small []
none = record { at = go }
  where
    go : Bytes []
    go zero = omega arith
    go (suc k) = omega arith

next : {a : ℕ} {l : List ℕ} → a < 256 → Small l → Small (a ∷ l)
next {a} {l} h b = record { at = go }
  where
    go : Bytes (a ∷ l)
    go zero = h
    go (suc k) = b.at k

rest : {a : ℕ} {l : List ℕ} → Small (a ∷ l) → Small l
rest b = record { at = λ k. b.at (suc k) }

append : {x y : List ℕ} → Small x → Small y → Small (x ++ y)
append {x = []} p q = q
append {x = a ∷ x} p q = next (p.at 0) (append (rest p) q)

first : (n : ℕ) {x : List ℕ} → Small x → Small (take n x)
first zero p = none
first (suc n) {x = []} p = none
first (suc n) {x = a ∷ x} p = next (p.at 0) (first n (rest p))

later : (n : ℕ) {x : List ℕ} → Small x → Small (drop n x)
later n {x} p = record { at = λ k. rw (get_or-drop n x k 0) (p.at (n + k)) }

-- ---- the joined table

module _ (f s : List ℕ) (z : pieces_fault f s ≡ 0) (b : Bytes f) where
  begin_most : rows_begin f ≤ 264
  unfolding rows_begin
  begin_most = go (has_hosts f) (leb-true (agents_at f) AGENTS (shape_agents f (first_right f s z)))
    where
      go : (h : Bool) → agents_at f ≤ AGENTS
          → cond h (HEADER + HOSTS_PLACE_BYTES * agents_at f) (HEADER + PLACE_BYTES * agents_at f) ≤ 264
      go true l = omega arith
      go false l = omega arith

  pair_most : (k : ℕ) → pair_at f k < 65536
  unfolding pair_at
  pair_most k = let p = b k in let q = b (k + 1) in omega arith

  first_most : length f ≤ 300000
  unfolding size_of
  first_most = go (has_hosts f) (shape_length f (first_right f s z))
    where
      go : (h : Bool) → length f ≡ cond h (rows_end f + 2 + DEPENDENCY_BYTES * pair_at f (rows_end f)) (rows_end f)
          → length f ≤ 300000
      go true e =
          let p = pair_most (rows_end f) in
          let q = end_is f in
          let r = begin_most in
          let t = shape_rows f (first_right f s z) in
          omega arith
      go false e = let q = end_is f in let r = begin_most in let t = shape_rows f (first_right f s z) in omega arith

  second_most : length s ≤ 2048
  second_most = let p = both_length f s z in let q = both_fit f s z in omega arith

  header_bytes : Small (header_of f s)
  unfolding header_of version_at agents_at zero_at
  header_bytes =
      let p = first_most in
      let q = second_most in
      let r = both_fit f s z in
      let top : (length f + length s - 4) / 16777216 < 256 = omega arith in
      let high : (length f + length s - 4) / 65536 % 256 < 256 = omega arith in
      let low : (length f + length s - 4) / 256 % 256 < 256 = omega arith in
      let last : (length f + length s - 4) % 256 < 256 = omega arith in
      let rows : rows_both f s < 256 = omega arith in
      next top (next high (next low (next last (next (b 4) (next (b 5) (next rows (next (b 7) none)))))))

  places_small : Small (place_bytes f)
  unfolding place_bytes
  places_small = first (rows_begin f - HEADER) (later HEADER {x = f} (record { at = b }))

  rows_small : Small (row_bytes f)
  unfolding row_bytes
  rows_small = first (ROW_BYTES * rows_at f) (later (rows_begin f) {x = f} (record { at = b }))

  dependencies_small : Small (dependency_bytes f)
  unfolding dependency_bytes
  dependencies_small = later (rows_end f) {x = f} (record { at = b })

  small_joined : Small s → Small (joined f s)
  unfolding joined
  small_joined c = append header_bytes (append places_small (append rows_small (append c dependencies_small)))

  pub bytes_joined : Bytes s → Bytes (joined f s)
  bytes_joined c = (small_joined (record { at = c })).at
