-- Laws that the readers' proofs cite. Assumes nothing.
use Rattle.std.proofs.Common.{◌≡◌, ℕ, zero, suc, ◌+◌, ◌-◌, ◌*◌, ◌≤◌, true, false, List, [], length, take, drop, sym, refl, ◌∙◌, le_of_eq, arith, length-drop, drop_of_length-le, take_all}
use lib.ListN.{get_or-eq_default}
use Rattle.model.specs.Header.{HEADER, PLACE_BYTES, HOSTS_PLACE_BYTES, ROW_BYTES, pair_at, agents_at, has_hosts, dependency_bytes, rows_end, quad_at, rows_at}
use Rattle.model.specs.Header.{rows_begin, row_bytes}

-- ---- past the end a number is 0

pub pair_past : (s : List ℕ) (k : ℕ) → length s ≤ k → pair_at s k ≡ 0
unfolding pair_at
pair_past s k h =
    let next : length s ≤ k + 1 = omega arith in
    rw (get_or-eq_default s 0 h, get_or-eq_default s 0 next) refl

pub quad_past : (s : List ℕ) (k : ℕ) → length s ≤ k → quad_at s k ≡ 0
unfolding quad_at
quad_past s k h = rw (pair_past s k h, pair_past s (k + 2) (omega arith)) refl

-- ---- the bytes of the rows, from where they begin

take_none : (n : ℕ) → take {A = ℕ} n [] ≡ []
take_none zero = refl
take_none (suc n) = refl

pub rows_none : (s : List ℕ) (at : ℕ) → at ≡ rows_begin s → length s ≤ at → row_bytes s ≡ []
unfolding row_bytes
rows_none s at e h = rw (← e, drop_of_length-le s h) (take_none (ROW_BYTES * rows_at s))

-- fewer bytes than the rows have
pub rows_rest : (s : List ℕ) (at size : ℕ) → at ≡ rows_begin s → size ≡ ROW_BYTES * rows_at s → length s ≤ at + size
    → take (length s - at) (drop at s) ≡ row_bytes s
unfolding row_bytes
rows_rest s at size e f h =
    let n = length-drop at s in
    rw (← e, ← f) (take_all _ (drop at s) (le_of_eq n) ∙ sym (take_all size (drop at s) (omega arith)))

pub rows_part_lem : (s : List ℕ) (at size : ℕ) → at ≡ rows_begin s → size ≡ ROW_BYTES * rows_at s → take (at + size - at) (drop at s) ≡ row_bytes s
unfolding row_bytes
rows_part_lem s at size e f = let n : at + size - at ≡ size = omega arith in rw (n, ← e, ← f) refl

-- ---- where the rows begin, with host agents and without

pub begin_with : (s : List ℕ) (n : ℕ) → has_hosts s ≡ true → n ≡ agents_at s → HEADER + HOSTS_PLACE_BYTES * n ≡ rows_begin s
unfolding rows_begin
begin_with s n t q = rw (t, ← q) refl

pub begin_without : (s : List ℕ) (n : ℕ) → has_hosts s ≡ false → n ≡ agents_at s → HEADER + PLACE_BYTES * n ≡ rows_begin s
unfolding rows_begin
begin_without s n t q = rw (t, ← q) refl

-- ---- the bytes after the rows

pub after_none : (s : List ℕ) (at : ℕ) → at ≡ rows_end s → length s ≤ at → dependency_bytes s ≡ []
unfolding dependency_bytes
after_none s at e h = rw (← e) (drop_of_length-le s h)

pub after_rest : (s : List ℕ) (at : ℕ) → at ≡ rows_end s → take (length s - at) (drop at s) ≡ dependency_bytes s
unfolding dependency_bytes
after_rest s at e = let n = length-drop at s in rw (← e) (take_all _ (drop at s) (le_of_eq n))
