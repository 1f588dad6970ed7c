-- Two tables with the same bytes before their rows have the same header and the same places. Assumes nothing.
use Rattle.std.specs.Prelude.{◌≡◌, false, List, [], ◌∷◌, ℕ, ◌+◌, ◌*◌, ◌≤◌, ◌<◌, get_or, ltb, leb}
use Rattle.std.proofs.Math.Path.{refl}
use Rattle.std.proofs.Math.Bool.{true, cond}
use Rattle.std.proofs.Common.{⊎_elim, arith, le-ltb}
use Rattle.std.proofs.Math.Decide.{dec_lt}
use Rattle.finite.specs.Logic.{which}
use Rattle.finite.specs.Lists.{tabulate_cong}
use Rattle.model.specs.Limits.{AGENTS}
use Rattle.model.specs.Header.{HEADER, PLACE_BYTES, HOSTS_PLACE_BYTES, VERSION_COUNTED, pair_at, version_at, agents_at, rows_at, has_hosts, shader_place_at, any_place_at}
use Rattle.model.specs.Header.{place_at, slot_at, places_of, rows_begin}

-- where the rows begin
begin_hosts : (s : List ℕ) → has_hosts s ≡ true → rows_begin s ≡ HEADER + HOSTS_PLACE_BYTES * agents_at s
unfolding rows_begin
begin_hosts s e = rw e refl

begin_plain : (s : List ℕ) → has_hosts s ≡ false → rows_begin s ≡ HEADER + PLACE_BYTES * agents_at s
unfolding rows_begin
begin_plain s e = rw e refl

pub begin_header : (s : List ℕ) → HEADER ≤ rows_begin s
begin_header s = ⊎_elim (λ e. let b = begin_hosts s e in omega arith) (λ e. let b = begin_plain s e in omega arith) (which (has_hosts s))

module _ (s g : List ℕ) (head : (k : ℕ) → k < rows_begin s → get_or g k 0 ≡ get_or s k 0) where
  header_byte : (k : ℕ) → k < HEADER → get_or g k 0 ≡ get_or s k 0
  header_byte k l = let b = begin_header s in head k (omega arith)

  pub version_same : version_at g ≡ version_at s
  unfolding version_at
  version_same = header_byte 4 (omega arith)

  pub hosts_same : has_hosts g ≡ has_hosts s
  unfolding has_hosts
  hosts_same = rw version_same refl

  pub agents_same : agents_at g ≡ agents_at s
  unfolding agents_at
  agents_same = header_byte 5 (omega arith)

  pub rows_same : rows_at g ≡ rows_at s
  unfolding rows_at
  rows_same = header_byte 6 (omega arith)

  pub begin_same : rows_begin g ≡ rows_begin s
  unfolding rows_begin
  begin_same = rw (hosts_same, agents_same) refl

  pair_head : (k : ℕ) → k + 1 < rows_begin s → pair_at g k ≡ pair_at s k
  unfolding pair_at
  pair_head k l = rw (head k (omega arith), head (k + 1) l) refl

  three_same : (a : ℕ) → a < agents_at s → has_hosts s ≡ false → shader_place_at g a ≡ shader_place_at s a
  unfolding shader_place_at
  three_same a l e =
      let b = begin_plain s e in
      rw (
        pair_head (HEADER + a * PLACE_BYTES + 0) (omega arith),
        pair_head (HEADER + a * PLACE_BYTES + 2) (omega arith),
        pair_head (HEADER + a * PLACE_BYTES + 4) (omega arith),
      )
      refl

  four_same : (a : ℕ) → a < agents_at s → has_hosts s ≡ true → any_place_at g a ≡ any_place_at s a
  unfolding any_place_at
  four_same a l e =
      let b = begin_hosts s e in
      rw (
        pair_head (HEADER + a * HOSTS_PLACE_BYTES + 0) (omega arith),
        pair_head (HEADER + a * HOSTS_PLACE_BYTES + 2) (omega arith),
        pair_head (HEADER + a * HOSTS_PLACE_BYTES + 4) (omega arith),
        pair_head (HEADER + a * HOSTS_PLACE_BYTES + 6) (omega arith),
      )
      refl

  place_same : (a : ℕ) → a < agents_at s → place_at g a ≡ place_at s a
  unfolding place_at
  place_same a l = rw hosts_same (⊎_elim at_hosts at_plain (which (has_hosts s)))
    where
      at_hosts : has_hosts s ≡ true → cond (has_hosts s) (any_place_at g a) (shader_place_at g a) ≡ cond (has_hosts s) (any_place_at s a) (shader_place_at s a)
      at_hosts e = rw e (four_same a l e)

      at_plain : has_hosts s ≡ false → cond (has_hosts s) (any_place_at g a) (shader_place_at g a) ≡ cond (has_hosts s) (any_place_at s a) (shader_place_at s a)
      at_plain e = rw e (three_same a l e)

  slot_same : (a : ℕ) → slot_at g a ≡ slot_at s a
  unfolding slot_at
  slot_same a = rw agents_same (go (dec_lt a (agents_at s)))
    where
      go : Dec (a < agents_at s) → cond (ltb a (agents_at s)) (place_at g a) (0 ∷ 0 ∷ 0 ∷ 0 ∷ []) ≡ cond (ltb a (agents_at s)) (place_at s a) (0 ∷ 0 ∷ 0 ∷ 0 ∷ [])
      go (yes l) = rw (place_same a l) refl
      go (no l) = simp (le-ltb a (agents_at s) (omega arith))

  pub places_same : places_of g ≡ places_of s
  unfolding places_of
  places_same = tabulate_cong (slot_at g) (slot_at s) AGENTS (λ a l. slot_same a)

  pub counted_same : leb VERSION_COUNTED (version_at g) ≡ leb VERSION_COUNTED (version_at s)
  counted_same = rw version_same refl
