-- The values in lent parts are typed, where the parts hold bytes and 16-bit numbers. Assumes nothing.
use Rattle.std.specs.Prelude.{◌≡◌, cond, length, ltb}
use Rattle.std.proofs.Math.Path.{refl, subst}
use Rattle.std.proofs.Common.{sym, ap, ◌∙◌, lt-ltb, le-ltb}
use mathlib.Core.List.{List, []}
use Prim.Native.Nat.{ℕ, zero, suc, ◌+◌, ◌*◌, ◌/◌, ◌≤◌, ◌<◌}
use native.Mathlib.Omega.{arith}
use Rattle.std.proofs.Math.Decide.{dec_lt}
use Rattle.std.proofs.Math.ListN.{get_or, get_or-eq_default}
use Rattle.finite.specs.Lists.{tabulate, length_tabulate, get_d_tabulate}
use Rattle.model.specs.Limits.{AGENTS, ROWS, DEPENDENCIES}
use Rattle.model.specs.Table.{byte_of, pair_of, row_of, source_of}
use Rattle.model.specs.Header.{ROW_BYTES, pair_at}
use Rattle.model_laws.specs.FilledLaws.{Bytes}
use Rattle.door_write.specs.Encode.{number_of, nothing, entry_at, entry_of, entries_in}
use Rattle.door_write.specs.EncodeLaws.{EntryTyped, Typed}
use Rattle.door_write.specs.Parts.{capped, agents_in, place_in, places_in, rows_in, end_in, dependencies_in}

-- a list of 16-bit numbers
abbrev pub Numbers : List ℕ → Type 0
Numbers q = (k : ℕ) → get_or q k 0 < 65536

capped_most : (n most : ℕ) → capped n most ≤ most
unfolding capped
capped_most n most = go (dec_lt n most)
  where
    go : Dec (n < most) → cond (ltb n most) n most ≤ most
    go (yes l) = rw (lt-ltb n most l) (omega arith)
    go (no h) = rw (le-ltb n most (omega arith)) (omega arith)

-- ---- places

module _ (q : List ℕ) where
  place_long : (a : ℕ) → length (place_in q a) ≡ 4
  unfolding place_in
  place_long a = refl

  pub place_is : (a : ℕ) → a < AGENTS → get_or (places_in q) a [] ≡ place_in q a
  unfolding places_in
  place_is a l = get_d_tabulate (place_in q) AGENTS a [] l

  place_none : (a : ℕ) → AGENTS ≤ a → get_or (places_in q) a [] ≡ []
  unfolding places_in
  place_none a h = get_or-eq_default (tabulate (place_in q) AGENTS) [] {n = a} (let n = length_tabulate (place_in q) AGENTS in omega arith)

module _ (q : List ℕ) (small : Numbers q) where
  place_small : (a m : ℕ) → get_or (place_in q a) m 0 < 65536
  unfolding place_in
  place_small a zero = small _
  place_small a (suc zero) = small _
  place_small a (suc (suc zero)) = small _
  place_small a (suc (suc (suc zero))) = small _
  place_small a (suc (suc (suc (suc m)))) = omega arith

  number_small : (a m : ℕ) → number_of (places_in q) a m < 65536
  unfolding number_of
  number_small a m = go (dec_lt a AGENTS)
    where
      go : Dec (a < AGENTS) → get_or (get_or (places_in q) a []) m 0 < 65536
      go (yes l) = rw (place_is q a l) (place_small a m)
      go (no h) = rw (place_none q a (omega arith)) (omega arith)

-- ---- rows

module _ (b : List ℕ) (small : Bytes b) where
  byte_small : (i k : ℕ) → byte_of b i k < 256
  unfolding byte_of
  byte_small i k = small (i * ROW_BYTES + k)

  pair_small : (i k : ℕ) → pair_of b i k < 65536
  unfolding pair_of pair_at
  pair_small i k =
      let h = small (i * ROW_BYTES + k) in
      let l = small (i * ROW_BYTES + k + 1) in
      omega arith

  entry_typed : (i : ℕ) → EntryTyped (entry_of b i)
  unfolding entry_of row_of source_of
  entry_typed i =
      record {
        kind = byte_small i 0;
        agent = byte_small i 1;
        order = byte_small i 2;
        scope = byte_small i 3;
        classes = byte_small i 4;
        flags = byte_small i 5;
        class = byte_small i 6;
        size = byte_small i 7;
        start = pair_small i 8;
        reference = pair_small i 10;
        rank = pair_small i 14;
        source = pair_small i 12;
      }

  nothing_typed : EntryTyped nothing
  nothing_typed =
      record {
        kind = omega arith;
        agent = omega arith;
        order = omega arith;
        scope = omega arith;
        classes = omega arith;
        flags = omega arith;
        class = omega arith;
        size = omega arith;
        start = omega arith;
        reference = omega arith;
        rank = omega arith;
        source = omega arith;
      }

  entries_typed : (i : ℕ) → EntryTyped (entry_at (entries_in b) i)
  unfolding entry_at entries_in
  entries_typed i = go (dec_lt i ROWS)
    where
      go : Dec (i < ROWS) → EntryTyped (get_or (tabulate (entry_of b) ROWS) i nothing)
      go (yes l) = subst EntryTyped (sym (get_d_tabulate (entry_of b) ROWS i nothing l)) (entry_typed i)
      go (no h) =
          subst EntryTyped
          (sym (get_or-eq_default (tabulate (entry_of b) ROWS) nothing {n = i} (let n = length_tabulate (entry_of b) ROWS in omega arith)))
          nothing_typed

-- ---- dependencies

end_small : (q : List ℕ) → Numbers q → (at k : ℕ) → get_or (tabulate (end_in q at) DEPENDENCIES) k 0 < 65536
unfolding end_in
end_small q small at k = go (dec_lt k DEPENDENCIES)
  where
    go : Dec (k < DEPENDENCIES) → get_or (tabulate (end_in q at) DEPENDENCIES) k 0 < 65536
    go (yes l) = rw (get_d_tabulate (end_in q at) DEPENDENCIES k 0 l) (small (k * 2 + at))
    go (no h) =
        let e : get_or (tabulate (end_in q at) DEPENDENCIES) k 0 ≡ 0
        = get_or-eq_default (tabulate (end_in q at) DEPENDENCIES) 0 {n = k} (let n = length_tabulate (end_in q at) DEPENDENCIES in omega arith) in
        omega arith

-- ---- all of them

pub parts_typed : (q b e : List ℕ) → Numbers q → Bytes b → Numbers e → Typed (agents_in q) (places_in q) (rows_in b) (entries_in b) (dependencies_in e)
unfolding dependencies_in
parts_typed q b e places rows dependencies =
    record {
      four = λ a l. ap length (place_is q a l) ∙ place_long q a;
      number = λ a m l. number_small q places a m;
      entry = λ i l. entries_typed b rows i;
      count = let h = capped_most (length e / 2) 65535 in omega arith;
      first = λ k l. end_small e dependencies 0 k;
      second = λ k l. end_small e dependencies 1 k;
    }
