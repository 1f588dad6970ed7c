-- Axiom B's first break as an answer, and the turns of its searches. Assumes nothing.
use Rattle.std.specs.Prelude.{◌≡◌, Bool, true, false, cond, ℕ, ◌+◌, ◌≤◌, ◌<◌, ltb}
use Rattle.std.proofs.Math.Path.{refl, sym, subst}
use Rattle.std.proofs.Common.{arith}
use borrow.Author.Tests.{lt-ltb, le-ltb, ltb-true}
use Rattle.finite.specs.Logic.{◌and◌, split, and_false_left}
use Rattle.finite.specs.Below.{least_is, least_off}
use Rattle.model.specs.declared.Row.{Row}
use Rattle.model.specs.Limits.{LONGEST, BYTES}
use Rattle.model.specs.Row.{access, reads, writes, touches}
use Rattle.model.specs.Table.{Table}
use Rattle.model.specs.Location.{before}
use Rattle.model.specs.Race.{nth}
use Rattle.model.specs.Edge.{overwrites, overwrites_nth, over_nth, overwriting, over_writer, is_overwritten, over_reader, over_byte}
use Rattle.model_laws.specs.PairLaws.{inside_out, common_out}
use Rattle.find_race.specs.Bytes.{Bounded}
use Rattle.std.specs.declared.option.Option.{Option}
use Rattle.std.specs.declared.option.Option.TheVariants.{None, Some}
use Rattle.model.specs.declared.Overwritten.{Overwritten}

-- ---- definitions

-- the reader y and the writer z, with the byte b
abbrev pub over_at : ℕ → ℕ → ℕ → Option Overwritten
over_at y z b = Some (record { reader = y; writer = z; byte = b })

module _ (t : Table) (source : ℕ → ℕ) where
  -- y reads, z writes, and y's source is a row
  unfoldable pub may_overwrite : ℕ → ℕ → Bool
  may_overwrite y z = reads (t.row y) and writes (t.row z) and ltb (source y) t.rows

  -- the reader y, the writer z and their byte, where y is a row
  unfoldable pub overwrite_of : ℕ → ℕ → Option Overwritten
  overwrite_of y z = cond (ltb y t.rows) (over_at y z (over_byte t source y z)) None

  -- the first break of axiom B
  unfoldable pub found_overwrite : Option Overwritten
  found_overwrite = overwrite_of (over_reader t source) (over_writer t source (over_reader t source))

  -- ---- laws: a byte

  -- the tests that are asked once for a pair; y is r, z is q, and s is y's source
  pub may_is : (y z s n : ℕ) (r q : Row) (a b c : Bool) → n ≡ t.rows → s ≡ source y → r ≡ t.row y → q ≡ t.row z → a ≡ reads r → b ≡ writes q → c ≡ ltb s n
      → (a and b and c) ≡ may_overwrite y z
  unfolding may_overwrite
  may_is y z s n r q a b c rows_are source_is reader_is writer_is reads_is writes_is below_is =
      rw (reads_is, writes_is, below_is, reader_is, writer_is, source_is, rows_are) refl

  pub source_row : (y z : ℕ) → may_overwrite y z ≡ true → source y < t.rows
  unfolding may_overwrite
  source_row y z e = ltb-true (source y) t.rows (split e).1

  pub overwrites_on : (y z k s b : ℕ) (a c : Bool) → may_overwrite y z ≡ true → s ≡ source y → b ≡ (t.row y).start + k → a ≡ before t s z b → c ≡ before t z y b
      → (a and c) ≡ overwrites_nth t source y z k
  unfolding overwrites_nth overwrites may_overwrite ◌and◌
  overwrites_on y z k s b a c may source_is byte_is first_is second_is = rw (may, first_is, second_is, byte_is, source_is) refl

  overwrites_off : (y z k : ℕ) → may_overwrite y z ≡ false → overwrites_nth t source y z k ≡ false
  unfolding overwrites_nth overwrites may_overwrite
  overwrites_off y z k m = and_false_left _ _ (and_false_left _ _ m)

  pub over_none : (y z : ℕ) → may_overwrite y z ≡ false → LONGEST ≡ over_nth t source y z
  unfolding over_nth
  over_none y z m = sym (least_off (overwrites_nth t source y z) LONGEST (λ k l. overwrites_off y z k m))

  -- ---- laws: what the searches compare

  pub overwriting_is : (y z k : ℕ) → k ≡ over_nth t source y z
      → (k < LONGEST → overwriting t source y z ≡ true) × (LONGEST ≤ k → overwriting t source y z ≡ false)
  unfolding overwriting
  overwriting_is y z k e = (λ l. rw (← e) (lt-ltb k LONGEST l), λ l. rw (← e) (le-ltb k LONGEST l))

  pub overwritten_is : (y z n : ℕ) → n ≡ t.rows → z ≡ over_writer t source y
      → (z < n → is_overwritten t source y ≡ true) × (n ≤ z → is_overwritten t source y ≡ false)
  unfolding is_overwritten
  overwritten_is y z n q e = (λ l. rw (← e, ← q) (lt-ltb z n l), λ l. rw (← e, ← q) (le-ltb z n l))

  -- ---- laws: what is shown

  pub shown_none : (y n : ℕ) → n ≡ t.rows → y ≡ over_reader t source → n ≤ y → ◌≡◌ {A = Option Overwritten} None found_overwrite
  unfolding found_overwrite overwrite_of
  shown_none y n q e l = rw (← e, ← q, le-ltb y n l) refl

  pub shown_at : (y z k b n : ℕ) → n ≡ t.rows → y ≡ over_reader t source → z ≡ over_writer t source y → k ≡ over_nth t source y z
      → b ≡ (t.row y).start + k → y < n
      → ◌≡◌ {A = Option Overwritten} (over_at y z b) found_overwrite
  unfolding found_overwrite overwrite_of over_byte
  shown_at y z k b n rows_are reader_is writer_is nth_is byte_is below = rw (← reader_is, ← writer_is, ← nth_is, ← rows_are, lt-ltb y n below, byte_is) refl

  reader_on : (y : ℕ) → y ≡ over_reader t source → y < t.rows → over_writer t source y < t.rows
  unfolding over_reader is_overwritten
  reader_on y e l =
      let h : over_reader t source < t.rows = subst (λ (v : ℕ). v < t.rows) e l in
      let g : over_writer t source (over_reader t source) < t.rows = ltb-true _ _ ((least_is (is_overwritten t source) t.rows).hit h) in
      subst (λ (v : ℕ). over_writer t source v < t.rows) (sym e) g

  writer_on : (y z : ℕ) → z ≡ over_writer t source y → z < t.rows → over_nth t source y z < LONGEST
  unfolding over_writer overwriting
  writer_on y z e l =
      let h : over_writer t source y < t.rows = subst (λ (v : ℕ). v < t.rows) e l in
      let g : over_nth t source y (over_writer t source y) < LONGEST = ltb-true _ _ ((least_is (overwriting t source y) t.rows).hit h) in
      subst (λ (v : ℕ). over_nth t source y v < LONGEST) (sym e) g

  byte_on : (y z : ℕ) → over_nth t source y z < LONGEST → overwrites t source y z (nth t y (over_nth t source y z)) ≡ true
  unfolding over_nth overwrites_nth
  byte_on y z l = (least_is (overwrites_nth t source y z) LONGEST).hit l

  -- a byte that is overwritten is one of the reader's
  over_touched : (y z b : ℕ) → overwrites t source y z b ≡ true → (access (t.row y) ≡ true) × (b < (t.row y).start + (t.row y).size)
  unfolding overwrites before touches
  over_touched y z b e =
      let c = common_out (t.row z) (t.row y) b (split (split (split e).1).0).1 in
      (c.1, (inside_out (t.row y).start (t.row y).size b c.3).1)

  -- the first reader's writer is a row, and the byte that is shown is a number of 16 bits
  pub writer_below : (y z n : ℕ) → n ≡ t.rows → y ≡ over_reader t source → z ≡ over_writer t source y → y < n → z < n
  writer_below y z n q e f l = let h = reader_on y e (omega arith) in omega arith

  pub byte_below : Bounded t → (y z k n : ℕ) → n ≡ t.rows → y ≡ over_reader t source → z ≡ over_writer t source y → k ≡ over_nth t source y z → y < n
      → (k < LONGEST) × ((r : Row) → r ≡ t.row y → r.start + k < BYTES)
  byte_below bounded y z k n rows_are reader_is writer_is nth_is below =
      let h = writer_on y z writer_is (let j = reader_on y reader_is (omega arith) in omega arith) in
      let o = over_touched y z (nth t y (over_nth t source y z)) (byte_on y z h) in
      let a = bounded y (omega arith) o.0 in
      let d = o.1 in
      let b : (t.row y).start + k < BYTES = omega arith in
      (omega arith, λ r j. rw j b)
