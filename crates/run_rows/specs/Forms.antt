-- The tests of M4 and M5 on rows that are decoded already, and that they are the table's. Assumes nothing.
use Rattle.std.specs.Prelude.{◌≡◌, Bool, true, false, not, List, ℕ, ◌≤◌, ◌<◌, ltb, eqb}
use Rattle.std.proofs.Math.Path.{refl, sym}
use Rattle.std.proofs.Common.{◌∙◌}
use borrow.Author.Tests.{lt-ltb, le-ltb, not-false}
use Rattle.finite.specs.Logic.{◌and◌, ◌or◌, or_off, and_false_left, and_false_right, not_out, not_so, not_both, split, and_on}
use Rattle.finite.specs.Below.{any_below, any_out}
use Rattle.model.specs.declared.Row.{Row}
use Rattle.model.specs.Row.{atomic, barrier, control, execution_of, same_instance, reads, writes, releases, acquires, class_in}
use Rattle.model.specs.Table.{Mode, Table, decode, row_of, atomic_source}
use Rattle.model.specs.Scope.{shares, same_location, together, mutual_rows, mutually, later, later_writer, follows}
use Rattle.model.specs.Moment.{same_agent}
use Rattle.model.specs.Synchronizes.{continues, ends, sequence, takes_from, leads, trails, carries_out, carries_in, carries_over}
use Rattle.model.specs.Synchronizes.{joins, arrives, passes, sync_atomics, sync_from_barrier, sync_to_barrier, sync_barriers, sync_control, synchronizes}

-- ---- definitions

-- M4: q ends the sequence of the head h no later than r; m says that h and q are mutually-ordered
unfoldable pub end_rows : Bool → Bool → Row → Row → Row → Bool
end_rows counted m h r q = m and later_writer counted q h and not (later counted q.rank r.rank) and not (continues q)

-- M5: row x, which is q, is program-ordered after the barrier a, which is r, and its class is in a's semantics
unfoldable pub lead_rows : ℕ → ℕ → Row → Row → Bool
lead_rows a x r q = ltb a x and eqb r.agent q.agent and class_in q r.classes

-- M5: row y, which is q, is program-ordered before the barrier b, which is r, and its class is in b's semantics
unfoldable pub trail_rows : ℕ → ℕ → Row → Row → Bool
trail_rows b y r q = ltb y b and eqb q.agent r.agent and class_in q r.classes

-- ---- laws

-- a row that is no control barrier is met by none
pub never_passed : (t : Table) (a b c : ℕ) → control (t.row c) ≡ false → passes t a b c ≡ false
unfolding passes arrives joins same_instance
never_passed t a b c e = not_so _ (λ h. let d = any_out (arrives t b c) t.rows (split h).1 in
    not_both (split (split (split (split (split d.2).1).0).1).0).0 e)

-- tests that pass, left out
with_true : (a b c : Bool) → (a and b and c) ≡ (true and a and b and true and c)
unfolding ◌and◌
with_true true true c = refl
with_true true false c = refl
with_true false b c = refl

paired : (a b c : Bool) → (a and b and c) ≡ (a and (b and c))
unfolding ◌and◌
paired true b c = refl
paired false b c = refl

module _ (b : List ℕ) (p : List (List ℕ)) (mode : Mode) (n : ℕ) where
  pub ends_is : (a x z : ℕ) → ends (decode b p mode n) a x z ≡ end_rows mode.counted (mutually (decode b p mode n) a z) (row_of b a) (row_of b x) (row_of b z)
  unfolding ends follows end_rows decode
  ends_is a x z = refl

  pub leads_is : (a x : ℕ) → leads (decode b p mode n) a x ≡ lead_rows a x (row_of b a) (row_of b x)
  unfolding leads same_agent lead_rows decode
  leads_is a x = refl

  pub trails_is : (c y : ℕ) → trails (decode b p mode n) c y ≡ trail_rows c y (row_of b c) (row_of b y)
  unfolding trails same_agent trail_rows decode
  trails_is c y = refl

  -- the test on decoded rows, as code has it
  pub ends_told : (a x z : ℕ) (m : Bool) (h r q : Row) (v : Bool) → m ≡ mutually (decode b p mode n) a z → h ≡ row_of b a → r ≡ row_of b x
      → q ≡ row_of b z → v ≡ end_rows mode.counted m h r q → ends (decode b p mode n) a x z ≡ v
  ends_told a x z m h r q v mutual_is head_is row_is other_is told = rw (ends_is a x z) cc

  -- M3: where the cheap tests fail, and where they pass
  module _ (i j : ℕ) (r q : Row) (x y z : Bool) (first_is : r ≡ row_of b i) (second_is : q ≡ row_of b j) (x_is : x ≡ atomic r) (y_is : y ≡ atomic q)
      (same_is : z ≡ same_location r q) where
    mutual_is : mutually (decode b p mode n) i j ≡ (not (eqb i j) and (x and y and z) and together p r q)
    unfolding mutually mutual_rows decode
    mutual_is = rw (← first_is, ← second_is, ← x_is, ← y_is, ← same_is) (sym (paired (not (eqb i j)) (x and y and z) (together p r q)))

    pub mutual_off : not (not (eqb i j) and (x and y and z)) ≡ true → false ≡ mutually (decode b p mode n) i j
    mutual_off fail = sym (mutual_is ∙ and_false_left _ _ (not_out (not (eqb i j) and (x and y and z)) fail))

    pub mutual_on : (v : Bool) → not (not (eqb i j) and (x and y and z)) ≡ false → v ≡ together p r q → v ≡ mutually (decode b p mode n) i j
    mutual_on v pass told = told ∙ sym (mutual_is ∙ and_on _ _ (not-false (not (eqb i j) and (x and y and z)) pass))

  -- M5: the same of control barriers
  pub joins_off : (i j : ℕ) (r q : Row) (x : Bool) → r ≡ row_of b i → q ≡ row_of b j → x ≡ same_instance r q → not (not (eqb i j) and x) ≡ true
      → false ≡ joins (decode b p mode n) i j
  unfolding joins decode
  joins_off i j r q x first_is second_is same_is tests_fail =
      sym (and_false_left _ _ (rw (← first_is, ← second_is, ← same_is) (not_out (not (eqb i j) and x) tests_fail)))

  pub joins_on : (i j : ℕ) (r q : Row) (x v : Bool) → r ≡ row_of b i → q ≡ row_of b j → x ≡ same_instance r q
      → not (not (eqb i j) and x) ≡ false → v ≡ shares p (execution_of r) r.agent q.agent → v ≡ joins (decode b p mode n) i j
  unfolding joins decode
  joins_on i j r q x v first_is second_is same_is tests_pass told =
      rw (← first_is, ← second_is) (told ∙ sym (and_on _ _ (rw (← same_is) (not-false (not (eqb i j) and x) tests_pass))))

  -- M4, where the cheap test fails, and where it passes
  pub sequence_off : (a x : ℕ) → follows (decode b p mode n) a x ≡ false → eqb a x ≡ sequence (decode b p mode n) a x
  unfolding sequence ◌and◌
  sequence_off a x e = rw e (sym (or_off _ _ refl))

  pub sequence_on : (a x : ℕ) (d : Bool) → follows (decode b p mode n) a x ≡ true → d ≡ any_below n (ends (decode b p mode n) a x)
      → (eqb a x or not d) ≡ sequence (decode b p mode n) a x
  unfolding sequence decode ◌and◌
  sequence_on a x d e f = rw (e, f) refl

  -- reading from a sequence: not mutually-ordered, no row's source, and else
  pub takes_apart : (x y : ℕ) → mutually (decode b p mode n) x y ≡ false → false ≡ takes_from (decode b p mode n) x y
  unfolding takes_from ◌and◌
  takes_apart x y e = rw e refl

  pub takes_none : (x y s : ℕ) → s ≡ atomic_source b y → n ≤ s → false ≡ takes_from (decode b p mode n) x y
  unfolding takes_from decode
  takes_none x y s e l = sym (and_false_left _ _ (and_false_right _ _ (rw (← e) (le-ltb s n l))))

  pub takes_on : (x y s : ℕ) (r q : Row) (v : Bool) → mutually (decode b p mode n) x y ≡ true → s ≡ atomic_source b y → s < n → r ≡ row_of b x
      → q ≡ row_of b y → v ≡ sequence (decode b p mode n) x s → (writes r and reads q and v) ≡ takes_from (decode b p mode n) x y
  unfolding takes_from decode
  takes_on x y s r q v ordered source_is source_there first_is second_is sequence_is =
      rw (ordered, ← source_is, lt-ltb s n source_there, ← first_is, ← second_is, ← sequence_is) (with_true (writes r) (reads q) v)

  -- M5: where the cheap tests on the rows fail, and where they pass
  pub from_off : (a c : ℕ) (r q : Row) (d : Bool) → r ≡ row_of b a → q ≡ row_of b c → d ≡ (barrier r and atomic q and together p r q) → not d ≡ true
      → false ≡ sync_from_barrier (decode b p mode n) a c
  unfolding sync_from_barrier decode
  from_off a c r q d first_is second_is told tests_fail =
      sym (and_false_left _ _ (rw (← first_is, ← second_is, ← told) (not_out d tests_fail)))

  pub from_on : (a c : ℕ) (r q : Row) (d v : Bool) → r ≡ row_of b a → q ≡ row_of b c → d ≡ (barrier r and atomic q and together p r q) → not d ≡ false
      → v ≡ any_below n (carries_out (decode b p mode n) a c) → v ≡ sync_from_barrier (decode b p mode n) a c
  unfolding sync_from_barrier decode
  from_on a c r q d v first_is second_is told tests_pass rest =
      rest ∙ sym (and_on _ _ (rw (← first_is, ← second_is, ← told) (not-false d tests_pass)))

  pub to_off : (a c : ℕ) (r q : Row) (d : Bool) → r ≡ row_of b a → q ≡ row_of b c → d ≡ (atomic r and barrier q and together p r q) → not d ≡ true
      → false ≡ sync_to_barrier (decode b p mode n) a c
  unfolding sync_to_barrier decode
  to_off a c r q d first_is second_is told tests_fail =
      sym (and_false_left _ _ (rw (← first_is, ← second_is, ← told) (not_out d tests_fail)))

  pub to_on : (a c : ℕ) (r q : Row) (d v : Bool) → r ≡ row_of b a → q ≡ row_of b c → d ≡ (atomic r and barrier q and together p r q) → not d ≡ false
      → v ≡ any_below n (carries_in (decode b p mode n) a c) → v ≡ sync_to_barrier (decode b p mode n) a c
  unfolding sync_to_barrier decode
  to_on a c r q d v first_is second_is told tests_pass rest =
      rest ∙ sym (and_on _ _ (rw (← first_is, ← second_is, ← told) (not-false d tests_pass)))

  pub over_off : (a c : ℕ) (r q : Row) (d : Bool) → r ≡ row_of b a → q ≡ row_of b c → d ≡ (not (eqb a c) and barrier r and barrier q and together p r q) → not d ≡ true
      → false ≡ sync_barriers (decode b p mode n) a c
  unfolding sync_barriers decode
  over_off a c r q d first_is second_is told tests_fail =
      sym (and_false_left _ _ (rw (← first_is, ← second_is, ← told) (not_out d tests_fail)))

  pub over_on : (a c : ℕ) (r q : Row) (d v : Bool) → r ≡ row_of b a → q ≡ row_of b c → d ≡ (not (eqb a c) and barrier r and barrier q and together p r q) → not d ≡ false
      → v ≡ any_below n (carries_over (decode b p mode n) a c) → v ≡ sync_barriers (decode b p mode n) a c
  unfolding sync_barriers decode
  over_on a c r q d v first_is second_is told tests_pass rest =
      rest ∙ sym (and_on _ _ (rw (← first_is, ← second_is, ← told) (not-false d tests_pass)))

  pub control_off : (a c : ℕ) (r q : Row) (d : Bool) → r ≡ row_of b a → q ≡ row_of b c → d ≡ (not (eqb a c) and barrier r and barrier q and together p r q) → not d ≡ true
      → false ≡ sync_control (decode b p mode n) a c
  unfolding sync_control decode
  control_off a c r q d first_is second_is told tests_fail =
      sym (and_false_left _ _ (rw (← first_is, ← second_is, ← told) (not_out d tests_fail)))

  pub control_on : (a c : ℕ) (r q : Row) (d v : Bool) → r ≡ row_of b a → q ≡ row_of b c → d ≡ (not (eqb a c) and barrier r and barrier q and together p r q) → not d ≡ false
      → v ≡ any_below n (passes (decode b p mode n) a c) → v ≡ sync_control (decode b p mode n) a c
  unfolding sync_control decode
  control_on a c r q d v first_is second_is told tests_pass rest =
      rest ∙ sym (and_on _ _ (rw (← first_is, ← second_is, ← told) (not-false d tests_pass)))

  pub sync_off : (a c : ℕ) (r q : Row) (x y : Bool) → r ≡ row_of b a → q ≡ row_of b c → x ≡ releases r → y ≡ acquires q
      → not (x and y) ≡ true → false ≡ synchronizes (decode b p mode n) a c
  unfolding synchronizes decode
  sync_off a c r q x y first_is second_is releases_is acquires_is tests_fail =
      sym (and_false_left _ _ (rw (← first_is, ← second_is, ← releases_is, ← acquires_is) (not_out (x and y) tests_fail)))

  pub sync_on : (a c : ℕ) (r q : Row) (x y v₁ v₂ v₃ v₄ v₅ : Bool) → r ≡ row_of b a → q ≡ row_of b c → x ≡ releases r → y ≡ acquires q
      → not (x and y) ≡ false → v₁ ≡ sync_atomics (decode b p mode n) a c → v₂ ≡ sync_from_barrier (decode b p mode n) a c
      → v₃ ≡ sync_to_barrier (decode b p mode n) a c → v₄ ≡ sync_barriers (decode b p mode n) a c → v₅ ≡ sync_control (decode b p mode n) a c
      → (v₁ or v₂ or v₃ or v₄ or v₅) ≡ synchronizes (decode b p mode n) a c
  unfolding synchronizes decode
  sync_on a c r q x y v₁ v₂ v₃ v₄ v₅ first_is second_is releases_is acquires_is tests_pass atomics_is from_is to_is barriers_is control_is =
      rw (atomics_is, from_is, to_is, barriers_is, control_is)
      (sym (and_on _ _ (rw (← first_is, ← second_is, ← releases_is, ← acquires_is) (not-false (x and y) tests_pass))))
