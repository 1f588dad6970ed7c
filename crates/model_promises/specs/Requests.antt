-- Change requests 5, 8 and 10, in their own words, to be read like Main.antt. Each proof names a theorem of
-- RequestLaws.antt.
use Rattle.std.specs.Prelude.{◌≡◌, Bool, true, false, not, List, ◌⊎◌, ◌↔◌, ℕ, ◌*◌, ◌≤◌, ◌<◌, ltb, leb, eqb}
use Rattle.finite.specs.Logic.{◌and◌, ◌or◌}
use Rattle.model.specs.declared.Row.{Row}
use Rattle.model.specs.declared.Admission.TheVariants.{Refused}
use Rattle.model.specs.Row.{BARRIER, RELAXED, BOTH, control, operation, ranked, non_private, acquires, releases}
use Rattle.model.specs.Table.{Table, row_of, table_under}
use Rattle.model.specs.Header.{version_at, rows_at, row_bytes}
use Rattle.model.specs.Scope.{DEVICE, one_instance, shares, same_location, later}
use Rattle.model.specs.Synchronizes.{sync_atomics, sync_from_barrier, sync_to_barrier, sync_barriers, synchronizes}
use Rattle.model.specs.{Happens.happens, Location.before}
use Rattle.model.specs.Refusal.{row_fault_at, admission}
use Rattle.model.specs.RowFault.{MOST_CLASSES, MOST_FLAGS, MOST_CLASS, codes_fit, barrier_fits}
use Rattle.model_laws.specs.HostLaws.{HappensBefore₁, before₁}
use Rattle.model_promises.specs.Terms.{Bytes, Fillable}
use Rattle.model_promises.specs.RequestLaws as laws

-- ==== 8. "Among an accepted table's writers of one start, length and reference, of two different ranks exactly one is
-- later, and later is transitive", in every version

module _ (chains : Bool) (s : List ℕ) (bytes : Bytes s) (well : Fillable s) where
  abbrev t : Table
  t = table_under chains s

  -- rows x and y are such writers
  abbrev pub Rivals : ℕ → ℕ → Type 0
  Rivals x y = (x < t.rows) × (y < t.rows) × (ranked (t.row x) ≡ true) × (ranked (t.row y) ≡ true)
      × (same_location (t.row x) (t.row y) ≡ true)

  -- y's rank is later than x's, as the version names it
  abbrev pub After : ℕ → ℕ → Bool
  After x y = later t.counted (t.row y).rank (t.row x).rank

  pub one_later : (x y : ℕ) → Rivals x y → ((t.row x).rank ≡ (t.row y).rank → ⊥)
      → ((After x y ≡ true) × (After y x ≡ false)) ⊎ ((After x y ≡ false) × (After y x ≡ true))
  one_later = laws.one_later chains s bytes well

  pub later_transitive : (x y z : ℕ) → Rivals x y → Rivals y z → After x y ≡ true → After y z ≡ true → After x z ≡ true
  later_transitive = laws.later_chains chains s bytes well

-- ==== 10. "Versions 1 and 2 answer as before"

module _ (s : List ℕ) (old : version_at s < 3) where
  -- refusals 16 to 20 are never given, blanks allowed or not
  pub old_refusals : (blanks : Bool) (n i : ℕ) → admission blanks s ≡ Refused n i → (n ≤ 10) ⊎ ((n ≡ 14) ⊎ (n ≡ 15))
  old_refusals = laws.old_refusals s old

  -- kinds from 7 are refusal 5
  pub old_kinds : (i : ℕ) → 6 < (row_of (row_bytes s) i).kind → row_fault_at s i ≡ 5
  old_kinds = laws.old_kinds s old

  -- happens-before is M6's three direct cases and M7, location order L1 to L3, and scopes go by places alone
  module _ (chains : Bool) (well : Fillable s) where
    pub old_happens : (m k : ℕ) → m < 3 * rows_at s → k < 3 * rows_at s
        → (happens (table_under chains s) m k ≡ true) ↔ HappensBefore₁ (table_under chains s) m k
    old_happens = laws.old_happens s old chains well

    pub old_before : (x y b : ℕ) → before (table_under chains s) x y b ≡ before₁ (table_under chains s) x y b
    old_before = laws.old_before s old chains well

    pub old_shares : (scope a b : ℕ)
        → shares (table_under chains s).places scope a b ≡ one_instance (table_under chains s).places scope a b
    old_shares = laws.old_shares s old chains well

-- ==== 5. "Tables without kind 6 answer as before"

-- refusal 14 is never given
pub never_14 : (s : List ℕ) → ((i : ℕ) → i < rows_at s → control (row_of (row_bytes s) i) ≡ false)
    → (blanks : Bool) (n i : ℕ) → admission blanks s ≡ Refused n i → n ≡ 14 → ⊥
never_14 = laws.never_14

-- refusals 5 and 6 of any other row are those before
pub codes_without : (hosts : Bool) (agents : ℕ) (r : Row) → control r ≡ false → codes_fit hosts agents r
    ≡ ((leb r.kind BARRIER or (hosts and operation r)) and ltb r.agent agents and leb r.order BOTH
    and leb r.scope DEVICE and leb r.classes MOST_CLASSES and leb r.flags MOST_FLAGS and leb r.class MOST_CLASS)
codes_without = laws.codes_without

pub barrier_without : (r : Row) → control r ≡ false → barrier_fits r
    ≡ ((not (eqb r.order RELAXED) and eqb r.class 0 and eqb r.start 0) and not (non_private r)
    and eqb r.reference 0)
barrier_without = laws.barrier_without

-- M5 has the four cases before
pub synchronizes_without : (t : Table) → ((i : ℕ) → i < t.rows → control (t.row i) ≡ false)
    → (a b : ℕ) → synchronizes t a b
    ≡ (releases (t.row a) and acquires (t.row b)
    and (sync_atomics t a b or sync_from_barrier t a b or sync_to_barrier t a b or sync_barriers t a b))
synchronizes_without = laws.synchronizes_without
