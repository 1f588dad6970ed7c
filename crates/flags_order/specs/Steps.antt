-- The three direct cases that go by rows, of a class set, set bit by bit in a cleared region: those from and to each row that holds
-- all of the set. That a bit set is such a case is said apart from which are set, so that a bit may be set twice. Assumes nothing.
use Rattle.std.specs.Prelude.{◌≡◌, Bool, true, false, ◌⊎◌, List, ℕ, ◌+◌, ◌-◌, ◌*◌, ◌/◌, ◌%◌, ◌≤◌, ◌<◌, length}
use Rattle.std.proofs.Common.{sym, ◌∙◌, inl, inr}
use native.Mathlib.Omega.{arith}
use Rattle.std.proofs.Math.Decide.{ℕ_discrete}
use Rattle.finite.specs.Logic.{◌or◌, not_both, bool_ext, or_cases, or_left, or_right}
use Rattle.bits.specs.Bit.{set_bit_if, set_bit_if_same, set_bit_if_other, zeros, bit_zeros_in}
use Rattle.bits.specs.Matrix.{rel}
use Rattle.bits.specs.Within.{Within, within_refl, within_trans, within_put, within_cleared}
use Rattle.bits.specs.Stage.{Made}
use Rattle.model.specs.Limits.{ROWS, WORK}
use Rattle.model.specs.Table.{row_of}
use Rattle.run.specs.Layout.{places_in, mode_in, rows_in, table_in}
use Rattle.model.specs.Moment.{AT, program_order}
use Rattle.model_laws.specs.HostLaws.{step₁}
use Rattle.work_area.specs.Regions.{SYNC, STEP, STEP_END, GRID, MOMENTS}
use Rattle.work_area.specs.Synced.{Synced, synced_kept}
use Rattle.run_rows.specs.Cases.{holds_at}
use Rattle.flags_order.specs.Cases.{step_rows, step_read, step_ends}

-- ---- definitions

-- bits were added from w to u, such cases for s alone; no other word than the region's changed
pub record Grown (t : List ℕ) (n s : ℕ) (w u : List ℕ) : Type 0 where
  pub frame : Within STEP STEP_END w u
  pub kept : (i j : ℕ) → i < 3 * n → j < 3 * n → rel w STEP MOMENTS i j ≡ true → rel u STEP MOMENTS i j ≡ true
  pub sound : Synced (table_in t n) n w → (i j : ℕ) → i < 3 * n → j < 3 * n → rel u STEP MOMENTS i j ≡ true
      → (rel w STEP MOMENTS i j or step₁ (table_in t n) s i j) ≡ true

-- among them the one from m to k
pub record CellMade (t : List ℕ) (n s m k : ℕ) (w u : List ℕ) : Type 0 where
  pub grown : Grown t n s w u
  pub set : Synced (table_in t n) n w → step₁ (table_in t n) s m k ≡ true → rel u STEP MOMENTS m k ≡ true

-- among them those from m to the first k moments and from these to m
pub record RowMade (t : List ℕ) (n s m k : ℕ) (w u : List ℕ) : Type 0 where
  pub grown : Grown t n s w u
  pub from : Synced (table_in t n) n w → (j : ℕ) → j < k → step₁ (table_in t n) s m j ≡ true
      → rel u STEP MOMENTS m j ≡ true
  pub to : Synced (table_in t n) n w → (j : ℕ) → j < k → step₁ (table_in t n) s j m ≡ true
      → rel u STEP MOMENTS j m ≡ true

-- among them those from and to the own moments of the first j rows that hold all of s
pub record RowsMade (t : List ℕ) (n s j : ℕ) (w u : List ℕ) : Type 0 where
  pub grown : Grown t n s w u
  pub from : Synced (table_in t n) n w → (i k : ℕ) → i < j → k < 3 * n → holds_at (rows_in t) s i ≡ true
      → step₁ (table_in t n) s (3 * i + 1) k ≡ true → rel u STEP MOMENTS (3 * i + 1) k ≡ true
  pub to : Synced (table_in t n) n w → (i k : ℕ) → i < j → k < 3 * n → holds_at (rows_in t) s i ≡ true
      → step₁ (table_in t n) s k (3 * i + 1) ≡ true → rel u STEP MOMENTS k (3 * i + 1) ≡ true

-- ---- laws: bits that were added

pub grown_none : (t : List ℕ) (n s : ℕ) (w : List ℕ) → Grown t n s w w
grown_none t n s w = record { frame = within_refl STEP STEP_END w; kept = λ i j p q h. h; sound = λ y i j l o h. or_left _ h }

synced_on : {t : List ℕ} {n s : ℕ} {w u : List ℕ} → Grown t n s w u → Synced (table_in t n) n w
    → Synced (table_in t n) n u
synced_on g y = synced_kept (omega arith) g.frame y

pub grown_more : {t : List ℕ} {n s : ℕ} {w v u : List ℕ} → Grown t n s w v → Grown t n s v u → Grown t n s w u
grown_more {t} {n} {s} {w} {v} {u} g h =
    record {
      frame = within_trans g.frame h.frame;
      kept = λ i j l o e. h.kept i j l o (g.kept i j l o e);
      sound = λ y i j l o e. go y i j l o (or_cases _ _ (h.sound (synced_on g y) i j l o e));
    }
  where
    go : Synced (table_in t n) n w → (i j : ℕ) → i < 3 * n → j < 3 * n
        → (rel v STEP MOMENTS i j ≡ true) ⊎ (step₁ (table_in t n) s i j ≡ true) → (rel w STEP MOMENTS i j or step₁ (table_in t n) s i j) ≡ true
    go y i j l o (inl e) = g.sound y i j l o e
    go y i j l o (inr e) = or_right _ e

-- ---- laws: one bit

-- the bit of m and k is set where d; each other stays
module _ (n m k i : ℕ) (d : Bool) (w u : List ℕ) (few : n ≤ ROWS) (room : WORK ≤ length w) (below_m : m < 3 * n) (below_k : k < 3 * n)
    (place_is : i ≡ (STEP + m * MOMENTS) * 64 + k) (put : u ≡ set_bit_if d w i) where
  same : rel u STEP MOMENTS m k ≡ (rel w STEP MOMENTS m k or d)
  unfolding rel
  same = rw (put, place_is) (set_bit_if_same d w ((STEP + m * MOMENTS) * 64 + k) (omega arith))

  other : (x y : ℕ) → x < 3 * n → y < 3 * n → ((x ≡ m) × (y ≡ k) → ⊥) → rel u STEP MOMENTS x y ≡ rel w STEP MOMENTS x y
  unfolding rel
  other x y p q h = rw put (set_bit_if_other d w i ((STEP + x * MOMENTS) * 64 + y) (λ e. h (omega arith, omega arith)))

pub cell_made : (t : List ℕ) (n s m k i : ℕ) (c d : Bool) (w u : List ℕ) → n ≤ ROWS → WORK ≤ length w → m < 3 * n → k < 3 * n
    → c ≡ rel w SYNC GRID (m / 3) (k / 3)
    → d ≡ step_rows s (m % 3) (k % 3) (row_of (rows_in t) (m / 3)) (row_of (rows_in t) (k / 3)) c (program_order (table_in t n) m k)
    → i ≡ (STEP + m * MOMENTS) * 64 + k → u ≡ set_bit_if d w i → CellMade t n s m k w u
cell_made t n s m k i c d w u few room below_m below_k bit_is tested place_is put =
    record {
      grown = record {
        frame = within_put STEP STEP_END i d (omega arith) (omega arith) put;
        kept = λ x y p q h. kept x y p q h (ℕ_discrete x m) (ℕ_discrete y k);
        sound = λ z x y q r h. sound z x y q r h (ℕ_discrete x m) (ℕ_discrete y k);
      };
      set = λ y h. set y h;
    }
  where
    one : rel u STEP MOMENTS m k ≡ (rel w STEP MOMENTS m k or d)
    one = same n m k i d w u few room below_m below_k place_is put

    rest : (x y : ℕ) → x < 3 * n → y < 3 * n → ((x ≡ m) × (y ≡ k) → ⊥) → rel u STEP MOMENTS x y ≡ rel w STEP MOMENTS x y
    rest = other n m k i d w u few room below_m below_k place_is put

    is : Synced (table_in t n) n w → d ≡ step₁ (table_in t n) s m k
    is y = step_read (rows_in t) (places_in t) (mode_in t) n w s m k c d y below_m below_k bit_is tested

    set : Synced (table_in t n) n w → step₁ (table_in t n) s m k ≡ true → rel u STEP MOMENTS m k ≡ true
    set y h = one ∙ or_right _ (is y ∙ h)

    kept : (x y : ℕ) → x < 3 * n → y < 3 * n → rel w STEP MOMENTS x y ≡ true → Dec (x ≡ m) → Dec (y ≡ k) → rel u STEP MOMENTS x y ≡ true
    kept x y below_x below_y on (yes a) (yes z) = rw (a, z) (one ∙ or_left d (rw (a, z) at on))
    kept x y below_x below_y on (yes a) (no z) = rest x y below_x below_y (λ t. z t.1) ∙ on
    kept x y below_x below_y on (no a) z = rest x y below_x below_y (λ t. a t.0) ∙ on

    sound : Synced (table_in t n) n w → (x y : ℕ) → x < 3 * n → y < 3 * n → rel u STEP MOMENTS x y ≡ true
        → Dec (x ≡ m) → Dec (y ≡ k)
        → (rel w STEP MOMENTS x y or step₁ (table_in t n) s x y) ≡ true
    sound synced x y below_x below_y on (yes a) (yes z) = rw (a, z, ← is synced, ← one) (rw (a, z) at on)
    sound synced x y below_x below_y on (yes a) (no z) = or_left _ (sym (rest x y below_x below_y (λ v. z v.1)) ∙ on)
    sound synced x y below_x below_y on (no a) z = or_left _ (sym (rest x y below_x below_y (λ v. a v.0)) ∙ on)

-- ---- laws: the moments at the other end

pub row_none : (t : List ℕ) (n s m : ℕ) (w : List ℕ) → RowMade t n s m 0 w w
row_none t n s m w = record { grown = grown_none t n s w; from = λ y j l. absurd (omega arith); to = λ y j l. absurd (omega arith) }

pub row_more : (t : List ℕ) (n s m k : ℕ) (w v x u : List ℕ) → m < 3 * n → k < 3 * n → RowMade t n s m k w v → CellMade t n s m k v x → CellMade t n s k m x u
    → RowMade t n s m (k + 1) w u
row_more t n s m k w v x u below_m below_k made there back =
    record {
      grown = grown_more made.grown both;
      from = λ y j q e. from y j q e (ℕ_discrete j k);
      to = λ y j q e. to y j q e (ℕ_discrete j k);
    }
  where
    both : Grown t n s v u
    both = grown_more there.grown back.grown

    from : Synced (table_in t n) n w → (j : ℕ) → j < k + 1 → step₁ (table_in t n) s m j ≡ true → Dec (j ≡ k)
        → rel u STEP MOMENTS m j ≡ true
    from synced j below_j stepped (yes a) =
        rw a (back.grown.kept m k below_m below_k (there.set (synced_on made.grown synced) (rw a at stepped)))
    from synced j below_j stepped (no a) = both.kept m j below_m (omega arith) (made.from synced j (omega arith) stepped)

    to : Synced (table_in t n) n w → (j : ℕ) → j < k + 1 → step₁ (table_in t n) s j m ≡ true → Dec (j ≡ k)
        → rel u STEP MOMENTS j m ≡ true
    to synced j below_j stepped (yes a) = rw a (back.set (synced_on (grown_more made.grown there.grown) synced) (rw a at stepped))
    to synced j below_j stepped (no a) = both.kept j m (omega arith) below_m (made.to synced j (omega arith) stepped)

-- ---- laws: the rows that hold all of the set

pub rows_none : (t : List ℕ) (n s : ℕ) (w : List ℕ) → RowsMade t n s 0 w w
rows_none t n s w = record { grown = grown_none t n s w; from = λ y i k l. absurd (omega arith); to = λ y i k l. absurd (omega arith) }

pub rows_more : (t : List ℕ) (n s j : ℕ) (w v u : List ℕ) → j < n → RowsMade t n s j w v → RowMade t n s (3 * j + 1) (3 * n) v u → RowsMade t n s (j + 1) w u
rows_more t n s j w v u o h r =
    record {
      grown = grown_more h.grown r.grown;
      from = λ y i k l q a e. from y i k l q a e (ℕ_discrete i j);
      to = λ y i k l q a e. to y i k l q a e (ℕ_discrete i j);
    }
  where
    from : Synced (table_in t n) n w → (i k : ℕ) → i < j + 1 → k < 3 * n → holds_at (rows_in t) s i ≡ true
        → step₁ (table_in t n) s (3 * i + 1) k ≡ true → Dec (i ≡ j) → rel u STEP MOMENTS (3 * i + 1) k ≡ true
    from synced i k below_i below_k held stepped (yes z) = rw z (r.from (synced_on h.grown synced) k below_k (rw z at stepped))
    from synced i k below_i below_k held stepped (no z) =
        r.grown.kept (3 * i + 1) k (omega arith) below_k (h.from synced i k (omega arith) below_k held stepped)

    to : Synced (table_in t n) n w → (i k : ℕ) → i < j + 1 → k < 3 * n → holds_at (rows_in t) s i ≡ true
        → step₁ (table_in t n) s k (3 * i + 1) ≡ true → Dec (i ≡ j) → rel u STEP MOMENTS k (3 * i + 1) ≡ true
    to synced i k below_i below_k held stepped (yes z) = rw z (r.to (synced_on h.grown synced) k below_k (rw z at stepped))
    to synced i k below_i below_k held stepped (no z) =
        r.grown.kept k (3 * i + 1) below_k (omega arith) (h.to synced i k (omega arith) below_k held stepped)

-- a row that does not hold all of s
pub rows_skip : (t : List ℕ) (n s j : ℕ) (w v u : List ℕ) → holds_at (rows_in t) s j ≡ false → RowsMade t n s j w v → u ≡ v → RowsMade t n s (j + 1) w u
rows_skip t n s j w v u off h same =
    rw same (record {
      grown = h.grown;
      from = λ y i k l q a e. h.from y i k (below i l a (ℕ_discrete i j)) q a e;
      to = λ y i k l q a e. h.to y i k (below i l a (ℕ_discrete i j)) q a e;
    })
  where
    below : (i : ℕ) → i < j + 1 → holds_at (rows_in t) s i ≡ true → Dec (i ≡ j) → i < j
    below i l a (yes z) = not_both (rw z at a) off
    below i l a (no z) = omega arith

-- all rows: the region holds the three direct cases
pub steps_made : (t : List ℕ) (n s : ℕ) (w v u : List ℕ) → n ≤ ROWS → WORK ≤ length w → Synced (table_in t n) n w
    → v ≡ zeros w STEP (STEP_END - STEP) → RowsMade t n s n v u → Made STEP STEP_END STEP MOMENTS (3 * n) (step₁ (table_in t n) s) w u
unfolding rel
steps_made t n s w v u few room synced cleared made =
    record {
      holds = record {
        fits = omega arith;
        cell = λ i j l o. bool_ext _ _
            (λ e. clean i j l o (or_cases _ _ (made.grown.sound z i j l o e))) (λ e. full i j l o e (step_ends (rows_in t) (places_in t) (mode_in t) n s i j e));
      };
      frame = within_trans wiped made.grown.frame;
    }
  where
    wiped : Within STEP STEP_END w v
    wiped = within_cleared STEP STEP_END (omega arith) cleared

    z : Synced (table_in t n) n v
    z = synced_kept (omega arith) wiped synced

    fresh : (i j : ℕ) → i < 3 * n → j < 3 * n → rel v STEP MOMENTS i j ≡ false
    fresh i j l o = rw cleared (bit_zeros_in w STEP (STEP_END - STEP) ((STEP + i * MOMENTS) * 64 + j) (omega arith) (omega arith) (omega arith))

    clean : (i j : ℕ) → i < 3 * n → j < 3 * n → (rel v STEP MOMENTS i j ≡ true) ⊎ (step₁ (table_in t n) s i j ≡ true)
        → step₁ (table_in t n) s i j ≡ true
    clean i j l o (inl e) = not_both e (fresh i j l o)
    clean i j l o (inr e) = e

    full : (i j : ℕ) → i < 3 * n → j < 3 * n → step₁ (table_in t n) s i j ≡ true
        → ((i % 3 ≡ AT) × (holds_at (rows_in t) s (i / 3) ≡ true)) ⊎ ((j % 3 ≡ AT) × (holds_at (rows_in t) s (j / 3) ≡ true)) → rel u STEP MOMENTS i j ≡ true
    full i j l o e (inl a) =
        let q : 3 * (i / 3) + 1 ≡ i = let c : i % 3 ≡ 1 = a.0 in omega arith in
        rw q at (made.from z (i / 3) j (omega arith) o a.1 (rw q e))
    full i j l o e (inr a) =
        let q : 3 * (j / 3) + 1 ≡ j = let c : j % 3 ≡ 1 = a.0 in omega arith in
        rw q at (made.to z (j / 3) i (omega arith) l a.1 (rw q e))
