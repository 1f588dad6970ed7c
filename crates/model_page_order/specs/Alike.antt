-- Two tables that are alike but for the numbers of their rows. All that a rule of the model may read of a table is here, and
-- nothing else: a rule that reads more needs another field.
use Rattle.std.specs.Prelude.{◌≡◌, refl, Bool, true, false, ℕ, ◌+◌, ◌*◌, ◌/◌, ◌%◌, ◌≤◌, ◌<◌, ltb, leb}
use Rattle.std.proofs.Common.{sym, ap, ◌∙◌, arith, ltb-true, leb-true, lt-ltb, le-leb}
use Rattle.std.proofs.Math.Decide.{dec_lt, ℕ_discrete}
use Rattle.finite.specs.Logic.{◌and◌, bool_ext}
use Rattle.finite.specs.Below.{any_below}
use Rattle.finite.specs.Closure.{through}
use Rattle.model.specs.Table.{Table}
use Rattle.model_page_order.specs.Renumber.{Renumbering, moment_to, opened, row_of, any_to, thrice, through_to}

-- row x of t is row `to x` of u, its atomic source and its dependencies renumbered, and each agent's rows keep their order
pub record Alike (t u : Table) (π : Renumbering t.rows) : Type 0 where
  pub rows : u.rows ≡ t.rows
  pub places : u.places ≡ t.places
  pub counted : u.counted ≡ t.counted
  pub chains : u.chains ≡ t.chains
  pub row : (x : ℕ) → u.row (π.to x) ≡ t.row x
  pub source : (x : ℕ) → u.source (π.to x) ≡ π.to (t.source x)
  pub depends : (x y : ℕ) → u.depends (π.to x) (π.to y) ≡ t.depends x y
  pub kept : (x y : ℕ) → x < y → (t.row x).agent ≡ (t.row y).agent → π.to x < π.to y

-- ---- a conjunct that is only asked where another holds

pub and_right_so : (a b c : Bool) → (a ≡ true → b ≡ c) → (a and b) ≡ (a and c)
unfolding ◌and◌
and_right_so true b c f = f refl
and_right_so false b c f = refl

pub and_left_so : (a b c : Bool) → (c ≡ true → a ≡ b) → (a and c) ≡ (b and c)
unfolding ◌and◌
and_left_so a b true f = rw (f refl) refl
and_left_so true true false f = refl
and_left_so true false false f = refl
and_left_so false true false f = refl
and_left_so false false false f = refl

module _ {t u : Table} {π : Renumbering t.rows} (M : Alike t u π) where
  -- ---- rows in their order, of one agent

  kept_back : (x y : ℕ) → (t.row x).agent ≡ (t.row y).agent → π.to x < π.to y → x < y
  kept_back x y q h = go (dec_lt x y) (ℕ_discrete x y)
    where
      go : Dec (x < y) → Dec (x ≡ y) → x < y
      go (yes l) d = l
      go (no l) (yes e) = let p = ap π.to e in absurd (omega arith)
      go (no l) (no e) = let p = M.kept y x (omega arith) (sym q) in absurd (omega arith)

  pub ltb_kept : (x y : ℕ) → (t.row x).agent ≡ (t.row y).agent → ltb (π.to x) (π.to y) ≡ ltb x y
  ltb_kept x y q =
      bool_ext (ltb (π.to x) (π.to y)) (ltb x y) (λ e. lt-ltb x y (kept_back x y q (ltb-true (π.to x) (π.to y) e)))
      (λ e. lt-ltb (π.to x) (π.to y) (M.kept x y (ltb-true x y e) q))

  le_kept : (x y : ℕ) → (t.row x).agent ≡ (t.row y).agent → x ≤ y → π.to x ≤ π.to y
  le_kept x y q l = go (dec_lt (π.to y) (π.to x))
    where
      go : Dec (π.to y < π.to x) → π.to x ≤ π.to y
      go (yes h) = let p = kept_back y x (sym q) h in absurd (omega arith)
      go (no h) = omega arith

  le_kept_back : (x y : ℕ) → (t.row x).agent ≡ (t.row y).agent → π.to x ≤ π.to y → x ≤ y
  le_kept_back x y q h = go (dec_lt y x)
    where
      go : Dec (y < x) → x ≤ y
      go (yes l) = let p = M.kept y x l (sym q) in absurd (omega arith)
      go (no l) = omega arith

  pub leb_kept : (x y : ℕ) → (t.row x).agent ≡ (t.row y).agent → leb (π.to x) (π.to y) ≡ leb x y
  leb_kept x y q =
      bool_ext (leb (π.to x) (π.to y)) (leb x y) (λ e. le-leb x y (le_kept_back x y q (leb-true (π.to x) (π.to y) e)))
      (λ e. le-leb (π.to x) (π.to y) (le_kept x y q (leb-true x y e)))

  -- ---- moments

  abbrev pub mo : ℕ → ℕ
  mo m = moment_to π.to m

  pub row_at : (m : ℕ) → u.row (mo m / 3) ≡ t.row (m / 3)
  row_at m = ap u.row (row_of π.to m) ∙ M.row (m / 3)

  moment_kept : (m k : ℕ) → (t.row (m / 3)).agent ≡ (t.row (k / 3)).agent → m < k → mo m < mo k
  moment_kept m k q l = rw (opened π.to m, opened π.to k) (go (ℕ_discrete (m / 3) (k / 3)))
    where
      go : Dec (m / 3 ≡ k / 3) → 3 * π.to (m / 3) + m % 3 < 3 * π.to (k / 3) + k % 3
      go (yes e) = let p = ap π.to e in omega arith
      go (no d) = let p = M.kept (m / 3) (k / 3) (omega arith) q in omega arith

  moment_kept_back : (m k : ℕ) → (t.row (m / 3)).agent ≡ (t.row (k / 3)).agent → mo m < mo k → m < k
  moment_kept_back m k q h = go (dec_lt m k) (ℕ_discrete m k)
    where
      go : Dec (m < k) → Dec (m ≡ k) → m < k
      go (yes l) d = l
      go (no l) (yes e) = let p = ap (moment_to π.to) e in absurd (omega arith)
      go (no l) (no e) = let p = moment_kept k m (sym q) (omega arith) in absurd (omega arith)

  pub ltb_moment : (m k : ℕ) → (t.row (m / 3)).agent ≡ (t.row (k / 3)).agent → ltb (mo m) (mo k) ≡ ltb m k
  ltb_moment m k q =
      bool_ext (ltb (mo m) (mo k)) (ltb m k) (λ e. lt-ltb m k (moment_kept_back m k q (ltb-true (mo m) (mo k) e)))
      (λ e. lt-ltb (mo m) (mo k) (moment_kept m k q (ltb-true m k e)))

  -- ---- some row, some moment, a path of moments

  pub some_row : (p q : ℕ → Bool) → ((k : ℕ) → q (π.to k) ≡ p k) → any_below u.rows q ≡ any_below t.rows p
  some_row p q f = rw M.rows (any_to π p q f)

  pub moment_path : (r d : ℕ → ℕ → Bool) → ((m k : ℕ) → d (mo m) (mo k) ≡ r m k) → (m k : ℕ)
      → through d (3 * u.rows) (mo m) (mo k) ≡ through r (3 * t.rows) m k
  unfolding thrice
  moment_path r d f m k = rw M.rows (through_to (thrice π) r d f m k)

  -- a path of rows
  pub row_path : (r d : ℕ → ℕ → Bool) → ((x y : ℕ) → d (π.to x) (π.to y) ≡ r x y) → (x y : ℕ)
      → through d u.rows (π.to x) (π.to y) ≡ through r t.rows x y
  row_path r d f x y = rw M.rows (through_to π r d f x y)
