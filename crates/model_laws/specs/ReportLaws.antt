-- Of a conflicting pair exactly one holds: it is mutually-ordered, ordered throughout, or races; so the counts add up. Assumes nothing.
use Rattle.std.specs.Prelude.{◌≡◌, ◌⊎◌, ◌↔◌, ltb}
use Rattle.std.proofs.Math.Path.{refl}
use Rattle.std.proofs.Common.{sym, ap, subst, ◌∙◌, inl, inr, mul-le-mul_right, ltb-true, ltb-false}
use Rattle.std.proofs.Math.Bool.{Bool, true, false, not}
use Rattle.std.proofs.Math.Logic.{⊎_elim}
use Prim.Native.Nat.{ℕ, ◌+◌, ◌-◌, ◌≤◌, ◌<◌}
use native.Mathlib.Omega.{arith}
use Rattle.finite.specs.Logic.{◌and◌, ◌or◌, which, split, and_true, or_cases, or_left, or_right, not_both, not_so, not_in, not_out}
use Rattle.finite.specs.Below.{all_below, all_in, all_out, least, least_is}
use Rattle.finite.specs.Count.{one, one_none, one_off, count_pairs, pairs_bound, pairs_zero, pairs_off, pairs_split}
use Rattle.model.specs.Limits.{LONGEST, ROWS}
use Rattle.model.specs.Table.{Table}
use Rattle.model.specs.Scope.{mutually}
use Rattle.model.specs.Location.{common, before}
use Rattle.model.specs.Race.{nth, conflict, unordered, unordered_nth, race_nth, races}
use Rattle.model.specs.Report.{conflict_mutual, ordered_at, ordered_nth, conflict_ordered, conflicting, mutuals, ordered, racing}
use Rattle.model_laws.specs.RaceLaws.{Sized, touched, common_left}
use Rattle.model_laws.specs.ShareLaws.{MOST}

-- ---- definitions

-- x and y have location order, one way or the other, at every byte that they share
abbrev pub Throughout : Table → ℕ → ℕ → Type 0
Throughout t x y = (b : ℕ) → common (t.row x) (t.row y) b ≡ true → (before t x y b ≡ true) ⊎ (before t y x b ≡ true)

-- ---- laws: a byte is ordered or not

module _ (t : Table) (x y : ℕ) where
  opposite : (b : ℕ) → unordered t x y b ≡ not (ordered_at t x y b)
  unfolding unordered ordered_at ◌and◌ ◌or◌
  opposite b = go (common (t.row x) (t.row y) b) (before t x y b) (before t y x b)
    where
      go : (u v w : Bool) → (u and not v and not w) ≡ not (not u or v or w)
      go true true w = refl
      go true false true = refl
      go true false false = refl
      go false v w = refl

  -- a byte without order is found exactly where not every byte has it
  open_is : ltb (race_nth t x y) LONGEST ≡ not (all_below LONGEST (ordered_nth t x y))
  unfolding race_nth unordered_nth ordered_nth
  open_is = ⊎_elim all some (which (all_below LONGEST p))
    where
      p : ℕ → Bool
      p k = ordered_at t x y (nth t x k)

      q : ℕ → Bool
      q k = unordered t x y (nth t x k)

      all : all_below LONGEST p ≡ true → ltb (least LONGEST q) LONGEST ≡ not (all_below LONGEST p)
      all e =
          rw e
          (not_so _ (λ f.
          let l = ltb-true (least LONGEST q) LONGEST f in
          let k : q (least LONGEST q) ≡ false = opposite (nth t x (least LONGEST q)) ∙ ap not (all_out p LONGEST e (least LONGEST q) l) in
          not_both ((least_is q LONGEST).hit l) k))

      some : all_below LONGEST p ≡ false → ltb (least LONGEST q) LONGEST ≡ not (all_below LONGEST p)
      some e = rw e (⊎_elim (λ f. f) (λ f. not_both (all_in p LONGEST (λ k l. each f k l)) e) (which (ltb (least LONGEST q) LONGEST)))
        where
          each : ltb (least LONGEST q) LONGEST ≡ false → (k : ℕ) → k < LONGEST → p k ≡ true
          each f k l =
              let m = ltb-false (least LONGEST q) LONGEST f in
              let u : not (p k) ≡ false = sym (opposite (nth t x k)) ∙ (least_is q LONGEST).miss k (omega arith) in
              ⊎_elim (λ g. g) (λ g. not_both (not_in g) u) (which (p k))

  -- ---- laws: what becomes of a pair

  pub one_way : one (conflict_mutual t x y) + one (conflict_ordered t x y) + one (races t x y) ≡ one (conflict t x y)
  unfolding conflict_mutual conflict_ordered races one ◌and◌
  one_way = rw open_is (go (conflict t x y) (mutually t x y) (all_below LONGEST (ordered_nth t x y)))
    where
      go : (c m o : Bool) → one (c and m) + one (c and not m and o) + one (c and not m and not o) ≡ one c
      go true true o = refl
      go true false true = refl
      go true false false = refl
      go false m o = refl

  -- the test decides whether a pair has order at every shared byte
  pub ordered_is : Sized t → x < t.rows → (conflict_ordered t x y ≡ true) ↔ ((conflict t x y ≡ true) × (mutually t x y ≡ false) × Throughout t x y)
  unfolding conflict_ordered ordered_nth ordered_at
  ordered_is sized l = (forth, back)
    where
      p : ℕ → Bool
      p k = not (common (t.row x) (t.row y) (nth t x k)) or before t x y (nth t x k) or before t y x (nth t x k)

      at : (b : ℕ) → (not (common (t.row x) (t.row y) b) or before t x y b or before t y x b) ≡ true → common (t.row x) (t.row y) b ≡ true
          → (before t x y b ≡ true) ⊎ (before t y x b ≡ true)
      at b e c =
          ⊎_elim (λ f. ⊎_elim (λ g. not_both c (not_out _ g)) (λ g. inl g) (or_cases (not (common (t.row x) (t.row y) b)) (before t x y b) f)) (λ f. inr f)
          (or_cases (not (common (t.row x) (t.row y) b) or before t x y b) (before t y x b) e)

      byte : all_below LONGEST p ≡ true → Throughout t x y
      byte e b c =
          let g = touched (t.row x) b (sized x l) (common_left (t.row x) (t.row y) b c) in
          let lo = g.0 in
          let hi = g.1 in
          let q : (t.row x).start + (b - (t.row x).start) ≡ b = omega arith in
          at b (subst (λ (z : ℕ). (not (common (t.row x) (t.row y) z) or before t x y z or before t y x z) ≡ true) q
          (all_out p LONGEST e (b - (t.row x).start) (omega arith))) c

      forth : (conflict t x y and not (mutually t x y) and all_below LONGEST p) ≡ true → (conflict t x y ≡ true) × (mutually t x y ≡ false) × Throughout t x y
      forth e = let a = split e in let b = split a.0 in (b.0, not_out _ b.1, byte a.1)

      each : Throughout t x y → (k : ℕ) → k < LONGEST → p k ≡ true
      each h k m =
          ⊎_elim
          (λ c. ⊎_elim (λ e. or_left _ (or_right _ e)) (λ e. or_right _ e) (h (nth t x k) c))
          (λ c. or_left _ (or_left _ (not_in c)))
          (which (common (t.row x) (t.row y) (nth t x k)))

      back : (conflict t x y ≡ true) × (mutually t x y ≡ false) × Throughout t x y → (conflict t x y and not (mutually t x y) and all_below LONGEST p) ≡ true
      back h = and_true (and_true h.0 (not_in h.1)) (all_in p LONGEST (each h.2))

-- ---- laws: the counts

module _ (t : Table) where
  -- the last three add up to the first
  pub adds_up : mutuals t + ordered t + racing t ≡ conflicting t
  unfolding mutuals ordered racing conflicting
  adds_up = pairs_split (conflict_mutual t) (conflict_ordered t) (races t) (conflict t) t.rows (λ x y l h. one_way t x y)

  -- counts have 16 bits
  pub counts_fit_lem : (p : ℕ → ℕ → Bool) → t.rows ≤ ROWS → count_pairs t.rows p ≤ MOST
  counts_fit_lem p l = let a = pairs_bound p t.rows ROWS l in let b = mul-le-mul_right ROWS l in omega arith

  pub conflicting_none : (conflicting t ≡ 0) ↔ ((x y : ℕ) → x < y → y < t.rows → conflict t x y ≡ false)
  unfolding conflicting
  conflicting_none = (λ e. pairs_zero (conflict t) t.rows e, λ f. pairs_off (conflict t) t.rows f)

  pub racing_none : (racing t ≡ 0) ↔ ((x y : ℕ) → x < y → y < t.rows → races t x y ≡ false)
  unfolding racing
  racing_none = (λ e. pairs_zero (races t) t.rows e, λ f. pairs_off (races t) t.rows f)

  -- as many race as conflict exactly where each conflicting pair races
  pub racing_all : (racing t ≡ conflicting t) ↔ ((x y : ℕ) → x < y → y < t.rows → conflict t x y ≡ true → races t x y ≡ true)
  unfolding mutuals ordered
  racing_all = (forth, back)
    where
      forth : racing t ≡ conflicting t → (x y : ℕ) → x < y → y < t.rows → conflict t x y ≡ true → races t x y ≡ true
      forth e x y l h c =
          let s = adds_up in
          let a : count_pairs t.rows (conflict_mutual t) ≡ 0 = omega arith in
          let b : count_pairs t.rows (conflict_ordered t) ≡ 0 = omega arith in
          let m = one_off (pairs_zero (conflict_mutual t) t.rows a x y l h) in
          let o = one_off (pairs_zero (conflict_ordered t) t.rows b x y l h) in
          ⊎_elim (λ r. r) (λ r. not_both c (one_none (conflict t x y) (let w = one_way t x y in let z = one_off r in omega arith))) (which (races t x y))

      back : ((x y : ℕ) → x < y → y < t.rows → conflict t x y ≡ true → races t x y ≡ true) → racing t ≡ conflicting t
      back f =
          let a : count_pairs t.rows (conflict_mutual t) ≡ 0 = pairs_off (conflict_mutual t) t.rows
          (λ x y l h. one_none _ (let w = only x y (f x y l h) in omega arith)) in
          let b : count_pairs t.rows (conflict_ordered t) ≡ 0 = pairs_off (conflict_ordered t) t.rows
          (λ x y l h. one_none _ (let w = only x y (f x y l h) in omega arith)) in
          let s = adds_up in
          omega arith
        where
          only : (x y : ℕ) → (conflict t x y ≡ true → races t x y ≡ true) → one (conflict_mutual t x y) + one (conflict_ordered t x y) ≡ 0
          only x y g =
              let w = one_way t x y in
              ⊎_elim (λ c. let p : one (races t x y) ≡ one (conflict t x y) = ap one (g c ∙ sym c) in omega arith) (λ c.
              let p = one_off c in omega arith) (which (conflict t x y))
