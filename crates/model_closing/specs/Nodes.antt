-- Inter-thread order by way of nodes: the rows that hold a class set and release or acquire, and the ends of dependencies. The
-- closure over moments is one over nodes; from any other moment the first release row behind it that holds the set stands for all.
-- For any table and any number of rows. Assumes nothing.
use Rattle.std.specs.Prelude.{◌≡◌, refl, Bool, false, ◌⊎◌, eqb, ltb}
use Rattle.std.proofs.Common.{sym, subst, ◌∙◌, eqb-true, eq-eqb, ltb-true, lt-ltb, le-ltb}
use Rattle.std.proofs.Math.Path.{ap}
use Rattle.std.proofs.Math.Bool.{true}
use Rattle.std.proofs.Math.Logic.{inl, inr, ⊎_elim}
use Prim.Native.Nat.{ℕ, ◌+◌, ◌-◌, ◌*◌, ◌%◌, ◌≤◌, ◌<◌}
use native.Mathlib.Omega.{arith}
use Rattle.std.proofs.Math.Decide.{ℕ_discrete}
use Rattle.finite.specs.Logic.{◌and◌, ◌or◌, which, bool_ext, not_both, split, and_true, or_cases, or_left, or_right}
use Rattle.finite.specs.Below.{least, least_is, least_low}
use Rattle.finite.specs.Closure.{Reach, one, more, reach_trans, through, through_reach}
use Rattle.model.specs.Row.{releases, acquires}
use Rattle.model.specs.Table.{Table}
use Rattle.model.specs.Moment.{AT, row_in, part, itself, program_order}
use Rattle.model.specs.Synchronizes.{synchronizes}
use Rattle.model.specs.Happens.{holding, concerns, by_sync, to_release, from_acquire, by_system, step, inter_thread}
use Rattle.model_laws.specs.CaseLaws.{step_cases, step_out}
use Rattle.model_hubs.specs.Hubs.{Hubs, hop, through_own, through_own_lem, through_hops}
use Rattle.model_hubs.specs.Rows.{column_at, order_ends, order_trans, order_both, holding_own, holding_concerns}
use Rattle.model_closing.specs.Order.{own_row}

-- ---- definitions

-- row x holds all of s; and releases; and acquires
unfoldable pub holder : Table → ℕ → ℕ → Bool
holder t s x = holding t s (itself x)

unfoldable pub releaser : Table → ℕ → ℕ → Bool
releaser t s x = holder t s x and releases (t.row x)

unfoldable pub acquirer : Table → ℕ → ℕ → Bool
acquirer t s x = holder t s x and acquires (t.row x)

-- row x is a node for s: of those two, or an end of a dependency (`ends`; without dependencies, `λ x. false`)
unfoldable pub node : Table → (ℕ → Bool) → ℕ → ℕ → Bool
node t ends s x = releaser t s x or acquirer t s x or ends x

-- moment m is a node's own
unfoldable pub node_moment : Table → (ℕ → Bool) → ℕ → ℕ → Bool
node_moment t ends s m = eqb (part m) AT and node t ends s (row_in m)

-- a direct case from the node x to the moment m
unfoldable pub node_hop : Table → (ℕ → Bool) → ℕ → ℕ → ℕ → Bool
node_hop t ends s x m = node t ends s x and step t s (itself x) m

-- row j passes, and m is program-ordered before it
unfoldable pub passes_behind : Table → (ℕ → Bool) → ℕ → ℕ → Bool
passes_behind t p m j = p j and program_order t m (itself j)

-- the first row that passes behind m; as many as there are rows where none does
unfoldable pub first_behind : Table → (ℕ → Bool) → ℕ → ℕ
first_behind t p m = least t.rows (passes_behind t p m)

unfoldable pub first_release : Table → ℕ → ℕ → ℕ
first_release t s m = first_behind t (releaser t s) m

-- what the moment m, no node's own, leads to, where `got` says it of rows: the first release row behind it and what that leads to
unfoldable pub from_source : Table → ℕ → (ℕ → ℕ → Bool) → ℕ → ℕ → Bool
from_source t s got m k =
    concerns t s m and ltb (first_release t s m) t.rows and (eqb (itself (first_release t s m)) k or got (first_release t s m) k)

-- a way from row x to the moment m by way of nodes
pub data Way (t : Table) (ends : ℕ → Bool) (s m : ℕ) : ℕ → Type 0 where
  last : {x : ℕ} → step t s (itself x) m ≡ true → Way t ends s m x
  next : {x y : ℕ} → step t s (itself x) (itself y) ≡ true → y < t.rows → node t ends s y ≡ true → Way t ends s m y → Way t ends s m x

-- ---- laws: numbers

at_row : (n c : ℕ) → c < n → column_at n c ≡ itself c
unfolding column_at
at_row n c l = rw (lt-ltb c n l) refl

at_moment : (n m : ℕ) → column_at n (n + m) ≡ m
unfolding column_at
at_moment n m =
    let e : n + m - n ≡ m = omega arith in
    rw (le-ltb (n + m) n (omega arith)) e

own : (m : ℕ) → part m ≡ AT → itself (row_in m) ≡ m
own m e = omega arith

-- ---- laws: the first of them

-- what it is, where some row j passes; and j is the first or comes behind it
pub first_of : (t : Table) (p : ℕ → Bool) (m j : ℕ) → j < t.rows → p j ≡ true → program_order t m (itself j) ≡ true
    → (first_behind t p m < t.rows) × (p (first_behind t p m) ≡ true) × (program_order t m (itself (first_behind t p m)) ≡ true)
    × ((first_behind t p m ≡ j) ⊎ (program_order t (itself (first_behind t p m)) (itself j) ≡ true))
unfolding first_behind passes_behind
first_of t p m j l e f =
    let low = least_low (λ j. p j and program_order t m (itself j)) t.rows j (and_true e f) in
    let here : least t.rows (λ j. p j and program_order t m (itself j)) < t.rows = omega (arith, low) in
    let a = split ((least_is (λ j. p j and program_order t m (itself j)) t.rows).hit here) in
    (here, a.0, a.1, go _ low a.1 (ℕ_discrete _ j))
  where
    go : (r : ℕ) → r ≤ j → program_order t m (itself r) ≡ true → Dec (r ≡ j) → (r ≡ j) ⊎ (program_order t (itself r) (itself j) ≡ true)
    go r low b (yes d) = inl d
    go r low b (no d) = inr (order_both t m (itself r) (itself j) b f (omega arith))

-- it passes, if there is one
pub first_is : (t : Table) (p : ℕ → Bool) (m : ℕ) → first_behind t p m < t.rows
    → (p (first_behind t p m) ≡ true) × (program_order t m (itself (first_behind t p m)) ≡ true)
unfolding first_behind passes_behind
first_is t p m l = split ((least_is (λ j. p j and program_order t m (itself j)) t.rows).hit l)

-- ---- laws: a class set

module _ (t : Table) (s : ℕ) where
  pub step_release : (i j : ℕ) → to_release t s i j ≡ true → step t s i j ≡ true
  step_release i j e = rw (step_cases t s i j) (or_left _ (or_left _ (or_right _ e)))

  pub step_acquire : (i j : ℕ) → from_acquire t s i j ≡ true → step t s i j ≡ true
  step_acquire i j e = rw (step_cases t s i j) (or_left _ (or_right _ e))

  pub step_system : (i j : ℕ) → by_system t i j ≡ true → step t s i j ≡ true
  step_system i j e = rw (step_cases t s i j) (or_right _ e)

  -- ---- inter-thread order

  pub inter_one : (m k : ℕ) → step t s m k ≡ true → inter_thread t s m k ≡ true
  unfolding inter_thread
  inter_one m k e = (through_reach (step t s) (3 * t.rows) m k).1 (one e)

  pub inter_more : (m a k : ℕ) → step t s m a ≡ true → a < 3 * t.rows → inter_thread t s a k ≡ true → inter_thread t s m k ≡ true
  unfolding inter_thread
  inter_more m a k e l q =
      (through_reach (step t s) (3 * t.rows) m k).1 (more e l ((through_reach (step t s) (3 * t.rows) a k).0 q))

  pub inter_trans : (m a k : ℕ) → a < 3 * t.rows → inter_thread t s m a ≡ true → inter_thread t s a k ≡ true → inter_thread t s m k ≡ true
  unfolding inter_thread
  inter_trans m a k l p q =
      (through_reach (step t s) (3 * t.rows) m k).1
      (reach_trans (step t s) (3 * t.rows) m a k l ((through_reach (step t s) (3 * t.rows) m a).0 p) ((through_reach (step t s) (3 * t.rows) a k).0 q))

  -- its first step
  pub inter_out : (m k : ℕ) → inter_thread t s m k ≡ true
      → (step t s m k ≡ true) ⊎ ((a : ℕ) × (a < 3 * t.rows) × (step t s m a ≡ true) × (inter_thread t s a k ≡ true))
  unfolding inter_thread
  inter_out m k e = go ((through_reach (step t s) (3 * t.rows) m k).0 e)
    where
      go : Reach (step t s) (3 * t.rows) m k
          → (step t s m k ≡ true) ⊎ ((a : ℕ) × (a < 3 * t.rows) × (step t s m a ≡ true) × (through (step t s) (3 * t.rows) a k ≡ true))
      go (one f) = inl f
      go (more {m = a} f l q) = inr (a, l, f, (through_reach (step t s) (3 * t.rows) a k).1 q)

  -- ---- release and acquire rows

  holding_row : (m : ℕ) → holding t s m ≡ true → holder t s (row_in m) ≡ true
  unfolding holder
  holding_row m e = rw (own m (holding_own t s m e)) e

  -- the cases between rows
  pub to_releaser : (m j : ℕ) → concerns t s m ≡ true → releaser t s j ≡ true → program_order t m (itself j) ≡ true → step t s m (itself j) ≡ true
  unfolding to_release releaser holder
  to_releaser m j c r o =
      let a = split r in
      step_release m (itself j) (and_true (and_true (and_true a.0 (rw (own_row j) a.1)) c) o)

  pub releaser_concerns : (x : ℕ) → releaser t s x ≡ true → concerns t s (itself x) ≡ true
  unfolding releaser holder
  releaser_concerns x e = holding_concerns t s (itself x) (split e).0

  -- THE FIRST RELEASE FACT: of the release rows behind m the first leads to all others
  pub release_first : (m j : ℕ) → j < t.rows → releaser t s j ≡ true → program_order t m (itself j) ≡ true
      → (first_release t s m < t.rows) × (releaser t s (first_release t s m) ≡ true) × (program_order t m (itself (first_release t s m)) ≡ true)
      × ((first_release t s m ≡ j) ⊎ (step t s (itself (first_release t s m)) (itself j) ≡ true))
  unfolding first_release
  release_first m j l e f =
      let a = first_of t (releaser t s) m j l e f in
      (a.0, a.1, a.2, ⊎_elim (λ d. inl d) (λ o. inr (to_releaser _ j (releaser_concerns _ a.1) e o)) a.3)

  pub first_release_is : (m : ℕ) → first_release t s m < t.rows
      → (releaser t s (first_release t s m) ≡ true) × (program_order t m (itself (first_release t s m)) ≡ true)
  unfolding first_release
  first_release_is m l = first_is t (releaser t s) m l

  -- ---- nodes

  module _ (ends : ℕ → Bool) (told : (a b : ℕ) → t.depends a b ≡ true → (ends a ≡ true) × (ends b ≡ true)) where
    release_node : (m : ℕ) → holding t s m ≡ true → releases (t.row (row_in m)) ≡ true → node_moment t ends s m ≡ true
    unfolding node_moment node releaser
    release_node m e f = and_true (eq-eqb (m % 3) 1 (holding_own t s m e)) (or_left _ (or_left _ (and_true (holding_row m e) f)))

    acquire_node : (m : ℕ) → holding t s m ≡ true → acquires (t.row (row_in m)) ≡ true → node_moment t ends s m ≡ true
    unfolding node_moment node acquirer
    acquire_node m e f = and_true (eq-eqb (m % 3) 1 (holding_own t s m e)) (or_left _ (or_right _ (and_true (holding_row m e) f)))

    ends_node : (m : ℕ) → eqb (part m) AT ≡ true → ends (row_in m) ≡ true → node_moment t ends s m ≡ true
    unfolding node_moment node
    ends_node m e f = and_true e (or_right _ f)

    -- from a moment that is no node's own: case 2 alone
    pub out_release : (m j : ℕ) → node_moment t ends s m ≡ false → step t s m j ≡ true → to_release t s m j ≡ true
    unfolding by_sync from_acquire by_system synchronizes
    out_release m j off e = go (step_out t s m j e)
      where
        go : (by_sync t s m j ≡ true) ⊎ ((to_release t s m j ≡ true) ⊎ ((from_acquire t s m j ≡ true) ⊎ (by_system t m j ≡ true)))
            → to_release t s m j ≡ true
        go (inl a) = not_both (release_node m (split (split a).0).0 (split (split (split a).1).0).0) off
        go (inr (inl a)) = a
        go (inr (inr (inl a))) = let b = split (split (split a).0).0 in not_both (acquire_node m b.0 b.1) off
        go (inr (inr (inr a))) = not_both (ends_node m (split (split a).0).0 (told (row_in m) (row_in j) (split a).1).0) off

    -- to it: case 3 alone
    pub into_acquire : (i m : ℕ) → node_moment t ends s m ≡ false → step t s i m ≡ true → from_acquire t s i m ≡ true
    unfolding by_sync to_release by_system synchronizes
    into_acquire i m off e = go (step_out t s i m e)
      where
        go : (by_sync t s i m ≡ true) ⊎ ((to_release t s i m ≡ true) ⊎ ((from_acquire t s i m ≡ true) ⊎ (by_system t i m ≡ true)))
            → from_acquire t s i m ≡ true
        go (inl a) = not_both (acquire_node m (split (split a).0).1 (split (split (split a).1).0).1) off
        go (inr (inl a)) = let b = split (split (split a).0).0 in not_both (release_node m b.0 b.1) off
        go (inr (inr (inl a))) = a
        go (inr (inr (inr a))) = not_both (ends_node m (split (split a).0).1 (told (row_in i) (row_in m) (split a).1).1) off

    -- so it can be left out
    around : (i m j : ℕ) → node_moment t ends s m ≡ false → step t s i m ≡ true → step t s m j ≡ true → step t s i j ≡ true
    unfolding from_acquire to_release
    around i m j off e f =
        let a = split (into_acquire i m off e) in
        let b = split (out_release m j off f) in
        let c = split a.0 in
        let g = split (split b.0).0 in
        step_acquire i j (and_true (and_true c.0 (holding_concerns t s j g.0)) (order_trans t i m j a.1 b.1))

    node_row : (m : ℕ) → m < 3 * t.rows → node_moment t ends s m ≡ true
        → (x : ℕ) × (x < t.rows) × (node t ends s x ≡ true) × (column_at t.rows x ≡ m)
    unfolding node_moment
    node_row m l h =
        let q = split h in
        let o : itself (row_in m) ≡ m = own m (eqb-true (m % 3) 1 q.0) in
        (row_in m, omega arith, q.1, at_row t.rows (row_in m) (omega arith) ∙ o)

    nodes : Hubs (step t s) (3 * t.rows) (node t ends s) (column_at t.rows) t.rows
    nodes =
        record {
          inside = λ x l. rw (at_row t.rows x l) (omega arith);
          skip = λ i m j l e f. ⊎_elim (λ h. inr (node_row m l h)) (λ h. inl (around i m j h e f)) (which (node_moment t ends s m));
        }

    hop_is : (x c : ℕ) → x < t.rows → hop (step t s) (node t ends s) (column_at t.rows) x c ≡ node_hop t ends s x (column_at t.rows c)
    unfolding hop node_hop
    hop_is x c l = ap (λ (m : ℕ). node t ends s x and step t s m (column_at t.rows c)) (at_row t.rows x l)

    closed_is : (x m : ℕ) → x < t.rows
        → through (hop (step t s) (node t ends s) (column_at t.rows)) t.rows x (t.rows + m) ≡ through_own (node_hop t ends s) itself t.rows x m
    closed_is x m l =
        through_own_lem (hop (step t s) (node t ends s) (column_at t.rows)) (node_hop t ends s) itself (column_at t.rows) t.rows
        (λ k. at_row t.rows k) hop_is t.rows x (t.rows + m) (omega arith) l
        ∙ ap (λ (k : ℕ). through_own (node_hop t ends s) itself t.rows x k) (at_moment t.rows m)

    hops_is : (x m : ℕ) → x < t.rows
        → through (hop (step t s) (node t ends s) (column_at t.rows)) t.rows x (t.rows + m) ≡ (node t ends s x and inter_thread t s (itself x) m)
    unfolding inter_thread
    hops_is x m l =
        through_hops (step t s) (3 * t.rows) (node t ends s) (column_at t.rows) t.rows nodes x (t.rows + m)
        ∙ ap (λ (k : ℕ). node t ends s x and through (step t s) (3 * t.rows) k (column_at t.rows (t.rows + m))) (at_row t.rows x l)
        ∙ ap (λ (k : ℕ). node t ends s x and through (step t s) (3 * t.rows) (itself x) k) (at_moment t.rows m)

    -- THE NODES FACT: from a node, inter-thread order is the closure over nodes, to any moment
    pub inter_node : (x m : ℕ) → x < t.rows → through_own (node_hop t ends s) itself t.rows x m ≡ (node t ends s x and inter_thread t s (itself x) m)
    inter_node x m l = sym (closed_is x m l) ∙ hops_is x m l

    -- all of its steps but the last lead to nodes
    pub node_way : (x m : ℕ) → x < t.rows → node t ends s x ≡ true → inter_thread t s (itself x) m ≡ true → Way t ends s m x
    unfolding hop
    node_way x m l e f =
        go x l ((through_reach (hop (step t s) (node t ends s) (column_at t.rows)) t.rows x (t.rows + m)).0 (rw (hops_is x m l) (and_true e f)))
      where
        first : (y : ℕ) → y < t.rows → Reach (hop (step t s) (node t ends s) (column_at t.rows)) t.rows y (t.rows + m) → node t ends s y ≡ true
        first y o (one g) = (split g).0
        first y o (more {m = a} g h q) = (split g).0

        go : (y : ℕ) → y < t.rows → Reach (hop (step t s) (node t ends s) (column_at t.rows)) t.rows y (t.rows + m) → Way t ends s m y
        go y o (one g) = last {x = y} (rw (← at_row t.rows y o, ← at_moment t.rows m) (split g).1)
        go y o (more {m = a} g h q) = next {x = y} {y = a} (rw (← at_row t.rows y o, ← at_row t.rows a h) (split g).1) h (first a h q) (go a h q)

    inter_way : (m : ℕ) {x : ℕ} → Way t ends s m x → inter_thread t s (itself x) m ≡ true
    inter_way m {x} (last e) = inter_one (itself x) m e
    inter_way m {x} (next {y = y} e l n q) = inter_more (itself x) (itself y) m e (omega arith) (inter_way m q)

    pub way_inter : {x : ℕ} (m : ℕ) → Way t ends s m x → inter_thread t s (itself x) m ≡ true
    way_inter m = inter_way m

    -- ---- from any other moment

    release_parts : (m j : ℕ) → to_release t s m j ≡ true
        → (concerns t s m ≡ true) × (releaser t s (row_in j) ≡ true) × (itself (row_in j) ≡ j) × (row_in j < t.rows) × (program_order t m j ≡ true)
    unfolding to_release releaser
    release_parts m j e =
        let a = split e in
        let b = split a.0 in
        let c = split b.0 in
        let l = (order_ends t m j a.1).1 in
        (b.1, and_true (holding_row j c.0) c.1, own j (holding_own t s j c.0), omega arith, a.1)

    -- THE SOURCES FACT: what a moment that is no node's own leads to
    pub inter_source : (m k : ℕ) → node_moment t ends s m ≡ false
        → inter_thread t s m k ≡ from_source t s (λ x j. inter_thread t s (itself x) j) m k
    unfolding from_source
    inter_source m k off = bool_ext _ _ (λ e. forth (inter_out m k e)) back
      where
        r : ℕ
        r = first_release t s m

        to : (j : ℕ) → step t s m j ≡ true → (concerns t s m ≡ true) × (r < t.rows) × ((itself r ≡ j) ⊎ (step t s (itself r) j ≡ true))
        to j e =
            let a = release_parts m j (out_release m j off e) in
            let b = release_first m (row_in j) a.3 a.1 (rw a.2 a.4) in
            (a.0, b.0, ⊎_elim (λ d. inl (rw d a.2)) (λ d. inr (subst (λ (i : ℕ). step t s (itself r) i ≡ true) a.2 d)) b.3)

        whole : (concerns t s m ≡ true) × (r < t.rows) → (eqb (itself r) k or inter_thread t s (itself r) k) ≡ true
            → (concerns t s m and ltb r t.rows and (eqb (itself r) k or inter_thread t s (itself r) k)) ≡ true
        whole a b = and_true (and_true a.0 (lt-ltb r t.rows a.1)) b

        forth : (step t s m k ≡ true) ⊎ ((a : ℕ) × (a < 3 * t.rows) × (step t s m a ≡ true) × (inter_thread t s a k ≡ true))
            → (concerns t s m and ltb r t.rows and (eqb (itself r) k or inter_thread t s (itself r) k)) ≡ true
        forth (inl e) =
            let b = to k e in
            whole (b.0, b.1) (⊎_elim (λ d. or_left _ (eq-eqb (itself r) k d)) (λ d. or_right _ (inter_one (itself r) k d)) b.2)
        forth (inr (a, l, e, q)) =
            let b = to a e in
            whole (b.0, b.1)
            (⊎_elim (λ d. or_right _ (subst (λ (i : ℕ). inter_thread t s i k ≡ true) (sym d) q)) (λ d. or_right _ (inter_more (itself r) a k d l q)) b.2)

        back : (concerns t s m and ltb r t.rows and (eqb (itself r) k or inter_thread t s (itself r) k)) ≡ true → inter_thread t s m k ≡ true
        back e = final (split e)
          where
            final : ((concerns t s m and ltb r t.rows) ≡ true) × ((eqb (itself r) k or inter_thread t s (itself r) k) ≡ true) → inter_thread t s m k ≡ true
            final (p, q) = go (split p).0 (ltb-true r t.rows (split p).1) (or_cases _ _ q)
              where
                go : concerns t s m ≡ true → r < t.rows → (eqb (itself r) k ≡ true) ⊎ (inter_thread t s (itself r) k ≡ true) → inter_thread t s m k ≡ true
                go c l d =
                    let a = first_release_is m l in
                    let f = to_releaser m r c a.0 a.1 in
                    ⊎_elim (λ g. inter_one m k (subst (λ (i : ℕ). step t s m i ≡ true) (eqb-true (itself r) k g) f)) (λ g. inter_more m (itself r) k f (omega arith) g) d
