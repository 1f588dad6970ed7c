-- L1 to L5 of two tables that are alike: each rule, once. Assumes nothing.
use Rattle.std.specs.Prelude.{◌≡◌, Bool, ℕ, suc, ◌+◌, ◌*◌}
use Rattle.std.proofs.Math.Path.{refl, sym}
use Rattle.std.proofs.Common.{ap₂, ◌∙◌, arith}
use Rattle.std.proofs.Math.Bool.{true, false, cond}
use Rattle.finite.specs.Below.{any_cong}
use Rattle.model.specs.Row.{plain}
use Rattle.model.specs.Table.{Table}
use Rattle.model.specs.Scope.{DEVICE}
use Rattle.model.specs.Moment.{BEFORE, AFTER, itself, same_agent}
use Rattle.model.specs.Happens.{happens}
use Rattle.model.specs.Location.{L1, L2}
use Rattle.model.specs.Availability.{availability_moment, visibility_moment, first_available, last_visible, broader, broadens, narrows, availability_chain}
use Rattle.model.specs.Availability.{visibility_chain, available_by, ends_availability, visible_by, begins_visibility, in_domain, meets_via, meets_in, available_via}
use Rattle.model.specs.Location.{system_before, L4, thence, on_host, available_kind, visible_kind, domain_kind, seen_by, met_from, carried_by}
use Rattle.model.specs.Availability.{by_domain, L3}
use Rattle.model.specs.Location.{reaches_by, L5, before}
use Rattle.model_page_order.specs.Renumber.{Renumbering, moment_at, moment_part, eqb_to}
use Rattle.model_page_order.specs.Alike.{Alike, mo, some_row, row_path}
use Rattle.model_page_order.specs.OrderAlike.{availability_alike, visibility_alike, order_alike, happens_alike}

module _ {t u : Table} {π : Renumbering t.rows} (M : Alike t u π) where
  at : (x : ℕ) → itself (π.to x) ≡ mo M (itself x)
  at x = sym (moment_at π.to x)

  itself_alike : (x y : ℕ) → happens u (itself (π.to x)) (itself (π.to y)) ≡ happens t (itself x) (itself y)
  itself_alike x y = ap₂ (happens u) (at x) (at y) ∙ happens_alike M (itself x) (itself y)

  L1_alike : (x y : ℕ) → L1 u (π.to x) (π.to y) ≡ L1 t x y
  unfolding L1 same_agent
  L1_alike x y = rw (M.row x, M.row y, itself_alike x y) refl

  L2_alike : (x y : ℕ) → L2 u (π.to x) (π.to y) ≡ L2 t x y
  unfolding L2
  L2_alike x y = rw (M.row x, M.row y, itself_alike x y) refl

  -- ---- L3: the elements of chains

  available_at : (i : ℕ) → availability_moment u (π.to i) ≡ mo M (availability_moment t i)
  unfolding availability_moment
  available_at i = rw (M.row i) (go (plain (t.row i)))
    where
      go : (c : Bool) → 3 * π.to i + cond c AFTER BEFORE ≡ mo M (3 * i + cond c AFTER BEFORE)
      go true = sym (moment_part π.to i AFTER (omega arith))
      go false = sym (moment_part π.to i BEFORE (omega arith))

  visible_at : (i : ℕ) → visibility_moment u (π.to i) ≡ mo M (visibility_moment t i)
  unfolding visibility_moment
  visible_at i = rw (M.row i) (go (plain (t.row i)))
    where
      go : (c : Bool) → 3 * π.to i + cond c BEFORE AFTER ≡ mo M (3 * i + cond c BEFORE AFTER)
      go true = sym (moment_part π.to i BEFORE (omega arith))
      go false = sym (moment_part π.to i AFTER (omega arith))

  first_alike : (x b a : ℕ) → first_available u (π.to x) b (π.to a) ≡ first_available t x b a
  unfolding first_available
  first_alike x b a =
      rw (available_at a, at x, availability_alike M (availability_moment t a), order_alike M (itself x) (availability_moment t a), M.row a, M.row x) refl

  last_alike : (y b v : ℕ) → last_visible u (π.to y) b (π.to v) ≡ last_visible t y b v
  unfolding last_visible
  last_alike y b v = rw (visible_at v, at y, visibility_alike M (visibility_moment t v), order_alike M (visibility_moment t v) (itself y), M.row v, M.row y) refl

  broader_alike : (i j : ℕ) → broader u (π.to i) (π.to j) ≡ broader t i j
  unfolding broader
  broader_alike i j = rw (M.row i, M.row j, M.places) refl

  broadens_alike : (a c : ℕ) → broadens u (π.to a) (π.to c) ≡ broadens t a c
  unfolding broadens
  broadens_alike a c =
      rw (available_at a, available_at c, availability_alike M (availability_moment t c), happens_alike M (availability_moment t a) (availability_moment t c), broader_alike a c) refl

  narrows_alike : (w v : ℕ) → narrows u (π.to w) (π.to v) ≡ narrows t w v
  unfolding narrows
  narrows_alike w v =
      rw (visible_at w, visible_at v, visibility_alike M (visibility_moment t w), happens_alike M (visibility_moment t w) (visibility_moment t v), broader_alike v w) refl

  -- ---- L3: chains

  available_chain_alike : (a c : ℕ) → availability_chain u (π.to a) (π.to c) ≡ availability_chain t a c
  unfolding availability_chain
  available_chain_alike a c = rw (eqb_to π a c, row_path M (broadens t) (broadens u) broadens_alike a c, M.chains) refl

  visible_chain_alike : (w v : ℕ) → visibility_chain u (π.to w) (π.to v) ≡ visibility_chain t w v
  unfolding visibility_chain
  visible_chain_alike w v = rw (eqb_to π w v, row_path M (narrows t) (narrows u) narrows_alike w v, M.chains) refl

  available_by_alike : (x b c a : ℕ) → available_by u (π.to x) b (π.to c) (π.to a) ≡ available_by t x b c a
  unfolding available_by
  available_by_alike x b c a = rw (first_alike x b a, available_chain_alike a c) refl

  from_alike : (x b c : ℕ) → ends_availability u (π.to x) b (π.to c) ≡ ends_availability t x b c
  unfolding ends_availability
  from_alike x b c = some_row M (available_by t x b c) (available_by u (π.to x) b (π.to c)) (available_by_alike x b c)

  visible_by_alike : (y b w v : ℕ) → visible_by u (π.to y) b (π.to w) (π.to v) ≡ visible_by t y b w v
  unfolding visible_by
  visible_by_alike y b w v = rw (last_alike y b v, visible_chain_alike w v) refl

  to_alike : (y b w : ℕ) → begins_visibility u (π.to y) b (π.to w) ≡ begins_visibility t y b w
  unfolding begins_visibility
  to_alike y b w = some_row M (visible_by t y b w) (visible_by u (π.to y) b (π.to w)) (visible_by_alike y b w)

  -- ---- L3: where they meet

  in_domain_alike : (d x i : ℕ) → in_domain u d (π.to x) (π.to i) ≡ in_domain t d x i
  unfolding in_domain
  in_domain_alike d x i = rw (M.row x, M.row i, M.places) refl

  shown_alike : (d y b c w : ℕ) → meets_via u d (π.to y) b (π.to c) (π.to w) ≡ meets_via t d y b c w
  unfolding meets_via
  shown_alike d y b c w = rw (in_domain_alike d y w, available_at c, visible_at w, happens_alike M (availability_moment t c) (visibility_moment t w), to_alike y b w) refl

  met_alike : (d y b c : ℕ) → meets_in u d (π.to y) b (π.to c) ≡ meets_in t d y b c
  unfolding meets_in
  met_alike d y b c =
      rw (
        M.row y,
        some_row M (meets_via t d y b c) (meets_via u d (π.to y) b (π.to c)) (shown_alike d y b c),
        available_at c,
        at y,
        happens_alike M (availability_moment t c) (itself y),
      ) refl

  by_domain_alike : (x y b c k : ℕ) → by_domain u (π.to x) (π.to y) b (π.to c) k ≡ by_domain t x y b c k
  unfolding by_domain
  by_domain_alike x y b c k = rw (M.row x, M.row y, in_domain_alike (suc k) x c, met_alike (suc k) y b c, M.places) refl

  carried_alike : (x y b c : ℕ) → available_via u (π.to x) (π.to y) b (π.to c) ≡ available_via t x y b c
  unfolding available_via
  carried_alike x y b c =
      rw (from_alike x b c, any_cong (by_domain u (π.to x) (π.to y) b (π.to c)) (by_domain t x y b c) DEVICE (λ k l. by_domain_alike x y b c k)) refl

  L3_alike : (x y b : ℕ) → L3 u (π.to x) (π.to y) b ≡ L3 t x y b
  unfolding L3
  L3_alike x y b = rw (M.row x, M.row y, some_row M (available_via t x y b) (available_via u (π.to x) (π.to y) b) (carried_alike x y b)) refl

  -- ---- L4

  system_before_alike : (x y : ℕ) → system_before u (π.to x) (π.to y) ≡ system_before t x y
  unfolding system_before
  system_before_alike x y = row_path M t.depends u.depends M.depends x y

  L4_alike : (x y : ℕ) → L4 u (π.to x) (π.to y) ≡ L4 t x y
  unfolding L4
  L4_alike x y = rw (M.row x, system_before_alike x y) refl

  -- ---- L5

  thence_alike : (kind x i : ℕ) → thence u kind (π.to x) (π.to i) ≡ thence t kind x i
  unfolding thence
  thence_alike kind x i = rw (M.row i, itself_alike x i) refl

  host_alike : (x : ℕ) → on_host u (π.to x) ≡ on_host t x
  unfolding on_host
  host_alike x = rw (M.row x, M.places) refl

  available_alike : (x : ℕ) → available_kind u (π.to x) ≡ available_kind t x
  unfolding available_kind
  available_alike x = rw (host_alike x) refl

  visible_alike : (y : ℕ) → visible_kind u (π.to y) ≡ visible_kind t y
  unfolding visible_kind
  visible_alike y = rw (host_alike y) refl

  domain_alike : (x : ℕ) → domain_kind u (π.to x) ≡ domain_kind t x
  unfolding domain_kind
  domain_alike x = rw (host_alike x) refl

  seen_alike : (y m i : ℕ) → seen_by u (π.to y) (π.to m) (π.to i) ≡ seen_by t y m i
  unfolding seen_by
  seen_alike y m i = rw (visible_alike y, thence_alike (visible_kind t y) m i, itself_alike i y) refl

  met_from_alike : (y m : ℕ) → met_from u (π.to y) (π.to m) ≡ met_from t y m
  unfolding met_from
  met_from_alike y m = rw (M.row y, some_row M (seen_by t y m) (seen_by u (π.to y) (π.to m)) (seen_alike y m), itself_alike m y) refl

  carried_by_alike : (x y a d : ℕ) → carried_by u (π.to x) (π.to y) (π.to a) (π.to d) ≡ carried_by t x y a d
  unfolding carried_by
  carried_by_alike x y a d = rw (domain_alike x, thence_alike (domain_kind t x) a d, met_from_alike y d) refl

  reaches_alike : (x y a : ℕ) → reaches_by u (π.to x) (π.to y) (π.to a) ≡ reaches_by t x y a
  unfolding reaches_by
  reaches_alike x y a =
      rw (
        available_alike x,
        thence_alike (available_kind t x) x a,
        host_alike x,
        host_alike y,
        met_from_alike y a,
        some_row M (carried_by t x y a) (carried_by u (π.to x) (π.to y) (π.to a)) (carried_by_alike x y a),
      )
      refl

  L5_alike : (x y : ℕ) → L5 u (π.to x) (π.to y) ≡ L5 t x y
  unfolding L5
  L5_alike x y = rw (M.row x, some_row M (reaches_by t x y) (reaches_by u (π.to x) (π.to y)) (reaches_alike x y)) refl

  pub before_alike : (x y b : ℕ) → before u (π.to x) (π.to y) b ≡ before t x y b
  unfolding before
  before_alike x y b = rw (eqb_to π x y, M.row x, M.row y, L1_alike x y, L2_alike x y, L3_alike x y b, L4_alike x y, L5_alike x y) refl
