-- Laws of pairs of rows: what is symmetric, and what it means that no pair races. Assumes nothing.
use Rattle.std.specs.Prelude.{◌≡◌, refl, Bool, true, false, cond, List, [], ◌⊎◌, ◌↔◌, ℕ, ◌+◌, ◌-◌, ◌≤◌, ◌<◌, ltb, eqb, get_or}
use Rattle.std.proofs.Common.{sym, ap, ◌∙◌, subst, inl, inr, ⊎_elim, arith, eqb-true, eq-eqb, ne_eqb, ltb-true, lt-ltb, leb-true, le-leb}
use Rattle.std.proofs.Math.Bool.{not}
use Rattle.std.proofs.Math.Decide.{dec_lt}
use Rattle.finite.specs.Logic.{◌and◌, split, and_true, or_left, or_right, which, not_both, not_in, bool_ext}
use Rattle.finite.specs.Below.{least, least_is, least_low}
use Rattle.model.specs.declared.Row.{Row}
use Rattle.std.specs.declared.option.Option.TheVariants.{None, Some}
use Rattle.model.specs.Row.{access, writes, inside, touches, lowest_shared, is_shared, overlap}
use Rattle.model.specs.Table.{Table}
use Rattle.model.specs.Scope.{shader, agree, one_instance, shares, together, same_location, mutual_rows, mutually}
use Rattle.model.specs.Location.{common, before}
use Rattle.model.specs.Race.{clash, conflict}
use Rattle.model.specs.Words.{Races}

-- ---- bytes

pub inside_in : (a m b : ℕ) → a ≤ b → b < a + m → inside a m b ≡ true
unfolding inside
inside_in a m b p q = and_true (le-leb a b p) (lt-ltb b (a + m) q)

pub inside_out : (a m b : ℕ) → inside a m b ≡ true → (a ≤ b) × (b < a + m)
unfolding inside
inside_out a m b e = (leb-true a b (split e).0, ltb-true b (a + m) (split e).1)

some_shared : (b : Bool) (c : ℕ) → b ≡ true → is_shared (cond b (Some c) None) ≡ true
unfolding is_shared
some_shared true c e = refl
some_shared false c e = e

none_shared : (b : Bool) (c : ℕ) → b ≡ false → is_shared (cond b (Some c) None) ≡ false
unfolding is_shared
none_shared true c e = e
none_shared false c e = refl

-- two rows overlap exactly when some byte is one of both
pub overlap_is : (r q : Row) → (overlap r q ≡ true) ↔ ((b : ℕ) × (touches r b ≡ true) × (touches q b ≡ true))
unfolding overlap lowest_shared touches
overlap_is r q = (λ e. forth e (which (ltb k m)), back)
  where
    a : ℕ
    a = r.start

    m : ℕ
    m = r.size

    p : ℕ → Bool
    p i = inside q.start q.size (a + i)

    k : ℕ
    k = least m p

    forth : is_shared (cond (ltb k m) (Some (a + k)) None) ≡ true → (ltb k m ≡ true) ⊎ (ltb k m ≡ false)
        → (b : ℕ) × (inside a m b ≡ true) × (inside q.start q.size b ≡ true)
    forth e (inl t) =
        let l = ltb-true k m t in
        (a + k, inside_in a m (a + k) (omega arith) (omega arith), (least_is p m).hit l)
    forth e (inr f) = not_both e (none_shared (ltb k m) (a + k) f)

    back : ((b : ℕ) × (inside a m b ≡ true) × (inside q.start q.size b ≡ true)) → is_shared (cond (ltb k m) (Some (a + k)) None) ≡ true
    back w =
        let x = inside_out a m w.0 w.1 in
        let lo = x.0 in
        let hi = x.1 in
        let e : a + (w.0 - a) ≡ w.0 = omega arith in
        let l = least_low p m (w.0 - a) (subst (λ (z : ℕ). inside q.start q.size z ≡ true) (sym e) w.2) in
        some_shared (ltb k m) (a + k) (lt-ltb k m (omega arith))

pub common_in : (r q : Row) (b : ℕ) → access r ≡ true → access q ≡ true → touches r b ≡ true → touches q b ≡ true → common r q b ≡ true
unfolding common
common_in r q b x y z w = and_true (and_true (and_true x y) z) w

pub common_out : (r q : Row) (b : ℕ) → common r q b ≡ true → (access r ≡ true) × (access q ≡ true) × (touches r b ≡ true) × (touches q b ≡ true)
unfolding common
common_out r q b e = ((split (split (split e).0).0).0, (split (split (split e).0).0).1, (split (split e).0).1, (split e).1)

pub common_sym : (r q : Row) (b : ℕ) → common r q b ≡ true → common q r b ≡ true
common_sym r q b e = let c = common_out r q b e in common_in q r b c.1 c.0 c.3 c.2

-- ---- mutual order is symmetric

pub eqb_swap : (a b : ℕ) → eqb a b ≡ eqb b a
eqb_swap a b = bool_ext (eqb a b) (eqb b a) (λ e. eq-eqb b a (sym (eqb-true a b e))) (λ e. eq-eqb a b (sym (eqb-true b a e)))

agree_sym : (p : List (List ℕ)) (k a b : ℕ) → agree p k a b ≡ agree p k b a
unfolding agree
agree_sym p k a b = eqb_swap (get_or (get_or p a []) k 0) (get_or (get_or p b []) k 0)

instance_sym : (p : List (List ℕ)) (scope a b : ℕ) → one_instance p scope a b ≡ one_instance p scope b a
unfolding one_instance
instance_sym p scope a b = rw (agree_sym p 0 a b, agree_sym p 1 a b, agree_sym p 2 a b, eqb_swap a b) refl

shares_sym : (p : List (List ℕ)) (scope a b : ℕ) → shares p scope a b ≡ shares p scope b a
unfolding shares
shares_sym p scope a b = rw (instance_sym p scope a b) (and_swap (shader p a) (shader p b) (one_instance p scope b a))
  where
    and_swap : (x y z : Bool) → (x and y and z) ≡ (y and x and z)
    and_swap x y z = bool_ext (x and y and z) (y and x and z)
        (λ e. and_true (and_true (split (split e).0).1 (split (split e).0).0) (split e).1)
        (λ e. and_true (and_true (split (split e).0).1 (split (split e).0).0) (split e).1)

together_sym : (p : List (List ℕ)) (r q : Row) → together p r q ≡ true → together p q r ≡ true
unfolding together
together_sym p r q e = and_true (sym (shares_sym p q.scope r.agent q.agent) ∙ (split e).1)
    (sym (shares_sym p r.scope r.agent q.agent) ∙ (split e).0)

location_sym : (r q : Row) → same_location r q ≡ same_location q r
unfolding same_location
location_sym r q = rw (eqb_swap r.start q.start, eqb_swap r.size q.size, eqb_swap r.reference q.reference) refl

pub mutual_sym : (p : List (List ℕ)) (r q : Row) → mutual_rows p r q ≡ true → mutual_rows p q r ≡ true
unfolding mutual_rows
mutual_sym p r q e =
    let a = split e in
    let b = split a.0 in
    let c = split b.0 in
    and_true (and_true (and_true c.1 c.0) (sym (location_sym r q) ∙ b.1)) (together_sym p r q a.1)

module _ (t : Table) where
  pub mutually_sym : (x y : ℕ) → mutually t x y ≡ true → mutually t y x ≡ true
  unfolding mutually
  mutually_sym x y e = and_true (sym (ap not (eqb_swap x y)) ∙ (split e).0) (mutual_sym t.places (t.row x) (t.row y) (split e).1)

  mutually_not : (x y : ℕ) → mutually t x y ≡ false → mutually t y x ≡ false
  mutually_not x y f = ⊎_elim (λ e. not_both (mutually_sym y x e) f) (λ n. n) (which (mutually t y x))

  -- ---- conflicts

  pub conflict_in : (x y b : ℕ) → (x ≡ y → ⊥) → common (t.row x) (t.row y) b ≡ true → (writes (t.row x) ≡ true) ⊎ (writes (t.row y) ≡ true)
      → conflict t x y ≡ true
  unfolding conflict clash
  conflict_in x y b n c w =
      let d = common_out (t.row x) (t.row y) b c in
      and_true (not_in (ne_eqb x y n))
      (and_true (and_true (and_true d.0 d.1) (⊎_elim (λ e. or_left _ e) (λ e. or_right (writes (t.row x)) e) w))
      ((overlap_is (t.row x) (t.row y)).1 (b, d.2, d.3)))

  -- where no pair races, two rows of which one writes are mutually-ordered or ordered at each byte that they share
  pub either_way : ((x y : ℕ) → x < y → y < t.rows → Races t x y → ⊥) → (x y b : ℕ) → x < t.rows → y < t.rows → (x ≡ y → ⊥)
      → common (t.row x) (t.row y) b ≡ true → (writes (t.row x) ≡ true) ⊎ (writes (t.row y) ≡ true) → mutually t x y ≡ false
      → (before t x y b ≡ true) ⊎ (before t y x b ≡ true)
  either_way free x y b below_x below_y apart shared one_writes not_mutual =
      ⊎_elim (λ e. inl e) (λ e. ⊎_elim (λ g. inr g) (λ g. absurd (go e g (dec_lt x y))) (which (before t y x b))) (which (before t x y b))
    where
      go : before t x y b ≡ false → before t y x b ≡ false → Dec (x < y) → ⊥
      go e g (yes k) = free x y k below_y (conflict_in x y b apart shared one_writes, not_mutual, (b, (shared, e, g)))
      go e g (no k) =
          free y x (omega arith) below_x (
            conflict_in y x b (λ q. apart (sym q)) (common_sym (t.row x) (t.row y) b shared) (⊎_elim (λ h. inr h) (λ h. inl h) one_writes),
            mutually_not x y not_mutual,
            (b, (common_sym (t.row x) (t.row y) b shared, g, e)),
          )
