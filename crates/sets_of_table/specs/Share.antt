-- From which scope on two agents share; and, for each agent and scope, the rows of agents that share it. Assumes nothing.
use Rattle.std.specs.Prelude.{◌≡◌, refl, Bool, true, false, not, List, [], ℕ, zero, suc, ◌+◌, ◌-◌, ◌*◌, ◌≤◌, ◌<◌, length, get_or, set, eqb, ltb, leb}
use Rattle.std.proofs.Math.Path.{sym}
use Rattle.std.proofs.Common.{ap, ap₂, subst, ◌∙◌, arith, add-one, get_or-set_same, get_or-set_other, eq-eqb, ne_eqb, eqb-true, ltb-true, lt-ltb, le-ltb, le-leb}
use Rattle.std.proofs.Math.Decide.{dec_lt, ℕ_discrete}
use Rattle.std.proofs.lemmas.Bool.{lt-leb}
use Rattle.finite.specs.Logic.{◌and◌, ◌or◌, bool_ext, not_both, and_true, split, or_off, and_false_left, and_false_right}
use Rattle.finite.specs.Below.{any_below, any_none, any_in, any_off, any_out, any_cong}
use Rattle.model.specs.declared.Row.{Row}
use Rattle.model.specs.Limits.{ROWS}
use Rattle.model.specs.Scope.{shares}
use Rattle.door_rows.specs.Places.{place_is}
use Rattle.door_rows.specs.Shares.{shares_alien, shares_device, shares_invocation, shares_apart, shares_family, shares_parted, shares_rest}
use Rattle.bits.specs.Bit.{zeros, zeros_in}
use Rattle.bits.specs.Within.{Within, within_refl, within_trans, within_widen, within_cleared}
use Rattle.sets_of_rows.specs.declared.Set.{Set}
use Rattle.sets_of_rows.specs.Member.{in_set, in_none}
use Rattle.sets_of_rows.specs.First.{none_in}
use Rattle.sets_of_rows.specs.Kept.{set_at, set_kept, Stored, joined}
use Rattle.sets_of_rows.specs.Family.{nth}
use Rattle.sets_of_table.specs.Filed.{AGENT}
use Rattle.sets_of_table.specs.Says.{Ground, says_agent}

-- ---- definitions

abbrev pub SCOPES : ℕ
SCOPES = 5

-- the sets of an agent, one for each scope, from this word on
abbrev pub SHARE : ℕ
SHARE = 224

abbrev pub SHARE_END : ℕ
SHARE_END = 544

-- agents a and b share scope l and those after it, and none before; l is SCOPES where they share none
pub record Level (p : List (List ℕ)) (a b l : ℕ) : Type 0 where
  pub bound : l ≤ SCOPES
  pub is : (q : ℕ) → q < SCOPES → shares p q a b ≡ leb l q

-- the same of agent a with each of the first m
pub record Levels (p : List (List ℕ)) (a m : ℕ) (l : List ℕ) : Type 0 where
  pub each : (b : ℕ) → b < m → Level p a b (get_or l b 0)

-- ---- laws: levels

pub levels_more : {p : List (List ℕ)} {a m : ℕ} {l : List ℕ} (v : ℕ) → m < length l → Levels p a m l → Level p a m v → Levels p a (m + 1) (set l m v)
levels_more {p} {a} {m} {l} v room h d = record { each = λ b o. go b o (ℕ_discrete b m) }
  where
    go : (b : ℕ) → b < m + 1 → Dec (b ≡ m) → Level p a b (get_or (set l m v) b 0)
    go b o (yes e) = subst (λ (k : ℕ). Level p a k (get_or (set l m v) k 0)) (sym e) (subst (λ (k : ℕ). Level p a m k) (sym (get_or-set_same l m v 0 room)) d)
    go b o (no e) = subst (λ (k : ℕ). Level p a b k) (sym (get_or-set_other l m b v 0 e)) (h.each b (omega (arith, o, e)))

pub level_alien : (p : List (List ℕ)) (a b : ℕ) → (not (eqb (get_or (get_or p b []) 3 0) 0) or not (eqb (get_or (get_or p a []) 3 0) 0)) ≡ true → Level p a b 5
level_alien p a b h =
    record { bound = omega arith; is = λ q l. sym (shares_alien p q a b (get_or p a []) (get_or p b []) (place_is p a) (place_is p b) h) ∙ sym (lt-leb 5 q l) }

module _ (p : List (List ℕ)) (a b : ℕ) (h : (not (eqb (get_or (get_or p b []) 3 0) 0) or not (eqb (get_or (get_or p a []) 3 0) 0)) ≡ false) where
  at_own : shares p 0 a b ≡ eqb a b
  at_own = sym (shares_invocation p 0 a b (get_or p a []) (get_or p b []) (place_is p a) (place_is p b) h refl)

  at_device : shares p 4 a b ≡ true
  at_device = sym (shares_device p 4 a b (get_or p a []) (get_or p b []) (place_is p a) (place_is p b) h refl)

  at_apart : (q : ℕ) → 0 < q → q < 4 → (get_or (get_or p a []) 0 0 ≡ get_or (get_or p b []) 0 0 → ⊥) → shares p q a b ≡ false
  at_apart q l m z = sym (shares_apart p q a b (get_or p a []) (get_or p b []) (place_is p a) (place_is p b) h (λ e. omega arith) (λ e. omega arith) z)

  at_family : get_or (get_or p a []) 0 0 ≡ get_or (get_or p b []) 0 0 → shares p 3 a b ≡ true
  at_family z = sym (shares_family p 3 a b (get_or p a []) (get_or p b []) (place_is p a) (place_is p b) h (λ e. omega arith) (λ e. omega arith) z refl)

  at_parted : (q : ℕ) → 0 < q → q < 3 → (get_or (get_or p a []) 1 0 ≡ get_or (get_or p b []) 1 0 → ⊥) → shares p q a b ≡ false
  at_parted q l m z =
      sym (shares_parted p q a b (get_or p a []) (get_or p b []) (place_is p a) (place_is p b) h (λ e. omega arith) (λ e. omega arith) (λ e. omega arith) z)

  at_group : get_or (get_or p a []) 0 0 ≡ get_or (get_or p b []) 0 0 → get_or (get_or p a []) 1 0 ≡ get_or (get_or p b []) 1 0 → shares p 2 a b ≡ true
  unfolding ◌or◌ ◌and◌
  at_group z o =
      sym (shares_rest p 2 a b (get_or p a []) (get_or p b []) (place_is p a) (place_is p b) h (λ e. omega arith) (λ e. omega arith) (λ e. omega arith) z o)

  at_sub : get_or (get_or p a []) 0 0 ≡ get_or (get_or p b []) 0 0 → get_or (get_or p a []) 1 0 ≡ get_or (get_or p b []) 1 0
      → shares p 1 a b ≡ eqb (get_or (get_or p a []) 2 0) (get_or (get_or p b []) 2 0)
  unfolding ◌or◌ ◌and◌
  at_sub z o =
      sym (shares_rest p 1 a b (get_or p a []) (get_or p b []) (place_is p a) (place_is p b) h (λ e. omega arith) (λ e. omega arith) (λ e. omega arith) z o)

  by_scope : (l : ℕ) → l ≤ SCOPES → shares p 0 a b ≡ leb l 0 → shares p 1 a b ≡ leb l 1 → shares p 2 a b ≡ leb l 2 → shares p 3 a b ≡ leb l 3
      → shares p 4 a b ≡ leb l 4 → Level p a b l
  by_scope l m s0 s1 s2 s3 s4 = record { bound = m; is = each }
    where
      each : (q : ℕ) → q < SCOPES → shares p q a b ≡ leb l q
      each zero o = s0
      each (suc zero) o = s1
      each (suc (suc zero)) o = s2
      each (suc (suc (suc zero))) o = s3
      each (suc (suc (suc (suc zero)))) o = s4
      each (suc (suc (suc (suc (suc q))))) o = absurd (omega arith)

  pub level_own : a ≡ b → Level p a b 0
  level_own e =
      let n : (k : ℕ) → get_or (get_or p a []) k 0 ≡ get_or (get_or p b []) k 0 = λ k. ap (λ (c : ℕ). get_or (get_or p c []) k 0) e in
      by_scope 0 (omega arith) (at_own ∙ eq-eqb a b e) (at_sub (n 0) (n 1) ∙ eq-eqb (get_or (get_or p a []) 2 0) (get_or (get_or p b []) 2 0) (n 2)) (at_group (n 0) (n 1)) (at_family (n 0)) at_device

  module _ (d : a ≡ b → ⊥) where
    pub level_device : (get_or (get_or p a []) 0 0 ≡ get_or (get_or p b []) 0 0 → ⊥) → Level p a b 4
    level_device z =
        by_scope 4 (omega arith) (at_own ∙ ne_eqb a b d) (at_apart 1 (omega arith) (omega arith) z) (at_apart 2 (omega arith) (omega arith) z)
        (at_apart 3 (omega arith) (omega arith) z) at_device

    module _ (z : get_or (get_or p a []) 0 0 ≡ get_or (get_or p b []) 0 0) where
      pub level_family : (get_or (get_or p a []) 1 0 ≡ get_or (get_or p b []) 1 0 → ⊥) → Level p a b 3
      level_family o =
          by_scope 3 (omega arith) (at_own ∙ ne_eqb a b d) (at_parted 1 (omega arith) (omega arith) o) (at_parted 2 (omega arith) (omega arith) o) (at_family z) at_device

      module _ (o : get_or (get_or p a []) 1 0 ≡ get_or (get_or p b []) 1 0) where
        pub level_group : (get_or (get_or p a []) 2 0 ≡ get_or (get_or p b []) 2 0 → ⊥) → Level p a b 2
        level_group u = by_scope 2 (omega arith) (at_own ∙ ne_eqb a b d) (at_sub z o ∙ ne_eqb (get_or (get_or p a []) 2 0) (get_or (get_or p b []) 2 0) u) (at_group z o) (at_family z) at_device

        pub level_sub : get_or (get_or p a []) 2 0 ≡ get_or (get_or p b []) 2 0 → Level p a b 1
        level_sub u = by_scope 1 (omega arith) (at_own ∙ ne_eqb a b d) (at_sub z o ∙ eq-eqb (get_or (get_or p a []) 2 0) (get_or (get_or p b []) 2 0) u) (at_group z o) (at_family z) at_device

-- ---- definitions: sets that take in rows

-- the sets of scopes from l up to q, of those from word `base` on, took in v
pub record Took (base l q : ℕ) (v : Set) (s u : List ℕ) : Type 0 where
  pub is : (m j : ℕ) → m < SCOPES → in_set (nth u base m) j ≡ (in_set (nth s base m) j or (leb l m and ltb m q and in_set v j))
  pub frame : Within base (base + 10) s u

-- the same of all scopes from l on
pub record Takes (base l : ℕ) (v : Set) (s u : List ℕ) : Type 0 where
  pub is : (m j : ℕ) → m < SCOPES → in_set (nth u base m) j ≡ (in_set (nth s base m) j or (leb l m and in_set v j))
  pub frame : Within base (base + 10) s u

-- row j is one of agent b's, as the sets in s have it, and b shares scope m with a
unfoldable pub sharer : List (List ℕ) → List ℕ → ℕ → ℕ → ℕ → ℕ → Bool
sharer p s a m j b = shares p m a b and in_set (nth s 0 (AGENT + b)) j

-- the sets of agent a have the rows of the agents below b that share each scope
pub record SharedTo (p : List (List ℕ)) (a b : ℕ) (s u : List ℕ) : Type 0 where
  pub is : (m j : ℕ) → m < SCOPES → in_set (nth u (SHARE + 10 * a) m) j ≡ any_below b (sharer p s a m j)
  pub frame : Within (SHARE + 10 * a) (SHARE + 10 * a + 10) s u

-- the sets of agent a took in the rows of agent b
pub record Adds (p : List (List ℕ)) (a b : ℕ) (s u : List ℕ) : Type 0 where
  pub is : (m j : ℕ) → m < SCOPES → in_set (nth u (SHARE + 10 * a) m) j ≡ (in_set (nth s (SHARE + 10 * a) m) j or sharer p s a m j b)
  pub frame : Within (SHARE + 10 * a) (SHARE + 10 * a + 10) s u

-- the sets of agent a, if it has rows, have the rows of the agents that share each scope
pub record SharedIf (p : List (List ℕ)) (a : ℕ) (s u : List ℕ) : Type 0 where
  pub is : (m j : ℕ) → any_below ROWS (in_set (nth s 0 (AGENT + a))) ≡ true → m < SCOPES → in_set (nth u (SHARE + 10 * a) m) j ≡ any_below 32 (sharer p s a m j)
  pub frame : Within (SHARE + 10 * a) (SHARE + 10 * a + 10) s u

-- the same of each agent below a
pub record SharesTo (p : List (List ℕ)) (a : ℕ) (s u : List ℕ) : Type 0 where
  pub is : (c m j : ℕ) → c < a → any_below ROWS (in_set (nth s 0 (AGENT + c))) ≡ true → m < SCOPES → in_set (nth u (SHARE + 10 * c) m) j ≡ any_below 32 (sharer p s c m j)
  pub frame : Within SHARE SHARE_END s u

-- ---- laws: one set of rows for all scopes from one on

on_both : (a b c : Bool) → a ≡ true → b ≡ true → (a and b and c) ≡ c
unfolding ◌and◌
on_both a b c p q = rw (p, q) refl

on_right : (a b : Bool) → b ≡ true → (a and b) ≡ a
unfolding ◌and◌
on_right true b e = e
on_right false b e = refl

any_step : (p : ℕ → Bool) (k : ℕ) → any_below (k + 1) p ≡ (any_below k p or p k)
unfolding any_below
any_step p k = rw add-one refl

pub took_none : (base l : ℕ) (v : Set) (s : List ℕ) → Took base l l v s s
took_none base l v s =
    record {
      is = λ m j h. sym (or_off (in_set (nth s base m) j) (leb l m and ltb m l and in_set v j) (and_false_left (leb l m and ltb m l) (in_set v j) (off m (dec_lt m l))));
      frame = within_refl base (base + 10) s;
    }
  where
    off : (m : ℕ) → Dec (m < l) → (leb l m and ltb m l) ≡ false
    off m (yes h) = and_false_left (leb l m) (ltb m l) (lt-leb l m h)
    off m (no h) = and_false_right (leb l m) (ltb m l) (le-ltb m l (omega arith))

pub took_more : {base l q : ℕ} {v : Set} {s u w : List ℕ} → l ≤ q → q < SCOPES → Took base l q v s u → Stored (base + 2 * q) (joined u (base + 2 * q) v) u w
    → Took base l (q + 1) v s w
unfolding joined
took_more {base} {l} {q} {v} {s} {u} {w} a b h f =
    record {
      is = λ m j o. go m j o (ℕ_discrete m q);
      frame = within_trans h.frame (within_widen base (base + 10) (omega arith) (omega arith) f.frame);
    }
  where
    here : (j : ℕ) → in_set (nth w base q) j ≡ (in_set (nth s base q) j or (leb l q and ltb q (q + 1) and in_set v j))
    here j =
        f.is j
        ∙ ap (λ (z : Bool). z or in_set v j)
        (h.is q j b ∙ or_off (in_set (nth s base q) j) (leb l q and ltb q q and in_set v j)
        (and_false_left (leb l q and ltb q q) (in_set v j) (and_false_right (leb l q) (ltb q q) (le-ltb q q (omega arith)))))
        ∙ ap (λ (z : Bool). in_set (nth s base q) j or z) (sym (on_both (leb l q) (ltb q (q + 1)) (in_set v j) (le-leb l q a) (lt-ltb q (q + 1) (omega arith))))

    same : (m : ℕ) → (m ≡ q → ⊥) → Dec (m < q) → ltb m q ≡ ltb m (q + 1)
    same m d (yes o) = lt-ltb m q o ∙ sym (lt-ltb m (q + 1) (omega arith))
    same m d (no o) = le-ltb m q (omega arith) ∙ sym (le-ltb m (q + 1) (omega arith))

    go : (m j : ℕ) → m < SCOPES → Dec (m ≡ q) → in_set (nth w base m) j ≡ (in_set (nth s base m) j or (leb l m and ltb m (q + 1) and in_set v j))
    go m j o (yes e) = rw e (here j)
    go m j o (no e) =
        ap (λ (y : Set). in_set y j) (set_kept (base + 2 * m) (λ g. omega arith) f.frame) ∙ h.is m j o
        ∙ ap (λ (z : Bool). in_set (nth s base m) j or (leb l m and z and in_set v j)) (same m e (dec_lt m q))

pub took_all : {base l : ℕ} {v : Set} {s u : List ℕ} → Took base l SCOPES v s u → Takes base l v s u
took_all {base} {l} {v} {s} {u} h =
    record {
      is = λ m j o. h.is m j o ∙ ap (λ (z : Bool). in_set (nth s base m) j or (z and in_set v j)) (on_right (leb l m) (ltb m SCOPES) (lt-ltb m SCOPES o));
      frame = h.frame;
    }

-- ---- laws: the agents one after the other

pub shared_none : (p : List (List ℕ)) (a : ℕ) (s u : List ℕ) → SHARE + 10 * a + 10 ≤ length s → u ≡ zeros s (SHARE + 10 * a) (SHARE + 10 * a + 10 - (SHARE + 10 * a))
    → SharedTo p a 0 s u
unfolding set_at
shared_none p a s u l e =
    record {
      is = λ m j o. none_in (set_at u (SHARE + 10 * a + 2 * m)) (word (2 * m) (omega arith)) (above m o) j ∙ sym (any_none (sharer p s a m j));
      frame = within_cleared (SHARE + 10 * a) (SHARE + 10 * a + 10) (omega arith) e;
    }
  where
    word : (k : ℕ) → k < 10 → get_or u (SHARE + 10 * a + k) 0 ≡ 0
    word k o =
        ap (λ (w : List ℕ). get_or w (SHARE + 10 * a + k) 0) e
        ∙ zeros_in s (SHARE + 10 * a) (SHARE + 10 * a + 10 - (SHARE + 10 * a)) (SHARE + 10 * a + k) (omega arith) (omega arith) (omega arith)

    above : (m : ℕ) → m < SCOPES → get_or u (SHARE + 10 * a + 2 * m + 1) 0 ≡ 0
    above m o =
        let f : SHARE + 10 * a + 2 * m + 1 ≡ SHARE + 10 * a + (2 * m + 1) = omega arith in
        ap (λ (k : ℕ). get_or u k 0) f ∙ word (2 * m + 1) (omega arith)

pub adds_taken : {p : List (List ℕ)} {a b l : ℕ} {v : Set} {s u : List ℕ} → Level p a b l → v ≡ nth s 0 (AGENT + b) → Takes (SHARE + 10 * a) l v s u → Adds p a b s u
unfolding sharer
adds_taken {p} {a} {b} {l} {v} {s} {u} d e f =
    record {
      is = λ m j k.
          f.is m j k ∙ ap (λ (z : Bool). in_set (nth s (SHARE + 10 * a) m) j or z) (ap₂ ◌and◌ (sym (d.is m k)) (ap (λ (y : Set). in_set y j) e));
      frame = f.frame;
    }

-- an agent without rows has nothing to give
pub adds_none : (p : List (List ℕ)) (a b : ℕ) (v : Set) (s : List ℕ) → v ≡ nth s 0 (AGENT + b) → any_below ROWS (in_set v) ≡ false → Adds p a b s s
unfolding sharer
adds_none p a b v s e h =
    record {
      is = λ m j k.
          sym (or_off (in_set (nth s (SHARE + 10 * a) m) j) (shares p m a b and in_set (nth s 0 (AGENT + b)) j)
          (and_false_right (shares p m a b) (in_set (nth s 0 (AGENT + b)) j) (ap (λ (y : Set). in_set y j) (sym e) ∙ empty j (dec_lt j ROWS))));
      frame = within_refl (SHARE + 10 * a) (SHARE + 10 * a + 10) s;
    }
  where
    empty : (j : ℕ) → Dec (j < ROWS) → in_set v j ≡ false
    empty j (yes l) = any_off (in_set v) ROWS h j l
    empty j (no l) = in_none v j (omega arith)

pub shared_more : {p : List (List ℕ)} {a b : ℕ} {s u w : List ℕ} → SharedTo p a b s u → b < 32 → Adds p a b u w → SharedTo p a (b + 1) s w
unfolding sharer
shared_more {p} {a} {b} {s} {u} {w} h o f =
    record {
      is = λ m j k. f.is m j k ∙ ap₂ ◌or◌ (h.is m j k) (one m j) ∙ sym (any_step (sharer p s a m j) b);
      frame = within_trans h.frame f.frame;
    }
  where
    one : (m j : ℕ) → (shares p m a b and in_set (nth u 0 (AGENT + b)) j) ≡ (shares p m a b and in_set (nth s 0 (AGENT + b)) j)
    one m j = ap (λ (y : Set). shares p m a b and in_set y j) (set_kept (0 + 2 * (AGENT + b)) (λ g. absurd (omega arith)) h.frame)

pub if_shared : {p : List (List ℕ)} {a : ℕ} {s u : List ℕ} → SharedTo p a 32 s u → SharedIf p a s u
if_shared h = record { is = λ m j e k. h.is m j k; frame = h.frame }

pub if_none : (p : List (List ℕ)) (a : ℕ) (v : Set) (s : List ℕ) → v ≡ nth s 0 (AGENT + a) → any_below ROWS (in_set v) ≡ false → SharedIf p a s s
if_none p a v s e h =
    record { is = λ m j t k. not_both t (ap (λ (y : Set). any_below ROWS (in_set y)) (sym e) ∙ h); frame = within_refl (SHARE + 10 * a) (SHARE + 10 * a + 10) s }

pub shares_none : (p : List (List ℕ)) (s : List ℕ) → SharesTo p 0 s s
shares_none p s = record { is = λ c m j o t k. absurd (omega arith); frame = within_refl SHARE SHARE_END s }

pub shares_more : {p : List (List ℕ)} {a : ℕ} {s u w : List ℕ} → a < 32 → SharesTo p a s u → SharedIf p a u w → SharesTo p (a + 1) s w
unfolding sharer
shares_more {p} {a} {s} {u} {w} l h f =
    record {
      is = λ c m j o t k. go c m j o t k (ℕ_discrete c a);
      frame = within_trans h.frame (within_widen SHARE SHARE_END (omega arith) (omega arith) f.frame);
    }
  where
    kept : (b : ℕ) → b < 32 → nth u 0 (AGENT + b) ≡ nth s 0 (AGENT + b)
    kept b g = set_kept (0 + 2 * (AGENT + b)) (λ z. absurd (omega arith)) h.frame

    here : (m j : ℕ) → any_below ROWS (in_set (nth s 0 (AGENT + a))) ≡ true → m < SCOPES → in_set (nth w (SHARE + 10 * a) m) j ≡ any_below 32 (sharer p s a m j)
    here m j t k =
        f.is m j (ap (λ (y : Set). any_below ROWS (in_set y)) (kept a l) ∙ t) k
        ∙ any_cong (sharer p u a m j) (sharer p s a m j) 32 (λ b g. ap (λ (y : Set). shares p m a b and in_set y j) (kept b g))

    go : (c m j : ℕ) → c < a + 1 → any_below ROWS (in_set (nth s 0 (AGENT + c))) ≡ true → m < SCOPES → Dec (c ≡ a)
        → in_set (nth w (SHARE + 10 * c) m) j ≡ any_below 32 (sharer p s c m j)
    go c m j o t k (yes e) =
        subst (λ (z : ℕ). any_below ROWS (in_set (nth s 0 (AGENT + z))) ≡ true → in_set (nth w (SHARE + 10 * z) m) j ≡ any_below 32 (sharer p s z m j)) (sym e)
        (λ h. here m j h k) t
    go c m j o t k (no e) =
        ap (λ (y : Set). in_set y j) (set_kept (SHARE + 10 * c + 2 * m) (λ z. absurd (omega arith)) f.frame) ∙ h.is c m j (omega arith) t k

-- ---- laws: what the sets of an agent say

pub share_says : {row : ℕ → Row} {n : ℕ} {s : List ℕ} (p : List (List ℕ)) (g : Ground row n s) (a m j : ℕ)
    → any_below 32 (sharer p s a m j) ≡ (ltb j n and shares p m a (row j).agent)
unfolding sharer
share_says {row} {n} {s} p g a m j = bool_ext _ _ out back
  where
    of_agent : (b : ℕ) → b < 32 → in_set (nth s 0 (AGENT + b)) j ≡ (ltb j n and eqb (row j).agent b)
    of_agent b l = (says_agent g b l).is j

    out : any_below 32 (sharer p s a m j) ≡ true → (ltb j n and shares p m a (row j).agent) ≡ true
    out t =
        let r = any_out (sharer p s a m j) 32 t in
        let q = split r.2 in
        let o = split (sym (of_agent r.0 r.1) ∙ q.1) in
        and_true o.0 (ap (shares p m a) (eqb-true (row j).agent r.0 o.1) ∙ q.0)

    back : (ltb j n and shares p m a (row j).agent) ≡ true → any_below 32 (sharer p s a m j) ≡ true
    back t =
        let q = split t in
        let l : j < n = ltb-true j n q.0 in
        let k = (g.coded j l).agent in
        any_in (sharer p s a m j) 32 (row j).agent k (and_true q.1 (of_agent (row j).agent k ∙ and_true q.0 (eq-eqb (row j).agent (row j).agent refl)))

-- from sets that were cleared, and from what was there before
pub shared_start : {p : List (List ℕ)} {a : ℕ} {s u : List ℕ} → SharedTo p a 0 s u → SharedTo p a 0 u u
shared_start {p} {a} {s} {u} h =
    record {
      is = λ m j o. h.is m j o ∙ any_none (sharer p s a m j) ∙ sym (any_none (sharer p u a m j));
      frame = within_refl (SHARE + 10 * a) (SHARE + 10 * a + 10) u;
    }

pub shared_entry : {p : List (List ℕ)} {a : ℕ} {s u w : List ℕ} → Within (SHARE + 10 * a) (SHARE + 10 * a + 10) s u → SharedTo p a 32 u w → SharedTo p a 32 s w
unfolding sharer
shared_entry {p} {a} {s} {u} {w} e h =
    record {
      is = λ m j o.
          h.is m j o
          ∙ any_cong (sharer p u a m j) (sharer p s a m j) 32
          (λ b g. ap (λ (y : Set). shares p m a b and in_set y j) (set_kept (0 + 2 * (AGENT + b)) (λ z. absurd (omega arith)) e));
      frame = within_trans e h.frame;
    }

-- an agent of one of the rows has rows
pub agent_some : {row : ℕ → Row} {n : ℕ} {s : List ℕ} (g : Ground row n s) (i : ℕ) → i < n → n ≤ ROWS → any_below ROWS (in_set (nth s 0 (AGENT + (row i).agent))) ≡ true
agent_some {row} {n} {s} g i l o =
    let k = (g.coded i l).agent in
    any_in (in_set (nth s 0 (AGENT + (row i).agent))) ROWS i (omega arith)
    ((says_agent g (row i).agent k).is i ∙ and_true (lt-ltb i n l) (eq-eqb (row i).agent (row i).agent refl))
