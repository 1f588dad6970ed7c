-- The rows whose own scope an agent shares with their agent. Assumes nothing.
use Rattle.std.specs.Prelude.{◌≡◌, refl, Bool, true, false, List, ℕ, ◌+◌, ◌*◌, ◌≤◌, ◌<◌, eqb, ltb}
use Rattle.std.proofs.Common.{sym, ap, ap₂, subst, ◌∙◌, arith, add-one, eqb-true, eq-eqb, ltb-true}
use Rattle.std.proofs.Math.Decide.{ℕ_discrete}
use Rattle.finite.specs.Logic.{◌and◌, ◌or◌, bool_ext, split, and_true, not_both}
use Rattle.finite.specs.Below.{any_below, any_none, any_in, any_out, any_cong}
use Rattle.model.specs.declared.Row.{Row}
use Rattle.model.specs.Limits.{AGENTS, ROWS}
use Rattle.model.specs.Scope.{host, shares}
use Rattle.bits.specs.Within.{Within, within_refl, within_trans, within_widen}
use Rattle.sets_of_rows.specs.declared.Set.{Set}
use Rattle.sets_of_rows.specs.Member.{in_set}
use Rattle.sets_of_rows.specs.Kept.{set_at, set_kept, Stored}
use Rattle.sets_of_rows.specs.Family.{nth}
use Rattle.sets_of_table.specs.Filed.{AGENT, SCOPE}
use Rattle.sets_of_table.specs.Says.{Ground, says_scope, says_agent}
use Rattle.sets_of_table.specs.Share.{SCOPES, SHARE, sharer, SharesTo}

-- ---- the layout, in words

abbrev pub ON_HOST : ℕ
ON_HOST = 544

abbrev pub HEARS : ℕ
HEARS = 546

abbrev pub HEARS_END : ℕ
HEARS_END = 610

-- ---- definitions

-- row j has scope q, and its agent shares q with a, as the sets have it
unfoldable pub hearing : List ℕ → ℕ → ℕ → ℕ → Bool
hearing s a j q = in_set (nth s 0 (SCOPE + q)) j and in_set (nth s (SHARE + 10 * a) q) j

-- x has the rows that do, of the scopes below q
pub record Hears (s : List ℕ) (a q : ℕ) (x : Set) : Type 0 where
  pub is : (j : ℕ) → in_set x j ≡ any_below q (hearing s a j)

-- where agent a has rows, its set has the rows that it hears; no word outside it changed
pub record HeardIf (a : ℕ) (s u : List ℕ) : Type 0 where
  pub is : (j : ℕ) → any_below ROWS (in_set (nth s 0 (AGENT + a))) ≡ true → in_set (nth u HEARS a) j ≡ any_below SCOPES (hearing s a j)
  pub frame : Within (HEARS + 2 * a) (HEARS + 2 * a + 2) s u

-- the same of the agents below m
pub record HeardTo (m : ℕ) (s u : List ℕ) : Type 0 where
  pub is : (a j : ℕ) → a < m → any_below ROWS (in_set (nth s 0 (AGENT + a))) ≡ true → in_set (nth u HEARS a) j ≡ any_below SCOPES (hearing s a j)
  pub frame : Within HEARS HEARS_END s u

-- row j is of agent a, which is a host agent
unfoldable pub host_by : List (List ℕ) → List ℕ → ℕ → ℕ → Bool
host_by p s j a = host p a and in_set (nth s 0 (AGENT + a)) j

-- x has the rows of host agents below m
pub record HostsTo (p : List (List ℕ)) (m : ℕ) (s : List ℕ) (x : Set) : Type 0 where
  pub is : (j : ℕ) → in_set x j ≡ any_below m (host_by p s j)

-- the sets by scopes and places, of rows that are filed
pub record SharesAll (p : List (List ℕ)) (s u : List ℕ) : Type 0 where
  pub shares : (a q j : ℕ) → a < AGENTS → any_below ROWS (in_set (nth s 0 (AGENT + a))) ≡ true → q < SCOPES
      → in_set (nth u (SHARE + 10 * a) q) j ≡ any_below 32 (sharer p s a q j)
  pub heard : (a j : ℕ) → a < AGENTS → any_below ROWS (in_set (nth s 0 (AGENT + a))) ≡ true → in_set (nth u HEARS a) j ≡ any_below SCOPES (hearing u a j)
  pub hosts : (j : ℕ) → in_set (set_at u ON_HOST) j ≡ any_below AGENTS (host_by p s j)
  pub frame : Within SHARE HEARS_END s u

-- ---- laws

pub hears_none : (s : List ℕ) (a : ℕ) (x : Set) → ((j : ℕ) → in_set x j ≡ false) → Hears s a 0 x
hears_none s a x e = record { is = λ j. e j ∙ sym (any_none (hearing s a j)) }

pub hears_more : {s : List ℕ} {a q : ℕ} {x y : Set} (u v z : Set) → Hears s a q x → u ≡ nth s 0 (SCOPE + q) → v ≡ nth s (SHARE + 10 * a) q
    → ((j : ℕ) → in_set z j ≡ (in_set u j and in_set v j)) → ((j : ℕ) → in_set y j ≡ (in_set x j or in_set z j)) → Hears s a (q + 1) y
unfolding hearing any_below
hears_more {s} {a} {q} {x} {y} u v z h e f g o =
    record { is = λ j. o j ∙ ap₂ ◌or◌ (h.is j) (g j ∙ ap₂ (λ (c d : Set). in_set c j and in_set d j) e f) ∙ sym (ap (λ (m : ℕ). any_below m (hearing s a j)) (add-one q)) }

-- of rows that are filed, where the sets of agent a say what it shares
pub hears_says : {row : ℕ → Row} {n : ℕ} {s : List ℕ} (p : List (List ℕ)) (g : Ground row n s) (a : ℕ) {x : Set} → ((i : ℕ) → i < n → (row i).scope < SCOPES)
    → ((q j : ℕ) → q < SCOPES → in_set (nth s (SHARE + 10 * a) q) j ≡ (ltb j n and shares p q a (row j).agent))
    → Hears s a SCOPES x → (j : ℕ) → in_set x j ≡ (ltb j n and shares p (row j).scope a (row j).agent)
unfolding hearing
hears_says {row} {n} {s} p g a {x} few h e j = e.is j ∙ bool_ext _ _ out back
  where
    out : any_below SCOPES (hearing s a j) ≡ true → (ltb j n and shares p (row j).scope a (row j).agent) ≡ true
    out t =
        let r = any_out (hearing s a j) SCOPES t in
        let q = split r.2 in
        let l = r.1 in
        let c = split (sym ((says_scope g r.0 (omega arith)).is j) ∙ q.0) in
        let d = split (sym (h r.0 j r.1) ∙ q.1) in
        and_true c.0 (ap (λ (z : ℕ). shares p z a (row j).agent) (eqb-true (row j).scope r.0 c.1) ∙ d.1)

    back : (ltb j n and shares p (row j).scope a (row j).agent) ≡ true → any_below SCOPES (hearing s a j) ≡ true
    back t =
        let q = split t in
        let l = few j (ltb-true j n q.0) in
        any_in (hearing s a j) SCOPES (row j).scope l
        (and_true ((says_scope g (row j).scope (omega arith)).is j ∙ and_true q.0 (eq-eqb (row j).scope (row j).scope refl)) (h (row j).scope j l ∙ t))

-- ---- laws: hearing, of all agents that have rows

pub heard_some : {a : ℕ} {s u : List ℕ} {x : Set} → Hears s a SCOPES x → Stored (HEARS + 2 * a) (in_set x) s u → HeardIf a s u
heard_some h f = record { is = λ j e. f.is j ∙ h.is j; frame = f.frame }

pub heard_off : (a : ℕ) (v : Set) (s : List ℕ) → v ≡ nth s 0 (AGENT + a) → any_below ROWS (in_set v) ≡ false → HeardIf a s s
heard_off a v s e h =
    record { is = λ j t. not_both t (ap (λ (y : Set). any_below ROWS (in_set y)) (sym e) ∙ h); frame = within_refl (HEARS + 2 * a) (HEARS + 2 * a + 2) s }

pub heard_none : (s : List ℕ) → HeardTo 0 s s
heard_none s = record { is = λ a j l e. absurd (omega arith); frame = within_refl HEARS HEARS_END s }

hearing_kept : {c d : ℕ} {s u : List ℕ} (a j q : ℕ) → a < 32 → q < SCOPES → HEARS ≤ c → Within c d s u → hearing u a j q ≡ hearing s a j q
unfolding hearing
hearing_kept a j q l m o f =
    ap₂ (λ (x y : Set). in_set x j and in_set y j) (set_kept (0 + 2 * (SCOPE + q)) (λ z. absurd (omega arith)) f)
    (set_kept (SHARE + 10 * a + 2 * q) (λ z. absurd (omega arith)) f)

pub heard_more : {a : ℕ} {s u w : List ℕ} → a < 32 → HeardTo a s u → HeardIf a u w → HeardTo (a + 1) s w
heard_more {a} {s} {u} {w} l h f =
    record {
      is = λ c j o t. go c j o t (ℕ_discrete c a);
      frame = within_trans h.frame (within_widen HEARS HEARS_END (omega arith) (omega arith) f.frame);
    }
  where
    here : (j : ℕ) → any_below ROWS (in_set (nth s 0 (AGENT + a))) ≡ true → in_set (nth w HEARS a) j ≡ any_below SCOPES (hearing s a j)
    here j t =
        f.is j (ap (λ (y : Set). any_below ROWS (in_set y)) (set_kept (0 + 2 * (AGENT + a)) (λ z. absurd (omega arith)) h.frame) ∙ t)
        ∙ any_cong (hearing u a j) (hearing s a j) SCOPES (λ q o. hearing_kept a j q l o (omega arith) h.frame)

    go : (c j : ℕ) → c < a + 1 → any_below ROWS (in_set (nth s 0 (AGENT + c))) ≡ true → Dec (c ≡ a) → in_set (nth w HEARS c) j ≡ any_below SCOPES (hearing s c j)
    go c j o t (yes e) =
        subst (λ (z : ℕ). any_below ROWS (in_set (nth s 0 (AGENT + z))) ≡ true → in_set (nth w HEARS z) j ≡ any_below SCOPES (hearing s z j)) (sym e) (λ g. here j g) t
    go c j o t (no e) = ap (λ (y : Set). in_set y j) (set_kept (HEARS + 2 * c) (λ z. omega arith) f.frame) ∙ h.is c j (omega arith) t

-- ---- laws: host agents

pub hosts_none : (p : List (List ℕ)) (s : List ℕ) (x : Set) → ((j : ℕ) → in_set x j ≡ false) → HostsTo p 0 s x
hosts_none p s x e = record { is = λ j. e j ∙ sym (any_none (host_by p s j)) }

pub hosts_more : {p : List (List ℕ)} {m : ℕ} {s : List ℕ} {x y : Set} (b : Bool) (v z : Set) → HostsTo p m s x → b ≡ host p m → v ≡ nth s 0 (AGENT + m)
    → ((j : ℕ) → in_set z j ≡ (b and in_set v j)) → ((j : ℕ) → in_set y j ≡ (in_set x j or in_set z j)) → HostsTo p (m + 1) s y
unfolding host_by any_below
hosts_more {p} {m} {s} {x} {y} b v z h e f g o =
    record {
      is = λ j. o j ∙ ap₂ ◌or◌ (h.is j) (g j ∙ ap₂ (λ (c : Bool) (d : Set). c and in_set d j) e f) ∙ sym (ap (λ (k : ℕ). any_below k (host_by p s j)) (add-one m));
    }

pub hosts_says : {row : ℕ → Row} {n : ℕ} {s : List ℕ} (p : List (List ℕ)) (g : Ground row n s) (j : ℕ) → any_below 32 (host_by p s j) ≡ (ltb j n and host p (row j).agent)
unfolding host_by
hosts_says {row} {n} {s} p g j = bool_ext _ _ out back
  where
    of_agent : (b : ℕ) → b < 32 → in_set (nth s 0 (AGENT + b)) j ≡ (ltb j n and eqb (row j).agent b)
    of_agent b l = (says_agent g b l).is j

    out : any_below 32 (host_by p s j) ≡ true → (ltb j n and host p (row j).agent) ≡ true
    out t =
        let r = any_out (host_by p s j) 32 t in
        let q = split r.2 in
        let o = split (sym (of_agent r.0 r.1) ∙ q.1) in
        and_true o.0 (ap (host p) (eqb-true (row j).agent r.0 o.1) ∙ q.0)

    back : (ltb j n and host p (row j).agent) ≡ true → any_below 32 (host_by p s j) ≡ true
    back t =
        let q = split t in
        let k = (g.coded j (ltb-true j n q.0)).agent in
        any_in (host_by p s j) 32 (row j).agent k (and_true q.1 (of_agent (row j).agent k ∙ and_true q.0 (eq-eqb (row j).agent (row j).agent refl)))

-- ---- laws: all of them

pub shares_all : {p : List (List ℕ)} {s u v w : List ℕ} {x : Set} → SharesTo p AGENTS s u → HostsTo p AGENTS u x → Stored ON_HOST (in_set x) u v → HeardTo AGENTS v w
    → SharesAll p s w
unfolding host_by
shares_all {p} {s} {u} {v} {w} {x} a b f h =
    record {
      shares = λ c q j l t o.
          ap (λ (y : Set). in_set y j) (set_kept (SHARE + 10 * c + 2 * q) (λ z. absurd (omega arith)) h.frame ∙ set_kept (SHARE + 10 * c + 2 * q) (λ z. absurd (omega arith)) f.frame)
          ∙ a.is c q j l t o;
      heard = λ c j l t.
          h.is c j l (ap (λ (y : Set). any_below ROWS (in_set y)) (set_kept (0 + 2 * (AGENT + c)) (λ z. absurd (omega arith)) f.frame ∙ kept c l) ∙ t)
          ∙ any_cong (hearing v c j) (hearing w c j) SCOPES (λ q o. sym (hearing_kept c j q l o (omega arith) h.frame));
      hosts = λ j.
          ap (λ (y : Set). in_set y j) (set_kept ON_HOST (λ z. absurd (omega arith)) h.frame) ∙ f.is j ∙ b.is j
          ∙ any_cong (host_by p u j) (host_by p s j) AGENTS (λ c l. ap (λ (y : Set). host p c and in_set y j) (kept c l));
      frame =
          within_trans (within_widen SHARE HEARS_END (omega arith) (omega arith) a.frame)
          (within_trans (within_widen SHARE HEARS_END (omega arith) (omega arith) f.frame) (within_widen SHARE HEARS_END (omega arith) (omega arith) h.frame));
    }
  where
    kept : (c : ℕ) → c < 32 → nth u 0 (AGENT + c) ≡ nth s 0 (AGENT + c)
    kept c l = set_kept (0 + 2 * (AGENT + c)) (λ z. absurd (omega arith)) a.frame
