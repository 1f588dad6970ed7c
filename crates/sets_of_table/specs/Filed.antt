-- The sets of rows by their codes: one set for each value that a code may have. Assumes nothing.
use Rattle.std.specs.Prelude.{◌≡◌, refl, Bool, true, false, cond, ◌⊎◌, List, ℕ, ◌+◌, ◌*◌, ◌≤◌, ◌<◌, length, get_or, ltb, leb}
use Rattle.std.proofs.Common.{sym, ap, ◌∙◌, inl, inr, arith, eq-eqb, ne_eqb, le-ltb, ltb-true, leb-true}
use Rattle.std.proofs.Math.Decide.{ℕ_discrete}
use Rattle.std.proofs.Math.Dec.{eqb}
use Rattle.finite.specs.Logic.{◌and◌, ◌or◌, and_false_left, or_off, or_none, split, or_cases}
use Rattle.finite.specs.Below.{turn, at_one}
use Rattle.model.specs.declared.Row.{Row}
use Rattle.model.specs.Row.{control, operation}
use Rattle.model.specs.RowFault.{codes_fit}
use Rattle.model.specs.Table.{row_of}
use Rattle.bits.specs.Bit.{zeros, zeros_in}
use Rattle.bits.specs.Within.{Within}
use Rattle.sets_of_rows.specs.Member.{in_set}
use Rattle.sets_of_rows.specs.First.{none_in}
use Rattle.sets_of_rows.specs.Kept.{set_at, Stored, added}
use Rattle.sets_of_rows.specs.Family.{nth, Family, Marks, marks_one, marks_both}

-- ---- the layout, in sets

abbrev pub KIND : ℕ
KIND = 0

abbrev pub AGENT : ℕ
AGENT = 16

abbrev pub ORDER : ℕ
ORDER = 48

abbrev pub SCOPE : ℕ
SCOPE = 52

abbrev pub FLAGS : ℕ
FLAGS = 60

abbrev pub CLASSES : ℕ
CLASSES = 68

abbrev pub CLASS : ℕ
CLASS = 84

abbrev pub FILED : ℕ
FILED = 92

-- ---- definitions

-- each code of the row is one that there is a set for
pub record Coded (r : Row) : Type 0 where
  pub kind : r.kind < 16
  pub agent : r.agent < 32
  pub order : r.order < 4
  pub scope : r.scope < 8
  pub flags : r.flags < 8
  pub classes : r.classes < 16
  pub class : r.class < 8

-- the row belongs to set m: by its kind, agent and order; by its scope and flags; by its classes and class
unfoldable pub marks_who : Row → ℕ → Bool
marks_who r m = eqb m (KIND + r.kind) or eqb m (AGENT + r.agent) or eqb m (ORDER + r.order)

unfoldable pub marks_how : Row → ℕ → Bool
marks_how r m = eqb m (SCOPE + r.scope) or eqb m (FLAGS + r.flags)

unfoldable pub marks_what : Row → ℕ → Bool
marks_what r m = eqb m (CLASSES + r.classes) or eqb m (CLASS + r.class)

unfoldable pub marks : Row → ℕ → Bool
marks r m = marks_who r m or marks_how r m or marks_what r m

-- row j is one of n rows and belongs to set m
unfoldable pub filed : (ℕ → Row) → ℕ → ℕ → ℕ → Bool
filed row n m j = ltb j n and marks (row j) m

-- the codes of each of n rows in their bytes b have sets
pub record CodedRows (b : List ℕ) (n : ℕ) : Type 0 where
  pub each : (i : ℕ) → i < n → Coded (row_of b i)

-- n rows in their bytes b were filed
pub record Files (b : List ℕ) (n : ℕ) (s u : List ℕ) : Type 0 where
  pub sets : Family 0 FILED (filed (row_of b) n) u
  pub frame : Within 0 (2 * FILED) s u

-- ---- laws: one row

pub marks_who_lem : {s u v w : List ℕ} (r : Row) (i : ℕ) → Coded r → Stored (0 + 2 * (KIND + r.kind)) (added s (0 + 2 * (KIND + r.kind)) i) s u
    → Stored (0 + 2 * (AGENT + r.agent)) (added u (0 + 2 * (AGENT + r.agent)) i) u v
    → Stored (0 + 2 * (ORDER + r.order)) (added v (0 + 2 * (ORDER + r.order)) i) v w → Marks 0 FILED (marks_who r) i s w
unfolding marks_who
marks_who_lem r i k a b c =
    let x = k.kind in
    let y = k.agent in
    let z = k.order in
    marks_both (marks_both (marks_one FILED (KIND + r.kind) i (omega arith) a) (marks_one FILED (AGENT + r.agent) i (omega arith) b))
    (marks_one FILED (ORDER + r.order) i (omega arith) c)

pub marks_how_lem : {s u v : List ℕ} (r : Row) (i : ℕ) → Coded r → Stored (0 + 2 * (SCOPE + r.scope)) (added s (0 + 2 * (SCOPE + r.scope)) i) s u
    → Stored (0 + 2 * (FLAGS + r.flags)) (added u (0 + 2 * (FLAGS + r.flags)) i) u v → Marks 0 FILED (marks_how r) i s v
unfolding marks_how
marks_how_lem r i k a b =
    let x = k.scope in
    let y = k.flags in
    marks_both (marks_one FILED (SCOPE + r.scope) i (omega arith) a) (marks_one FILED (FLAGS + r.flags) i (omega arith) b)

pub marks_what_lem : {s u v : List ℕ} (r : Row) (i : ℕ) → Coded r → Stored (0 + 2 * (CLASSES + r.classes)) (added s (0 + 2 * (CLASSES + r.classes)) i) s u
    → Stored (0 + 2 * (CLASS + r.class)) (added u (0 + 2 * (CLASS + r.class)) i) u v → Marks 0 FILED (marks_what r) i s v
unfolding marks_what
marks_what_lem r i k a b =
    let x = k.classes in
    let y = k.class in
    marks_both (marks_one FILED (CLASSES + r.classes) i (omega arith) a) (marks_one FILED (CLASS + r.class) i (omega arith) b)

pub marks_all : {s u v w : List ℕ} (r : Row) (i : ℕ) → Marks 0 FILED (marks_who r) i s u → Marks 0 FILED (marks_how r) i u v → Marks 0 FILED (marks_what r) i v w
    → Marks 0 FILED (marks r) i s w
unfolding marks
marks_all r i a b c = marks_both (marks_both a b) c

-- ---- laws: one row after the other

and_swap : (a b : Bool) → (a and b) ≡ (b and a)
unfolding ◌and◌
and_swap true true = refl
and_swap true false = refl
and_swap false true = refl
and_swap false false = refl

pub filed_none : (row : ℕ → Row) (s : List ℕ) → ((m j : ℕ) → m < FILED → in_set (nth s 0 m) j ≡ false) → Family 0 FILED (filed row 0) s
unfolding filed
filed_none row s h = record { is = λ m j l. h m j l ∙ sym (and_false_left (ltb j 0) (marks (row j) m) (le-ltb j 0 (omega arith))) }

pub filed_clear : (row : ℕ → Row) (s u : List ℕ) → 2 * FILED ≤ length s → u ≡ zeros s 0 (2 * FILED) → Family 0 FILED (filed row 0) u
unfolding set_at
filed_clear row s u l e = filed_none row u (λ m j h. none_in (set_at u (0 + 2 * m)) (low m h) (high m h) j)
  where
    low : (m : ℕ) → m < FILED → (set_at u (0 + 2 * m)).lo ≡ 0
    low m h = ap (λ (w : List ℕ). get_or w (0 + 2 * m) 0) e ∙ zeros_in s 0 (2 * FILED) (0 + 2 * m) (omega arith) (omega arith) (omega arith)

    high : (m : ℕ) → m < FILED → (set_at u (0 + 2 * m)).hi ≡ 0
    high m h = ap (λ (w : List ℕ). get_or w (0 + 2 * m + 1) 0) e ∙ zeros_in s 0 (2 * FILED) (0 + 2 * m + 1) (omega arith) (omega arith) (omega arith)

pub filed_more : (row : ℕ → Row) (s u : List ℕ) (i : ℕ) (r : Row) → r ≡ row i → Family 0 FILED (filed row i) s → Marks 0 FILED (marks r) i s u
    → Family 0 FILED (filed row (i + 1)) u
unfolding filed
filed_more row s u i r e h f =
    record {
      is = λ m j l.
          f.is m j ∙ ap (λ (b : Bool). b or (marks r m and eqb j i)) (h.is m j l)
          ∙ ap (λ (b : Bool). (ltb j i and marks (row j) m) or b)
          (and_swap (marks r m) (eqb j i) ∙ at_one j i (marks r m) (marks (row j) m) (λ q. ap (λ (z : Row). marks z m) (e ∙ ap row (sym q))))
          ∙ turn j i (marks (row j) m);
    }

-- ---- laws: what a set says, of rows whose codes have sets

or_first : (a b : Bool) → a ≡ false → (a or b) ≡ b
unfolding ◌or◌
or_first a b e = rw e refl

eqb_iff : (a b c d : ℕ) → (a ≡ b → c ≡ d) → (c ≡ d → a ≡ b) → eqb a b ≡ eqb c d
eqb_iff a b c d f g = go (ℕ_discrete a b)
  where
    go : Dec (a ≡ b) → eqb a b ≡ eqb c d
    go (yes e) = eq-eqb a b e ∙ sym (eq-eqb c d (f e))
    go (no e) = ne_eqb a b e ∙ sym (ne_eqb c d (λ h. e (g h)))

module _ (r : Row) (h : Coded r) where
  who_not : (m : ℕ) → (m ≡ KIND + r.kind → ⊥) → (m ≡ AGENT + r.agent → ⊥) → (m ≡ ORDER + r.order → ⊥) → marks_who r m ≡ false
  unfolding marks_who
  who_not m a b c = or_none (or_none (ne_eqb m (KIND + r.kind) a) (ne_eqb m (AGENT + r.agent) b)) (ne_eqb m (ORDER + r.order) c)

  how_not : (m : ℕ) → (m ≡ SCOPE + r.scope → ⊥) → (m ≡ FLAGS + r.flags → ⊥) → marks_how r m ≡ false
  unfolding marks_how
  how_not m a b = or_none (ne_eqb m (SCOPE + r.scope) a) (ne_eqb m (FLAGS + r.flags) b)

  what_not : (m : ℕ) → (m ≡ CLASSES + r.classes → ⊥) → (m ≡ CLASS + r.class → ⊥) → marks_what r m ≡ false
  unfolding marks_what
  what_not m a b = or_none (ne_eqb m (CLASSES + r.classes) a) (ne_eqb m (CLASS + r.class) b)

  -- a set below the scopes', one of them or the flags', and one above
  who_alone : (m : ℕ) → m < SCOPE → marks r m ≡ marks_who r m
  unfolding marks
  who_alone m l =
      or_off (marks_who r m or marks_how r m) (marks_what r m) (what_not m (λ e. omega arith) (λ e. omega arith))
      ∙ or_off (marks_who r m) (marks_how r m) (how_not m (λ e. omega arith) (λ e. omega arith))

  how_alone : (m : ℕ) → SCOPE ≤ m → m < CLASSES → marks r m ≡ marks_how r m
  unfolding marks
  how_alone m l u =
      let x = h.kind in
      let y = h.agent in
      let z = h.order in
      or_off (marks_who r m or marks_how r m) (marks_what r m) (what_not m (λ e. omega arith) (λ e. omega arith))
      ∙ or_first (marks_who r m) (marks_how r m) (who_not m (λ e. omega arith) (λ e. omega arith) (λ e. omega arith))

  pub in_kind : (k : ℕ) → k < 16 → marks r (KIND + k) ≡ eqb r.kind k
  unfolding marks_who
  in_kind k l =
      who_alone (KIND + k) (omega arith)
      ∙ or_off (eqb (KIND + k) (KIND + r.kind) or eqb (KIND + k) (AGENT + r.agent)) (eqb (KIND + k) (ORDER + r.order)) (ne_eqb (KIND + k) (ORDER + r.order) (λ e. omega arith))
      ∙ or_off (eqb (KIND + k) (KIND + r.kind)) (eqb (KIND + k) (AGENT + r.agent)) (ne_eqb (KIND + k) (AGENT + r.agent) (λ e. omega arith))
      ∙ eqb_iff (KIND + k) (KIND + r.kind) r.kind k (λ e. omega arith) (λ e. omega arith)

  pub in_agent : (k : ℕ) → k < 32 → marks r (AGENT + k) ≡ eqb r.agent k
  unfolding marks_who
  in_agent k l =
      let x = h.kind in
      who_alone (AGENT + k) (omega arith)
      ∙ or_off (eqb (AGENT + k) (KIND + r.kind) or eqb (AGENT + k) (AGENT + r.agent)) (eqb (AGENT + k) (ORDER + r.order)) (ne_eqb (AGENT + k) (ORDER + r.order) (λ e. omega arith))
      ∙ or_first (eqb (AGENT + k) (KIND + r.kind)) (eqb (AGENT + k) (AGENT + r.agent)) (ne_eqb (AGENT + k) (KIND + r.kind) (λ e. omega arith))
      ∙ eqb_iff (AGENT + k) (AGENT + r.agent) r.agent k (λ e. omega arith) (λ e. omega arith)

  pub in_order_lem : (k : ℕ) → k < 4 → marks r (ORDER + k) ≡ eqb r.order k
  unfolding marks_who
  in_order_lem k l =
      let x = h.kind in
      let y = h.agent in
      who_alone (ORDER + k) (omega arith)
      ∙ or_first (eqb (ORDER + k) (KIND + r.kind) or eqb (ORDER + k) (AGENT + r.agent)) (eqb (ORDER + k) (ORDER + r.order))
      (or_none (ne_eqb (ORDER + k) (KIND + r.kind) (λ e. omega arith)) (ne_eqb (ORDER + k) (AGENT + r.agent) (λ e. omega arith)))
      ∙ eqb_iff (ORDER + k) (ORDER + r.order) r.order k (λ e. omega arith) (λ e. omega arith)

  pub in_scope : (k : ℕ) → k < 8 → marks r (SCOPE + k) ≡ eqb r.scope k
  unfolding marks_how
  in_scope k l =
      how_alone (SCOPE + k) (omega arith) (omega arith)
      ∙ or_off (eqb (SCOPE + k) (SCOPE + r.scope)) (eqb (SCOPE + k) (FLAGS + r.flags)) (ne_eqb (SCOPE + k) (FLAGS + r.flags) (λ e. omega arith))
      ∙ eqb_iff (SCOPE + k) (SCOPE + r.scope) r.scope k (λ e. omega arith) (λ e. omega arith)

  pub in_flags : (k : ℕ) → k < 8 → marks r (FLAGS + k) ≡ eqb r.flags k
  unfolding marks_how
  in_flags k l =
      let x = h.scope in
      how_alone (FLAGS + k) (omega arith) (omega arith)
      ∙ or_first (eqb (FLAGS + k) (SCOPE + r.scope)) (eqb (FLAGS + k) (FLAGS + r.flags)) (ne_eqb (FLAGS + k) (SCOPE + r.scope) (λ e. omega arith))
      ∙ eqb_iff (FLAGS + k) (FLAGS + r.flags) r.flags k (λ e. omega arith) (λ e. omega arith)

  what_alone : (m : ℕ) → CLASSES ≤ m → marks r m ≡ marks_what r m
  unfolding marks
  what_alone m l =
      let x = h.kind in
      let y = h.agent in
      let z = h.order in
      let u = h.scope in
      let v = h.flags in
      or_first (marks_who r m or marks_how r m) (marks_what r m)
      (or_none (who_not m (λ e. omega arith) (λ e. omega arith) (λ e. omega arith)) (how_not m (λ e. omega arith) (λ e. omega arith)))

  pub in_classes : (k : ℕ) → k < 16 → marks r (CLASSES + k) ≡ eqb r.classes k
  unfolding marks_what
  in_classes k l =
      what_alone (CLASSES + k) (omega arith)
      ∙ or_off (eqb (CLASSES + k) (CLASSES + r.classes)) (eqb (CLASSES + k) (CLASS + r.class)) (ne_eqb (CLASSES + k) (CLASS + r.class) (λ e. omega arith))
      ∙ eqb_iff (CLASSES + k) (CLASSES + r.classes) r.classes k (λ e. omega arith) (λ e. omega arith)

  pub in_class : (k : ℕ) → k < 8 → marks r (CLASS + k) ≡ eqb r.class k
  unfolding marks_what
  in_class k l =
      let x = h.classes in
      what_alone (CLASS + k) (omega arith)
      ∙ or_first (eqb (CLASS + k) (CLASSES + r.classes)) (eqb (CLASS + k) (CLASS + r.class)) (ne_eqb (CLASS + k) (CLASSES + r.classes) (λ e. omega arith))
      ∙ eqb_iff (CLASS + k) (CLASS + r.class) r.class k (λ e. omega arith) (λ e. omega arith)

-- ---- laws: the codes of an admitted row

pub coded_fit : (hosts : Bool) (agents : ℕ) (r : Row) → agents ≤ 32 → codes_fit hosts agents r ≡ true → Coded r
unfolding codes_fit operation
coded_fit hosts agents r l e =
    let a = split e in
    let b = split a.0 in
    let c = split b.0 in
    let d = split c.0 in
    let f = split d.0 in
    let g = split f.0 in
    let ag = ltb-true r.agent agents g.1 in
    let o = leb-true r.order 3 f.1 in
    let s = leb-true r.scope 4 d.1 in
    let cs = leb-true r.classes 15 c.1 in
    let fl = leb-true r.flags 7 b.1 in
    record {
      kind = kinds (or_cases (leb r.kind 6) (hosts and (leb 7 r.kind and leb r.kind 12)) g.0);
      agent = omega arith;
      order = omega arith;
      scope = omega arith;
      classes = omega arith;
      flags = omega arith;
      class = class_of (control r) a.1;
    }
  where
    kinds : (leb r.kind 6 ≡ true) ⊎ ((hosts and (leb 7 r.kind and leb r.kind 12)) ≡ true) → r.kind < 16
    kinds (inl h) = let k = leb-true r.kind 6 h in omega arith
    kinds (inr h) = let k = leb-true r.kind 12 (split (split h).1).1 in omega arith

    class_of : (b : Bool) → leb r.class (cond b 4 3) ≡ true → r.class < 8
    class_of true h = let k = leb-true r.class 4 h in omega arith
    class_of false h = let k = leb-true r.class 3 h in omega arith
