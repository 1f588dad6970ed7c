-- What a set says of rows: it has each of n rows that passes a test, and nothing else. Assumes nothing.
use Rattle.std.specs.Prelude.{◌≡◌, refl, Bool, true, false, not, List, ℕ, zero, suc, ◌+◌, ◌*◌, ◌≤◌, ◌<◌, ltb, leb}
use Rattle.std.proofs.Common.{sym, ap, ap₂, ◌∙◌, arith, ne_eqb, le-ltb}
use Rattle.std.proofs.Math.Decide.{dec_lt}
use Rattle.std.proofs.Math.Dec.{eqb}
use Rattle.std.proofs.lemmas.Bool.{lt-leb}
use Rattle.finite.specs.Logic.{◌and◌, ◌or◌, and_false_left, and_false_right, and_or, or_none}
use Rattle.model.specs.declared.Row.{Row}
use Rattle.model.specs.Row.{reads, writes, access, atomic, ranked, barrier, acquires, releases, non_private, makes_available, makes_visible, meets}
use Rattle.sets_of_rows.specs.declared.Set.{Set}
use Rattle.sets_of_rows.specs.Member.{in_set}
use Rattle.bits.specs.Within.{Within}
use Rattle.sets_of_rows.specs.Kept.{set_at, set_kept, Stored}
use Rattle.sets_of_rows.specs.Family.{nth, Family, family_kept}
use Rattle.sets_of_table.specs.Filed.{KIND, AGENT, ORDER, SCOPE, FLAGS, CLASSES, CLASS, FILED, Coded, marks, filed}
use Rattle.sets_of_table.specs.Filed.{in_kind, in_agent, in_order_lem, in_scope, in_flags, in_classes, in_class}

-- ---- definitions

pub record Says (row : ℕ → Row) (n : ℕ) (p : Row → Bool) (x : Set) : Type 0 where
  pub is : (j : ℕ) → in_set x j ≡ (ltb j n and p (row j))

-- n rows are filed by their codes, each of which has its set
pub record Ground (row : ℕ → Row) (n : ℕ) (s : List ℕ) : Type 0 where
  pub coded : (i : ℕ) → i < n → Coded (row i)
  pub sets : Family 0 FILED (filed row n) s

-- ---- laws: tests that agree

under_and : (j n : ℕ) (b c : Bool) → (j < n → b ≡ c) → (ltb j n and b) ≡ (ltb j n and c)
under_and j n b c h = go (dec_lt j n)
  where
    go : Dec (j < n) → (ltb j n and b) ≡ (ltb j n and c)
    go (yes l) = ap (λ (z : Bool). ltb j n and z) (h l)
    go (no l) = and_false_left (ltb j n) b (le-ltb j n (omega arith)) ∙ sym (and_false_left (ltb j n) c (le-ltb j n (omega arith)))

pub says_cong : {row : ℕ → Row} {n : ℕ} {x : Set} (p q : Row → Bool) → ((j : ℕ) → j < n → p (row j) ≡ q (row j)) → Says row n p x → Says row n q x
says_cong {row} {n} p q e h = record { is = λ j. h.is j ∙ under_and j n (p (row j)) (q (row j)) (λ l. e j l) }

-- ---- laws: sets of sets

both : (l a b : Bool) → ((l and a) and (l and b)) ≡ (l and (a and b))
unfolding ◌and◌
both true a b = refl
both false a b = refl

but : (l a b : Bool) → ((l and a) and not (l and b)) ≡ (l and (a and not b))
unfolding ◌and◌
but true a b = refl
but false a b = refl

module _ {row : ℕ → Row} {n : ℕ} {x y z : Set} (p q : Row → Bool) (a : Says row n p x) (b : Says row n q y) where
  pub says_or : ((j : ℕ) → in_set z j ≡ (in_set x j or in_set y j)) → Says row n (λ r. p r or q r) z
  says_or e = record { is = λ j. e j ∙ ap₂ ◌or◌ (a.is j) (b.is j) ∙ and_or (ltb j n) (p (row j)) (q (row j)) }

  pub says_and : ((j : ℕ) → in_set z j ≡ (in_set x j and in_set y j)) → Says row n (λ r. p r and q r) z
  says_and e = record { is = λ j. e j ∙ ap₂ ◌and◌ (a.is j) (b.is j) ∙ both (ltb j n) (p (row j)) (q (row j)) }

  pub says_less : ((j : ℕ) → in_set z j ≡ (in_set x j and not (in_set y j))) → Says row n (λ r. p r and not (q r)) z
  says_less e = record { is = λ j. e j ∙ ap₂ (λ (s t : Bool). s and not t) (a.is j) (b.is j) ∙ but (ltb j n) (p (row j)) (q (row j)) }

-- ---- laws: codes

module _ {row : ℕ → Row} {n : ℕ} {s : List ℕ} (g : Ground row n s) where
  code : (m : ℕ) (p : Row → Bool) → m < FILED → ((r : Row) → Coded r → marks r m ≡ p r) → Says row n p (nth s 0 m)
  unfolding filed
  code m p l e = record { is = λ j. g.sets.is m j l ∙ under_and j n (marks (row j) m) (p (row j)) (λ h. e (row j) (g.coded j h)) }

  pub says_kind : (k : ℕ) → k < 16 → Says row n (λ r. eqb r.kind k) (nth s 0 (KIND + k))
  says_kind k l = code (KIND + k) (λ r. eqb r.kind k) (omega arith) (λ r h. in_kind r h k l)

  pub says_agent : (k : ℕ) → k < 32 → Says row n (λ r. eqb r.agent k) (nth s 0 (AGENT + k))
  says_agent k l = code (AGENT + k) (λ r. eqb r.agent k) (omega arith) (λ r h. in_agent r h k l)

  pub says_order : (k : ℕ) → k < 4 → Says row n (λ r. eqb r.order k) (nth s 0 (ORDER + k))
  says_order k l = code (ORDER + k) (λ r. eqb r.order k) (omega arith) (λ r h. in_order_lem r h k l)

  pub says_scope : (k : ℕ) → k < 8 → Says row n (λ r. eqb r.scope k) (nth s 0 (SCOPE + k))
  says_scope k l = code (SCOPE + k) (λ r. eqb r.scope k) (omega arith) (λ r h. in_scope r h k l)

  pub says_flags : (k : ℕ) → k < 8 → Says row n (λ r. eqb r.flags k) (nth s 0 (FLAGS + k))
  says_flags k l = code (FLAGS + k) (λ r. eqb r.flags k) (omega arith) (λ r h. in_flags r h k l)

  pub says_classes : (k : ℕ) → k < 16 → Says row n (λ r. eqb r.classes k) (nth s 0 (CLASSES + k))
  says_classes k l = code (CLASSES + k) (λ r. eqb r.classes k) (omega arith) (λ r h. in_classes r h k l)

  pub says_class : (k : ℕ) → k < 8 → Says row n (λ r. eqb r.class k) (nth s 0 (CLASS + k))
  says_class k l = code (CLASS + k) (λ r. eqb r.class k) (omega arith) (λ r h. in_class r h k l)

-- ---- laws: tests of kinds that are said by numbers in order

kind_access : (k : ℕ) → ((eqb k 0 or eqb k 2 or eqb k 4) or (eqb k 1 or eqb k 3 or eqb k 4)) ≡ leb k 4
unfolding ◌or◌
kind_access zero = refl
kind_access (suc zero) = refl
kind_access (suc (suc zero)) = refl
kind_access (suc (suc (suc zero))) = refl
kind_access (suc (suc (suc (suc zero)))) = refl
kind_access (suc (suc (suc (suc (suc k))))) = far (suc (suc (suc (suc (suc k))))) (omega arith)
  where
    far : (k : ℕ) → 4 < k → ((eqb k 0 or eqb k 2 or eqb k 4) or (eqb k 1 or eqb k 3 or eqb k 4)) ≡ leb k 4
    far k l =
        or_none (or_none (or_none (ne_eqb k 0 (λ e. omega arith)) (ne_eqb k 2 (λ e. omega arith))) (ne_eqb k 4 (λ e. omega arith)))
        (or_none (or_none (ne_eqb k 1 (λ e. omega arith)) (ne_eqb k 3 (λ e. omega arith))) (ne_eqb k 4 (λ e. omega arith)))
        ∙ sym (lt-leb k 4 l)

kind_atomic : (k : ℕ) → (eqb k 2 or eqb k 3 or eqb k 4) ≡ (leb 2 k and leb k 4)
unfolding ◌or◌ ◌and◌
kind_atomic zero = refl
kind_atomic (suc zero) = refl
kind_atomic (suc (suc zero)) = refl
kind_atomic (suc (suc (suc zero))) = refl
kind_atomic (suc (suc (suc (suc zero)))) = refl
kind_atomic (suc (suc (suc (suc (suc k))))) = far (suc (suc (suc (suc (suc k))))) (omega arith)
  where
    far : (k : ℕ) → 4 < k → (eqb k 2 or eqb k 3 or eqb k 4) ≡ (leb 2 k and leb k 4)
    far k l =
        or_none (or_none (ne_eqb k 2 (λ e. omega arith)) (ne_eqb k 3 (λ e. omega arith))) (ne_eqb k 4 (λ e. omega arith))
        ∙ sym (and_false_right (leb 2 k) (leb k 4) (lt-leb k 4 l))

flag_one : (k : ℕ) → k < 8 → (eqb k 1 or eqb k 3 or (eqb k 5 or eqb k 7)) ≡ meets k 1
unfolding ◌or◌ meets
flag_one zero l = refl
flag_one (suc zero) l = refl
flag_one (suc (suc zero)) l = refl
flag_one (suc (suc (suc zero))) l = refl
flag_one (suc (suc (suc (suc zero)))) l = refl
flag_one (suc (suc (suc (suc (suc zero))))) l = refl
flag_one (suc (suc (suc (suc (suc (suc zero)))))) l = refl
flag_one (suc (suc (suc (suc (suc (suc (suc zero))))))) l = refl
flag_one (suc (suc (suc (suc (suc (suc (suc (suc k)))))))) l = absurd (omega arith)

flag_two : (k : ℕ) → k < 8 → (eqb k 2 or eqb k 3 or (eqb k 6 or eqb k 7)) ≡ meets k 2
unfolding ◌or◌ meets
flag_two zero l = refl
flag_two (suc zero) l = refl
flag_two (suc (suc zero)) l = refl
flag_two (suc (suc (suc zero))) l = refl
flag_two (suc (suc (suc (suc zero)))) l = refl
flag_two (suc (suc (suc (suc (suc zero))))) l = refl
flag_two (suc (suc (suc (suc (suc (suc zero)))))) l = refl
flag_two (suc (suc (suc (suc (suc (suc (suc zero))))))) l = refl
flag_two (suc (suc (suc (suc (suc (suc (suc (suc k)))))))) l = absurd (omega arith)

flag_four : (k : ℕ) → k < 8 → (eqb k 4 or eqb k 5 or (eqb k 6 or eqb k 7)) ≡ meets k 4
unfolding ◌or◌ meets
flag_four zero l = refl
flag_four (suc zero) l = refl
flag_four (suc (suc zero)) l = refl
flag_four (suc (suc (suc zero))) l = refl
flag_four (suc (suc (suc (suc zero)))) l = refl
flag_four (suc (suc (suc (suc (suc zero))))) l = refl
flag_four (suc (suc (suc (suc (suc (suc zero)))))) l = refl
flag_four (suc (suc (suc (suc (suc (suc (suc zero))))))) l = refl
flag_four (suc (suc (suc (suc (suc (suc (suc (suc k)))))))) l = absurd (omega arith)

-- ---- laws: the tests of rows

module _ {row : ℕ → Row} {n : ℕ} {s : List ℕ} {x : Set} (g : Ground row n s) where
  two : (a b : ℕ) (p q : Row → Bool) → Says row n p (nth s 0 a) → Says row n q (nth s 0 b) → ((j : ℕ) → in_set x j ≡ (in_set (nth s 0 a) j or in_set (nth s 0 b) j))
      → Says row n (λ r. p r or q r) x
  two a b p q u v e = says_or p q u v e

  three : (a b c : ℕ) (p q o : Row → Bool) → Says row n p (nth s 0 a) → Says row n q (nth s 0 b) → Says row n o (nth s 0 c)
      → ((j : ℕ) → in_set x j ≡ (in_set (nth s 0 a) j or in_set (nth s 0 b) j or in_set (nth s 0 c) j)) → Says row n (λ r. p r or q r or o r) x
  three a b c p q o u v w e =
      record {
        is = λ j.
            e j ∙ ap₂ ◌or◌ (ap₂ ◌or◌ (u.is j) (v.is j) ∙ and_or (ltb j n) (p (row j)) (q (row j))) (w.is j) ∙ and_or (ltb j n) (p (row j) or q (row j)) (o (row j));
      }

  kinds_three : (a b c : ℕ) → a < 16 → b < 16 → c < 16
      → ((j : ℕ) → in_set x j ≡ (in_set (nth s 0 (KIND + a)) j or in_set (nth s 0 (KIND + b)) j or in_set (nth s 0 (KIND + c)) j))
      → Says row n (λ r. eqb r.kind a or eqb r.kind b or eqb r.kind c) x
  kinds_three a b c k l m e =
      three (KIND + a) (KIND + b) (KIND + c) (λ r. eqb r.kind a) (λ r. eqb r.kind b) (λ r. eqb r.kind c) (says_kind g a k) (says_kind g b l) (says_kind g c m) e

  pub says_reads : ((j : ℕ) → in_set x j ≡ (in_set (nth s 0 0) j or in_set (nth s 0 2) j or in_set (nth s 0 4) j)) → Says row n reads x
  unfolding reads
  says_reads e = kinds_three 0 2 4 (omega arith) (omega arith) (omega arith) e

  pub says_writes : ((j : ℕ) → in_set x j ≡ (in_set (nth s 0 1) j or in_set (nth s 0 3) j or in_set (nth s 0 4) j)) → Says row n writes x
  unfolding writes
  says_writes e = kinds_three 1 3 4 (omega arith) (omega arith) (omega arith) e

  pub says_atomic : ((j : ℕ) → in_set x j ≡ (in_set (nth s 0 2) j or in_set (nth s 0 3) j or in_set (nth s 0 4) j)) → Says row n atomic x
  unfolding atomic
  says_atomic e =
      says_cong (λ r. eqb r.kind 2 or eqb r.kind 3 or eqb r.kind 4) atomic (λ j l. kind_atomic (row j).kind)
      (kinds_three 2 3 4 (omega arith) (omega arith) (omega arith) e)

  pub says_ranked : ((j : ℕ) → in_set x j ≡ (in_set (nth s 0 3) j or in_set (nth s 0 4) j)) → Says row n ranked x
  unfolding ranked
  says_ranked e = two 3 4 (λ r. eqb r.kind 3) (λ r. eqb r.kind 4) (says_kind g 3 (omega arith)) (says_kind g 4 (omega arith)) e

  pub says_barrier : ((j : ℕ) → in_set x j ≡ (in_set (nth s 0 5) j or in_set (nth s 0 6) j)) → Says row n barrier x
  unfolding barrier
  says_barrier e = two 5 6 (λ r. eqb r.kind 5) (λ r. eqb r.kind 6) (says_kind g 5 (omega arith)) (says_kind g 6 (omega arith)) e

  pub says_acquires : ((j : ℕ) → in_set x j ≡ (in_set (nth s 0 49) j or in_set (nth s 0 51) j)) → Says row n acquires x
  unfolding acquires
  says_acquires e = two 49 51 (λ r. eqb r.order 1) (λ r. eqb r.order 3) (says_order g 1 (omega arith)) (says_order g 3 (omega arith)) e

  pub says_releases : ((j : ℕ) → in_set x j ≡ (in_set (nth s 0 50) j or in_set (nth s 0 51) j)) → Says row n releases x
  unfolding releases
  says_releases e = two 50 51 (λ r. eqb r.order 2) (λ r. eqb r.order 3) (says_order g 2 (omega arith)) (says_order g 3 (omega arith)) e

pub says_access : {row : ℕ → Row} {n : ℕ} {x y z : Set} → Says row n reads x → Says row n writes y → ((j : ℕ) → in_set z j ≡ (in_set x j or in_set y j)) → Says row n access z
unfolding reads writes access
says_access {row} a b e = says_cong (λ r. reads r or writes r) access (λ j l. kind_access (row j).kind) (says_or reads writes a b e)

-- flags: which of four values have the flag
module _ {row : ℕ → Row} {n : ℕ} {s : List ℕ} {z : Set} (g : Ground row n s) where
  four : (a b c d : ℕ) → a < 8 → b < 8 → c < 8 → d < 8
      → ((j : ℕ) → in_set z j ≡ (in_set (nth s 0 (FLAGS + a)) j or in_set (nth s 0 (FLAGS + b)) j or (in_set (nth s 0 (FLAGS + c)) j or in_set (nth s 0 (FLAGS + d)) j)))
      → Says row n (λ r. eqb r.flags a or eqb r.flags b or (eqb r.flags c or eqb r.flags d)) z
  four a b c d k l m o e =
      record {
        is = λ j.
            e j
            ∙ ap₂ ◌or◌ (ap₂ ◌or◌ ((says_flags g a k).is j) ((says_flags g b l).is j) ∙ and_or (ltb j n) (eqb (row j).flags a) (eqb (row j).flags b))
            (ap₂ ◌or◌ ((says_flags g c m).is j) ((says_flags g d o).is j) ∙ and_or (ltb j n) (eqb (row j).flags c) (eqb (row j).flags d))
            ∙ and_or (ltb j n) (eqb (row j).flags a or eqb (row j).flags b) (eqb (row j).flags c or eqb (row j).flags d);
      }

  pub says_public : ((j : ℕ) → in_set z j ≡ (in_set (nth s 0 61) j or in_set (nth s 0 63) j or (in_set (nth s 0 65) j or in_set (nth s 0 67) j))) → Says row n non_private z
  unfolding non_private
  says_public e =
      says_cong (λ r. eqb r.flags 1 or eqb r.flags 3 or (eqb r.flags 5 or eqb r.flags 7)) non_private (λ j l. flag_one (row j).flags (g.coded j l).flags)
      (four 1 3 5 7 (omega arith) (omega arith) (omega arith) (omega arith) e)

  pub says_available : ((j : ℕ) → in_set z j ≡ (in_set (nth s 0 62) j or in_set (nth s 0 63) j or (in_set (nth s 0 66) j or in_set (nth s 0 67) j)))
      → Says row n makes_available z
  unfolding makes_available
  says_available e =
      says_cong (λ r. eqb r.flags 2 or eqb r.flags 3 or (eqb r.flags 6 or eqb r.flags 7)) makes_available (λ j l. flag_two (row j).flags (g.coded j l).flags)
      (four 2 3 6 7 (omega arith) (omega arith) (omega arith) (omega arith) e)

  pub says_visible : ((j : ℕ) → in_set z j ≡ (in_set (nth s 0 64) j or in_set (nth s 0 65) j or (in_set (nth s 0 66) j or in_set (nth s 0 67) j))) → Says row n makes_visible z
  unfolding makes_visible
  says_visible e =
      says_cong (λ r. eqb r.flags 4 or eqb r.flags 5 or (eqb r.flags 6 or eqb r.flags 7)) makes_visible (λ j l. flag_four (row j).flags (g.coded j l).flags)
      (four 4 5 6 7 (omega arith) (omega arith) (omega arith) (omega arith) e)

-- ---- laws: sets that were put, and that others leave

pub says_put : {row : ℕ → Row} {n at : ℕ} {w u : List ℕ} {x : Set} (p : Row → Bool) → Stored at (in_set x) w u → Says row n p x → Says row n p (set_at u at)
says_put p f h = record { is = λ j. f.is j ∙ h.is j }

pub says_kept : {row : ℕ → Row} {n a b : ℕ} {w u : List ℕ} (at : ℕ) (p : Row → Bool) → (a < at + 2 → b ≤ at) → Within a b w u → Says row n p (set_at w at) → Says row n p (set_at u at)
says_kept at p off f h = record { is = λ j. ap (λ (x : Set). in_set x j) (set_kept at off f) ∙ h.is j }

pub ground_kept : {row : ℕ → Row} {n a b : ℕ} {w u : List ℕ} → 2 * FILED ≤ a → Within a b w u → Ground row n w → Ground row n u
ground_kept l f g = record { coded = g.coded; sets = family_kept (λ h. absurd (omega arith)) f g.sets }
