-- What every set holds, from what makes each group of them. Assumes nothing.
use Rattle.std.specs.Prelude.{◌≡◌, Bool, true, false, List, ℕ, ◌+◌, ◌*◌, ◌≤◌, ◌<◌, ltb}
use Rattle.std.proofs.Math.Path.{refl}
use Rattle.std.proofs.Common.{sym, ◌∙◌, arith}
use Rattle.std.proofs.Math.Dec.{eqb}
use borrow.Author.Tests.{eqb-true, eq-eqb, ltb-true, lt-ltb}
use Rattle.finite.specs.Logic.{◌and◌, bool_ext, split, and_true}
use Rattle.model.specs.declared.Row.{Row}
use Rattle.model.specs.Limits.{ROWS}
use Rattle.model.specs.Row.{access}
use Rattle.model.specs.Scope.{same_location}
use Rattle.model.specs.Location.{on_host}
use Rattle.model.specs.Availability.{same_reference}
use Rattle.model.specs.Table.{Mode, Table, row_of, decode}
use Rattle.model_placing.specs.Shares.{share, hears}
use Rattle.bits.specs.Within.{Within, within_trans, within_widen}
use Rattle.sets_of_rows.specs.declared.Set.{Set}
use Rattle.sets_of_rows.specs.Member.{in_set}
use Rattle.sets_of_rows.specs.Kept.{set_at, set_kept}
use Rattle.sets_of_rows.specs.Family.{nth}
use Rattle.sets_of_rows.specs.Rows.{Rows, rows_at}
use Rattle.sets_of_table.specs.Filed.{CodedRows, Files}
use Rattle.sets_of_table.specs.Says.{Says}
use Rattle.sets_of_table.specs.Tested.{Tested, tested_kept, Makes, READS, ACCESS, TESTS_END}
use Rattle.sets_of_table.specs.Sorted.{Sorts, sorted_kept}
use Rattle.sets_of_table.specs.Share.{SCOPES, SHARE, share_says, agent_some}
use Rattle.sets_of_table.specs.Hears.{HEARS, ON_HOST, SharesAll, hears_says, hosts_says}
use Rattle.sets_of_table.specs.Number.{key_of, key_in, key_location}
use Rattle.sets_of_table.specs.Placed.{Grouped}
use Rattle.sets_of_table.specs.Fit.{Fit}
use Rattle.sets_of_table.specs.Known.{PLACE, REFERENCE, WORDS, same_place, same_name, MadeKnown}

-- ---- laws: what rows have in common

location_key : (r q : Row) → same_location r q ≡ true → key_of r ≡ key_of q
unfolding key_of same_location
location_key r q e =
    let a = split e in
    let b = split a.0 in
    let x : r.start ≡ q.start = eqb-true r.start q.start b.0 in
    let y : r.size ≡ q.size = eqb-true r.size q.size b.1 in
    let z : r.reference ≡ q.reference = eqb-true r.reference q.reference a.1 in
    omega arith

module _ {t : Table} {n : ℕ} (f : Fit t) (rows_are : t.rows ≡ n) {base : ℕ} {key : ℕ → ℕ} {x : Set} {s u : List ℕ} (says : Says t.row n access x)
    (g : Grouped base key x s u) (i : ℕ) (l : i < n) (a : access (t.row i) ≡ true) where
  -- a group's set has the accesses that pass a test, where that is having one key
  grouped_rows : (p : ℕ → ℕ → Bool) → ((j : ℕ) → j < n → access (t.row j) ≡ true → eqb (key i) (key j) ≡ p i j)
      → Rows n (λ j. access (t.row j) and p i j) (nth u base i)
  grouped_rows p e = record { is = λ j. g.is i j (omega (arith, rows_are, f.few)) ∙ bool_ext _ _ (out j) (back j) }
    where
      member : in_set x i ≡ true
      member = says.is i ∙ and_true (lt-ltb i n l) a

      out : (j : ℕ) → (in_set x i and (in_set x j and eqb (key i) (key j))) ≡ true → (ltb j n and (access (t.row j) and p i j)) ≡ true
      out j h =
          let b = split (split h).1 in
          let c = split (sym (says.is j) ∙ b.0) in
          and_true c.0 (and_true c.1 (sym (e j (ltb-true j n c.0) c.1) ∙ b.1))

      back : (j : ℕ) → (ltb j n and (access (t.row j) and p i j)) ≡ true → (in_set x i and (in_set x j and eqb (key i) (key j))) ≡ true
      back j h =
          let b = split h in
          let c = split b.1 in
          and_true member (and_true (says.is j ∙ and_true b.0 c.0) (e j (ltb-true j n b.0) c.0 ∙ c.1))

-- ---- laws: all sets

module _ (b : List ℕ) (p : List (List ℕ)) (mode : Mode) (n : ℕ) {s u v w x y z : List ℕ} (f : Fit (decode b p mode n)) (filed : Files b n s u)
    (made : Makes READS TESTS_END Tested u v) (sorts : Sorts v w) (shares_are : SharesAll p w x)
    (places_are : Grouped PLACE (key_in true b) (set_at x ACCESS) x y) (names_are : Grouped REFERENCE (key_in false b) (set_at y ACCESS) y z) where
  few : n ≤ ROWS
  unfolding decode
  few = f.few

  coded : CodedRows b n
  unfolding decode
  coded = record { each = f.coded }

  tested_v : Tested (row_of b) n v
  tested_v = made.made (row_of b) n (record { coded = coded.each; sets = filed.sets })

  tested_w : Tested (row_of b) n w
  tested_w = tested_kept (omega arith) sorts.frame tested_v

  tested_x : Tested (row_of b) n x
  tested_x = tested_kept (omega arith) shares_are.frame tested_w

  tested_y : Tested (row_of b) n y
  tested_y = tested_kept (omega arith) places_are.frame tested_x

  later : Within PLACE WORDS x z
  later = within_trans (within_widen PLACE WORDS (omega arith) (omega arith) places_are.frame) (within_widen PLACE WORDS (omega arith) (omega arith) names_are.frame)

  share_x : (i q j : ℕ) → i < n → q < SCOPES
      → in_set (nth x (SHARE + 10 * (row_of b i).agent) q) j ≡ (ltb j n and share (decode b p mode n) (row_of b i).agent q j)
  unfolding share decode
  share_x i q j l m =
      shares_are.shares (row_of b i).agent q j (coded.each i l).agent (agent_some tested_w.ground i l few) m
      ∙ share_says p tested_w.ground (row_of b i).agent q j

  hears_x : (i j : ℕ) → i < n → in_set (nth x HEARS (row_of b i).agent) j ≡ (ltb j n and hears (decode b p mode n) (row_of b i).agent j)
  unfolding hears share decode
  hears_x i j l =
      hears_says p tested_x.ground (row_of b i).agent (λ k m. let c = f.scoped k m in omega arith) (λ q k m. share_x i q k l m)
      (record { is = λ k. shares_are.heard (row_of b i).agent k (coded.each i l).agent (agent_some tested_w.ground i l few) }) j

  keys_same : (i j : ℕ) → i < n → j < n → access (row_of b i) ≡ true → access (row_of b j) ≡ true → eqb (key_in true b i) (key_in true b j) ≡ same_location (row_of b i) (row_of b j)
  unfolding key_in decode
  keys_same i j l m a c =
      bool_ext _ _
      (λ e.
      let d = f.sized i l in
      let g = f.sized j m in
      let h = f.ended i l a in
      let k = f.ended j m c in
      let o = f.filled i l a in
      let q = f.filled j m c in
      key_location (row_of b i) (row_of b j) (omega arith) (omega arith) (omega arith) (omega arith) (eqb-true (key_of (row_of b i)) (key_of (row_of b j)) e))
      (λ e. eq-eqb (key_of (row_of b i)) (key_of (row_of b j)) (location_key (row_of b i) (row_of b j) e))

  place_y : (i : ℕ) → i < n → access (row_of b i) ≡ true → Rows n (same_place (decode b p mode n) i) (nth y PLACE i)
  unfolding same_place decode
  place_y i l a =
      grouped_rows f refl tested_x.accesses.access places_are i l a (λ k j. same_location (row_of b k) (row_of b j)) (λ j m c. keys_same i j l m a c)

  name_z : (i : ℕ) → i < n → access (row_of b i) ≡ true → Rows n (same_name (decode b p mode n) i) (nth z REFERENCE i)
  unfolding same_name same_reference key_in decode
  name_z i l a =
      grouped_rows f refl tested_y.accesses.access names_are i l a (λ k j. eqb (row_of b k).reference (row_of b j).reference) (λ j m c. refl)

  pub prepared : MadeKnown (decode b p mode n) n s z
  unfolding decode on_host
  prepared =
      record {
        known =
            record {
              tested = tested_kept (omega arith) later tested_x;
              sorted = sorted_kept (omega arith) later (sorted_kept (omega arith) shares_are.frame (sorts.made (row_of b) n tested_v));
              share = λ i q l m.
                  let c = (coded.each i l).agent in
                  rows_at (set_kept (SHARE + 10 * (row_of b i).agent + 2 * q) (λ h. absurd (omega arith)) later) (record { is = λ j. share_x i q j l m });
              hears = λ i l.
                  let c = (coded.each i l).agent in
                  rows_at (set_kept (HEARS + 2 * (row_of b i).agent) (λ h. absurd (omega arith)) later) (record { is = λ j. hears_x i j l });
              hosts = rows_at (set_kept ON_HOST (λ h. absurd (omega arith)) later) (record { is = λ j. shares_are.hosts j ∙ hosts_says p tested_w.ground j });
              place = λ i l a. rows_at (set_kept (PLACE + 2 * i) (λ h. absurd (omega (arith, few))) names_are.frame) (place_y i l a);
              reference = name_z;
            };
        frame =
            within_trans (within_widen 0 WORDS (omega arith) (omega arith) filed.frame)
            (within_trans (within_widen 0 WORDS (omega arith) (omega arith) made.frame)
            (within_trans (within_widen 0 WORDS (omega arith) (omega arith) sorts.frame)
            (within_trans (within_widen 0 WORDS (omega arith) (omega arith) shares_are.frame) (within_widen 0 WORDS (omega arith) (omega arith) later))));
      }
