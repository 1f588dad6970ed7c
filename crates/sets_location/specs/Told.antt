-- The rules that read no byte, and the plain first elements of a row, by sets of rows. Assumes nothing.
use Rattle.std.specs.Prelude.{◌≡◌, refl, Bool, true, false, not, ◌&&◌, List, ℕ, ◌+◌, ◌*◌, ◌<◌, leb, eqb}
use Rattle.std.proofs.Common.{sym, ap, ◌∙◌, arith, leb-true, le-leb, eq-eqb}
use Rattle.std.proofs.Math.Path.{ap₂}
use Rattle.std.proofs.Math.Decide.{ℕ_discrete}
use Rattle.finite.specs.Logic.{◌and◌, ◌or◌, and_true, split, bool_ext, or_left, or_right, or_false, not_both, not_out, and_both}
use Rattle.model.specs.Row.{plain, access, reads, writes, non_private}
use Rattle.model.specs.Table.{Table}
use Rattle.model.specs.Moment.{same_agent, itself}
use Rattle.model.specs.Happens.{happens}
use Rattle.model.specs.Location.{pure_read, L1, L2, L4, L5}
use Rattle.model.specs.Availability.{same_reference}
use Rattle.model_laws.specs.PairLaws.{eqb_swap}
use Rattle.model_closing.specs.Order.{from_row}
use Rattle.work_area.specs.Regions.{OVERLAP}
use Rattle.work_area.specs.State.{overlaps}
use Rattle.model_placing.specs.Leads.{cond_on}
use Rattle.model_placing.specs.Elements.{avails, up_to, behind, behind_is}
use Rattle.model_placing.specs.Whole.{told, first_plain}
use Rattle.sets_of_rows.specs.declared.Set.{Set}
use Rattle.sets_of_rows.specs.Member.{in_set}
use Rattle.sets_of_rows.specs.Kept.{set_at}
use Rattle.sets_of_rows.specs.Rows.{Rows, rows_at, rows_and, rows_cong, rows_in_lem}
use Rattle.sets_of_table.specs.Tested.{WRITES, PUBLIC, AVAILABLE}
use Rattle.sets_of_table.specs.Sorted.{PLAIN}
use Rattle.sets_of_table.specs.Known.{REFERENCE, Opened, same_name, says_rows}
use Rattle.sets_grids.specs.Regions.{HAPPENS, HOSTED}
use Rattle.sets_grids.specs.Grid.{grid_at}
use Rattle.sets_grids.specs.Happens.{happens_rows}
use Rattle.sets_grids.specs.Hosted.{hosted_by}
use Rattle.sets_grids.specs.Location.{Locating}

-- ---- definitions

-- z has the accesses that the rules that read no byte order x before; of other rows it says nothing
pub record ToldTo (t : Table) (n x : ℕ) (z : Set) : Type 0 where
  pub is : (y : ℕ) → y < n → access (t.row y) ≡ true → in_set z y ≡ told t x y

-- ---- laws on Bools

first_law : (h s a r : Bool) → a ≡ true → ((h and s) and (a and r)) ≡ ((s and r) and h)
unfolding ◌and◌
first_law h s false r e = not_both e refl
first_law true true true true e = refl
first_law true true true false e = refl
first_law true false true r e = refl
first_law false true true true e = refl
first_law false true true false e = refl
first_law false false true r e = refl

second_law : (rd wr np h p : Bool) → (wr ≡ false → rd ≡ true) → ((np && not wr) and (h and p)) ≡ ((((rd and not wr) and np) and p) and h)
second_law rd wr np h p k =
    ap (λ (b : Bool). b and (h and p)) (and_both np (not wr))
    ∙ bool_ext _ _
    (λ e.
    let a = split (split e).0 in
    let b = split (split e).1 in
    and_true (and_true (and_true (and_true (k (not_out wr a.1)) a.1) a.0) b.1) b.0)
    (λ e.
    let a = split (split e).0 in
    let b = split a.0 in
    and_true (and_true b.1 (split b.0).1) (and_true (split e).1 a.1))

third_law : (l acc a b : Bool) → acc ≡ true → (l or (acc and (a or b))) ≡ ((l or a) or b)
unfolding ◌and◌ ◌or◌
third_law l false a b e = not_both e refl
third_law true true a b e = refl
third_law false true a b e = refl

-- an access that doesn't write reads
reads_else : (k : ℕ) → leb k 4 ≡ true → (eqb k 1 or eqb k 3 or eqb k 4) ≡ false → (eqb k 0 or eqb k 2 or eqb k 4) ≡ true
reads_else k l e = go (ℕ_discrete k 0) (ℕ_discrete k 2) (ℕ_discrete k 4) (ℕ_discrete k 1) (ℕ_discrete k 3)
  where
    off : (eqb k 1 ≡ false) × (eqb k 3 ≡ false)
    off = or_false (eqb k 1) (eqb k 3) (or_false (eqb k 1 or eqb k 3) (eqb k 4) e).0

    go : Dec (k ≡ 0) → Dec (k ≡ 2) → Dec (k ≡ 4) → Dec (k ≡ 1) → Dec (k ≡ 3) → (eqb k 0 or eqb k 2 or eqb k 4) ≡ true
    go (yes a) b c d f = or_left (eqb k 4) (or_left (eqb k 2) (eq-eqb k 0 a))
    go (no a) (yes b) c d f = or_left (eqb k 4) (or_right (eqb k 0) (eq-eqb k 2 b))
    go (no a) (no b) (yes c) d f = or_right (eqb k 0 or eqb k 2) (eq-eqb k 4 c)
    go (no a) (no b) (no c) (yes d) f = not_both (eq-eqb k 1 d) off.0
    go (no a) (no b) (no c) (no d) (yes f) = not_both (eq-eqb k 3 f) off.1
    go (no a) (no b) (no c) (no d) (no f) = let h = leb-true k 4 l in absurd (omega arith)

-- ---- laws

module _ {t : Table} {n : ℕ} {s w : List ℕ} (o : Opened t n s) (lc : Locating t n w) (x : ℕ) (l : x < n) (is : access (t.row x) ≡ true) where
  reads_here : writes (t.row x) ≡ false → reads (t.row x) ≡ true
  unfolding writes reads access
  reads_here e = reads_else (t.row x).kind is e

  pub told_set : (hs ps ags own rs one ws two both hosted some z : Set) (hp hw : Bool) → hs ≡ set_at w (HAPPENS + 2 * x) → ps ≡ set_at s PUBLIC
      → Rows n (same_agent t x) ags → ((j : ℕ) → in_set own j ≡ (in_set hs j and in_set ags j)) → rs ≡ set_at s (REFERENCE + 2 * x)
      → ((j : ℕ) → in_set one j ≡ (in_set own j and in_set rs j)) → hp ≡ in_set ps x → ws ≡ set_at s WRITES → hw ≡ in_set ws x
      → ((j : ℕ) → in_set both j ≡ (in_set hs j and in_set ps j)) → ((j : ℕ) → in_set two j ≡ ((hp && not hw) and in_set both j))
      → ((j : ℕ) → in_set some j ≡ (in_set one j or in_set two j)) → hosted ≡ set_at w (HOSTED + 2 * x) → ((j : ℕ) → in_set z j ≡ (in_set some j or in_set hosted j))
      → ToldTo t n x z
  unfolding told L1 L2 pure_read happens_rows hosted_by same_name
  told_set hs ps ags own rs one ws two both hosted some z hp hw e1 e2 e3 e4 e5 e6 e7 e8 e9 e10 e11 e12 e13 e14 =
      record {
        is = λ y m a.
            e14 y ∙ ap₂ ◌or◌ (e12 y ∙ ap₂ ◌or◌ (here y m a) (there y m)) (rows_in_lem (grid_at lc.hosted l e13) y m)
            ∙ third_law (L1 t x y or L2 t x y) (access (t.row x)) (L4 t x y) (L5 t x y) is;
      }
    where
      happening : (y : ℕ) → y < n → in_set hs y ≡ happens t (itself x) (itself y)
      happening y m = rows_in_lem (grid_at lc.happening l e1) y m

      public : (y : ℕ) → y < n → in_set ps y ≡ non_private (t.row y)
      public y m = rows_in_lem (rows_at e2 (says_rows o.known.tested.marked.public)) y m

      writing : in_set ws x ≡ writes (t.row x)
      writing = rows_in_lem (rows_at e8 (says_rows o.known.tested.accesses.writes)) x l

      here : (y : ℕ) → y < n → access (t.row y) ≡ true → in_set one y ≡ L1 t x y
      here y m a =
          e6 y ∙ ap₂ ◌and◌ (e4 y ∙ ap₂ ◌and◌ (happening y m) (rows_in_lem e3 y m)) (rows_in_lem (rows_at e5 (o.known.reference x l is)) y m)
          ∙ first_law (happens t (itself x) (itself y)) (same_agent t x y) (access (t.row y)) (same_reference (t.row x) (t.row y)) a

      there : (y : ℕ) → y < n → in_set two y ≡ L2 t x y
      there y m =
          e11 y
          ∙ ap₂ ◌and◌ (ap₂ (λ (u v : Bool). u && not v) (e7 ∙ public x l) (e9 ∙ writing)) (e10 y ∙ ap₂ ◌and◌ (happening y m) (public y m))
          ∙ second_law (reads (t.row x)) (writes (t.row x)) (non_private (t.row x)) (happens t (itself x) (itself y)) (non_private (t.row y)) reads_here

  -- the plain first elements of x
  pub first_set : (vs ps both rs ov here some on z : Set) → vs ≡ set_at s AVAILABLE → ps ≡ set_at s PLAIN → ((j : ℕ) → in_set both j ≡ (in_set vs j and in_set ps j))
      → rs ≡ set_at s (REFERENCE + 2 * x) → ov ≡ set_at w (OVERLAP + 2 * x) → ((j : ℕ) → in_set here j ≡ (in_set rs j and in_set ov j))
      → ((j : ℕ) → in_set some j ≡ (in_set both j and in_set here j)) → Rows n (from_row t x) on → ((j : ℕ) → in_set z j ≡ (in_set some j and in_set on j))
      → Rows n (first_plain t x) z
  unfolding same_name overlaps from_row first_plain same_reference same_agent up_to plain access
  first_set vs ps both rs ov here some on z e1 e2 e3 e4 e5 e6 e7 e8 e9 = rows_cong same (rows_and three e8 e9)
    where
      one : Rows n (λ j. avails (t.row j) and plain (t.row j)) both
      one = rows_and (rows_at e1 (says_rows o.known.tested.marked.available)) (rows_at e2 (says_rows o.known.sorted.plain)) e3

      two : Rows n (λ j. same_name t x j and overlaps t x j) here
      two = rows_and (rows_at e4 (o.known.reference x l is)) (grid_at lc.overlapping l e5) e6

      three : Rows n (λ j. (avails (t.row j) and plain (t.row j)) and (same_name t x j and overlaps t x j)) some
      three = rows_and one two e7

      same : (j : ℕ) → j < n → (((avails (t.row j) and plain (t.row j)) and (same_name t x j and overlaps t x j)) and from_row t x j) ≡ first_plain t x j
      same j m =
          bool_ext (((avails (t.row j) and plain (t.row j)) and (same_name t x j and overlaps t x j)) and from_row t x j) (first_plain t x j)
          (λ e.
          let a = split (split e).0 in
          let p = split a.0 in
          let q = split a.1 in
          let r = split (split e).1 in
          and_true (and_true (and_true p.1 (is_behind.1 p.1 p.0 r.1 r.0)) (eqb_swap (t.row j).reference (t.row x).reference ∙ (split q.0).1)) q.1)
          (λ e.
          let a = split e in
          let b = split a.0 in
          let c = split b.0 in
          let d = is_behind.0 c.0 c.1 in
          and_true (and_true (and_true d.0 c.0) (and_true (and_true (plain_access c.0) (eqb_swap (t.row x).reference (t.row j).reference ∙ b.1)) a.1))
          (and_true d.2 d.1))
        where
          inside : (x < t.rows) × (j < t.rows)
          inside = let r = o.rows in (omega arith, omega arith)

          plain_access : leb (t.row j).kind 1 ≡ true → leb (t.row j).kind 4 ≡ true
          plain_access e = let h = leb-true (t.row j).kind 1 e in le-leb (t.row j).kind 4 (omega arith)

          is_behind : (plain (t.row j) ≡ true → behind t x j ≡ true → (avails (t.row j) ≡ true) × (eqb (t.row x).agent (t.row j).agent ≡ true) × (leb x j ≡ true))
              × (plain (t.row j) ≡ true → avails (t.row j) ≡ true → eqb (t.row x).agent (t.row j).agent ≡ true → leb x j ≡ true → behind t x j ≡ true)
          is_behind = (
            λ p b.
                let f = split (sym (behind_is t x j inside.0 inside.1) ∙ b) in
                let g = split f.0 in
                (g.0, eqb_swap (t.row x).agent (t.row j).agent ∙ g.1, sym (cond_on _ _ _ p) ∙ f.1),
            λ p a g f.
                behind_is t x j inside.0 inside.1
                ∙ and_true (and_true a (eqb_swap (t.row j).agent (t.row x).agent ∙ g)) (cond_on _ _ _ p ∙ f),
          )
