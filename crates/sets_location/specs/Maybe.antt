-- The rows that may meet a part of a public write: none that does is left out. Assumes nothing.
use Rattle.std.specs.Prelude.{◌≡◌, Bool, ◌⊎◌, List, ℕ, ◌<◌}
use Rattle.std.proofs.Common.{sym, ◌∙◌, inl, inr, arith}
use Rattle.std.proofs.Math.Bool.{true, false, not, cond}
use Rattle.std.proofs.Math.Logic.{⊎_elim}
use Rattle.finite.specs.Logic.{◌and◌, ◌or◌, split, and_true, or_cases, or_left, or_right, which, not_in}
use Rattle.finite.specs.Below.{any_below, any_in, any_out}
use Rattle.model.specs.Row.{access, reads}
use Rattle.model.specs.Table.{Table}
use Rattle.model_placing.specs.Leads.{meets, cond_on, cond_off}
use Rattle.model_placing.specs.Elements.{vis_wide, vis_plain, seen, seen_from, behind_is}
use Rattle.model_placing.specs.Whole.{narrow, first_plain, strong_to}
use Rattle.model_placing.specs.Writer.{wide_in, plain_in, wide_after, plain_after, maybe_by, maybe}
use Rattle.sets_of_rows.specs.declared.Set.{Set}
use Rattle.sets_of_rows.specs.Member.{in_set}
use Rattle.sets_grids.specs.Regions.{AVAILABLE_TO, VISIBLE_BY}
use Rattle.sets_grids.specs.Available.{makes, shown_to}
use Rattle.sets_grids.specs.Union.{led_by, union_rows}
use Rattle.sets_grids.specs.Filling.{member_in}
use Rattle.sets_grids.specs.Location.{Locating}
use Rattle.model.specs.Limits.{ROWS}
use Rattle.sets_of_rows.specs.Kept.{set_at}
use Rattle.sets_of_rows.specs.Tasks.{leads}
use Rattle.sets_of_rows.specs.Rows.{Rows, rows_at, rows_and, rows_or, rows_less, rows_in_lem}
use Rattle.sets_of_table.specs.Ask.{few}
use Rattle.sets_of_table.specs.Tested.{READS}
use Rattle.sets_of_table.specs.Known.{Opened, says_rows}
use Rattle.sets_location.specs.declared.part.Available.{Available}
use Rattle.sets_location.specs.Seen.{Among}
use Rattle.sets_location.specs.Elements.{plain_shown, wide_shown, shown_plain, shown_wide}
use Rattle.sets_location.specs.Met.{Grasps}

-- ---- laws

module _ (t : Table) where
  -- more is seen of more
  pub seen_more : (b : Bool) (p q : ℕ → Bool) (y : ℕ) → ((v : ℕ) → v < t.rows → p v ≡ true → q v ≡ true) → seen t b p y ≡ true → seen t b q y ≡ true
  unfolding seen seen_from
  seen_more b p q y h e =
      let v = any_out (seen_from t b p y) t.rows e in
      let f = split v.2 in
      let g = split f.0 in
      any_in (seen_from t b q y) t.rows v.0 v.1 (and_true (and_true (h v.0 v.1 g.0) g.1) f.1)

  -- what is reached by way of first elements over a part of x (at, visible), or is shown by plain rows of what is made available whole, holds all that may be met
  pub maybe_in : (x y : ℕ) (at visible wide plainly : ℕ → Bool)
      → ((a : ℕ) → a < t.rows → narrow t x a ≡ true → meets t a y ≡ true → at y ≡ true)
      → ((a v : ℕ) → a < t.rows → v < t.rows → narrow t x a ≡ true → shown_to t a v ≡ true → visible v ≡ true)
      → ((v : ℕ) → v < t.rows → visible v ≡ true → vis_wide t (t.row x).class v ≡ true → wide v ≡ true)
      → ((v : ℕ) → v < t.rows → (visible v or strong_to t (shown_to t) x v) ≡ true → vis_plain t x v ≡ true → plainly v ≡ true)
      → maybe t (meets t) (shown_to t) x y ≡ true
      → ((at y and not (reads (t.row y))) or ((seen t false wide y or seen t true plainly y) and reads (t.row y))) ≡ true
  unfolding maybe maybe_by wide_after plain_after wide_in plain_in
  maybe_in x y at visible wide plainly to by widely plain_ly e =
      ⊎_elim
      (λ h.
      let p = split h in
      or_right _ (and_true (or_right _ (seen_more true (plain_in t x (strong_to t (shown_to t) x)) plainly y
      (λ v l m. let q = split m in plain_ly v l (or_right (visible v) q.1) q.0) p.1)) p.0))
      (λ h.
      let a = any_out (maybe_by t (meets t) (shown_to t) x y) t.rows h in
      let p = split a.2 in
      one a.0 a.1 p.0 p.1 (which (reads (t.row y))))
      (or_cases (reads (t.row y) and plain_after t x (strong_to t (shown_to t) x) y) _ e)
    where
      one : (a : ℕ) → a < t.rows → narrow t x a ≡ true
          → cond (reads (t.row y)) (wide_after t x (shown_to t a) y or plain_after t x (shown_to t a) y) (meets t a y) ≡ true
          → (reads (t.row y) ≡ true) ⊎ (reads (t.row y) ≡ false)
          → ((at y and not (reads (t.row y))) or ((seen t false wide y or seen t true plainly y) and reads (t.row y))) ≡ true
      one a l n c (inl r) =
          or_right _ (and_true (⊎_elim
          (λ h. or_left _ (seen_more false (wide_in t x (shown_to t a)) wide y (λ v m k. let q = split k in widely v m (by a v l m n q.1) q.0) h))
          (λ h. or_right _ (seen_more true (plain_in t x (shown_to t a)) plainly y
          (λ v m k. let q = split k in plain_ly v m (or_left _ (by a v l m n q.1)) q.0) h))
          (or_cases (wide_after t x (shown_to t a) y) _ (sym (cond_on _ _ _ r) ∙ c))) r)
      one a l n c (inr r) = or_left _ (and_true (to a l n (sym (cond_off _ _ _ r) ∙ c)) (not_in r))

-- ---- the set of them

pub record Maybes (t : Table) (n x : ℕ) (z : Set) : Type 0 where
  pub low : Among n z
  pub all : (y : ℕ) → y < n → maybe t (meets t) (shown_to t) x y ≡ true → in_set z y ≡ true

pub narrow_makes : (t : Table) (x a : ℕ) → x < t.rows → a < t.rows → narrow t x a ≡ true → makes t a ≡ true
unfolding narrow first_plain makes
narrow_makes t x a l m e = (split (split (sym (behind_is t x a l m) ∙ (split (split (split (split e).0).0).0).1)).0).0

module _ {t : Table} {n : ℕ} {s w : List ℕ} (o : Opened t n s) (lc : Locating t n w) (x : ℕ) (l : x < n) (is : access (t.row x) ≡ true) {g : Available} (h : Grasps t n x g)
    (at visible : Set) (e1 : (j : ℕ) → in_set at j ≡ any_below ROWS (leads w AVAILABLE_TO g.parts j))
    (e2 : (j : ℕ) → in_set visible j ≡ any_below ROWS (leads w VISIBLE_BY g.parts j)) where
  makes_in : (a : ℕ) → a < n → narrow t x a ≡ true → makes t a ≡ true
  makes_in a m e = let r = o.rows in narrow_makes t x a (omega arith) (omega arith) e

  at_rows : Rows n (λ j. any_below n (led_by (narrow t x) (meets t) j)) at
  at_rows = union_rows (few o) lc.available.to h.parts makes_in e1

  visible_rows_lem : Rows n (λ j. any_below n (led_by (narrow t x) (shown_to t) j)) visible
  visible_rows_lem = union_rows (few o) lc.available.by h.parts makes_in e2

  pub visible_among : (v z : Set) → ((j : ℕ) → in_set z j ≡ (in_set visible j and in_set v j)) → Among n z
  visible_among v z e j m = (member_in j visible_rows_lem (split (sym (e j) ∙ m)).0).0

  pub either_among : (a v z : Set) → ((j : ℕ) → in_set a j ≡ (in_set visible j or in_set g.by j)) → ((j : ℕ) → in_set z j ≡ (in_set a j and in_set v j)) → Among n z
  either_among a v z f e j m =
      ⊎_elim (λ q. (member_in j visible_rows_lem q).0) (λ q. (member_in j h.by q).0) (or_cases (in_set visible j) _ (sym (f j) ∙ (split (sym (e j) ∙ m)).0))

  pub maybe_set : (rs wv a1 sw o1 pv by sp l1 o2 l2 z : Set) → rs ≡ set_at s READS → ((j : ℕ) → in_set wv j ≡ wide_shown s (t.row x).class j)
      → ((j : ℕ) → in_set a1 j ≡ (in_set visible j and in_set wv j)) → Rows n (seen t false (in_set a1)) sw → ((j : ℕ) → in_set o1 j ≡ (in_set visible j or in_set g.by j))
      → ((j : ℕ) → in_set pv j ≡ plain_shown s x j) → ((j : ℕ) → in_set by j ≡ (in_set o1 j and in_set pv j)) → Rows n (seen t true (in_set by)) sp
      → ((j : ℕ) → in_set l1 j ≡ (in_set at j and not (in_set rs j))) → ((j : ℕ) → in_set o2 j ≡ (in_set sw j or in_set sp j))
      → ((j : ℕ) → in_set l2 j ≡ (in_set o2 j and in_set rs j)) → ((j : ℕ) → in_set z j ≡ (in_set l1 j or in_set l2 j)) → Maybes t n x z
  unfolding led_by
  maybe_set rs wv a1 sw o1 pv by sp l1 o2 l2 z f1 f2 f3 f4 f5 f6 f7 f8 f9 f10 f11 f12 = record { low = λ j m. (member_in j whole m).0; all = every }
    where
      reading : Rows n (λ j. reads (t.row j)) rs
      reading = rows_at f1 (says_rows o.known.tested.accesses.reads)

      whole : Rows n (λ j. (any_below n (led_by (narrow t x) (meets t) j) and not (reads (t.row j)))
          or ((seen t false (in_set a1) j or seen t true (in_set by) j) and reads (t.row j))) z
      whole = rows_or (rows_less at_rows reading f9) (rows_and (rows_or f4 f8 f10) reading f11) f12

      every : (y : ℕ) → y < n → maybe t (meets t) (shown_to t) x y ≡ true → in_set z y ≡ true
      every y m e =
          rows_in_lem whole y m
          ∙ maybe_in t x y (λ j. any_below n (led_by (narrow t x) (meets t) j)) (in_set visible) (in_set a1) (in_set by)
          (λ a k p q. let r = o.rows in any_in (led_by (narrow t x) (meets t) y) n a (omega arith) (and_true p q))
          (λ a v k i p q. let r = o.rows in rows_in_lem visible_rows_lem v (omega arith) ∙ any_in (led_by (narrow t x) (shown_to t) v) n a (omega arith) (and_true p q))
          (λ v k p q. let r = o.rows in f3 v ∙ and_true p (rows_in_lem (shown_wide o x l is wv f2) v (omega arith) ∙ q))
          (λ v k p q. let r = o.rows in
          f7 v ∙ and_true (f5 v ∙ ⊎_elim (λ i. or_left _ i) (λ i. or_right _ (rows_in_lem h.by v (omega arith) ∙ i)) (or_cases (in_set visible v) _ p))
          (rows_in_lem (shown_plain o x l is pv f6) v (omega arith) ∙ q)) e
