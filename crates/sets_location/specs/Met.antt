-- What is made available of a public write, and the rows that meet all of it by operations that cover all shared bytes. Assumes nothing.
use Rattle.std.specs.Prelude.{◌≡◌, refl, Bool, true, false, not, cond, List, ℕ, ◌<◌}
use Rattle.std.proofs.Common.{sym, ap, ◌∙◌}
use Rattle.finite.specs.Logic.{◌and◌, ◌or◌, split}
use Rattle.model.specs.Row.{access, reads}
use Rattle.model.specs.Table.{Table}
use Rattle.model_placing.specs.Leads.{meets}
use Rattle.model_placing.specs.Elements.{vis_wide, seen}
use Rattle.model_placing.specs.Whole.{narrow, strong_to}
use Rattle.model_placing.specs.Writer.{wide_in, wide_after, full_set}
use Rattle.sets_of_rows.specs.declared.Set.{Set}
use Rattle.sets_of_rows.specs.Member.{in_set}
use Rattle.sets_of_rows.specs.Kept.{set_at}
use Rattle.sets_of_rows.specs.Rows.{Rows, rows_at, rows_and, rows_or, rows_less, rows_cong, rows_in_lem}
use Rattle.sets_of_table.specs.Tested.{READS}
use Rattle.sets_of_table.specs.Known.{Opened, says_rows}
use Rattle.sets_grids.specs.Available.{shown_to}
use Rattle.sets_grids.specs.Filling.{member_in}
use Rattle.sets_location.specs.declared.part.Available.{Available}
use Rattle.sets_location.specs.Seen.{Among, seen_cong}
use Rattle.sets_location.specs.Elements.{wide_shown, shown_wide}

-- ---- definitions

-- g has the rows that the first elements at each of x's bytes lead to, those whose visibility operations show it then, and the first elements over a part of x
pub record Grasps (t : Table) (n x : ℕ) (g : Available) : Type 0 where
  pub to : Rows n (strong_to t (meets t) x) g.to
  pub by : Rows n (strong_to t (shown_to t) x) g.by
  pub parts : Rows n (narrow t x) g.parts

-- ---- laws

choice : (r a b : Bool) → ((a and not r) or (b and r)) ≡ cond r b a
unfolding ◌and◌ ◌or◌
choice true true true = refl
choice true true false = refl
choice true false true = refl
choice true false false = refl
choice false true true = refl
choice false true false = refl
choice false false true = refl
choice false false false = refl

and_swap : (a b : Bool) → (a and b) ≡ (b and a)
unfolding ◌and◌
and_swap true true = refl
and_swap true false = refl
and_swap false true = refl
and_swap false false = refl

module _ {t : Table} {n : ℕ} {s : List ℕ} (o : Opened t n s) (x : ℕ) (l : x < n) (is : access (t.row x) ≡ true) {g : Available} (h : Grasps t n x g) where
  pub wide_among : (v wide : Set) → ((j : ℕ) → in_set wide j ≡ (in_set g.by j and in_set v j)) → Among n wide
  wide_among v wide e j m = (member_in j h.by (split (sym (e j) ∙ m)).0).0

  pub met_set : (rs v wide sn one two z : Set) → rs ≡ set_at s READS → ((j : ℕ) → in_set v j ≡ wide_shown s (t.row x).class j)
      → ((j : ℕ) → in_set wide j ≡ (in_set g.by j and in_set v j)) → Rows n (seen t false (in_set wide)) sn
      → ((j : ℕ) → in_set one j ≡ (in_set g.to j and not (in_set rs j))) → ((j : ℕ) → in_set two j ≡ (in_set sn j and in_set rs j))
      → ((j : ℕ) → in_set z j ≡ (in_set one j or in_set two j)) → Rows n (full_set t (meets t) (shown_to t) x) z
  unfolding full_set wide_after wide_in
  met_set rs v wide sn one two z e1 e2 e3 e4 e5 e6 e7 = rows_cong same (rows_or first second e7)
    where
      reading : Rows n (λ j. reads (t.row j)) rs
      reading = rows_at e1 (says_rows o.known.tested.accesses.reads)

      members : Rows n (λ j. strong_to t (shown_to t) x j and vis_wide t (t.row x).class j) wide
      members = rows_and h.by (shown_wide o x l is v e2) e3

      first : Rows n (λ j. strong_to t (meets t) x j and not (reads (t.row j))) one
      first = rows_less h.to reading e5

      second : Rows n (λ j. seen t false (in_set wide) j and reads (t.row j)) two
      second = rows_and e4 reading e6

      same : (j : ℕ) → j < n → ((strong_to t (meets t) x j and not (reads (t.row j))) or (seen t false (in_set wide) j and reads (t.row j)))
          ≡ full_set t (meets t) (shown_to t) x j
      same j m =
          choice (reads (t.row j)) (strong_to t (meets t) x j) (seen t false (in_set wide) j)
          ∙ ap (λ (b : Bool). cond (reads (t.row j)) b (strong_to t (meets t) x j))
          (seen_cong t n o.rows false (in_set wide) (wide_in t x (strong_to t (shown_to t) x)) j
          (λ k q. rows_in_lem members k q ∙ and_swap (strong_to t (shown_to t) x k) (vis_wide t (t.row x).class k)))
