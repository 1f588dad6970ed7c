-- What a public write is ordered before, as an engine finds it: by the sets of the writer's own class and reference, with the
-- readers that see a wide or plain element of a set found at once, and a filter for the pairs whose bytes must be asked for. Of
-- tables in which a reference has one class.
use Rattle.std.specs.Prelude.{◌≡◌, Bool, ℕ, ◌<◌}
use Rattle.std.proofs.Math.Path.{sym, ap}
use Rattle.std.proofs.Common.{◌∙◌}
use Rattle.std.proofs.Math.Bool.{true, false, cond}
use Rattle.std.proofs.Math.Logic.{⊎_elim}
use Rattle.std.proofs.Math.Dec.{leb, eqb}
use borrow.Author.Tests.{eqb-true}
use Rattle.finite.specs.Logic.{◌and◌, ◌or◌, split, and_true, or_cases, or_left, or_right, which, bool_ext}
use Rattle.finite.specs.Below.{any_below, any_in, any_out, any_cong}
use Rattle.model.specs.Row.{plain, access, reads, touches}
use Rattle.model.specs.Table.{Table}
use Rattle.model.specs.Availability.{same_reference}
use Rattle.model_placing.specs.Leads.{cond_on, cond_off}
use Rattle.model_placing.specs.Elements.{shews, up_to, vis_wide, vis_plain, last_plain, seen_from, seen, lasts_wide, lasts_plain, last_plain_is}
use Rattle.model_placing.specs.Whole.{narrow, strong_to, wide_by, wide_seen, part_of, part_seen, full_by, met_by, narrow_to, part_by}

-- ---- definitions

-- a reference has one class, as refusal 8 sees to
abbrev pub OneClass : Table → Type 0
OneClass t =
    (i j : ℕ) → i < t.rows → j < t.rows → access (t.row i) ≡ true → access (t.row j) ≡ true → same_reference (t.row i) (t.row j) ≡ true
    → (t.row i).class ≡ (t.row j).class

-- the wide visibility operations of x's class in z, and the plain ones of its reference
unfoldable pub wide_in : Table → ℕ → (ℕ → Bool) → ℕ → Bool
wide_in t x z v = vis_wide t (t.row x).class v and z v

unfoldable pub plain_in : Table → ℕ → (ℕ → Bool) → ℕ → Bool
plain_in t x z v = vis_plain t x v and z v

-- the rows behind the first such one of their agent; with plain ones, that row too
unfoldable pub wide_after : Table → ℕ → (ℕ → Bool) → ℕ → Bool
wide_after t x z y = seen t false (wide_in t x z) y

unfoldable pub plain_after : Table → ℕ → (ℕ → Bool) → ℕ → Bool
plain_after t x z y = seen t true (plain_in t x z) y

-- the rows that meet all of x that they share, whatever the bytes
unfoldable pub full_set : Table → (ℕ → ℕ → Bool) → (ℕ → ℕ → Bool) → ℕ → ℕ → Bool
full_set t at vis x y = cond (reads (t.row y)) (wide_after t x (strong_to t vis x) y) (strong_to t at x y)

-- the rows that may meet a part of x
unfoldable pub maybe_by : Table → (ℕ → ℕ → Bool) → (ℕ → ℕ → Bool) → ℕ → ℕ → ℕ → Bool
maybe_by t at vis x y a = narrow t x a and cond (reads (t.row y)) (wide_after t x (vis a) y or plain_after t x (vis a) y) (at a y)

unfoldable pub maybe : Table → (ℕ → ℕ → Bool) → (ℕ → ℕ → Bool) → ℕ → ℕ → Bool
maybe t at vis x y = (reads (t.row y) and plain_after t x (strong_to t vis x) y) or any_below t.rows (maybe_by t at vis x y)

-- a plain last element of y with the byte b, in z
unfoldable pub plain_part : Table → ℕ → ℕ → ℕ → (ℕ → Bool) → ℕ → Bool
plain_part t x y b z v = vis_plain t x v and eqb (t.row v).agent (t.row y).agent and leb v y and touches (t.row v) b and z v

-- ---- laws

module _ (t : Table) (x y : ℕ) (there : x < t.rows) (last_there : y < t.rows) (one : OneClass t) (first : access (t.row x) ≡ true)
    (second : access (t.row y) ≡ true) (same : same_reference (t.row x) (t.row y) ≡ true) where
  class_is : (t.row y).class ≡ (t.row x).class
  class_is = sym (one x y there last_there first second same)

  reference_is : (t.row x).reference ≡ (t.row y).reference
  unfolding same_reference
  reference_is = eqb-true (t.row x).reference (t.row y).reference same

  plain_is : (v : ℕ) → vis_plain t y v ≡ vis_plain t x v
  unfolding vis_plain same_reference
  plain_is v = ap (λ (r : ℕ). plain (t.row v) and shews (t.row v) and eqb (t.row v).reference r) (sym reference_is)

  -- a reader's wide last elements in z
  pub wide_after_lem : (z : ℕ → Bool) → wide_seen t y z ≡ wide_after t x z y
  unfolding wide_seen wide_by wide_after wide_in seen seen_from
  wide_after_lem z =
      lasts_wide t y z last_there
      ∙ any_cong _ _ t.rows (λ v l. ap (λ (q : ℕ). vis_wide t q v and z v and eqb (t.row v).agent (t.row y).agent and up_to false v y) class_is)

  plain_after_lem : (z : ℕ → Bool) → any_below t.rows (λ v. last_plain t y v and z v) ≡ plain_after t x z y
  unfolding plain_after plain_in seen seen_from
  plain_after_lem z =
      lasts_plain t y z last_there
      ∙ any_cong _ _ t.rows (λ v l. ap (λ (c : Bool). c and z v and eqb (t.row v).agent (t.row y).agent and up_to true v y) (plain_is v))

  last_rows : (v : ℕ) (z : ℕ → Bool) → v < t.rows
      → (last_plain t y v and z v) ≡ (vis_plain t y v and z v and eqb (t.row v).agent (t.row y).agent and leb v y)
  unfolding seen_from up_to
  last_rows v z l = last_plain_is t y v z last_there l

  part_row : (b : ℕ) (z : ℕ → Bool) (v : ℕ) → v < t.rows → part_of t y b z v ≡ plain_part t x y b z v
  unfolding part_of plain_part
  part_row b z v l = bool_ext _ _ forth back
    where
      rows : (last_plain t y v and (touches (t.row v) b and z v))
          ≡ (vis_plain t y v and (touches (t.row v) b and z v) and eqb (t.row v).agent (t.row y).agent and leb v y)
      rows = last_rows v (λ u. touches (t.row u) b and z u) l

      forth : (last_plain t y v and touches (t.row v) b and z v) ≡ true
          → (vis_plain t x v and eqb (t.row v).agent (t.row y).agent and leb v y and touches (t.row v) b and z v) ≡ true
      forth e =
          let f = split (split e).0 in
          let g = split (sym rows ∙ and_true f.0 (and_true f.1 (split e).1)) in
          let h = split g.0 in
          and_true (and_true (and_true (and_true (sym (plain_is v) ∙ (split h.0).0) h.1) g.1) f.1) (split e).1

      back : (vis_plain t x v and eqb (t.row v).agent (t.row y).agent and leb v y and touches (t.row v) b and z v) ≡ true
          → (last_plain t y v and touches (t.row v) b and z v) ≡ true
      back e =
          let f = split (split e).0 in
          let g = split f.0 in
          let h = split g.0 in
          let k = split (rows ∙ and_true (and_true (and_true (plain_is v ∙ h.0) (and_true f.1 (split e).1)) h.1) g.1) in
          and_true (and_true k.0 f.1) (split e).1

  -- ---- laws: what sets alone say

  pub full_set_lem : (at vis : ℕ → ℕ → Bool) → full_by t at vis x y ≡ full_set t at vis x y
  unfolding full_by full_set
  full_set_lem at vis = ap (λ (c : Bool). cond (reads (t.row y)) c (strong_to t at x y)) (wide_after_lem (strong_to t vis x))

  -- ---- laws: bytes

  part_after : (b : ℕ) (z : ℕ → Bool) → part_seen t y b z ≡ true → plain_after t x z y ≡ true
  unfolding part_seen part_of
  part_after b z e =
      let v = any_out (part_of t y b z) t.rows e in
      let f = split v.2 in
      sym (plain_after_lem z) ∙ any_in (λ v. last_plain t y v and z v) t.rows v.0 v.1 (and_true (split f.0).0 f.1)

  -- a pair that is not among them meets no part
  pub part_maybe : (at vis : ℕ → ℕ → Bool) (b : ℕ) → part_by t at vis x y b ≡ true → maybe t at vis x y ≡ true
  unfolding part_by maybe narrow_to maybe_by met_by
  part_maybe at vis b e =
      ⊎_elim (λ h. or_left _ (and_true (split h).0 (part_after b (strong_to t vis x) (split h).1)))
      (λ h.
      let a = any_out (narrow_to t at vis x y b) t.rows h in
      let f = split a.2 in
      or_right _ (any_in (maybe_by t at vis x y) t.rows a.0 a.1 (and_true (split f.0).0 (met a.0 f.1))))
      (or_cases (reads (t.row y) and part_seen t y b (strong_to t vis x)) _ e)
    where
      met : (a : ℕ) → cond (reads (t.row y)) (wide_seen t y (vis a) or part_seen t y b (vis a)) (at a y) ≡ true
          → cond (reads (t.row y)) (wide_after t x (vis a) y or plain_after t x (vis a) y) (at a y) ≡ true
      met a m =
          ⊎_elim
          (λ r.
          let f : (wide_seen t y (vis a) or part_seen t y b (vis a)) ≡ true = sym (cond_on _ _ _ r) ∙ m in
          cond_on _ _ _ r ∙ ⊎_elim (λ h. or_left _ (sym (wide_after_lem (vis a)) ∙ h)) (λ h. or_right _ (part_after b (vis a) h))
          (or_cases (wide_seen t y (vis a)) _ f))
          (λ r. let f : at a y ≡ true = sym (cond_off _ _ _ r) ∙ m in cond_off _ _ _ r ∙ f) (which (reads (t.row y)))

  -- the plain last elements with the byte: of y's agent, up to y, of x's reference
  pub part_rows : (b : ℕ) (z : ℕ → Bool) → part_seen t y b z ≡ any_below t.rows (plain_part t x y b z)
  unfolding part_seen
  part_rows b z = any_cong (part_of t y b z) (plain_part t x y b z) t.rows one_row
    where
      one_row : (v : ℕ) → v < t.rows → part_of t y b z v ≡ plain_part t x y b z v
      one_row v l = part_row b z v l
