-- FULL and SOME: where x is ordered before y at every byte that they share, and at some byte. A wide element covers every byte of a
-- row of its classes, and a plain one that holds all of x covers every byte of x: these, and the rules that read no byte, give
-- FULL; only plain elements that hold a part of x or of y are asked byte by byte. Of tables whose rows have at most LONGEST bytes.
use Rattle.std.specs.Prelude.{◌≡◌, refl, ℕ, ◌-◌, ◌<◌, eqb}
use Rattle.std.proofs.Math.Path.{sym, ap}
use Rattle.std.proofs.Common.{◌∙◌, subst, arith}
use Rattle.std.proofs.Math.Bool.{Bool, true, false, not, cond}
use Rattle.finite.specs.Logic.{◌and◌, ◌or◌, split, and_true}
use Rattle.finite.specs.Below.{any_below, any_in}
use Rattle.model.specs.Limits.{LONGEST}
use Rattle.model.specs.Row.{plain, access, reads, touches, covers, overlap}
use Rattle.model.specs.Table.{Table}
use Rattle.model.specs.Location.{common, before, L1, L2, L4, L5}
use Rattle.model.specs.Availability.{same_reference, public_write, L3}
use Rattle.model.specs.Race.{nth}
use Rattle.model.specs.Edge.{before_nth, before_some}
use Rattle.model_laws.specs.PairLaws.{overlap_is, common_out}
use Rattle.model_laws.specs.RaceLaws.{Sized, touched}
use Rattle.model_placing.specs.Leads.{carried}
use Rattle.model_placing.specs.Elements.{behind, first_wide, last_wide, last_plain}

-- ---- definitions: elements by what they cover

-- a is a plain first element of x over some of its bytes; over all of them; over a part
unfoldable pub first_plain : Table → ℕ → ℕ → Bool
first_plain t x a = plain (t.row a) and behind t x a and same_reference (t.row a) (t.row x) and overlap (t.row x) (t.row a)

unfoldable pub whole_plain : Table → ℕ → ℕ → Bool
whole_plain t x a = first_plain t x a and covers (t.row a) (t.row x)

unfoldable pub narrow : Table → ℕ → ℕ → Bool
narrow t x a = first_plain t x a and not (covers (t.row a) (t.row x))

-- a first element of x at each of its bytes
unfoldable pub strong : Table → ℕ → ℕ → Bool
strong t x a = first_wide t x a or whole_plain t x a

-- ---- definitions: what those lead to. `at` and `vis` are the sets AT* and VIS* of each row

-- what the first elements at each of x's bytes lead to: a row that meets it at once, a last element that shows it
unfoldable pub strong_by : Table → (ℕ → ℕ → Bool) → ℕ → ℕ → ℕ → Bool
strong_by t set x i a = strong t x a and set a i

unfoldable pub strong_to : Table → (ℕ → ℕ → Bool) → ℕ → ℕ → Bool
strong_to t set x i = any_below t.rows (strong_by t set x i)

unfoldable pub wide_by : Table → ℕ → (ℕ → Bool) → ℕ → Bool
wide_by t y z v = last_wide t y v and z v

-- y has a wide last element in z; a plain one that has the byte b
unfoldable pub wide_seen : Table → ℕ → (ℕ → Bool) → Bool
wide_seen t y z = any_below t.rows (wide_by t y z)

unfoldable pub part_of : Table → ℕ → ℕ → (ℕ → Bool) → ℕ → Bool
part_of t y b z v = last_plain t y v and touches (t.row v) b and z v

unfoldable pub part_seen : Table → ℕ → ℕ → (ℕ → Bool) → Bool
part_seen t y b z = any_below t.rows (part_of t y b z)

-- y meets all of x that it shares, whatever the bytes
unfoldable pub full_by : Table → (ℕ → ℕ → Bool) → (ℕ → ℕ → Bool) → ℕ → ℕ → Bool
full_by t at vis x y = cond (reads (t.row y)) (wide_seen t y (strong_to t vis x)) (strong_to t at x y)

-- y meets at b what a leads to
unfoldable pub met_by : Table → (ℕ → ℕ → Bool) → (ℕ → ℕ → Bool) → ℕ → ℕ → ℕ → Bool
met_by t at vis y b a = cond (reads (t.row y)) (wide_seen t y (vis a) or part_seen t y b (vis a)) (at a y)

-- y meets x's byte b by way of a, which holds a part of x
unfoldable pub narrow_to : Table → (ℕ → ℕ → Bool) → (ℕ → ℕ → Bool) → ℕ → ℕ → ℕ → ℕ → Bool
narrow_to t at vis x y b a = narrow t x a and touches (t.row a) b and met_by t at vis y b a

-- y meets x's byte b by way of a plain element that holds a part of x or y
unfoldable pub part_by : Table → (ℕ → ℕ → Bool) → (ℕ → ℕ → Bool) → ℕ → ℕ → ℕ → Bool
part_by t at vis x y b = (reads (t.row y) and part_seen t y b (strong_to t vis x)) or any_below t.rows (narrow_to t at vis x y b)

-- ---- definitions: pairs

-- the rules that read no byte
unfoldable pub told : Table → ℕ → ℕ → Bool
told t x y = L1 t x y or L2 t x y or L4 t x y or L5 t x y

-- x and y are two accesses that share a byte
unfoldable pub crosses : Table → ℕ → ℕ → Bool
crosses t x y = not (eqb x y) and (access (t.row x) and access (t.row y) and overlap (t.row x) (t.row y))

unfoldable pub shared_at : Table → ℕ → ℕ → ℕ → Bool
shared_at t x y b = not (eqb x y) and common (t.row x) (t.row y) b

unfoldable pub shared_nth : Table → ℕ → ℕ → ℕ → Bool
shared_nth t x y k = shared_at t x y (nth t x k)

-- what sets alone say of the pair
unfoldable pub whole : Table → (ℕ → ℕ → Bool) → (ℕ → ℕ → Bool) → ℕ → ℕ → Bool
whole t at vis x y = told t x y or (public_write (t.row x) (t.row y) and full_by t at vis x y)

-- the bytes that must be asked for
unfoldable pub part_nth : Table → (ℕ → ℕ → Bool) → (ℕ → ℕ → Bool) → ℕ → ℕ → ℕ → Bool
part_nth t at vis x y k = public_write (t.row x) (t.row y) and part_by t at vis x y (nth t x k)

-- the sets at and vis lead to y all that L3 does, as far as the rules that read no byte don't
abbrev pub Right : Table → (ℕ → ℕ → Bool) → (ℕ → ℕ → Bool) → ℕ → ℕ → Type 0
Right t at vis x y =
    (b : ℕ) → common (t.row x) (t.row y) b ≡ true → (told t x y or L3 t x y b) ≡
    (told t x y or (public_write (t.row x) (t.row y) and carried t at vis x y b))

-- ---- laws: pairs

regroup : (a b c d e : Bool) → (a or b or c or d or e) ≡ (a or b or d or e or c)
unfolding ◌or◌
regroup true b c d e = refl
regroup false true c d e = refl
regroup false false true d e = or_end d e
  where
    or_end : (d e : Bool) → true ≡ (d or e or true)
    or_end true e = refl
    or_end false true = refl
    or_end false false = refl
regroup false false false true e = refl
regroup false false false false true = refl
regroup false false false false false = refl

module _ (t : Table) (x y : ℕ) where
  -- location order: the rules that read no byte, and L3
  pub before_is : (b : ℕ) → before t x y b ≡ (shared_at t x y b and (told t x y or L3 t x y b))
  unfolding before shared_at told
  before_is b =
      ap (λ (c : Bool). not (eqb x y) and common (t.row x) (t.row y) b and c) (regroup (L1 t x y) (L2 t x y) (L3 t x y b) (L4 t x y) (L5 t x y))

  pub shared_crosses : (b : ℕ) → shared_at t x y b ≡ true → crosses t x y ≡ true
  unfolding shared_at crosses
  shared_crosses b e =
      let c = common_out (t.row x) (t.row y) b (split e).1 in
      and_true (split e).0 (and_true (and_true c.0 c.1) ((overlap_is (t.row x) (t.row y)).1 (b, c.2, c.3)))

  pub shared_common : (b : ℕ) → shared_at t x y b ≡ true → common (t.row x) (t.row y) b ≡ true
  unfolding shared_at
  shared_common b e = (split e).1

  pub before_shared : (b : ℕ) → before t x y b ≡ true → shared_at t x y b ≡ true
  before_shared b e = (split (sym (before_is b) ∙ e)).0

  -- a byte that they share, counted from x
  module _ (sized : Sized t) (there : x < t.rows) where
    pub shared_nth_lem : (b : ℕ) → shared_at t x y b ≡ true → (k : ℕ) × (k < LONGEST) × (nth t x k ≡ b)
    shared_nth_lem b e =
        let p = touched (t.row x) b (sized x there) (common_out (t.row x) (t.row y) b (shared_common b e)).2 in
        let lo = p.0 in
        let hi = p.1 in
        (b - (t.row x).start, omega arith, omega arith)

    pub some_in : (b : ℕ) → before t x y b ≡ true → before_some t x y ≡ true
    unfolding before_some before_nth
    some_in b e =
        let k = shared_nth_lem b (before_shared b e) in
        any_in (before_nth t x y) LONGEST k.0 k.1 (subst (λ (a : ℕ). before t x y a ≡ true) (sym k.2) e)
