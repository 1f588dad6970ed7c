-- Synchronizes-with as sets of rows. Assumes nothing.
use Rattle.std.specs.Prelude.{◌≡◌, refl, Bool, false, not, cond, List, ◌⊎◌, ℕ, ◌+◌, ◌*◌, ◌<◌, eqb, leb}
use Rattle.std.proofs.Common.{sym, subst, ◌∙◌, inl, inr, arith, eqb-true, eq-eqb, leb-true}
use Rattle.std.proofs.Math.Bool.{true}
use Rattle.std.proofs.Math.Logic.{⊎_elim}
use Rattle.finite.specs.Logic.{◌and◌, ◌or◌, bool_ext, split, and_true, or_cases, or_left, or_right, which, not_both, not_so, not_in, not_out}
use Rattle.finite.specs.Below.{any_below, any_in, any_out}
use Rattle.model.specs.declared.Row.{Row}
use Rattle.model.specs.Limits.{ROWS}
use Rattle.model.specs.Row.{barrier, ranked, atomic, writes, acquires, releases, access}
use Rattle.model.specs.Scope.{together, mutual_rows, mutually}
use Rattle.model.specs.Synchronizes.{leads, takes_from, carries_out, carries_in, carries_over, sync_atomics, sync_from_barrier, sync_to_barrier, sync_barriers, sync_control, synchronizes}
use Rattle.model.specs.Table.{Table}
use Rattle.model_closing.specs.Order.{later_row}
use Rattle.sets_of_rows.specs.declared.Set.{Set}
use Rattle.sets_of_rows.specs.Member.{in_set}
use Rattle.sets_of_rows.specs.Kept.{set_at}
use Rattle.sets_of_rows.specs.Rows.{Rows, rows_at, rows_cong, rows_and, rows_or, rows_cut}
use Rattle.sets_of_rows.specs.Tasks
use Rattle.sets_of_table.specs.Tested.{RANKED, ACQUIRES}
use Rattle.sets_of_table.specs.Known.{Opened, classed_in, at_together, says_rows}
use Rattle.sets_of_table.specs.Ask.{few}
use Rattle.sets_grids.specs.Regions.{TAKEN, PASSED}
use Rattle.sets_grids.specs.Grid.{Grid, grid_at, grid_on}
use Rattle.sets_grids.specs.Union.{led_by, union_rows}
use Rattle.sets_grids.specs.Synced.{taken_by, passed_by}

-- ---- definitions

-- b gets what is read from the sequence of the atomic writer x, which the barrier a leads to
unfoldable pub carried_by : Table → ℕ → ℕ → ℕ → Bool
carried_by t a b x = ranked (t.row x) and leads t a x and taken_by t x b

-- b gets what is read from a sequence that carries for a
unfoldable pub carried_to : Table → ℕ → ℕ → Bool
carried_to t a b = cond (barrier (t.row a)) (any_below t.rows (carried_by t a b)) (taken_by t a b)

-- what synchronizes-with is made from: what is read from each sequence, and what control barriers pass to
pub record Carrying (t : Table) (n : ℕ) (w : List ℕ) : Type 0 where
  pub taken : Grid TAKEN n (taken_by t) w
  pub passed : Grid PASSED n (passed_by t) w

-- ---- laws: kinds

barrier_not_atomic : (r : Row) → barrier r ≡ true → atomic r ≡ true → ⊥
unfolding barrier atomic
barrier_not_atomic r b a =
    let h = leb-true r.kind 4 (split a).1 in
    ⊎_elim (λ e. let k = eqb-true r.kind 5 e in omega arith) (λ e. let k = eqb-true r.kind 6 e in omega arith) (or_cases _ _ b)

atomic_no_barrier : (r : Row) → atomic r ≡ true → barrier r ≡ false
atomic_no_barrier r a = not_so (barrier r) (λ b. barrier_not_atomic r b a)

writes_ranked : (r : Row) → atomic r ≡ true → writes r ≡ true → ranked r ≡ true
unfolding atomic writes ranked
writes_ranked r a w =
    let l = leb-true 2 r.kind (split a).0 in
    ⊎_elim
    (λ e. ⊎_elim (λ f. let k = eqb-true r.kind 1 f in absurd (omega arith)) (λ f. or_left _ f) (or_cases _ _ e))
    (λ e. or_right _ e) (or_cases _ _ w)

ranked_access : (q : Row) → ranked q ≡ true → access q ≡ true
unfolding ranked access
ranked_access q k =
    ⊎_elim (λ v. subst (λ (z : ℕ). leb z 4 ≡ true) (sym (eqb-true q.kind 3 v)) refl)
    (λ v. subst (λ (z : ℕ). leb z 4 ≡ true) (sym (eqb-true q.kind 4 v)) refl) (or_cases _ _ k)

-- ---- laws: who takes from whom

taking : (t : Table) (x y : ℕ) → takes_from t x y ≡ true → (mutually t x y ≡ true) × (writes (t.row x) ≡ true)
unfolding takes_from
taking t x y e = split (split (split (split e).0).0).0

atomics : (t : Table) (x y : ℕ) → mutually t x y ≡ true → (atomic (t.row x) ≡ true) × (atomic (t.row y) ≡ true)
unfolding mutually mutual_rows
atomics t x y e = split (split (split (split e).1).0).0

taking_ranked : (t : Table) (x y : ℕ) → takes_from t x y ≡ true → ranked (t.row x) ≡ true
taking_ranked t x y e = let a = taking t x y e in writes_ranked (t.row x) (atomics t x y a.0).0 a.1

taking_together : (t : Table) (x y : ℕ) → takes_from t x y ≡ true → together t.places (t.row x) (t.row y) ≡ true
unfolding mutually mutual_rows
taking_together t x y e = (split (split (taking t x y e).0).1).1

taking_apart : (t : Table) (x y : ℕ) → takes_from t x y ≡ true → eqb x y ≡ false
unfolding mutually
taking_apart t x y e = not_out (eqb x y) (split (taking t x y e).0).0

in_taking : (t : Table) (x b y : ℕ) → carries_in t x b y ≡ true → takes_from t x y ≡ true
unfolding carries_in
in_taking t x b y e = (split e).1

kinds_apart : (t : Table) (a b : ℕ) → barrier (t.row a) ≡ true → atomic (t.row b) ≡ true → not (eqb b a) ≡ true
kinds_apart t a b e f =
    not_in (not_so (eqb b a) (λ h. barrier_not_atomic (t.row a) e (subst (λ (k : ℕ). atomic (t.row k) ≡ true) (eqb-true b a h) f)))

turned : (a b : ℕ) → not (eqb a b) ≡ true → not (eqb b a) ≡ true
turned a b e = not_in (not_so (eqb b a) (λ h. not_both (eq-eqb a b (sym (eqb-true b a h))) (not_out (eqb a b) e)))

-- ---- laws: what is carried, by the kind of the release row

cond_on : (c a b : Bool) → c ≡ true → cond c a b ≡ a
cond_on c a b e = rw e refl

cond_off : (c a b : Bool) → c ≡ false → cond c a b ≡ b
cond_off c a b e = rw e refl

module _ (t : Table) (a b : ℕ) where
  sync_in : releases (t.row a) ≡ true → acquires (t.row b) ≡ true
      → (sync_atomics t a b or sync_from_barrier t a b or sync_to_barrier t a b or sync_barriers t a b or sync_control t a b) ≡ true → synchronizes t a b ≡ true
  unfolding synchronizes
  sync_in r q e = and_true (and_true r q) e

  forth : releases (t.row a) ≡ true → acquires (t.row b) ≡ true → at_together t a b ≡ true → not (eqb b a) ≡ true → carried_to t a b ≡ true → synchronizes t a b ≡ true
  unfolding at_together carried_to carried_by taken_by sync_from_barrier sync_barriers carries_out carries_over sync_atomics sync_to_barrier
  forth r q g d e = go (which (barrier (t.row a)))
    where
      from_barrier : barrier (t.row a) ≡ true → (x : ℕ) → x < t.rows → carried_by t a b x ≡ true → synchronizes t a b ≡ true
      from_barrier h x l c =
          let f = split c in
          let k = split f.0 in
          let m = split f.1 in
          ⊎_elim
          (λ o.
          sync_in r q (or_left _ (or_left _ (or_left _ (or_right _
          (and_true (and_true (and_true h (atomics t x b (taking t x b o).0).1) g) (any_in (carries_out t a b) t.rows x l (and_true k.1 o))))))))
          (λ o.
          let v = split o in
          sync_in r q (or_left _ (or_right _
          (and_true (and_true (and_true (and_true (turned b a d) h) v.0) g) (any_in (carries_over t a b) t.rows x l (and_true k.1 v.1))))))
          (or_cases _ _ m.1)

      from_atomic : taken_by t a b ≡ true → synchronizes t a b ≡ true
      from_atomic c =
          ⊎_elim
          (λ o. let k = atomics t a b (taking t a b o).0 in sync_in r q (or_left _ (or_left _ (or_left _ (or_left _ (and_true (and_true k.0 k.1) o))))))
          (λ o.
          let v = split o in
          let y = any_out (carries_in t a b) t.rows v.1 in
          let k = atomics t a y.0 (taking t a y.0 (in_taking t a b y.0 y.2)).0 in
          sync_in r q (or_left _ (or_left _ (or_right _ (and_true (and_true (and_true k.0 v.0) g) v.1)))))
          (or_cases _ _ (split c).1)

      go : (barrier (t.row a) ≡ true) ⊎ (barrier (t.row a) ≡ false) → synchronizes t a b ≡ true
      go (inl h) =
          let x = any_out (carried_by t a b) t.rows (sym (cond_on (barrier (t.row a)) _ _ h) ∙ e) in
          from_barrier h x.0 x.1 x.2
      go (inr h) = from_atomic (sym (cond_off (barrier (t.row a)) _ _ h) ∙ e)

  passed : releases (t.row a) ≡ true → acquires (t.row b) ≡ true → at_together t a b ≡ true → not (eqb b a) ≡ true → passed_by t a b ≡ true → synchronizes t a b ≡ true
  unfolding at_together passed_by sync_control
  passed r q g d e =
      let f = split e in
      let k = split f.0 in
      sync_in r q (or_right _ (and_true (and_true (and_true (and_true (turned b a d) k.0) k.1) g) f.1))

  -- the parts of what the sets give
  abbrev Parts : Type 0
  Parts = ((carried_to t a b or passed_by t a b) ≡ true) × (at_together t a b ≡ true) × (not (eqb b a) ≡ true)

  taken_in : acquires (t.row b) ≡ true → (x : ℕ) → takes_from t x b ≡ true → taken_by t x b ≡ true
  unfolding taken_by
  taken_in q x o = and_true q (or_left _ o)

  over_in : acquires (t.row b) ≡ true → barrier (t.row b) ≡ true → (x : ℕ) → any_below t.rows (carries_in t x b) ≡ true → taken_by t x b ≡ true
  unfolding taken_by
  over_in q h x o = and_true q (or_right _ (and_true h o))

  carried_on : barrier (t.row a) ≡ true → (x : ℕ) → x < t.rows → ranked (t.row x) ≡ true → leads t a x ≡ true → taken_by t x b ≡ true → carried_to t a b ≡ true
  unfolding carried_to carried_by
  carried_on h x l r m o = cond_on (barrier (t.row a)) _ _ h ∙ any_in (carried_by t a b) t.rows x l (and_true (and_true r m) o)

  carried_off : atomic (t.row a) ≡ true → taken_by t a b ≡ true → carried_to t a b ≡ true
  unfolding carried_to
  carried_off h o = cond_off (barrier (t.row a)) _ _ (atomic_no_barrier (t.row a) h) ∙ o

  back : acquires (t.row b) ≡ true → (sync_atomics t a b or sync_from_barrier t a b or sync_to_barrier t a b or sync_barriers t a b or sync_control t a b) ≡ true → Parts
  unfolding sync_atomics sync_from_barrier sync_to_barrier sync_barriers sync_control carries_out carries_over passed_by at_together
  back q e = ⊎_elim (λ f. ⊎_elim (λ g. ⊎_elim (λ h. ⊎_elim one two (or_cases _ _ h)) three (or_cases _ _ g)) four (or_cases _ _ f)) five (or_cases _ _ e)
    where
      one : sync_atomics t a b ≡ true → Parts
      one f =
          let k = split f in
          (or_left _ (carried_off (split k.0).0 (taken_in q a k.1)), taking_together t a b k.1, turned a b (not_in (taking_apart t a b k.1)))

      two : sync_from_barrier t a b ≡ true → Parts
      two f =
          let k = split f in
          let m = split k.0 in
          let h = split m.0 in
          let x = any_out (carries_out t a b) t.rows k.1 in
          let o = split x.2 in
          (or_left _ (carried_on h.0 x.0 x.1 (taking_ranked t x.0 b o.1) o.0 (taken_in q x.0 o.1)), m.1, kinds_apart t a b h.0 h.1)

      three : sync_to_barrier t a b ≡ true → Parts
      three f =
          let k = split f in
          let m = split k.0 in
          let h = split m.0 in
          (or_left _ (carried_off h.0 (over_in q h.1 a k.1)), m.1, turned a b (kinds_apart t b a h.1 h.0))

      four : sync_barriers t a b ≡ true → Parts
      four f =
          let k = split f in
          let m = split k.0 in
          let h = split m.0 in
          let d = split h.0 in
          let x = any_out (carries_over t a b) t.rows k.1 in
          let o = split x.2 in
          let y = any_out (carries_in t x.0 b) t.rows o.1 in (
            or_left _ (carried_on d.1 x.0 x.1 (taking_ranked t x.0 y.0 (in_taking t x.0 b y.0 y.2)) o.0 (over_in q h.1 x.0 o.1)),
            m.1,
            turned a b d.0,
          )

      five : sync_control t a b ≡ true → Parts
      five f =
          let k = split f in
          let m = split k.0 in
          let h = split m.0 in
          let d = split h.0 in
          (or_right _ (and_true (and_true d.1 h.1) k.1), m.1, turned a b d.0)

  sync_is : releases (t.row a) ≡ true
      → ((carried_to t a b or passed_by t a b) and acquires (t.row b) and at_together t a b and not (eqb b a)) ≡ synchronizes t a b
  unfolding synchronizes
  sync_is r =
      bool_ext _ _
      (λ e.
      let k = split e in
      let m = split k.0 in
      let o = split m.0 in
      ⊎_elim (λ f. forth r o.1 m.1 k.1 f) (λ f. passed r o.1 m.1 k.1 f) (or_cases _ _ o.0))
      (λ e.
      let k = split e in
      let q = (split k.0).1 in
      let p = back q k.1 in
      and_true (and_true (and_true p.0 q) p.1) p.2)

-- ---- laws: sets

-- of a row that is no barrier
pub carried_own : (t : Table) {n : ℕ} {w : List ℕ} (a : ℕ) (x : Set) → a < n → barrier (t.row a) ≡ false → Grid TAKEN n (taken_by t) w → x ≡ set_at w (TAKEN + 2 * a)
    → Rows n (carried_to t a) x
unfolding carried_to
carried_own t a x l e g f = rows_cong (λ j m. sym (cond_off (barrier (t.row a)) _ _ e)) (grid_at g l f)

-- of a barrier: by way of the atomic writers that it leads to
pub carried_after : {t : Table} {n : ℕ} {s w : List ℕ} → Opened t n s → Grid TAKEN n (taken_by t) w → (a : ℕ) (f r c d e x : Set) → barrier (t.row a) ≡ true
    → Rows n (later_row t a) f → r ≡ set_at s RANKED → ((j : ℕ) → in_set c j ≡ (in_set f j and in_set r j)) → Rows n (classed_in t (t.row a).classes) d
    → ((j : ℕ) → in_set e j ≡ (in_set c j and in_set d j)) → ((j : ℕ) → in_set x j ≡ any_below ROWS (Tasks.leads w TAKEN e j)) → Rows n (carried_to t a) x
unfolding carried_to carried_by led_by leads later_row classed_in
carried_after {t} {n} {s} {w} o g a f r c d e x h after ranked_is c_is classes e_is u =
    rows_cong (λ j m. same j) (union_rows (few o) (grid_on (λ i. true) g) (rows_and (rows_and after (rows_at ranked_is (says_rows o.known.tested.kinds.ranked)) c_is) classes e_is) (λ i l p. refl) u)
  where
    led : ℕ → Bool
    led i = (later_row t a i and ranked (t.row i)) and classed_in t (t.row a).classes i

    rows_are : t.rows ≡ n
    rows_are = o.rows

    same : (j : ℕ) → any_below n (led_by led (taken_by t) j) ≡ carried_to t a j
    same j =
        bool_ext _ _
        (λ v.
        let i = any_out (led_by led (taken_by t) j) n v in
        let p = split i.2 in
        let q = split p.0 in
        let b = split q.0 in
        let l = i.1 in
        carried_on t a j h i.0 (omega (arith, rows_are)) b.1 (and_true b.0 (split q.1).1) p.1)
        (λ v.
        let i = any_out (carried_by t a j) t.rows (sym (cond_on (barrier (t.row a)) _ _ h) ∙ v) in
        let p = split i.2 in
        let q = split p.0 in
        let b = split q.1 in
        let l = i.1 in
        any_in (led_by led (taken_by t) j) n i.0 (omega (arith, rows_are)) (and_true (and_true (and_true b.0 q.0) (and_true (ranked_access (t.row i.0) q.0) b.1)) p.1))

pub sync_rows : {t : Table} {n : ℕ} {s w : List ℕ} → Opened t n s → Grid PASSED n (passed_by t) w → (a : ℕ) (c p u q v g e z : Set) → a < n → releases (t.row a) ≡ true
    → Rows n (carried_to t a) c → p ≡ set_at w (PASSED + 2 * a) → ((j : ℕ) → in_set u j ≡ (in_set c j or in_set p j)) → q ≡ set_at s ACQUIRES
    → ((j : ℕ) → in_set v j ≡ (in_set u j and in_set q j)) → Rows n (at_together t a) g → ((j : ℕ) → in_set e j ≡ (in_set v j and in_set g j))
    → ((j : ℕ) → in_set z j ≡ (in_set e j and not (eqb j a))) → Rows n (synchronizes t a) z
sync_rows {t} o h a c p u q v g e z l r carried passed_is u_is acquires_is v_is near e_is z_is =
    rows_cong (λ j m. sync_is t a j r)
    (rows_cut (λ j. not (eqb j a))
    (rows_and (rows_and (rows_or carried (grid_at h l passed_is) u_is) (rows_at acquires_is (says_rows o.known.tested.orders.acquires)) v_is) near e_is) z_is)

pub sync_only : (t : Table) (a b : ℕ) → synchronizes t a b ≡ true → releases (t.row a) ≡ true
unfolding synchronizes
sync_only t a b e = (split (split e).0).0
