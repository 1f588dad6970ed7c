-- Location order of one row, from sets and bytes: what is added is the model's. Assumes nothing.
use Rattle.std.specs.Prelude.{◌≡◌, refl, List, ℕ, ◌+◌, ◌*◌, ◌<◌, eqb}
use Rattle.std.proofs.Math.Path.{sym}
use Rattle.std.proofs.Common.{ap, ap₂, ◌∙◌, arith, eqb-true, le-leb}
use Rattle.std.proofs.Math.Bool.{Bool, true, false, not}
use Rattle.std.proofs.Math.Logic.{⊎_elim}
use Rattle.finite.specs.Logic.{◌and◌, ◌or◌, split, and_true, and_on, and_false_left, and_false_right, or_cases, or_left, or_right, or_none, or_assoc, which}
use Rattle.finite.specs.Logic.{not_both, not_so, not_in, bool_ext}
use Rattle.finite.specs.Below.{any_below, any_in, any_out, any_cong}
use Rattle.model.specs.Limits.{LONGEST}
use Rattle.model.specs.Row.{access, writes, non_private, touches}
use Rattle.model.specs.Table.{Table}
use Rattle.model.specs.Location.{common}
use Rattle.model.specs.Availability.{same_reference, public_write}
use Rattle.model.specs.Race.{nth}
use Rattle.model.specs.Edge.{before_nth}
use Rattle.model_laws.specs.PairLaws.{eqb_swap, overlap_is, inside_out}
use Rattle.bits.specs.Bit.{bit}
use Rattle.bits.specs.Within.{within_trans}
use Rattle.work_area.specs.Regions.{OVERLAP}
use Rattle.work_area.specs.State.{overlaps}
use Rattle.model_placing.specs.Leads.{meets, shows}
use Rattle.model_placing.specs.Elements.{shews, visible_is}
use Rattle.model_placing.specs.Whole.{told, whole, crosses, shared_at, shared_nth, full_by, part_by, part_nth, Right, before_shared, shared_crosses}
use Rattle.model_placing.proofs.Whole.{bits_by}
use Rattle.model_placing.specs.Right.{right_all, right_cong}
use Rattle.model_placing.specs.Writer.{full_set, full_set_lem, part_maybe}
use Rattle.sets_of_rows.specs.declared.Set.{Set}
use Rattle.sets_of_rows.specs.Member.{in_set}
use Rattle.sets_of_rows.specs.Kept.{set_at}
use Rattle.sets_of_rows.specs.Family
use Rattle.sets_of_rows.specs.Rows.{Rows, rows_at, rows_cut, rows_in_lem}
use Rattle.sets_of_table.specs.Tested.{WRITES, PUBLIC}
use Rattle.sets_of_table.specs.Known.{REFERENCE, Opened, same_name, says_rows}
use Rattle.sets_bytes.specs.Masks.{shared_bit}
use Rattle.sets_grids.specs.Regions.{SOME}
use Rattle.sets_grids.specs.Grid.{grid_at}
use Rattle.sets_grids.specs.Filling.{member_in}
use Rattle.sets_grids.specs.Available.{shown_to}
use Rattle.sets_grids.specs.Location.{Locating}
use Rattle.sets_location.specs.Told.{ToldTo}
use Rattle.sets_location.specs.Maybe.{Maybes}
use Rattle.sets_location.specs.Adds.{AddsRow, place_of, whole_bytes, part_bytes, parts_of, Over, Targets, PublicWrite}

-- ---- laws: what is added to a row

any_or : (p q : ℕ → Bool) (n : ℕ) → (any_below n p or any_below n q) ≡ any_below n (λ k. p k or q k)
any_or p q n = bool_ext _ _ forth back
  where
    forth : (any_below n p or any_below n q) ≡ true → any_below n (λ k. p k or q k) ≡ true
    forth e =
        ⊎_elim (λ h. let a = any_out p n h in any_in (λ k. p k or q k) n a.0 a.1 (or_left _ a.2))
        (λ h. let a = any_out q n h in any_in (λ k. p k or q k) n a.0 a.1 (or_right _ a.2)) (or_cases (any_below n p) _ e)

    back : any_below n (λ k. p k or q k) ≡ true → (any_below n p or any_below n q) ≡ true
    back e =
        let a = any_out (λ k. p k or q k) n e in
        ⊎_elim (λ h. or_left _ (any_in p n a.0 a.1 h)) (λ h. or_right _ (any_in q n a.0 a.1 h)) (or_cases (p a.0) _ a.2)

-- one after the other
pub adds_then : {n x : ℕ} {p q : ℕ → ℕ → Bool} {w u v : List ℕ} → AddsRow n x p w u → AddsRow n x q u v → AddsRow n x (λ y k. p y k or q y k) w v
adds_then {n} {x} {p} {q} {w} {u} {v} a b =
    record {
      some = λ y l.
          b.some y l ∙ ap (λ (c : Bool). c or any_below LONGEST (q y)) (a.some y l)
          ∙ or_assoc (in_set (Family.nth w SOME x) y) (any_below LONGEST (p y)) (any_below LONGEST (q y))
          ∙ ap (λ (c : Bool). in_set (Family.nth w SOME x) y or c) (any_or (p y) (q y) LONGEST);
      past = λ y l. b.past y l ∙ a.past y l;
      pair = λ y k l m.
          b.pair y k l m ∙ ap (λ (c : Bool). c or q y k) (a.pair y k l m) ∙ or_assoc (bit w (place_of x y k)) (p y k) (q y k);
      other_some = λ i l d. b.other_some i l d ∙ a.other_some i l d;
      other_pair = λ i y k l m o d. b.other_pair i y k l m o d ∙ a.other_pair i y k l m o d;
      frame = within_trans a.frame b.frame;
    }

pub adds_cong : {n x : ℕ} {p q : ℕ → ℕ → Bool} {w u : List ℕ} → ((y k : ℕ) → y < n → k < LONGEST → p y k ≡ q y k) → AddsRow n x p w u → AddsRow n x q w u
adds_cong {n} {x} {p} {q} {w} {u} e a =
    record {
      some = λ y l. a.some y l ∙ ap (λ (c : Bool). in_set (Family.nth w SOME x) y or c) (any_cong (p y) (q y) LONGEST (λ k m. e y k l m));
      past = a.past;
      pair = λ y k l m. a.pair y k l m ∙ ap (λ (c : Bool). bit w (place_of x y k) or c) (e y k l m);
      other_some = a.other_some;
      other_pair = a.other_pair;
      frame = a.frame;
    }

-- ---- laws: pairs

writer_access : (t : Table) (x : ℕ) → writes (t.row x) ≡ true → access (t.row x) ≡ true
unfolding writes access
writer_access t x e =
    ⊎_elim
    (λ h. ⊎_elim (λ i. let k = eqb-true (t.row x).kind 1 i in le-leb (t.row x).kind 4 (omega arith))
    (λ i. let k = eqb-true (t.row x).kind 3 i in le-leb (t.row x).kind 4 (omega arith)) (or_cases (eqb (t.row x).kind 1) _ h))
    (λ h. let k = eqb-true (t.row x).kind 4 h in le-leb (t.row x).kind 4 (omega arith)) (or_cases (eqb (t.row x).kind 1 or eqb (t.row x).kind 3) _ e)

pub write_access : {t : Table} {n x : ℕ} {before over : Set} → PublicWrite t n x before over → access (t.row x) ≡ true
write_access {t} {n} {x} p = writer_access t x p.writing

-- x and y are other rows that share bytes
abbrev overlapping : Table → ℕ → ℕ → Bool
overlapping t x y = overlaps t x y and not (eqb y x)

-- rows that share no bytes are not ordered
not_over : (t : Table) (x y k : ℕ) → overlapping t x y ≡ false → before_nth t x y k ≡ false
unfolding before_nth overlaps crosses
not_over t x y k e =
    not_so _ (λ h.
    let c = split (shared_crosses t x y (nth t x k) (before_shared t x y (nth t x k) h)) in
    not_both (and_true (split c.1).1 (ap not (eqb_swap y x) ∙ c.0)) e)

module _ {t : Table} {n : ℕ} {s : List ℕ} (o : Opened t n s) (x : ℕ) (lx : x < n) (is : access (t.row x) ≡ true) where
  inside : (y : ℕ) → y < n → y < t.rows
  inside y l = let r = o.rows in omega arith

  over_access : (y : ℕ) → y < n → overlapping t x y ≡ true → access (t.row y) ≡ true
  unfolding overlaps touches
  over_access y l e =
      ⊎_elim (λ h. h)
      (λ h.
      let b = (overlap_is (t.row x) (t.row y)).0 (split e).0 in
      let i = inside_out (t.row y).start (t.row y).size b.0 b.2 in
      let low = i.0 in
      let high = i.1 in
      let z = o.fit.empty y (inside y l) h in
      absurd (omega arith))
      (which (access (t.row y)))

  right_shown : (y : ℕ) → Right t (meets t) (shown_to t) x y
  unfolding shown_to
  right_shown y =
      right_cong t (meets t) (shows t) (meets t) (shown_to t) x y (λ a l e. refl)
      (λ a v l m e f. sym (and_on (shews (t.row v)) (shows t a v) (sym (visible_is t v) ∙ f))) (right_all t o.fit.scoped x y)

  shared_is : (y k : ℕ) → y < n → overlapping t x y ≡ true → shared_nth t x y k ≡ shared_bit t x y k
  unfolding shared_nth shared_at shared_bit common
  shared_is y k l e =
      bool_ext _ _ (λ h. let c = split (split h).1 in and_true (split c.0).1 c.1)
      (λ h. let c = split h in
      and_true (ap not (eqb_swap x y) ∙ (split e).1) (and_true (and_true (and_true is (over_access y l e)) c.0) c.1))

  -- the bits of a pair that shares bytes
  bits_are : (y k : ℕ) → y < n → overlapping t x y ≡ true
      → before_nth t x y k ≡ (shared_bit t x y k and (whole t (meets t) (shown_to t) x y or part_nth t (meets t) (shown_to t) x y k))
  bits_are y k l e =
      bits_by t x y (meets t) (shown_to t) (right_shown y) k
      ∙ ap (λ (c : Bool). c and (whole t (meets t) (shown_to t) x y or part_nth t (meets t) (shown_to t) x y k)) (shared_is y k l e)

  -- ---- laws: a row that is no public write

  module _ {before over : Set} (z : Set) (tells : ToldTo t n x before) (shares : Rows n (overlapping t x) over) (e : (j : ℕ) → in_set z j ≡ (in_set before j and in_set over j)) where
    pub told_over : Over t n x z
    unfolding overlaps
    told_over =
        record {
          here = lx;
          low = λ y h. (member_in y shares (split (sym (e y) ∙ h)).1).0;
          shares = λ y h. (split (member_in y shares (split (sym (e y) ∙ h)).1).1).0;
        }

    pub told_bits : (non_private (t.row x) and writes (t.row x)) ≡ false → (y k : ℕ) → y < n → k < LONGEST → whole_bytes t x z y k ≡ before_nth t x y k
    unfolding whole_bytes whole part_nth public_write
    told_bits off y k l m = ⊎_elim on out (which (overlapping t x y))
      where
        none : (writes (t.row x) and non_private (t.row x) and non_private (t.row y) and same_reference (t.row x) (t.row y)) ≡ false
        none = not_so _ (λ h. let c = split (split (split h).0).0 in not_both (and_true c.1 c.0) off)

        out : overlapping t x y ≡ false → (in_set z y and shared_bit t x y k) ≡ before_nth t x y k
        out h =
            and_false_left (in_set z y) _ (e y ∙ and_false_right (in_set before y) (in_set over y) (rows_in_lem shares y l ∙ h)) ∙ sym (not_over t x y k h)

        on : overlapping t x y ≡ true → (in_set z y and shared_bit t x y k) ≡ before_nth t x y k
        on h =
            bool_ext _ _
            (λ g. let c = split g in
            bits_are y k l h ∙ and_true c.1 (or_left _ (or_left _ (sym (tells.is y l (over_access y l h)) ∙ (split (sym (e y) ∙ c.0)).0))))
            (λ g. let c = split (sym (bits_are y k l h) ∙ g) in
            and_true
            (⊎_elim
            (λ a. ⊎_elim (λ b. e y ∙ and_true (tells.is y l (over_access y l h) ∙ b) (rows_in_lem shares y l ∙ h)) (λ b. not_both (split b).0 none)
            (or_cases (told t x y) _ a))
            (λ a. not_both (split a).0 none) (or_cases (told t x y or _) _ c.1))
            c.0)

  -- ---- laws: a public write

  module _ {before over : Set} (p : PublicWrite t n x before over) (rs ps public target full met some z : Set) (e1 : rs ≡ set_at s (REFERENCE + 2 * x)) (e2 : ps ≡ set_at s PUBLIC)
      (e3 : (j : ℕ) → in_set public j ≡ (in_set rs j and in_set ps j)) (e4 : (j : ℕ) → in_set target j ≡ (in_set public j and in_set over j))
      (e5 : Rows n (full_set t (meets t) (shown_to t) x) full) (e6 : (j : ℕ) → in_set met j ≡ (in_set full j and in_set target j))
      (e7 : (j : ℕ) → in_set some j ≡ (in_set before j or in_set met j)) (e8 : (j : ℕ) → in_set z j ≡ (in_set some j and in_set over j)) where
    pub write_over : Over t n x z
    unfolding overlaps
    write_over =
        record {
          here = lx;
          low = λ y h. (member_in y p.shares (split (sym (e8 y) ∙ h)).1).0;
          shares = λ y h. (split (member_in y p.shares (split (sym (e8 y) ∙ h)).1).1).0;
        }

    named : (y : ℕ) → in_set target y ≡ true → (y < n) × (access (t.row y) ≡ true) × (same_reference (t.row x) (t.row y) ≡ true) × (non_private (t.row y) ≡ true)
    unfolding same_name
    named y h =
        let a = split (sym (e3 y) ∙ (split (sym (e4 y) ∙ h)).0) in
        let b = member_in y (rows_at e1 (o.known.reference x lx is)) a.0 in
        let c = member_in y (rows_at e2 (says_rows o.known.tested.marked.public)) a.1 in
        (b.0, (split b.1).0, (split b.1).1, c.1)

    target_out : (y : ℕ) → in_set target y ≡ true → public_write (t.row x) (t.row y) ≡ true
    unfolding public_write
    target_out y h = let a = named y h in and_true (and_true (and_true p.writing p.public) a.3) a.2

    target_in : (y : ℕ) → y < n → overlapping t x y ≡ true → public_write (t.row x) (t.row y) ≡ true → in_set target y ≡ true
    unfolding public_write same_name
    target_in y l h g =
        let a = split g in
        e4 y
        ∙ and_true
        (e3 y
        ∙ and_true (rows_in_lem (rows_at e1 (o.known.reference x lx is)) y l ∙ and_true (over_access y l h) a.1)
        (rows_in_lem (rows_at e2 (says_rows o.known.tested.marked.public)) y l ∙ (split a.0).1))
        (rows_in_lem p.shares y l ∙ h)

    same_of : (y : ℕ) → public_write (t.row x) (t.row y) ≡ true → same_reference (t.row x) (t.row y) ≡ true
    unfolding public_write
    same_of y g = (split g).1

    full_is : (y : ℕ) → y < n → overlapping t x y ≡ true → public_write (t.row x) (t.row y) ≡ true → full_by t (meets t) (shown_to t) x y ≡ in_set full y
    full_is y l h g =
        full_set_lem t x y (inside x lx) (inside y l) o.fit.one is (over_access y l h) (same_of y g) (meets t) (shown_to t) ∙ sym (rows_in_lem e5 y l)

    whole_is : (y : ℕ) → y < n → overlapping t x y ≡ true → in_set z y ≡ whole t (meets t) (shown_to t) x y
    unfolding whole
    whole_is y l h = bool_ext _ _ forth back
      where
        forth : in_set z y ≡ true → (told t x y or (public_write (t.row x) (t.row y) and full_by t (meets t) (shown_to t) x y)) ≡ true
        forth g =
            ⊎_elim (λ a. or_left _ (sym (p.told.is y l (over_access y l h)) ∙ a))
            (λ a. let b = split (sym (e6 y) ∙ a) in let c = target_out y b.1 in or_right _ (and_true c (full_is y l h c ∙ b.0)))
            (or_cases (in_set before y) _ (sym (e7 y) ∙ (split (sym (e8 y) ∙ g)).0))

        back : (told t x y or (public_write (t.row x) (t.row y) and full_by t (meets t) (shown_to t) x y)) ≡ true → in_set z y ≡ true
        back g =
            e8 y
            ∙ and_true
            (e7 y
            ∙ ⊎_elim (λ a. or_left _ (p.told.is y l (over_access y l h) ∙ a))
            (λ a. let b = split a in or_right _ (e6 y ∙ and_true (sym (full_is y l h b.0) ∙ b.1) (target_in y l h b.0)))
            (or_cases (told t x y) _ g))
            (rows_in_lem p.shares y l ∙ h)

    module _ (may asked rest : Set) (e9 : Maybes t n x may) (e10 : (j : ℕ) → in_set asked j ≡ (in_set may j and in_set target j))
        (e11 : (j : ℕ) → in_set rest j ≡ (in_set asked j and not (in_set z j))) where
      asked_target : (y : ℕ) → in_set rest y ≡ true → in_set target y ≡ true
      asked_target y h = (split (sym (e10 y) ∙ (split (sym (e11 y) ∙ h)).0)).1

      pub write_targets : Targets t n x rest
      write_targets =
          record {
            here = record { low = lx; is = is };
            low = λ y h. (named y (asked_target y h)).0;
            accesses = λ y h. (named y (asked_target y h)).1;
            same = λ y h. (named y (asked_target y h)).2;
          }

      pub write_bits : (y k : ℕ) → y < n → k < LONGEST → (whole_bytes t x z y k or parts_of t x rest y k) ≡ before_nth t x y k
      unfolding whole_bytes parts_of part_bytes part_nth
      write_bits y k l m = ⊎_elim on out (which (overlapping t x y))
        where
          S : Bool
          S = shared_bit t x y k

          P : Bool
          P = part_by t (meets t) (shown_to t) x y (nth t x k)

          out : overlapping t x y ≡ false → ((in_set z y and S) or (in_set rest y and (S and P))) ≡ before_nth t x y k
          out h =
              let f : in_set over y ≡ false = rows_in_lem p.shares y l ∙ h in
              or_none (and_false_left (in_set z y) S (e8 y ∙ and_false_right (in_set some y) (in_set over y) f))
              (and_false_left (in_set rest y) (S and P)
              (e11 y ∙ and_false_left (in_set asked y) _ (e10 y ∙ and_false_right (in_set may y) (in_set target y) (e4 y ∙ and_false_right (in_set public y) (in_set over y) f))))
              ∙ sym (not_over t x y k h)

          on : overlapping t x y ≡ true → ((in_set z y and S) or (in_set rest y and (S and P))) ≡ before_nth t x y k
          on h = bool_ext _ _ forth back
            where
              forth : ((in_set z y and S) or (in_set rest y and (S and P))) ≡ true → before_nth t x y k ≡ true
              forth g =
                  bits_are y k l h
                  ∙ ⊎_elim (λ a. let b = split a in and_true b.1 (or_left _ (sym (whole_is y l h) ∙ b.0)))
                  (λ a. let b = split a in let c = split b.1 in and_true c.0 (or_right _ (and_true (target_out y (asked_target y b.0)) c.1)))
                  (or_cases (in_set z y and S) _ g)

              part : S ≡ true → public_write (t.row x) (t.row y) ≡ true → P ≡ true → ((in_set z y and S) or (in_set rest y and (S and P))) ≡ true
              part b g f =
                  ⊎_elim (λ a. or_left _ (and_true a b))
                  (λ a.
                  or_right _
                  (and_true
                  (e11 y
                  ∙ and_true
                  (e10 y
                  ∙ and_true
                  (e9.all y l (part_maybe t x y (inside x lx) (inside y l) o.fit.one is (over_access y l h) (same_of y g) (meets t) (shown_to t) (nth t x k) f))
                  (target_in y l h g))
                  (not_in a))
                  (and_true b f)))
                  (which (in_set z y))

              back : before_nth t x y k ≡ true → ((in_set z y and S) or (in_set rest y and (S and P))) ≡ true
              back g =
                  let c = split (sym (bits_are y k l h) ∙ g) in
                  ⊎_elim (λ a. or_left _ (and_true (whole_is y l h ∙ a) c.0)) (λ a. let b = split a in part c.0 b.0 b.1)
                  (or_cases (whole t (meets t) (shown_to t) x y) _ c.1)

  -- ---- laws: which it is

  pub over_rows : {w : List ℕ} (lc : Locating t n w) (ov over : Set) → ov ≡ set_at w (OVERLAP + 2 * x) → ((j : ℕ) → in_set over j ≡ (in_set ov j and not (eqb j x)))
      → Rows n (overlapping t x) over
  over_rows lc ov over e f = rows_cut (λ j. not (eqb j x)) (grid_at lc.overlapping lx e) f

  public_is : (ps ws z : Set) → ps ≡ set_at s PUBLIC → ws ≡ set_at s WRITES → ((j : ℕ) → in_set z j ≡ (in_set ps j and in_set ws j))
      → in_set z x ≡ (non_private (t.row x) and writes (t.row x))
  public_is ps ws z e1 e2 e3 =
      e3 x
      ∙ ap₂ ◌and◌ (rows_in_lem (rows_at e1 (says_rows o.known.tested.marked.public)) x lx) (rows_in_lem (rows_at e2 (says_rows o.known.tested.accesses.writes)) x lx)

  pub public_write_lem : {before over : Set} (ps ws z : Set) (b : Bool) → ToldTo t n x before → Rows n (overlapping t x) over → ps ≡ set_at s PUBLIC → ws ≡ set_at s WRITES
      → ((j : ℕ) → in_set z j ≡ (in_set ps j and in_set ws j)) → b ≡ in_set z x → b ≡ true → PublicWrite t n x before over
  public_write_lem ps ws z b tells shares e1 e2 e3 e4 e5 =
      let a = split (sym (public_is ps ws z e1 e2 e3) ∙ sym e4 ∙ e5) in
      record { writing = a.1; public = a.0; told = tells; shares = shares }

  pub not_public : (ps ws z : Set) (b : Bool) → ps ≡ set_at s PUBLIC → ws ≡ set_at s WRITES → ((j : ℕ) → in_set z j ≡ (in_set ps j and in_set ws j)) → b ≡ in_set z x → b ≡ false
      → (non_private (t.row x) and writes (t.row x)) ≡ false
  not_public ps ws z b e1 e2 e3 e4 e5 = sym (public_is ps ws z e1 e2 e3) ∙ sym e4 ∙ e5
