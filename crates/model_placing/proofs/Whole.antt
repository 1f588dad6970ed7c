-- FULL and SOME, proved: L3 at a byte by the sets alone, or by plain elements that hold a part; what the elements that cover all
-- of a row lead to; and the pairs by sets. Of tables whose rows have at most LONGEST bytes.
use Rattle.std.specs.Prelude.{◌≡◌, refl, ◌⊎◌, ℕ, suc, ◌+◌, ◌<◌}
use Rattle.std.proofs.Math.Path.{sym, ap}
use Rattle.std.proofs.Common.{◌∙◌, arith, leb-true}
use Rattle.std.proofs.Math.Bool.{Bool, true, false, cond}
use Rattle.std.proofs.Math.Logic.{inl, inr, ⊎_elim}
use Rattle.finite.specs.Logic.{◌and◌, ◌or◌, split, and_true, and_false_left, or_cases, or_left, or_right, which, not_in, not_out, bool_ext}
use Rattle.finite.specs.Below.{any_below, any_in, any_out}
use Rattle.model.specs.declared.Row.{Row}
use Rattle.model.specs.Row.{plain, reads, touches, covers, overlap}
use Rattle.model.specs.Table.{Table}
use Rattle.model.specs.Location.{before}
use Rattle.model.specs.Availability.{same_reference, covers_of, public_write, first_available, last_visible, L3}
use Rattle.model.specs.Race.{nth}
use Rattle.model.specs.Edge.{before_nth}
use Rattle.model_laws.specs.PairLaws.{inside_in, inside_out, overlap_is, common_out}
use Rattle.model_placing.specs.Leads.{seen_by, leads, carried_by, carried, cond_on, cond_off}
use Rattle.model_placing.specs.Elements.{behind, ahead, kept, first_wide, last_wide, last_plain, kept_is}
use Rattle.model_placing.specs.Whole.{first_plain, whole_plain, narrow, strong, strong_by, strong_to, wide_by, wide_seen, part_of, part_seen}
use Rattle.model_placing.specs.Whole.{full_by, met_by, narrow_to, part_by, told, shared_at, shared_nth, whole, part_nth, Right, before_is, shared_common}

-- ---- laws: elements at a byte

covered : (r q : Row) (b : ℕ) → covers r q ≡ true → touches q b ≡ true → touches r b ≡ true
unfolding covers touches
covered r q b e f =
    let i = inside_out q.start q.size b f in
    let lo = leb-true r.start q.start (split e).0 in
    let hi = leb-true (q.start + q.size) (r.start + r.size) (split e).1 in
    let a = i.0 in
    let c = i.1 in
    inside_in r.start r.size b (omega arith) (omega arith)

module _ (t : Table) where
  first_out : (x b a : ℕ) → touches (t.row x) b ≡ true → first_available t x b a ≡ true
      → (strong t x a ≡ true) ⊎ ((narrow t x a and touches (t.row a) b) ≡ true)
  unfolding first_available covers_of strong narrow first_wide whole_plain first_plain behind
  first_out x b a own e = ⊎_elim plainly widely (which (plain (t.row a)))
    where
      widely : plain (t.row a) ≡ false → (strong t x a ≡ true) ⊎ ((narrow t x a and touches (t.row a) b) ≡ true)
      widely p = inl (or_left _ (and_true (and_true (not_in p) (split e).0) (sym (cond_off _ _ _ p) ∙ (split e).1)))

      plainly : plain (t.row a) ≡ true → (strong t x a ≡ true) ⊎ ((narrow t x a and touches (t.row a) b) ≡ true)
      plainly p =
          let f : (same_reference (t.row a) (t.row x) and touches (t.row a) b) ≡ true = sym (cond_on _ _ _ p) ∙ (split e).1 in
          let g : (plain (t.row a) and behind t x a and same_reference (t.row a) (t.row x) and overlap (t.row x) (t.row a)) ≡ true =
          and_true (and_true (and_true p (split e).0) (split f).0) ((overlap_is (t.row x) (t.row a)).1 (b, own, (split f).1)) in
          ⊎_elim (λ c. inl (or_right _ (and_true g c))) (λ c. inr (and_true (and_true g (not_in c)) (split f).1)) (which (covers (t.row a) (t.row x)))

  plain_first : (x b a : ℕ) → first_plain t x a ≡ true → touches (t.row a) b ≡ true → first_available t x b a ≡ true
  unfolding first_available covers_of first_plain behind
  plain_first x b a e f = let h = split (split e).0 in and_true (split h.0).1 (cond_on _ _ _ (split h.0).0 ∙ and_true h.1 f)

  strong_first : (x b a : ℕ) → touches (t.row x) b ≡ true → strong t x a ≡ true → first_available t x b a ≡ true
  unfolding first_available covers_of strong first_wide whole_plain behind
  strong_first x b a own e =
      ⊎_elim (λ h. and_true (split (split h).0).1 (cond_off _ _ _ (not_out (plain (t.row a)) (split (split h).0).0) ∙ (split h).1))
      (λ h. plain_first x b a (split h).0 (covered (t.row a) (t.row x) b (split h).1 own)) (or_cases (first_wide t x a) _ e)

  narrow_first : (x b a : ℕ) → narrow t x a ≡ true → touches (t.row a) b ≡ true → first_available t x b a ≡ true
  unfolding narrow
  narrow_first x b a e f = plain_first x b a (split e).0 f

  last_out : (y b v : ℕ) → last_visible t y b v ≡ true → (last_wide t y v ≡ true) ⊎ ((last_plain t y v and touches (t.row v) b) ≡ true)
  unfolding last_visible covers_of last_wide last_plain ahead
  last_out y b v e =
      ⊎_elim (λ p. let f : (same_reference (t.row v) (t.row y) and touches (t.row v) b) ≡ true = sym (cond_on _ _ _ p) ∙ (split e).1 in
      inr (and_true (and_true (and_true p (split e).0) (split f).0) (split f).1))
      (λ p. inl (and_true (and_true (not_in p) (split e).0) (sym (cond_off _ _ _ p) ∙ (split e).1))) (which (plain (t.row v)))

  wide_last : (y b v : ℕ) → last_wide t y v ≡ true → last_visible t y b v ≡ true
  unfolding last_visible covers_of last_wide ahead
  wide_last y b v e = and_true (split (split e).0).1 (cond_off _ _ _ (not_out (plain (t.row v)) (split (split e).0).0) ∙ (split e).1)

  part_last : (y b v : ℕ) → last_plain t y v ≡ true → touches (t.row v) b ≡ true → last_visible t y b v ≡ true
  unfolding last_visible covers_of last_plain ahead
  part_last y b v e f = and_true (split (split e).0).1 (cond_on _ _ _ (split (split e).0).0 ∙ and_true (split e).1 f)

  -- ---- laws: sets of last elements

  wide_in_lem : (y : ℕ) (z : ℕ → Bool) (v : ℕ) → v < t.rows → last_wide t y v ≡ true → z v ≡ true → wide_seen t y z ≡ true
  unfolding wide_seen wide_by
  wide_in_lem y z v l e f = any_in (wide_by t y z) t.rows v l (and_true e f)

  wide_out : (y : ℕ) (z : ℕ → Bool) → wide_seen t y z ≡ true → (v : ℕ) × (v < t.rows) × (last_wide t y v ≡ true) × (z v ≡ true)
  unfolding wide_seen wide_by
  wide_out y z e = let v = any_out (wide_by t y z) t.rows e in (v.0, v.1, (split v.2).0, (split v.2).1)

  part_in : (y b : ℕ) (z : ℕ → Bool) (v : ℕ) → v < t.rows → last_plain t y v ≡ true → touches (t.row v) b ≡ true → z v ≡ true → part_seen t y b z ≡ true
  unfolding part_seen part_of
  part_in y b z v l e f g = any_in (part_of t y b z) t.rows v l (and_true (and_true e f) g)

  part_out : (y b : ℕ) (z : ℕ → Bool) → part_seen t y b z ≡ true
      → (v : ℕ) × (v < t.rows) × (last_plain t y v ≡ true) × (touches (t.row v) b ≡ true) × (z v ≡ true)
  unfolding part_seen part_of
  part_out y b z e = let v = any_out (part_of t y b z) t.rows e in let f = split v.2 in (v.0, v.1, (split f.0).0, (split f.0).1, f.1)

  -- ---- laws: L3 by the elements that cover all, and by those that cover a part

  module _ (at vis : ℕ → ℕ → Bool) where
    strong_in : (set : ℕ → ℕ → Bool) (x i a : ℕ) → a < t.rows → strong t x a ≡ true → set a i ≡ true → strong_to t set x i ≡ true
    unfolding strong_to strong_by
    strong_in set x i a l e f = any_in (strong_by t set x i) t.rows a l (and_true e f)

    strong_out : (set : ℕ → ℕ → Bool) (x i : ℕ) → strong_to t set x i ≡ true → (a : ℕ) × (a < t.rows) × (strong t x a ≡ true) × (set a i ≡ true)
    unfolding strong_to strong_by
    strong_out set x i e = let a = any_out (strong_by t set x i) t.rows e in (a.0, a.1, (split a.2).0, (split a.2).1)

    narrow_in : (x y b a : ℕ) → a < t.rows → (narrow t x a and touches (t.row a) b) ≡ true → met_by t at vis y b a ≡ true
        → any_below t.rows (narrow_to t at vis x y b) ≡ true
    unfolding narrow_to
    narrow_in x y b a l e f = any_in (narrow_to t at vis x y b) t.rows a l (and_true e f)

    narrow_out : (x y b : ℕ) → any_below t.rows (narrow_to t at vis x y b) ≡ true
        → (a : ℕ) × (a < t.rows) × (narrow t x a ≡ true) × (touches (t.row a) b ≡ true) × (met_by t at vis y b a ≡ true)
    unfolding narrow_to
    narrow_out x y b e =
        let a = any_out (narrow_to t at vis x y b) t.rows e in
        let f = split a.2 in
        (a.0, a.1, (split f.0).0, (split f.0).1, f.1)

    -- a reader meets what a leads to by a wide last element, or by a plain one that has the byte
    seen_is : (a y b : ℕ) → any_below t.rows (seen_by t vis a y b) ≡ (wide_seen t y (vis a) or part_seen t y b (vis a))
    unfolding seen_by
    seen_is a y b = bool_ext _ _ forth back
      where
        forth : any_below t.rows (seen_by t vis a y b) ≡ true → (wide_seen t y (vis a) or part_seen t y b (vis a)) ≡ true
        forth e =
            let v = any_out (seen_by t vis a y b) t.rows e in
            ⊎_elim (λ h. or_left _ (wide_in_lem y (vis a) v.0 v.1 h (split v.2).1))
            (λ h. or_right _ (part_in y b (vis a) v.0 v.1 (split h).0 (split h).1 (split v.2).1)) (last_out y b v.0 (split v.2).0)

        back : (wide_seen t y (vis a) or part_seen t y b (vis a)) ≡ true → any_below t.rows (seen_by t vis a y b) ≡ true
        back e =
            ⊎_elim (λ h. let v = wide_out y (vis a) h in any_in (seen_by t vis a y b) t.rows v.0 v.1 (and_true (wide_last y b v.0 v.2) v.3))
            (λ h. let v = part_out y b (vis a) h in any_in (seen_by t vis a y b) t.rows v.0 v.1 (and_true (part_last y b v.0 v.2 v.3) v.4))
            (or_cases (wide_seen t y (vis a)) (part_seen t y b (vis a)) e)

    leads_is : (a y b : ℕ) → leads t at vis a y b ≡ met_by t at vis y b a
    unfolding leads met_by
    leads_is a y b = ap (λ (c : Bool). cond (reads (t.row y)) c (at a y)) (seen_is a y b)

    -- what a first element at each byte leads to
    strong_way : (x y b a : ℕ) → a < t.rows → strong t x a ≡ true → met_by t at vis y b a ≡ true → (full_by t at vis x y or part_by t at vis x y b) ≡ true
    unfolding full_by part_by met_by
    strong_way x y b a l e f = ⊎_elim reading writing (which (reads (t.row y)))
      where
        goal : Bool
        goal =
            cond (reads (t.row y)) (wide_seen t y (strong_to t vis x)) (strong_to t at x y)
            or ((reads (t.row y) and part_seen t y b (strong_to t vis x)) or any_below t.rows (narrow_to t at vis x y b))

        writing : reads (t.row y) ≡ false → goal ≡ true
        writing r = let g : at a y ≡ true = sym (cond_off _ _ _ r) ∙ f in or_left _ (cond_off _ _ _ r ∙ strong_in at x y a l e g)

        reading : reads (t.row y) ≡ true → goal ≡ true
        reading r =
            let g : (wide_seen t y (vis a) or part_seen t y b (vis a)) ≡ true = sym (cond_on _ _ _ r) ∙ f in
            ⊎_elim (λ h. let v = wide_out y (vis a) h in
            or_left _ (cond_on _ _ _ r ∙ wide_in_lem y (strong_to t vis x) v.0 v.1 v.2 (strong_in vis x v.0 a l e v.3)))
            (λ h. let v = part_out y b (vis a) h in
            or_right _ (or_left _ (and_true r (part_in y b (strong_to t vis x) v.0 v.1 v.2 v.3 (strong_in vis x v.0 a l e v.4)))))
            (or_cases (wide_seen t y (vis a)) (part_seen t y b (vis a)) g)

    module _ (x y b : ℕ) (own : touches (t.row x) b ≡ true) where
      carried_in : (a : ℕ) → a < t.rows → first_available t x b a ≡ true → met_by t at vis y b a ≡ true → carried t at vis x y b ≡ true
      unfolding carried carried_by
      carried_in a l e f = any_in (carried_by t at vis x y b) t.rows a l (and_true e (leads_is a y b ∙ f))

      carried_forth : carried t at vis x y b ≡ true → (full_by t at vis x y or part_by t at vis x y b) ≡ true
      unfolding carried carried_by part_by
      carried_forth e =
          let a = any_out (carried_by t at vis x y b) t.rows e in
          let m : met_by t at vis y b a.0 ≡ true = sym (leads_is a.0 y b) ∙ (split a.2).1 in
          ⊎_elim (λ h. strong_way x y b a.0 a.1 h m) (λ h. or_right _ (or_right _ (narrow_in x y b a.0 a.1 h m)))
          (first_out x b a.0 own (split a.2).0)

      full_back : full_by t at vis x y ≡ true → carried t at vis x y b ≡ true
      unfolding full_by met_by
      full_back e =
          ⊎_elim
          (λ r.
          let f : wide_seen t y (strong_to t vis x) ≡ true = sym (cond_on _ _ _ r) ∙ e in
          let v = wide_out y (strong_to t vis x) f in
          let a = strong_out vis x v.0 v.3 in
          carried_in a.0 a.1 (strong_first x b a.0 own a.2) (cond_on _ _ _ r ∙ or_left _ (wide_in_lem y (vis a.0) v.0 v.1 v.2 a.3)))
          (λ r.
          let f : strong_to t at x y ≡ true = sym (cond_off _ _ _ r) ∙ e in
          let a = strong_out at x y f in
          carried_in a.0 a.1 (strong_first x b a.0 own a.2) (cond_off _ _ _ r ∙ a.3))
          (which (reads (t.row y)))

      part_back : part_by t at vis x y b ≡ true → carried t at vis x y b ≡ true
      unfolding part_by met_by
      part_back e =
          ⊎_elim
          (λ h.
          let v = part_out y b (strong_to t vis x) (split h).1 in
          let a = strong_out vis x v.0 v.4 in
          carried_in a.0 a.1 (strong_first x b a.0 own a.2)
          (cond_on _ _ _ (split h).0 ∙ or_right _ (part_in y b (vis a.0) v.0 v.1 v.2 v.3 a.3)))
          (λ h. let a = narrow_out x y b h in carried_in a.0 a.1 (narrow_first x b a.0 a.2 a.3) a.4)
          (or_cases (reads (t.row y) and part_seen t y b (strong_to t vis x)) _ e)

      -- L3 at a byte of x's: by sets alone, or by plain elements that have the byte
      pub carried_is : carried t at vis x y b ≡ (full_by t at vis x y or part_by t at vis x y b)
      carried_is = bool_ext _ _ carried_forth (λ e. ⊎_elim full_back part_back (or_cases (full_by t at vis x y) _ e))

  -- what the strong elements lead to: what was kept up the page, and the plain ones that hold all of x
  pub strong_kept : (set : ℕ → ℕ → Bool) (x i : ℕ) → x < t.rows
      → strong_to t set x i
      ≡ (kept t (t.row x).agent (t.row x).class (suc x) (λ a. set a i) or any_below t.rows (λ a. whole_plain t x a and set a i))
  unfolding strong_to strong_by strong
  strong_kept set x i l =
      bool_ext _ _ forth back ∙ ap (λ (c : Bool). c or any_below t.rows (λ a. whole_plain t x a and set a i)) (kept_is t x (λ a. set a i) l)
    where
      forth : any_below t.rows (strong_by t set x i) ≡ true
          → (any_below t.rows (λ a. first_wide t x a and set a i) or any_below t.rows (λ a. whole_plain t x a and set a i)) ≡ true
      forth e =
          let a = any_out (strong_by t set x i) t.rows e in
          let f = split a.2 in
          ⊎_elim (λ h. or_left _ (any_in (λ a. first_wide t x a and set a i) t.rows a.0 a.1 (and_true h f.1)))
          (λ h. or_right _ (any_in (λ a. whole_plain t x a and set a i) t.rows a.0 a.1 (and_true h f.1))) (or_cases (first_wide t x a.0) _ f.0)

      back : (any_below t.rows (λ a. first_wide t x a and set a i) or any_below t.rows (λ a. whole_plain t x a and set a i)) ≡ true
          → any_below t.rows (strong_by t set x i) ≡ true
      back e =
          ⊎_elim
          (λ h.
          let a = any_out (λ a. first_wide t x a and set a i) t.rows h in
          any_in (strong_by t set x i) t.rows a.0 a.1 (and_true (or_left _ (split a.2).0) (split a.2).1))
          (λ h.
          let a = any_out (λ a. whole_plain t x a and set a i) t.rows h in
          any_in (strong_by t set x i) t.rows a.0 a.1 (and_true (or_right _ (split a.2).0) (split a.2).1))
          (or_cases (any_below t.rows (λ a. first_wide t x a and set a i)) _ e)

-- ---- laws: pairs by sets

spread : (a p f q : Bool) → (a or (p and (f or q))) ≡ ((a or (p and f)) or (p and q))
unfolding ◌and◌ ◌or◌
spread true p f q = refl
spread false true f q = refl
spread false false f q = refl

module _ (t : Table) (x y : ℕ) where
  module _ (at vis : ℕ → ℕ → Bool) (right : Right t at vis x y) where
    -- location order at a byte
    pub before_by : (b : ℕ)
        → before t x y b ≡ (shared_at t x y b and (whole t at vis x y or (public_write (t.row x) (t.row y) and part_by t at vis x y b)))
    unfolding whole
    before_by b = before_is t x y b ∙ ⊎_elim on off (which (shared_at t x y b))
      where
        P : Bool
        P = public_write (t.row x) (t.row y)

        on : shared_at t x y b ≡ true
            → (shared_at t x y b and (told t x y or L3 t x y b))
            ≡ (shared_at t x y b and ((told t x y or (P and full_by t at vis x y)) or (P and part_by t at vis x y b)))
        on s =
            let c = shared_common t x y b s in
            ap (λ (a : Bool). shared_at t x y b and a)
            (right b c ∙ ap (λ (a : Bool). told t x y or (P and a)) (carried_is t at vis x y b (common_out (t.row x) (t.row y) b c).2)
            ∙ spread (told t x y) P (full_by t at vis x y) (part_by t at vis x y b))

        off : shared_at t x y b ≡ false
            → (shared_at t x y b and (told t x y or L3 t x y b))
            ≡ (shared_at t x y b and ((told t x y or (P and full_by t at vis x y)) or (P and part_by t at vis x y b)))
        off s = and_false_left _ _ s ∙ sym (and_false_left _ _ s)

    -- the bits of a pair
    pub bits_by : (k : ℕ) → before_nth t x y k ≡ (shared_nth t x y k and (whole t at vis x y or part_nth t at vis x y k))
    unfolding before_nth shared_nth part_nth
    bits_by k = before_by (nth t x k)
