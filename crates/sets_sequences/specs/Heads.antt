-- The heads of release sequences: where a sequence ends, as a distance of ranks, and the loops that make the grid. Assumes nothing.
use Rattle.std.specs.Prelude.{◌≡◌, refl, Bool, not, cond, List, ◌⊎◌, ℕ, ◌+◌, ◌-◌, ◌*◌, ◌%◌, ◌≤◌, ◌<◌, eqb, leb, length}
use Rattle.std.proofs.Common.{sym, ap, ap₂, subst, ◌∙◌, arith}
use Rattle.std.proofs.Math.Bool.{true, false}
use Rattle.std.proofs.Math.Logic.{inl, inr, ⊎_elim}
use Rattle.std.proofs.Math.Decide.{dec_lt, ℕ_discrete}
use Rattle.std.proofs.Math.Dec.{ltb}
use borrow.Author.Tests.{eqb-true, eq-eqb, ne_eqb, ltb-true, lt-ltb, le-ltb, leb-true, le-leb, lt-leb}
use Rattle.finite.specs.Logic.{◌and◌, ◌or◌, bool_ext, split, and_true, and_on, and_on_right, and_false_left, and_false_right, or_cases, or_right, or_off, which, not_both, not_so, not_in, not_out}
use Rattle.finite.specs.Below.{any_below, any_in, any_out}
use Rattle.model.specs.Limits.{ROWS, COUNTS}
use Rattle.model.specs.Row.{rmw, ranked, atomic, writes, ATOMIC_WRITE, RMW}
use Rattle.model.specs.Scope.{age, later, later_writer, mutually, mutual_rows, follows}
use Rattle.model.specs.Synchronizes.{continues, ends, sequence}
use Rattle.model.specs.Table.{Table, pair_of, row_of, decode}
use Rattle.model.specs.Header.{pair_at}
use Rattle.model_laws.specs.FilledLaws.{Bytes}
use Rattle.bits.specs.Within.{Within, within_refl, within_trans, within_widen}
use Rattle.sets_of_rows.specs.declared.Set.{Set}
use Rattle.sets_of_rows.specs.Member.{in_set}
use Rattle.sets_of_rows.specs.First.{First, first_next, Rest, next}
use Rattle.sets_of_rows.specs.Kept.{set_at, set_kept, Stored, added}
use Rattle.sets_of_rows.specs.Family.{nth}
use Rattle.sets_of_rows.specs.Rows.{Rows, rows_at, rows_and}
use Rattle.sets_of_rows.specs.Filling.{fill_begin}
use Rattle.sets_of_rows.specs.Walk.{Walk, walk_begin, walk_turn, walk_end, walk_in}
use Rattle.bits.specs.Bit.{zeros}
use Rattle.sets_of_table.specs.Says.{says_kind}
use Rattle.sets_of_table.specs.Known.{Opened, says_rows}
use Rattle.sets_grids.specs.Regions.{LATER, HEADS, HEADS_END}
use Rattle.sets_grids.specs.Grid.{Grid, grid_at, MadeGrid}
use Rattle.sets_grids.specs.Synced.{headed_by}

-- ---- definitions

-- ranks are numbers of 16 bits
abbrev pub Ranks : Table → Type 0
Ranks t = (i : ℕ) → (t.row i).rank < COUNTS

-- how far rank k lies from the head's rank h on
unfoldable pub since : Bool → ℕ → ℕ → ℕ
since counted k h = cond counted (age k h) k

unfoldable pub since_head : Table → ℕ → ℕ → ℕ
since_head t h k = since t.counted (t.row k).rank (t.row h).rank

-- z follows h and ends its sequence
unfoldable pub closes : Table → ℕ → ℕ → Bool
closes t h z = follows t h z and not (rmw (t.row z))

-- of the rows below m, the nearest that ends the sequence of h lies at e; COUNTS where none does
pub record EndsTo (t : Table) (h m e : ℕ) : Type 0 where
  pub high : e ≤ COUNTS
  pub low : (z : ℕ) → z < m → z < t.rows → closes t h z ≡ true → e ≤ since_head t h z
  pub hit : e < COUNTS → (z : ℕ) × (z < t.rows) × (closes t h z ≡ true) × (e ≡ since_head t h z)

-- of all rows
pub record Ends (t : Table) (h e : ℕ) : Type 0 where
  pub high : e ≤ COUNTS
  pub low : (z : ℕ) → z < t.rows → closes t h z ≡ true → e ≤ since_head t h z
  pub hit : e < COUNTS → (z : ℕ) × (z < t.rows) × (closes t h z ≡ true) × (e ≡ since_head t h z)

-- the sequence that row h of n heads ends at e; and ranks have 16 bits
pub record Head (t : Table) (n h e : ℕ) : Type 0 where
  pub low : h < n
  pub ends : Ends t h e
  pub ranks : Ranks t

-- k follows h in its sequence
unfoldable pub continued_by : Table → ℕ → ℕ → Bool
continued_by t h k = follows t h k and not (any_below t.rows (ends t h k))

-- h joined the heads of what follows it in its sequence, of the rows below m
pub record HeadedTo (t : Table) (n h m : ℕ) (w u : List ℕ) : Type 0 where
  pub is : (k j : ℕ) → k < n → in_set (nth u HEADS k) j ≡ (in_set (nth w HEADS k) j or (eqb j h and (ltb k m and continued_by t h k)))
  pub frame : Within HEADS HEADS_END w u

pub record Headed (t : Table) (n h : ℕ) (w u : List ℕ) : Type 0 where
  pub is : (k j : ℕ) → k < n → in_set (nth u HEADS k) j ≡ (in_set (nth w HEADS k) j or (eqb j h and continued_by t h k))
  pub frame : Within HEADS HEADS_END w u

-- h joined the heads of k where b is so; else nothing changed
pub record JoinsIf (b : Bool) (k h : ℕ) (w u : List ℕ) : Type 0 where
  pub yes : b ≡ true → Stored (HEADS + 2 * k) (added w (HEADS + 2 * k) h) w u
  pub no : b ≡ false → u ≡ w
  pub len : length u ≡ length w

-- the heads below m of each row's sequences
pub record HeadsTo (t : Table) (n m : ℕ) (u : List ℕ) : Type 0 where
  pub is : (k j : ℕ) → k < n → in_set (nth u HEADS k) j ≡ (ltb j m and (ltb j n and headed_by t k j))

-- ---- laws: ranks

pub ranks_of : (b : List ℕ) (p : List (List ℕ)) (mode : _) (n : ℕ) → Bytes b → Ranks (decode b p mode n)
unfolding decode row_of pair_of pair_at
ranks_of b p mode n h i =
    let a = h (i * 16 + 14) in
    let c = h (i * 16 + 14 + 1) in
    omega arith

counted_order : (a k h : ℕ) → a < 65536 → k < 65536 → h < 65536 → later true a h ≡ true → later true k h ≡ true → later true a k ≡ ltb (age k h) (age a h)
unfolding later age
counted_order a k h x y z p q = bool_ext _ _ out back
  where
    A : (1 ≤ (a + 65536 - h) % 65536) × ((a + 65536 - h) % 65536 < 32768)
    A = let s = split p in (leb-true 1 _ s.0, ltb-true _ 32768 s.1)

    K : (1 ≤ (k + 65536 - h) % 65536) × ((k + 65536 - h) % 65536 < 32768)
    K = let s = split q in (leb-true 1 _ s.0, ltb-true _ 32768 s.1)

    out : (leb 1 ((a + 65536 - k) % 65536) and ltb ((a + 65536 - k) % 65536) 32768) ≡ true → ltb ((k + 65536 - h) % 65536) ((a + 65536 - h) % 65536) ≡ true
    out e =
        let s = split e in
        let l : 1 ≤ (a + 65536 - k) % 65536 = leb-true 1 ((a + 65536 - k) % 65536) s.0 in
        let m : (a + 65536 - k) % 65536 < 32768 = ltb-true ((a + 65536 - k) % 65536) 32768 s.1 in
        let b = A.0 in
        let c = A.1 in
        let d = K.0 in
        let f = K.1 in
        lt-ltb ((k + 65536 - h) % 65536) ((a + 65536 - h) % 65536) (omega arith)

    back : ltb ((k + 65536 - h) % 65536) ((a + 65536 - h) % 65536) ≡ true → (leb 1 ((a + 65536 - k) % 65536) and ltb ((a + 65536 - k) % 65536) 32768) ≡ true
    back e =
        let l : (k + 65536 - h) % 65536 < (a + 65536 - h) % 65536 = ltb-true ((k + 65536 - h) % 65536) ((a + 65536 - h) % 65536) e in
        let b = A.0 in
        let c = A.1 in
        let d = K.0 in
        let f = K.1 in
        and_true (le-leb 1 ((a + 65536 - k) % 65536) (omega arith)) (lt-ltb ((a + 65536 - k) % 65536) 32768 (omega arith))

later_plain : (a k : ℕ) → later false a k ≡ ltb k a
unfolding later
later_plain a k = refl

later_is : (counted : Bool) (a k h : ℕ) → a < 65536 → k < 65536 → h < 65536 → later counted a h ≡ true → later counted k h ≡ true
    → later counted a k ≡ ltb (since counted k h) (since counted a h)
unfolding since
later_is true a k h x y z p q = counted_order a k h x y z p q
later_is false a k h x y z p q = later_plain a k

since_low : (counted : Bool) (k h : ℕ) → k < 65536 → since counted k h < 65536
unfolding since age
since_low true k h l = omega arith
since_low false k h l = l

later_self : (counted : Bool) (a : ℕ) → later counted a a ≡ false
unfolding later age
later_self true a = and_false_left _ _ (lt-leb 1 ((a + 65536 - a) % 65536) (omega arith))
later_self false a = le-ltb a a (omega arith)

-- ---- laws: what follows a head

module _ (t : Table) (h : ℕ) where
  follows_later : (z : ℕ) → follows t h z ≡ true → later t.counted (t.row z).rank (t.row h).rank ≡ true
  unfolding follows later_writer
  follows_later z e = (split (split e).1).1

  follows_ranked : (z : ℕ) → follows t h z ≡ true → (eqb (t.row z).kind ATOMIC_WRITE ≡ true) ⊎ (rmw (t.row z) ≡ true)
  unfolding follows later_writer mutually mutual_rows atomic writes rmw
  follows_ranked z e =
      let a = split e in
      let at = (split (split (split (split a.0).1).0).0).1 in
      let low = leb-true 2 (t.row z).kind (split at).0 in
      ⊎_elim
      (λ f. ⊎_elim (λ g. let k = eqb-true (t.row z).kind 1 g in absurd (omega arith)) (λ g. inl g) (or_cases _ _ f))
      (λ f. inr f) (or_cases _ _ (split (split a.1).0).0)

  -- an end is an atomic write that is no RMW
  pub closes_write : (z : ℕ) → closes t h z ≡ true → (follows t h z ≡ true) × (eqb (t.row z).kind ATOMIC_WRITE ≡ true)
  unfolding closes
  closes_write z e =
      let a = split e in
      (a.0, ⊎_elim (λ f. f) (λ f. not_both f (not_out (rmw (t.row z)) a.1)) (follows_ranked z a.0))

  pub write_closes : (z : ℕ) → follows t h z ≡ true → eqb (t.row z).kind ATOMIC_WRITE ≡ true → closes t h z ≡ true
  unfolding closes rmw
  write_closes z e f =
      and_true e (not_in (ne_eqb (t.row z).kind 4 (λ g. let k = eqb-true (t.row z).kind 3 f in absurd (omega arith))))

  ends_in : (k z : ℕ) → closes t h z ≡ true → later t.counted (t.row z).rank (t.row k).rank ≡ false → ends t h k z ≡ true
  unfolding closes ends continues
  ends_in k z e f = let a = split e in and_true (and_true a.0 (not_in f)) a.1

  ends_out : (k z : ℕ) → ends t h k z ≡ true → (closes t h z ≡ true) × (later t.counted (t.row z).rank (t.row k).rank ≡ false)
  unfolding closes ends continues
  ends_out k z e = let a = split e in let b = split a.0 in (and_true b.0 a.1, not_out _ b.1)

  -- only an RMW continues a sequence
  pub continued_rmw : (k : ℕ) → k < t.rows → continued_by t h k ≡ true → (follows t h k ≡ true) × (rmw (t.row k) ≡ true)
  unfolding continued_by
  continued_rmw k l e =
      let a = split e in (
        a.0,
        ⊎_elim
            (λ f. not_both (any_in (ends t h k) t.rows k l (ends_in k k (write_closes k a.0 f) (later_self t.counted (t.row k).rank))) (not_out _ a.1))
            (λ f. f) (follows_ranked k a.0),
      )

  -- an RMW that follows the head is in its sequence where it comes before the end
  pub continued_is : Ranks t → (k e : ℕ) → follows t h k ≡ true → Ends t h e → continued_by t h k ≡ ltb (since_head t h k) e
  unfolding continued_by since_head closes
  continued_is r k e f d = bool_ext _ _ out back
    where
      order : (z : ℕ) → follows t h z ≡ true
          → later t.counted (t.row z).rank (t.row k).rank ≡ ltb (since t.counted (t.row k).rank (t.row h).rank) (since t.counted (t.row z).rank (t.row h).rank)
      order z g = later_is t.counted (t.row z).rank (t.row k).rank (t.row h).rank (r z) (r k) (r h) (follows_later z g) (follows_later k f)

      out : (follows t h k and not (any_below t.rows (ends t h k))) ≡ true → ltb (since t.counted (t.row k).rank (t.row h).rank) e ≡ true
      out g = go (dec_lt e COUNTS)
        where
          none : any_below t.rows (ends t h k) ≡ false
          none = not_out _ (split g).1

          go : Dec (e < COUNTS) → ltb (since t.counted (t.row k).rank (t.row h).rank) e ≡ true
          go (no l) = let m = since_low t.counted (t.row k).rank (t.row h).rank (r k) in lt-ltb (since t.counted (t.row k).rank (t.row h).rank) e (omega arith)
          go (yes l) =
              let z = d.hit l in
              ⊎_elim
              (λ p. subst (λ (v : ℕ). ltb (since t.counted (t.row k).rank (t.row h).rank) v ≡ true) (sym z.3) (sym (order z.0 (split z.2).0) ∙ p))
              (λ p. not_both (any_in (ends t h k) t.rows z.0 z.1 (ends_in k z.0 z.2 p)) none)
              (which (later t.counted (t.row z.0).rank (t.row k).rank))

      back : ltb (since t.counted (t.row k).rank (t.row h).rank) e ≡ true → (follows t h k and not (any_below t.rows (ends t h k))) ≡ true
      back g =
          and_true f (not_in (not_so (any_below t.rows (ends t h k)) (λ p.
          let z = any_out (ends t h k) t.rows p in
          let q = ends_out k z.0 z.2 in
          let a = d.low z.0 z.1 q.0 in
          let b = ltb-true _ e g in
          not_both (order z.0 (split q.0).0 ∙ lt-ltb (since t.counted (t.row k).rank (t.row h).rank) (since t.counted (t.row z.0).rank (t.row h).rank) (omega arith)) q.1)))

-- ---- laws: the loop for an end

pub ends_none : (t : Table) (h : ℕ) → EndsTo t h 0 COUNTS
ends_none t h = record { high = omega arith; low = λ z l. absurd (omega arith); hit = λ l. absurd (omega arith) }

ends_skip : (t : Table) (h m e : ℕ) → (m < t.rows → closes t h m ≡ false) → EndsTo t h m e → EndsTo t h (m + 1) e
ends_skip t h m e off d = record { high = d.high; low = λ z l b c. go z l b c (ℕ_discrete z m); hit = d.hit }
  where
    go : (z : ℕ) → z < m + 1 → z < t.rows → closes t h z ≡ true → Dec (z ≡ m) → e ≤ since_head t h z
    go z l b c (yes q) = not_both c (ap (closes t h) q ∙ off (subst (λ (v : ℕ). v < t.rows) q b))
    go z l b c (no q) = d.low z (omega arith) b c

module _ (t : Table) (h : ℕ) (x : Set) (walked : (z : ℕ) → z < t.rows → closes t h z ≡ true → in_set x z ≡ true) where
  off : (m : ℕ) → in_set x m ≡ false → m < t.rows → closes t h m ≡ false
  off m e l = not_so (closes t h m) (λ c. not_both (walked m l c) e)

  pub end_begin : Walk x x × EndsTo t h (next x) COUNTS
  end_begin = walk_begin x (λ m. EndsTo t h m COUNTS) (λ m e d. ends_skip t h m COUNTS (off m e) d) (ends_none t h)

  pub end_turn : {left rest : Set} {e i : ℕ} (k f : ℕ) → Walk x left × EndsTo t h (next left) e → First left i → Rest left rest → i < t.rows → closes t h i ≡ true
      → k ≡ since_head t h i → k < COUNTS → (k < e → f ≡ k) → (e ≤ k → f ≡ e) → Walk x rest × EndsTo t h (next rest) f
  end_turn {left} {rest} {e} {i} k f inv first rest_is l c k_is low less more =
      walk_turn x (λ m. EndsTo t h m f) (λ m z d. ends_skip t h m f (off m z) d) inv.0 first rest_is here
    where
      before : EndsTo t h i e
      before = subst (λ (m : ℕ). EndsTo t h m e) (first_next first) inv.1

      bound : (f ≤ k) × (f ≤ e)
      bound = go (dec_lt k e)
        where
          go : Dec (k < e) → (f ≤ k) × (f ≤ e)
          go (yes q) = let z = less q in (omega arith, omega arith)
          go (no q) = let z = more (omega arith) in (omega arith, omega arith)

      here : EndsTo t h (i + 1) f
      here =
          record {
            high = let a = bound.1 in let b = before.high in omega arith;
            low = λ z m b d. go z m b d (ℕ_discrete z i);
            hit = λ q. find q (dec_lt k e);
          }
        where
          go : (z : ℕ) → z < i + 1 → z < t.rows → closes t h z ≡ true → Dec (z ≡ i) → f ≤ since_head t h z
          go z m b d (yes q) = subst (λ (v : ℕ). f ≤ since_head t h v) (sym q) (let a = bound.0 in omega (arith, k_is, a))
          go z m b d (no q) = let a = bound.1 in let v = before.low z (omega arith) b d in omega arith

          find : f < COUNTS → Dec (k < e) → (z : ℕ) × (z < t.rows) × (closes t h z ≡ true) × (f ≡ since_head t h z)
          find q (yes m) = (i, l, c, less m ∙ k_is)
          find q (no m) = let a = more (omega arith) in let v = before.hit (omega arith) in (v.0, v.1, v.2, a ∙ v.3)

  pub end_done : (left : Set) {e : ℕ} → t.rows ≤ ROWS → any_below ROWS (in_set left) ≡ false → EndsTo t h (next left) e → Ends t h e
  end_done left {e} few q d =
      let all = walk_end x (λ m. EndsTo t h m e) (λ m z d. ends_skip t h m e (off m z) d) left q d in
      record { high = all.high; low = λ z l c. all.low z (omega arith) l c; hit = all.hit }

-- ---- laws: the loop that adds a head

module _ (t : Table) (n h : ℕ) (rows_are : t.rows ≡ n) (few : n ≤ ROWS) (x : Set) (walked : (k : ℕ) → k < n → continued_by t h k ≡ true → in_set x k ≡ true) where
  none_there : (m : ℕ) → in_set x m ≡ false → m < n → continued_by t h m ≡ false
  none_there m e l = not_so (continued_by t h m) (λ c. not_both (walked m l c) e)

  -- of a row k below n, what is below m + 1 and below m is one where row m has nothing
  same_to : (k m : ℕ) → k < n → (k ≡ m → continued_by t h k ≡ false) → (ltb k m and continued_by t h k) ≡ (ltb k (m + 1) and continued_by t h k)
  same_to k m l e = go (ℕ_discrete k m) (dec_lt k m)
    where
      go : Dec (k ≡ m) → Dec (k < m) → (ltb k m and continued_by t h k) ≡ (ltb k (m + 1) and continued_by t h k)
      go (yes q) d = and_false_right (ltb k m) _ (e q) ∙ sym (and_false_right (ltb k (m + 1)) _ (e q))
      go (no q) (yes d) = ap (λ (b : Bool). b and continued_by t h k) (lt-ltb k m d ∙ sym (lt-ltb k (m + 1) (omega arith)))
      go (no q) (no d) = ap (λ (b : Bool). b and continued_by t h k) (le-ltb k m (omega arith) ∙ sym (le-ltb k (m + 1) (omega arith)))

  pass : {m : ℕ} {w u : List ℕ} → (m < n → continued_by t h m ≡ false) → HeadedTo t n h m w u → HeadedTo t n h (m + 1) w u
  pass {m} {w} {u} e d =
      record {
        is = λ k j l.
            d.is k j l
            ∙ ap (λ (b : Bool). in_set (nth w HEADS k) j or (eqb j h and b)) (same_to k m l (λ q. ap (continued_by t h) q ∙ e (subst (λ (v : ℕ). v < n) q l)));
        frame = d.frame;
      }

  pub head_begin : (w : List ℕ) → Walk x x × HeadedTo t n h (next x) w w
  head_begin w = walk_begin x (λ m. HeadedTo t n h m w w) (λ m e d. pass (none_there m e) d) start
    where
      start : HeadedTo t n h 0 w w
      start =
          record {
            is = λ k j l. sym (or_off (in_set (nth w HEADS k) j) (eqb j h and (ltb k 0 and continued_by t h k))
                (and_false_right (eqb j h) _ (and_false_left (ltb k 0) _ (le-ltb k 0 (omega arith)))));
            frame = within_refl HEADS HEADS_END w;
          }

  at : {w u : List ℕ} {left : Set} {i : ℕ} → HeadedTo t n h (next left) w u → First left i → HeadedTo t n h i w u
  at {w} {u} d f = subst (λ (m : ℕ). HeadedTo t n h m w u) (first_next f) d

  pub head_pass : {left rest : Set} {i : ℕ} {w u : List ℕ} → Walk x left × HeadedTo t n h (next left) w u → First left i → Rest left rest → continued_by t h i ≡ false
      → Walk x rest × HeadedTo t n h (next rest) w u
  head_pass {w = w} {u = u} inv f r e = walk_turn x (λ m. HeadedTo t n h m w u) (λ m z d. pass (none_there m z) d) inv.0 f r (pass (λ l. e) (at inv.1 f))

  pub head_turn : {left rest : Set} {i : ℕ} {w u v : List ℕ} → Walk x left × HeadedTo t n h (next left) w u → First left i → Rest left rest → i < n → continued_by t h i ≡ true
      → Stored (HEADS + 2 * i) (added u (HEADS + 2 * i) h) u v → Walk x rest × HeadedTo t n h (next rest) w v
  unfolding added
  head_turn {left} {rest} {i} {w} {u} {v} inv f r l e p =
      walk_turn x (λ m. HeadedTo t n h m w v) (λ m z d. pass (none_there m z) d) inv.0 f r
      (record { is = λ k j o. go k j o (ℕ_discrete k i); frame = within_trans inv.1.frame (within_widen HEADS HEADS_END (omega arith) (omega arith) p.frame) })
    where
      before : HeadedTo t n h i w u
      before = at inv.1 f

      go : (k j : ℕ) → k < n → Dec (k ≡ i) → in_set (nth v HEADS k) j ≡ (in_set (nth w HEADS k) j or (eqb j h and (ltb k (i + 1) and continued_by t h k)))
      go k j o (yes q) =
          subst (λ (z : ℕ). in_set (nth v HEADS z) j ≡ (in_set (nth w HEADS z) j or (eqb j h and (ltb z (i + 1) and continued_by t h z)))) (sym q)
          (p.is j
          ∙ ap (λ (b : Bool). b or eqb j h)
          (before.is i j l ∙ or_off (in_set (nth w HEADS i) j) _ (and_false_right (eqb j h) _ (and_false_left (ltb i i) _ (le-ltb i i (omega arith)))))
          ∙ ap (λ (b : Bool). in_set (nth w HEADS i) j or b) (sym (on (eqb j h) _ (and_true (lt-ltb i (i + 1) (omega arith)) e))))
        where
          on : (a b : Bool) → b ≡ true → (a and b) ≡ a
          on a b z = and_on_right a b z
      go k j o (no q) =
          ap (λ (y : Set). in_set y j) (set_kept (HEADS + 2 * k) (λ c. omega (arith, q)) p.frame) ∙ before.is k j o
          ∙ ap (λ (b : Bool). in_set (nth w HEADS k) j or (eqb j h and b)) (same_to k i o (λ z. absurd (q z)))

  pub head_step : {left rest : Set} {i : ℕ} {w u v : List ℕ} (b : Bool) → Walk x left × HeadedTo t n h (next left) w u → First left i → Rest left rest → i < n
      → b ≡ continued_by t h i → JoinsIf b i h u v → Walk x rest × HeadedTo t n h (next rest) w v
  head_step {left} {rest} {i} {w} {u} {v} b inv f r l e p =
      ⊎_elim (λ c. head_turn inv f r l (sym e ∙ c) (p.yes c))
      (λ c. subst (λ (z : List ℕ). Walk x rest × HeadedTo t n h (next rest) w z) (sym (p.no c)) (head_pass inv f r (sym e ∙ c))) (which b)

  pub head_end : (left : Set) {w u : List ℕ} → any_below ROWS (in_set left) ≡ false → HeadedTo t n h (next left) w u → Headed t n h w u
  head_end left {w} {u} q d =
      let all = walk_end x (λ m. HeadedTo t n h m w u) (λ m z d. pass (none_there m z) d) left q d in
      record {
        is = λ k j l. all.is k j l ∙ ap (λ (b : Bool). in_set (nth w HEADS k) j or (eqb j h and b)) (and_on (ltb k ROWS) _ (lt-ltb k ROWS (omega arith)));
        frame = all.frame;
      }

-- ---- laws: the loop over heads

shut : (t : Table) (h k : ℕ) → (follows t h k and not (any_below t.rows (ends t h k))) ≡ continued_by t h k
unfolding continued_by
shut t h k = refl

module _ (t : Table) (n : ℕ) (few : n ≤ ROWS) (x : Set) (says : Rows n (λ j. ranked (t.row j)) x) where
  heads_skip : {m : ℕ} {u : List ℕ} → in_set x m ≡ false → HeadsTo t n m u → HeadsTo t n (m + 1) u
  unfolding headed_by
  heads_skip {m} {u} e d = record { is = λ k j l. d.is k j l ∙ go k j (ℕ_discrete j m) (dec_lt j m) }
    where
      gone : (k : ℕ) → (ltb m n and headed_by t k m) ≡ false
      gone k = not_so _ (λ c. let a = split c in not_both (says.is m ∙ and_true a.0 (split a.1).0) e)

      go : (k j : ℕ) → Dec (j ≡ m) → Dec (j < m) → (ltb j m and (ltb j n and headed_by t k j)) ≡ (ltb j (m + 1) and (ltb j n and headed_by t k j))
      go k j (yes q) c =
          let z : (ltb j n and headed_by t k j) ≡ false = ap (λ (v : ℕ). ltb v n and headed_by t k v) q ∙ gone k in
          and_false_right (ltb j m) _ z ∙ sym (and_false_right (ltb j (m + 1)) _ z)
      go k j (no q) (yes c) = ap (λ (b : Bool). b and (ltb j n and headed_by t k j)) (lt-ltb j m c ∙ sym (lt-ltb j (m + 1) (omega arith)))
      go k j (no q) (no c) = ap (λ (b : Bool). b and (ltb j n and headed_by t k j)) (le-ltb j m (omega arith) ∙ sym (le-ltb j (m + 1) (omega arith)))

  pub heads_begin : {u : List ℕ} → ((k j : ℕ) → k < n → in_set (nth u HEADS k) j ≡ false) → Walk x x × HeadsTo t n (next x) u
  heads_begin {u} e =
      walk_begin x (λ m. HeadsTo t n m u) (λ m z d. heads_skip z d)
      (record { is = λ k j l. e k j l ∙ sym (and_false_left (ltb j 0) _ (le-ltb j 0 (omega arith))) })

  -- row h is put in its own sequence, then in those of what follows it
  pub heads_turn : {left rest : Set} {h : ℕ} {u v w : List ℕ} → Walk x left × HeadsTo t n (next left) u → First left h → Rest left rest
      → Stored (HEADS + 2 * h) (added u (HEADS + 2 * h) h) u v → Headed t n h v w → Walk x rest × HeadsTo t n (next rest) w
  unfolding added headed_by sequence continued_by ◌and◌
  heads_turn {left} {rest} {h} {u} {v} {w} inv f r p d =
      walk_turn x (λ m. HeadsTo t n m w) (λ m z d. heads_skip z d) inv.0 f r (record { is = λ k j l. go k j l (ℕ_discrete j h) (ℕ_discrete k h) })
    where
      low : (h < n) × (ranked (t.row h) ≡ true)
      low = let a = split (sym (says.is h) ∙ walk_in inv.0 f) in (ltb-true h n a.0, a.1)

      before : HeadsTo t n h u
      before = subst (λ (m : ℕ). HeadsTo t n m u) (first_next f) inv.1

      -- another column is as it was
      other : (k j : ℕ) → k < n → (j ≡ h → ⊥) → Dec (k ≡ h) → in_set (nth v HEADS k) j ≡ in_set (nth u HEADS k) j
      other k j l q (yes c) =
          subst (λ (z : ℕ). in_set (nth v HEADS z) j ≡ in_set (nth u HEADS z) j) (sym c) (p.is j ∙ or_off (in_set (nth u HEADS h) j) (eqb j h) (ne_eqb j h q))
      other k j l q (no c) = ap (λ (y : Set). in_set y j) (set_kept (HEADS + 2 * k) (λ z. omega (arith, c)) p.frame)

      same : (j : ℕ) → (j ≡ h → ⊥) → Dec (j < h) → ltb j h ≡ ltb j (h + 1)
      same j q (yes c) = lt-ltb j h c ∙ sym (lt-ltb j (h + 1) (omega arith))
      same j q (no c) = le-ltb j h (omega arith) ∙ sym (le-ltb j (h + 1) (omega arith))

      -- column h of row k, before it is continued
      own : (k : ℕ) → k < n → Dec (k ≡ h) → in_set (nth v HEADS k) h ≡ eqb h k
      own k l (yes c) =
          subst (λ (z : ℕ). in_set (nth v HEADS z) h ≡ eqb h z) (sym c)
          (p.is h ∙ or_right (in_set (nth u HEADS h) h) (eq-eqb h h refl) ∙ sym (eq-eqb h h refl))
      own k l (no c) =
          ap (λ (y : Set). in_set y h) (set_kept (HEADS + 2 * k) (λ z. omega (arith, c)) p.frame) ∙ before.is k h l
          ∙ and_false_left (ltb h h) _ (le-ltb h h (omega arith)) ∙ sym (ne_eqb h k (λ z. c (sym z)))

      go : (k j : ℕ) → k < n → Dec (j ≡ h) → Dec (k ≡ h)
          → in_set (nth w HEADS k) j ≡ (ltb j (h + 1) and (ltb j n and (ranked (t.row j) and (eqb j k or (follows t j k and not (any_below t.rows (ends t j k)))))))
      go k j l (yes q) c =
          subst
          (λ (z : ℕ). in_set (nth w HEADS k) z ≡ (ltb z (h + 1) and (ltb z n and (ranked (t.row z) and (eqb z k or (follows t z k and not (any_below t.rows (ends t z k))))))))
          (sym q)
          (d.is k h l ∙ ap₂ ◌or◌ (own k l c) (and_on (eqb h h) (continued_by t h k) (eq-eqb h h refl))
          ∙ sym (and_on (ltb h (h + 1)) _ (lt-ltb h (h + 1) (omega arith)) ∙ and_on (ltb h n) _ (lt-ltb h n low.0) ∙ and_on (ranked (t.row h)) _ low.1
          ∙ ap (λ (b : Bool). eqb h k or b) (sym (shut t h k))))
      go k j l (no q) c =
          d.is k j l ∙ or_off (in_set (nth v HEADS k) j) _ (and_false_left (eqb j h) _ (ne_eqb j h q)) ∙ other k j l q c ∙ before.is k j l
          ∙ ap (λ (b : Bool). b and (ltb j n and headed_by t k j)) (same j q (dec_lt j h))

  pub heads_end : (left : Set) {w u : List ℕ} → any_below ROWS (in_set left) ≡ false → HeadsTo t n (next left) u → Within HEADS HEADS_END w u
      → MadeGrid HEADS HEADS_END HEADS n (headed_by t) w u
  heads_end left {w} {u} q d f =
      let all = walk_end x (λ m. HeadsTo t n m u) (λ m z d. heads_skip z d) left q d in
      record { grid = record { row = λ k l. record { is = λ j. all.is k j l ∙ wide k j (dec_lt j ROWS) } }; frame = f }
    where
      wide : (k j : ℕ) → Dec (j < ROWS) → (ltb j ROWS and (ltb j n and headed_by t k j)) ≡ (ltb j n and headed_by t k j)
      wide k j (yes l) = and_on (ltb j ROWS) _ (lt-ltb j ROWS l)
      wide k j (no l) =
          and_false_left (ltb j ROWS) _ (le-ltb j ROWS (omega arith)) ∙ sym (and_false_left (ltb j n) _ (le-ltb j n (omega arith)))

pub joins_yes : {b : Bool} {k h : ℕ} {w u : List ℕ} → b ≡ true → Stored (HEADS + 2 * k) (added w (HEADS + 2 * k) h) w u → JoinsIf b k h w u
joins_yes e p = record { yes = λ c. p; no = λ c. not_both e c; len = p.frame.len }

pub joins_no : {b : Bool} (k h : ℕ) (w : List ℕ) → b ≡ false → JoinsIf b k h w w
joins_no k h w e = record { yes = λ c. not_both c e; no = λ c. refl; len = refl }

-- ---- laws: sets and numbers of the code

pub since_is : (t : Table) (h i : ℕ) {c : Bool} {a b r : ℕ} → c ≡ t.counted → a ≡ (t.row i).rank → b ≡ (t.row h).rank → r ≡ since c a b → r ≡ since_head t h i
unfolding since_head
since_is t h i e f g k = k ∙ rw (e, f, g) refl

pub kind_rows : {t : Table} {n : ℕ} {s w : List ℕ} → Opened t n s → Grid LATER n (follows t) w → (h k : ℕ) (a b x : Set) → h < n → k < 16 → a ≡ set_at w (LATER + 2 * h)
    → b ≡ set_at s (0 + 2 * k) → ((j : ℕ) → in_set x j ≡ (in_set a j and in_set b j)) → Rows n (λ z. follows t h z and eqb (t.row z).kind k) x
kind_rows {t} {n} {s} o g h k a b x l m e f i = rows_and (grid_at g l e) (rows_at (f ∙ ap (λ (z : ℕ). set_at s (0 + 2 * z)) (let q : k ≡ 0 + k = omega arith in q)) (says_rows (says_kind o.known.tested.ground k m))) i

module _ (t : Table) (n h : ℕ) (x : Set) (rows_are : t.rows ≡ n) (says : Rows n (λ z. follows t h z and eqb (t.row z).kind ATOMIC_WRITE) x) where
  pub ends_walked : (z : ℕ) → z < t.rows → closes t h z ≡ true → in_set x z ≡ true
  ends_walked z l c = let a = closes_write t h z c in says.is z ∙ and_true (lt-ltb z n (omega (arith, rows_are))) (and_true a.0 a.1)

  pub ends_member : (z : ℕ) → in_set x z ≡ true → (z < t.rows) × (closes t h z ≡ true)
  ends_member z e =
      let a = split (sym (says.is z) ∙ e) in
      let b = split a.1 in
      let l = ltb-true z n a.0 in
      (omega (arith, rows_are), write_closes t h z b.0 b.1)

module _ (t : Table) (n h : ℕ) (x : Set) (rows_are : t.rows ≡ n) (says : Rows n (λ z. follows t h z and eqb (t.row z).kind RMW) x) where
  pub head_walked : (k : ℕ) → k < n → continued_by t h k ≡ true → in_set x k ≡ true
  unfolding rmw
  head_walked k l c = let a = continued_rmw t h k (omega (arith, rows_are)) c in says.is k ∙ and_true (lt-ltb k n l) (and_true a.0 a.1)

  pub head_member : (k : ℕ) → in_set x k ≡ true → (k < n) × (follows t h k ≡ true)
  head_member k e =
      let a = split (sym (says.is k) ∙ e) in
      (ltb-true k n a.0, (split a.1).0)

-- a grid that was cleared
pub cleared : (base : ℕ) (w : List ℕ) {u : List ℕ} → base + 2 * ROWS ≤ length w → u ≡ zeros w base (base + 2 * ROWS - base) → (k j : ℕ) → k < ROWS → in_set (nth u base k) j ≡ false
cleared base w {u} l e k j o =
    (fill_begin base (set_at u 0) (λ i m. false) w l e).to.is k j o ∙ and_false_right _ _ (and_false_right (in_set (set_at u 0) k) false refl)

pub near_is : (t : Table) (h i e : ℕ) {k : ℕ} → Ranks t → follows t h i ≡ true → Ends t h e → k ≡ since_head t h i → ltb k e ≡ continued_by t h i
near_is t h i e r f d q = ap (λ (z : ℕ). ltb z e) q ∙ sym (continued_is t h r i e f d)
