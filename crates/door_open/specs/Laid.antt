-- The bytes of a run as they are laid out from two pieces f and s. Assumes nothing.
use Rattle.std.specs.Prelude.{◌≡◌, Bool, true, false, not, List, [], ◌∷◌, ◌++◌, ℕ, ◌+◌, ◌-◌, ◌*◌, ◌/◌, ◌%◌, ◌≤◌, ◌<◌, min, drop, set, replicate, ltb, leb, eqb}
use Rattle.std.proofs.Math.Path.{refl, sym, ap, ap₂, subst}
use Rattle.std.proofs.Common.{◌∙◌, length-set, length-append, get_or-set_same, get_or-set_other}
use Rattle.std.proofs.Math.Bool.{cond}
use Rattle.std.proofs.Math.Logic.{⊎_elim}
use native.Mathlib.Omega.{arith}
use Rattle.std.proofs.Math.Decide.{dec_lt, ℕ_discrete}
use Rattle.std.proofs.Math.ListN.{length, get_or, length-drop, get_or-eq_default}
use Rattle.std.proofs.lemmas.List.{length-replicate}
use Rattle.std.proofs.Math.Seq.{ext_get_or, get_or-drop, paste}
use Rattle.std.proofs.lemmas.List.Edits.{length-paste}
use borrow.Author.Tests.{lt-ltb, le-ltb}
use Rattle.finite.specs.Logic.{which}
use Rattle.finite.specs.Lists.{tabulate, length_tabulate, get_d_tabulate, tabulate_cong}
use Rattle.model.specs.Limits.{AGENTS, DEPENDENCIES}
use Rattle.model.specs.Header.{HEADER, VERSION_COUNTED, VERSION_HOSTS, pair_at, version_at, agents_at, has_hosts, shader_place_at, any_place_at, place_at, slot_at, places_of, row_bytes}
use Rattle.model.specs.Table.{dependency_count, dependency_end, dependency_from, dependency_to, mode_of}
use Rattle.model.specs.Header.{dependency_bytes}
use Rattle.door_pieces.specs.Pieces.{AREA, area_of}
use Rattle.door_pieces.specs.PiecesLaws.{both_first, both_second, get_d_zeros, paste_before, paste_within, paste_past}
use Rattle.run.specs.Layout.{SIZE, DEPENDS, ROWS_AT, flag_in, places_in, mode_in, rows_in}

-- ---- definitions

-- u is t but for n bytes from `at` on, which are those that f says
pub record Put (at : ℕ) (f : ℕ → ℕ) (n : ℕ) (t u : List ℕ) : Type 0 where
  pub len : length u ≡ length t
  pub inside : (k : ℕ) → k < n → get_or u (at + k) 0 ≡ f k
  pub outside : (x : ℕ) → (at ≤ x → at + n ≤ x) → get_or u x 0 ≡ get_or t x 0

-- a flag as a byte
abbrev pub flag_byte : Bool → ℕ
flag_byte b = cond b 1 0

-- the header, without chains
unfoldable pub head_of : List ℕ → List ℕ
head_of f = 0 ∷ flag_byte (leb VERSION_COUNTED (version_at f)) ∷ 0 ∷ 0 ∷ VERSION_HOSTS ∷ agents_at f ∷ 0 ∷ 0 ∷ []

-- byte k of the places: with host agents as it stands, else three numbers and a zero
unfoldable pub place_byte : Bool → List ℕ → ℕ → ℕ
place_byte hosts f k = cond hosts (get_or f (HEADER + k) 0) (cond (ltb (k % 8) 6) (get_or f (HEADER + k / 8 * 6 + k % 8) 0) 0)

-- how many bytes of places, dependencies and rows there are place for
unfoldable pub place_count : List ℕ → ℕ
place_count f = min (agents_at f) AGENTS * 8

abbrev pub DEPENDS_SIZE : ℕ
DEPENDS_SIZE = 258

-- t is a run of the two pieces whose chains are c
pub record Laid (c : ℕ) (f s t : List ℕ) : Type 0 where
  pub size : length t ≡ SIZE
  pub head : (k : ℕ) → k < HEADER → (k ≡ 2 → ⊥) → get_or t k 0 ≡ get_or (head_of f) k 0
  pub chain : get_or t 2 0 ≡ c
  pub place : (k : ℕ) → k < place_count f → get_or t (HEADER + k) 0 ≡ place_byte (has_hosts f) f k
  pub depend : (k : ℕ) → k < DEPENDS_SIZE → get_or t (DEPENDS + k) 0 ≡ get_or (dependency_bytes f) k 0
  pub row : (k : ℕ) → k < AREA → get_or t (ROWS_AT + k) 0 ≡ get_or (row_bytes f ++ s) k 0

-- ---- laws: bytes put one after the other

pub put_none : (at : ℕ) (f : ℕ → ℕ) (t : List ℕ) → Put at f 0 t t
put_none at f t = record { len = refl; inside = λ k l. absurd (omega arith); outside = λ x h. refl }

pub put_more : (at : ℕ) (f : ℕ → ℕ) (n : ℕ) (t u v : List ℕ) (b : ℕ) → Put at f n t u → at + n < length t → b ≡ f n → v ≡ set u (at + n) b → Put at f (n + 1) t v
put_more at f n t u v b p room byte_is e =
    record { len = rw e (length-set u (at + n) b ∙ p.len); inside = λ k l. rw e (ins k l (ℕ_discrete k n)); outside = λ x h. rw e (out x h) }
  where
    ins : (k : ℕ) → k < n + 1 → Dec (k ≡ n) → get_or (set u (at + n) b) (at + k) 0 ≡ f k
    ins k l (yes q) = rw q (get_or-set_same u (at + n) b 0 (rw p.len room) ∙ byte_is)
    ins k l (no q) = get_or-set_other u (at + n) (at + k) b 0 (λ z. q (omega arith)) ∙ p.inside k (omega arith)

    out : (x : ℕ) → (at ≤ x → at + (n + 1) ≤ x) → get_or (set u (at + n) b) x 0 ≡ get_or t x 0
    out x h =
        get_or-set_other u (at + n) x b 0 (λ z. let g : at + (n + 1) ≤ x = h (omega arith) in omega arith)
        ∙ p.outside x (λ z. let g : at + (n + 1) ≤ x = h (omega arith) in omega arith)

pub put_paste : (t u : List ℕ) (at : ℕ) (s : List ℕ) (n : ℕ) → at + n ≤ length t → n ≤ length s → u ≡ paste t at s n → Put at (λ k. get_or s k 0) n t u
put_paste t u at s n hd hs e =
    record { len = rw e (length-paste t at s n hd hs); inside = λ k l. rw e (ins k l); outside = λ x h. rw e (out x h (dec_lt x at)) }
  where
    ins : (k : ℕ) → k < n → get_or (paste t at s n) (at + k) 0 ≡ get_or s k 0
    ins k l = let q : at + k - at ≡ k = omega arith in paste_within t at s n hd hs (at + k) (omega arith) (omega arith) ∙ ap (λ (i : ℕ). get_or s i 0) q

    out : (x : ℕ) → (at ≤ x → at + n ≤ x) → Dec (x < at) → get_or (paste t at s n) x 0 ≡ get_or t x 0
    out x h (yes l) = paste_before t at s n hd hs x l
    out x h (no l) = paste_past t at s n hd hs x (h (omega arith))

-- the rows of both
pub put_both : (t u v x y : List ℕ) (at h e : ℕ) → h ≡ min (length x) AREA → e ≡ min (length x + length y) AREA → at + AREA ≤ length t
    → u ≡ paste t at x h → v ≡ paste u (at + h) y (e - h)
    → Put at (λ k. get_or (x ++ y) k 0) e t v
put_both t u v x y at h e hx hy room p q =
    record { len = two.len ∙ one.len; inside = λ k l. ins k l (dec_lt k h); outside = out }
  where
    one : Put at (λ k. get_or x k 0) h t u
    one = put_paste t u at x h (omega arith) (omega arith) p

    long : length u ≡ length t
    long = one.len

    two : Put (at + h) (λ k. get_or y k 0) (e - h) u v
    two = put_paste u v (at + h) y (e - h) (rw long (omega arith)) (omega arith) q

    ins : (k : ℕ) → k < e → Dec (k < h) → get_or v (at + k) 0 ≡ get_or (x ++ y) k 0
    ins k l (yes m) = two.outside (at + k) (λ z. absurd (omega arith)) ∙ one.inside k m ∙ sym (both_first x y k (omega arith))
    ins k l (no m) =
        let same : h ≡ length x = omega arith in
        let z : at + h + (k - h) ≡ at + k = omega arith in
        ap (λ (i : ℕ). get_or v i 0) (sym z) ∙ two.inside (k - h) (omega arith) ∙ ap (λ (j : ℕ). get_or y (k - j) 0) same ∙ sym (both_second x y k (omega arith))

    out : (i : ℕ) → (at ≤ i → at + e ≤ i) → get_or v i 0 ≡ get_or t i 0
    out i g =
        two.outside i (λ z. let w : at + e ≤ i = g (omega arith) in omega arith)
        ∙ one.outside i (λ z. let w : at + e ≤ i = g (omega arith) in omega arith)

-- ---- laws: the whole run, from zeros

pub laid : (f s t u v w z : List ℕ) (m e : ℕ) → t ≡ replicate SIZE 0 → m ≡ min (length (dependency_bytes f)) DEPENDS_SIZE
    → e ≡ min (length (row_bytes f) + length s) AREA
    → Put 0 (λ k. get_or (head_of f) k 0) HEADER t u → Put HEADER (place_byte (has_hosts f) f) (place_count f) u v
    → Put DEPENDS (λ k. get_or (dependency_bytes f) k 0) m v w → Put ROWS_AT (λ k. get_or (row_bytes f ++ s) k 0) e w z
    → Laid 0 f s z
unfolding place_count head_of
laid f s t u v w z m e blank mis eis a b c d =
    record {
      size = d.len ∙ c.len ∙ b.len ∙ a.len ∙ rw blank (length-replicate {A = ℕ} SIZE 0);
      head = λ k l n. low k l;
      chain = low 2 (omega arith);
      place = λ k l. d.outside (HEADER + k) (λ q. absurd (omega arith)) ∙ c.outside (HEADER + k) (λ q. absurd (omega arith)) ∙ b.inside k l;
      depend = λ k l. d.outside (DEPENDS + k) (λ q. absurd (omega arith)) ∙ dep k l (dec_lt k m);
      row = λ k l. rows k l (dec_lt k e);
    }
  where
    zero_at_lem : (k : ℕ) → get_or t k 0 ≡ 0
    zero_at_lem k = rw blank (get_d_zeros SIZE k)

    low : (k : ℕ) → k < HEADER → get_or z k 0 ≡ get_or (head_of f) k 0
    low k l =
        let same : 0 + k ≡ k = omega arith in
        d.outside k (λ q. absurd (omega arith)) ∙ c.outside k (λ q. absurd (omega arith)) ∙ b.outside k (λ q. absurd (omega arith))
        ∙ ap (λ (i : ℕ). get_or u i 0) (sym same) ∙ a.inside k l

    dep : (k : ℕ) → k < DEPENDS_SIZE → Dec (k < m) → get_or w (DEPENDS + k) 0 ≡ get_or (dependency_bytes f) k 0
    dep k l (yes q) = c.inside k q
    dep k l (no q) =
        c.outside (DEPENDS + k) (λ i. omega arith) ∙ b.outside (DEPENDS + k) (λ i. omega arith) ∙ a.outside (DEPENDS + k) (λ i. omega arith)
        ∙ zero_at_lem (DEPENDS + k) ∙ sym (get_or-eq_default (dependency_bytes f) 0 (omega arith))

    rows : (k : ℕ) → k < AREA → Dec (k < e) → get_or z (ROWS_AT + k) 0 ≡ get_or (row_bytes f ++ s) k 0
    rows k l (yes q) = d.inside k q
    rows k l (no q) =
        d.outside (ROWS_AT + k) (λ i. omega arith) ∙ c.outside (ROWS_AT + k) (λ i. omega arith) ∙ b.outside (ROWS_AT + k) (λ i. omega arith)
        ∙ a.outside (ROWS_AT + k) (λ i. omega arith) ∙ zero_at_lem (ROWS_AT + k)
        ∙ sym (get_or-eq_default (row_bytes f ++ s) 0 (rw (length-append (row_bytes f) s) (omega arith)))

-- chains, set last
pub laid_chains : (f s t u : List ℕ) (b c : ℕ) → Laid b f s t → u ≡ set t 2 c → Laid c f s u
laid_chains f s t u b c l e =
    record {
      size = rw e (length-set t 2 c ∙ l.size);
      head = λ k m n. other k n ∙ l.head k m n;
      chain = rw e (get_or-set_same t 2 c 0 (rw l.size (omega arith)));
      place = λ k m. other (HEADER + k) (λ z. omega arith) ∙ l.place k m;
      depend = λ k m. other (DEPENDS + k) (λ z. omega arith) ∙ l.depend k m;
      row = λ k m. other (ROWS_AT + k) (λ z. omega arith) ∙ l.row k m;
    }
  where
    other : (k : ℕ) → (k ≡ 2 → ⊥) → get_or u k 0 ≡ get_or t k 0
    other k n = rw e (get_or-set_other t 2 k c 0 n)

-- ---- laws: what a run says

module _ (chains : Bool) (f s t : List ℕ) (l : Laid (flag_byte chains) f s t) where
  pub laid_rows : rows_in t ≡ area_of (row_bytes f ++ s)
  unfolding rows_in area_of
  laid_rows =
      ext_get_or 0 (drop ROWS_AT t) (tabulate (λ k. get_or (row_bytes f ++ s) k 0) AREA) (long ∙ sym (length_tabulate (λ k. get_or (row_bytes f ++ s) k 0) AREA))
      (λ i m. let q : i < AREA = subst (λ (k : ℕ). i < k) long m in
      get_or-drop ROWS_AT t i 0 ∙ l.row i q ∙ sym (get_d_tabulate (λ k. get_or (row_bytes f ++ s) k 0) AREA i 0 q))
    where
      long : length (drop ROWS_AT t) ≡ AREA
      long = length-drop ROWS_AT t ∙ rw l.size refl

  depend_at : (k : ℕ) → k < DEPENDS_SIZE → get_or (drop DEPENDS t) k 0 ≡ get_or (dependency_bytes f) k 0
  depend_at k m = get_or-drop DEPENDS t k 0 ∙ l.depend k m

  depend_pair : (k : ℕ) → k + 1 < DEPENDS_SIZE → pair_at (drop DEPENDS t) k ≡ pair_at (dependency_bytes f) k
  unfolding pair_at
  depend_pair k m = rw (depend_at k (omega arith), depend_at (k + 1) m) refl

  depend_ends : (at : ℕ) → at ≤ 4 → tabulate (dependency_end (drop DEPENDS t) at) DEPENDENCIES ≡ tabulate (dependency_end (dependency_bytes f) at) DEPENDENCIES
  unfolding dependency_end
  depend_ends at h = tabulate_cong (dependency_end (drop DEPENDS t) at) (dependency_end (dependency_bytes f) at) DEPENDENCIES (λ k m. depend_pair (at + k * 4) (omega arith))

  flag_back : (b : Bool) → not (eqb (flag_byte b) 0) ≡ b
  flag_back true = refl
  flag_back false = refl

  counted_is : flag_in t 1 ≡ leb VERSION_COUNTED (version_at f)
  unfolding flag_in head_of
  counted_is = rw (l.head 1 (omega arith) (λ z. omega arith)) (flag_back (leb VERSION_COUNTED (version_at f)))

  chains_is : flag_in t 2 ≡ chains
  unfolding flag_in
  chains_is = rw l.chain (flag_back chains)

  pub laid_mode : mode_in t ≡ mode_of chains f
  unfolding mode_in mode_of dependency_count dependency_from dependency_to
  laid_mode = rw (counted_is, chains_is, depend_pair 0 (omega arith), depend_ends 2 (omega arith), depend_ends 4 (omega arith)) refl

  hosts_is : has_hosts t ≡ true
  unfolding has_hosts version_at head_of
  hosts_is = rw (l.head 4 (omega arith) (λ z. omega arith)) refl

  agents_is : agents_at t ≡ agents_at f
  unfolding agents_at head_of
  agents_is = l.head 5 (omega arith) (λ z. omega arith)

  module _ (a : ℕ) (h : a < min (agents_at f) AGENTS) where
    byte_is : (j : ℕ) → j < 8 → get_or t (HEADER + (a * 8 + j)) 0 ≡ place_byte (has_hosts f) f (a * 8 + j)
    unfolding place_count
    byte_is j m = l.place (a * 8 + j) (omega arith)

    with_hosts_lem : has_hosts f ≡ true → (j : ℕ) → j < 8 → get_or t (HEADER + (a * 8 + j)) 0 ≡ get_or f (HEADER + (a * 8 + j)) 0
    unfolding place_byte
    with_hosts_lem e j m = byte_is j m ∙ rw e refl

    pair_hosts : has_hosts f ≡ true → (j : ℕ) → j < 7 → pair_at t (HEADER + a * 8 + j) ≡ pair_at f (HEADER + a * 8 + j)
    unfolding pair_at
    pair_hosts e j m =
        let p : HEADER + (a * 8 + j) ≡ HEADER + a * 8 + j = omega arith in
        let q : HEADER + (a * 8 + (j + 1)) ≡ HEADER + a * 8 + j + 1 = omega arith in
        ap₂ (λ (x y : ℕ). x * 256 + y) (subst (λ (i : ℕ). get_or t i 0 ≡ get_or f i 0) p (with_hosts_lem e j (omega arith)))
        (subst (λ (i : ℕ). get_or t i 0 ≡ get_or f i 0) q (with_hosts_lem e (j + 1) (omega arith)))

    low_byte : has_hosts f ≡ false → (j : ℕ) → j < 6 → get_or t (HEADER + (a * 8 + j)) 0 ≡ get_or f (HEADER + (a * 6 + j)) 0
    unfolding place_byte
    low_byte e j m =
        let d : (a * 8 + j) / 8 ≡ a = omega arith in
        let r : (a * 8 + j) % 8 ≡ j = omega arith in
        let z : HEADER + a * 6 + j ≡ HEADER + (a * 6 + j) = omega arith in
        byte_is j (omega arith) ∙ rw (e, d, r, lt-ltb j 6 m) (ap (λ (i : ℕ). get_or f i 0) z)

    high_byte : has_hosts f ≡ false → (j : ℕ) → 6 ≤ j → j < 8 → get_or t (HEADER + (a * 8 + j)) 0 ≡ 0
    unfolding place_byte
    high_byte e j n m = let r : (a * 8 + j) % 8 ≡ j = omega arith in byte_is j m ∙ rw (e, r, le-ltb j 6 n) refl

    pair_three : has_hosts f ≡ false → (j : ℕ) → j < 5 → pair_at t (HEADER + a * 8 + j) ≡ pair_at f (HEADER + a * 6 + j)
    unfolding pair_at
    pair_three e j m =
        let p : HEADER + (a * 8 + j) ≡ HEADER + a * 8 + j = omega arith in
        let q : HEADER + (a * 8 + (j + 1)) ≡ HEADER + a * 8 + j + 1 = omega arith in
        let v : HEADER + (a * 6 + j) ≡ HEADER + a * 6 + j = omega arith in
        let w : HEADER + (a * 6 + (j + 1)) ≡ HEADER + a * 6 + j + 1 = omega arith in
        ap₂ (λ (x y : ℕ). x * 256 + y)
        (ap (λ (i : ℕ). get_or t i 0) (sym p) ∙ low_byte e j (omega arith) ∙ ap (λ (i : ℕ). get_or f i 0) v)
        (ap (λ (i : ℕ). get_or t i 0) (sym q) ∙ low_byte e (j + 1) (omega arith) ∙ ap (λ (i : ℕ). get_or f i 0) w)

    pair_none : has_hosts f ≡ false → pair_at t (HEADER + a * 8 + 6) ≡ 0
    unfolding pair_at
    pair_none e =
        let p : HEADER + (a * 8 + 6) ≡ HEADER + a * 8 + 6 = omega arith in
        let q : HEADER + (a * 8 + 7) ≡ HEADER + a * 8 + 6 + 1 = omega arith in
        ap₂ (λ (x y : ℕ). x * 256 + y)
        (ap (λ (i : ℕ). get_or t i 0) (sym p) ∙ high_byte e 6 (omega arith) (omega arith))
        (ap (λ (i : ℕ). get_or t i 0) (sym q) ∙ high_byte e 7 (omega arith) (omega arith))

    hosts_four : has_hosts f ≡ true → any_place_at t a ≡ any_place_at f a
    unfolding any_place_at
    hosts_four e = rw (pair_hosts e 0 (omega arith), pair_hosts e 2 (omega arith), pair_hosts e 4 (omega arith), pair_hosts e 6 (omega arith)) refl

    three_four : has_hosts f ≡ false → any_place_at t a ≡ shader_place_at f a
    unfolding any_place_at shader_place_at
    three_four e = rw (pair_three e 0 (omega arith), pair_three e 2 (omega arith), pair_three e 4 (omega arith), pair_none e) refl

    four_is : any_place_at t a ≡ place_at f a
    unfolding place_at
    four_is = ⊎_elim (λ e. rw e (hosts_four e)) (λ e. rw e (three_four e)) (which (has_hosts f))

  slot_is : (a : ℕ) → a < AGENTS → slot_at t a ≡ slot_at f a
  unfolding slot_at place_at
  slot_is a h = rw (agents_is, hosts_is) (go (dec_lt a (agents_at f)))
    where
      go : Dec (a < agents_at f) → cond (ltb a (agents_at f)) (any_place_at t a) (0 ∷ 0 ∷ 0 ∷ 0 ∷ []) ≡ cond (ltb a (agents_at f)) (place_at f a) (0 ∷ 0 ∷ 0 ∷ 0 ∷ [])
      go (yes m) = rw (lt-ltb a (agents_at f) m) (four_is a (omega arith))
      go (no m) = rw (le-ltb a (agents_at f) (omega arith)) refl

  pub laid_places : places_in t ≡ places_of f
  unfolding places_in places_of
  laid_places = tabulate_cong (slot_at t) (slot_at f) AGENTS slot_is

-- ---- laws: what the calls that lay a run out come to

head_is : (f : List ℕ) (x a : ℕ) (v : Bool) → v ≡ (mode_of false f).counted → x ≡ flag_byte v → a ≡ agents_at f
    → 0 ∷ x ∷ 0 ∷ 0 ∷ VERSION_HOSTS ∷ a ∷ 0 ∷ 0 ∷ [] ≡ head_of f
unfolding head_of mode_of
head_is f x a v vis xis ais = rw (xis, vis, ais) refl

pub blank_long : (t : List ℕ) → t ≡ replicate SIZE 0 → length t ≡ SIZE
blank_long t e = rw e (length-replicate {A = ℕ} SIZE 0)

pub head_put : (f t u : List ℕ) (x a : ℕ) (v : Bool) → u ≡ paste t 0 (0 ∷ x ∷ 0 ∷ 0 ∷ VERSION_HOSTS ∷ a ∷ 0 ∷ 0 ∷ []) HEADER → HEADER ≤ length t
    → v ≡ (mode_of false f).counted → x ≡ flag_byte v → a ≡ agents_at f
    → Put 0 (λ k. get_or (head_of f) k 0) HEADER t u
head_put f t u x a v e room vis xis ais = rw (← is) (put_paste t u 0 (0 ∷ x ∷ 0 ∷ 0 ∷ VERSION_HOSTS ∷ a ∷ 0 ∷ 0 ∷ []) HEADER (omega arith) (omega arith) e)
  where
    is : 0 ∷ x ∷ 0 ∷ 0 ∷ VERSION_HOSTS ∷ a ∷ 0 ∷ 0 ∷ [] ≡ head_of f
    is = head_is f x a v vis xis ais

pub places_put : (s t u : List ℕ) (hosts : Bool) (a r k : ℕ) → Put HEADER (place_byte hosts s) k t u → hosts ≡ has_hosts s → a ≡ agents_at s
    → r ≡ min a AGENTS → k ≡ r * 8
    → Put HEADER (place_byte (has_hosts s) s) (place_count s) t u
unfolding place_count
places_put s t u hosts a r k p h b m e = rw (← h, ← b, ← m, ← e) p

pub rows_put : (f s t u v x : List ℕ) (h e : ℕ) → u ≡ paste t ROWS_AT x h → v ≡ paste u (ROWS_AT + h) s (e - h) → x ≡ row_bytes f
    → h ≡ min (length x) AREA → e ≡ min (length x + length s) AREA → ROWS_AT + AREA ≤ length t
    → Put ROWS_AT (λ k. get_or (row_bytes f ++ s) k 0) (min (length (row_bytes f) + length s) AREA) t v
rows_put f s t u v x h e p q is hx hy room = rw (← is, ← hy) (put_both t u v x s ROWS_AT h e hx hy room p q)

pub all_put : (f s t u v w z d : List ℕ) (m : ℕ) → t ≡ replicate SIZE 0 → d ≡ dependency_bytes f → m ≡ min (length d) DEPENDS_SIZE
    → Put 0 (λ k. get_or (head_of f) k 0) HEADER t u → Put HEADER (place_byte (has_hosts f) f) (place_count f) u v → w ≡ paste v DEPENDS d m
    → Put ROWS_AT (λ k. get_or (row_bytes f ++ s) k 0) (min (length (row_bytes f) + length s) AREA) w z
    → Laid 0 f s z
all_put f s t u v w z d m blank is mis a b e c =
    laid f s t u v w z m _ blank (rw (← is) mis) refl a b (rw (← is) (put_paste v w DEPENDS d m (rw long (omega arith)) (omega arith) e)) c
  where
    long : length v ≡ SIZE
    long = b.len ∙ a.len ∙ rw blank (length-replicate {A = ℕ} SIZE 0)

pub laid_open : (chains : Bool) (f s t u : List ℕ) (b c : ℕ) → Laid b f s t → c ≡ flag_byte chains → u ≡ set t 2 c → Laid (flag_byte chains) f s u
laid_open chains f s t u b c l is e = rw (← is) (laid_chains f s t u b c l e)
