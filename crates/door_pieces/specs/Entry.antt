-- Opening a table in one or two pieces, for every kind of answer: what an entry point knows once its bytes are admitted, and what comes
-- back where they are not. Assumes nothing.
use Rattle.std.specs.Prelude.{◌≡◌, Bool, not, ℕ, ◌+◌, ◌-◌, ◌≤◌, ◌<◌, length, get_or, drop, replicate, leb, eqb}
use Rattle.std.proofs.Math.Path.{refl, sym, ap}
use Rattle.std.proofs.Common.{◌∙◌, arith, length-append, length-drop, ext_get_or, get_or-drop, get_or-append-add, leb-true}
use Rattle.std.proofs.Math.Bool.{true, false, cond}
use mathlib.Core.List.{List, [], ◌++◌}
use Rattle.std.proofs.Math.Decide.{dec_lt, ℕ_discrete}
use Rattle.std.proofs.lemmas.List.{length-replicate}
use Rattle.std.proofs.Math.ListN.{get_or-append}
use Rattle.std.proofs.lemmas.Bool.{not-false}
use Rattle.finite.specs.Logic.{◌and◌, split, not_out}
use Rattle.bits.specs.Bit.{zeros, length_zeros, zeros_in, zeros_out}
use Rattle.std.specs.declared.result.Result.{Result}
use Rattle.std.specs.declared.result.Result.TheVariants.{Ok, Err}
use Rattle.model.specs.declared.Counts.{Counts}
use Rattle.model.specs.declared.Admission.{Admission}
use Rattle.model.specs.declared.Admission.TheVariants.{Admitted, Refused}
use Rattle.model.specs.Refusal.{admission_answer}
use Rattle.model.specs.Limits.{ROWS, WORK}
use Rattle.model.specs.Table.{Mode, mode_of, row_of, table_under, table_of}
use Rattle.model.specs.Header.{rows_at, row_bytes, places_of}
use Rattle.model.specs.Refusal.{buffers_fit, admission, when_admitted}
use Rattle.model.specs.Check.{wiped}
use Rattle.model_laws.specs.AdmissionLaws.{not_admitted, answer_admitted, answer_refused, Sound, sound_admitted, admitted_sound, rows_fit}
use Rattle.model.specs.Refusal.{shape_fault}
use Rattle.door_admit.proofs.Laws.{shape_refused, header_refused}
use Rattle.model.specs.declared.Refusal.{Refusal}
use Rattle.door_pieces.specs.Pieces.{pieces_fault, joined, of_both, admission_both}
use Rattle.door_pieces.specs.PiecesLaws.{get_d_zeros, of_joined, of_refused, none_fault, none_admission}

-- ---- definitions

-- refusal 11, by the lengths of the lent buffers, then the pair's
unfoldable pub door_both : ℕ → Bool → List ℕ → List ℕ → ℕ → ℕ → Admission
door_both needs blanks f s work buffer = cond (buffers_fit needs work buffer) (admission_both blanks f s) (Refused 11 0)

-- b begins with the bytes of the n rows of some table that is admitted, and has zeros past them; p its places, and mode what it goes by beside them
pub record RowsOf (blanks : Bool) (b : List ℕ) (p : List (List ℕ)) (mode : Mode) (n : ℕ) : Type 0 where
  pub table : List ℕ
  pub chains : Bool
  pub sound : Sound blanks table
  pub rows : row_of b ≡ row_of (row_bytes table)
  pub places : p ≡ places_of table
  pub modes : mode ≡ mode_of chains table
  pub all : n ≡ rows_at table

-- ---- laws: rows of an admitted table

module _ {blanks : Bool} {b : List ℕ} {p : List (List ℕ)} {mode : Mode} {n : ℕ} (h : RowsOf blanks b p mode n) where
  pub few : n ≤ ROWS
  few = rw h.all (rows_fit h.sound)

-- ---- laws: an admission taken apart

module _ {A : Type 0} (refused : ℕ → ℕ → A) (v : A) (a : Result Counts Refusal) (b : Admission) (e : a ≡ admission_answer b) where
  pub when_refused : {x : Refusal} → a ≡ Err x → when_admitted refused b v ≡ refused x.number x.row
  unfolding when_admitted
  when_refused h = rw (answer_refused b (sym e ∙ h)) refl

  pub when_admitted_lem : {k : Counts} → a ≡ Ok k → when_admitted refused b v ≡ v
  unfolding when_admitted
  when_admitted_lem h = rw (answer_admitted b (sym e ∙ h)) refl

-- refusal 11, from the two lengths
pub door_short : (needs : ℕ) (blanks : Bool) (f s : List ℕ) (work buffer : ℕ) → not (leb WORK work and leb needs buffer) ≡ true
    → Refused 11 0 ≡ door_both needs blanks f s work buffer
unfolding door_both buffers_fit
door_short needs blanks f s work buffer e = rw (not_out (leb WORK work and leb needs buffer) e) refl

pub door_wide : (needs : ℕ) (blanks : Bool) (f s : List ℕ) (work buffer : ℕ) → not (leb WORK work and leb needs buffer) ≡ false
    → admission_both blanks f s ≡ door_both needs blanks f s work buffer
unfolding door_both buffers_fit
door_wide needs blanks f s work buffer e = rw (not-false (leb WORK work and leb needs buffer) e) refl

pub door_admits : (needs : ℕ) (blanks : Bool) (f s : List ℕ) (work buffer : ℕ) (a : Admission) {g n : ℕ} → a ≡ door_both needs blanks f s work buffer
    → a ≡ Admitted g n
    → (WORK ≤ work) × (needs ≤ buffer) × (a ≡ admission_both blanks f s)
unfolding door_both buffers_fit
door_admits needs blanks f s work buffer a {g} {n} e h = go (buffers_fit needs work buffer) refl e
  where
    fits : buffers_fit needs work buffer ≡ true → (WORK ≤ work) × (needs ≤ buffer)
    fits q = (leb-true WORK work (split q).0, leb-true needs buffer (split q).1)

    go : (b : Bool) → buffers_fit needs work buffer ≡ b → a ≡ cond b (admission_both blanks f s) (Refused 11 0)
        → (WORK ≤ work) × (needs ≤ buffer) × (a ≡ admission_both blanks f s)
    go true q k = ((fits q).0, (fits q).1, k)
    go false q k = not_admitted (sym k ∙ h)

-- ---- laws: two pieces that are admitted

module _ (blanks : Bool) (f s : List ℕ) (a : Admission) (e : a ≡ admission_both blanks f s) {g n : ℕ} (h : a ≡ Admitted g n) where
  pub pieces_right : pieces_fault f s ≡ 0
  unfolding admission_both
  pieces_right = go (ℕ_discrete (pieces_fault f s) 0)
    where
      go : Dec (pieces_fault f s ≡ 0) → pieces_fault f s ≡ 0
      go (yes z) = z
      go (no d) = not_admitted (sym (of_refused Refused (admission blanks) f s (pieces_fault f s) refl d) ∙ sym e ∙ h)

  admits : admission blanks (joined f s) ≡ Admitted g n
  unfolding admission_both
  admits = sym (of_joined f s pieces_right Refused (admission blanks)) ∙ sym e ∙ h

  pub sound_both : Sound blanks (joined f s)
  sound_both = admitted_sound blanks (joined f s) admits

  pub all_both : n ≡ rows_at (joined f s)
  all_both = ap rows_in_lem (sym admits ∙ sound_admitted blanks (joined f s) sound_both)
    where
      rows_in_lem : Admission → ℕ
      rows_in_lem (Admitted x y) = y
      rows_in_lem (Refused x y) = 0

-- what reads no chains asks the table without them
pub table_false : (t : List ℕ) → table_under false t ≡ table_of t
unfolding table_of
table_false t = refl

-- ---- laws: the answer to two pieces, by what they are refused for

module _ {A : Type 0} (refused : ℕ → ℕ → A) (one v : List ℕ → A) (blanks : Bool) where
  pub both_opened : ((t : List ℕ) → one t ≡ when_admitted refused (admission blanks t) (v t)) → (f s : List ℕ)
      → of_both refused one f s ≡ when_admitted refused (admission_both blanks f s) (v (joined f s))
  unfolding of_both admission_both when_admitted
  both_opened is f s = go (eqb (pieces_fault f s) 0) (pieces_fault f s)
    where
      go : (b : Bool) (h : ℕ) → cond b (one (joined f s)) (refused h 0)
          ≡ when_admitted refused (cond b (admission blanks (joined f s)) (Refused h 0)) (v (joined f s))
      go true h = is (joined f s)
      go false h = refl

  -- with refusal 11 before it
  pub door_opened : (needs work buffer : ℕ) → (buffers_fit needs work buffer ≡ true → (t : List ℕ) → one t ≡ when_admitted refused (admission blanks t) (v t))
      → (f s : List ℕ)
      → cond (buffers_fit needs work buffer) (of_both refused one f s) (refused 11 0)
      ≡ when_admitted refused (door_both needs blanks f s work buffer) (v (joined f s))
  unfolding door_both when_admitted
  door_opened needs work buffer is f s = go (buffers_fit needs work buffer) (λ e. both_opened (is e) f s)
    where
      go : (b : Bool) → (b ≡ true → of_both refused one f s ≡ when_admitted refused (admission_both blanks f s) (v (joined f s)))
          → cond b (of_both refused one f s) (refused 11 0) ≡ when_admitted refused (cond b (admission_both blanks f s) (Refused 11 0)) (v (joined f s))
      go true k = k refl
      go false k = refl

  -- one piece is two of which the second is empty
  pub none_one : ((t : List ℕ) → one t ≡ when_admitted refused (admission blanks t) (v t)) → (f : List ℕ) → (shape_fault f ≡ 0 → v (joined f []) ≡ v f)
      → of_both refused one f [] ≡ one f
  unfolding when_admitted
  none_one is f same = go (ℕ_discrete (shape_fault f) 0)
    where
      go : Dec (shape_fault f ≡ 0) → of_both refused one f [] ≡ one f
      go (yes z) =
          of_joined f [] (none_fault f ∙ z) refused one ∙ is (joined f []) ∙ ap (λ (x : A). when_admitted refused (admission blanks (joined f [])) x) (same z)
          ∙ ap (λ (a : Admission). when_admitted refused a (v f)) (none_admission f z blanks) ∙ sym (is f)
      go (no d) =
          of_refused refused one f [] (shape_fault f) (sym (none_fault f)) d
          ∙ sym (is f ∙ ap (λ (a : Admission). when_admitted refused a (v f)) (header_refused blanks f (shape_fault f) (shape_refused f (shape_fault f) refl d) d))

  pub none_door : (needs work buffer : ℕ) → (buffers_fit needs work buffer ≡ true → (t : List ℕ) → one t ≡ when_admitted refused (admission blanks t) (v t))
      → (f : List ℕ) → (shape_fault f ≡ 0 → v (joined f []) ≡ v f) → (buffers_fit needs work buffer ≡ false → one f ≡ refused 11 0)
      → cond (buffers_fit needs work buffer) (of_both refused one f []) (refused 11 0) ≡ one f
  none_door needs work buffer is f same short = go (buffers_fit needs work buffer) (λ e. none_one (is e) f same) short
    where
      go : (b : Bool) → (b ≡ true → of_both refused one f [] ≡ one f) → (b ≡ false → one f ≡ refused 11 0)
          → cond b (of_both refused one f []) (refused 11 0) ≡ one f
      go true k l = k refl
      go false k l = sym (l refl)

-- ---- laws: what comes back, with a work area w that becomes u and another buffer c that becomes d

module _ {K A : Type 0} (answer : K → A) (work_after buffer_after : K → List ℕ → List ℕ) where
  abbrev pub Left : K → A → List ℕ → List ℕ → List ℕ → List ℕ → Type 0
  Left v r w u c d = (r ≡ answer v) × (u ≡ work_after v w) × (d ≡ buffer_after v c)

  pub left_same : {o v : K} {r : A} {w u c d : List ℕ} → o ≡ v → Left v r w u c d → Left o r w u c d
  left_same {w = w} {c = c} e h = (h.0 ∙ ap answer (sym e), h.1 ∙ ap (λ (x : K). work_after x w) (sym e), h.2 ∙ ap (λ (x : K). buffer_after x c) (sym e))

-- ---- laws: the work area, wiped

-- clearing the first words wipes them
pub zeros_wiped : (w : List ℕ) → WORK ≤ length w → zeros w 0 WORK ≡ wiped w
unfolding wiped
zeros_wiped w room = ext_get_or 0 (zeros w 0 WORK) (replicate WORK 0 ++ drop WORK w) (length_zeros w 0 WORK ∙ sym long) (λ k l. at k (dec_lt k WORK))
  where
    blank : List ℕ
    blank = replicate WORK 0

    front : length blank ≡ WORK
    front = length-replicate {A = ℕ} WORK 0

    long : length (blank ++ drop WORK w) ≡ length w
    long = length-append blank (drop WORK w) ∙ rw (front, length-drop WORK w) (omega arith)

    at : (k : ℕ) → Dec (k < WORK) → get_or (zeros w 0 WORK) k 0 ≡ get_or (blank ++ drop WORK w) k 0
    at k (yes l) = zeros_in w 0 WORK k (omega arith) (omega arith) (omega arith)
        ∙ sym (get_or-append blank (drop WORK w) 0 k (rw front l) ∙ get_d_zeros WORK k)
    at k (no l) =
        let p : length blank + (k - WORK) ≡ k = rw front (omega arith) in
        let q : WORK + (k - WORK) ≡ k = omega arith in
        zeros_out w 0 WORK k (λ h. omega arith)
        ∙ sym (ap (λ (i : ℕ). get_or (blank ++ drop WORK w) i 0) (sym p) ∙ get_or-append-add blank (drop WORK w) (k - WORK) 0
        ∙ get_or-drop WORK w (k - WORK) 0 ∙ ap (λ (i : ℕ). get_or w i 0) q)
