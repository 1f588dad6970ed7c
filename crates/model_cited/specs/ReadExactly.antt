-- A reader of values gives each answer exactly when its case holds, and what it leaves in the lent parts: the proofs of
-- Writer.antt about reading. Assumes nothing.
use Rattle.std.specs.Prelude.{◌≡◌, true, false, List, ◌⊎◌, ◌↔◌, ℕ, ◌*◌, ◌≤◌, ◌<◌, length, take, drop}
use Rattle.std.proofs.Math.Path.{refl}
use Rattle.std.proofs.Common.{sym, ap, ◌∙◌, subst, inl, inr}
use Rattle.finite.specs.Logic.{which}
use Rattle.std.specs.declared.result.Result.{Result}
use Rattle.std.specs.declared.result.Result.TheVariants.{Ok, Err}
use Rattle.model.specs.declared.Refusal.{Refusal}
use Rattle.model.specs.Table.{row_of, source_of}
use Rattle.model.specs.Header.{ROW_BYTES, version_at, agents_at, rows_at, places_of, row_bytes}
use Rattle.model.specs.Table.{dependency_count}
use Rattle.model.specs.Header.{dependency_bytes}
use Rattle.model.specs.Refusal.{refusal, when_admitted}
use Rattle.model_laws.specs.AdmissionLaws.{admitted_sound}
use Rattle.door_write.specs.declared.Sizes.{Sizes}
use Rattle.door_write.specs.Answer.{WriteAnswer}
use Rattle.door_write.specs.Read.{ReadAnswer}
use Rattle.door_write.specs.Encode.{row_list, encode, entries_of, dependencies_of}
use Rattle.door_write.specs.Answer.{write_answer}
use Rattle.door_write.specs.Parts.{PLACE_NUMBERS, agents_in, rows_in, dependencies_in, parts_answer, parts_table}
use Rattle.door_write.specs.PartsLaws.{Numbers}
use Rattle.door_write.specs.Read.{place_numbers, end_numbers, lent_fit, read_answer, places_after, rows_after, dependencies_after}
use Rattle.door_write.specs.Read.{read_result}
use Rattle.door_write.specs.BackLaws.{given_in, places_after_lem, dependencies_after_lem, fronted_front, numbers_long, ends_long}
use Rattle.door_write.specs.Promise as page
use Rattle.model_promises.specs.Terms.{Bytes, Fillable, Unfillable}
use Rattle.model_cited.specs.Tables.{fillable_or}

-- ---- the result that a program gets

-- the answer, from the result
abbrev read_in : Result Sizes Refusal → ReadAnswer
read_in (Err r) = ReadAnswer.Refused r.number r.row
read_in (Ok z) = ReadAnswer.Read z.version z.agents z.rows z.dependencies

read_in_back : (a : ReadAnswer) → read_in (read_result a) ≡ a
unfolding read_result
read_in_back (ReadAnswer.Refused n i) = refl
read_in_back (ReadAnswer.Read v a n m) = refl

-- so a result is given exactly for what it is of
result_exactly : (a b : ReadAnswer) → (read_result a ≡ read_result b) ↔ (a ≡ b)
result_exactly a b = (λ e. sym (read_in_back a) ∙ ap read_in e ∙ read_in_back b, λ e. ap read_result e)

pub reads_refused : (a : ReadAnswer) (n i : ℕ) → (read_result a ≡ Err (refusal n i)) ↔ (a ≡ ReadAnswer.Refused n i)
unfolding read_result
reads_refused a n i = result_exactly a (ReadAnswer.Refused n i)

pub reads_sizes : (a : ReadAnswer) (z : Sizes)
    → (read_result a ≡ Ok z) ↔ (a ≡ ReadAnswer.Read z.version z.agents z.rows z.dependencies)
unfolding read_result
reads_sizes a z = result_exactly a (ReadAnswer.Read z.version z.agents z.rows z.dependencies)

-- ---- the answer

module _ (s : List ℕ) (places rows dependencies : ℕ) where
  abbrev said : ReadAnswer
  said = read_answer s places rows dependencies

  abbrev Means : ReadAnswer → Type 0
  Means (ReadAnswer.Refused n i) = ((lent_fit places rows dependencies ≡ false) × (n ≡ 11) × (i ≡ 0))
      ⊎ ((lent_fit places rows dependencies ≡ true) × Unfillable s n i)
  Means (ReadAnswer.Read v a n m) = (lent_fit places rows dependencies ≡ true) × Fillable s
      × (v ≡ version_at s) × (a ≡ agents_at s) × (n ≡ rows_at s) × (m ≡ dependency_count (dependency_bytes s))

  short_said : lent_fit places rows dependencies ≡ false → said ≡ ReadAnswer.Refused 11 0
  unfolding read_answer
  short_said e = rw e refl

  refused_said : lent_fit places rows dependencies ≡ true → (n i : ℕ) → Unfillable s n i → said ≡ ReadAnswer.Refused n i
  unfolding read_answer when_admitted
  refused_said e n i u = rw (e, u) refl

  values_said : lent_fit places rows dependencies ≡ true → Fillable s
      → said ≡ ReadAnswer.Read (version_at s) (agents_at s) (rows_at s) (dependency_count (dependency_bytes s))
  values_said e u = given_in s places rows dependencies 0 0 0 0 e (admitted_sound true s u)

  true_said : Means said
  true_said = go (which (lent_fit places rows dependencies)) (fillable_or s)
    where
      go : (lent_fit places rows dependencies ≡ true) ⊎ (lent_fit places rows dependencies ≡ false)
          → Fillable s ⊎ ((n : ℕ) × (j : ℕ) × Unfillable s n j) → Means said
      go (inr e) u = subst Means (sym (short_said e)) (inl (e, refl, refl))
      go (inl e) (inr (n, j, u)) = subst Means (sym (refused_said e n j u)) (inr (e, u))
      go (inl e) (inl u) = subst Means (sym (values_said e u)) (e, u, refl, refl, refl, refl)

  pub read_exactly : (a : ReadAnswer) → (said ≡ a) ↔ Means a
  read_exactly a = (λ e. subst Means e true_said, back a)
    where
      back : (a : ReadAnswer) → Means a → said ≡ a
      back (ReadAnswer.Refused n i) (inl (e, p, q)) = short_said e ∙ rw (p, q) refl
      back (ReadAnswer.Refused n i) (inr (e, u)) = refused_said e n i u
      back (ReadAnswer.Read v a n m) (e, u, p, q, r, t) = values_said e u ∙ rw (p, q, r, t) refl

-- ---- what the parts p, b and e then hold

dependencies_counted : (s : List ℕ) → (dependencies_of s).count ≡ dependency_count (dependency_bytes s)
unfolding dependencies_of
dependencies_counted s = refl

module _ (s p b e : List ℕ) where
  abbrev back : ReadAnswer
  back = read_answer s (length p) (length b) (length e)

  pub parts_left : (n i : ℕ) → back ≡ ReadAnswer.Refused n i
      → (places_after back s p ≡ p) × (rows_after back s b ≡ b) × (dependencies_after back s e ≡ e)
  parts_left = page.unread_parts s p b e

  module _ (v a n m : ℕ) (r : back ≡ ReadAnswer.Read v a n m) where
    pub rest_left : (drop (PLACE_NUMBERS * a) (places_after back s p) ≡ drop (PLACE_NUMBERS * a) p)
        × (drop (ROW_BYTES * n) (rows_after back s b) ≡ drop (ROW_BYTES * n) b)
        × (drop (2 * m) (dependencies_after back s e) ≡ drop (2 * m) e)
    rest_left = page.read_rest s p b e v a n m r

    pub places_held : take (PLACE_NUMBERS * a) (places_after back s p) ≡ place_numbers (places_of s) (agents_at s)
    places_held =
        ap (λ (x : List ℕ). take (PLACE_NUMBERS * a) x) (places_after_lem s v a n m r p)
        ∙ fronted_front (place_numbers (places_of s) a) p _ (numbers_long (places_of s) a)
        ∙ ap (λ (x : ℕ). place_numbers (places_of s) x) (page.read_counts s p b e v a n m r).1

    pub dependencies_held : take (2 * m) (dependencies_after back s e) ≡ end_numbers (dependencies_of s)
    dependencies_held =
        ap (λ (x : List ℕ). take (2 * m) x) (dependencies_after_lem s v a n m r e)
        ∙ fronted_front (end_numbers (dependencies_of s)) e _ count
      where
        count : length (end_numbers (dependencies_of s)) ≡ 2 * m
        count = ends_long (dependencies_of s)
            ∙ ap (λ (x : ℕ). 2 * x) (dependencies_counted s ∙ sym (page.read_counts s p b e v a n m r).3)

    pub rows_held : Bytes s → take (ROW_BYTES * n) (rows_after back s b) ≡ row_bytes s
    rows_held = page.read_rows s p b e v a n m r

    pub written_again : Bytes s → let P = take (PLACE_NUMBERS * a) (places_after back s p) in
        let B = take (ROW_BYTES * n) (rows_after back s b) in
        let E = take (2 * m) (dependencies_after back s e) in
        (parts_table v P B E ≡ s)
        × ((room : ℕ) → length s ≤ room → parts_answer v P B E room ≡ WriteAnswer.Written (length s))
    written_again bytes = (page.read_again s p b e v a n m r bytes, page.read_written_again s p b e v a n m r bytes)

-- ---- what was written, read back

module _ (version : ℕ) (places rows dependencies : List ℕ) (sixteen : Numbers places) (eight : Bytes rows)
    (ends : Numbers dependencies) (room k : ℕ)
    (w : parts_answer version places rows dependencies room ≡ WriteAnswer.Written k) (p b e : List ℕ)
    (fit : lent_fit (length p) (length b) (length e) ≡ true) where
  pub read_back : let t = parts_table version places rows dependencies in
      let r = read_answer t (length p) (length b) (length e) in
      let a = agents_in places in
      let n = rows_in rows in
      let m = (dependencies_in dependencies).count in
      (r ≡ ReadAnswer.Read version a n m)
      × (take (PLACE_NUMBERS * a) (places_after r t p) ≡ take (PLACE_NUMBERS * a) places)
      × (take (ROW_BYTES * n) (rows_after r t b) ≡ take (ROW_BYTES * n) rows)
      × (take (2 * m) (dependencies_after r t e) ≡ take (2 * m) dependencies)
  read_back = (
    page.parts_given version places rows dependencies sixteen eight ends room k w p b e fit,
    page.parts_places_given version places rows dependencies sixteen eight ends room k w p b e fit,
    page.parts_rows_given version places rows dependencies sixteen eight ends room k w p b e fit,
    page.parts_dependencies_given version places rows dependencies sixteen eight ends room k w p b e fit,
  )

-- ---- values read, and written

pub values_again : (s : List ℕ) → Bytes s → Fillable s
    → (encode (version_at s) (agents_at s) (places_of s) (rows_at s) (entries_of s) (dependencies_of s) ≡ s)
    × ((room : ℕ) → length s ≤ room
    → write_answer (version_at s) (agents_at s) (places_of s) (rows_at s) (entries_of s) (dependencies_of s) room
    ≡ WriteAnswer.Written (length s))
values_again s bytes u = (page.read_same s bytes (_, _, u), page.read_written s bytes (_, _, u))

pub row_again : (s : List ℕ) → Bytes s → Fillable s → (i : ℕ) → i < rows_at s
    → row_list (row_of (row_bytes s) i) (source_of (row_bytes s) i) ≡ take ROW_BYTES (drop (ROW_BYTES * i) (row_bytes s))
row_again s bytes u = page.row_bytes_again s bytes (agents_at s) (rows_at s) u
