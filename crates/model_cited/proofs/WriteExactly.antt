-- A writer gives each answer exactly when its case holds: the proofs of Writer.antt about writing. Assumes nothing.
use Rattle.std.specs.Prelude.{◌≡◌, refl, true, false, List, ◌⊎◌, ◌↔◌, ℕ, ◌≤◌, ◌<◌, take, drop}
use Rattle.std.proofs.Math.Path.{sym}
use Rattle.std.proofs.Common.{ap, ◌∙◌, subst, inl, inr, arith, take_at}
use Rattle.std.proofs.Math.Decide.{dec_lt}
use Rattle.std.proofs.Math.ListN.{length}
use Rattle.std.proofs.Math.Seq.{drop_at}
use Rattle.finite.specs.Logic.{which}
use Rattle.std.specs.declared.result.Result.{Result}
use Rattle.std.specs.declared.result.Result.TheVariants.{Ok, Err}
use Rattle.model.specs.declared.Refusal.{Refusal}
use Rattle.model.specs.Refusal.{refusal}
use Rattle.door_write.specs.declared.Dependencies.{Dependencies}
use Rattle.model.specs.declared.Entry.{Entry}
use Rattle.door_write.specs.Answer.{WriteAnswer}
use Rattle.door_write.specs.Encode.{table_size, encode, entries_in}
use Rattle.door_write.specs.Answer.{version_known, counts_fit, numbers_fit, dependencies_fit, values_fault, write_answer, buffer_after}
use Rattle.door_write.specs.Answer.{write_result}
use Rattle.door_write.specs.ValueLaws.{Fits, values_fit, fit_values, encode_length}
use Rattle.door_write.specs.EncodeLaws.{Typed}
use Rattle.door_write.specs.AnswerLaws.{of_table, room_short, room_long, values_in, table_in_lem, admitted_in}
use Rattle.door_write.specs.Parts.{agents_in, places_in, rows_in, dependencies_in, parts_answer, parts_table}
use Rattle.door_write.specs.PartsLaws.{Numbers, parts_typed}
use Rattle.door_write.specs.Promise as page
use Rattle.model_promises.specs.Terms.{Bytes, Fillable, Unfillable}
use Rattle.model_cited.specs.Terms.{WriteRefuses, Says}
use Rattle.model_cited.specs.Tables.{fillable_or, admitted_fillable}

-- ---- the result that a program gets

-- the answer, from the result
abbrev written_in : Result ℕ Refusal → WriteAnswer
written_in (Err r) = WriteAnswer.Refused r.number r.row
written_in (Ok m) = WriteAnswer.Written m

written_back : (a : WriteAnswer) → written_in (write_result a) ≡ a
unfolding write_result
written_back (WriteAnswer.Refused n i) = refl
written_back (WriteAnswer.Written m) = refl

-- so a result is given exactly for what it is of
result_exactly : (a b : WriteAnswer) → (write_result a ≡ write_result b) ↔ (a ≡ b)
result_exactly a b = (λ e. sym (written_back a) ∙ ap written_in e ∙ written_back b, λ e. ap write_result e)

pub writes_refused : (a : WriteAnswer) (n i : ℕ) → (write_result a ≡ Err (refusal n i)) ↔ (a ≡ WriteAnswer.Refused n i)
unfolding write_result
writes_refused a n i = result_exactly a (WriteAnswer.Refused n i)

pub writes_written : (a : WriteAnswer) (m : ℕ) → (write_result a ≡ Ok m) ↔ (a ≡ WriteAnswer.Written m)
unfolding write_result
writes_written a m = result_exactly a (WriteAnswer.Written m)

-- ---- the answer

module _ (version agents : ℕ) (p : List (List ℕ)) (rows : ℕ) (l : List Entry) (d : Dependencies) (room : ℕ) where
  abbrev t : List ℕ
  t = encode version agents p rows l d

  abbrev said : WriteAnswer
  said = write_answer version agents p rows l d room

  abbrev F : ℕ
  F = values_fault version agents p rows d.count

  abbrev Refuses : ℕ → ℕ → Type 0
  Refuses = WriteRefuses version agents p rows l d room

  abbrev Means : WriteAnswer → Type 0
  Means (WriteAnswer.Refused n i) = Refuses n i
  Means (WriteAnswer.Written m) =
      Fits version agents p rows d.count × Fillable t × (length t ≤ room) × (m ≡ length t)

  long : length t ≡ table_size version agents rows d.count
  long = encode_length version agents p rows l d

  -- the number of values that are refused
  values_number : (n : ℕ) → F ≡ n → 1 ≤ n → said ≡ WriteAnswer.Refused n 0
  values_number n e o =
      values_in version agents p rows l d room (λ z. omega arith) ∙ ap (λ (x : ℕ). WriteAnswer.Refused x 0) e

  refused_said : (n i : ℕ) → Refuses n i → said ≡ WriteAnswer.Refused n i
  unfolding values_fault
  refused_said n i (WriteRefuses.other_version v e f) = rw (e, f) (values_number 2 (rw v refl) (omega arith))
  refused_said n i (WriteRefuses.over_limits v c e f) = rw (e, f) (values_number 3 (rw (v, c) refl) (omega arith))
  refused_said n i (WriteRefuses.other_agents v c a e f) =
      rw (e, f) (values_number 16 (rw (v, c, a) refl) (omega arith))
  refused_said n i (WriteRefuses.many_dependencies v c a k e f) =
      rw (e, f) (values_number 17 (rw (v, c, a, k) refl) (omega arith))
  refused_said n i (WriteRefuses.refused_table v u) = table_in_lem version agents p rows l d room n i (fit_values v) u
  refused_said n i (WriteRefuses.short_room v a h e f) =
      rw (e, f) (admitted_in version agents p rows l d room (fit_values v) (_, _, a)
      ∙ room_short (table_size version agents rows d.count) room (let q = long in omega arith))

  written_said : Fits version agents p rows d.count → Fillable t → length t ≤ room
      → said ≡ WriteAnswer.Written (length t)
  written_said v a h =
      admitted_in version agents p rows l d room (fit_values v) (_, _, a)
      ∙ room_long (table_size version agents rows d.count) room (let q = long in omega arith)
      ∙ ap WriteAnswer.Written (sym long)

  -- what is said is true
  true_said : Means said
  true_said =
      go (which (version_known version)) (which (counts_fit agents rows)) (which (numbers_fit version agents p))
      (which (dependencies_fit version d.count)) (fillable_or t) (dec_lt room (length t))
    where
      never : (n i : ℕ) → Refuses n i → Means said
      never n i r = subst Means (sym (refused_said n i r)) r

      go : (version_known version ≡ true) ⊎ (version_known version ≡ false)
          → (counts_fit agents rows ≡ true) ⊎ (counts_fit agents rows ≡ false)
          → (numbers_fit version agents p ≡ true) ⊎ (numbers_fit version agents p ≡ false)
          → (dependencies_fit version d.count ≡ true) ⊎ (dependencies_fit version d.count ≡ false)
          → Fillable t ⊎ ((n : ℕ) × (j : ℕ) × Unfillable t n j) → Dec (room < length t) → Means said
      go (inr v) c a k u h = never 2 0 (WriteRefuses.other_version v refl refl)
      go (inl v) (inr c) a k u h = never 3 0 (WriteRefuses.over_limits v c refl refl)
      go (inl v) (inl c) (inr a) k u h = never 16 0 (WriteRefuses.other_agents v c a refl refl)
      go (inl v) (inl c) (inl a) (inr k) u h = never 17 0 (WriteRefuses.many_dependencies v c a k refl refl)
      go (inl v) (inl c) (inl a) (inl k) (inr (n, j, u)) h =
          never n j (WriteRefuses.refused_table (record { known = v; counts = c; numbers = a; dependencies = k }) u)
      go (inl v) (inl c) (inl a) (inl k) (inl u) (yes h) =
          let f : Fits version agents p rows d.count =
          record { known = v; counts = c; numbers = a; dependencies = k } in
          never 13 0 (WriteRefuses.short_room f u h refl refl)
      go (inl v) (inl c) (inl a) (inl k) (inl u) (no h) =
          let f : Fits version agents p rows d.count =
          record { known = v; counts = c; numbers = a; dependencies = k } in
          let o : length t ≤ room = omega arith in
          subst Means (sym (written_said f u o)) (f, u, o, refl)

  pub write_exactly : (a : WriteAnswer) → (said ≡ a) ↔ Means a
  write_exactly a = (λ e. subst Means e true_said, back a)
    where
      back : (a : WriteAnswer) → Means a → said ≡ a
      back (WriteAnswer.Refused n i) r = refused_said n i r
      back (WriteAnswer.Written m) (f, u, o, e) = written_said f u o ∙ ap WriteAnswer.Written (sym e)

  -- ---- the buffer

  pub buffer_written : (m : ℕ) → said ≡ WriteAnswer.Written m → (out : List ℕ)
      → (take m (buffer_after said t out) ≡ t) × (drop m (buffer_after said t out) ≡ drop m out)
  unfolding buffer_after
  buffer_written m e out =
      let q : length t ≡ m = sym ((write_exactly (WriteAnswer.Written m)).0 e).3 in
      rw e (take_at t (drop m out) m q, drop_at t (drop m out) m q)

  pub buffer_refused : (n i : ℕ) → said ≡ WriteAnswer.Refused n i → (out : List ℕ) → buffer_after said t out ≡ out
  buffer_refused = page.refused_buffer version agents p rows l d room

  pub written_says : Typed agents p rows l d → (m : ℕ) → said ≡ WriteAnswer.Written m → Says t version agents p rows l d
  written_says typed m w =
      record {
        admitted = page.written_admitted version agents p rows l d typed room m w;
        version = page.written_version version agents p rows l d typed room m w;
        place = page.written_place version agents p rows l d typed room m w;
        row = page.written_row version agents p rows l d typed room m w;
        source = page.written_source version agents p rows l d typed room m w;
        count = page.written_count version agents p rows l d typed room m w;
        dependency = page.written_dependency version agents p rows l d typed room m w;
      }

  -- ---- the numbers of the refusals

  module _ (typed : Typed agents p rows l d) where
    pub refused_2 : (said ≡ WriteAnswer.Refused 2 0) ↔ version_known version ≡ false
    refused_2 = page.version_exactly version agents p rows l d typed room

    pub refused_3 : (said ≡ WriteAnswer.Refused 3 0) ↔ (version_known version ≡ true) × (counts_fit agents rows ≡ false)
    refused_3 = page.limits_exactly version agents p rows l d typed room

    pub refused_16 : (said ≡ WriteAnswer.Refused 16 0)
        ↔ (version_known version ≡ true) × (counts_fit agents rows ≡ true) × (numbers_fit version agents p ≡ false)
    refused_16 = page.numbers_exactly version agents p rows l d typed room

    pub refused_17 : (said ≡ WriteAnswer.Refused 17 0)
        ↔ (version_known version ≡ true) × (counts_fit agents rows ≡ true) × (numbers_fit version agents p ≡ true)
        × (dependencies_fit version d.count ≡ false)
    refused_17 = page.dependencies_exactly version agents p rows l d typed room

    pub refused_table : (n i : ℕ) → of_table n ≡ true
        → (said ≡ WriteAnswer.Refused n i) ↔ Fits version agents p rows d.count × Unfillable t n i
    refused_table n i o =
        let x = page.table_exactly version agents p rows l d typed room n i o in (
          λ e. (values_fit version agents p rows d.count (x.0 e).0, (x.0 e).1),
          λ c. x.1 (fit_values c.0, c.1),
        )

    pub refused_13 : (said ≡ WriteAnswer.Refused 13 0)
        ↔ Fits version agents p rows d.count × Fillable t × (room < length t)
    refused_13 =
        let x = page.short_exactly version agents p rows l d typed room in (
          λ e. let c = x.0 e in
              (values_fit version agents p rows d.count c.0, admitted_fillable t c.1.2, c.2),
          λ c. x.1 (fit_values c.0, (_, _, c.1), c.2),
        )

-- ---- the same of what `write_parts` is lent

module _ (version : ℕ) (places rows dependencies : List ℕ) (room : ℕ) where
  abbrev table : List ℕ
  table = parts_table version places rows dependencies

  abbrev told : WriteAnswer
  told = parts_answer version places rows dependencies room

  abbrev PartsMeans : WriteAnswer → Type 0
  PartsMeans (WriteAnswer.Refused n i) =
      WriteRefuses version (agents_in places) (places_in places) (rows_in rows) (entries_in rows)
      (dependencies_in dependencies) room n i
  PartsMeans (WriteAnswer.Written m) =
      Fits version (agents_in places) (places_in places) (rows_in rows) (dependencies_in dependencies).count
      × Fillable table × (length table ≤ room) × (m ≡ length table)

  pub parts_exactly : (a : WriteAnswer) → (told ≡ a) ↔ PartsMeans a
  unfolding parts_answer parts_table
  parts_exactly (WriteAnswer.Refused n i) =
      write_exactly version (agents_in places) (places_in places) (rows_in rows) (entries_in rows)
      (dependencies_in dependencies) room (WriteAnswer.Refused n i)
  parts_exactly (WriteAnswer.Written m) =
      write_exactly version (agents_in places) (places_in places) (rows_in rows) (entries_in rows)
      (dependencies_in dependencies) room (WriteAnswer.Written m)

  pub parts_buffer_written : (m : ℕ) → told ≡ WriteAnswer.Written m → (out : List ℕ)
      → (take m (buffer_after told table out) ≡ table) × (drop m (buffer_after told table out) ≡ drop m out)
  unfolding parts_answer parts_table
  parts_buffer_written = buffer_written version (agents_in places) (places_in places) (rows_in rows) (entries_in rows)
      (dependencies_in dependencies) room

  pub parts_buffer_refused : (n i : ℕ) → told ≡ WriteAnswer.Refused n i → (out : List ℕ)
      → buffer_after told table out ≡ out
  unfolding parts_answer parts_table
  parts_buffer_refused = buffer_refused version (agents_in places) (places_in places) (rows_in rows) (entries_in rows)
      (dependencies_in dependencies) room

  pub parts_say : Numbers places → Bytes rows → Numbers dependencies → (m : ℕ) → told ≡ WriteAnswer.Written m
      → Says table version (agents_in places) (places_in places) (rows_in rows) (entries_in rows)
      (dependencies_in dependencies)
  unfolding parts_answer parts_table
  parts_say p b e = written_says version (agents_in places) (places_in places) (rows_in rows) (entries_in rows)
      (dependencies_in dependencies) room (parts_typed places rows dependencies p b e)
