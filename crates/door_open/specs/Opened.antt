-- What an entry point knows of the run that the door made, once the pieces are admitted. Assumes nothing.
use Rattle.std.specs.Prelude.{◌≡◌, Bool, List, ◌++◌, ℕ, ◌+◌, ◌*◌, ◌≤◌, ◌<◌, length, get_or}
use Rattle.std.proofs.Math.Path.{refl, fun_ext}
use Rattle.std.proofs.Common.{sym, ap, ◌∙◌, arith}
use Rattle.std.proofs.Math.Decide.{dec_lt}
use Rattle.std.proofs.Math.ListN.{get_or-eq_default}
use Rattle.finite.specs.Lists.{tabulate, length_tabulate, get_d_tabulate}
use Rattle.std.specs.Result.{MatchResult}
use Rattle.std.specs.declared.result.Result.{Result}
use Rattle.std.specs.declared.result.Result.TheVariants.{Ok, Err}
use Rattle.model.specs.declared.Admission.{Admission}
use Rattle.model.specs.declared.Admission.TheVariants.{Admitted, Refused}
use Rattle.model.specs.declared.Refusal.{Refusal}
use Rattle.model.specs.Refusal.{admission_answer, refusal_of}
use Rattle.model.specs.Limits.{WORK}
use Rattle.model.specs.Table.{Mode, mode_of, byte_of, pair_of, row_of, source_of, atomic_source, decode, table_under, sources_of}
use Rattle.model.specs.Header.{ROW_BYTES, rows_at, row_bytes, places_of, pair_at}
use Rattle.door_pieces.specs.Pieces.{AREA, area_of, pieces_fault, joined}
use Rattle.door_pieces.specs.PiecesLaws.{both_fit, bytes_length, joined_bytes, joined_places, joined_mode}
use Rattle.door_pieces.specs.Entry.{RowsOf, door_both, door_admits, pieces_right, sound_both, all_both}
use Rattle.run.specs.declared.Run.{Run}
use Rattle.run.specs.Layout.{places_in, mode_in, rows_in, table_in}
use Rattle.door_open.specs.Laid.{Laid, flag_byte, laid_rows, laid_places, laid_mode}

-- ---- definitions

-- t is a run of n rows of some table that is admitted
abbrev pub RunOf : Bool → List ℕ → ℕ → Type 0
RunOf blanks t n = RowsOf blanks (rows_in t) (places_in t) (mode_in t) n

-- t is the run of the two pieces, which have n rows, and the buffers are long enough
pub record Entered (needs : ℕ) (blanks chains : Bool) (f s : List ℕ) (work buffer : ℕ) (t : List ℕ) (n : ℕ) : Type 0 where
  pub room : WORK ≤ work
  pub space : needs ≤ buffer
  pub run : RunOf blanks t n
  pub table : table_in t n ≡ table_under chains (joined f s)
  pub sources : source_of (rows_in t) ≡ sources_of (joined f s)

-- what a door leaves in t: the run, where it admits
abbrev pub Opens : ℕ → Bool → Bool → List ℕ → List ℕ → ℕ → ℕ → Admission → List ℕ → Type 0
Opens needs blanks chains f s work buffer a t = (g n : ℕ) → a ≡ Admitted g n → Entered needs blanks chains f s work buffer t n

-- what an entry point goes on with: the run of the pieces, where the door admits them; else their refusal
abbrev pub Enters : ℕ → Bool → Bool → List ℕ → List ℕ → ℕ → ℕ → Result Run Refusal → Type 0
Enters needs blanks chains f s work buffer r =
    let said = admission_answer (door_both needs blanks f s work buffer) in
    MatchResult r (λ run. ((g : ℕ) × (said ≡ Ok (record { agents = g; rows = run.rows })) × Entered needs blanks chains f s work buffer run.bytes run.rows))
    (λ e. said ≡ Err e)

-- ---- laws: rows that are the same byte by byte

module _ (b c : List ℕ) (same : (k : ℕ) → get_or b k 0 ≡ get_or c k 0) where
  byte_same : (i k : ℕ) → byte_of b i k ≡ byte_of c i k
  unfolding byte_of
  byte_same i k = same (i * ROW_BYTES + k)

  pair_same : (i k : ℕ) → pair_of b i k ≡ pair_of c i k
  unfolding pair_of pair_at
  pair_same i k = rw (same (i * ROW_BYTES + k), same (i * ROW_BYTES + k + 1)) refl

  row_same : (i : ℕ) → row_of b i ≡ row_of c i
  unfolding row_of
  row_same i =
      λ d.
      record {
        kind = byte_same i 0 d;
        agent = byte_same i 1 d;
        order = byte_same i 2 d;
        scope = byte_same i 3 d;
        classes = byte_same i 4 d;
        flags = byte_same i 5 d;
        class = byte_same i 6 d;
        size = byte_same i 7 d;
        start = pair_same i 8 d;
        reference = pair_same i 10 d;
        rank = pair_same i 14 d;
      }

  pub rows_same : row_of b ≡ row_of c
  rows_same = fun_ext row_same

  pub sources_same : source_of b ≡ source_of c
  unfolding source_of
  sources_same = fun_ext (λ i. pair_same i 12)

  atomic_same : (i : ℕ) → atomic_source b i ≡ atomic_source c i
  unfolding atomic_source
  atomic_same i = rw (row_same i, sources_same) refl

  pub decode_same : (p : List (List ℕ)) (g : Mode) (n : ℕ) → decode b p g n ≡ decode c p g n
  unfolding decode
  decode_same p g n = rw (rows_same, fun_ext atomic_same) refl

-- ---- laws: an area that holds all

area_same : (x : List ℕ) → length x ≤ AREA → (k : ℕ) → get_or (area_of x) k 0 ≡ get_or x k 0
unfolding area_of
area_same x h k = go (dec_lt k AREA)
  where
    go : Dec (k < AREA) → get_or (tabulate (λ i. get_or x i 0) AREA) k 0 ≡ get_or x k 0
    go (yes l) = get_d_tabulate (λ i. get_or x i 0) AREA k 0 l
    go (no l) =
        get_or-eq_default (tabulate (λ i. get_or x i 0) AREA) 0 (rw (length_tabulate (λ i. get_or x i 0) AREA) (omega arith))
        ∙ sym (get_or-eq_default x 0 (omega arith))

-- the run's rows are the joined table's
run_same : (f s b : List ℕ) → pieces_fault f s ≡ 0 → b ≡ area_of (row_bytes f ++ s) → (k : ℕ) → get_or b k 0 ≡ get_or (row_bytes (joined f s)) k 0
run_same f s b z e k =
    let fit = both_fit f s z in
    let long = bytes_length f s z in
    rw (e, joined_bytes f s z) (area_same (row_bytes f ++ s) (omega arith) k)

-- ---- laws: what the door gives

module _ (chains : Bool) (t u : List ℕ) (same : (i : ℕ) → get_or (rows_in t) i 0 ≡ get_or (row_bytes u) i 0) where
  table_is : (n : ℕ) → places_in t ≡ places_of u → mode_in t ≡ mode_of chains u → n ≡ rows_at u → table_in t n ≡ table_under chains u
  unfolding table_under
  table_is n p m q = decode_same (rows_in t) (row_bytes u) same (places_in t) (mode_in t) n ∙ rw (p, m, q) refl

  sources_is : source_of (rows_in t) ≡ sources_of u
  unfolding sources_of
  sources_is = sources_same (rows_in t) (row_bytes u) same

module _ (needs : ℕ) (blanks chains : Bool) (f s : List ℕ) (work buffer : ℕ) (a : Admission) (t : List ℕ) where
  -- a refusal says nothing of the run
  pub opens_refused : {m i : ℕ} → a ≡ Refused m i → Opens needs blanks chains f s work buffer a t
  opens_refused {m} {i} q g n h = absurd (refused_admits (sym q ∙ h))
    where
      admits : Admission → ℕ
      admits (Admitted x y) = 1
      admits (Refused x y) = 0

      refused_admits : {g n : ℕ} → Refused m i ≡ Admitted g n → ⊥
      refused_admits e = let z : ◌≡◌ {A = ℕ} 0 1 = ap admits e in omega arith

  pub opens_laid : a ≡ door_both needs blanks f s work buffer → Laid (flag_byte chains) f s t → Opens needs blanks chains f s work buffer a t
  opens_laid e l g n h =
      let k = door_admits needs blanks f s work buffer a e h in
      let right = pieces_right blanks f s a k.2 h in
      let same = run_same f s (rows_in t) right (laid_rows chains f s t l) in
      let places = laid_places chains f s t l ∙ sym (joined_places f s right) in
      let modes = laid_mode chains f s t l ∙ sym (joined_mode f s right chains) in
      let all = all_both blanks f s a k.2 h in
      record {
        room = k.0;
        space = k.1;
        run =
            record {
              table = joined f s;
              chains = chains;
              sound = sound_both blanks f s a k.2 h;
              rows = rows_same (rows_in t) (row_bytes (joined f s)) same;
              places = places;
              modes = modes;
              all = all;
            };
        table = table_is chains t (joined f s) same n places modes all;
        sources = sources_is chains t (joined f s) same;
      }

-- ---- laws: an entry point that goes on

module _ (needs : ℕ) (blanks chains : Bool) (f s : List ℕ) (work buffer : ℕ) {a : Admission} (said : a ≡ door_both needs blanks f s work buffer) where
  pub enters_refused : {n i : ℕ} {x : Refusal} → a ≡ Refused n i → x ≡ refusal_of a → Enters needs blanks chains f s work buffer (Err x)
  unfolding admission_answer refusal_of
  enters_refused h e = rw (← said, e, h) refl

  pub enters_admitted : {g n : ℕ} {t : List ℕ} → a ≡ Admitted g n → Opens needs blanks chains f s work buffer a t
      → Enters needs blanks chains f s work buffer (Ok (record { bytes = t; rows = n }))
  unfolding admission_answer
  enters_admitted {g} {n} h opens = (g, ap admission_answer (sym said ∙ h), opens g n h)
