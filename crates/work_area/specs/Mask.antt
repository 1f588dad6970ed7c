-- The bits of a pair of rows as one number, from the word that they stand in. Assumes nothing.
use Rattle.std.specs.Prelude.{List, ℕ, ◌/◌, ◌%◌, ◌^◌, get_or}

-- the PAIR bits from bit `at` on; a pair's begin where a quarter of a word does
unfoldable pub mask_at : List ℕ → ℕ → ℕ
mask_at w at = get_or w (at / 64) 0 / 2 ^ (at % 64) % 65536
