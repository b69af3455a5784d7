-- Numbers of 64 bits in a medium: eight bytes, the lowest first. Assumes nothing.
use Rattle.std.specs.Prelude.{ℕ, zero, suc, ◌+◌, ◌*◌, ◌/◌, ◌%◌, ◌^◌, List, [], ◌∷◌, get_or}

-- the number of 64 bits that stands at k; a byte past the end counts as 0
unfoldable pub word_at : List ℕ → ℕ → ℕ
word_at m k =
    (get_or m k 0 + 256 * (get_or m (k + 1) 0 + 256 * (get_or m (k + 2) 0 + 256 * (get_or m (k + 3) 0
    + 256 * (get_or m (k + 4) 0 + 256 * (get_or m (k + 5) 0 + 256 * (get_or m (k + 6) 0 + 256 * get_or m (k + 7) 0)))))))
    % 2 ^ 64

-- the n lowest bytes of a number, from the lowest
unfoldable pub low : ℕ → ℕ → List ℕ
low zero x = []
low (suc n) x = x % 256 ∷ low n (x / 256)

-- a number as it is stored
abbrev pub le : ℕ → List ℕ
le x = low 8 x
