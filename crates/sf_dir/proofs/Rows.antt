-- Where the words lie: no two rows overlap, and no row, place and counter do.
use Rattle.std.proofs.Common.{◌≡◌, ◌≢◌, ℕ, suc, ◌+◌, ◌*◌, ◌<◌, ◌≤◌, ⊎_elim, ap, ◌∙◌, mul-le-mul_right, suc-mul, arith}
use Rattle.sf_dir.specs.declared.rule.DirectorySizes.{DirectorySizes}
use Rattle.sf_dir.specs.WordIndex.{row_width, row_count, row_at, word_total}
use Rattle.sf_lists.proofs.Ends.{sides}

-- a row ends before the next one begins
pub rows_apart : (x y n : ℕ) → x < y → x * n + n ≤ y * n
rows_apart x y n h = let a : suc x * n ≤ y * n = mul-le-mul_right n h in omega (arith, suc-mul x n)

pub row_within : (z : DirectorySizes) (row i : ℕ) → row < row_count z → i < row_width z → row_at z row + i < word_total z
row_within z row i l h = let w : ℕ = row_width z in let a : row * w + w ≤ row_count z * w = rows_apart row (row_count z) w l in let h' : i < w = h in omega arith

-- words of two rows are two words
pub rows_differ : (z : DirectorySizes) (r s i j : ℕ) → r ≢ s → i < row_width z → j < row_width z → row_at z r + i ≢ row_at z s + j
rows_differ z r s i j d hi hj e = ⊎_elim
    (λ (lt : r < s). let a : r * row_width z + row_width z ≤ s * row_width z = rows_apart r s (row_width z) lt in absurd (omega arith))
    (λ (lt : s < r). let a : s * row_width z + row_width z ≤ r * row_width z = rows_apart s r (row_width z) lt in absurd (omega arith))
    (sides r s d)

-- a word of a row is a word of the table
pub in_row : (z y : DirectorySizes) (row start j word total : ℕ) → y ≡ z → start ≡ row_at y row → total ≡ word_total z → row < row_count z → j < row_width z → word ≡ start + j → word < total
in_row z y row start j word total same is size lt within at = let inside = row_within z row j lt within in let is' : start ≡ row_at z row = is ∙ ap (λ q. row_at q row) same in omega arith

-- where a word of a row lies
pub row_word_at : (z y : DirectorySizes) (row start j word : ℕ) → y ≡ z → start ≡ row_at y row → word ≡ start + j → word ≡ row_at z row + j
row_word_at z y row start j word same is at = at ∙ ap (λ q. q + j) (is ∙ ap (λ q. row_at q row) same)
