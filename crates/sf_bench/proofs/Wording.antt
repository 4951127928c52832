-- lists of names, as they are read word by word
use Rattle.std.proofs.Common.{◌≡◌, ℕ, ◌+◌, ◌<◌, List, [], ◌∷◌, ◌++◌, length, get_or, take, map, ap, arith}
use Rattle.std.proofs.lemmas.List.{map_push, take-map, take_more}

module _ {X Y : Type 0} where
  -- a list of one element
  pub one_mapped : (g : X → Y) (xs : List X) (x : X) (y : Y) → length xs ≡ 1 → x ≡ get_or xs 0 x → g x ≡ y → map g xs ≡ y ∷ []
  one_mapped g [] x y one here same = absurd (omega arith)
  one_mapped g (a ∷ []) x y one here same = let front : x ≡ a = here in cc (ap g front)
  one_mapped g (a ∷ (b ∷ xs)) x y one here same = absurd (omega arith)

-- one more of two lists that are mapped to the same
pub one_more_mapped : {X Y Z : Type 0} (f : X → Z) (g : Y → Z) (xs : List X) (ys : List Y) (i : ℕ) (x : X) (y : Y)
    → i < length ys → map f xs ≡ take i (map g ys) → f x ≡ g y → y ≡ get_or ys i y → map f (xs ++ x ∷ []) ≡ take (i + 1) (map g ys)
one_more_mapped f g xs ys i x y within so_far same here =
    let pushed = map_push f xs x in
    let taken = take-map g (i + 1) ys in
    let longer = ap (map g) (take_more ys i y within) in
    let last = map_push g (take i ys) (get_or ys i y) in
    let before = take-map g i ys in
    let there = ap g here in
    cc
