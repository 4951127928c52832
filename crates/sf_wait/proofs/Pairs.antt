-- lists that are gone through, and lists whose items are related place by place
use Rattle.std.proofs.Common.{◌≡◌, List, [], ◌∷◌, ◌++◌, length, refl, ap, ◌∙◌, append-nil, arith}
use Rattle.sf_wait.specs.Served.{ArePaired}

pub paired_snoc : {A B : Type 0} (r : A → B → Type 0) (xs : List A) (ys : List B) (x : A) (y : B) → ArePaired r xs ys → r x y → ArePaired r (xs ++ x ∷ []) (ys ++ y ∷ [])
paired_snoc r [] [] x y p q = (q, tt)
paired_snoc r [] (z ∷ zs) x y p q = absurd p
paired_snoc r (w ∷ ws) [] x y p q = absurd p
paired_snoc r (w ∷ ws) (z ∷ zs) x y p q = (p.0, paired_snoc r ws zs x y p.1 q)

pub nothing_left : {A : Type 0} (l : List A) → length l ≡ 0 → l ≡ []
nothing_left [] h = refl
nothing_left (x ∷ xs) h = absurd (omega arith)

-- nothing of the list is left
pub whole : {A : Type 0} (l xs ys : List A) → l ≡ xs ++ ys → length ys ≡ 0 → l ≡ xs
whole l xs ys e none = e ∙ ap (λ r. xs ++ r) (nothing_left ys none) ∙ append-nil xs
