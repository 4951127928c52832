-- getters that are handed out backwards, and parts that are taken back
use Rattle.std.proofs.Common.{◌≡◌, ℕ, ◌+◌, ◌-◌, ◌<◌, List, [], ◌∷◌, ◌++◌, All, map, reverse, length, get_or, sym, ap, ◌∙◌, refl, subst, arith}
use Rattle.std.specs.List.{enumerate_from, zip}
use Rattle.std.proofs.lemmas.List.{append_assoc, map-append, reverse-append, length-map, length-reverse, get_or-map, get_or-reverse}
use Rattle.std.proofs.lemmas.List.FromFn.{length-enumerate_from, get_or-enumerate_from}

module _ {X : Type 0} where
  enumerate_from-push : (n : ℕ) (xs : List X) (x : X) → enumerate_from n (xs ++ x ∷ []) ≡ enumerate_from n xs ++ (n + length xs, x) ∷ []
  enumerate_from-push n [] x = ap (λ (i : ℕ). (i, x) ∷ []) (omega arith)
  enumerate_from-push n (y ∷ xs) x =
      ap (λ (l : List (ℕ × X)). (n, y) ∷ l) (enumerate_from-push (n + 1) xs x ∙ ap (λ (i : ℕ). enumerate_from (n + 1) xs ++ (i, x) ∷ []) (omega arith))

  numbered : (xs : List X) (x : X) → enumerate_from 0 (xs ++ x ∷ []) ≡ enumerate_from 0 xs ++ (length xs, x) ∷ []
  numbered xs x = enumerate_from-push 0 xs x ∙ ap (λ (i : ℕ). enumerate_from 0 xs ++ (i, x) ∷ []) (omega arith)

  -- an element and its number
  element : (xs : List X) (k : ℕ) (d : ℕ × X) → k < length xs → get_or (enumerate_from 0 xs) k d ≡ (k, get_or xs k d.1)
  element xs k d below = get_or-enumerate_from 0 xs k d below ∙ ap (λ (i : ℕ). (i, get_or xs k d.1)) (omega arith)

  -- one job more, for the last of the getters that were left
  pub handed_on : {J : Type 0} (f : J → ℕ × X) (js next : List J) (left rest : List X) (all : List (ℕ × X)) (j : J) (x : X) → left ≡ rest ++ x ∷ [] → next ≡ js ++ j ∷ [] → f j ≡ (length rest, x)
      → map f js ++ reverse (enumerate_from 0 left) ≡ all → map f next ++ reverse (enumerate_from 0 rest) ≡ all
  handed_on {J} f js next left rest all j x popped pushed is was =
      let back : reverse (enumerate_from 0 left) ≡ (length rest, x) ∷ reverse (enumerate_from 0 rest) =
      ap (λ (l : List X). reverse (enumerate_from 0 l)) popped ∙ (ap (λ (l : List (ℕ × X)). reverse l) (numbered rest x) ∙ reverse-append (enumerate_from 0 rest) ((length rest, x) ∷ [])) in
      ap (λ (l : List J). map f l ++ reverse (enumerate_from 0 rest)) pushed
      ∙ (ap (λ (l : List (ℕ × X)). l ++ reverse (enumerate_from 0 rest)) (map-append f js (j ∷ []))
      ∙ (append_assoc (map f js) (f j ∷ []) (reverse (enumerate_from 0 rest))
      ∙ (ap (λ (p : ℕ × X). map f js ++ p ∷ reverse (enumerate_from 0 rest)) is
      ∙ (ap (λ (l : List (ℕ × X)). map f js ++ l) (sym back) ∙ was))))

  module _ {J : Type 0} (f : J → ℕ × X) (js : List J) (xs : List X) (handed : map f js ≡ reverse (enumerate_from 0 xs)) where
    -- there are as many jobs as getters
    pub as_many : length js ≡ length xs
    as_many = sym (length-map js f) ∙ (ap (λ (l : List (ℕ × X)). length l) handed ∙ (length-reverse (enumerate_from 0 xs) ∙ length-enumerate_from 0 xs))

    -- the job at a place is of the getter as far from the end
    pub job_at : (i : ℕ) (j : J) → i < length js → f (get_or js i j) ≡ (length xs - 1 - i, get_or xs (length xs - 1 - i) (f j).1)
    job_at i j below =
        sym (get_or-map f js i j (f j) below)
        ∙ (ap (λ (l : List (ℕ × X)). get_or l i (f j)) handed
        ∙ (get_or-reverse (enumerate_from 0 xs) i (f j) (omega (arith, below, as_many, length-enumerate_from 0 xs))
        ∙ (ap (λ (n : ℕ). get_or (enumerate_from 0 xs) (n - 1 - i) (f j)) (length-enumerate_from 0 xs)
        ∙ element xs (length xs - 1 - i) (f j) (omega (arith, below, as_many)))))

    -- a job has a getter, and its index is below their number
    pub job_of : (P : X → Type 0) (i : ℕ) (j : J) → i < length js → j ≡ get_or js i j → All P xs → P (f j).1 × ((f j).0 < length xs)
    job_of P i j below is all =
        let at = ap f is ∙ job_at i j below in (
          subst P (sym (ap (λ (p : ℕ × X). p.1) at)) (all (length xs - 1 - i) (f j).1 (omega (arith, below, as_many))),
          subst (λ (n : ℕ). n < length xs) (sym (ap (λ (p : ℕ × X). p.0) at)) (omega (arith, below, as_many)),
        )

-- one element goes over from the end of a list to the end of another
pub taken_one : {E P : Type 0} (part : E → P) (es rest : List E) (e : E) (ps next all : List P) (p : P) → es ≡ rest ++ e ∷ [] → p ≡ part e → next ≡ ps ++ p ∷ [] → ps ++ reverse (map part es) ≡ all
    → next ++ reverse (map part rest) ≡ all
taken_one {E} {P} part es rest e ps next all p popped is pushed was =
    let back : reverse (map part es) ≡ part e ∷ reverse (map part rest) =
    ap (λ (l : List E). reverse (map part l)) popped ∙ (ap (λ (l : List P). reverse l) (map-append part rest (e ∷ [])) ∙ reverse-append (map part rest) (part e ∷ [])) in
    ap (λ (l : List P). l ++ reverse (map part rest)) pushed
    ∙ (append_assoc ps (p ∷ []) (reverse (map part rest))
    ∙ (ap (λ (q : P). ps ++ q ∷ reverse (map part rest)) is
    ∙ (ap (λ (l : List P). ps ++ l) (sym back) ∙ was)))

pub as_many_back : {E P : Type 0} (part : E → P) (es : List E) (ps : List P) → ps ≡ reverse (map part es) → length ps ≡ length es
as_many_back part es ps is = ap (λ l. length l) is ∙ (length-reverse (map part es) ∙ length-map es part)

-- what holds of the parts with the indexes that their jobs had, holds of them in their order
pub taken_back : {E P : Type 0} (part : E → P) (G : ℕ × P → Type 0) (es : List E) (ps : List P) → ps ≡ reverse (map part es)
    → ((i : ℕ) (d : E) → i < length es → G (length es - 1 - i, part (get_or es i d))) → All G (enumerate_from 0 ps)
taken_back {E} {P} part G [] ps is each = subst (λ (l : List P). All G (enumerate_from 0 l)) (sym is) (λ k d below. let no : ⊥ = omega (arith, below) in absurd no)
taken_back {E} {P} part G (e ∷ es) ps is each = λ k d below.
    let n = length (e ∷ es) in
    let long : length ps ≡ n = as_many_back part (e ∷ es) ps is in
    let few : k < n = omega (arith, below, length-enumerate_from 0 ps, long) in
    let at : get_or (enumerate_from 0 ps) k d ≡ (k, part (get_or (e ∷ es) (n - 1 - k) e)) =
    element ps k d (omega (arith, few, long))
    ∙ ap {B = ℕ × P} (λ (p : P). (k, p)) (ap (λ (l : List P). get_or l k d.1) is
    ∙ (get_or-reverse (map part (e ∷ es)) k d.1 (omega (arith, few, length-map (e ∷ es) part))
    ∙ (ap (λ (m : ℕ). get_or (map part (e ∷ es)) (m - 1 - k) d.1) (length-map (e ∷ es) part)
    ∙ get_or-map part (e ∷ es) (n - 1 - k) e d.1 (omega (arith, few))))) in
    subst G (sym at) (subst (λ (i : ℕ). G (i, part (get_or (e ∷ es) (n - 1 - k) e))) (omega (arith, few)) (each (n - 1 - k) e (omega (arith, few))))

-- two lists that are taken back side by side are pairs that are taken back
module _ {A B : Type 0} where
  zip-push : (xs : List A) (ys : List B) (x : A) (y : B) → length xs ≡ length ys → zip (xs ++ x ∷ []) (ys ++ y ∷ []) ≡ zip xs ys ++ (x, y) ∷ []
  zip-push [] [] x y same = refl
  zip-push [] (b ∷ ys) x y same = let no : ⊥ = omega (arith, same) in absurd no
  zip-push (a ∷ xs) [] x y same = let no : ⊥ = omega (arith, same) in absurd no
  zip-push (a ∷ xs) (b ∷ ys) x y same = ap (λ (l : List (A × B)). (a, b) ∷ l) (zip-push xs ys x y (omega (arith, same)))

  zip-reversed : {E : Type 0} (f : E → A) (h : E → B) (es : List E) → zip (reverse (map f es)) (reverse (map h es)) ≡ reverse (map {B = A × B} (λ (e : E). (f e, h e)) es)
  zip-reversed f h [] = refl
  zip-reversed {E} f h (e ∷ es) =
      let pair : E → A × B = λ (d : E). (f d, h d) in
      let firsts : reverse (map f (e ∷ es)) ≡ reverse (map f es) ++ f e ∷ [] = reverse-append (f e ∷ []) (map f es) in
      let seconds : reverse (map h (e ∷ es)) ≡ reverse (map h es) ++ h e ∷ [] = reverse-append (h e ∷ []) (map h es) in
      let long : length (reverse (map f es)) ≡ length (reverse (map h es)) = length-reverse (map f es) ∙ (length-map es f ∙ (sym (length-map es h) ∙ sym (length-reverse (map h es)))) in
      ap (λ (l : List A). zip l (reverse (map h (e ∷ es)))) firsts
      ∙ (ap (λ (l : List B). zip (reverse (map f es) ++ f e ∷ []) l) seconds
      ∙ (zip-push (reverse (map f es)) (reverse (map h es)) (f e) (h e) long
      ∙ (ap (λ (l : List (A × B)). l ++ (f e, h e) ∷ []) (zip-reversed f h es)
      ∙ sym (reverse-append (pair e ∷ []) (map pair es)))))

  pub taken_side_by_side : {E : Type 0} (f : E → A) (h : E → B) (es : List E) (xs : List A) (ys : List B) → xs ≡ reverse (map f es) → ys ≡ reverse (map h es)
      → zip xs ys ≡ reverse (map {B = A × B} (λ (e : E). (f e, h e)) es)
  taken_side_by_side f h es xs ys firsts seconds = ap (λ (l : List A). zip l ys) firsts ∙ (ap (λ (l : List B). zip (reverse (map f es)) l) seconds ∙ zip-reversed f h es)
