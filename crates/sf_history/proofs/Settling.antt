-- a look for the first element that passes a test, one element a turn
use Rattle.std.proofs.Common.{◌≡◌, ℕ, ◌+◌, ◌<◌, Bool, true, false, List, [], ◌∷◌, ◌++◌, length, get_or, take, drop, Option, Some, None, refl, sym, ◌∙◌, ap}
use Rattle.std.proofs.Math.ListN.{set}
use Rattle.std.proofs.Math.Seq.{drop-cons}
use Rattle.std.proofs.lemmas.Bool.{cond-true, cond-false}
use Rattle.std.proofs.lemmas.List.{take-append-drop, take_more, set-get_or}
use Rattle.std.proofs.lemmas.List.Folds.{find-append}
use Rattle.std.specs.Prelude.{find, cond, option_and_then}
use Rattle.std.specs.Option.{option_or}

-- the element at i passes, and none before it does
first_at : {X : Type 0} (p : X → Bool) (xs : List X) (i : ℕ) (d : X) → i < length xs → find p (take i xs) ≡ None → p (get_or xs i d) ≡ true → find p xs ≡ Some (get_or xs i d)
first_at p xs i d within none passes =
    let parts : take i xs ++ drop i xs ≡ xs = take-append-drop i xs in
    let at : find p (drop i xs) ≡ Some (get_or xs i d) = ap (find p) (drop-cons xs i d within) ∙ cond-true (p (get_or xs i d)) (Some (get_or xs i d)) _ passes in
    sym (ap (find p) parts) ∙ find-append p (take i xs) (drop i xs) ∙ ap (λ o. option_or o (find p (drop i xs))) none ∙ at

-- what the look finds at i, where an element that passes has something
pub found_here : {X V : Type 0} (p : X → Bool) (f : X → Option V) (xs : List X) (i : ℕ) (d : X) (found : Option V) (v : V) → i < length xs → find p (take i xs) ≡ None
    → found ≡ cond (p (get_or xs i d)) (f (get_or xs i d)) None → found ≡ Some v → Some v ≡ option_and_then f (find p xs)
found_here p f xs i d found v within none what some = at (p (get_or xs i d)) refl what
  where
    at : (b : Bool) → p (get_or xs i d) ≡ b → found ≡ cond b (f (get_or xs i d)) None → Some v ≡ option_and_then f (find p xs)
    at true passes here = sym some ∙ here ∙ sym (ap (option_and_then f) (first_at p xs i d within none passes))
    at false fails here = cc

-- the look goes on past an element that has nothing
pub none_yet : {X V : Type 0} (p : X → Bool) (f : X → Option V) (xs : List X) (i : ℕ) (d : X) (found : Option V) → i < length xs → find p (take i xs) ≡ None
    → found ≡ cond (p (get_or xs i d)) (f (get_or xs i d)) None → found ≡ None → ((x : X) → p x ≡ true → f x ≡ None → ⊥) → find p (take (i + 1) xs) ≡ None
none_yet p f xs i d found within none what nothing has = at (p (get_or xs i d)) refl what
  where
    at : (b : Bool) → p (get_or xs i d) ≡ b → found ≡ cond b (f (get_or xs i d)) None → find p (take (i + 1) xs) ≡ None
    at true passes here = absurd (has (get_or xs i d) passes (sym here ∙ nothing))
    at false fails here =
        let last : find p (get_or xs i d ∷ []) ≡ None = cond-false (p (get_or xs i d)) (Some (get_or xs i d)) None fails in
        ap (find p) (take_more xs i d within) ∙ find-append p (take i xs) (get_or xs i d ∷ []) ∙ ap (λ o. option_or o (find p (get_or xs i d ∷ []))) none ∙ last

-- an element that is written as it was changes nothing
pub set_same : {X : Type 0} (xs : List X) (i : ℕ) (x : X) → x ≡ get_or xs i x → set xs i x ≡ xs
set_same xs i x is = ap (set xs i) is ∙ set-get_or xs i x
