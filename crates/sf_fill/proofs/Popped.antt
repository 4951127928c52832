-- what is known of a list's elements when its last one is taken
use Rattle.std.proofs.Common.{◌≡◌, List, [], ◌∷◌, ◌++◌, All, Option, Some, option_to_list, ap, ◌∙◌, subst}
use Rattle.std.proofs.lemmas.List.Elements.{All-nil, All-cons, All-head, All-tail}

module _ {X : Type 0} where
  pub last_is : (old new : List X) (o : Option X) (x : X) → old ≡ new ++ option_to_list o → o ≡ Some x → old ≡ new ++ x ∷ []
  last_is old new o x is some = is ∙ ap (λ (p : Option X). new ++ option_to_list p) some

  last_of : (P : X → Type 0) (xs : List X) (x : X) → All P (xs ++ x ∷ []) → P x × All P xs
  last_of P [] x a = (All-head P x [] a, All-nil P)
  last_of P (y ∷ xs) x a = let on = last_of P xs x (All-tail P y (xs ++ x ∷ []) a) in (on.0, All-cons P y xs (All-head P y (xs ++ x ∷ []) a) on.1)

  pub popped : (P : X → Type 0) (old new : List X) (o : Option X) (x : X) → old ≡ new ++ option_to_list o → o ≡ Some x → All P old → P x × All P new
  popped P old new o x is some all = last_of P new x (subst (All P) (last_is old new o x is some) all)
