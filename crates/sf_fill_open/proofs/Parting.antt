-- the parts of getters
use Rattle.std.proofs.Common.{◌≡◌, ℕ, ◌+◌, List, [], ◌∷◌, All, length, arith}
use Rattle.std.specs.List.{enumerate_from, zip}
use Rattle.std.proofs.lemmas.List.Elements.{All-nil, All-cons, All-head, All-tail}
use Rattle.sf_fill.specs.GetterValue.{GetterValue}
use Rattle.sf_fill_open.specs.Opened.{EachPart, EachThread, without_loaders}

module _ {P : Type 0} (gives : ℕ → GetterValue (Unit {0}) → P → Type 0) where
  abbrev OfSome : ℕ × P → Type 0
  OfSome at = (getter : GetterValue (Unit {0})) × gives at.0 getter at.1

module _ {L P : Type 0} (gives : ℕ → GetterValue (Unit {0}) → P → Type 0) where
  abbrev Of : ℕ × (GetterValue L × P) → Type 0
  Of at = gives at.0 (without_loaders at.1.0) at.1.1

  parts_from : (n : ℕ) (getters : List (GetterValue L)) (parts : List P) → length getters ≡ length parts → All Of (enumerate_from n (zip getters parts)) → All (OfSome gives) (enumerate_from n parts)
  parts_from n [] [] same all = All-nil (OfSome gives)
  parts_from n [] (p ∷ parts) same all = let no : ⊥ = omega (arith, same) in absurd no
  parts_from n (x ∷ getters) [] same all = All-nil (OfSome gives)
  parts_from n (x ∷ getters) (p ∷ parts) same all =
      let rest : List (ℕ × (GetterValue L × P)) = enumerate_from (n + 1) (zip getters parts) in
      let some : OfSome gives (n, p) = (without_loaders x, All-head Of (n, (x, p)) rest all) in
      All-cons (OfSome gives) (n, p) (enumerate_from (n + 1) parts) some (parts_from (n + 1) getters parts (omega (arith, same)) (All-tail Of (n, (x, p)) rest all))

  -- what holds of each getter and its part, holds of each part and some getter
  pub each_part : (getters : List (GetterValue L)) (parts : List P) → length getters ≡ length parts → EachThread gives getters parts → EachPart gives parts
  each_part getters parts same all = parts_from 0 getters parts same all
