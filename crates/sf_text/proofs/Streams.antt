-- reading on, one read a turn
use Rattle.std.proofs.Common.{◌≡◌, ◌≤◌, ℕ, take, drop, arith, subst, List, ◌++◌, Option, None, Some, refl, sym, ◌∙◌, ap, append_assoc}
use Rattle.std.proofs.lemmas.List.{take-append-drop, append-nil}
use Rattle.std.specs.Prelude.{IfSome}
use Rattle.std.specs.Io.KnownBytes.{Consumes, Appends, Keeps}
use Rattle.sf_text.specs.StreamText.{AppendsPart}

-- what was read and what is left is what there was, also after one read more
pub read_goes_on : (whole before after : Option (List ℕ)) (items more got : List ℕ) → IfSome whole (λ all. (rest : List ℕ) × (before ≡ Some rest) × (all ≡ items ++ rest))
    → Consumes before after got → more ≡ items ++ got → IfSome whole (λ all. (rest : List ℕ) × (after ≡ Some rest) × (all ≡ more ++ rest))
read_goes_on None before after items more got known consumed grown = tt
read_goes_on (Some all) None after items more got known consumed grown = cc (known.1)
read_goes_on (Some all) (Some b) None items more got known consumed grown = absurd consumed
read_goes_on (Some all) (Some b) (Some a) items more got known consumed grown =
    let left : b ≡ known.0 = cc (known.1) in
    (a, refl, known.2 ∙ ap (λ z. items ++ z) (sym left ∙ consumed) ∙ sym (append_assoc items got a) ∙ ap (λ z. z ++ a) (sym grown))

-- a part that is written after another, or nothing more
pub appends_on : (old mid new : Option (List ℕ)) (xs ys zs : List ℕ) → Appends old mid xs → Appends mid new ys → zs ≡ xs ++ ys → Appends old new zs
appends_on None mid new xs ys zs first then is = tt
appends_on (Some a) None new xs ys zs first then is = absurd first
appends_on (Some a) (Some b) None xs ys zs first then is = absurd then
appends_on (Some a) (Some b) (Some c) xs ys zs first then is = then ∙ ap (λ z. z ++ ys) first ∙ append_assoc a xs ys ∙ ap (λ z. a ++ z) (sym is)

pub keeps_on : (old mid new : Option (List ℕ)) (xs : List ℕ) → Appends old mid xs → Keeps mid new → Appends old new xs
keeps_on None mid new xs first kept = tt
keeps_on (Some a) None new xs first kept = absurd first
keeps_on (Some a) (Some b) None xs first kept = absurd kept
keeps_on (Some a) (Some b) (Some c) xs first kept = kept ∙ first

-- what was written so far is a beginning, also after a write that took nothing
pub part_of : (old mid new : Option (List ℕ)) (i n : ℕ) (answer rest : List ℕ) → Appends old mid (take i answer) → Appends mid new (take n rest) → n ≤ 0 → AppendsPart old new answer
part_of old mid new i n answer rest first then none =
    let nothing : n ≡ 0 = omega (arith, none) in (
      take i answer,
      drop i answer,
      sym (take-append-drop i answer),
      appends_on old mid new _ _ _ first (subst (λ (m : ℕ). Appends mid new (take m rest)) nothing then) (sym (append-nil (take i answer))),
    )
