-- the lines of an input that is cut into parts
use Rattle.std.proofs.Common.{◌≡◌, ℕ, ◌==◌, true, false, List, [], ◌∷◌, ◌++◌, length, map, refl, sym, ◌∙◌, ap}
use Rattle.std.proofs.lemmas.List.{append-nil, map-append}
use Rattle.std.proofs.lemmas.Bool.{cond-true, cond-false}
use Rattle.std.proofs.lemmas.Simd.{map-map}
use Rattle.std.specs.Bool.{if◌then◌else◌}
use Rattle.std.specs.List.{slice_split}
use Rattle.std.specs.Str.Lines.{lines, lines_of_parts, strip_carriage_return}

-- the lines in parts: all but the last lose a carriage return, and an empty last part is no line
pub lines_split : (es : List (List ℕ)) (l : List ℕ) → lines_of_parts (es ++ l ∷ []) ≡ map strip_carriage_return es ++ (if length l == 0 then [] else l ∷ [])
lines_split [] l = refl
lines_split (e ∷ []) l = refl
lines_split (e ∷ f ∷ es) l = ap (λ z. strip_carriage_return e ∷ z) (lines_split (f ∷ es) l)

module _ {X : Type 0} (v : X → List ℕ) where
  -- the lines of an input that is cut into parts
  lines_made : (ended : List X) (last : X) (parts : List X) (input : List ℕ) (made : List (List ℕ)) → parts ≡ ended ++ last ∷ [] → map v parts ≡ slice_split (λ b. b == 10) input
      → made ≡ map (λ x. strip_carriage_return (v x)) ended ++ (if length (v last) == 0 then [] else v last ∷ []) → made ≡ lines input
  lines_made ended last parts input made are cut is =
      let views : map v ended ++ v last ∷ [] ≡ slice_split (λ b. b == 10) input = sym (map-append v ended (last ∷ [])) ∙ ap (map v) (sym are) ∙ cut in
      is ∙ ap (λ z. z ++ (if length (v last) == 0 then [] else v last ∷ [])) (sym (map-map strip_carriage_return v ended))
      ∙ sym (lines_split (map v ended) (v last)) ∙ ap lines_of_parts views

  -- an empty last part is no line
  pub lines_ended : (ended : List X) (last : X) (parts : List X) (input : List ℕ) (made : List (List ℕ)) → parts ≡ ended ++ last ∷ [] → map v parts ≡ slice_split (λ b. b == 10) input
      → (length (v last) == 0) ≡ true → made ≡ map (λ x. strip_carriage_return (v x)) ended → made ≡ lines input
  lines_ended ended last parts input made are cut empty is =
      lines_made ended last parts input made are cut
      (is ∙ sym (append-nil (map (λ x. strip_carriage_return (v x)) ended)) ∙ ap (λ z. map (λ x. strip_carriage_return (v x)) ended ++ z) (sym (cond-true (length (v last) == 0) [] (v last ∷ []) empty)))

  -- one that is not empty is the last line
  pub lines_with_last : (ended : List X) (last : X) (parts : List X) (input : List ℕ) (made : List (List ℕ)) → parts ≡ ended ++ last ∷ [] → map v parts ≡ slice_split (λ b. b == 10) input
      → (length (v last) == 0) ≡ false → made ≡ map (λ x. strip_carriage_return (v x)) ended ++ v last ∷ [] → made ≡ lines input
  lines_with_last ended last parts input made are cut some is =
      lines_made ended last parts input made are cut
      (is ∙ ap (λ z. map (λ x. strip_carriage_return (v x)) ended ++ z) (sym (cond-false (length (v last) == 0) [] (v last ∷ []) some)))
