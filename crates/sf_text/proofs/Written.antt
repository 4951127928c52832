-- a line is what its text was made of, with its end
use Rattle.std.proofs.Common.{◌≡◌, ◌++◌, ℕ, List, [], ◌∷◌, Option, Some, None, sym, ◌∙◌, ap, subst, IfSome, codes, append_assoc, append-nil}
use Rattle.std.specs.List.{concat, FoldsTo}
use Rattle.std.specs.Fmt.{WritesText, with_newline}

-- a text that takes what is written to it while it is sound
module _ {W : Type 0} (text : W → List ℕ) (IsSound : W → Type 0) where
  abbrev pub Takes : W → List ℕ → W → Type 0
  Takes s bs t = IsSound s → IsSound t × (text t ≡ text s ++ bs)

  -- several writes append what they wrote together
  after_calls : (s : W) (parts : List (List ℕ)) (t : W) → FoldsTo Takes s parts t → Takes s (concat parts) t
  after_calls s [] t same sound = (subst IsSound same sound, ap text (sym same) ∙ sym (append-nil (text s)))
  after_calls s (x ∷ parts) t calls sound =
      let first = calls.1 sound in
      let rest = after_calls calls.0 parts t calls.2 first.0 in
      (rest.0, rest.1 ∙ ap (λ l. l ++ concat parts) first.1 ∙ append_assoc (text s) x (concat parts))

  -- a text that was empty holds the line
  line_made : (output : Option (List ℕ)) (empty whole : W) → text empty ≡ [] → IsSound empty → WritesText Takes empty (with_newline output) whole → IfSome output (λ bs. text whole ≡ bs ++ codes "\n")
  line_made None empty whole none sound wrote = tt
  line_made (Some bs) empty whole none sound wrote =
      let taken = subst (λ l. Takes empty l whole) wrote.whole (after_calls empty wrote.parts whole wrote.calls) sound in
      taken.1 ∙ ap (λ z. z ++ (bs ++ codes "\n")) none

  -- what is said of that text is said of the line
  pub line_said : (P : List ℕ → Type 0) (output : Option (List ℕ)) (empty whole : W) (shown : List ℕ) → text empty ≡ [] → IsSound empty → WritesText Takes empty (with_newline output) whole → shown ≡ text whole
      → P shown → IfSome output (λ bs. P (bs ++ codes "\n"))
  line_said P output empty whole shown none sound wrote is said = said_of output (line_made output empty whole none sound wrote)
    where
      said_of : (output : Option (List ℕ)) → IfSome output (λ bs. text whole ≡ bs ++ codes "\n") → IfSome output (λ bs. P (bs ++ codes "\n"))
      said_of None made = tt
      said_of (Some bs) made = subst P (is ∙ made) said
