-- the picture of events that have no order
use Rattle.std.specs.Prelude.{◌≡◌, ℕ, List, ◌++◌, codes}
use Rattle.sf_pictures.specs.Marks.{head_text, text_text}

-- the text is a picture of some size, with the verdict in its first line
abbrev pub IsPictureOf : List ℕ → List ℕ → Type 0
IsPictureOf verdict text = (width : ℕ) × (height : ℕ) × (style : List ℕ) × (marks : List ℕ)
    × (text ≡ head_text width height style ++ (text_text (codes "title") 16 24 verdict ++ (marks ++ codes "</svg>\n")))
