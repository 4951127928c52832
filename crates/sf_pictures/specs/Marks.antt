-- the text of each mark
use Rattle.std.specs.Prelude.{ℕ, List, ◌++◌, codes, decimal}
use Rattle.sf_pictures.specs.Escaped.{escaped_text}

abbrev pub opening_text : ℕ → ℕ → List ℕ
opening_text width height =
    codes "<svg xmlns=\"http://www.w3.org/2000/svg\" width=\"" ++ (decimal width ++ (codes "\" height=\"" ++ (decimal height
    ++ (codes "\" viewBox=\"0 0 " ++ (decimal width ++ (codes " " ++ (decimal height ++ codes "\">\n")))))))

abbrev pub paper_text : ℕ → ℕ → List ℕ
paper_text width height = codes "<rect class=\"paper\" width=\"" ++ (decimal width ++ (codes "\" height=\"" ++ (decimal height ++ codes "\"/>\n")))

-- what a picture begins with
abbrev pub head_text : ℕ → ℕ → List ℕ → List ℕ
head_text width height style = opening_text width height ++ (style ++ paper_text width height)

-- what stands before the characters of a text
abbrev pub before_text : List ℕ → ℕ → ℕ → List ℕ
before_text class x y = codes "<text class=\"" ++ (class ++ (codes "\" x=\"" ++ (decimal x ++ (codes "\" y=\"" ++ (decimal y ++ codes "\">")))))

abbrev pub text_text : List ℕ → ℕ → ℕ → List ℕ → List ℕ
text_text class x y says = before_text class x y ++ (escaped_text says ++ codes "</text>\n")

abbrev pub path_text : List ℕ → List ℕ → List ℕ
path_text class way = codes "<path class=\"" ++ (class ++ (codes "\" d=\"" ++ (way ++ codes "\"/>\n")))

abbrev pub rect_text : List ℕ → ℕ × ℕ → ℕ × ℕ → ℕ → List ℕ
rect_text class corner size round =
    codes "<rect class=\"" ++ (class ++ (codes "\" x=\"" ++ (decimal corner.0 ++ (codes "\" y=\"" ++ (decimal corner.1
    ++ (codes "\" width=\"" ++ (decimal size.0 ++ (codes "\" height=\"" ++ (decimal size.1 ++ (codes "\" rx=\"" ++ (decimal round ++ codes "\"/>\n")))))))))))
