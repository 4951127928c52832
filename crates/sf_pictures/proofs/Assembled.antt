-- texts that are written one after another
use Rattle.std.proofs.Common.{◌≡◌, ◌∙◌, ℕ, List, [], ◌++◌, ap}
use Rattle.std.proofs.lemmas.List.{append_assoc}

pub assembled : (head title marks end none one two three all : List ℕ)
    → none ≡ [] → one ≡ none ++ head → two ≡ one ++ title → three ≡ two ++ marks → all ≡ three ++ end
    → all ≡ head ++ (title ++ (marks ++ end))
assembled head title marks end none one two three all empty first second third last =
    last ∙ ap (λ (l : List ℕ). l ++ end) (third ∙ ap (λ (l : List ℕ). l ++ marks) (second ∙ ap (λ (l : List ℕ). l ++ title) (first ∙ ap (λ (l : List ℕ). l ++ head) empty)))
    ∙ append_assoc (head ++ title) marks end ∙ append_assoc head title (marks ++ end)
