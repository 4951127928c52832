-- the text that is left, by one character more
use Rattle.std.proofs.Common.{◌≡◌, ◌∙◌, ℕ, List, [], ◌∷◌, ◌++◌, IsUtf8, chars, encode_utf8, sym, ap}
use Rattle.std.proofs.lemmas.List.{append_assoc}
use Rattle.std.proofs.lemmas.Str.{chars_past_char}
use Rattle.sf_pictures.specs.Escaped.{char_text, escaped_chars}

pub escaped_past : (done more whole rest left : List ℕ) (c : ℕ) → IsUtf8 rest → rest ≡ encode_utf8 c ++ left
    → done ++ escaped_chars (chars rest) ≡ whole → more ≡ done ++ char_text c → more ++ escaped_chars (chars left) ≡ whole
escaped_past done more whole rest left c text is before adds =
    ap (λ w. w ++ escaped_chars (chars left)) adds ∙ append_assoc done (char_text c) (escaped_chars (chars left))
    ∙ ap (λ cs. done ++ escaped_chars cs) (sym (chars_past_char rest left c text is)) ∙ before
