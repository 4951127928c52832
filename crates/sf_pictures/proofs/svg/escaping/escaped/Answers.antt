-- each character adds its text
use Rattle.std.proofs.Common.{◌∙◌, ◌++◌, chars, string_bytes, sym, ap, append-nil}
use Rattle.std.proofs.lemmas.List.{nil_from_length}
use Rattle.std.proofs.lemmas.Str.{chars-nil, IsUtf8-past_char}
use Rattle.sf_pictures.specs.Escaped.{escaped_chars}
use Rattle.sf_pictures.proofs.Escapes.{escaped_past}
use Rattle.sf_pictures.proofs.svg.escaping.escaped.Goals as goal

pub loop-character-preserved : goal.loop-character-preserved
loop-character-preserved c =
    let step = c.in-Some.ensures.steps.0 in
    let l = c.loop-character in (
      IsUtf8-past_char _ _ _ l.invariant.0 step,
      escaped_past _ _ _ _ _ _ l.invariant.0 step l.invariant.1 c.in_ok-push_drawn.ensures,
    )

pub returns : goal.returns
returns c =
    let none = ap chars (nil_from_length _ c.in-None.ensures.steps.0.0) ∙ chars-nil in
    sym (append-nil _) ∙ ap (λ l. string_bytes c.loop-character.svg ++ l) (sym (ap escaped_chars none)) ∙ c.loop-character.invariant.1
