-- what is written so far, and the rest of the text
use Rattle.std.proofs.Common.{◌≡◌, ◌++◌, IsUtf8, chars, string_bytes}
use Rattle.std.specs.Str.Iter.{chars_rest}
use Rattle.sf_pictures.specs.Escaped.{escaped_chars, escaped_text}
use Rattle.sf_pictures.proofs.svg.escaping.escaped.Given as goal

abbrev pub invariant-loop-character : goal.invariant-loop-character
invariant-loop-character l = IsUtf8 (chars_rest l.character-iterator)
    × (string_bytes l.svg ++ escaped_chars (chars (chars_rest l.character-iterator)) ≡ string_bytes l.fn.svg ++ escaped_text l.fn.text)
