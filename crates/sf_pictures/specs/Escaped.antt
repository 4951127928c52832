-- what the texts of strangers are in a picture
use Rattle.std.specs.Prelude.{ℕ, ◌+◌, Bool, List, if◌then◌else◌, ◌==◌, ◌&&◌, ◌||◌, nat_lt, nat_le, codes, chars, encode_utf8, length, ◌++◌}
use Rattle.std.specs.Fmt.{take_chars}
use Rattle.std.specs.List.{flat_map}

abbrev pub is_between : ℕ → ℕ → ℕ → Bool
is_between low high c = nat_le low c && nat_le c high

-- controls above 127, what turns the direction of a text, ends of lines, and numbers that are no characters
abbrev pub is_misleading : ℕ → Bool
is_misleading c =
    is_between 0x80 0x9f c || (c == 0x61c || (is_between 0x200e 0x200f c || (is_between 0x2028 0x202e c || (is_between 0x2066 0x2069 c || (c == 0xfeff || is_between 0xfffe 0xffff c)))))

-- what is drawn for a character: the symbol of a control, the replacement character of what misleads, and else itself
abbrev pub drawn_of : ℕ → ℕ
drawn_of c = if nat_lt c 0x20 then c + 0x2400 else if c == 0x7f then 0x2421 else if is_misleading c then 0xfffd else c

abbrev pub char_text : ℕ → List ℕ
char_text c = if c == 38 then codes "&amp;" else if c == 60 then codes "&lt;" else if c == 62 then codes "&gt;" else encode_utf8 (drawn_of c)

abbrev pub escaped_chars : List ℕ → List ℕ
escaped_chars cs = flat_map char_text cs

-- the bytes of a text in a picture
abbrev pub escaped_text : List ℕ → List ℕ
escaped_text bs = escaped_chars (chars bs)

-- a text, of which so many characters and the ellipsis are left where there are more
abbrev pub cut_text : ℕ → List ℕ → List ℕ
cut_text most bs = if nat_lt most (length (chars bs)) then take_chars most bs ++ encode_utf8 0x2026 else bs
