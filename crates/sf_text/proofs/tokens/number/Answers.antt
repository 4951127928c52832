-- a word that is a number parses to it
use Rattle.std.proofs.Common.{arith, ◌≡◌, ◌<◌, ◌^◌, Ok}
use Rattle.std.proofs.lemmas.Fmt.{parse-decimal}
use Rattle.sf_text.proofs.tokens.number.Goals as goal

pub returns-in_default : goal.returns-in_default
returns-in_default c = λ n is.
    let small : n < 2 ^ 32 = omega (arith, c.ranges.greatest.fits) in
    c.in_default.not-Ok n (parse-decimal 32 n _ _ small (omega arith) is.2 c.parse.ensures.value.0)

pub returns-else-n-gt0 : goal.returns-else-n-gt0
returns-else-n-gt0 c = λ n is.
    let small : n < 2 ^ 32 = omega (arith, c.ranges.greatest.fits) in
    let parsed : c.parse.result ≡ Ok n = parse-decimal 32 n _ _ small (omega arith) is.2 c.parse.ensures.value.0 in
    let same : c.in-Ok.n ≡ n = cc in
    let low = is.0 in
    let high = is.1 in
    let text = is.2 in
    grind arith
