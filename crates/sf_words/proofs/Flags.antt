-- A flag of a word as a bit.
use Rattle.std.specs.Prelude.{◌≡◌, ◌≤◌, Bool, true, false, ◌==◌, if◌then◌else◌, refl}
use Rattle.std.proofs.Common.{arith}

pub flag_bit : (b : Bool) → (if b then 1 else 0) ≤ 1
flag_bit true = omega arith
flag_bit false = omega arith

pub flag_of-bit : (b : Bool) → ((if b then 1 else 0) == 1) ≡ b
flag_of-bit true = refl
flag_of-bit false = refl
