-- refusals, passed on
use Rattle.std.proofs.Common.{◌≡◌, ◌≢◌, ℕ, List, ◌++◌, Result, Ok, Err, sym, ◌∙◌, ap}
use Rattle.sf_sequential.specs.declared.refusal.ModelRefusal.{ModelRefusal}
use Rattle.sf_sequential.specs.declared.refusal.ModelRefusal.TheVariants.{Memory}
use Rattle.sf_sequential.specs.Sequential.{IsRefusal, replied}
use Rattle.sf_model.specs.ScriptText.{Script, after_line}

-- a call's refusal is its command's
pub replied_refusal : {A B S : Type 0} (f : A → B) (r : Result (A × S) ModelRefusal) (e : ModelRefusal) → IsRefusal r e → IsRefusal (replied f r) e
replied_refusal f (Ok r) e is = is
replied_refusal f (Err r) e is = is

-- a refusal that is not for want of memory is the one that is due
pub refusal_is : {R : Type 0} (r : Result R ModelRefusal) (e : ModelRefusal) → IsRefusal r e → e ≢ Memory → r ≡ Err e
refusal_is (Ok r) e is other = absurd (other is)
refusal_is (Err f) e is other = cc

-- the line of a refused command is refused alike
pub refused_line : {A B S : Type 0} (f : A → B) (r : Result (A × S) ModelRefusal) (e : ModelRefusal) → IsRefusal r e → e ≢ Memory → replied f r ≡ Err e
refused_line f (Ok r) e is other = absurd (other is)
refused_line f (Err r) e is other = ap Err (sym is)

-- the line of an obeyed command comes after the lines before it
pub obeyed_line : {A : Type 0} (lines more : List ℕ) (f : A → List ℕ) (r : Result (A × Script) ModelRefusal) (x : A) (g : Script) → r ≡ Ok (x, g) → more ≡ lines ++ f x
    → after_line lines (replied f r) ≡ Ok (more, g)
obeyed_line {A} lines more f r x g is grown =
    let told : Result (A × Script) ModelRefusal → Result (List ℕ × Script) ModelRefusal = λ z. after_line lines (replied f z) in
    let shown : List ℕ → Result (List ℕ × Script) ModelRefusal = λ z. Ok (z, g) in
    ap told is ∙ ap shown (sym grown)
