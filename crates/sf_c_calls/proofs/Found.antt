-- What was seen goes on, whatever a call on a chain did.
use Rattle.std.proofs.Common.{◌≡◌, ◌≢◌, ◌⊎◌, ℕ, ◌+◌, ◌-◌, ◌*◌, ◌%◌, ◌<◌, ◌≤◌, Bool, true, false, cond, eqb, eq-eqb, List, [], ◌∷◌, length, get_or, Option, Some, None, refl, sym, ◌∙◌, ap, subst, ⊎_elim, arith}
use Rattle.std.proofs.lemmas.Bool.{ne_eqb}
use Rattle.std.proofs.lemmas.Option.{slice_get-get_or}
use Rattle.std.specs.Bool.{OnTrue, OnFalse}
use Rattle.std.specs.List.{slice_get}
use mathlib.Core.Logic.{dite}
use native.Mathlib.Decide.{ℕ_discrete}
use Rattle.sf_keyed.specs.declared.group.Claim.{Claim}
use Rattle.sf_keyed.specs.declared.group.Claim.TheVariants as claim
use Rattle.sf_keyed.specs.declared.group.Refusal.{Refusal}
use Rattle.sf_keyed.specs.declared.group.Refusal.TheVariants.{NoCell}
use Rattle.sf_keyed_chain.specs.Chains.{Sight, AllGoOn, IsOf}
use Rattle.sf_keyed_chain.specs.Went.{HasClaimed, IsRefusedAt}
use Rattle.sf_keyed.specs.Calls.{IsClaimed, Stays, WhyRefused}
use Rattle.sf_keyed_chain.proofs.Sights.{all_same, heard_on, seen_called, some_is, within_on}
use Rattle.sf_c_calls.specs.Rows.{HasSearched, HasSpare, Refuses}

pub same_on : (xs : List Sight) → AllGoOn xs xs
same_on xs = heard_on xs xs (all_same xs)

pub claim_on : (cell : ℕ) (xs ys : List Sight) (r : Claim) → HasClaimed cell xs ys r → AllGoOn xs ys
claim_on cell xs ys r c = seen_called (λ b a. IsClaimed b a cell r) c.0 xs ys c.2

pub refused_on : (k tries : ℕ) (why : Refusal) (at : ℕ) (xs ys : List Sight) → IsRefusedAt k tries why at xs ys → AllGoOn xs ys
refused_on k tries why at xs ys r = seen_called (λ b a. Stays b a × WhyRefused b a tries why) at xs ys r.refused

-- an asking that began later, and a search after it
pub refused_then : (k tries cell : ℕ) (why : Refusal) (ws xs ys zs : List Sight) → AllGoOn ws xs → (at : ℕ) × IsRefusedAt k tries why at xs ys → AllGoOn ys zs → (why ≡ NoCell → HasSearched 64 cell ys zs) → Refuses k tries why ws zs
refused_then k tries cell why ws xs ys zs on is more searched = record { before = xs; after = ys; on = on; at = is.0; refused = is.1; then = more; searched = λ none. (cell, searched none) }

pub on_true : (b : Bool) (P Q : Type 0) → OnTrue b P → (P → Q) → OnTrue b Q
on_true true P Q is more = more is
on_true false P Q is more = tt

pub on_false : (b : Bool) (P Q : Type 0) → OnFalse b P → (P → Q) → OnFalse b Q
on_false true P Q is more = tt
on_false false P Q is more = more is

pub true_is : (b : Bool) (P : Type 0) → b ≡ true → OnTrue b P → P
true_is b P on is = subst (λ d. OnTrue d P) on is

pub false_is : (b : Bool) (P : Type 0) → b ≡ false → OnFalse b P → P
false_is b P off is = subst (λ d. OnFalse d P) off is

-- a search goes on by a cell that could not be had
pub searched_none : (cell : ℕ) (xs : List Sight) → HasSearched 0 cell xs xs
searched_none cell xs = record { after = λ i. xs; begins = refl; ends = refl; none = λ i below. absurd (omega (arith, below)) }

pub searched_more : (n cell : ℕ) (xs ys zs : List Sight) (r : Claim) → HasSearched n cell xs ys → r ≢ claim.Ready → HasClaimed ((cell + n) % 18446744073709551616) ys zs r → HasSearched (n + 1) cell xs zs
searched_more n cell xs ys zs r s isnt claimed =
    let after : ℕ → List Sight = λ i. cond (eqb i (n + 1)) zs (s.after i) in
    let last : after (n + 1) ≡ zs = ap (λ b. cond b zs (s.after (n + 1))) (eq-eqb (n + 1) (n + 1) refl) in
    let was : (i : ℕ) → i ≢ n + 1 → after i ≡ s.after i = λ i apart. ap (λ b. cond b zs (s.after i)) (ne_eqb i (n + 1) apart) in
    record {
      after = after;
      begins = was 0 (λ same. omega (arith, same)) ∙ s.begins;
      ends = last;
      none = λ i below. dite (ℕ_discrete i n)
          (λ same.
          let here : after i ≡ ys = was i (λ more. omega (arith, more, same)) ∙ (ap s.after same ∙ s.ends) in
          let there : after (i + 1) ≡ zs = ap (λ j. after (j + 1)) same ∙ last in
          let number : (cell + i) % 18446744073709551616 ≡ (cell + n) % 18446744073709551616 = ap (λ j. (cell + j) % 18446744073709551616) same in
          (r, isnt, subst (λ l. HasClaimed ((cell + i) % 18446744073709551616) (after i) l r) (sym there) (subst (λ l. HasClaimed ((cell + i) % 18446744073709551616) l zs r) (sym here) (subst (λ c. HasClaimed c ys zs r) (sym number) claimed))))
          (λ apart.
          let old = s.none i (omega (arith, below, apart)) in
          let here : after i ≡ s.after i = was i (λ more. omega (arith, more, below)) in
          let there : after (i + 1) ≡ s.after (i + 1) = was (i + 1) (λ more. omega (arith, more, apart)) in
          (old.0, old.1, subst (λ l. HasClaimed ((cell + i) % 18446744073709551616) (after i) l old.0) (sym there) (subst (λ l. HasClaimed ((cell + i) % 18446744073709551616) l (s.after (i + 1)) old.0) (sym here) old.2)));
    }

-- where a cell was claimed, the caller has one to spare
pub ready_spare : (cell : ℕ) (xs ys : List Sight) → HasClaimed cell xs ys claim.Ready → HasSpare ys
ready_spare cell xs ys c = record { at = c.0; last = c.1; sight = c.2.after; here = c.2.at_after; spare = c.2.is.0 }

-- 1 where it has none in the last table, and 0 where it has one
abbrev lacks_in : Option Sight → ℕ
lacks_in None = 1
lacks_in (Some s) = cond (eqb s.front.spare 0) 1 0

abbrev pub lacks : List Sight → ℕ
lacks xs = lacks_in (slice_get xs (length xs - 1))

lacks_most : (xs : List Sight) → lacks xs ≤ 1
lacks_most xs = most (slice_get xs (length xs - 1))
  where
    bit : (b : Bool) → cond {A = ℕ} b 1 0 ≤ 1
    bit true = omega arith
    bit false = omega arith

    most : (o : Option Sight) → lacks_in o ≤ 1
    most None = omega arith
    most (Some s) = bit (eqb s.front.spare 0)

spare_lacks : (xs : List Sight) → HasSpare xs → lacks xs ≡ 0
spare_lacks xs s =
    let last = s.last in
    let at : length xs - 1 ≡ s.at = omega (arith, last) in
    ap lacks_in (ap (slice_get xs) at ∙ s.here) ∙ ap (λ b. cond {A = ℕ} b 1 0) (ne_eqb s.sight.front.spare 0 s.spare)

refused_lacks : (k tries at : ℕ) (xs ys : List Sight) → IsRefusedAt k tries NoCell at xs ys → length ys ≡ length xs → lacks xs ≡ 1
refused_lacks k tries at xs ys r same =
    let last : at + 1 ≡ length ys = r.last in
    let within : at < length xs = omega (arith, last, same) in
    let here : length xs - 1 ≡ at = omega (arith, last, same) in
    let before = r.refused.before in
    let s : Sight = get_or xs at before in
    let is : slice_get xs at ≡ Some s = slice_get-get_or xs at before within in
    let h = r.refused.heard at s is in
    let met : h.0 ≡ before = some_is h.0 before (sym h.1 ∙ r.refused.at_before) in
    let none : s.front.spare ≡ 0 = sym h.2.spare ∙ (ap (λ (u : Sight). u.front.spare) met ∙ r.refused.is.1) in
    ap lacks_in (ap (slice_get xs) here ∙ is) ∙ ap (λ b. cond {A = ℕ} b 1 0) (eq-eqb s.front.spare 0 none)

lengths_on : (xs ys : List Sight) → AllGoOn xs ys → length xs ≤ length ys
lengths_on [] ys on = omega arith
lengths_on (x ∷ xs) ys on = let below = within_on (length xs) (x ∷ xs) ys on (omega arith) in omega (arith, below)

-- An asking that goes on has a cell then, or knows more tables: so it ends
pub fewer : (cells : List ℕ) (k tries : ℕ) (why : Refusal) (at : ℕ) (xs ys zs : List Sight) → IsRefusedAt k tries why at xs ys → AllGoOn ys zs → IsOf cells zs → ((why ≡ NoCell) × HasSpare zs) ⊎ (length ys < length zs)
    → 2 * (length cells - length zs) + lacks zs < 2 * (length cells - length xs) + lacks xs
fewer cells k tries why at xs ys zs r more of room =
    let first = lengths_on xs ys (refused_on k tries why at xs ys r) in
    let second = lengths_on ys zs more in
    let few = of.few in
    ⊎_elim
    (λ (p : (why ≡ NoCell) × HasSpare zs).
    let none = spare_lacks zs p.1 in
    dite (ℕ_discrete (length ys) (length xs))
    (λ same. let one = refused_lacks k tries at xs ys (subst (λ w. IsRefusedAt k tries w at xs ys) p.0 r) same in omega (arith, first, second, few, none, one))
    (λ apart. omega (arith, first, second, few, none, apart)))
    (λ (p : length ys < length zs). let most = lacks_most zs in omega (arith, first, few, most, p))
    room

pub longer : (xs ys zs : List Sight) → AllGoOn xs ys → length zs ≡ length ys + 1 → length xs < length zs
longer xs ys zs on one = let le = lengths_on xs ys on in omega (arith, le, one)
