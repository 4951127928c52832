-- callers that are dealt out, one after the other
use Rattle.std.proofs.Common.{◌≡◌, ℕ, suc, ◌+◌, ◌-◌, ◌≤◌, List, [], ◌∷◌, ◌++◌, refl, sym, ap, ◌∙◌, subst, Option, Some, arith}
use Rattle.std.specs.List.{range_with_len}
use Rattle.std.proofs.lemmas.List.{map-append, map-id}
use Rattle.std.proofs.lemmas.List.FromFn.{map-range_with_len_more}
use Rattle.atomic_table.specs.Seated.{TableId}
use Rattle.sf_steps_laws.specs.declared.operation.Stage.TheVariants as stage
use Rattle.sf_group_rows.specs.declared.sizes.Sizes.{Sizes}
use Rattle.sf_group_steps.specs.declared.view.Claim.{Claim}
use Rattle.sf_group_steps.specs.declared.view.View.{View}
use Rattle.sf_group_rows.specs.Tokens.{CallerValue}
use Rattle.sf_group_steps.specs.View.{claim, rest_of, first_of_all, first_view, without_first, first_alone, sizes_of}
use Rattle.sf_group_steps.specs.Stands.{Sits, next_in}
use Rattle.sf_group.specs.Dealing.{IsDealing}
use Rattle.sf_group_rows.specs.Making.{new_caller, numbers_of}
use Rattle.sf_group.specs.Known.{caller_of}

-- the numbers that are left begin with the next
range_first : (n m : ℕ) → n ≤ m → range_with_len n (m + 1 - n) ≡ n ∷ range_with_len (n + 1) (m + 1 - (n + 1))
range_first n m le =
    let left : m + 1 - n ≡ suc (m + 1 - (n + 1)) = omega arith in
    ap (range_with_len n) left

range_more : (a n j : ℕ) → a + n ≡ j → range_with_len a (n + 1) ≡ range_with_len a n ++ j ∷ []
range_more a n j e = sym (map-id (range_with_len a (n + 1))) ∙ (map-range_with_len_more (λ (x : ℕ). x) a n j e ∙ ap (λ xs. xs ++ j ∷ []) (map-id (range_with_len a n)))

module _ {V : Type 0} where
  dealt_callers : (n : ℕ) (z : Sizes) (v : View V) → n ≤ z.callers → IsDealing n z v → v.known.callers ≡ n ∷ range_with_len (n + 1) (z.callers + 1 - (n + 1))
  dealt_callers n z v le d = d.callers ∙ range_first n z.callers le

  pub deals_first : (z : Sizes) → IsDealing 1 z (first_view {V = V} z)
  deals_first z = let all : z.callers ≡ z.callers + 1 - 1 = omega arith in record { sizes = refl; callers = ap (range_with_len 1) all; turns = refl; told = refl; cells = refl }

  pub deals_rest : (n : ℕ) (z : Sizes) (v : View V) → n ≤ z.callers → IsDealing n z v → IsDealing (n + 1) z (without_first v)
  deals_rest n z v le d = record { sizes = d.sizes; callers = ap rest_of (dealt_callers n z v le d); turns = d.turns; told = d.told; cells = refl }

  -- the view of one who knows nothing
  abbrev pub alone : ℕ → Sizes → View V
  alone a s = record { sizes = Some s; known = claim (a ∷ []) []; told = []; cells = [] }

  whole : (n : ℕ) (z : Sizes) (v : View V) → n ≤ z.callers → IsDealing n z v → first_alone v ≡ alone n z
  whole n z v le d = ap (λ c. with_known c) known ∙ ap of_sizes d.sizes
    where
      with_known : Claim V → View V
      with_known c = record { sizes = v.sizes; known = c; told = []; cells = [] }

      of_sizes : Option Sizes → View V
      of_sizes o = record { sizes = o; known = claim (n ∷ []) []; told = []; cells = [] }

      known : claim (first_of_all v.known.callers) v.known.turns ≡ claim (n ∷ []) []
      known = ap (λ q. claim (first_of_all q) v.known.turns) (dealt_callers n z v le d) ∙ ap (λ q. claim (n ∷ []) q) d.turns

  pub deals_one : (n given : ℕ) (z : Sizes) (v : View V) → 1 ≤ n → n ≤ z.callers → given ≡ z.first → IsDealing n z v → Sits (sizes_of (first_alone v)) n (first_alone v) stage.Free × (given ≡ next_in (sizes_of (first_alone v)) (first_alone v) n)
  deals_one n given z v low le first d = subst (λ (u : View V). Sits (sizes_of u) n u stage.Free × (given ≡ next_in (sizes_of u) u n)) (sym (whole n z v le d))
      (record { sizes = refl; callers = refl; told = refl; caller = (low, le); schedule = tt; stage = refl; cells = refl }, first)

  pub deals_value : (t : TableId) (n : ℕ) (z : Sizes) (v : View V) → n ≤ z.callers → IsDealing n z v → caller_of t (first_alone v) n ≡ new_caller (record { table = t; sizes = z }) n
  deals_value t n z v le d = ap (λ (u : View V). caller_of t u n) (whole n z v le d)

  -- the numbers, with one more caller
  pub numbers_more : (callers : List (CallerValue V)) (c : CallerValue V) (n : ℕ) → numbers_of callers ≡ range_with_len 1 n → c.number ≡ n + 1 → numbers_of (callers ++ c ∷ []) ≡ range_with_len 1 (n + 1)
  numbers_more callers c n so is = map-append (λ (d : CallerValue V). d.number) callers (c ∷ []) ∙ (ap (λ xs. xs ++ c.number ∷ []) so ∙ (ap (λ k. range_with_len 1 n ++ k ∷ []) is ∙ sym (range_more 1 n (n + 1) (omega arith))))
