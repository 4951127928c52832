-- Each step on the ages keeps their rule.
use Rattle.std.proofs.Common.{◌⊎◌, ◌≡◌, ◌≢◌, ℕ, zero, suc, ◌+◌, ◌==◌, ◌<◌, ◌≤◌, Bool, true, false, ◌&&◌, ◌||◌, eqb, List, ◌∷◌, [], get_or, set, length, sym, refl, ◌∙◌, subst, ap, arith, length-set, get_or-set_same, get_or-set_other, inl, inr, ⊎_elim}
use Rattle.std.proofs.lemmas.Bool.{true≢false, and_from, eq-eqb, eqb-true, or_left, or_right}
use Rattle.std.proofs.lemmas.List.Folds.{list_any-append}
use Rattle.std.specs.List.{list_any}
use mathlib.Core.Logic.{dite}
use mathlib.Core.Option.{none, some, some-injective, some-ne-none}
use native.Mathlib.Decide.{ℕ_discrete}
use prog.Atomic.{either}
use lib.ListN.{get_elem?}
use Rattle.atomic_table.specs.Table.{State, Me, Act, step, keeps, Valid, stepped, Allows, Enters, Joins, Splits, opening, carried_after}
use Rattle.atomic_table.proofs.Lists.{at_set, at_snoc, exchanged}
use Rattle.sf_keyed_ages.specs.declared.rule.Fact.{Fact}
use Rattle.sf_keyed_ages.specs.declared.rule.Known.{Known}
use Rattle.sf_keyed_ages.specs.Rule.{Has, HoldsAges, nothing, with_fact, with_facts, sits, sees, ends}

-- facts, one by one
or_parts : (x y : Bool) → (x || y) ≡ true → (x ≡ true) ⊎ (y ≡ true)
or_parts true y e = inl refl
or_parts false y e = inr e

and_parts : (x y : Bool) → (x && y) ≡ true → (x ≡ true) × (y ≡ true)
and_parts true y e = (refl, e)
and_parts false y e = absurd (true≢false (sym e))

pub has_first : (v : Known) (slot age : ℕ) → Has (with_fact v slot age).facts slot age
has_first v slot age = or_left (eqb slot slot && eqb age age) _ (and_from (eqb slot slot) (eqb age age) (eq-eqb slot slot refl) (eq-eqb age age refl))

pub has_more : (v : Known) (slot age i n : ℕ) → Has v.facts i n → Has (with_fact v slot age).facts i n
has_more v slot age i n has = or_right (eqb slot i && eqb age n) (list_any (λ f. eqb f.slot i && eqb f.age n) v.facts) has

pub has_either : (v : Known) (slot age i n : ℕ) → Has (with_fact v slot age).facts i n → ((slot ≡ i) × (age ≡ n)) ⊎ Has v.facts i n
has_either v slot age i n has = ⊎_elim
    (λ (here : (eqb slot i && eqb age n) ≡ true). let p = and_parts (eqb slot i) (eqb age n) here in inl (eqb-true slot i p.0, eqb-true age n p.1))
    inr
    (or_parts (eqb slot i && eqb age n) (list_any (λ f. eqb f.slot i && eqb f.age n) v.facts) has)

pub has_old : (v w : Known) (i n : ℕ) → Has v.facts i n → Has (with_facts v w).facts i n
has_old v w i n has =
    let f : Fact → Bool = λ f. eqb f.slot i && eqb f.age n in
    list_any-append f w.facts v.facts ∙ or_right (list_any f w.facts) (list_any f v.facts) has

pub has_new : (v w : Known) (i n : ℕ) → Has w.facts i n → Has (with_facts v w).facts i n
has_new v w i n has =
    let f : Fact → Bool = λ f. eqb f.slot i && eqb f.age n in
    list_any-append f w.facts v.facts ∙ or_left (list_any f w.facts) (list_any f v.facts) has

has_one : (v w : Known) (i n : ℕ) → Has (with_facts v w).facts i n → Has w.facts i n ⊎ Has v.facts i n
has_one v w i n has =
    let f : Fact → Bool = λ f. eqb f.slot i && eqb f.age n in
    or_parts (list_any f w.facts) (list_any f v.facts) (sym (list_any-append f w.facts v.facts) ∙ has)

-- a word that becomes no less
raised : (ws : List ℕ) (i n j : ℕ) → i < length ws → get_or ws i 0 ≤ n → get_or ws j 0 ≤ get_or (set ws i n) j 0
raised ws i n j within more = dite (ℕ_discrete j i)
    (λ same. let now : get_or (set ws i n) j 0 ≡ n = ap (λ k. get_or (set ws i n) k 0) same ∙ get_or-set_same ws i n 0 within in
    let was : get_or ws j 0 ≡ get_or ws i 0 = ap (λ k. get_or ws k 0) same in omega (arith, now, was, more))
    (λ apart. let now = get_or-set_other ws i j n 0 apart in omega (arith, now))

-- what a seat knows is so
abbrev pub IsSo : List ℕ → Known → Type 0
IsSo ws v = (slot age : ℕ) → Has v.facts slot age → age ≤ get_or ws slot 0

none_so : (ws : List ℕ) → IsSo ws nothing
none_so ws slot age has = absurd (true≢false (sym has))

at_opening : (ws : List ℕ) (id : ℕ) (v : Known) → get_elem? (nothing ∷ []) id ≡ some v → IsSo ws v
at_opening ws zero v e = subst (IsSo ws) (some-injective nothing v e) (none_so ws)
at_opening ws (suc id) v e = absurd (some-ne-none v (sym e))

pub opens : (slots : ℕ) (ws : List ℕ) → length ws ≡ slots → HoldsAges slots (opening ws [] nothing)
opens slots ws size = record { size = size; grown = at_opening ws }

-- a fact more
so_more : (ws : List ℕ) (v : Known) (i n : ℕ) → IsSo ws v → n ≤ get_or ws i 0 → IsSo ws (with_fact v i n)
so_more ws v i n so here slot age has = ⊎_elim
    (λ (p : (i ≡ slot) × (n ≡ age)). subst (λ k. age ≤ get_or ws k 0) p.0 (subst (λ k. k ≤ get_or ws i 0) p.1 here))
    (λ (more : Has v.facts slot age). so slot age more)
    (has_either v i n slot age has)

module _ (slots : ℕ) where
  -- one word becomes no less, and one seat knows something that is so
  pub grows : (s : State (Unit {0}) Known) (i n id : ℕ) (w : Known) → HoldsAges slots s → i < slots → get_or s.words i 0 ≤ n → IsSo (set s.words i n) w
      → HoldsAges slots (record { words = set s.words i n; homes = s.homes; views = set s.views id w })
  grows s i n id w b within more so = record {
    size = length-set s.words i n ∙ b.size;
    grown = λ k u e. ⊎_elim
        (λ (t : (k ≡ id) × (w ≡ u)). subst (IsSo (set s.words i n)) t.1 so)
        (λ (t : (k ≢ id) × (get_elem? s.views k ≡ some u)) slot age has.
        let was = b.grown k u t.1 slot age has in
        let up = raised s.words i n slot (omega (arith, b.size)) more in omega (arith, was, up))
        (at_set s.views id k w u e);
  }

  pub sits_at : (z i : ℕ) → Enters (HoldsAges slots) z i (λ n w. sits (step z i 0 0 none) (nothing, []) n (w, []))
  sits_at z i s b wide small = (
    nothing,
    record {
      size = b.size;
      grown = λ k u e. ⊎_elim
          (λ (t : get_elem? s.views k ≡ some u). b.grown k u t)
          (λ (t : nothing ≡ u). subst (IsSo s.words) t (none_so s.words))
          (at_snoc s.views nothing u k e);
    },
    refl,
  )

  pub sees_at : (z id i : ℕ) (me : Me (Unit {0}) Known) → i < slots → Allows (HoldsAges slots) z id me i (λ n. n) (sees (step z i 0 0 none) me)
  sees_at z id i me within s b wide at small =
      let word : ℕ = get_or s.words i 0 in
      let w : Known = with_fact me.0 i word in
      let here : get_or (set s.words i word) i 0 ≡ word = get_or-set_same s.words i word 0 (omega (arith, b.size)) in
      let so : IsSo (set s.words i word) me.0 = λ slot age has.
      let was = b.grown id me.0 at slot age has in
      let up = raised s.words i word slot (omega (arith, b.size)) (omega arith) in omega (arith, was, up) in
      (w, keeps, tt, grows s i word id w b within (omega arith) (so_more (set s.words i word) me.0 i word so (omega (arith, here))), (refl, b.grown id me.0 at i))

  pub ends_at : (z id i old new : ℕ) (me : Me (Unit {0}) Known) → i < slots → Has me.0.facts i old → new ≡ old + 1
      → Allows (HoldsAges slots) z id me i (λ n. either (n == old) new n) (ends (step z i old new none) me)
  ends_at z id i old new me within has next s b wide at small =
      let word : ℕ = get_or s.words i 0 in
      let w : Known = with_fact me.0 i new in
      let was : old ≤ word = b.grown id me.0 at i old has in
      let F : ℕ → Type 0 = λ x. (u : Known) × (a : Act (Unit {0})) × Valid s.homes me.1 a × HoldsAges slots (stepped s i x id me.1 u a) × ends (step z i old new none) me word (u, carried_after me.1 a) in
      let there : (n : ℕ) → get_or (set s.words i n) i 0 ≡ n = λ n. get_or-set_same s.words i n 0 (omega (arith, b.size)) in
      let so : (n : ℕ) → word ≤ n → IsSo (set s.words i n) me.0 = λ n more slot age known.
      let before = b.grown id me.0 at slot age known in
      let up = raised s.words i n slot (omega (arith, b.size)) more in omega (arith, before, up) in
      exchanged word old new F
      (λ hit. let t = there new in
      let up : word ≤ new = omega (arith, hit, next) in
      (w, keeps, tt, grows s i new id w b within up (so_more (set s.words i new) me.0 i new (so new up) (omega (arith, t))), (refl, λ miss. absurd (miss hit))))
      (λ miss. let t = there word in
      let up : new ≤ word = grind (arith, was, next, miss) in
      (w, keeps, tt, grows s i word id w b within (omega arith) (so_more (set s.words i word) me.0 i new (so word (omega arith)) (omega (arith, t, up))), (refl, λ _. up)))

  pub shares_at : (id : ℕ) (v : Known) → Splits (HoldsAges slots) id v v v
  shares_at id v s b at = record {
    size = b.size;
    grown = λ k u e. ⊎_elim
        (λ (t : get_elem? (set s.views id v) k ≡ some u). ⊎_elim
        (λ (h : (k ≡ id) × (v ≡ u)). subst (IsSo s.words) h.1 (b.grown id v at))
        (λ (h : (k ≢ id) × (get_elem? s.views k ≡ some u)). b.grown k u h.1)
        (at_set s.views id k v u t))
        (λ (t : v ≡ u). subst (IsSo s.words) t (b.grown id v at))
        (at_snoc (set s.views id v) v u k e);
  }

  pub learns_at : (id : ℕ) (v : Known) (other : ℕ) (w : Known) → Joins (HoldsAges slots) id v other w (with_facts v w) nothing
  learns_at id v other w s b at apart there =
      let both : Known = with_facts v w in
      let theirs : IsSo s.words w = ⊎_elim
      (λ (h : (other ≡ id) × (both ≡ w)). absurd (apart h.0))
      (λ (h : (other ≢ id) × (get_elem? s.views other ≡ some w)). b.grown other w h.1)
      (at_set s.views id other both w there) in
      let so : IsSo s.words both = λ slot age has. ⊎_elim (theirs slot age) (b.grown id v at slot age) (has_one v w slot age has) in
      record {
        size = b.size;
        grown = λ k u e. ⊎_elim
            (λ (h : (k ≡ other) × (nothing ≡ u)). subst (IsSo s.words) h.1 (none_so s.words))
            (λ (h : (k ≢ other) × (get_elem? (set s.views id both) k ≡ some u)). ⊎_elim
            (λ (g : (k ≡ id) × (both ≡ u)). subst (IsSo s.words) g.1 so)
            (λ (g : (k ≢ id) × (get_elem? s.views k ≡ some u)). b.grown k u g.1)
            (at_set s.views id k both u h.1))
            (at_set (set s.views id both) other k nothing u e);
      }
