-- what the history says of itself and of the next generations, kept by each event that is added
use Rattle.std.proofs.Common.{◌≡◌, ℕ, ◌+◌, ◌<◌, true, false, ◌==◌, List, [], ◌∷◌, ◌++◌, inl, inr, Option, Some, None, refl, sym, ◌∙◌, ap, subst, arith, eq-eqb}
use Rattle.std.proofs.lemmas.Bool.{or_cases, ne_eqb, cases_Bool, true≢false}
use Rattle.std.specs.Prelude.{nat_eq, cond}
use Rattle.std.specs.List.{list_any}
use Rattle.sf_history.specs.declared.call.CallId.{CallId}
use Rattle.sf_history.specs.declared.event.Event.{Event}
use Rattle.sf_history.specs.declared.event.Event.TheVariants.{Lead, Enter, Forget, ForgetCall, Settle, Handed}
use Rattle.sf_history.specs.Calls.{same_call}
use Rattle.sf_history.specs.History.{names, is_settled, is_handed, uses, next_generation}
use Rattle.sf_history.specs.Legal.{MayFollow, IsLegal}
use Rattle.sf_lists.proofs.Lists.{list_any_push_cases}
use Rattle.sf_history.proofs.LegalHistories.{same_call_is, next_push, legal_nil, legal_push, open_named, settled_named, handed_settled}
use Rattle.sf_lists.specs.Functions.{put}
use Rattle.sf_steps_laws.proofs.Histories.{opened}
use Rattle.sf_lists.proofs.Functions.{put_here, put_cases}

-- one more generation of a caller is used
abbrev one_more : (ℕ → ℕ) → ℕ → ℕ → ℕ
one_more g a = put g a (g a + 1)

used_one : (g : ℕ → ℕ) (a b : ℕ) → one_more g a b ≡ g b + cond {A = ℕ} (a == b) 1 0
used_one g a b = put_cases (λ (n : ℕ). n ≡ g b + cond {A = ℕ} (a == b) 1 0) g a (g a + 1) b
    (λ here.
    let one : cond {A = ℕ} (a == b) 1 0 ≡ 1 = ap (λ t. cond {A = ℕ} t 1 0) (eq-eqb a b (sym here)) in
    let same : g b ≡ g a = ap g here in
    omega arith)
    (λ other.
    let none : cond {A = ℕ} (a == b) 1 0 ≡ 0 = ap (λ t. cond {A = ℕ} t 1 0) (ne_eqb a b (λ s. other (sym s))) in
    omega arith)

-- a call of a generation below is below, as it was
below_one : (g : ℕ → ℕ) (a : ℕ) → g a < one_more g a a
below_one g a = let here : one_more g a a ≡ g a + 1 = put_here g a (g a + 1) in omega arith

kept_below : (g : ℕ → ℕ) (a b n : ℕ) → n < g b → n < one_more g a b
kept_below g a b n below = let more : one_more g a b ≡ g b + cond {A = ℕ} (a == b) 1 0 = used_one g a b in omega arith

-- the generations after a Lead, with an own channel of this caller or without one
abbrev pub lead_generations : (ℕ → ℕ) → ℕ → Option ℕ → ℕ → ℕ
lead_generations g a None = put g a (g a + 1)
lead_generations g a (Some b) = put (put g b (g b + 1)) a (put g b (g b + 1) a + 1)

abbrev pub own_in : (ℕ → ℕ) → Option ℕ → Option CallId
own_in g None = None
own_in g (Some b) = Some (record { caller = b; generation = g b })

module _ {V : Type 0} where
  pub record Past (first : ℕ) (h : List (Event ℕ V)) (generations : ℕ → ℕ) : Type 0 where
    pub legal : IsLegal nat_eq h
    pub counted : (a : ℕ) → generations a ≡ next_generation first h a
    pub numbered : (c : CallId) → list_any (names c) h ≡ true → c.generation < generations c.caller

  pub past_begins : (first : ℕ) → Past first [] (λ _. first)
  past_begins first = record { legal = legal_nil nat_eq; counted = λ a. omega arith; numbered = λ c is. cc }

  -- an event that may follow, which uses these generations
  past_more : (first : ℕ) (h : List (Event ℕ V)) (g n : ℕ → ℕ) (e : Event ℕ V) → Past first h g → MayFollow nat_eq h e → ((a : ℕ) → n a ≡ g a + uses a e)
      → ((c : CallId) → names c e ≡ true → c.generation < n c.caller) → Past first (h ++ e ∷ []) n
  past_more first h g n e p follows used named = record {
    legal = legal_push nat_eq h e p.legal follows;
    counted = λ a.
        let was : g a ≡ next_generation first h a = p.counted a in
        let more : next_generation first (h ++ e ∷ []) a ≡ next_generation first h a + uses a e = next_push first h e a in
        let now : n a ≡ g a + uses a e = used a in
        omega arith;
    numbered = λ c is. elim (list_any_push_cases (names c) h e is) [
      | inl was ↦
          let below : c.generation < g c.caller = p.numbered c was in
          let now : n c.caller ≡ g c.caller + uses c.caller e = used c.caller in
          omega arith
      | inr last ↦ named c last
    ];
  }

  -- a Forget, a Settle, a Handed
  abbrev pub NamesNothing : Event ℕ V → Type 0
  NamesNothing (Lead by key call own) = ⊥
  NamesNothing (Enter by key call member) = ⊥
  NamesNothing (Forget by key closed) = Unit {0}
  NamesNothing (ForgetCall by key call hit) = Unit {0}
  NamesNothing (Settle by call result joiners) = Unit {0}
  NamesNothing (Handed by call) = Unit {0}

  names_none : (e : Event ℕ V) → NamesNothing e → (c : CallId) → names c e ≡ false
  names_none (Lead by key call own) none c = absurd none
  names_none (Enter by key call member) none c = absurd none
  names_none (Forget by key closed) none c = refl
  names_none (ForgetCall by key call hit) none c = refl
  names_none (Settle by call result joiners) none c = refl
  names_none (Handed by call) none c = refl

  uses_none : (e : Event ℕ V) → NamesNothing e → (a : ℕ) → uses a e ≡ 0
  uses_none (Lead by key call own) none a = absurd none
  uses_none (Enter by key call member) none a = absurd none
  uses_none (Forget by key closed) none a = refl
  uses_none (ForgetCall by key call hit) none a = refl
  uses_none (Settle by call result joiners) none a = refl
  uses_none (Handed by call) none a = refl

  pub past_note : (first : ℕ) (h : List (Event ℕ V)) (g : ℕ → ℕ) (e : Event ℕ V) → Past first h g → MayFollow nat_eq h e → NamesNothing e → Past first (h ++ e ∷ []) g
  past_note first h g e p follows none =
      past_more first h g g e p follows (λ a. let zero : uses a e ≡ 0 = uses_none e none a in omega arith) (λ c named. absurd (true≢false (sym named ∙ names_none e none c)))

  -- a call of the caller's next generation is new
  pub next_is_new : (first : ℕ) (h : List (Event ℕ V)) (g : ℕ → ℕ) (a : ℕ) → Past first h g → list_any (names (record { caller = a; generation = g a })) h ≡ false
  next_is_new first h g a p =
      let c : CallId = record { caller = a; generation = g a } in
      elim (cases_Bool (list_any (names c) h)) [
        | inl is ↦ let below : g a < g a = p.numbered c is in absurd (omega arith)
        | inr isnt ↦ isnt
      ]

  pub new_unsettled : (first : ℕ) (h : List (Event ℕ V)) (g : ℕ → ℕ) (a : ℕ) → Past first h g → is_settled h (record { caller = a; generation = g a }) ≡ false
  new_unsettled first h g a p =
      let c : CallId = record { caller = a; generation = g a } in
      elim (cases_Bool (is_settled h c)) [
        | inl is ↦ absurd (true≢false (sym (settled_named nat_eq h c p.legal is) ∙ next_is_new first h g a p))
        | inr isnt ↦ isnt
      ]

  -- a call that is not settled is not handed out
  pub unsettled_unhanded : (first : ℕ) (h : List (Event ℕ V)) (g : ℕ → ℕ) (c : CallId) → Past first h g → is_settled h c ≡ false → is_handed h c ≡ false
  unsettled_unhanded first h g c p isnt =
      elim (cases_Bool (is_handed h c)) [
        | inl is ↦ absurd (true≢false (sym (handed_settled nat_eq h c p.legal is) ∙ isnt))
        | inr not_handed ↦ not_handed
      ]

  pub past_lead : (first : ℕ) (h : List (Event ℕ V)) (g : ℕ → ℕ) (a k : ℕ) (s : Option ℕ) → Past first h g → MayFollow nat_eq h (Lead a k (record { caller = a; generation = g a }) (own_in g s))
      → Past first (h ++ Lead a k (record { caller = a; generation = g a }) (own_in g s) ∷ []) (lead_generations g a s)
  past_lead first h g a k None p follows = past_more first h g (put g a (g a + 1)) (Lead a k c None) p follows
      (λ b. let used : one_more g a b ≡ g b + cond {A = ℕ} (a == b) 1 0 = used_one g a b in omega arith)
      (λ d named. elim (or_cases (same_call c d) false named) [
        | inl same ↦ subst (λ (z : CallId). z.generation < one_more g a z.caller) (same_call_is c d same) (below_one g a)
        | inr none ↦ cc
      ])
    where
      c : CallId
      c = record { caller = a; generation = g a }
  past_lead first h g a k (Some b) p follows = past_more first h g (one_more (one_more g b) a) (Lead a k c (Some m)) p follows
      (λ x.
      let first_used : one_more g b x ≡ g x + cond {A = ℕ} (b == x) 1 0 = used_one g b x in
      let then_used : one_more (one_more g b) a x ≡ one_more g b x + cond {A = ℕ} (a == x) 1 0 = used_one (one_more g b) a x in
      omega arith)
      (λ d named. elim (or_cases (same_call c d) (same_call m d) named) [
        | inl same ↦ subst (λ (z : CallId). z.generation < one_more (one_more g b) a z.caller) (same_call_is c d same)
            (let here : one_more (one_more g b) a a ≡ one_more g b a + 1 = put_here (one_more g b) a (one_more g b a + 1) in
            let used : one_more g b a ≡ g a + cond {A = ℕ} (b == a) 1 0 = used_one g b a in
            omega arith)
        | inr same ↦ subst (λ (z : CallId). z.generation < one_more (one_more g b) a z.caller) (same_call_is m d same) (kept_below (one_more g b) a b (g b) (below_one g b))
      ])
    where
      c : CallId
      c = record { caller = a; generation = g a }

      m : CallId
      m = record { caller = b; generation = g b }

  pub past_enter : (first : ℕ) (h : List (Event ℕ V)) (g : ℕ → ℕ) (j k : ℕ) (c : CallId) → Past first h g → opened h k ≡ Some c
      → Past first (h ++ Enter j k c (record { caller = j; generation = g j }) ∷ []) (put g j (g j + 1))
  past_enter first h g j k c p is = past_more first h g (one_more g j) (Enter j k c m) p (refl, next_is_new first h g j p, is)
      (λ b. used_one g j b)
      (λ d named. elim (or_cases (same_call c d) (same_call m d) named) [
        | inl same ↦ subst (λ (z : CallId). z.generation < one_more g j z.caller) (same_call_is c d same) (kept_below g j c.caller c.generation (p.numbered c (open_named nat_eq h k c is)))
        | inr same ↦ subst (λ (z : CallId). z.generation < one_more g j z.caller) (same_call_is m d same) (below_one g j)
      ])
    where
      m : CallId
      m = record { caller = j; generation = g j }
