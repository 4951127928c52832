-- a leader's exchange to close its call fails once for each member that enters it, and once for its Forget
use Rattle.std.proofs.Common.{◌≡◌, ℕ, ◌+◌, ◌<◌, ◌≤◌, Bool, true, false, ◌==◌, ◌&&◌, not, ◌⊎◌, List, [], ◌∷◌, ◌++◌, length, inl, inr, Option, Some, refl, sym, ◌∙◌, ap, subst, append_assoc, arith}
use Rattle.std.proofs.lemmas.List.{append-nil, length-append}
use Rattle.std.proofs.lemmas.List.Sums.{sum_by-append}
use Rattle.std.proofs.lemmas.Bool.{ne_eqb, cases_eq}
use Rattle.std.specs.Prelude.{cond}
use Rattle.std.specs.Prelude.{sum_by}
use Rattle.sf_history.specs.declared.call.CallId.{CallId}
use Rattle.sf_history.specs.declared.event.Event.{Event}
use Rattle.sf_history.specs.declared.event.Event.TheVariants.{Lead, Enter, Forget, ForgetCall, Settle, Handed}
use Rattle.sf_history.specs.Calls.{same_call}
use Rattle.sf_history.specs.History.{uses, next_generation}
use Rattle.sf_words.specs.declared.call_word.LeaderState.{LeaderState}
use Rattle.sf_words.specs.declared.call_word.CallState.{CallState}
use Rattle.sf_words.specs.declared.call_word.CallState.TheVariants as word
use Rattle.sf_steps_laws.specs.declared.operation.Stage.{Stage}
use Rattle.sf_steps_laws.specs.declared.operation.Stage.TheVariants.{Free, Leading, Holding, Polling, Seconding, Asking, Settling, Forgetting, Naming, Questioning}
use Rattle.sf_steps_laws.specs.declared.operation.SettleStep.TheVariants as settle
use Rattle.sf_steps_laws.specs.declared.turn.Turn.{Turn}
use Rattle.sf_steps_laws.specs.declared.turn.Turn.TheVariants as turn
use Rattle.sf_steps_laws.specs.World.{World, first_world, is_open_with}
use Rattle.sf_steps_laws.specs.Askings.{with_top}
use Rattle.sf_steps_laws.specs.Turns.{left, turned}
use Rattle.sf_steps_laws.specs.Events.{turn_events}
use Rattle.sf_steps_laws.specs.Schedules.{Setting, IsTurn, IsScheduleFrom}
use Rattle.sf_steps_laws.specs.Left.{HoldsTicket, IsLeft}
use Rattle.sf_steps_laws.specs.Closes.{fails_at, fails, failed_closes}
use Rattle.sf_steps_laws.specs.Laws.{ClosesFailSeldom}
use Rattle.sf_steps_laws.proofs.Histories.{led_on_named}
use Rattle.sf_history.proofs.Members.{joins, members, members_push}
use Rattle.sf_steps_laws.proofs.Members.{Chain}
use Rattle.sf_steps_laws.proofs.Sound.{call_of, top_in, unsettled, Leads, Sound}
use Rattle.sf_steps_laws.proofs.Leaders.{unsettled_good}
use Rattle.sf_steps_laws.proofs.AllTurns.{turn_sound}
use Rattle.sf_steps_laws.proofs.Flags.{turn_fair}
use Rattle.sf_steps_laws.proofs.Callers.{members_few, Fair, fair_begins}
use Rattle.sf_steps_laws.proofs.Others.{turn_left}
use Rattle.sf_steps_laws.proofs.OwnLeads.{chain_tops, forgets, forgets_most, one_at_most, IsBy, own_turn}
use Rattle.sf_steps_laws.proofs.OthersRest.{others_turn}

module _ {V : Type 0} where
  -- members only grow
  joins_more : (c : CallId) (l x : List CallId) (e : Event ℕ V) → (y : List CallId) × (x ++ joins c l e ≡ y ++ l)
  joins_more c l x (Lead by key call own) = (x, refl)
  joins_more c l x (Enter by key call member) = at (same_call call c)
    where
      at : (b : Bool) → (y : List CallId) × (x ++ cond b (member ∷ l) l ≡ y ++ l)
      at true = (x ++ member ∷ [], sym (append_assoc x (member ∷ []) l))
      at false = (x, refl)
  joins_more c l x (Forget by key closed) = (x, refl)
  joins_more c l x (ForgetCall by key call hit) = (x, refl)
  joins_more c l x (Settle by call result joiners) = (x, refl)
  joins_more c l x (Handed by call) = (x, refl)

  members_more : (c : CallId) (es h : List (Event ℕ V)) → (x : List CallId) × (members (h ++ es) c ≡ x ++ members h c)
  members_more c [] h = ([], ap (λ (q : List (Event ℕ V)). members q c) (append-nil h))
  members_more c (e ∷ es) h =
      let rest = members_more c es (h ++ e ∷ []) in
      let one = joins_more c (members h c) rest.0 e in
      (one.0, ap (λ (q : List (Event ℕ V)). members q c) (sym (append_assoc h (e ∷ []) es)) ∙ (rest.1 ∙ (ap (λ (l : List CallId). rest.0 ++ l) (members_push h e c) ∙ one.1)))

  fails_most : (g : ℕ) (u : CallState) (p : Stage V) → fails_at g u p ≤ 1
  fails_most g u (Settling k i own v (settle.Close seen)) = one_at_most ((i == g) && not (is_open_with seen u))
  fails_most g u _ = omega arith

  -- who may fail leads an unsettled call of the generation
  fails_leading : (g : ℕ) (u : CallState) (p : Stage V) → (fails_at g u p ≡ 0) ⊎ ((k : ℕ) × (unsettled p ≡ Some (k, g)))
  fails_leading g u (Settling k i own v (settle.Close seen)) = elim (cases_eq i g) [
    | inl is ↦ inr (k, ap (λ (n : ℕ). Some (k, n)) is)
    | inr other ↦ inl (ap (λ (b : Bool). cond {A = ℕ} (b && not (is_open_with seen u)) 1 0) (ne_eqb i g other))
  ]
  fails_leading g u _ = inl refl

  pub record Bounded (z : Setting) (a g n : ℕ) (h : List (Event ℕ V)) (w : World V) : Type 0 where
    pub few : n ≤ z.callers
    pub fresh : w.generations a ≤ g → n ≡ 0
    pub spare : (k : ℕ) → unsettled (w.stages a) ≡ Some (k, g) → n + fails_at g (w.calls a) (w.stages a) ≤ length (members h (call_of a g)) + forgets (w.calls a)

  -- a turn that fails is the leader's, before its settle
  fails_turn : (w : World V) (a g : ℕ) (t : Turn V) → (fails w a g t ≡ 0) ⊎ ((k : ℕ) × (unsettled (w.stages a) ≡ Some (k, g)) × (fails w a g t ≤ fails_at g (w.calls a) (w.stages a)))
  fails_turn w a g (turn.Start b o) = inl refl
  fails_turn w a g (turn.Leave b) = inl refl
  fails_turn w a g (turn.Step b) = at (b == a) (fails_leading g (w.calls a) (w.stages a))
    where
      at : (t : Bool) → (fails_at g (w.calls a) (w.stages a) ≡ 0) ⊎ ((k : ℕ) × (unsettled (w.stages a) ≡ Some (k, g)))
          → (cond {A = ℕ} t (fails_at g (w.calls a) (w.stages a)) 0 ≡ 0) ⊎ ((k : ℕ) × (unsettled (w.stages a) ≡ Some (k, g)) × (cond {A = ℕ} t (fails_at g (w.calls a) (w.stages a)) 0 ≤ fails_at g (w.calls a) (w.stages a)))
      at false either = inl refl
      at true (inl none) = inl none
      at true (inr leads) = inr (leads.0, leads.1, omega arith)

  -- generations only grow
  generations_more : (z : Setting) (h : List (Event ℕ V)) (w : World V) (t : Turn V) (a : ℕ) → Sound z.first h w → Sound z.first (h ++ turn_events w t) (turned w t) → w.generations a ≤ (turned w t).generations a
  generations_more z h w t a sound after =
      let was : w.generations a ≡ next_generation z.first h a = sound.past.counted a in
      let now : (turned w t).generations a ≡ next_generation z.first (h ++ turn_events w t) a = after.past.counted a in
      let sums : sum_by (uses a) (h ++ turn_events w t) ≡ sum_by (uses a) h + sum_by (uses a) (turn_events w t) = sum_by-append (uses a) h (turn_events w t) in
      omega arith

  -- a caller that leads has used the generation
  leads_below : (z : Setting) (h : List (Event ℕ V)) (w : World V) (a k g : ℕ) → Sound z.first h w → unsettled (w.stages a) ≡ Some (k, g) → g < w.generations a
  leads_below z h w a k g sound leads =
      let good = unsettled_good h w a (w.stages a) k g leads (sound.callers a).good in
      sound.past.numbered (call_of a g) (led_on_named h k (call_of a g) good.1.led)

  holds_nothing : (p : Stage V) (x : ℕ × ℕ) → HoldsTicket p → unsettled p ≡ Some x → ⊥
  holds_nothing Free x holds is = holds
  holds_nothing (Leading k g own) x holds is = holds
  holds_nothing (Holding k g c) x holds is = cc
  holds_nothing (Polling k g c) x holds is = cc
  holds_nothing (Seconding first) x holds is = holds
  holds_nothing (Asking k s step) x holds is = holds
  holds_nothing (Settling k g own v step) x holds is = holds
  holds_nothing (Forgetting k target step) x holds is = holds
  holds_nothing (Naming k) x holds is = holds
  holds_nothing (Questioning k c step) x holds is = holds

  -- another's turn: the word of a leader changes by a new member or by a Forget alone
  spare_left : (h h' : List (Event ℕ V)) (w w' : World V) (a k g n : ℕ) (own own' : Option CallId) (x : List CallId) → Leads h w a k g own → Leads h' w' a k g own' → IsLeft w w' a → unsettled (w.stages a) ≡ Some (k, g)
      → members h' (call_of a g) ≡ x ++ members h (call_of a g) → n + fails_at g (w.calls a) (w.stages a) ≤ length (members h (call_of a g)) + forgets (w.calls a)
      → n + fails_at g (w'.calls a) (w'.stages a) ≤ length (members h' (call_of a g)) + forgets (w'.calls a)
  spare_left h h' w w' a k g n own own' x before after left leads more spare = elim left.word [
    | inl same ↦
        let stays : fails_at g (w'.calls a) (w'.stages a) ≡ fails_at g (w.calls a) (w.stages a) = ap (λ (p : Stage V). fails_at g (w'.calls a) p) left.stage ∙ ap (λ (u : CallState). fails_at g u (w.stages a)) same.0 in
        let forgot_same : forgets (w'.calls a) ≡ forgets (w.calls a) = ap forgets same.0 in
        omega (arith, longer, stays, forgot_same)
    | inr changed ↦ elim changed [
      | inl entered ↦ joined x refl (entered.seen) entered.joiner entered.was entered.is
      | inr more_changed ↦ elim more_changed [
        | inl gone ↦
            let was : forgets (w.calls a) ≡ 0 = ap forgets gone.was in
            let now : forgets (w'.calls a) ≡ 1 = ap forgets gone.is in
            let most : fails_at g (w'.calls a) (w'.stages a) ≤ 1 = fails_most g (w'.calls a) (w'.stages a) in
            omega (arith, longer, was, now, most)
        | inr filled ↦ absurd (holds_nothing (w.stages a) (k, g) filled.holds leads)
      ]
    ]
  ]
    where
      longer : length (members h' (call_of a g)) ≡ length x + length (members h (call_of a g))
      longer = ap (λ (l : List CallId). length l) more ∙ length-append x (members h (call_of a g))

      joined : (y : List CallId) → x ≡ y → (seen : LeaderState) (j : ℕ) → w.calls a ≡ word.Open seen → w'.calls a ≡ word.Open (with_top seen j) → n + fails_at g (w'.calls a) (w'.stages a) ≤ length (members h' (call_of a g)) + forgets (w'.calls a)
      joined [] none seen j was is =
          let same : members h' (call_of a g) ≡ members h (call_of a g) = more ∙ ap (λ (l : List CallId). l ++ members h (call_of a g)) none in
          let chain : Chain w.nexts seen.top (members h (call_of a g)) = subst (λ (u : CallState). Chain w.nexts (top_in u) (members h (call_of a g))) was before.chain in
          let chain_now : Chain w'.nexts (Some j) (members h (call_of a g)) = subst (λ (l : List CallId). Chain w'.nexts (Some j) l) same (subst (λ (u : CallState). Chain w'.nexts (top_in u) (members h' (call_of a g))) is after.chain) in
          let tops : Some j ≡ seen.top = chain_tops w'.nexts w.nexts (members h (call_of a g)) (Some j) seen.top chain_now chain in
          let words : w'.calls a ≡ w.calls a = is ∙ (ap (λ (t : Option ℕ). word.Open (record { generation = seen.generation; own = seen.own; top = t })) tops ∙ sym was) in
          let stays : fails_at g (w'.calls a) (w'.stages a) ≡ fails_at g (w.calls a) (w.stages a) = ap (λ (p : Stage V). fails_at g (w'.calls a) p) left.stage ∙ ap (λ (u : CallState). fails_at g u (w.stages a)) words in
          let forgot_same : forgets (w'.calls a) ≡ forgets (w.calls a) = ap forgets words in
          omega (arith, longer, stays, forgot_same)
      joined (m ∷ y) some seen j was is =
          let one : length x ≡ length y + 1 = ap (λ (l : List CallId). length l) some ∙ omega arith in
          let not_forgot : forgets (w.calls a) ≡ 0 = ap forgets was in
          let most : fails_at g (w'.calls a) (w'.stages a) ≤ 1 = fails_most g (w'.calls a) (w'.stages a) in
          omega (arith, longer, one, not_forgot, most)

  bounded_turn : (z : Setting) (h : List (Event ℕ V)) (w : World V) (a g n : ℕ) (t : Turn V) → Fair z h w → IsTurn z h w t → Bounded z a g n h w → Bounded z a g (n + fails w a g t) (h ++ turn_events w t) (turned w t)
  bounded_turn z h w a g n t fair allowed bound = record {
    few = elim (fails_turn w a g t) [
      | inl none ↦ let was : n ≤ z.callers = bound.few in omega (arith, none)
      | inr failed ↦
          let spare : n + fails_at g (w.calls a) (w.stages a) ≤ length (members h (call_of a g)) + forgets (w.calls a) = bound.spare failed.0 failed.1 in
          let room : length (members h (call_of a g)) + 1 ≤ z.callers = members_few z h w a failed.0 g sound fair.are failed.1 in
          let most : forgets (w.calls a) ≤ 1 = forgets_most (w.calls a) in
          let less : fails w a g t ≤ fails_at g (w.calls a) (w.stages a) = failed.2 in
          omega (arith, spare, room, most, less)
    ];
    fresh = λ low.
        let older : w.generations a ≤ (turned w t).generations a = generations_more z h w t a sound after in
        let zero : n ≡ 0 = bound.fresh (omega (arith, older, low)) in
        elim (fails_turn w a g t) [
          | inl none ↦ omega (arith, zero, none)
          | inr failed ↦ let below : g < w.generations a = leads_below z h w a failed.0 g sound failed.1 in absurd (omega (arith, below, older, low))
        ];
    spare = λ k leads. by_or_not k leads (is_by a t);
  }
    where
      h' : List (Event ℕ V)
      h' = h ++ turn_events w t

      w' : World V
      w' = turned w t

      after : Sound z.first h' w'
      after = turn_sound z h w t fair allowed

      sound : Sound z.first h w
      sound = fair.sound

      is_by : (a : ℕ) (t : Turn V) → IsBy a t ⊎ ((IsBy a t → ⊥) × ((g : ℕ) → fails w a g t ≡ 0))
      is_by a (turn.Start b o) = elim (cases_eq b a) [
        | inl is ↦ inl is
        | inr other ↦ inr (other, λ g. refl)
      ]
      is_by a (turn.Step b) = elim (cases_eq b a) [
        | inl is ↦ inl is
        | inr other ↦ inr (other, λ g. ap (λ (x : Bool). cond {A = ℕ} x (fails_at g (w.calls a) (w.stages a)) 0) (ne_eqb b a other))
      ]
      is_by a (turn.Leave b) = elim (cases_eq b a) [
        | inl is ↦ inl is
        | inr other ↦ inr (other, λ g. refl)
      ]

      more : (x : List CallId) × (members h' (call_of a g) ≡ x ++ members h (call_of a g))
      more = members_more (call_of a g) (turn_events w t) h

      longer : length (members h' (call_of a g)) ≡ length more.0 + length (members h (call_of a g))
      longer = ap (λ (l : List CallId). length l) more.1 ∙ length-append more.0 (members h (call_of a g))

      by_or_not : (k : ℕ) → unsettled (w'.stages a) ≡ Some (k, g) → IsBy a t ⊎ ((IsBy a t → ⊥) × ((g : ℕ) → fails w a g t ≡ 0)) → (n + fails w a g t) + fails_at g (w'.calls a) (w'.stages a) ≤ length (members h' (call_of a g)) + forgets (w'.calls a)
      by_or_not k leads (inl by) = elim (own_turn w a k g t by leads) [
        | inl new ↦
            let zero : n ≡ 0 = bound.fresh (let same : w.generations a ≡ g = new.0 in omega (arith, same)) in
            let none : fails_at g (w'.calls a) (w'.stages a) ≡ 0 = new.1 in
            elim (fails_turn w a g t) [
              | inl no_fail ↦ omega (arith, zero, none, no_fail)
              | inr failed ↦ let below : g < w.generations a = leads_below z h w a failed.0 g sound failed.1 in let same : w.generations a ≡ g = new.0 in absurd (omega (arith, below, same))
            ]
        | inr old ↦
            let spare : n + fails_at g (w.calls a) (w.stages a) ≤ length (members h (call_of a g)) + forgets (w.calls a) = bound.spare k old.0 in
            let words : forgets (w'.calls a) ≡ forgets (w.calls a) = ap forgets old.1 in
            let less : fails w a g t + fails_at g (w'.calls a) (w'.stages a) ≤ fails_at g (w.calls a) (w.stages a) = old.2 in
            omega (arith, spare, words, less, longer)
      ]
      by_or_not k leads (inr apart) =
          let left : IsLeft w w' a = turn_left z.first h w t a sound (others_turn z h w a t (k, g) allowed apart.0 leads) in
          let led : unsettled (w.stages a) ≡ Some (k, g) = sym (ap unsettled left.stage) ∙ leads in
          let good = unsettled_good h w a (w.stages a) k g led (sound.callers a).good in
          let good' = unsettled_good h' w' a (w'.stages a) k g leads (after.callers a).good in
          let none : fails w a g t ≡ 0 = apart.1 g in
          let kept : n + fails_at g (w'.calls a) (w'.stages a) ≤ length (members h' (call_of a g)) + forgets (w'.calls a) =
          spare_left h h' w w' a k g n good.0 good'.0 more.0 good.1 good'.1 left led more.1 (bound.spare k led) in
          omega (arith, none, kept)

  bounded_run : (z : Setting) (a g : ℕ) (ts : List (Turn V)) (n : ℕ) (h : List (Event ℕ V)) (w : World V) → Fair z h w → IsScheduleFrom z h w ts → Bounded z a g n h w → n + failed_closes w a g ts ≤ z.callers
  bounded_run z a g [] n h w fair is bound = let most : n ≤ z.callers = bound.few in omega arith
  bounded_run z a g (t ∷ ts) n h w fair is bound =
      let rest : (n + fails w a g t) + failed_closes (turned w t) a g ts ≤ z.callers =
      bounded_run z a g ts (n + fails w a g t) (h ++ turn_events w t) (turned w t) (turn_fair z h w t fair is.0) is.1 (bounded_turn z h w a g n t fair is.0 bound) in
      omega arith

  pub closes_fail_seldom : ClosesFailSeldom V
  closes_fail_seldom z s a g is =
      let all : 0 + failed_closes (first_world z.callers z.first) a g s ≤ z.callers = bounded_run z a g s 0 [] (first_world z.callers z.first) (fair_begins z) is (record {
        few = omega arith;
        fresh = λ low. refl;
        spare = λ k leads. cc;
      }) in
      omega (arith, all)
