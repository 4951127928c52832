-- a leader's list, through its own steps and those of others
use Rattle.std.proofs.Common.{◌≡◌, ◌≢◌, ℕ, suc, ◌<◌, List, [], ◌∷◌, ◌++◌, length, Option, Some, None, inl, inr, refl, sym, ◌∙◌, ap, subst, arith}
use Rattle.sf_history.specs.declared.call.CallId.{CallId}
use Rattle.sf_steps_laws.specs.declared.operation.Stage.{Stage}
use Rattle.sf_steps_laws.specs.declared.operation.Stage.TheVariants as stage
use Rattle.sf_steps_laws.specs.declared.turn.Turn.{Turn}
use Rattle.sf_steps_laws.specs.World.{World, first_world}
use Rattle.sf_steps_laws.specs.Turns.{run}
use Rattle.sf_steps_laws.specs.Schedules.{IsSchedule}
use Rattle.sf_steps_laws.specs.Waiting.{IsListed}
use Rattle.sf_steps_laws.proofs.Lined.{lists_stay}
use Rattle.sf_steps_laws.proofs.Named.{IsAlone, spared_others}
use Rattle.sf_steps_laws.proofs.RightAnswers.{run_append}
use Rattle.sf_group_rows.specs.declared.sizes.Sizes.{Sizes}
use Rattle.sf_group_steps.specs.declared.view.View.{View}
use Rattle.sf_group_steps.specs.View.{setting_of, world_of}
use Rattle.sf_group_steps.specs.Plays.{MadeWith}
use Rattle.sf_group_steps.specs.Settles.{call_of}
use Rattle.sf_group_steps.specs.Stands.{SitsWith}
use Rattle.sf_group_steps.proofs.Ways.{sits_has}

-- the caller is none of the members
abbrev pub IsOff : ℕ → List CallId → Type 0
IsOff a [] = Unit {0}
IsOff a (m ∷ l) = (m.caller ≢ a) × IsOff a l

-- the caller holds no ticket
abbrev pub NoTicket : {V : Type 0} → Stage V → Type 0
NoTicket {V} p = (k g : ℕ) (c : CallId) → (p ≢ stage.Holding k g c) × (p ≢ stage.Polling k g c)

module _ {V : Type 0} where
  -- who holds no ticket is on no list
  pub off_ticketless : (w : World V) (k a : ℕ) (c : CallId) (top : Option ℕ) (l : List CallId) → NoTicket (w.stages a) → IsListed w k c top l → IsOff a l
  off_ticketless w k a c None [] none is = tt
  off_ticketless w k a c None (m ∷ l) none is = absurd is
  off_ticketless w k a c (Some x) [] none is = absurd is
  off_ticketless w k a c (Some x) (m ∷ l) none is = (
    (λ e. elim is.1.0 [
      | inl holds ↦ (none k m.generation c).0 (ap w.stages (sym e) ∙ holds)
      | inr polls ↦ (none k m.generation c).1 (ap w.stages (sym e) ∙ polls)
    ]),
    off_ticketless w k a c (w.nexts m.caller) l none is.2,
  )

  same_length : (w : World V) (k : ℕ) (c : CallId) (top : Option ℕ) (l n : List CallId) → IsListed w k c top l → IsListed w k c top n → length l ≡ length n
  same_length w k c None [] [] p q = refl
  same_length w k c None [] (m ∷ n) p q = absurd q
  same_length w k c None (m ∷ l) n p q = absurd p
  same_length w k c (Some x) [] n p q = absurd p
  same_length w k c (Some x) (m ∷ l) [] p q = absurd q
  same_length w k c (Some x) (m ∷ l) (o ∷ n) p q = ap suc (same_length w k c (w.nexts m.caller) l n p.2 (subst (λ j. IsListed w k c (w.nexts j) n) (sym q.0 ∙ p.0) q.2))

  off_shorter : (w : World V) (k x : ℕ) (c : CallId) (top : Option ℕ) (l : List CallId) (n : ℕ) → IsListed w k c top l → length l < n → ((o : List CallId) → IsListed w k c (Some x) o → length o ≡ n) → IsOff x l
  off_shorter w k x c None [] n is short all = tt
  off_shorter w k x c None (m ∷ l) n is short all = absurd is
  off_shorter w k x c (Some y) [] n is short all = absurd is
  off_shorter w k x c (Some y) (m ∷ l) n is short all = (
    (λ e. let long = all (m ∷ l) (subst (λ j. IsListed w k c (Some j) (m ∷ l)) (is.0 ∙ e) is) in omega (arith, long, short)),
    off_shorter w k x c (w.nexts m.caller) l n is.2 (omega (arith, short)) all,
  )

  -- nobody is twice on a list
  pub off_head : (w : World V) (k x : ℕ) (c m : CallId) (l : List CallId) → IsListed w k c (Some x) (m ∷ l) → IsOff x l
  off_head w k x c m l is = off_shorter w k x c (w.nexts m.caller) l (length (m ∷ l)) is.2 (omega arith) (λ o listed. same_length w k c (Some x) o (m ∷ l) listed is)

  -- what happens to others leaves a list
  pub listed_off : (w u : World V) (k a x : ℕ) (c : CallId) (top : Option ℕ) (l : List CallId) → u.nexts ≡ w.nexts → ((b : ℕ) → b ≢ a → u.stages b ≡ w.stages b) → ((b : ℕ) → b ≢ x → u.calls b ≡ w.calls b) → IsOff a l → IsOff x l → IsListed w k c top l → IsListed u k c top l
  listed_off w u k a x c None [] nexts stages calls one two is = tt
  listed_off w u k a x c None (m ∷ l) nexts stages calls one two is = absurd is
  listed_off w u k a x c (Some y) [] nexts stages calls one two is = absurd is
  listed_off w u k a x c (Some y) (m ∷ l) nexts stages calls one two is = (
    is.0,
    (
      elim is.1.0 [
        | inl holds ↦ inl (stages m.caller one.0 ∙ holds)
        | inr polls ↦ inr (stages m.caller one.0 ∙ polls)
      ],
      calls m.caller two.0 ∙ is.1.1,
    ),
    subst (λ (o : Option ℕ). IsListed u k c o l) (ap (λ f. f m.caller) (sym nexts)) (listed_off w u k a x c (w.nexts m.caller) l nexts stages calls one.1 two.1 is.2),
  )

  -- from what the leader knew to what it knows after its step
  pub lists_by : (z : Sizes) (a k g : ℕ) (v w : View V) (p : Stage V) (had out : List ℕ) (ts : List (Turn V)) (top to : Option ℕ) (l rest : List CallId) → SitsWith z a v p had → IsAlone p → (m : MadeWith z v w ts out)
      → (IsListed (world_of z m.before) k (call_of a g) top l → IsListed (run (world_of z m.before) ts) k (call_of a g) to rest)
      → IsListed (world_of z v.known.turns) k (call_of a g) top l → IsListed (world_of z w.known.turns) k (call_of a g) to rest
  lists_by z a k g v w p had out ts top to l rest sits alone m step is =
      let between : List (Turn V) = m.comes.later.between in
      let front : IsSchedule (setting_of z) (v.known.turns ++ between) = subst (λ q. IsSchedule (setting_of z) q) m.comes.later.turns m.comes.schedule in
      let others = spared_others (setting_of z) v.known.turns between a front (m.comes.later.others a (sits_has z a v p sits)) (subst IsAlone (sym sits.stage) alone) in
      let before : IsListed (world_of z m.before) k (call_of a g) top l = subst (λ q. IsListed (world_of z q) k (call_of a g) top l) (sym m.comes.later.turns) (lists_stay (setting_of z) v.known.turns between front k (call_of a g) top l others is) in
      subst (λ q. IsListed (world_of z q) k (call_of a g) to rest) (sym (ap (λ (y : View V). y.known.turns) m.view))
      (subst (λ (u : World V). IsListed u k (call_of a g) to rest) (sym (run_append (first_world z.callers z.first) m.before ts)) (step before))
