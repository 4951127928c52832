-- a seat of two callers, seen as a seat of one of them
use Rattle.std.proofs.Common.{◌≡◌, ℕ, ◌+◌, List, [], ◌++◌, inl, inr, ⊎_elim, refl, sym, ap, ◌∙◌, subst, append_assoc}
use Rattle.std.specs.Prelude.{◌==◌}
use Rattle.std.proofs.lemmas.List.{append-nil}
use Rattle.std.proofs.lemmas.List.Elements.{filter-append}
use Rattle.sf_history.specs.declared.event.Event.{Event}
use Rattle.sf_history.specs.History.{maker, own_events}
use Rattle.sf_steps_laws.specs.declared.operation.Stage.{Stage}
use Rattle.sf_steps_laws.specs.declared.operation.Stage.TheVariants as stage
use Rattle.sf_steps_laws.specs.declared.turn.Turn.{Turn}
use Rattle.sf_steps_laws.specs.World.{World, first_world}
use Rattle.sf_steps_laws.specs.Turns.{run}
use Rattle.sf_steps_laws.specs.Events.{adds}
use Rattle.sf_steps_laws.specs.Schedules.{IsSchedule}
use Rattle.sf_steps_laws.specs.Left.{AreOthers}
use Rattle.sf_steps_laws.specs.Named.{Spares}
use Rattle.sf_steps_laws.proofs.Named.{IsAlone, spared_others, spared_are_left, others_none, makers_are_callers}
use Rattle.sf_steps_laws.proofs.LeftAlone.{own_turns_decide}
use Rattle.sf_steps_laws.proofs.RightAnswers.{run_append, adds_append, schedule_parts, always, always_fair, schedules_are_legal}
use Rattle.sf_group_rows.specs.declared.sizes.Sizes.{Sizes}
use Rattle.sf_group_rows.specs.Seen.{Adds}
use Rattle.sf_group_steps.specs.declared.view.View.{View}
use Rattle.sf_group_steps.specs.View.{Has, setting_of, callers_of, all_of, world_of, history_of}
use Rattle.sf_group_steps.specs.Plays.{Comes, Made}
use Rattle.sf_group_steps.specs.Stands.{Sits, next_in, Goes}
use Rattle.sf_group_steps.proofs.Keeps.{has_left}
use Rattle.sf_group_steps.proofs.Ways.{Ran, all_alone}
use Rattle.sf_group_chans.specs.declared.askers.Askers.{Askers}
use Rattle.sf_group_chans.specs.Both.{alone, SitBoth}

module _ {V : Type 0} where
  -- the caller serves at most this first
  abbrev pub Serves : Stage V → ℕ → Type 0
  Serves q a = (d : ℕ) → q ≡ stage.Seconding d → a ≡ d

  abbrev pub comes_alone : (z : Sizes) (a : ℕ) (v : View V) (s : List (Turn V)) → Has v.known.callers a → Comes z v s → Comes z (alone a v) s
  comes_alone z a v s has c = record {
    schedule = c.schedule;
    lawful = c.lawful;
    numbered = λ b g. ⊎_elim (λ (e : a ≡ b). c.numbered b (subst (λ i. Has (all_of v) i) e (has_left v.known.callers (callers_of v.told) a has))) (λ (f : ⊥). absurd f) g;
    later = record { between = c.later.between; turns = c.later.turns; others = λ b g. ⊎_elim (λ (e : a ≡ b). subst (λ i. Spares c.later.between i) e (c.later.others a has)) (λ (f : ⊥). absurd f) g };
    apart = ((λ g. g), tt);
    heard = tt;
  }

  abbrev pub made_alone : (z : Sizes) (a : ℕ) (v w : View V) (ts : List (Turn V)) → Has v.known.callers a → Made z v w ts → Made z (alone a v) (alone a w) ts
  made_alone z a v w ts has m = record { before = m.before; comes = comes_alone z a v m.before has m.comes; whole = m.whole; view = ap (λ (y : View V). alone a y) m.view }

  -- where two callers of one seat stand, others' turns do not concern them
  pub has_first : (c : Askers) (v : View V) (p q : Stage V) → SitBoth c v p q → Has v.known.callers c.number
  has_first c v p q sit = subst (λ l. Has l c.number) (sym sit.callers) (inl refl)

  pub has_second : (c : Askers) (v : View V) (p q : Stage V) → SitBoth c v p q → Has v.known.callers c.second
  has_second c v p q sit = subst (λ l. Has l c.second) (sym sit.callers) (inr (inl refl))

  pub first_others : (c : Askers) (v : View V) (p q : Stage V) (s : List (Turn V)) → SitBoth c v p q → IsAlone p → (m : Comes c.sizes v s) → AreOthers (world_of c.sizes v.known.turns) m.later.between c.number
  first_others c v p q s sit free m =
      let whole : IsSchedule (setting_of c.sizes) (v.known.turns ++ m.later.between) = subst (λ l. IsSchedule (setting_of c.sizes) l) m.later.turns m.schedule in
      spared_others (setting_of c.sizes) v.known.turns m.later.between c.number whole (m.later.others c.number (has_first c v p q sit)) (subst IsAlone (sym sit.first.stage) free)

  pub second_others : (c : Askers) (v : View V) (p q : Stage V) (s : List (Turn V)) → SitBoth c v p q → Serves q c.number → (m : Comes c.sizes v s) → AreOthers (world_of c.sizes v.known.turns) m.later.between c.second
  second_others c v p q s sit serves m =
      let whole : IsSchedule (setting_of c.sizes) (v.known.turns ++ m.later.between) = subst (λ l. IsSchedule (setting_of c.sizes) l) m.later.turns m.schedule in
      spared_are_left (setting_of c.sizes) v.known.turns m.later.between whole c.second (m.later.others c.second (has_second c v p q sit))
      (λ d is. subst (λ i. Spares m.later.between i) (serves d (sym sit.second.stage ∙ is)) (m.later.others c.number (has_first c v p q sit)))

  -- where the two stand when others came
  pub record Stand (c : Askers) (v : View V) (p q : Stage V) (s : List (Turn V)) : Type 0 where
    pub first : (world_of c.sizes s).stages c.number ≡ p
    pub second : (world_of c.sizes s).stages c.second ≡ q
    pub next : (world_of c.sizes s).generations c.number ≡ next_in c.sizes v c.number
    pub second_next : (world_of c.sizes s).generations c.second ≡ next_in c.sizes v c.second

  pub stand : (c : Askers) (v : View V) (p q : Stage V) (s : List (Turn V)) → SitBoth c v p q → IsAlone p → Serves q c.number → Comes c.sizes v s → Stand c v p q s
  stand c v p q s sit free serves m =
      let z : Sizes = c.sizes in
      let between : List (Turn V) = m.later.between in
      let whole : IsSchedule (setting_of z) (v.known.turns ++ between) = subst (λ l. IsSchedule (setting_of z) l) m.later.turns m.schedule in
      let first = own_turns_decide (setting_of z) v.known.turns between whole c.number (first_others c v p q s sit free m) in
      let second = own_turns_decide (setting_of z) v.known.turns between whole c.second (second_others c v p q s sit serves m) in
      record {
        first = ap (λ l. (world_of z l).stages c.number) m.later.turns ∙ (first.0 ∙ sit.first.stage);
        second = ap (λ l. (world_of z l).stages c.second) m.later.turns ∙ (second.0 ∙ sit.second.stage);
        next = ap (λ l. (world_of z l).generations c.number) m.later.turns ∙ first.1;
        second_next = ap (λ l. (world_of z l).generations c.second) m.later.turns ∙ second.1;
      }

  -- what a caller's seat knows after these turns, where those before them do not concern the caller
  abbrev pub goes_from : (z : Sizes) (a : ℕ) (v w : View V) (p q : Stage V) (ts : List (Turn V)) (u : World V) (es x : List (Event ℕ V)) (given : ℕ) → Sits z a v p → (m : Made z v w ts) → AreOthers (world_of z v.known.turns) m.comes.later.between a
      → Ran (setting_of z) (history_of z m.before) (world_of z m.before) ts u es → u.stages a ≡ q → own_events a es ≡ x → u.generations a ≡ (world_of z m.before).generations a + given → Goes z a v w q x given
  goes_from z a v w p q ts u es x given sits m others ran at own more =
      let s : List (Turn V) = m.before in
      let between : List (Turn V) = m.comes.later.between in
      let first = first_world z.callers z.first in
      let turns_is : w.known.turns ≡ s ++ ts = ap (λ (y : View V). y.known.turns) m.view in
      let world_is : world_of z (s ++ ts) ≡ u = run_append first s ts ∙ ran.world in
      let front : IsSchedule (setting_of z) (v.known.turns ++ between) = subst (λ q. IsSchedule (setting_of z) q) m.comes.later.turns m.comes.schedule in
      let parts = schedule_parts (setting_of z) v.known.turns between [] first front in
      let none = others_none (setting_of z) between (history_of z v.known.turns) (world_of z v.known.turns) a (always_fair (setting_of z) v.known.turns parts.0) parts.1 others in
      let old : List (Event ℕ V) = history_of z v.known.turns in
      let mid : List (Event ℕ V) = adds (world_of z v.known.turns) between in
      let grown : history_of z s ≡ old ++ mid = ap (history_of z) m.comes.later.turns ∙ adds_append first v.known.turns between in
      let new_is : history_of z (s ++ ts) ≡ (old ++ mid) ++ es = adds_append first s ts ∙ (ap (λ y. y ++ adds (run first s) ts) grown ∙ ap (λ y. (old ++ mid) ++ y) ran.events) in
      let kept : (world_of z s).generations a ≡ next_in z v a = ap (λ l. (world_of z l).generations a) m.comes.later.turns ∙ (own_turns_decide (setting_of z) v.known.turns between front a others).1 in
      let before_counted = (always (setting_of z) v.known.turns parts.0).past.counted a in
      let after_counted = (always (setting_of z) (s ++ ts) m.whole).past.counted a in
      let there : (world_of z (s ++ ts)).generations a ≡ u.generations a = ap (λ (y : World V). y.generations a) world_is in
      record {
        sits = record {
          sizes = ap (λ (y : View V). y.sizes) m.view ∙ sits.sizes;
          callers = ap (λ (y : View V). y.known.callers) m.view ∙ all_alone z a v p sits;
          told = ap (λ (y : View V). y.told) m.view;
          caller = sits.caller;
          schedule = subst (λ y. IsSchedule (setting_of z) y) (sym turns_is) m.whole;
          stage = ap (λ y. (world_of z y).stages a) turns_is ∙ (ap (λ (y : World V). y.stages a) world_is ∙ at);
          cells = ap (λ (y : View V). y.cells) m.view;
        };
        turns = between ++ ts;
        knows = turns_is ∙ (ap (λ y. y ++ ts) m.comes.later.turns ∙ append_assoc v.known.turns between ts);
        used = ap (λ y. (world_of z y).generations a) turns_is ∙ (there ∙ (more ∙ ap (λ n. n + given) kept));
        adds = λ t. subst (λ h. Adds (record { table = t; sizes = z }) a old (history_of z h) x given) (sym turns_is) (record {
          grows = record {
            begins = (mid ++ es, new_is ∙ append_assoc old mid es);
            own = ap (own_events a) new_is
                ∙ (filter-append (λ (e : Event ℕ V). maker e == a) (old ++ mid) es
                ∙ (ap (λ y. y ++ own_events a es) (filter-append (λ (e : Event ℕ V). maker e == a) old mid ∙ (ap (λ y. own_events a old ++ y) none ∙ append-nil (own_events a old)))
                ∙ ap (λ y. own_events a old ++ y) own));
            next = sym after_counted ∙ (there ∙ (more ∙ (ap (λ y. y + given) kept ∙ ap (λ y. y + given) before_counted)));
          };
          lawful = record { legal = schedules_are_legal (setting_of z) (s ++ ts) m.whole; made = makers_are_callers (setting_of z) (s ++ ts) m.whole };
        });
      }
