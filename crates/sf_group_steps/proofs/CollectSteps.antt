-- steps of a poll
use Rattle.std.proofs.Common.{◌≡◌, ℕ, Bool, true, false, ◌==◌, eq-eqb, ne_eqb, List, [], ◌∷◌, ◌++◌, inl, inr, ◌⊎◌, Option, Some, None, refl, sym, ◌∙◌, ap, subst, arith}
use Rattle.std.specs.Prelude.{cond}
use Rattle.std.proofs.lemmas.List.{append-nil}
use Rattle.atomic_table.specs.Table.{Me, rest}
use Rattle.sf_history.specs.declared.call.CallId.{CallId}
use Rattle.sf_history.specs.declared.event.Event.{Event}
use Rattle.sf_history.specs.declared.event.Event.TheVariants as event
use Rattle.sf_history.specs.History.{is_handed}
use Rattle.sf_words.specs.declared.call_word.CallState.{CallState}
use Rattle.sf_words.specs.declared.call_word.CallState.TheVariants as word
use Rattle.sf_words.specs.CallWord.{call_code}
use Rattle.sf_lists.specs.Functions.{put}
use Rattle.sf_lists.proofs.Functions.{put_here, put_else}
use Rattle.sf_steps_laws.specs.declared.letter.Letter.{Letter}
use Rattle.sf_steps_laws.specs.declared.operation.Op.TheVariants as op
use Rattle.sf_steps_laws.specs.declared.operation.Stage.{Stage}
use Rattle.sf_steps_laws.specs.declared.operation.Stage.TheVariants as stage
use Rattle.sf_steps_laws.specs.declared.turn.Turn.{Turn}
use Rattle.sf_steps_laws.specs.declared.turn.Turn.TheVariants as turn
use Rattle.sf_steps_laws.specs.World.{World, first_world, with_stage, is_full}
use Rattle.sf_steps_laws.specs.Turns.{started, polled}
use Rattle.sf_steps_laws.specs.Events.{adds}
use Rattle.sf_steps_laws.specs.Schedules.{Setting, IsCaller, IsSchedule}
use Rattle.sf_steps_laws.specs.Delivered.{IsServed}
use Rattle.sf_steps_laws.proofs.Named.{IsAlone}
use Rattle.sf_steps_laws.proofs.RightAnswers.{adds_append, always, schedules_are_legal}
use Rattle.sf_steps_laws.proofs.Sound.{ticket}
use Rattle.sf_steps_laws.proofs.Tickets.{tickets_are_served}
use Rattle.sf_group_rows.specs.declared.sizes.Sizes.{Sizes}
use Rattle.sf_group_rows.specs.Fitting.{FitOf}
use Rattle.sf_group_steps.specs.declared.view.View.{View}
use Rattle.sf_group_steps.specs.Words.{call, code_at, IsCallFor}
use Rattle.sf_group_steps.specs.View.{Has, setting_of, AreBy, world_of, history_of}
use Rattle.sf_group_steps.specs.Cells.{Handle, none_of, take_one, give_one, cells_after, Handling, FitsCell, Lasts}
use Rattle.sf_group_steps.specs.Plays.{Comes, Handles, MovesCell, MadeWith, Made, Carries, Handled}
use Rattle.sf_group_steps.specs.Stands.{SitsWith, Sits, GoesWith, Goes}
use Rattle.sf_group_steps.specs.Collects.{collects, IsAnswer, HasFound}
use Rattle.sf_group_steps.proofs.Ways.{Ran, ran_then, step_ran, writes_none, all_alone, stands, goes_with}
use Rattle.sf_group_steps.proofs.LookSteps.{free_alone}
use Rattle.sf_group_steps.proofs.DeliverSteps.{DoesCell, handles_by}
use Rattle.sf_group_rows.proofs.Moments.{stands_longer}
use Rattle.sf_group_steps.proofs.Answered.{answer_stands}

-- a listed word is no full one
listed_full : (g : ℕ) → (call_code (word.Listed g) == call_code (word.Full g)) ≡ false
listed_full g = ne_eqb (call_code (word.Listed g)) (call_code (word.Full g)) (λ e. absurd (omega arith))

module _ {V : Type 0} where
  holding_alone : (k g : ℕ) (c : CallId) → IsAlone {V = V} (stage.Holding k g c)
  holding_alone k g c d is = cc

  -- the world after a poll
  abbrev pub poll_world : World V → ℕ → ℕ → ℕ → CallId → Bool → World V
  poll_world w a k g c full = polled (with_stage w a (stage.Polling k g c)) a k g c full

  poll_ran : (z : Setting) (h : List (Event ℕ V)) (w : World V) (a k g : ℕ) (c : CallId) (full : Bool) → IsCaller z a → w.stages a ≡ stage.Holding k g c → is_full (w.calls a) ≡ full
      → Ran z h w (turn.Start a op.Poll ∷ turn.Step a ∷ []) (poll_world w a k g c full) []
  poll_ran z h w a k g c full caller at is =
      let mid : World V = with_stage w a (stage.Polling k g c) in
      let first : Ran z h w (turn.Start a op.Poll ∷ []) mid [] = record { allowed = ((caller, (k, g, c, at), tt), tt); world = ap (λ q. started w a op.Poll q) at; events = refl } in
      subst (λ b. Ran z h w (turn.Start a op.Poll ∷ turn.Step a ∷ []) (poll_world w a k g c b) []) is
      (ran_then z h w mid (polled mid a k g c (is_full (w.calls a))) (turn.Start a op.Poll ∷ []) (turn.Step a ∷ []) [] [] first (step_ran z (h ++ []) mid a (stage.Polling k g c) caller tt (put_here w.stages a (stage.Polling k g c))))

  -- what the word says that a ticket's holder looks at
  served_at : (z : Sizes) (s : List (Turn V)) (a k g : ℕ) (c : CallId) → IsSchedule (setting_of z) s → (world_of z s).stages a ≡ stage.Holding k g c → IsServed (history_of z s) (world_of z s) a k g c
  served_at z s a k g c is at = tickets_are_served (setting_of z) s is a k g c (inl at)

  pub collect_move : (fits : FitOf V) (z : Sizes) (a k g : ℕ) (c : CallId) (me : Me (Option (Letter V)) (View V)) → Sits z a me.0 (stage.Holding k g c)
      → MovesCell fits z me (call a) (λ n. n) (λ _. turn.Start a op.Poll ∷ turn.Step a ∷ []) (collects a g)
  collect_move fits z a k g c me sits = handles_by fits z a me (stage.Holding k g c) [] (call a) (λ n. n) (λ _. turn.Start a op.Poll ∷ turn.Step a ∷ []) (collects a g) sits (holding_alone k g c) does
    where
      does : (s : List (Turn V)) → Comes z me.0 s → (world_of z s).stages a ≡ stage.Holding k g c → (n : ℕ) → n ≡ code_at (world_of z s) (call a)
          → AreBy {V = V} (a ∷ []) (turn.Start a op.Poll ∷ turn.Step a ∷ []) × DoesCell fits z me s (call a) n (turn.Start a op.Poll ∷ turn.Step a ∷ []) (collects a g n)
      does s comes at n found = (
        ((λ b e. inl e), ((λ b e. inl e), tt)),
        elim (served_at z s a k g c comes.schedule at) [
          | inl waits ↦
              let u : World V = poll_world (world_of z s) a k g c false in
              let test : (n == call_code (word.Full g)) ≡ false = ap (λ m. m == call_code (word.Full g)) (found ∙ ap call_code waits.0) ∙ listed_full g in
              record {
                world = u;
                events = [];
                ran = poll_ran (setting_of z) (history_of z s) (world_of z s) a k g c false sits.caller at (ap is_full waits.0);
                writes = writes_none z.callers (world_of z s) u (call a) n found refl refl refl;
                handles = subst (λ b. Handles fits z me.0 me.1 (world_of z s) u (history_of z s ++ []) (cond b (take_one a) none_of)) (sym test) (sits.cells, refl);
              }
          | inr got ↦
              let u : World V = poll_world (world_of z s) a k g c true in
              let full : (world_of z s).calls a ≡ word.Full g = got.2 in
              let test : (n == call_code (word.Full g)) ≡ true = eq-eqb n (call_code (word.Full g)) (found ∙ ap call_code full) in
              let there : u.stages a ≡ stage.Free = put_here (put (world_of z s).stages a (stage.Polling k g c)) a stage.Free in
              record {
                world = u;
                events = [];
                ran = poll_ran (setting_of z) (history_of z s) (world_of z s) a k g c true sits.caller at (ap is_full full);
                writes = writes_none z.callers (world_of z s) u (call a) n found refl refl refl;
                handles = subst (λ b. Handles fits z me.0 me.1 (world_of z s) u (history_of z s ++ []) (cond b (take_one a) none_of)) (sym test) (
                  sits.cells,
                  sits.caller.1,
                  (a, subst (λ who. Has who a) (sym (all_alone z a me.0 (stage.Holding k g c) sits)) (inl refl), subst (λ (p : Stage V). Handling p a a) (sym there) refl),
                  λ j other. put_else (world_of z s).cells a None j other,
                );
              }
        ],
      )

  -- what a seat knows after such turns, which add nothing
  same_history : (z : Sizes) (v w : View V) (ts : List (Turn V)) (out : List ℕ) (u : World V) (m : MadeWith z v w ts out) → Ran (setting_of z) (history_of z m.before) (world_of z m.before) ts u [] → history_of z w.known.turns ≡ history_of z m.before
  same_history z v w ts out u m ran = ap (λ (y : View V). history_of z y.known.turns) m.view ∙ (adds_append (first_world z.callers z.first) m.before ts ∙ (ap (λ es. history_of z m.before ++ es) ran.events ∙ append-nil (history_of z m.before)))

  -- how a poll's load ends, by what its word says
  abbrev pub Collected : FitOf V → Sizes → ℕ → ℕ → ℕ → CallId → Me (Option (Letter V)) (View V) → Me (Option (Letter V)) (View V) → CallState → Type 0
  Collected fits z a k g c me new r = ((r ≡ word.Full g) × GoesWith z a me.0 new.0 stage.Free [] 0 (a ∷ []) × HasFound fits a k c (history_of z new.0.known.turns) new.1)
      ⊎ ((r ≡ word.Listed g) × Goes z a me.0 new.0 (stage.Holding k g c) [] 0 × (new.1 ≡ me.1) × (is_handed (history_of z new.0.known.turns) c ≡ false))

  pub collect_told : (fits : FitOf V) (z : Sizes) (a k g n : ℕ) (c : CallId) (r : CallState) (me new : Me (Option (Letter V)) (View V)) → Sits z a me.0 (stage.Holding k g c) → me.1 ≡ []
      → Handled fits (call a) (λ _. turn.Start a op.Poll ∷ turn.Step a ∷ []) (collects a g) z me n new → ((y : CallState) → IsCallFor z.callers y → call_code y ≡ n → r ≡ y) → Collected fits z a k g c me new r
  collect_told fits z a k g n c r me new sits none told says =
      elim (served_at z s a k g c told.made.comes.schedule at) [
        | inl waits ↦
            let test : (n == call_code (word.Full g)) ≡ false = ap (λ m. m == call_code (word.Full g)) (told.found ∙ ap call_code waits.0) ∙ listed_full g in
            let handle : collects a g n ≡ none_of = ap (λ b. cond b (take_one a) none_of) test in
            let ran = poll_ran (setting_of z) (history_of z s) (world_of z s) a k g c false sits.caller at (ap is_full waits.0) in
            inr (is ∙ waits.0, listed told.made handle waits.0, subst (λ h. Carries fits me.1 (world_of z s) (history_of z s) h new.1) handle told.carries, ap (λ h. is_handed h c) (same_history z me.0 new.0 ts (cells_after (collects a g n)) (poll_world (world_of z s) a k g c false) told.made ran) ∙ waits.2)
        | inr got ↦
            let test : (n == call_code (word.Full g)) ≡ true = eq-eqb n (call_code (word.Full g)) (told.found ∙ ap call_code got.2) in
            let handle : collects a g n ≡ take_one a = ap (λ b. cond b (take_one a) none_of) test in
            let l : Letter V = record { place = k; call = c; value = got.0; joiners = got.1 } in
            let carries = subst (λ h. Carries fits me.1 (world_of z s) (history_of z s) h new.1) handle told.carries in
            let ran = poll_ran (setting_of z) (history_of z s) (world_of z s) a k g c true sits.caller at (ap is_full got.2) in
            let later : history_of z new.0.known.turns ≡ history_of z s = same_history z me.0 new.0 ts (cells_after (collects a g n)) (poll_world (world_of z s) a k g c true) told.made ran in
            inl (
              is ∙ got.2,
              full told.made handle got.2,
              (
                l,
                carries.0 ∙ (ap (λ (q : List (ℕ × Option (Letter V))). (a, (world_of z s).cells a) ∷ q) none ∙ ap (λ (y : Option (Letter V)). (a, y) ∷ []) got.3),
                subst (λ h. IsAnswer fits k c h l) (sym later) (record {
                  place = refl;
                  call = refl;
                  settled = answer_stands (history_of z s) c (got.0) (got.1) (schedules_are_legal (setting_of z) s told.made.comes.schedule) got.4;
                  fitting = subst (λ (y : Option (Letter V)). FitsCell fits (history_of z s) y) got.3 carries.1;
                }),
              ),
            )
      ]
    where
      s : List (Turn V)
      s = told.made.before

      ts : List (Turn V)
      ts = turn.Start a op.Poll ∷ turn.Step a ∷ []

      at : (world_of z s).stages a ≡ stage.Holding k g c
      at = stands z a me.0 (stage.Holding k g c) s sits (holding_alone k g c) told.made.comes

      is : r ≡ (world_of z s).calls a
      is = says ((world_of z s).calls a) (told.made.comes.lawful.calls a) (sym told.found)

      listed : {h : Handle} (m : MadeWith z me.0 new.0 ts (cells_after h)) → h ≡ none_of → (world_of z m.before).calls a ≡ word.Listed g → Goes z a me.0 new.0 (stage.Holding k g c) [] 0
      listed {h} m handle waits =
          let w : World V = world_of z m.before in
          let there = stands z a me.0 (stage.Holding k g c) m.before sits (holding_alone k g c) m.comes in
          let ran = poll_ran (setting_of z) (history_of z m.before) w a k g c false sits.caller there (ap is_full waits) in
          subst (λ q. GoesWith z a me.0 new.0 (stage.Holding k g c) [] 0 (cells_after q)) handle
          (goes_with z a me.0 new.0 (stage.Holding k g c) (stage.Holding k g c) ts (poll_world w a k g c false) [] [] 0 [] (cells_after h) sits (holding_alone k g c) m ran
          (put_here (put w.stages a (stage.Polling k g c)) a (stage.Holding k g c)) refl (omega arith))

      full : {h : Handle} (m : MadeWith z me.0 new.0 ts (cells_after h)) → h ≡ take_one a → (world_of z m.before).calls a ≡ word.Full g → GoesWith z a me.0 new.0 stage.Free [] 0 (a ∷ [])
      full {h} m handle got =
          let w : World V = world_of z m.before in
          let there = stands z a me.0 (stage.Holding k g c) m.before sits (holding_alone k g c) m.comes in
          let ran = poll_ran (setting_of z) (history_of z m.before) w a k g c true sits.caller there (ap is_full got) in
          subst (λ q. GoesWith z a me.0 new.0 stage.Free [] 0 (cells_after q)) handle
          (goes_with z a me.0 new.0 (stage.Holding k g c) stage.Free ts (poll_world w a k g c true) [] [] 0 [] (cells_after h) sits (holding_alone k g c) m ran
          (put_here (put w.stages a (stage.Polling k g c)) a stage.Free) refl (omega arith))

  -- the empty cell goes home
  pub home_move : (fits : FitOf V) (z : Sizes) (a : ℕ) (me : Me (Option (Letter V)) (View V)) → SitsWith z a me.0 stage.Free (a ∷ []) → me.1 ≡ (a, None) ∷ [] → MovesCell fits z me (call a) (λ n. n) (λ _. []) (λ _. give_one a)
  home_move fits z a me sits carried = handles_by fits z a me stage.Free (a ∷ []) (call a) (λ n. n) (λ _. []) (λ _. give_one a) sits free_alone
      (λ s comes at n found.
      let w : World V = world_of z s in
      let empty : w.cells a ≡ None = ((always (setting_of z) s comes.schedule).callers a).empty (ap ticket at) in (
        tt,
        record {
          world = w;
          events = [];
          ran = record { allowed = tt; world = refl; events = refl };
          writes = writes_none z.callers w w (call a) n found refl refl refl;
          handles = (
            sits.cells,
            carried ∙ ap (λ (y : Option (Letter V)). (a, y) ∷ []) (sym empty),
            subst (λ (y : Option (Letter V)). FitsCell fits (history_of z s ++ []) y) (sym empty) tt,
            λ j other. refl,
          );
        },
      ))

  pub home_told : (z : Sizes) (a : ℕ) (v w : View V) → SitsWith z a v stage.Free (a ∷ []) → Made z v w [] → Goes z a v w stage.Free [] 0
  home_told z a v w sits m =
      goes_with z a v w stage.Free stage.Free [] (world_of z m.before) [] [] 0 (a ∷ []) [] sits free_alone m (record { allowed = tt; world = refl; events = refl })
      (stands z a v stage.Free m.before sits free_alone m.comes) refl (omega arith)

  -- what was the answer is so for one who knows more
  pub answer_later : (fits : FitOf V) → Lasts fits → (z : Sizes) (a k n : ℕ) (c : CallId) (l : Letter V) (v w : View V) (p : Stage V) (es : List (Event ℕ V)) (out : List ℕ) → IsAnswer fits k c (history_of z v.known.turns) l → GoesWith z a v w p es n out → IsAnswer fits k c (history_of z w.known.turns) l
  answer_later fits lasts z a k n c l v w p es out is goes =
      let more : List (Event ℕ V) = adds (world_of z v.known.turns) goes.turns in
      subst (λ h. IsAnswer fits k c h l) (sym (ap (history_of z) goes.knows ∙ adds_append (first_world z.callers z.first) v.known.turns goes.turns)) (record {
        place = is.place;
        call = is.call;
        settled = stands_longer (event.Settle c.caller c l.value l.joiners) (history_of z v.known.turns) more is.settled;
        fitting = lasts k c l.value (history_of z v.known.turns) more is.fitting;
      })

  pub collected_full : (fits : FitOf V) (z : Sizes) (a k g j : ℕ) (c : CallId) (me new : Me (Option (Letter V)) (View V)) (r : CallState) → Collected fits z a k g c me new r → r ≡ word.Full j
      → GoesWith z a me.0 new.0 stage.Free [] 0 (a ∷ []) × HasFound fits a k c (history_of z new.0.known.turns) new.1
  collected_full fits z a k g j c me new r (inl full) is = (full.1, full.2)
  collected_full fits z a k g j c me new r (inr waits) is = absurd (let clash : word.Full j ≡ word.Listed g = sym is ∙ waits.0 in cc)

  pub collected_waits : (fits : FitOf V) (z : Sizes) (a k g : ℕ) (c : CallId) (me new : Me (Option (Letter V)) (View V)) (r : CallState) → Collected fits z a k g c me new r → ((j : ℕ) → r ≡ word.Full j → ⊥)
      → Goes z a me.0 new.0 (stage.Holding k g c) [] 0 × (new.1 ≡ me.1) × (is_handed (history_of z new.0.known.turns) c ≡ false)
  collected_waits fits z a k g c me new r (inl full) none = absurd (none g full.0)
  collected_waits fits z a k g c me new r (inr waits) none = (waits.1, waits.2, waits.3)

  -- what is read from the cell that was found
  pub read_letter : (a : ℕ) (l y : Letter V) (r : Option (Letter V)) (carried : List (ℕ × Option (Letter V))) → carried ≡ (a, Some l) ∷ [] → carried ≡ (a, r) ∷ rest carried → r ≡ Some y → l ≡ y
  read_letter a l y r carried one two is = let same : Some l ≡ Some y = ap second (sym one ∙ two) ∙ is in cc
    where
      second : List (ℕ × Option (Letter V)) → Option (Letter V)
      second [] = None
      second (x ∷ xs) = x.1
