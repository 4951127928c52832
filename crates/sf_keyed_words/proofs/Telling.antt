-- Loads that tell what has happened.
use Rattle.std.proofs.Common.{◌≡◌, ◌≢◌, ℕ, ◌/◌, ◌%◌, ◌<◌, ◌||◌, not, Bool, true, false, cond, eqb, List, ◌∷◌, Some, None, refl, sym, ◌∙◌, ap, subst, arith}
use Rattle.std.proofs.lemmas.Bool.{true≢false, and_parts, eqb-true, not-true}
use Rattle.std.specs.List.{list_any}
use Rattle.std.specs.Prelude.{slice_index, nat_eq}
use mathlib.Core.Logic.{dite}
use native.Mathlib.Decide.{ℕ_discrete}
use Rattle.atomic_table.specs.Table.{State, Me, keeps, Allows}
use Rattle.sf_keyed_tells.specs.Tells.{KeyedEvent}
use Rattle.sf_keyed_laws.specs.Words.{Words}
use Rattle.sf_keyed_words.specs.declared.rule.KeyedSizes.{KeyedSizes}
use Rattle.sf_keyed_words.specs.declared.rule.View.{View}
use Rattle.sf_keyed_words.specs.Rule.{slot_of, state_at, value_at, layout_of, is_open_call, IsView, stake, KeyedTable, Holds}
use Rattle.sf_keyed_words.proofs.Seats.{losing, still}
use Rattle.sf_keyed_words.proofs.States.{open_call_parts, whole}
use Rattle.sf_history.specs.History.{open_call}
use Rattle.sf_keyed_laws.specs.Walks.{HasWalked}
use Rattle.sf_keyed_laws.proofs.Walking.{walks_end, walks_clear, unmarked_is_walked}
use Rattle.sf_keyed_laws.specs.Steps.{HasNoOpen}
use Rattle.sf_keyed_words.specs.Rule.{covers, is_gone, IsShut, Unmet}
use Rattle.sf_keyed_words.specs.Plays.{loses, confirms, finds_none, with_walk, look_settled, takes, takes_last}
use Rattle.sf_keyed_words.proofs.Joining.{open_found}
use Rattle.sf_keyed_tells.specs.Tells.{call_of}
use Rattle.sf_keyed_words.proofs.Loads.{loads}

-- a view that has seen all
seen_all : (z : KeyedSizes) (s : Words) (h : List KeyedEvent) (ws : List ℕ) (holder : ℕ → ℕ) (k : ℕ) (v : View) → IsView z s h ws holder k v → IsView z s h ws holder k (record v { seen = h })
seen_all z s h ws holder k v m = record { seen = whole h; heard = m.heard; look = m.look; walk = m.walk; own = m.own; begun = m.begun; leads = m.leads; ticket = m.ticket; last = m.last }

by_cases : {X : Type 0} → (b : Bool) → (b ≡ true → X) → (b ≡ false → X) → X
by_cases true here there = here refl
by_cases false here there = there refl

-- what a walk over a slot adds to what is gone, where the slot is sealed
gone_more : (z : KeyedSizes) (s : Words) (v w : View) (q : ℕ) (b : Bool) → v.sizes ≡ z → w.sizes ≡ v.sizes → v.slot ≡ q → (b ≡ true → s.sealed q ≡ true) → ((k : ℕ) → slot_of v.sizes k ≡ v.slot → Unmet v.names k → HasNoOpen s k)
    → ((k : ℕ) → is_gone v.sizes v.gone k ≡ true → IsShut z v.sizes s k)
    → (k : ℕ) → is_gone v.sizes (cond b (record { slot = v.slot; names = v.names } ∷ v.gone) v.gone) k ≡ true → IsShut z w.sizes s k
gone_more z s v w q false sizes same slot bit idle old k is = let g = old k is in record { sizes = same ∙ g.sizes; sealed = g.sealed; none = g.none }
gone_more z s v w q true sizes same slot bit idle old k is = by_cases (covers v.sizes k (record { slot = v.slot; names = v.names }))
    (λ yes.
    let parts = and_parts (eqb (slot_of v.sizes k) v.slot) (not (list_any (λ n. eqb n k) v.names)) yes in
    let at : slot_of v.sizes k ≡ v.slot = eqb-true _ _ parts.0 in
    let unmet : Unmet v.names k = not-true _ parts.1 in
    record { sizes = same ∙ sizes; sealed = ap s.sealed (ap (λ (z2 : KeyedSizes). slot_of z2 k) (sym sizes) ∙ (at ∙ slot)) ∙ bit refl; none = idle k at unmet })
    (λ no. let g = old k (sym (ap (λ c. c || is_gone v.sizes v.gone k) no) ∙ is) in record { sizes = same ∙ g.sizes; sealed = g.sealed; none = g.none })

-- a view that has seen all, at the end of a walk
pub walked_all : (z : KeyedSizes) (s : Words) (h : List KeyedEvent) (ws : List ℕ) (holder : ℕ → ℕ) (id : ℕ) (v : View) (q n : ℕ) → v.sizes ≡ z → v.slot ≡ q → (n / 2 % 2 ≡ 1 → s.sealed q ≡ true)
    → ((k : ℕ) → slot_of v.sizes k ≡ v.slot → Unmet v.names k → HasNoOpen s k)
    → IsView z s h ws holder id v → IsView z s h ws holder id (record v { seen = h; gone = with_walk v n })
walked_all z s h ws holder id v q n sizes slot bit idle m =
    let w : View = record v { seen = h; gone = with_walk v n } in
    record {
      seen = whole h;
      heard = m.heard;
      look = record {
        top = m.look.top;
        but = m.look.but;
        clear = m.look.clear;
        dead = m.look.dead;
        half = m.look.half;
        told = m.look.told;
        gone = gone_more z s v w q (eqb (n / 2 % 2) 1) sizes refl slot (λ yes. bit (eqb-true _ _ yes)) idle m.look.gone;
      };
      walk = m.walk;
      own = m.own;
      begun = m.begun;
      leads = m.leads;
      ticket = m.ticket;
      last = m.last;
    }

pub record MayFind (z : KeyedSizes) (v : View) (q : ℕ) : Type 0 where
  pub below : q < z.tops
  pub slot_is : v.slot ≡ q
  pub walks : v.walks ≡ true
  pub clear : v.clear ≡ true
  pub looked : v.found % 2 ≡ 1 → v.looked ≡ 16
  pub top_is : v.found / 4 ≡ v.top
  pub other : v.other ≡ true
  pub sizes : v.sizes ≡ z

-- at its end none of the names that were not met has an open call, where the top word is what it was
pub idle_at : (z : KeyedSizes) (t : State ℕ View) (p : KeyedTable z t) (id q : ℕ) (v : View) → MayFind z v q → IsView z p.words p.history t.words p.holder id v → slice_index t.words q ≡ v.found
    → (k : ℕ) → slot_of v.sizes k ≡ v.slot → Unmet v.names k → HasNoOpen p.words k
idle_at z t p id q v may m same k slot unmet =
    let y = layout_of z in
    let s = p.words in
    let walk = m.walk may.walks in
    let n : ℕ = slice_index t.words q in
    let at_slot : slot_of z k ≡ v.slot = ap (λ (z2 : KeyedSizes). slot_of z2 k) (sym may.sizes) ∙ slot in
    let was : s.top (slot_of z k) ≡ v.top = ap s.top (at_slot ∙ may.slot_is) ∙ (sym (p.shows.tops q may.below) ∙ (ap (λ b. b / 4) same ∙ may.top_is)) in
    let walked : HasWalked y s k v.top v.top 16 = dite (ℕ_discrete (v.found % 2) 1)
    (λ odd. subst (λ b. HasWalked y s k v.top v.top b) (may.looked odd) (walks_clear y s k v.top v.but v.looked (walk.walked k at_slot unmet) (m.look.clear may.clear k unmet)))
    (λ isnt. unmarked_is_walked y s k v.top p.keeps was (ap s.marked (at_slot ∙ may.slot_is) ∙ p.shows.marks q may.below (let even : n % 2 ≡ v.found % 2 = ap (λ b. b % 2) same in omega (arith, even, isnt)))) in
    walks_end y s k v.top walked was (walk.other may.other k unmet)

pub finds : (z : KeyedSizes) (slots id q : ℕ) (me : Me ℕ View) → MayFind z me.0 q → Allows (Holds z) slots id me q (λ n. n) (λ n after. finds_none me.0 n after.0)
finds z slots id q me may t p len is fits =
    let v = me.0 in
    let s = p.words in
    let h = p.history in
    let m = p.seats id v is in
    let n : ℕ = slice_index t.words q in
    dite (ℕ_discrete n v.found)
    (λ same.
    let idle = idle_at z t p id q v may m same in
    let none : (k : ℕ) → slot_of v.sizes k ≡ v.slot → Unmet v.names k → open_call nat_eq h k ≡ None = λ k slot unmet. p.tells.shuts k (idle k slot unmet) in
    let bit : v.found / 2 % 2 ≡ 1 → s.sealed q ≡ true = λ one. p.shows.bits q may.below (ap (λ b. b / 2 % 2) same ∙ one) in
    let w : View = record v { seen = h; gone = with_walk v v.found } in
    let mine : IsView z s h t.words p.holder id w = walked_all z s h t.words p.holder id v q v.found may.sizes may.slot_is bit idle m in (
      w,
      keeps,
      tt,
      still z t p id q me w is (λ d. refl) mine,
      record { won = λ _. (refl, record { seen = m.seen; legal = p.tells.legal; gone = λ k is. p.tells.shuts k (mine.look.gone k is).none }, none); lost = λ bar. absurd (bar same) },
    ))
    (λ differ. (
      loses v,
      keeps,
      tt,
      still z t p id q me (loses v) is (λ d. refl) (losing z s h t.words p.holder id v m),
      record { won = λ yes. absurd (differ yes); lost = λ _. refl },
    ))

-- a second look at a call that is open still
pub confirms_allowed : (z : KeyedSizes) (slots id : ℕ) (me : Me ℕ View) → me.0.told ≡ true → Allows (Holds z) slots id me (state_at z me.0.but) (λ n. n) (λ n after. confirms me.0 n after.0)
confirms_allowed z slots id me told t p len is fits =
    let v = me.0 in
    let s = p.words in
    let h = p.history in
    let m = p.seats id v is in
    let i : ℕ = state_at z v.but in
    let n : ℕ = slice_index t.words i in
    by_cases (is_open_call n v.but)
    (λ yes.
    let parts = open_call_parts n v.but yes in
    let f = open_found z t p id n v m parts.0 parts.1 told refl in
    let opened : open_call nat_eq h v.name ≡ Some (call_of v.but) = ap (open_call nat_eq h) (sym f.key) ∙ p.tells.opens v.but f.led f.live in
    let w : View = record v { seen = h } in (
      w,
      keeps,
      tt,
      still z t p id i me w is (λ d. refl) (seen_all z s h t.words p.holder id v m),
      record { won = λ _. (refl, record { seen = m.seen; legal = p.tells.legal; gone = λ k is. p.tells.shuts k (m.look.gone k is).none }, opened); lost = λ no. absurd (true≢false (sym yes ∙ no)) },
    ))
    (λ no. (
      loses v,
      keeps,
      tt,
      still z t p id i me (loses v) is (λ d. refl) (losing z s h t.words p.holder id v m),
      record { won = λ yes. absurd (true≢false (sym yes ∙ no)); lost = λ _. refl },
    ))

either_view : (P : View → Type 0) (b : Bool) (v w : View) → P v → (b ≡ true → P w) → P (cond b w v)
either_view P true v w same other = other refl
either_view P false v w same other = same

stake_either : (b : Bool) (v w : View) (c : ℕ) → stake c w ≡ stake c v → stake c (cond b w v) ≡ stake c v
stake_either true v w c is = is
stake_either false v w c is = refl

pub waits : (z : KeyedSizes) (slots id : ℕ) (me : Me ℕ View) → Allows (Holds z) slots id me (state_at z me.0.ticket) (λ n. n) (λ n after. after.0 ≡ look_settled me.0 n)
waits z slots id me = loads z slots id (state_at z me.0.ticket) me (look_settled me.0) (λ t p m.
    let v = me.0 in
    let n : ℕ = slice_index t.words (state_at z v.ticket) in
    either_view (IsView z p.words p.history t.words p.holder id) (eqb (n / 2097152 % 2) 1) (record v { state = n }) (record v { done = true })
    (record { seen = m.seen; heard = m.heard; look = m.look; walk = m.walk; own = m.own; begun = m.begun; leads = m.leads; ticket = m.ticket; last = m.last }) (λ yes.
    let odd : n / 2097152 % 2 ≡ 1 = eqb-true _ _ yes in
    record {
      seen = m.seen;
      heard = m.heard;
      look = m.look;
      walk = m.walk;
      own = m.own;
      begun = m.begun;
      leads = m.leads;
      ticket = λ any. let o = m.ticket any in record { led = o.led; within = o.within; generation = o.generation; settled = λ _. omega (arith, odd) };
      last = m.last;
    })) (λ n c. stake_either (eqb (n / 2097152 % 2) 1) (record me.0 { state = n }) (record me.0 { done = true }) c refl)

pub takes_allowed : (z : KeyedSizes) (slots id : ℕ) (me : Me ℕ View) → me.0.ticket ≢ 0 → me.0.done ≡ true
    → Allows (Holds z) slots id me (value_at z me.0.ticket) (λ n. n) (λ n after. takes me.0 n after.0)
takes_allowed z slots id me any done t p len is fits =
    let v = me.0 in
    let m = p.seats id v is in
    let o = m.ticket any in
    let w : View = record v { seen = p.history } in (
      w,
      keeps,
      tt,
      still z t p id (value_at z v.ticket) me w is (λ d. refl) (seen_all z p.words p.history t.words p.holder id v m),
      record { view = refl; grows = record { seen = m.seen; legal = p.tells.legal; gone = λ k is. p.tells.shuts k (m.look.gone k is).none }; result = p.shows.values v.ticket o.led o.generation (o.settled done) },
    )

pub takes_last_allowed : (z : KeyedSizes) (slots id : ℕ) (me : Me ℕ View) → me.0.last ≢ 0
    → Allows (Holds z) slots id me (value_at z me.0.last) (λ n. n) (λ n after. takes_last me.0 n after.0)
takes_last_allowed z slots id me any t p len is fits =
    let v = me.0 in
    let m = p.seats id v is in
    let o = m.last any in
    let w : View = record v { seen = p.history } in (
      w,
      keeps,
      tt,
      still z t p id (value_at z v.last) me w is (λ d. refl) (seen_all z p.words p.history t.words p.holder id v m),
      record { view = refl; grows = record { seen = m.seen; legal = p.tells.legal; gone = λ k is. p.tells.shuts k (m.look.gone k is).none }; result = p.shows.values v.last o.led o.generation o.settled },
    )
