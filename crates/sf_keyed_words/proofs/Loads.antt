-- Loads keep the rule, and bring the seat's walk on.
use Rattle.std.proofs.Common.{◌%◌, ◌≡◌, ◌≢◌, ℕ, ◌+◌, ◌/◌, ◌<◌, Bool, true, false, cond, eqb, eq-eqb, ne_eqb, ◌∷◌, refl, sym, ◌∙◌, ap, subst, arith}
use Rattle.std.proofs.lemmas.Bool.{true≢false, or_parts}
use Rattle.std.specs.Prelude.{slice_index}
use Rattle.std.specs.List.{list_any}
use mathlib.Core.Logic.{dite}
use native.Mathlib.Decide.{ℕ_discrete}
use prog.Atomic.{either}
use Rattle.atomic_table.specs.Table.{State, Me, Valid, stepped, keeps, Allows}
use Rattle.atomic_table.proofs.Lists.{exchanged}
use Rattle.sf_keyed_laws.specs.Words.{IsAside, IsLedIfAny}
use Rattle.sf_keyed_laws.specs.Walks.{IsOther}
use Rattle.sf_keyed_laws.proofs.Walking.{walks_begin, walks_go_on, walks_clear}
use Rattle.sf_keyed_words.specs.declared.rule.KeyedSizes.{KeyedSizes}
use Rattle.sf_keyed_words.specs.declared.rule.View.{View}
use Rattle.sf_keyed_words.specs.Rule.{state_at, name_at, high_at, both, layout_of, sides_from, is_open_call, Unmet, IsForeign, IsView, KeyedTable, Holds, stake}
use Rattle.sf_keyed_words.specs.Plays.{HasCell, numbered, read_low, read_high, look_cell, walk_from, walks_from, walk_on, walks_on, met_open, met_closed, see_state}
use Rattle.sf_keyed_words.proofs.Seats.{still}
use Rattle.sf_keyed_words.proofs.States.{open_call_from}

-- a load, by which the seat's view becomes w of the number found
pub loads : (z : KeyedSizes) (slots id i : ℕ) (me : Me ℕ View) (w : ℕ → View)
    → ((t : State ℕ View) (p : KeyedTable z t) → IsView z p.words p.history t.words p.holder id me.0 → IsView z p.words p.history t.words p.holder id (w (slice_index t.words i)))
    → ((n c : ℕ) → stake c (w n) ≡ stake c me.0)
    → Allows (Holds z) slots id me i (λ n. n) (λ n after. after.0 ≡ w n)
loads z slots id i me w right same t p len is fits =
    let v : View = w (slice_index t.words i) in
    (v, keeps, tt, still z t p id i me v is (same (slice_index t.words i)) (right t p (p.seats id me.0 is)), refl)

-- a load of a word that names a call, which has a cell
loads_named : (z : KeyedSizes) (slots id i : ℕ) (me : Me ℕ View) (w : ℕ → View) → me.0.sizes ≡ z
    → ((t : State ℕ View) (p : KeyedTable z t) → IsView z p.words p.history t.words p.holder id me.0 → IsView z p.words p.history t.words p.holder id (w (slice_index t.words i)))
    → ((t : State ℕ View) (p : KeyedTable z t) → IsLedIfAny p.words (slice_index t.words i / 4))
    → ((n c : ℕ) → stake c (w n) ≡ stake c me.0)
    → Allows (Holds z) slots id me i (λ n. n) (λ n after. (after.0 ≡ w n) × HasCell me.0 n)
loads_named z slots id i me w sizes right named same t p len is fits =
    let n : ℕ = slice_index t.words i in
    let v : View = w n in
    let cell : HasCell me.0 n = subst (λ (y : KeyedSizes). 0 < y.cells → n / 4 % 1048576 < y.cells) (sym sizes) (λ some. dite (ℕ_discrete (n / 4) 0)
    (λ none. omega (arith, none, some))
    (λ any. p.shows.within (n / 4) (named t p any))) in
    (v, keeps, tt, still z t p id i me v is (same n) (right t p (p.seats id me.0 is)), (refl, cell))

pub looks_at_top : (z : KeyedSizes) (slots id i : ℕ) (me : Me ℕ View) → me.0.sizes ≡ z → i < z.tops → Allows (Holds z) slots id me i (λ n. n) (λ n after. walks_from me.0 i n after.0)
looks_at_top z slots id i me sizes below = loads_named z slots id i me (walk_from me.0 i) sizes (λ t p m.
    let n : ℕ = slice_index t.words i in
    let named : IsLedIfAny p.words (n / 4) = subst (IsLedIfAny p.words) (sym (p.shows.tops i below)) (p.keeps.tops i) in
    record {
      seen = m.seen;
      heard = m.heard;
      own = m.own;
      begun = m.begun;
      leads = m.leads;
      ticket = m.ticket;
      last = m.last;
      look = record {
        top = named;
        but = named;
        clear = λ no. absurd (true≢false (sym no));
        dead = λ no. absurd (true≢false (sym no));
        half = λ no. absurd (true≢false (sym no));
        told = λ no. absurd (true≢false (sym no));
        gone = m.look.gone;
      };
      walk = λ yes. record {
        walked = λ k slot unmet. walks_begin (layout_of z) p.words k (n / 4) p.keeps;
        other = λ no. absurd (true≢false (sym no));
        saved = λ no. absurd (true≢false (sym no));
      };
    }) (λ t p. subst (IsLedIfAny p.words) (sym (p.shows.tops i below)) (p.keeps.tops i)) (λ n c. refl)

-- a fact of the call that is looked at is one of the top, where that is looked at
at_top : (P : ℕ → Type 0) (a b : ℕ) (c : Bool) → P a → (c ≡ true → P b) → cond (eqb a b) true c ≡ true → P b
at_top P a b c here there is = dite (ℕ_discrete a b)
    (λ same. subst P same here)
    (λ apart. there (sym (ap (λ x. cond x true c) (ne_eqb a b apart)) ∙ is))

pub looks_aside : (z : KeyedSizes) (slots id : ℕ) (me : Me ℕ View) → me.0.sizes ≡ z → me.0.walks ≡ true → me.0.clear ≡ true → me.0.looked < 16 → sides_from me.0.slot + me.0.looked < z.sides
    → Allows (Holds z) slots id me (z.tops + (sides_from me.0.slot + me.0.looked)) (λ n. n) (λ n after. walks_on me.0 n after.0)
looks_aside z slots id me sizes walks clear small below = loads_named z slots id (z.tops + (sides_from me.0.slot + me.0.looked)) me (walk_on me.0) sizes (λ t p m.
    let v = me.0 in
    let d : ℕ = slice_index t.words (z.tops + (sides_from v.slot + v.looked)) / 4 in
    let walk = m.walk walks in
    let side : p.words.side (sides_from v.slot + v.looked) ≡ d = sym (p.shows.sides (sides_from v.slot + v.looked) below) in
    record {
      seen = m.seen;
      heard = m.heard;
      own = m.own;
      begun = m.begun;
      leads = m.leads;
      ticket = m.ticket;
      last = m.last;
      look = record {
        top = m.look.top;
        but = subst (IsLedIfAny p.words) (sym (p.shows.sides (sides_from v.slot + v.looked) below)) (p.keeps.sides (sides_from v.slot + v.looked));
        clear = λ no. absurd (true≢false (sym no));
        dead = λ no. absurd (true≢false (sym no));
        half = λ no. absurd (true≢false (sym no));
        told = λ no. absurd (true≢false (sym no));
        gone = m.look.gone;
      };
      walk = λ yes. record {
        walked = λ k slot unmet. walks_go_on (layout_of z) p.words k v.top d v.looked
            (walks_clear (layout_of z) p.words k v.top v.but v.looked (walk.walked k slot unmet) (m.look.clear clear k unmet)) (subst (λ q. p.words.side (sides_from q + v.looked) ≡ d) (sym slot) side);
        other = walk.other;
        saved = at_top (λ e. p.words.led e ≡ true → p.words.closed e ≡ false → IsAside (layout_of z) p.words v.slot 0 e) d v.top v.saved (λ led live. record { at = v.looked; after = omega arith; within = small; names = side }) walk.saved;
      };
    }) (λ t p. subst (IsLedIfAny p.words) (sym (p.shows.sides (sides_from me.0.slot + me.0.looked) below)) (p.keeps.sides (sides_from me.0.slot + me.0.looked))) (λ n c. refl)

-- either the view stays, or the test says no
pub by_test : (P : View → Type 0) (b : Bool) (v w : View) → P v → (b ≡ false → P w) → P (cond b v w)
by_test P true v w same other = same
by_test P false v w same other = other refl

pub same_stake : (b : Bool) (v w : View) (c : ℕ) → stake c w ≡ stake c v → stake c (cond b v w) ≡ stake c v
same_stake true v w c is = refl
same_stake false v w c is = is

pub sees : (z : KeyedSizes) (slots id : ℕ) (me : Me ℕ View)
    → Allows (Holds z) slots id me (state_at z me.0.but) (λ n. n) (λ n after. after.0 ≡ see_state me.0 n)
sees z slots id me = loads z slots id (state_at z me.0.but) me (see_state me.0) (λ t p m.
    let v = me.0 in
    let s = p.words in
    let n : ℕ = slice_index t.words (state_at z v.but) in
    by_test (IsView z p.words p.history t.words p.holder id) (is_open_call n v.but) (met_open v n) (met_closed v n)
    (record { seen = m.seen; heard = m.heard; look = m.look; walk = m.walk; own = m.own; begun = m.begun; leads = m.leads; ticket = m.ticket; last = m.last })
    (λ shut.
    let dead : s.led v.but ≡ true → s.closed v.but ≡ false → ⊥ = λ led live. true≢false (sym (open_call_from n v.but (λ q. true≢false (sym led ∙ (ap s.led q ∙ p.keeps.none))) (p.shows.live v.but led live).0) ∙ shut) in
    record {
      seen = m.seen;
      heard = m.heard;
      own = m.own;
      begun = m.begun;
      leads = m.leads;
      ticket = m.ticket;
      last = m.last;
      look = record {
        top = m.look.top;
        but = m.look.but;
        clear = λ yes k unmet led live. absurd (dead led live);
        dead = λ yes k led live. absurd (dead led live);
        half = m.look.half;
        told = m.look.told;
        gone = m.look.gone;
      };
      walk = λ yes. let walk = m.walk yes in record {
        walked = walk.walked;
        other = at_top (IsForeign s v.names) v.but v.top v.other (λ k unmet led live. absurd (dead led live)) walk.other;
        saved = at_top (λ e. s.led e ≡ true → s.closed e ≡ false → IsAside (layout_of z) s v.slot 0 e) v.but v.top v.saved (λ led live. absurd (dead led live)) walk.saved;
      };
    })) (λ n c. same_stake (is_open_call n me.0.but) (met_open me.0 n) (met_closed me.0 n) c refl)

pub looks_at_cell : (z : KeyedSizes) (slots id i : ℕ) (me : Me ℕ View) → Allows (Holds z) slots id me i (λ n. n) (λ n after. after.0 ≡ look_cell me.0 i n)
looks_at_cell z slots id i me = loads z slots id i me (look_cell me.0 i) (λ t p m. record { seen = m.seen; heard = m.heard; look = m.look; walk = m.walk; own = m.own; begun = m.begun; leads = m.leads; ticket = m.ticket; last = m.last }) (λ n c. refl)

pub reads_low : (z : KeyedSizes) (slots id : ℕ) (me : Me ℕ View)
    → Allows (Holds z) slots id me (name_at z me.0.but) (λ n. n) (λ n after. after.0 ≡ read_low me.0 n)
reads_low z slots id me = loads z slots id (name_at z me.0.but) me (read_low me.0) (λ t p m.
    let v = me.0 in
    let s = p.words in
    record {
      seen = m.seen;
      heard = m.heard;
      own = m.own;
      begun = m.begun;
      leads = m.leads;
      ticket = m.ticket;
      last = m.last;
      look = record {
        top = m.look.top;
        but = m.look.but;
        clear = m.look.clear;
        dead = m.look.dead;
        half = λ yes k isnt led live key. isnt (sym ((p.shows.live v.but led live).1.low ∙ ap (λ n. n % 18446744073709551616) key));
        told = m.look.told;
        gone = m.look.gone;
      };
      walk = m.walk;
    }) (λ n c. refl)

pub reads : (z : KeyedSizes) (slots id : ℕ) (me : Me ℕ View) → me.0.half ≡ true
    → Allows (Holds z) slots id me (high_at z me.0.but) (λ n. n) (λ n after. after.0 ≡ read_high me.0 n)
reads z slots id me half = loads z slots id (high_at z me.0.but) me (read_high me.0) (λ t p m.
    let v = me.0 in
    let s = p.words in
    let up : ℕ = slice_index t.words (high_at z v.but) in
    let n : ℕ = both v.low up in
    let told : (k : ℕ) → k ≢ n → IsOther s k v.but = λ k isnt led live key.
    let high : up ≡ k / 18446744073709551616 = (p.shows.live v.but led live).1.high ∙ ap (λ q. q / 18446744073709551616) key in
    dite (ℕ_discrete (k % 18446744073709551616) v.low)
    (λ low. isnt (omega (arith, high, low)))
    (λ other. m.look.half half k other led live key) in
    let parts : (k : ℕ) → Unmet (n ∷ v.names) k → (eqb n k ≡ false) × Unmet v.names k = λ k unmet. or_parts (eqb n k) (list_any (λ x. eqb x k) v.names) unmet in
    let clear : IsForeign s (n ∷ v.names) v.but = λ k unmet. told k (λ is. true≢false (sym (eq-eqb n k (sym is)) ∙ (parts k unmet).0)) in
    record {
      seen = m.seen;
      heard = m.heard;
      own = m.own;
      begun = m.begun;
      leads = m.leads;
      ticket = m.ticket;
      last = m.last;
      look = record {
        top = m.look.top;
        but = m.look.but;
        clear = λ yes. clear;
        dead = m.look.dead;
        half = m.look.half;
        told = λ yes. told;
        gone = m.look.gone;
      };
      walk = λ yes. let walk = m.walk yes in record {
        walked = λ k slot unmet. walk.walked k slot (parts k unmet).1;
        other = at_top (IsForeign s (n ∷ v.names)) v.but v.top v.other clear (λ is k unmet. walk.other is k (parts k unmet).1);
        saved = walk.saved;
      };
    }) (λ n c. refl)

-- an exchange of a word to what it is already
abbrev Numbered : (z : KeyedSizes) (id i number : ℕ) (me : Me ℕ View) (t : State ℕ View) → ℕ → Type 0
Numbered z id i number me t x = (w : View) × (a : _) × Valid t.homes me.1 a × Holds z (stepped t i x id me.1 w a) × (w ≡ numbered me.0 number)

pub numbers_allowed : (z : KeyedSizes) (slots id i number : ℕ) (me : Me ℕ View)
    → Allows (Holds z) slots id me i (λ n. either (eqb n number) number n) (λ n after. after.0 ≡ numbered me.0 number)
numbers_allowed z slots id i number me t p len is fits =
    let m = p.seats id me.0 is in
    let w : View = numbered me.0 number in
    let stays : Numbered z id i number me t (slice_index t.words i) = (w, keeps, tt, still z t p id i me w is (λ c. refl) (record { seen = m.seen; heard = m.heard; look = m.look; walk = m.walk; own = m.own; begun = m.begun; leads = m.leads; ticket = m.ticket; last = m.last }), refl) in
    exchanged (slice_index t.words i) number number (Numbered z id i number me t) (λ same. subst (Numbered z id i number me t) same stays) (λ other. stays)
